-- What a Write of a part changes.
use Rattle.std.proofs.Common.{◌≡◌, ◌≢◌, ℕ, Bool, true, false, cond, List, [], ◌∷◌, Option, None, Some, Ok, refl, ap, ◌∙◌}
use Rattle.std.specs.Bool.{if◌then◌else◌}
use Rattle.std.specs.Cmp.{eq_by_cmp_equiv}
use Rattle.lwm2m_values.specs.declared.value.Value.{Value}
use Rattle.object_defs.specs.Catalog.{definition_of}
use Rattle.object_defs.specs.Operations.{can_read}
use Rattle.object_defs.specs.Path.{part_of}
use Rattle.object_defs.specs.declared.definition.ResourceDef.{ResourceDef}
use Rattle.object_defs.specs.declared.path.FullPath.{FullPath}
use Rattle.object_defs.specs.declared.path.Path.TheVariants.{Part}
use Rattle.object_defs.proofs.PathOrder.{path_total}
use Rattle.instance_store.specs.Stored.{Stored, value_at, with_value}
use Rattle.instance_store.proofs.SetValues.{value_after, value_elsewhere}
use Rattle.lwm2m_payloads.specs.Given.{part_given}
use Rattle.lwm2m_payloads.specs.declared.format.Format.{Format}
use Rattle.lwm2m_payloads.specs.declared.given.Given.{Given}
use Rattle.lwm2m_payloads.specs.declared.given.Given.TheVariants.{Parts}
use Rattle.lwm2m_payloads.specs.declared.given.Mode.{Mode}
use Rattle.device_requests.specs.Client.{Client}
use Rattle.device_requests.specs.Targets.{resource_place}
use Rattle.device_requests.specs.Write.{given_to_part}
use Rattle.laws_requests.specs.Writes.{PartsAreWritten}
use Rattle.laws_requests.proofs.PartBack.{gives_part, part_good}
use Rattle.laws_requests.proofs.Writing.{comes, leaves}

is_defined : (d : Option ResourceDef) (n : ℕ) (f : Format) (payload : List ℕ) (g : Given)
    → given_to_part d n f payload ≡ Ok g
    → (x : ResourceDef) × (d ≡ Some x) × (part_given x n f payload ≡ Ok g)
is_defined None n f payload g h = cc
is_defined (Some d) n f payload g h = (d, refl, h)

part_leaves : (client : Client) (mode : Mode) (o i r n : ℕ) (payload : List ℕ) (f : Format) (d : ResourceDef)
    (value : Value)
    → given_to_part (definition_of client.catalog o r) n f payload ≡ Ok (Parts ((n, value) ∷ []))
    → definition_of client.catalog o r ≡ Some d
    → leaves client mode (Part o i r n) payload (Some f)
    ≡ (if can_read d.ops then with_value client.store (part_of (resource_place o i r) n) value else client.store)
part_leaves client mode o i r n payload f d value h k = rw (h, k) refl

value_there : (b : Bool) (s : Stored) (p : FullPath) (v : Value)
    → value_at (if b then with_value s p v else s) p ≡ (if b then Some v else value_at s p)
value_there true s p v =
    value_after s p p v ∙ ap (λ (b : Bool). cond b (Some v) (value_at s p)) ((eq_by_cmp_equiv path_total).refl p)
value_there false s p v = refl

others_stay : (b : Bool) (s : Stored) (p q : FullPath) (v : Value) → q ≢ p
    → value_at (if b then with_value s p v else s) q ≡ value_at s q
others_stay true s p q v other = value_elsewhere s p q v other
others_stay false s p q v other = refl

pub parts_written : PartsAreWritten
parts_written client server mode o i r n number payload h =
    let p = part_of (resource_place o i r) n in
    let c = comes client server mode (Part o i r n) number payload h in
    let g = part_good client o i r n payload c.format
    (given_to_part (definition_of client.catalog o r) n c.format payload) refl c.good in
    let d = is_defined (definition_of client.catalog o r) n c.format payload g.0 g.1 in
    let v = gives_part d.0 n c.format payload g.0 d.2 in
    let one = ap (λ (x : Given). Ok x) v.1 in
    let is = c.is ∙ part_leaves client mode o i r n payload c.format d.0 v.0 (g.1 ∙ one) d.1 in
    record {
      definition = d.0;
      is_defined = d.1;
      format = c.format;
      served = c.served;
      value = v.0;
      gives = d.2 ∙ one;
      part = ap (λ (t : Stored). value_at t p) is ∙ value_there (can_read d.0.ops) client.store p v.0;
      others = λ q other. ap (λ (t : Stored). value_at t q) is
          ∙ others_stay (can_read d.0.ops) client.store p q v.0 other;
    }
