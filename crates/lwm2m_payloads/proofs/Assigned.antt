-- What a record is found to give before its fault is told.
use Rattle.std.proofs.Common.{◌≡◌, ℕ, ◌==◌, Bool, true, false, cond, List, [], ◌∷◌, Option, None, Some, Result, Ok, Err}
use Rattle.std.proofs.Common.{refl, sym, ap, ◌∙◌, if◌then◌else◌}
use Rattle.std.proofs.lemmas.Bool.{eqb-true}
use Rattle.object_defs.specs.Catalog.{resource_in}
use Rattle.object_defs.specs.declared.definition.ResourceDef.{ResourceDef}
use Rattle.lwm2m_values.specs.Tree.{Tree, Trees}
use Rattle.lwm2m_payloads.specs.declared.fault.PayloadFault.{PayloadFault}
use Rattle.lwm2m_payloads.specs.declared.fault.RecordFault.{RecordFault}
use Rattle.lwm2m_payloads.specs.declared.fault.RecordFault.TheVariants as record_fault
use Rattle.lwm2m_payloads.specs.declared.given.Given.{Given}
use Rattle.lwm2m_payloads.specs.declared.given.Purpose.{Purpose}
use Rattle.lwm2m_payloads.specs.Building.{assigned_to}
use Rattle.lwm2m_payloads.specs.Given.{assigned_as, at_record, given_by, has_number, may_be_given, number_in, record_in}
use Rattle.lwm2m_payloads.specs.Given.{unless}
use Rattle.lwm2m_payloads.specs.Results.{result_map}

found_at : (d : ResourceDef) (rest : Option ResourceDef) (n : ℕ) (b : Bool) (e : ResourceDef) → (d.id == n) ≡ b
    → (rest ≡ Some e → e.id ≡ n) → cond b (Some d) rest ≡ Some e → e.id ≡ n
found_at d rest n true e is h found =
    ap (λ (o : Option ResourceDef). elim o [ None ↦ d.id | Some f ↦ f.id ]) (sym found) ∙ eqb-true d.id n is
found_at d rest n false e is h found = h found

-- a definition that is found has the number
pub found : (resources : List ResourceDef) (n : ℕ) (d : ResourceDef) → resource_in resources n ≡ Some d → d.id ≡ n
found [] n d h = absurd cc
found (e ∷ resources) n d h = found_at e (resource_in resources n) n (e.id == n) d refl (found resources n d) h

-- the resource of the definition is that of the record's number
renamed : (place n : ℕ) (d : ResourceDef) (twice : Bool) (r : Result Given RecordFault) → d.id ≡ n
    → assigned_to n (at_record place n (unless twice record_fault.Twice r))
    ≡ at_record place n (unless twice record_fault.Twice (result_map (λ g. record { resource = d.id; given = g }) r))
renamed place n d true (Ok g) e = refl
renamed place n d false (Ok g) e = ap (λ k. Ok (record { resource = k; given = g })) (sym e)
renamed place n d twice (Err f) e = refl

-- what is given where the number stands once, or twice
pub assigned : (purpose : Purpose) (resources : List ResourceDef) (place : ℕ) (node : Tree) (others : Trees)
    (d : ResourceDef) (twice : Bool) (g : Result Given PayloadFault) → resource_in resources (number_in node) ≡ Some d
    → may_be_given purpose d.ops ≡ true → has_number (number_in node) others ≡ twice
    → g ≡ at_record place (number_in node) (unless twice record_fault.Twice (given_by d node))
    → assigned_to (number_in node) g ≡ record_in purpose resources place node others
assigned purpose resources place node others d twice g is may some told =
    ap (assigned_to (number_in node)) told
    ∙ renamed place (number_in node) d twice (given_by d node) (found resources (number_in node) d is)
    ∙ sym (ap (λ b. at_record place (number_in node) (unless b record_fault.Twice
    (assigned_as purpose node (resource_in resources (number_in node))))) some
    ∙ ap (λ o. at_record place (number_in node) (unless twice record_fault.Twice (assigned_as purpose node o))) is
    ∙ ap (λ b. at_record place (number_in node) (unless twice record_fault.Twice
    (if b then result_map (λ g. record { resource = d.id; given = g }) (given_by d node)
    else Err (record_fault.Operations d.ops)))) may)

-- a record without a fault of its own
pub once : {A : Type 0} (place n : ℕ) (r : Result A RecordFault)
    → at_record place n r ≡ at_record place n (unless false record_fault.Twice r)
once place n (Ok a) = refl
once place n (Err f) = refl
