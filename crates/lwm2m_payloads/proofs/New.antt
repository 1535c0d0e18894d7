-- Setting values takes memory for those alone that replace none.
use Rattle.std.proofs.Common.{◌≡◌, ℕ, suc, ◌==◌, Bool, true, false, not, ◌||◌, [], ◌∷◌, ◌++◌, length, nat_lt, None}
use Rattle.std.proofs.Common.{refl, sym, ap, ◌∙◌, arith, true≢false}
use Rattle.std.specs.Option.{is_some}
use Rattle.std.specs.List.{list_any}
use Rattle.std.proofs.lemmas.Bool.Decides.{nat_tests}
use Rattle.std.proofs.lemmas.List.Folds.{list_any-append}
use Rattle.std.proofs.lemmas.Bool.{or_parts}
use Rattle.lwm2m_values.specs.declared.value.Value.{Value}
use Rattle.object_defs.specs.Path.{part_of}
use Rattle.object_defs.specs.declared.path.ResourcePath.{ResourcePath}
use Rattle.instance_store.specs.Stored.{Stored, value_at, without_values, resource_path}
use Rattle.lwm2m_payloads.specs.declared.given.Given.TheVariants.{Parts}
use Rattle.lwm2m_payloads.specs.declared.given.Mode.TheVariants.{Replace, Update}
use Rattle.lwm2m_payloads.specs.Changes.{with_parts, gives_new}
use Rattle.lwm2m_payloads.specs.PartList.{PartList}
use Rattle.lwm2m_payloads.proofs.Room.{has_part, all_set}

pub later : (a b : Bool) → (a || (true || b)) ≡ true
later true b = refl
later false b = refl

-- a part that is new when its turn comes was new before
pub part_new : (stored : Stored) (p : ResourcePath) (parts done : PartList) (e : ℕ × Value) (rest : PartList)
    → parts ≡ done ++ e ∷ rest → value_at (with_parts stored p done) (part_of p e.0) ≡ None
    → gives_new Update stored p (Parts parts) ≡ true
part_new stored p parts done e rest is none =
    let test = λ (d : ℕ × Value). not (has_part stored p d.0) in
    let t = or_parts (list_any (λ d. d.0 == e.0) done) (has_part stored p e.0)
    (sym (all_set done stored p e.0) ∙ ap is_some none) in
    ap (list_any test) is ∙ list_any-append test done (e ∷ rest)
    ∙ ap (λ b. list_any test done || (not b || list_any test rest)) t.1
    ∙ later (list_any test done) (list_any test rest)

some : (n : ℕ) → nat_lt 0 (suc n) ≡ true
some n = grind (arith, nat_tests)

-- Replace removes the parts, so one that is new then is one given
pub some_new : (stored : Stored) (p : ResourcePath) (parts : PartList)
    → gives_new Update (without_values stored (resource_path p)) p (Parts parts) ≡ true
    → gives_new Replace stored p (Parts parts) ≡ true
some_new stored p [] h = absurd (true≢false (sym h))
some_new stored p (e ∷ parts) h = some (length parts)
