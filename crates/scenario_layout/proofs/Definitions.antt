-- The layout of definitions is exact, and which definitions have bytes.
use Rattle.std.proofs.Common.{◌≡◌, ℕ, zero, suc, ◌<◌, Bool, true, false, List, refl, ap, ◌∙◌, inl, inr, arith}
use Rattle.std.proofs.Common.{lit<}
use Rattle.std.specs.Prelude.{nat_lt, ◌==◌, ◌&&◌, ◌||◌}
use Rattle.std.specs.List.{list_all}
use Rattle.std.specs.Int.{w8, w16}
use Rattle.std.proofs.lemmas.Bool.{ltb-true, eqb-true, and_parts, or_cases}
use Rattle.byte_layout.specs.declared.fault.Break.TheVariants.{BadField}
use Rattle.byte_layout.specs.Layout.{Layout, number, layout_with_test, at_most, split, last}
use Rattle.byte_layout.specs.Exact.{IsExact}
use Rattle.byte_layout.proofs.Fields.{number_good, byte_exact, short_exact}
use Rattle.byte_layout.proofs.Layouts.{fits_exact, at_most_exact, split_exact, last_exact}
use Rattle.byte_layout.proofs.Lists.{counted_exact}
use Rattle.object_defs.specs.declared.definition.Ops.{Ops}
use Rattle.object_defs.specs.declared.definition.Ops.TheVariants.{R, W, RW, E}
use Rattle.object_defs.specs.declared.definition.ResourceDef.{ResourceDef}
use Rattle.scenario_layout.specs.Value.{kind}
use Rattle.scenario_layout.specs.Definition.{ops, ops_number, ops_numbered, flags_of, flags_fit, kind_fits, definition}
use Rattle.scenario_layout.specs.Definition.{behind_id, resource, resources}
use Rattle.scenario_layout.proofs.ExactValue.{kind_exact}
use Rattle.scenario_layout.proofs.GoodValue.{kind_good}

ops_again : (n : ℕ) → 0 < n → n < 5 → ops_number (ops_numbered n) ≡ n
ops_again zero above below = absurd (omega arith)
ops_again (suc zero) above below = refl
ops_again (suc (suc zero)) above below = refl
ops_again (suc (suc (suc zero))) above below = refl
ops_again (suc (suc (suc (suc zero)))) above below = refl
ops_again (suc (suc (suc (suc (suc n))))) above below = absurd (omega arith)

ops_known : (n : ℕ) → (nat_lt 0 n && nat_lt n 5) ≡ true → ops_number (ops_numbered n) ≡ n
ops_known n e = let t = and_parts (nat_lt 0 n) (nat_lt n 5) e in ops_again n (ltb-true 0 n t.0) (ltb-true n 5 t.1)

ops_exact : IsExact ops
unfolding ops
ops_exact =
    last_exact ops_number ops_numbered (layout_with_test BadField (λ n. nat_lt 0 n && nat_lt n 5) (number w8))
    (fits_exact (λ n. nat_lt 0 n && nat_lt n 5) (number w8) byte_exact)
    (λ n good. ops_known n good.1)

flags_below : (o : Ops) (n : ℕ) → flags_fit o n ≡ true → n < 4
flags_below R n e = ltb-true n 4 e
flags_below W n e = ltb-true n 4 e
flags_below RW n e = ltb-true n 4 e
flags_below E n e =
    elim (or_cases (n == 0) (n == 2) e) [
      | inl h ↦ (let is : n ≡ 0 = eqb-true n 0 h in omega arith)
      | inr h ↦ (let is : n ≡ 2 = eqb-true n 2 h in omega arith)
    ]

flags_again : (n : ℕ) → n < 4 → flags_of (n == 1 || n == 3) (nat_lt 1 n) ≡ n
flags_again zero below = refl
flags_again (suc zero) below = refl
flags_again (suc (suc zero)) below = refl
flags_again (suc (suc (suc zero))) below = refl
flags_again (suc (suc (suc (suc n)))) below = absurd (omega arith)

-- after the operations, and after the flags
abbrev flags_and_kind : ℕ → Ops → Layout ResourceDef
flags_and_kind n o =
    split (λ r. flags_of r.multiple r.mandatory) (layout_with_test BadField (flags_fit o) (number w8))
    (λ flags. last (λ r. r.kind) (definition n o flags) (layout_with_test BadField (kind_fits o) kind))

flags_and_kind_exact : (n : ℕ) (o : Ops) → IsExact (flags_and_kind n o)
flags_and_kind_exact n o =
    split_exact (λ r. flags_of r.multiple r.mandatory) (layout_with_test BadField (flags_fit o) (number w8))
    (λ flags. last (λ r. r.kind) (definition n o flags) (layout_with_test BadField (kind_fits o) kind))
    (fits_exact (flags_fit o) (number w8) byte_exact)
    (λ flags good. last_exact (λ r. r.kind) (definition n o flags) (layout_with_test BadField (kind_fits o) kind)
    (fits_exact (kind_fits o) kind kind_exact) (λ k ok. refl))
    (λ flags good r h. ap (λ d. flags_of d.multiple d.mandatory) h.1 ∙ flags_again flags (flags_below o flags good.1))

behind_id_exact : (n : ℕ) → IsExact (behind_id n)
behind_id_exact n =
    split_exact (λ r. r.ops) ops (flags_and_kind n) ops_exact (λ o good. flags_and_kind_exact n o)
    (λ o good r h. ap (λ d. d.ops) h.1.1)

pub resource_exact : (before : List ResourceDef) → IsExact (resource before)
unfolding resource
resource_exact before =
    split_exact (λ r. r.id) (layout_with_test BadField (λ n. list_all (λ r. nat_lt r.id n) before) (number w16))
    behind_id
    (fits_exact (λ n. list_all (λ r. nat_lt r.id n) before) (number w16) short_exact)
    (λ n good. behind_id_exact n)
    (λ n good r h. ap (λ d. d.id) h.1.1.1)

pub resources_exact : IsExact resources
unfolding resources
resources_exact =
    counted_exact (at_most 64 (number w8)) resource (at_most_exact 64 (number w8) byte_exact) resource_exact

-- ---- which have bytes

ops_good : (o : Ops) → ops.Good o
unfolding ops
ops_good R = ((number_good w8 1 (omega arith), refl), refl)
ops_good W = ((number_good w8 2 (omega arith), refl), refl)
ops_good RW = ((number_good w8 3 (omega arith), refl), refl)
ops_good E = ((number_good w8 4 (omega arith), refl), refl)

flags_small : (m d : Bool) → flags_of m d < 256
flags_small true true = lit< tt
flags_small true false = lit< tt
flags_small false true = lit< tt
flags_small false false = lit< tt

same_multiple : (m d : Bool) → m ≡ (flags_of m d == 1 || flags_of m d == 3)
same_multiple true true = refl
same_multiple true false = refl
same_multiple false true = refl
same_multiple false false = refl

same_mandatory : (m d : Bool) → d ≡ nat_lt 1 (flags_of m d)
same_mandatory true true = refl
same_mandatory true false = refl
same_mandatory false true = refl
same_mandatory false false = refl

same_definition : (r : ResourceDef) → r ≡ definition r.id r.ops (flags_of r.multiple r.mandatory) r.kind
same_definition r =
    let make : Bool → Bool → ResourceDef =
    λ m d. record { id = r.id; ops = r.ops; multiple = m; mandatory = d; kind = r.kind } in
    ap (λ m. make m r.mandatory) (same_multiple r.multiple r.mandatory)
    ∙ ap (make (flags_of r.multiple r.mandatory == 1 || flags_of r.multiple r.mandatory == 3))
    (same_mandatory r.multiple r.mandatory)

pub resource_good : (before : List ResourceDef) (r : ResourceDef) → r.id < 65536
    → list_all (λ q. nat_lt q.id r.id) before ≡ true → flags_fit r.ops (flags_of r.multiple r.mandatory) ≡ true
    → kind_fits r.ops r.kind ≡ true → (resource before).Good r
unfolding resource
resource_good before r id above flags k = (
  (number_good w16 r.id id, above),
  (
    ops_good r.ops,
    (
      (number_good w8 (flags_of r.multiple r.mandatory) (flags_small r.multiple r.mandatory), flags),
      ((kind_good r.kind, k), same_definition r),
    ),
  ),
)
