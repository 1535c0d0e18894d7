-- What is read from bytes is what they spell.
use Rattle.std.proofs.Common.{◌≡◌, ℕ, zero, suc, true, List, [], ◌∷◌, ◌++◌, Ok, refl, ap, ◌∙◌, arith}
use Rattle.std.specs.Prelude.{nat_lt}
use Rattle.std.specs.List.{list_all}
use Rattle.std.proofs.lemmas.Bool.{and_parts, ltb-true}
use Rattle.byte_layout.specs.Exact.{IsBytes, IsExact}
use Rattle.byte_layout.specs.Layout.{Layout}
use Rattle.byte_layout.specs.Whole.{IsAll}

-- a list of numbers that all pass the test is one of bytes
pub are_bytes : (bytes : List ℕ) → list_all (λ b. nat_lt b 256) bytes ≡ true → IsBytes bytes
are_bytes [] h i = omega arith
are_bytes (b ∷ bs) h zero = ltb-true b 256 (and_parts (nat_lt b 256) (list_all (λ b. nat_lt b 256) bs) h).0
are_bytes (b ∷ bs) h (suc i) = are_bytes bs (and_parts (nat_lt b 256) (list_all (λ b. nat_lt b 256) bs) h).1 i

append_nil : (xs : List ℕ) → xs ++ [] ≡ xs
append_nil [] = refl
append_nil (x ∷ xs) = ap (λ t. x ∷ t) (append_nil xs)

pub whole : {A : Type 0} (p : Layout A) (bytes : List ℕ) (a : A) → IsExact p
    → list_all (λ b. nat_lt b 256) bytes ≡ true → p.read bytes ≡ Ok (a, []) → IsAll p bytes a
whole p bytes a exact all h =
    let t = exact.taken bytes (are_bytes bytes all) a [] h in (t.0, t.1 ∙ append_nil (p.spell a))
