-- A finding at a place, by the test of its rule.
use Rattle.std.proofs.Common.{◌≡◌, ℕ, zero, suc, ◌+◌, ◌-◌, ◌≤◌, ◌↔◌, Bool, true, List, [], ◌∷◌, length, get_or, take}
use Rattle.std.proofs.Common.{drop, refl, sym, ap, ◌∙◌, arith}
use Rattle.std.specs.Prelude.{Some, slice_get}
use Rattle.std.specs.List.{Contains}
use Rattle.server_lint.specs.declared.rule.Rule.{Rule}
use Rattle.server_lint.specs.Findings.{IsFinding}
use Rattle.server_lint.specs.History.{Transmission}
use Rattle.server_lint.specs.Inside.{breaks}
use Rattle.server_lint.proofs.Broken.{broken, breaking}

head : (place : ℕ) (h : List Transmission) (x : Transmission) (xs : List Transmission) → x ∷ xs ≡ drop place h
    → slice_get h place ≡ Some x
head zero [] x xs e = cc
head (suc place) [] x xs e = cc
head zero (y ∷ h) x xs e = cc
head (suc place) (y ∷ h) x xs e = head place h x xs e

tail : (place : ℕ) (h : List Transmission) (x : Transmission) (xs : List Transmission) → x ∷ xs ≡ drop place h
    → xs ≡ drop (suc place) h
tail zero [] x xs e = cc
tail (suc place) [] x xs e = cc
tail zero (y ∷ h) x xs e = cc
tail (suc place) (y ∷ h) x xs e = tail place h x xs e

whole : (xs : List Transmission) (n : ℕ) → n ≡ length xs → take n xs ≡ xs
whole [] zero e = refl
whole [] (suc n) e = absurd (omega arith)
whole (x ∷ xs) zero e = absurd (omega arith)
whole (x ∷ xs) (suc n) e = ap (λ l. x ∷ l) (whole xs n (omega arith))

pub found_here : (chosen : List Rule) (history : List Transmission) (end place : ℕ) (rule : Rule) (t : Transmission)
    (b : Bool) (before rest : List Transmission) → before ≡ take place history → rest ≡ drop place history
    → 1 ≤ length rest → t ≡ get_or rest 0 t
    → b ≡ breaks rule before t (take (length rest - 1) (drop 1 rest)) end → Contains chosen rule
    → (b ≡ true) ↔ IsFinding chosen history end (record { place = place; rule = rule })
found_here chosen history end place rule t b before [] front back some first is chose = absurd (omega arith)
found_here chosen history end place rule t b before (x ∷ xs) front back some first is chose =
    let all : take (length (x ∷ xs) - 1) xs ≡ xs = whole xs (length (x ∷ xs) - 1) (omega arith) in
    let more : suc place ≡ place + 1 = omega arith in
    let behind : xs ≡ drop (place + 1) history = tail place history x xs back ∙ ap (λ n. drop n history) more in
    let stands : slice_get history place ≡ Some x = head place history x xs back in
    let so : b ≡ breaks rule (take place history) x (drop (place + 1) history) end =
    is ∙ ap (λ l. breaks rule l t (take (length (x ∷ xs) - 1) xs) end) front
    ∙ ap (λ y. breaks rule (take place history) y (take (length (x ∷ xs) - 1) xs) end) first
    ∙ ap (λ l. breaks rule (take place history) x l end) (all ∙ behind) in (
      λ h. record {
        chose = chose;
        this = x;
        stands = stands;
        broken = broken rule (take place history) x (drop (place + 1) history) end (sym so ∙ h);
      },
      λ f.
          let same : f.this ≡ x = let e : Some f.this ≡ Some x = sym f.stands ∙ stands in cc in
          so ∙ ap (λ y. breaks rule (take place history) y (drop (place + 1) history) end) (sym same)
          ∙ breaking rule (take place history) f.this (drop (place + 1) history) end f.broken,
    )
