-- The elements of a list of which something holds, when the list has one more.
use Rattle.std.proofs.Common.{List, [], ◌∷◌, ◌++◌, inl, inr, refl, ap}
use Rattle.server_lint.specs.Findings.{AreThose}

-- the element is one of them
pub one_more : {X : Type 0} (P : X → Type 0) (xs ys : List X) (x : X) → AreThose P xs ys → P x
    → AreThose P (xs ++ x ∷ []) (ys ++ x ∷ [])
one_more P [] ys x h p = inl (p, ([], ap (λ l. l ++ x ∷ []) h, refl))
one_more P (z ∷ xs) ys x (inl h) p =
    inl (h.0, (h.1.0 ++ x ∷ [], ap (λ l. l ++ x ∷ []) h.1.1, one_more P xs h.1.0 x h.1.2 p))
one_more P (z ∷ xs) ys x (inr h) p = inr (h.0, one_more P xs ys x h.1 p)

-- it is not
pub none_more : {X : Type 0} (P : X → Type 0) (xs ys : List X) (x : X) → AreThose P xs ys → (P x → ⊥)
    → AreThose P (xs ++ x ∷ []) ys
none_more P [] ys x h p = inr (p, h)
none_more P (z ∷ xs) ys x (inl h) p =
    inl (h.0, (h.1.0, h.1.1, none_more P xs h.1.0 x h.1.2 p))
none_more P (z ∷ xs) ys x (inr h) p = inr (h.0, none_more P xs ys x h.1 p)
