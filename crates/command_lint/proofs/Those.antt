-- Those elements of lists of which something holds.
use Rattle.std.proofs.Common.{List, [], ◌∷◌, ◌++◌, inl, inr, sym, ap, subst, map}
use Rattle.server_lint.specs.Findings.{AreThose}

-- of two lists, one after the other
pub those_append : {X : Type 0} (P : X → Type 0) (xs ys found more : List X) → AreThose P xs found
    → AreThose P ys more → AreThose P (xs ++ ys) (found ++ more)
those_append P [] ys found more h k = subst (AreThose P ys) (ap (λ l. l ++ more) (sym h)) k
those_append P (x ∷ xs) ys found more (inl h) k =
    inl (h.0, (h.1.0 ++ more, ap (λ l. l ++ more) h.1.1, those_append P xs ys h.1.0 more h.1.2 k))
those_append P (x ∷ xs) ys found more (inr h) k = inr (h.0, those_append P xs ys found more h.1 k)

-- of a list of which something is made
pub those_map : {X Y : Type 0} (f : X → Y) (P : Y → Type 0) (xs found : List X) → AreThose (λ x. P (f x)) xs found
    → AreThose P (map f xs) (map f found)
those_map f P [] found h = ap (map f) h
those_map f P (x ∷ xs) found (inl h) =
    inl (h.0, (map f h.1.0, ap (map f) h.1.1, those_map f P xs h.1.0 h.1.2))
those_map f P (x ∷ xs) found (inr h) = inr (h.0, those_map f P xs found h.1)
