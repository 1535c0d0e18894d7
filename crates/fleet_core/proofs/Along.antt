-- Lists along which a relation holds.
use Rattle.std.proofs.Common.{List, [], ◌∷◌, ◌++◌, sym, subst}
use Rattle.std.proofs.lemmas.List.{append-nil, append_assoc}
use Rattle.fleet_core.specs.Along.{Along}

pub along-append : {X : Type 0} (P : List X → X → Type 0) (b xs ys : List X) → Along P b xs → Along P (b ++ xs) ys
    → Along P b (xs ++ ys)
along-append P b [] ys h k = subst (λ l. Along P l ys) (append-nil b) k
along-append P b (x ∷ xs) ys h k =
    (h.0, along-append P (b ++ x ∷ []) xs ys h.1 (subst (λ l. Along P l ys) (sym (append_assoc b (x ∷ []) xs)) k))

pub along-left : {X : Type 0} (P : List X → X → Type 0) (b xs ys : List X) → Along P b (xs ++ ys) → Along P b xs
along-left P b [] ys h = tt
along-left P b (x ∷ xs) ys h = (h.0, along-left P (b ++ x ∷ []) xs ys h.1)

pub along-right : {X : Type 0} (P : List X → X → Type 0) (b xs ys : List X) → Along P b (xs ++ ys)
    → Along P (b ++ xs) ys
along-right P b [] ys h = subst (λ l. Along P l ys) (sym (append-nil b)) h
along-right P b (x ∷ xs) ys h =
    subst (λ l. Along P l ys) (append_assoc b (x ∷ []) xs) (along-right P (b ++ x ∷ []) xs ys h.1)

pub along_weaker : {X : Type 0} (P Q : List X → X → Type 0) → ((b : List X) (x : X) → P b x → Q b x) → (b xs : List X)
    → Along P b xs → Along Q b xs
along_weaker P Q f b [] h = tt
along_weaker P Q f b (x ∷ xs) h = (f b x h.0, along_weaker P Q f (b ++ x ∷ []) xs h.1)

-- what each element that stands in the relation keeps, the whole list keeps
pub along_keeps : {X : Type 0} (P : List X → X → Type 0) (Q : List X → Type 0)
    → ((b : List X) (x : X) → Q b → P b x → Q (b ++ x ∷ []))
    → (b xs : List X) → Q b → Along P b xs → Q (b ++ xs)
along_keeps P Q f b [] q h = subst Q (sym (append-nil b)) q
along_keeps P Q f b (x ∷ xs) q h =
    subst Q (append_assoc b (x ∷ []) xs) (along_keeps P Q f (b ++ x ∷ []) xs (f b x q h.0) h.1)
