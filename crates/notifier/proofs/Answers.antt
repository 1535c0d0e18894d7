-- What the answers of several functions need.
use Rattle.std.proofs.Common.{◌≡◌, ◌∙◌, Bool, true, false, cond, List, [], ◌∷◌, ◌++◌, map, filter, Result, Ok, Err}
use Rattle.std.proofs.Common.{MatchResult, IfOk, IfErr, IsErrAnd, IsErrOf, IsOk, IsSome, OnErr, OnOk, Option, None, Some}
use Rattle.std.proofs.Common.{is_some, ap, refl, subst, sym, true≢false}

pub if_ok : {X E : Type 0} (r : Result X E) (P S : X → Type 0) (Q : E → Type 0) → MatchResult r P Q
    → ((x : X) → P x → S x) → IfOk r S
if_ok (Ok x) P S Q h k = k x h
if_ok (Err e) P S Q h k = tt

-- a fault that is handed on
pub handed : {X E : Type 0} (r : Result X E) (P : E → Type 0) (e : E) → IsErrAnd r (λ f. f ≡ e) → P e → IfErr r P
handed (Ok x) P e h p = absurd h
handed (Err f) P e h p = subst P (sym h) p

-- an error that is handed on is the one that came
pub same_fault : {X Y E : Type 0} (r : Result X E) (s : Result Y E) (e f : E) → IsErrAnd r (λ g. g ≡ e) → s ≡ Err e
    → IsErrOf r f → IsErrOf s f
same_fault (Ok x) s e f h came is = absurd h
same_fault (Err g) s e f h came is = let same : g ≡ f = cc in came ∙ ap Err (sym h ∙ same)

-- what is found of a list whose first passes is not nothing
pub one_found : {X Y : Type 0} (found : List Y) (f : X → Y) (test : X → Bool) (left rest : List X) (x : X)
    → left ≡ x ∷ rest → test x ≡ true → found ++ map f (filter test left) ≡ [] → ⊥
one_found [] f test left rest x is passes none =
    let first : f x ∷ map f (filter test rest) ≡ [] =
    sym (ap (λ xs. map f (filter test xs)) is
    ∙ ap (λ b. map f (cond b (x ∷ filter test rest) (filter test rest))) passes) ∙ none
    in
    cc
one_found (y ∷ ys) f test left rest x is passes none = cc

-- an option that is none
pub none_from : {X : Type 0} (o : Option X) → is_some o ≡ false → o ≡ None
none_from None h = refl
none_from (Some x) h = absurd (true≢false h)

-- what a clause on `Ok` says of a result that is one
pub at_ok : {X E : Type 0} (r : Result X E) (P : Type 0) (x : X) → OnOk r P → r ≡ Ok x → P
at_ok (Ok y) P x h is = h
at_ok (Err e) P x h is = cc

-- a call that fails only where there is nothing does not fail where there is something
pub ok_where_some : {X E Y : Type 0} (r : Result X E) (o : Option Y) → OnErr r (o ≡ None) → IsSome o → IsOk r
ok_where_some (Ok x) o h some = refl
ok_where_some (Err e) o h some = absurd (true≢false (sym some ∙ ap is_some h))
