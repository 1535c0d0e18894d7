-- Lists of requests that have the same members, and what is found in them.
use Rattle.std.proofs.Common.{◌≡◌, ℕ, zero, suc, ◌==◌, Bool, true, false, true≢false, ◌&&◌, List, [], ◌∷◌, ◌++◌}
use Rattle.std.proofs.Common.{Option, None, Some, filter, find, refl, sym, ap, subst, ◌∙◌, ◌⊎◌, inl, inr, arith}
use Rattle.std.specs.List.{AllByRecursion, Contains, IsDistinct}
use Rattle.std.specs.Map.{keys_of, values_of}
use Rattle.std.proofs.lemmas.Bool.Decides.{nat_tests}
use Rattle.std.proofs.lemmas.List.Elements.{Contains-append_left, Contains-append_right}
use Rattle.std.proofs.lemmas.Option.{none-some, same_Some}
use Rattle.coap_codec.specs.Message.{kind_number}
use Rattle.coap_codec.specs.declared.kind.Kind.{Kind}
use Rattle.device_machine.specs.Records.{HasOwnKey, HaveOwnKeys, has_key, is_same_key}
use Rattle.device_machine.specs.State.{HaveSameMembers}
use Rattle.device_machine.specs.declared.recorded.Recorded.{Recorded}
use Rattle.device_machine.specs.declared.records.RecordKey.{RecordKey}
use Rattle.device_machine.proofs.Recalled.{filter-false, filter-true, find-false, find-true, found-none, others}

-- ---- members

-- a member is the first, or one of the rest
either : {X : Type 0} (y : X) (ys : List X) (x : X) → Contains (y ∷ ys) x → (y ≡ x) ⊎ Contains ys x
either y ys x (zero, inside, is) = inl is
either y ys x (suc k, inside, is) = inr (k, omega (arith, inside), is)

first : {X : Type 0} (y : X) (ys : List X) (x : X) → y ≡ x → Contains (y ∷ ys) x
first y ys x is = (0, omega arith, is)

later : {X : Type 0} (y : X) (ys : List X) (x : X) → Contains ys x → Contains (y ∷ ys) x
later y ys x (k, inside, is) = (suc k, omega (arith, inside), is)

-- one that passes is among those that pass
passes : {X : Type 0} (q : X → Bool) (xs : List X) (x : X) → Contains xs x → q x ≡ true → Contains (filter q xs) x
passes q [] x there keeps = absurd (omega (arith, there.1))
passes q (y ∷ ys) x there keeps = by (q y) refl (either y ys x there) (λ h. passes q ys x h keeps)
  where
    by : (b : Bool) → q y ≡ b → (y ≡ x) ⊎ Contains ys x → (Contains ys x → Contains (filter q ys) x)
        → Contains (filter q (y ∷ ys)) x
    by true e (inl is) rest = subst (λ t. Contains t x) (sym (filter-true q y ys e)) (first y (filter q ys) x is)
    by true e (inr h) rest = subst (λ t. Contains t x) (sym (filter-true q y ys e)) (later y (filter q ys) x (rest h))
    by false e (inl is) rest = absurd (true≢false (sym keeps ∙ (ap q (sym is) ∙ e)))
    by false e (inr h) rest = subst (λ t. Contains t x) (sym (filter-false q y ys e)) (rest h)

-- one that is among those that pass is a member that passes
passed : {X : Type 0} (q : X → Bool) (xs : List X) (x : X) → Contains (filter q xs) x
    → Contains xs x × (q x ≡ true)
passed q [] x there = absurd (omega (arith, there.1))
passed q (y ∷ ys) x there = by (q y) refl (passed q ys x)
  where
    at : q y ≡ true → (Contains (filter q ys) x → Contains ys x × (q x ≡ true)) → (y ≡ x) ⊎ Contains (filter q ys) x
        → Contains (y ∷ ys) x × (q x ≡ true)
    at e rest (inl is) = (first y ys x is, ap q (sym is) ∙ e)
    at e rest (inr h) = (later y ys x (rest h).0, (rest h).1)

    by : (b : Bool) → q y ≡ b → (Contains (filter q ys) x → Contains ys x × (q x ≡ true))
        → Contains (y ∷ ys) x × (q x ≡ true)
    by true e rest =
        at e rest (either y (filter q ys) x (subst (λ t. Contains t x) (filter-true q y ys e) there))
    by false e rest =
        let h = rest (subst (λ t. Contains t x) (filter-false q y ys e) there) in (later y ys x h.0, h.1)

of_append : {X : Type 0} (xs ys : List X) (x : X) → Contains (xs ++ ys) x → Contains xs x ⊎ Contains ys x
of_append [] ys x there = inr there
of_append (z ∷ zs) ys x there = by (either z (zs ++ ys) x there) (of_append zs ys x)
  where
    at : Contains zs x ⊎ Contains ys x → Contains (z ∷ zs) x ⊎ Contains ys x
    at (inl h) = inl (later z zs x h)
    at (inr h) = inr h

    by : (z ≡ x) ⊎ Contains (zs ++ ys) x → (Contains (zs ++ ys) x → Contains zs x ⊎ Contains ys x)
        → Contains (z ∷ zs) x ⊎ Contains ys x
    by (inl is) rest = inl (first z zs x is)
    by (inr h) rest = at (rest h)

grown : {X : Type 0} (xs ys zs : List X) (x : X) → (Contains xs x → Contains ys x) → Contains (xs ++ zs) x
    → Contains (ys ++ zs) x
grown xs ys zs x each there = by (of_append xs zs x there)
  where
    by : Contains xs x ⊎ Contains zs x → Contains (ys ++ zs) x
    by (inl h) = Contains-append_left ys zs x (each h)
    by (inr h) = Contains-append_right ys zs x h

-- the same ones more
pub same_appended : (xs ys zs : List Recorded) → HaveSameMembers xs ys → HaveSameMembers (xs ++ zs) (ys ++ zs)
unfolding HaveSameMembers
same_appended xs ys zs same = λ r. (grown xs ys zs r (same r).0, grown ys xs zs r (same r).1)

fewer : (p q : Recorded → Bool) → ((r : Recorded) → q r ≡ true → p r ≡ true) → (xs ys : List Recorded) (r : Recorded)
    → (Contains (filter p xs) r → Contains (filter p ys) r) → Contains (filter q xs) r → Contains (filter q ys) r
fewer p q weaker xs ys r each there =
    let is = passed q xs r there in
    passes q ys r (passed p ys r (each (passes p xs r is.0 (weaker r is.1)))).0 is.1

-- those that pass a stronger test
pub same_fewer : (p q : Recorded → Bool) → ((r : Recorded) → q r ≡ true → p r ≡ true) → (xs ys : List Recorded)
    → HaveSameMembers (filter p xs) (filter p ys) → HaveSameMembers (filter q xs) (filter q ys)
unfolding HaveSameMembers
same_fewer p q weaker xs ys same =
    λ r. (fewer p q weaker xs ys r (same r).0, fewer p q weaker ys xs r (same r).1)

-- equal lists have the same ones
pub same_equal : (xs ys : List Recorded) → xs ≡ ys → HaveSameMembers xs ys
unfolding HaveSameMembers
same_equal xs ys is = subst (HaveSameMembers xs) is (λ r. ((λ h. h), (λ h. h)))

-- ---- keys

pub own_filtered : (q : Recorded → Bool) (rs : List Recorded) → HaveOwnKeys rs → HaveOwnKeys (filter q rs)
own_filtered q [] own = tt
own_filtered q (r ∷ rs) own = by (q r) refl (own_filtered q rs own.1)
  where
    by : (b : Bool) → q r ≡ b → HaveOwnKeys (filter q rs) → HaveOwnKeys (filter q (r ∷ rs))
    by true e rest =
        subst HaveOwnKeys (sym (filter-true q r rs e)) (found-none (has_key r.server r.kind r.mid) q rs own.0, rest)
    by false e rest = subst HaveOwnKeys (sym (filter-false q r rs e)) rest

itself : (s m k : ℕ) → (s == s && (m == m && k == k)) ≡ true
itself s m k = grind (arith, nat_tests)

-- the requests of a map whose keys are theirs
pub own_values : (es : List (RecordKey × Recorded)) → AllByRecursion HasOwnKey es → IsDistinct is_same_key (keys_of es)
    → HaveOwnKeys (values_of es)
unfolding IsDistinct
own_values [] owns distinct = tt
own_values (e ∷ es) owns distinct = (
  others e.1.server e.1.kind e.1.mid e es owns.0 owns.1 (itself e.1.server e.1.mid (kind_number e.1.kind)) distinct.0,
  own_values es owns.1 distinct.1,
)

-- ---- what is found

found_is : (p : Recorded → Bool) (rs : List Recorded) (r : Recorded) → find p rs ≡ Some r
    → Contains rs r × (p r ≡ true)
found_is p [] r h = absurd (none-some r h)
found_is p (x ∷ xs) r h = by (p x) refl (found_is p xs r)
  where
    by : (b : Bool) → p x ≡ b → (find p xs ≡ Some r → Contains xs r × (p r ≡ true)) → Contains (x ∷ xs) r × (p r ≡ true)
    by true e rest =
        let is : x ≡ r = same_Some x r (sym (find-true p x xs e) ∙ h) in (first x xs r is, ap p (sym is) ∙ e)
    by false e rest = let in_rest = rest (sym (find-false p x xs e) ∙ h) in (later x xs r in_rest.0, in_rest.1)

none_is : (p : Recorded → Bool) (rs : List Recorded) (r : Recorded) → find p rs ≡ None → Contains rs r
    → p r ≡ true → ⊥
none_is p [] r h there has = omega (arith, there.1)
none_is p (x ∷ xs) r h there has = by (p x) refl (none_is p xs r)
  where
    at : p x ≡ false → (find p xs ≡ None → Contains xs r → p r ≡ true → ⊥) → (x ≡ r) ⊎ Contains xs r → ⊥
    at e rest (inl is) = true≢false (sym has ∙ (ap p (sym is) ∙ e))
    at e rest (inr t) = rest (sym (find-false p x xs e) ∙ h) t has

    by : (b : Bool) → p x ≡ b → (find p xs ≡ None → Contains xs r → p r ≡ true → ⊥) → ⊥
    by true e rest = none-some x (sym h ∙ find-true p x xs e)
    by false e rest = at e rest (either x xs r there)

-- two that have one key have each other's
one_key : (s m k a b c x y z : ℕ) → (a == s && (b == m && c == k)) ≡ true → (x == s && (y == m && z == k)) ≡ true
    → (x == a && (y == b && z == c)) ≡ true
one_key s m k a b c x y z h i = grind (arith, nat_tests)

shares : (server : ℕ) (kind : Kind) (mid : ℕ) (r s : Recorded) → has_key server kind mid r ≡ true
    → has_key server kind mid s ≡ true → has_key r.server r.kind r.mid s ≡ true
shares server kind mid r s h i =
    one_key server mid (kind_number kind) r.server r.mid (kind_number r.kind) s.server s.mid (kind_number s.kind) h i

-- a request that is of the first one's key is not in the rest
not_in_rest : (z : Recorded) (zs : List Recorded) (server : ℕ) (kind : Kind) (mid : ℕ) (r s : Recorded)
    → HaveOwnKeys (z ∷ zs) → z ≡ r → Contains zs s → has_key server kind mid r ≡ true → has_key server kind mid s ≡ true
    → ⊥
not_in_rest z zs server kind mid r s own is there h i =
    none_is (has_key z.server z.kind z.mid) zs s own.0 there
    (shares server kind mid z s (ap (has_key server kind mid) is ∙ h) i)

-- of one key there is one request
one_request : (rs : List Recorded) (server : ℕ) (kind : Kind) (mid : ℕ) (r s : Recorded) → HaveOwnKeys rs
    → Contains rs r → Contains rs s → has_key server kind mid r ≡ true → has_key server kind mid s ≡ true → r ≡ s
one_request [] server kind mid r s own here there h i = absurd (omega (arith, here.1))
one_request (z ∷ zs) server kind mid r s own here there h i =
    by (either z zs r here) (either z zs s there) (λ a b. one_request zs server kind mid r s own.1 a b h i)
  where
    by : (z ≡ r) ⊎ Contains zs r → (z ≡ s) ⊎ Contains zs s → (Contains zs r → Contains zs s → r ≡ s) → r ≡ s
    by (inl a) (inl b) rest = sym a ∙ b
    by (inl a) (inr b) rest = absurd (not_in_rest z zs server kind mid r s own a b h i)
    by (inr a) (inl b) rest = absurd (not_in_rest z zs server kind mid s r own b a i h)
    by (inr a) (inr b) rest = rest a b

-- where no two have one key, what is found by a key does not depend on the order
pub same_found : (server : ℕ) (kind : Kind) (mid : ℕ) (rs ss : List Recorded) → HaveOwnKeys rs → HaveSameMembers rs ss
    → find (has_key server kind mid) rs ≡ find (has_key server kind mid) ss
unfolding HaveSameMembers
same_found server kind mid rs ss own same = by (find p rs) refl (find p ss) refl
  where
    p : Recorded → Bool
    p = has_key server kind mid

    by : (a : Option Recorded) → find p rs ≡ a → (b : Option Recorded) → find p ss ≡ b → a ≡ b
    by None e None f = refl
    by None e (Some s) f =
        let is = found_is p ss s f in absurd (none_is p rs s e ((same s).1 is.0) is.1)
    by (Some r) e None f =
        let is = found_is p rs r e in absurd (none_is p ss r f ((same r).0 is.0) is.1)
    by (Some r) e (Some s) f =
        let one = found_is p rs r e in
        let other = found_is p ss s f in
        ap Some (one_request rs server kind mid r s own one.0 ((same s).1 other.0) one.1 other.1)
