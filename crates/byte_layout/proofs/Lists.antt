-- Lists of exact parts are exact; and what is known of their items.
use Rattle.std.proofs.Common.{◌≡◌, ℕ, zero, suc, List, [], ◌∷◌, ◌++◌, length, take, Some, Result, Ok, Err, refl, sym}
use Rattle.std.proofs.Common.{ap, subst, ◌∙◌, append_assoc, inl, inr}
use Rattle.std.specs.List.{slice_get, flat_map}
use Rattle.std.proofs.lemmas.List.{append-nil}
use Rattle.std.proofs.lemmas.List.Concat.{flat_map-cons}
use Rattle.byte_layout.specs.declared.fault.Break.{Break}
use Rattle.byte_layout.specs.Layout.{Layout, ◌>>=◌, head_then_tail, each, list_with_count}
use Rattle.byte_layout.specs.Exact.{IsBytes, IsExact, left_of}
use Rattle.byte_layout.proofs.Steps.{ok_is, went_well, bind_ok, bind_err}
use Rattle.byte_layout.proofs.Layouts.{bytes_behind, le_behind, done_exact, split_exact}

-- the head is put before the tail that was read
abbrev joined : {A : Type 0} → A → Result (List A × List ℕ) Break → Result (List A × List ℕ) Break
joined a r = r >>= λ xs. Ok (a ∷ xs.0, xs.1)

linked_taken : {A : Type 0} (p : Layout A) (q : A → Layout (List A)) → IsExact p → ((a : A) → p.Good a → IsExact (q a))
    → (bytes : List ℕ) → IsBytes bytes → (xs : List A) (rest : List ℕ) → (head_then_tail p q).read bytes ≡ Ok (xs, rest)
    → (head_then_tail p q).Good xs × (bytes ≡ (head_then_tail p q).spell xs ++ rest)
linked_taken {A = A} p q first second bytes fits xs rest e =
    let s = bind_ok (p.read bytes) (λ x. joined x.0 ((q x.0).read x.1)) (xs, rest) e in
    let t = bind_ok ((q s.0.0).read s.0.1) (λ ys. Ok (s.0.0 ∷ ys.0, ys.1)) (xs, rest) s.2 in
    let f = first.taken bytes fits s.0.0 s.0.1 s.1 in
    let g = (second s.0.0 f.0).taken s.0.1 (bytes_behind bytes (p.spell s.0.0) s.0.1 fits f.1) t.0.0 t.0.1 t.1 in
    let made : List A × List ℕ = (s.0.0 ∷ t.0.0, t.0.1) in
    subst (λ (y : List A × List ℕ). (head_then_tail p q).Good y.0 × (bytes ≡ (head_then_tail p q).spell y.0 ++ y.1))
    (ok_is made (xs, rest) t.2) (
      (f.0, g.0),
      f.1 ∙ ap (λ r. p.spell s.0.0 ++ r) g.1
          ∙ sym (append_assoc (p.spell s.0.0) ((q s.0.0).spell t.0.0) t.0.1),
    )

linked_again : {A : Type 0} (p : Layout A) (q : A → Layout (List A)) → IsExact p → ((a : A) → p.Good a → IsExact (q a))
    → (xs : List A) (rest : List ℕ) → (head_then_tail p q).Good xs
    → (head_then_tail p q).read ((head_then_tail p q).spell xs ++ rest) ≡ Ok (xs, rest)
linked_again p q first second [] rest good = absurd good
linked_again {A = A} p q first second (a ∷ xs) rest good =
    let after = λ (x : A × List ℕ). joined x.0 ((q x.0).read x.1) in
    ap (λ t. p.read t >>= after) (append_assoc (p.spell a) ((q a).spell xs) rest)
    ∙ ap (λ r. r >>= after) (first.again a ((q a).spell xs ++ rest) good.0)
    ∙ ap (joined a) ((second a good.0).again xs rest good.1)

linked_broken : {A : Type 0} (p : Layout A) (q : A → Layout (List A)) → IsExact p → ((a : A) → p.Good a → IsExact (q a))
    → (bytes : List ℕ) → IsBytes bytes → (b : Break) → (head_then_tail p q).read bytes ≡ Err b
    → (head_then_tail p q).Breaks bytes b
linked_broken p q first second bytes fits b e =
    elim (bind_err (p.read bytes) (λ x. joined x.0 ((q x.0).read x.1)) b e) [
      | inl h ↦ inl (first.broken bytes fits b h)
      | inr s ↦
          let f = first.taken bytes fits s.0.0 s.0.1 s.1 in
          elim (bind_err ((q s.0.0).read s.0.1) (λ ys. Ok (s.0.0 ∷ ys.0, ys.1)) b s.2) [
            | inl k ↦ inr (
              s.0.0,
              s.0.1,
              f.0,
              f.1,
              (second s.0.0 f.0).broken s.0.1 (bytes_behind bytes (p.spell s.0.0) s.0.1 fits f.1) b k,
            )
            | inr k ↦ absurd (went_well (s.0.0 ∷ k.0.0, k.0.1) b k.2)
          ]
    ]

linked_refused : {A : Type 0} (p : Layout A) (q : A → Layout (List A)) → IsExact p
    → ((a : A) → p.Good a → IsExact (q a))
    → (bytes : List ℕ) (b : Break) → (head_then_tail p q).Breaks bytes b → (head_then_tail p q).read bytes ≡ Err b
linked_refused {A = A} p q first second bytes b h =
    let after = λ (x : A × List ℕ). joined x.0 ((q x.0).read x.1) in
    elim h [
      | inl k ↦ ap (λ r. r >>= after) (first.refused bytes b k)
      | inr k ↦ ap (λ r. r >>= after) (ap p.read k.3 ∙ first.again k.0 k.1 k.2)
          ∙ ap (joined k.0) ((second k.0 k.2).refused k.1 b k.4)
    ]

pub linked_exact : {A : Type 0} (p : Layout A) (q : A → Layout (List A)) → IsExact p
    → ((a : A) → p.Good a → IsExact (q a))
    → IsExact (head_then_tail p q)
linked_exact p q first second = record {
  taken = linked_taken p q first second;
  again = linked_again p q first second;
  broken = linked_broken p q first second;
  refused = linked_refused p q first second;
  within = λ bytes b h.
      elim h [
        | inl k ↦ first.within bytes b k
        | inr k ↦ le_behind (left_of b) bytes (p.spell k.0) k.1 k.3 ((second k.0 k.2).within k.1 b k.4)
      ];
}

pub each_exact : {A : Type 0} (part : List A → Layout A) → ((before : List A) → IsExact (part before))
    → (n : ℕ) (before : List A) → IsExact (each part n before)
unfolding each
each_exact part exact zero before = done_exact []
each_exact part exact (suc n) before =
    linked_exact (part before) (λ a. each part n (before ++ a ∷ [])) (exact before)
    (λ a good. each_exact part exact n (before ++ a ∷ []))

pub each_length : {A : Type 0} (part : List A → Layout A) (n : ℕ) (before xs : List A) → (each part n before).Good xs
    → length xs ≡ n
unfolding each
each_length part zero before xs good = ap length good
each_length part (suc n) before [] good = absurd good
each_length part (suc n) before (x ∷ xs) good = ap suc (each_length part n (before ++ x ∷ []) xs good.1)

pub counted_exact : {A : Type 0} (count : Layout ℕ) (part : List A → Layout A) → IsExact count
    → ((before : List A) → IsExact (part before)) → IsExact (list_with_count count part)
counted_exact count part first exact =
    split_exact length count (λ n. each part n []) first (λ n good. each_exact part exact n [])
    (λ n good xs h. each_length part n [] xs h)

-- items that are spelled alike whatever stands before them are spelled one after another
pub each_spelled : {A : Type 0} (part : List A → Layout A) (f : A → List ℕ)
    → ((before : List A) (a : A) → (part before).spell a ≡ f a) → (n : ℕ) (before xs : List A)
    → (each part n before).Good xs → (each part n before).spell xs ≡ flat_map f xs
unfolding each
each_spelled part f alike zero before xs good = sym (ap (flat_map f) good)
each_spelled part f alike (suc n) before [] good = absurd good
each_spelled part f alike (suc n) before (x ∷ xs) good =
    ap (λ t. t ++ (each part n (before ++ x ∷ [])).spell xs) (alike before x)
    ∙ ap (λ t. f x ++ t) (each_spelled part f alike n (before ++ x ∷ []) xs good.1)
    ∙ sym (flat_map-cons f x xs)

-- one more item, which may stand after the others
pub each_push : {A : Type 0} (part : List A → Layout A) (n : ℕ) (before xs : List A) (x : A)
    → (each part n before).Good xs → (part (before ++ xs)).Good x → (each part (suc n) before).Good (xs ++ x ∷ [])
unfolding each
each_push {A = A} part zero before xs x good last =
    subst (λ (ys : List A). (each part 1 before).Good (ys ++ x ∷ [])) (sym good)
    (subst (λ (ys : List A). (part ys).Good x) (ap (λ ys. before ++ ys) good ∙ append-nil before) last, refl)
each_push part (suc n) before [] x good last = absurd good
each_push {A = A} part (suc n) before (y ∷ xs) x good last = (
  good.0,
  each_push part n (before ++ y ∷ []) xs x good.1
      (subst (λ (ys : List A). (part ys).Good x) (sym (append_assoc before (y ∷ []) xs)) last),
)

-- each item may stand after those before it
pub each_at : {A : Type 0} (part : List A → Layout A) (n : ℕ) (before xs : List A) → (each part n before).Good xs
    → (i : ℕ) (x : A) → slice_get xs i ≡ Some x → (part (before ++ take i xs)).Good x
unfolding each
each_at part zero before xs good i x at =
    absurd (let none : slice_get [] i ≡ Some x = ap (λ ys. slice_get ys i) (sym good) ∙ at in cc)
each_at part (suc n) before [] good i x at = absurd good
each_at {A = A} part (suc n) before (y ∷ xs) good zero x at =
    subst (λ (ys : List A). (part ys).Good x) (sym (append-nil before))
    (subst (λ (z : A). (part before).Good z) (let e : Some y ≡ Some x = at in cc) good.0)
each_at {A = A} part (suc n) before (y ∷ xs) good (suc i) x at =
    subst (λ (ys : List A). (part ys).Good x) (append_assoc before (y ∷ []) (take i xs))
    (each_at part n (before ++ y ∷ []) xs good.1 i x at)
