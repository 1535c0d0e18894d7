-- What is put together from exact parts is exact.
use Rattle.std.proofs.Common.{◌≡◌, ℕ, ◌≤◌, Bool, cond, List, ◌++◌, length, Ok, Err, sym, ap, subst, ◌∙◌, append_assoc}
use Rattle.std.proofs.Common.{length-append, arith, inl, inr}
use Rattle.std.specs.Prelude.{◌+◌, ◌==◌, nat_lt}
use Rattle.byte_layout.specs.declared.fault.Break.{Break}
use Rattle.byte_layout.specs.declared.fault.Break.TheVariants.{BadField, Limit}
use Rattle.byte_layout.specs.Layout.{Layout, ◌>>=◌, layout_with_test, at_most, mark, constant_layout, split, last}
use Rattle.byte_layout.specs.Layout.{after_mark, bytes_with_length, raw}
use Rattle.std.proofs.lemmas.Bool.{eqb-true}
use Rattle.byte_layout.specs.Exact.{IsBytes, IsExact, left_of}
use Rattle.byte_layout.proofs.Steps.{ok_is, bind_ok, bind_err, guard_ok, guard_err, behind_front}
use Rattle.byte_layout.proofs.Fields.{raw_exact, raw_length}

-- bytes after a front are bytes
pub bytes_behind : (bytes front rest : List ℕ) → IsBytes bytes → bytes ≡ front ++ rest → IsBytes rest
bytes_behind bytes front rest fits e = behind_front front rest (subst IsBytes e fits)

-- there are no fewer bytes than after a front of them
pub le_behind : (n : ℕ) (bytes front rest : List ℕ) → bytes ≡ front ++ rest → n ≤ length rest → n ≤ length bytes
le_behind n bytes front rest e le = omega (arith, le, ap length e, length-append front rest)

pub judged_exact : {A : Type 0} (fault : ℕ → Break) → ((left : ℕ) → left_of (fault left) ≤ left)
    → (is_good : A → Bool) (p : Layout A) → IsExact p → IsExact (layout_with_test fault is_good p)
judged_exact {A = A} fault bound is_good p exact = record {
  taken = λ bytes fits a rest e.
      let s = bind_ok (p.read bytes) (λ x. cond (is_good x.0) (Ok x) (Err (fault (length bytes)))) (a, rest) e in
      let g = guard_ok (is_good s.0.0) (fault (length bytes)) s.0 (a, rest) s.2 in
      let t = exact.taken bytes fits a rest (s.1 ∙ ap (λ x. Ok x) g.1) in
      ((t.0, ap (λ x. is_good x.0) (sym g.1) ∙ g.0), t.1);
  again = λ a rest good.
      let after = λ (x : A × List ℕ). cond (is_good x.0) (Ok x) (Err (fault (length (p.spell a ++ rest)))) in
      ap (λ r. r >>= after) (exact.again a rest good.0)
      ∙ ap (λ t. cond t (Ok (a, rest)) (Err (fault (length (p.spell a ++ rest))))) good.1;
  broken = λ bytes fits b e.
      elim (bind_err (p.read bytes) (λ x. cond (is_good x.0) (Ok x) (Err (fault (length bytes)))) b e) [
        | inl h ↦ inl (exact.broken bytes fits b h)
        | inr s ↦
            let g = guard_err (is_good s.0.0) (fault (length bytes)) b s.0 s.2 in
            let t = exact.taken bytes fits s.0.0 s.0.1 s.1 in
            inr (s.0.0, s.0.1, t.0, t.1, g.0, g.1)
      ];
  refused = λ bytes b h.
      let after = λ (x : A × List ℕ). cond (is_good x.0) (Ok x) (Err (fault (length bytes))) in
      elim h [
        | inl k ↦ ap (λ r. r >>= after) (exact.refused bytes b k)
        | inr k ↦
            ap (λ r. r >>= after) (ap p.read k.3 ∙ exact.again k.0 k.1 k.2)
            ∙ ap (λ t. cond t (Ok (k.0, k.1)) (Err (fault (length bytes)))) k.4
            ∙ ap (λ f. Err f) (sym k.5)
      ];
  within = λ bytes b h.
      elim h [
        | inl k ↦ exact.within bytes b k
        | inr k ↦ rw k.5 (bound (length bytes))
      ];
}

-- a value that does not fit is a bad field at its first byte
pub fits_exact : {A : Type 0} (is_good : A → Bool) (p : Layout A) → IsExact p
    → IsExact (layout_with_test BadField is_good p)
fits_exact is_good p exact = judged_exact BadField (λ left. omega arith) is_good p exact

-- a fault with no place
pub mark_exact : (fault : Break) → left_of fault ≡ 0 → (n : ℕ) (p : Layout ℕ) → IsExact p → IsExact (mark fault n p)
mark_exact fault plain n p exact = judged_exact (λ left. fault) (λ left. omega (arith, plain)) (λ m. m == n) p exact

pub at_most_exact : (limit : ℕ) (p : Layout ℕ) → IsExact p → IsExact (at_most limit p)
at_most_exact limit p exact = judged_exact Limit (λ left. omega arith) (λ n. nat_lt n (limit + 1)) p exact

pub done_exact : {A : Type 0} (a : A) → IsExact (constant_layout a)
done_exact a = record {
  taken = λ bytes fits x rest e. let s = ok_is (a, bytes) (x, rest) e in (ap (λ y. y.0) (sym s), ap (λ y. y.1) s);
  again = λ x rest good. ap (λ y. Ok (y, rest)) (sym good);
  broken = λ bytes fits b e. absurd cc;
  refused = λ bytes b h. absurd h;
  within = λ bytes b h. absurd h;
}

pub split_exact : {A B : Type 0} (proj : A → B) (p : Layout B) (q : B → Layout A) → IsExact p
    → ((b : B) → p.Good b → IsExact (q b)) → ((b : B) → p.Good b → (a : A) → (q b).Good a → proj a ≡ b)
    → IsExact (split proj p q)
split_exact {A = A} {B = B} proj p q first second agrees = record {
  taken = λ bytes fits a rest e.
      let s = bind_ok (p.read bytes) (λ x. (q x.0).read x.1) (a, rest) e in
      let f = first.taken bytes fits s.0.0 s.0.1 s.1 in
      let g = (second s.0.0 f.0).taken s.0.1 (bytes_behind bytes (p.spell s.0.0) s.0.1 fits f.1) a rest s.2 in
      subst (λ (b : B). (p.Good b × (q b).Good a) × (bytes ≡ (p.spell b ++ (q b).spell a) ++ rest))
      (sym (agrees s.0.0 f.0 a g.0)) (
        (f.0, g.0),
        f.1 ∙ ap (λ t. p.spell s.0.0 ++ t) g.1
            ∙ sym (append_assoc (p.spell s.0.0) ((q s.0.0).spell a) rest),
      );
  again = λ a rest good.
      let b = proj a in
      let after = λ (x : B × List ℕ). (q x.0).read x.1 in
      ap (λ t. p.read t >>= after) (append_assoc (p.spell b) ((q b).spell a) rest)
      ∙ ap (λ r. r >>= after) (first.again b ((q b).spell a ++ rest) good.0)
      ∙ (second b good.0).again a rest good.1;
  broken = λ bytes fits b e.
      elim (bind_err (p.read bytes) (λ x. (q x.0).read x.1) b e) [
        | inl h ↦ inl (first.broken bytes fits b h)
        | inr s ↦
            let f = first.taken bytes fits s.0.0 s.0.1 s.1 in
            inr (
              s.0.0,
              s.0.1,
              f.0,
              f.1,
              (second s.0.0 f.0).broken s.0.1 (bytes_behind bytes (p.spell s.0.0) s.0.1 fits f.1) b s.2,
            )
      ];
  refused = λ bytes b h.
      let after = λ (x : B × List ℕ). (q x.0).read x.1 in
      elim h [
        | inl k ↦ ap (λ r. r >>= after) (first.refused bytes b k)
        | inr k ↦ ap (λ r. r >>= after) (ap p.read k.3 ∙ first.again k.0 k.1 k.2) ∙ (second k.0 k.2).refused k.1 b k.4
      ];
  within = λ bytes b h.
      elim h [
        | inl k ↦ first.within bytes b k
        | inr k ↦ le_behind (left_of b) bytes (p.spell k.0) k.1 k.3 ((second k.0 k.2).within k.1 b k.4)
      ];
}

pub last_exact : {A B : Type 0} (proj : A → B) (make : B → A) (p : Layout B) → IsExact p
    → ((b : B) → p.Good b → proj (make b) ≡ b) → IsExact (last proj make p)
last_exact proj make p exact made =
    split_exact proj p (λ b. constant_layout (make b)) exact (λ b good. done_exact (make b))
    (λ b good a h. ap proj h ∙ made b good)

pub sized_exact : (len : Layout ℕ) → IsExact len → IsExact (bytes_with_length len)
sized_exact len exact = split_exact length len raw exact (λ n good. raw_exact n) (λ n good a h. raw_length n a h)

pub marked_exact : {A : Type 0} (fault : Break) → left_of fault ≡ 0 → (n : ℕ) (p : Layout ℕ) (q : Layout A) → IsExact p
    → IsExact q → IsExact (after_mark fault n p q)
marked_exact fault plain n p q first second =
    split_exact (λ a. n) (mark fault n p) (λ m. q) (mark_exact fault plain n p first) (λ m good. second)
    (λ m good a h. sym (eqb-true m n good.1))
