-- The breakpoints that there are.
use Rattle.std.proofs.Common.{◌≡◌, ℕ, ◌+◌, ◌<◌, ◌≤◌, ◌⊎◌, inl, inr, List, [], ◌∷◌, ◌++◌, length, Option, None, Some}
use Rattle.std.proofs.Common.{slice_get, sym, ap, subst, ◌∙◌, arith}
use Rattle.std.proofs.lemmas.Bool.{cases_lt}
use Rattle.std.proofs.lemmas.Option.{slice_get_within}
use Rattle.lemmas.proofs.Lists.{pushed_cases, item_pushed, item_before}
use Rattle.debugger.specs.declared.breaks.Break.{Break}
use Rattle.debugger.specs.declared.points.Numbered.{Numbered}
use Rattle.debugger.specs.Searches.{AreSet, IsListed, IsSet}

pub none_set : (breaks : List (Option Break)) (points : List Numbered) → points ≡ [] → AreSet breaks 0 points
none_set breaks points none = record {
  each = λ k p h. let e : None ≡ Some p = ap (λ l. slice_get l k) (sym none) ∙ h in absurd cc;
  all = λ slot b less h. absurd (omega (arith, less));
  rise = λ j k p q less first h. let e : None ≡ Some q = ap (λ l. slice_get l k) (sym none) ∙ h in absurd cc;
}

set_later : (breaks : List (Option Break)) (first : ℕ) (p : Numbered) → IsSet breaks first p
    → IsSet breaks (first + 1) p
set_later breaks first p is =
    let below : is.slot < first = is.below in
    record { slot = is.slot; number = is.number; below = omega (arith, below); stands = is.stands }

all_same : (breaks : List (Option Break)) (first : ℕ) (points : List Numbered) (slot : ℕ) (b : Break)
    → AreSet breaks first points → slice_get breaks first ≡ Some None → slot < first + 1
    → slice_get breaks slot ≡ Some (Some b) → (slot < first) ⊎ (first ≤ slot) → IsListed points slot b
all_same breaks first points slot b are free less h (inl low) = are.all slot b low h
all_same breaks first points slot b are free less h (inr high) =
    let same : slot ≡ first = omega (arith, less, high) in
    let e : Some None ≡ Some (Some b) = sym free ∙ (ap (slice_get breaks) (sym same) ∙ h) in absurd cc

-- a slot without a breakpoint
pub set_same : (breaks : List (Option Break)) (first : ℕ) (points : List Numbered) → AreSet breaks first points
    → slice_get breaks first ≡ Some None → AreSet breaks (first + 1) points
set_same breaks first points are free = record {
  each = λ k p h. set_later breaks first p (are.each k p h);
  all = λ slot b less h. all_same breaks first points slot b are free less h (cases_lt slot first);
  rise = are.rise;
}

each_more : (breaks : List (Option Break)) (first k : ℕ) (points : List Numbered) (y p : Numbered)
    → AreSet breaks first points → IsSet breaks (first + 1) y
    → (slice_get points k ≡ Some p) ⊎ ((k ≡ length points) × (y ≡ p)) → IsSet breaks (first + 1) p
each_more breaks first k points y p are here (inl h) = set_later breaks first p (are.each k p h)
each_more breaks first k points y p are here (inr h) = subst (IsSet breaks (first + 1)) h.1 here

all_more : (breaks : List (Option Break)) (first : ℕ) (points : List Numbered) (y : Numbered) (slot : ℕ) (b : Break)
    → AreSet breaks first points → slice_get breaks first ≡ Some (Some y.point) → y.number ≡ first + 1
    → slot < first + 1 → slice_get breaks slot ≡ Some (Some b) → (slot < first) ⊎ (first ≤ slot)
    → IsListed (points ++ y ∷ []) slot b
all_more breaks first points y slot b are at number less h (inl low) =
    let old = are.all slot b low h in
    record {
      index = old.index;
      one = old.one;
      stands = item_before points y old.index old.one old.stands;
      number = old.number;
      point = old.point;
    }
all_more breaks first points y slot b are at number less h (inr high) =
    let same : slot ≡ first = omega (arith, less, high) in
    let e : Some (Some y.point) ≡ Some (Some b) = sym at ∙ (ap (slice_get breaks) (sym same) ∙ h) in
    record {
      index = length points;
      one = y;
      stands = item_pushed points y;
      number = number ∙ ap (λ n. n + 1) (sym same);
      point = cc;
    }

rise_more : (breaks : List (Option Break)) (first j k : ℕ) (points : List Numbered) (y p q : Numbered)
    → AreSet breaks first points → y.number ≡ first + 1 → j < k
    → (slice_get points j ≡ Some p) ⊎ ((j ≡ length points) × (y ≡ p))
    → (slice_get points k ≡ Some q) ⊎ ((k ≡ length points) × (y ≡ q)) → p.number < q.number
rise_more breaks first j k points y p q are number less (inl g) (inl h) = are.rise j k p q less g h
rise_more breaks first j k points y p q are number less (inl g) (inr h) =
    let is = are.each j p g in
    let below : is.slot < first = is.below in
    let here : p.number ≡ is.slot + 1 = is.number in
    omega (arith, below, here, number, ap (λ z. z.number) h.1)
rise_more breaks first j k points y p q are number less (inr g) (inl h) =
    absurd (omega (arith, less, g.0, slice_get_within points k q h))
rise_more breaks first j k points y p q are number less (inr g) (inr h) = absurd (omega (arith, less, g.0, h.0))

-- a slot with one
pub set_more : (breaks : List (Option Break)) (first : ℕ) (points more : List Numbered) (y : Numbered)
    → AreSet breaks first points → slice_get breaks first ≡ Some (Some y.point) → y.number ≡ first + 1
    → more ≡ points ++ y ∷ [] → AreSet breaks (first + 1) more
set_more breaks first points more y are at number added =
    subst (AreSet breaks (first + 1)) (sym added) (record {
      each = λ k p h. each_more breaks first k points y p are
          (record { slot = first; number = number; below = omega arith; stands = at }) (pushed_cases points y k p h);
      all = λ slot b less h. all_more breaks first points y slot b are at number less h (cases_lt slot first);
      rise = λ j k p q less g h. rise_more breaks first j k points y p q are number less (pushed_cases points y j p g)
          (pushed_cases points y k q h);
    })

set_within : (breaks : List (Option Break)) (first : ℕ) (p : Numbered) → IsSet breaks first p
    → IsSet breaks (length breaks) p
set_within breaks first p is = record {
  slot = is.slot;
  number = is.number;
  below = slice_get_within breaks is.slot (Some p.point) is.stands;
  stands = is.stands;
}

-- all slots
pub set_end : (breaks : List (Option Break)) (first : ℕ) (points : List Numbered) → AreSet breaks first points
    → length breaks ≤ first → AreSet breaks (length breaks) points
set_end breaks first points are past = record {
  each = λ k p h. set_within breaks first p (are.each k p h);
  all = λ slot b less h. are.all slot b (omega (arith, less, past)) h;
  rise = are.rise;
}
