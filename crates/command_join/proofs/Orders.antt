-- Slices in the order of their devices.
use Rattle.std.proofs.Common.{ℕ, ◌≡◌, ◌≢◌, ◌+◌, ◌-◌, ◌≤◌, ◌<◌, ◌⊎◌, inl, inr, zero, suc, All, List, ◌∷◌, ◌++◌, Option}
use Rattle.std.proofs.Common.{Some, length, take, drop, get_or, refl, sym, ap, subst, ◌∙◌, arith}
use Rattle.std.proofs.lemmas.List.{drop_more, get_or_default, take-append-drop}
use Rattle.std.proofs.lemmas.List.Sorted.{All-permutation, Contains-permutation, IsPermutation-cons, IsPermutation-middle}
use Rattle.std.proofs.lemmas.List.Sorted.{IsPermutation-sym, IsPermutation-trans, all_adjacent_more}
use Rattle.std.proofs.lemmas.Bool.{cases_lt}
use Rattle.std.specs.List.{AllAdjacentBelow, Contains}
use Rattle.std.specs.List.Sorted.{IsNonDecreasingBy, IsPermutation}
use Rattle.command_join.specs.Order.{AreByDevices, AreConsecutive, HasDevice, IsAfterGap, IsMisfit}
use Rattle.command_join.specs.Order.{IsOrder, IsOrderFault, IsOverlap, SaysDevices, SaysNoDevices}
use Rattle.command_join.specs.Slices.{first_of, last_of}
use Rattle.command_files.specs.declared.fault.Fault.{Fault}
use Rattle.command_files.specs.declared.fault.Fault.TheVariants as faults
use Rattle.command_join.specs.declared.slice.Slice.{Slice}

abbrev pub Follows : Slice → Slice → Type 0
Follows before slice = first_of slice ≡ last_of before + 1

-- the first ones, up to a place, follow one another
abbrev pub AreFollowing : List Slice → ℕ → Type 0
AreFollowing slices n = AllAdjacentBelow Follows slices n

abbrev pub AreUpward : List Slice → Type 0
AreUpward slices = All (λ s. first_of s ≤ last_of s) slices

-- ---- one after another

pub following_more : (slices : List Slice) (i : ℕ) → 0 < i → AreFollowing slices i
    → ((d : Slice) → Follows (get_or slices (i - 1) d) (get_or slices i d)) → AreFollowing slices (i + 1)
following_more slices i some so_far here = all_adjacent_more slices Follows i some so_far here

pub following_all : (slices : List Slice) (i : ℕ) → length slices ≤ i → AreFollowing slices i → AreConsecutive slices
following_all slices i end so_far k d within = so_far k d (omega (arith, within, end))

-- the last devices rise
rising : (slices : List Slice) (n : ℕ) (d : Slice) → AreUpward slices → AreFollowing slices n → n ≤ length slices
    → (j m : ℕ) → j + m < n → last_of (get_or slices j d) ≤ last_of (get_or slices (j + m) d)
rising slices n d upward following within j zero h =
    let e : j + 0 ≡ j = omega arith in subst (λ k. last_of (get_or slices j d) ≤ last_of (get_or slices k d)) (sym e)
    (omega arith)
rising slices n d upward following within j (suc m) h =
    let before = rising slices n d upward following within j m (omega (arith, h)) in
    let next = following (j + m) d (omega (arith, h)) in
    let up = upward (j + m + 1) d (omega (arith, h, within)) in
    let e : j + suc m ≡ j + m + 1 = omega arith in
    subst (λ k. last_of (get_or slices j d) ≤ last_of (get_or slices k d)) (sym e) (omega (arith, before, next, up))

-- ---- the slice that does not fit

parted : (slices : List Slice) (i : ℕ) (d : Slice) → i + 1 < length slices
    → slices ≡ take i slices ++ get_or slices i d ∷ get_or slices (i + 1) d ∷ drop (i + 2) slices
parted slices i d within =
    let first : drop i slices ≡ get_or slices i d ∷ drop (i + 1) slices =
    drop_more slices i d (omega (arith, within)) in
    let second : drop (i + 1) slices ≡ get_or slices (i + 1) d ∷ drop (i + 1 + 1) slices =
    drop_more slices (i + 1) d within in
    let e : i + 1 + 1 ≡ i + 2 = omega arith in
    sym (take-append-drop i slices)
    ∙ ap (λ r. take i slices ++ r)
    (first ∙ ap (λ r. get_or slices i d ∷ r)
    (second ∙ ap (λ k. get_or slices (i + 1) d ∷ drop k slices) e))

-- two that stand side by side, and the others
two_of : (xs ys : List Slice) (a b : Slice) → IsPermutation (xs ++ a ∷ b ∷ ys) (a ∷ b ∷ (xs ++ ys))
two_of xs ys a b =
    IsPermutation-trans (xs ++ a ∷ b ∷ ys) (a ∷ (xs ++ b ∷ ys)) (a ∷ b ∷ (xs ++ ys))
    (IsPermutation-middle xs a (b ∷ ys))
    (IsPermutation-cons a (xs ++ b ∷ ys) (b ∷ (xs ++ ys)) (IsPermutation-middle xs b ys))

overlaps : (slices : List Slice) (i : ℕ) (d : Slice) → All SaysDevices slices → AreUpward slices
    → IsNonDecreasingBy first_of slices → i + 1 < length slices
    → first_of (get_or slices (i + 1) d) ≤ last_of (get_or slices i d) → IsOverlap slices (get_or slices (i + 1) d)
overlaps slices i d said upward sorted within low = record {
  said = said;
  other = get_or slices i d;
  others = take i slices ++ drop (i + 2) slices;
  two = subst
      (λ l. IsPermutation l (get_or slices i d ∷ get_or slices (i + 1) d ∷ (take i slices ++ drop (i + 2) slices)))
      (sym (parted slices i d within))
      (two_of (take i slices) (drop (i + 2) slices) (get_or slices i d) (get_or slices (i + 1) d));
  device = first_of (get_or slices (i + 1) d);
  here = record { from = omega arith; to = upward (i + 1) d within };
  twice = record { from = sorted i (i + 1) d (omega arith) within; to = low };
}

there : (slices : List Slice) (i : ℕ) (d : Slice) → i < length slices → Contains slices (get_or slices i d)
there slices i d within = (i, within, get_or_default slices i (get_or slices i d) d within)

-- a slice before the gap ends before it, and a slice after it begins after it
outside : (slices : List Slice) (i : ℕ) (d : Slice) (device : ℕ) → AreUpward slices → IsNonDecreasingBy first_of slices
    → AreFollowing slices (i + 1) → i + 1 < length slices → last_of (get_or slices i d) < device
    → first_of (get_or slices (i + 1) d) ≡ device + 1 → All (λ s. HasDevice s device → ⊥) slices
outside slices i d device upward sorted following within low high j e below has = by (cases_lt i j)
  where
    by : (i < j) ⊎ (j ≤ i) → ⊥
    by (inl after) =
        let rise = sorted (i + 1) j e (omega (arith, after)) below in
        let same = ap first_of (get_or_default slices (i + 1) e d within) in
        omega (arith, rise, same, high, has.from)
    by (inr before) =
        let rise = rising slices (i + 1) e upward following (omega (arith, within)) j (i - j) (omega (arith, before)) in
        let at : j + (i - j) ≡ i = omega (arith, before) in
        let same = ap last_of (ap (λ k. get_or slices k e) at ∙ get_or_default slices i e d (omega (arith, within))) in
        omega (arith, rise, same, low, has.to)

after_gap : (slices : List Slice) (i : ℕ) (d : Slice) → All SaysDevices slices → AreUpward slices
    → IsNonDecreasingBy first_of slices → AreFollowing slices (i + 1) → i + 1 < length slices
    → last_of (get_or slices i d) + 1 < first_of (get_or slices (i + 1) d)
    → IsAfterGap slices (get_or slices (i + 1) d)
after_gap slices i d said upward sorted following within high = record {
  said = said;
  there = there slices (i + 1) d within;
  device = first_of (get_or slices (i + 1) d) - 1;
  next = omega (arith, high);
  none = outside slices i d (first_of (get_or slices (i + 1) d) - 1) upward sorted following within
      (omega (arith, high)) (omega (arith, high));
  lower = get_or slices i d;
  stands = there slices i d (omega (arith, within));
  below = omega (arith, high);
}

-- the first slice that does not begin with the device after the last one of the slice before it
misfit_next : (slices : List Slice) (i : ℕ) (d : Slice) → All SaysDevices slices → AreUpward slices
    → IsNonDecreasingBy first_of slices → AreFollowing slices (i + 1) → i + 1 < length slices
    → (Follows (get_or slices i d) (get_or slices (i + 1) d) → ⊥) → IsMisfit slices (get_or slices (i + 1) d)
misfit_next slices i d said upward sorted following within wrong =
    by (cases_lt (last_of (get_or slices i d)) (first_of (get_or slices (i + 1) d)))
  where
    by : (last_of (get_or slices i d) < first_of (get_or slices (i + 1) d))
        ⊎ (first_of (get_or slices (i + 1) d) ≤ last_of (get_or slices i d)) → IsMisfit slices (get_or slices (i + 1) d)
    by (inr low) = inr (inl (overlaps slices i d said upward sorted within low))
    by (inl high) =
        inr (inr (after_gap slices i d said upward sorted following within (more (last_of (get_or slices i d))
        (first_of (get_or slices (i + 1) d)) high wrong)))
      where
        more : (m n : ℕ) → m < n → (n ≡ m + 1 → ⊥) → m + 1 < n
        more m n h other = of (cases_lt (m + 1) n)
          where
            of : (m + 1 < n) ⊎ (n ≤ m + 1) → m + 1 < n
            of (inl l) = l
            of (inr l) = absurd (other (omega (arith, h, l)))

pub misfit_at : (slices : List Slice) (k : ℕ) (d before slice : Slice) (about : Option (List ℕ)) (f : Fault)
    → All SaysDevices slices → AreUpward slices → IsNonDecreasingBy first_of slices → AreFollowing slices k → 0 < k
    → k < length slices → before ≡ get_or slices (k - 1) d → slice ≡ get_or slices k d
    → (first_of slice ≢ last_of before + 1) → about ≡ Some slice.word.now → f ≡ faults.Slices
    → IsOrderFault slices about f
misfit_at slices k d before slice about f said upward sorted following some within first second wrong named is =
    let back : k - 1 + 1 ≡ k = omega (arith, some) in
    let at : IsMisfit slices (get_or slices (k - 1 + 1) d) =
    misfit_next slices (k - 1) d said upward sorted (subst (AreFollowing slices) (sym back) following)
    (subst (λ n. n < length slices) (sym back) within)
    (λ follows. wrong (ap first_of (second ∙ ap (λ n. get_or slices n d) (sym back)) ∙ follows
    ∙ ap (λ n. n + 1) (ap last_of (sym first)))) in
    let there : IsMisfit slices slice =
    subst (IsMisfit slices) (ap (λ n. get_or slices n d) back ∙ sym second) at in
    subst (IsOrderFault slices about) (sym is) (record { slice = slice; misfit = there; word = named })

-- ---- in another order

permuted : (named order : List Slice) (slice : Slice) → IsPermutation named order → IsMisfit order slice
    → IsMisfit named slice
permuted named order slice same (inl h) = inl (record {
  there = Contains-permutation order named slice (IsPermutation-sym named order same) h.there;
  unsaid = h.unsaid;
  other = h.other;
  stands = Contains-permutation order named h.other (IsPermutation-sym named order same) h.stands;
  said = h.said;
})
permuted named order slice same (inr (inl h)) = inr (inl (record {
  said = All-permutation SaysDevices order named (IsPermutation-sym named order same) h.said;
  other = h.other;
  others = h.others;
  two = IsPermutation-trans named order (h.other ∷ slice ∷ h.others) same h.two;
  device = h.device;
  here = h.here;
  twice = h.twice;
}))
permuted named order slice same (inr (inr h)) = inr (inr (record {
  said = All-permutation SaysDevices order named (IsPermutation-sym named order same) h.said;
  there = Contains-permutation order named slice (IsPermutation-sym named order same) h.there;
  device = h.device;
  next = h.next;
  none = All-permutation (λ s. HasDevice s h.device → ⊥) order named (IsPermutation-sym named order same) h.none;
  lower = h.lower;
  stands = Contains-permutation order named h.lower (IsPermutation-sym named order same) h.stands;
  below = h.below;
}))

pub fault_permuted : (named order : List Slice) (about : Option (List ℕ)) (f : Fault) → IsPermutation named order
    → IsOrderFault order about f → IsOrderFault named about f
fault_permuted named order about faults.Memory same h = tt
fault_permuted named order about faults.Slices same h =
    record { slice = h.slice; misfit = permuted named order h.slice same h.misfit; word = h.word }
fault_permuted named order about _ same h = absurd h

pub all_permuted : (P : Slice → Type 0) (named order : List Slice) → IsPermutation named order → All P named
    → All P order
all_permuted P named order same all = All-permutation P named order same all

pub no_memory : (named : List Slice) (about : Option (List ℕ)) (f : Fault) → f ≡ faults.Memory
    → IsOrderFault named about f
no_memory named about f same = subst (IsOrderFault named about) (sym same) tt

-- ---- the order

pub by_devices : (named order : List Slice) → All SaysDevices named → IsPermutation named order → AreConsecutive order
    → AreByDevices named order
by_devices named order said same next = record { said = said; same = same; next = next }

pub order_by_devices : (named order : List Slice) → AreByDevices named order → IsOrder named order
order_by_devices named order h = inr h

pub order_as_named : (named : List Slice) → All SaysNoDevices named → IsOrder named named
order_as_named named unsaid = inl (record { unsaid = unsaid; same = refl })

pub one_unsaid : (named : List Slice) (slice other : Slice) (about : Option (List ℕ)) (f : Fault)
    → Contains named slice → SaysNoDevices slice → Contains named other → SaysDevices other
    → about ≡ Some slice.word.now → f ≡ faults.Slices → IsOrderFault named about f
one_unsaid named slice other about f there unsaid stands said word is =
    subst (IsOrderFault named about) (sym is) (record {
      slice = slice;
      misfit = inl (record { there = there; unsaid = unsaid; other = other; stands = stands; said = said });
      word = word;
    })
