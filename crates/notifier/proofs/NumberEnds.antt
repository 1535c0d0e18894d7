-- Where a number ends is where no number of its attribute goes on.
use Rattle.std.proofs.Common.{◌≡◌, ℕ, zero, suc, ◌+◌, ◌-◌, ◌*◌, ◌^◌, ◌<◌, ◌≤◌, ◌==◌, ◌⊎◌, inl, inr, Bool, true, false}
use Rattle.std.proofs.Common.{cond, ◌&&◌, List, [], ◌∷◌, ◌++◌, length, take, drop, get_or, Some, nat_lt}
use Rattle.std.proofs.Common.{refl, sym, ap, subst, ◌∙◌, arith, add-one, length-take, get_or-take}
use Rattle.std.proofs.Common.{ltb-true, lt-ltb, eqb-true, eq-eqb, length-drop, append_assoc}
use Rattle.std.proofs.Common.{slice_index}
use Rattle.std.specs.Int.{IsInRange}
use Rattle.std.specs.Str.Parse.{digits_value}
use Rattle.std.proofs.Math.ListN.{get_or-append}
use Rattle.std.proofs.Math.Seq.{split_at, take-append-add}
use Rattle.std.proofs.lemmas.Bool.{and_parts, cases_order}
use Rattle.std.proofs.lemmas.Int.Digits.{digits_value_push}
use Rattle.std.proofs.lemmas.List.{get_or-drop, length-append}
use Rattle.object_defs.proofs.Digits.{AreDigits}
use Rattle.notifier.specs.NumberEnd.{digits_in, has_point, unsigned_end}
use Rattle.notifier.specs.Query.{is_digit, unsigned_of}
use Rattle.notifier.proofs.DecimalTexts.{digit}
use Rattle.notifier.proofs.Spelled.{HasFraction, IsSpelled, in_range, spelled, with_fraction}

-- ---- the first digits

-- these are the first digits, as many as may be
pub record IsRun (most : ℕ) (t : List ℕ) (n : ℕ) : Type 0 where
  pub few : n ≤ most
  pub within : n ≤ length t
  pub digits : (k : ℕ) → k < n → IsInRange 48 57 (get_or t k 0)
  pub ends : (n ≡ most) ⊎ ((n ≡ length t) ⊎ (IsInRange 48 57 (get_or t n 0) → ⊥))

one_more : (m c : ℕ) (cs : List ℕ) (n : ℕ) → IsInRange 48 57 c → IsRun m cs n → IsRun (suc m) (c ∷ cs) (suc n)
one_more m c cs n first h = record {
  few = omega (arith, h.few);
  within = omega (arith, h.within);
  digits = each;
  ends = ends h.ends;
}
  where
    each : (k : ℕ) → k < suc n → IsInRange 48 57 (get_or (c ∷ cs) k 0)
    each zero below = first
    each (suc k) below = h.digits k (omega (arith, below))

    ends : (n ≡ m) ⊎ ((n ≡ length cs) ⊎ (IsInRange 48 57 (get_or cs n 0) → ⊥))
        → (suc n ≡ suc m) ⊎ ((suc n ≡ length (c ∷ cs)) ⊎ (IsInRange 48 57 (get_or (c ∷ cs) (suc n) 0) → ⊥))
    ends (inl e) = inl (omega (arith, e))
    ends (inr (inl e)) = inr (inl (omega (arith, e)))
    ends (inr (inr f)) = inr (inr f)

pub run : (m : ℕ) (t : List ℕ) → IsRun m t (digits_in m t)
run zero t = record {
  few = omega arith;
  within = omega arith;
  digits = λ k below. absurd (omega (arith, below));
  ends = inl refl;
}
run (suc m) [] = record {
  few = omega arith;
  within = omega arith;
  digits = λ k below. absurd (omega (arith, below));
  ends = inr (inl refl);
}
run (suc m) (c ∷ cs) = by (is_digit c) refl (run m cs)
  where
    by : (b : Bool) → is_digit c ≡ b → IsRun m cs (digits_in m cs)
        → IsRun (suc m) (c ∷ cs) (cond b (1 + digits_in m cs) 0)
    by true e h =
        let next : suc (digits_in m cs) ≡ 1 + digits_in m cs = omega arith in
        subst (IsRun (suc m) (c ∷ cs)) next (one_more m c cs (digits_in m cs) (in_range c e) h)
    by false e h = record {
      few = omega arith;
      within = omega arith;
      digits = λ k below. absurd (omega (arith, below));
      ends = inr (inr (λ d. let other : true ≡ false = sym (digit c d) ∙ e in cc));
    }

-- ---- the parts of the beginning

-- the digits, and the point that follows them with its digits, if one does
pub record IsWhole (t : List ℕ) (end : ℕ) : Type 0 where
  pub whole : ℕ
  pub first : IsRun 15 t whole
  pub no_point : whole < length t → 0 < whole → get_or t whole 0 ≡ 46 → ⊥
  pub is : end ≡ whole

pub record IsPart (t : List ℕ) (end : ℕ) : Type 0 where
  pub whole : ℕ
  pub part : ℕ
  pub first : IsRun 15 t whole
  pub some : 0 < whole
  pub inside : whole < length t
  pub point : get_or t whole 0 ≡ 46
  pub second : IsRun 3 (drop (whole + 1) t) part
  pub is : end ≡ whole + 1 + part

pub parts : (t : List ℕ) → IsWhole t (unsigned_end t) ⊎ IsPart t (unsigned_end t)
parts t = by (has_point whole t) refl
  where
    whole : ℕ
    whole = digits_in 15 t

    by : (b : Bool) → has_point whole t ≡ b
        → IsWhole t (cond b (whole + 1 + digits_in 3 (drop (whole + 1) t)) whole)
        ⊎ IsPart t (cond b (whole + 1 + digits_in 3 (drop (whole + 1) t)) whole)
    by true e =
        let p = and_parts (nat_lt 0 whole) (nat_lt whole (length t) && slice_index t whole == 46) e in
        let q = and_parts (nat_lt whole (length t)) (slice_index t whole == 46) p.1 in
        inr (record {
          whole = whole;
          part = digits_in 3 (drop (whole + 1) t);
          first = run 15 t;
          some = ltb-true 0 whole p.0;
          inside = ltb-true whole (length t) q.0;
          point = eqb-true (slice_index t whole) 46 q.1;
          second = run 3 (drop (whole + 1) t);
          is = refl;
        })
    by false e =
        inl (record {
          whole = whole;
          first = run 15 t;
          no_point = λ inside some point.
              let all : has_point whole t ≡ true =
              (λ j. lt-ltb 0 whole some j && (lt-ltb whole (length t) inside j
              && eq-eqb (slice_index t whole) 46 point j)) in
              let other : true ≡ false = sym all ∙ e in
              cc;
          is = refl;
        })

-- ---- nothing goes on

abbrev Agrees : List ℕ → List ℕ → ℕ → Type 0
Agrees t u end = (k : ℕ) → k ≤ end → get_or u k 0 ≡ get_or t k 0

whole_stops : (t u : List ℕ) (end : ℕ) → IsWhole t end → end < length t → Agrees t u end → end < length u
    → IsSpelled u → ⊥
whole_stops t u end h inside same more s = by (cases_order s.whole h.whole) s.rest
  where
    is : end ≡ h.whole
    is = h.is

    by : (s.whole ≡ h.whole) ⊎ ((s.whole < h.whole) ⊎ (h.whole < s.whole))
        → (length u ≡ s.whole) ⊎ HasFraction s.whole u → ⊥
    by (inl equal) (inl all) = omega (arith, equal, all, is, more)
    by (inl equal) (inr f) =
        h.no_point (omega (arith, is, inside)) (omega (arith, equal, s.some))
        (sym (same h.whole (omega (arith, is))) ∙ ap (λ n. get_or u n 0) (sym equal) ∙ f.point)
    by (inr (inl below)) (inl all) = omega (arith, below, all, is, more)
    by (inr (inl below)) (inr f) =
        let d = h.first.digits s.whole below in
        let here = same s.whole (omega (arith, is, below)) in
        omega (arith, d.0, here, f.point)
    by (inr (inr above)) rest =
        let d = subst (IsInRange 48 57) (same h.whole (omega (arith, is))) (s.digits h.whole above) in
        elim h.first.ends [
          | inl full ↦ omega (arith, full, above, s.few)
          | inr (inl all) ↦ omega (arith, all, is, inside)
          | inr (inr other) ↦ other d
        ]

part_stops : (t u : List ℕ) (end : ℕ) → IsPart t end → end < length t → Agrees t u end → end < length u
    → IsSpelled u → ⊥
part_stops t u end h inside same more s = by (cases_order s.whole h.whole) s.rest
  where
    is : end ≡ h.whole + 1 + h.part
    is = h.is

    by : (s.whole ≡ h.whole) ⊎ ((s.whole < h.whole) ⊎ (h.whole < s.whole))
        → (length u ≡ s.whole) ⊎ HasFraction s.whole u → ⊥
    by (inl equal) (inl all) = omega (arith, equal, all, is, more)
    by (inl equal) (inr f) =
        let d = subst (IsInRange 48 57) (same end (omega arith))
        (f.digits end (omega (arith, equal, is)) more) in
        let here : get_or (drop (h.whole + 1) t) h.part 0 ≡ get_or t end 0 =
        get_or-drop (h.whole + 1) t h.part 0 ∙ ap (λ n. get_or t n 0) (sym is) in
        let after = length-drop (h.whole + 1) t in
        elim h.second.ends [
          | inl full ↦ omega (arith, full, is, equal, more, f.few)
          | inr (inl all) ↦ omega (arith, all, after, is, inside)
          | inr (inr other) ↦ other (subst (IsInRange 48 57) (sym here) d)
        ]
    by (inr (inl below)) (inl all) = omega (arith, below, all, is, more)
    by (inr (inl below)) (inr f) =
        let d = h.first.digits s.whole below in
        let here = same s.whole (omega (arith, is, below)) in
        omega (arith, d.0, here, f.point)
    by (inr (inr above)) rest =
        let d = s.digits h.whole above in
        let here = same h.whole (omega (arith, is)) in
        omega (arith, d.0, here, h.point)

pub one_byte_more : (t more : List ℕ) (end : ℕ) → end < length t → Agrees t (take (end + 1) t ++ more) end
one_byte_more t more end inside k below =
    let count = length-take (end + 1) t in
    get_or-append (take (end + 1) t) more 0 k (omega (arith, count, inside, below))
    ∙ get_or-take (end + 1) t k 0 (omega (arith, below))

pub longer : (t more : List ℕ) (end : ℕ) → end < length t → end < length (take (end + 1) t ++ more)
longer t more end inside =
    let all = length-append (take (end + 1) t) more in
    let count = length-take (end + 1) t in
    omega (arith, all, count, inside)

pub unsigned_stops : (t more : List ℕ) (v : ℕ) → unsigned_end t < length t
    → unsigned_of (take (unsigned_end t + 1) t ++ more) ≡ Some v → ⊥
unsigned_stops t more v inside h =
    let s = spelled (take (unsigned_end t + 1) t ++ more) v h in
    let same = one_byte_more t more (unsigned_end t) inside in
    let long = longer t more (unsigned_end t) inside in
    elim (parts t) [
      | inl whole ↦ whole_stops t (take (unsigned_end t + 1) t ++ more) (unsigned_end t) whole inside same long s
      | inr part ↦ part_stops t (take (unsigned_end t + 1) t ++ more) (unsigned_end t) part inside same long s
    ]

-- ---- something begins so

first_digits : (m : ℕ) (t : List ℕ) (n k : ℕ) → IsRun m t n → k ≤ n → AreDigits (take k t)
first_digits m t n k h few i inside =
    let count = length-take k t in
    let below : i < k = omega (arith, count, inside) in
    subst (IsInRange 48 57) (sym (get_or-take k t i 0 below)) (h.digits i (omega (arith, below, few)))

first_count : (m : ℕ) (t : List ℕ) (n k : ℕ) → IsRun m t n → k ≤ n → length (take k t) ≡ k
first_count m t n k h few = let count = length-take k t in omega (arith, count, h.within, few)

positive : (a k : ℕ) → 0 < a → k ≤ 2 → 0 < a * 10 ^ k
positive a zero some few = omega (arith, some)
positive a (suc zero) some few = omega (arith, some)
positive a (suc (suc zero)) some few = omega (arith, some)
positive a (suc (suc (suc k))) some few = absurd (omega (arith, few))

-- a number above 0 begins so, and what it goes on with
pub record Completes (s : List ℕ) : Type 0 where
  pub more : List ℕ
  pub value : ℕ
  pub reads : unsigned_of (s ++ more) ≡ Some value
  pub above : 0 < value

whole_completes : (t : List ℕ) (whole : ℕ) → IsRun 15 t whole → Completes (take whole t)
whole_completes t zero h = record { more = 49 ∷ []; value = 1000; reads = refl; above = omega arith }
whole_completes t (suc n) h =
    let w = take (suc n) t in
    let count : length w ≡ suc n = first_count 15 t (suc n) (suc n) h (omega arith) in
    let g : List ℕ = 49 ∷ [] in
    let one : AreDigits g = λ k below. let first : k ≡ 0 = omega (arith, below) in
    subst (λ i. IsInRange 48 57 (get_or g i 0)) (sym first) (omega arith, omega arith) in
    let tenth : digits_value 10 g * 10 ^ (3 - length g) ≡ 100 = refl in
    record {
      more = 46 ∷ g;
      value = digits_value 10 w * 1000 + digits_value 10 g * 10 ^ (3 - length g);
      reads = with_fraction w g (first_digits 15 t (suc n) (suc n) h (omega arith)) (omega (arith, count))
          (omega (arith, count, h.few)) one (omega arith) (omega arith);
      above = omega (arith, tenth);
    }

cut : (t : List ℕ) (end : ℕ) (h : IsPart t end) (n : ℕ)
    → take (h.whole + 1 + n) t ≡ take h.whole t ++ 46 ∷ take n (drop (h.whole + 1) t)
cut t end h n =
    let w = take h.whole t in
    let count : length w ≡ h.whole = first_count 15 t h.whole h.whole h.first (omega arith) in
    let all = split_at t h.whole 0 h.inside in
    let place : h.whole + 1 + n ≡ length w + suc n = omega (arith, count) in
    (λ j. take (place j) (all j))
    ∙ take-append-add w (get_or t h.whole 0 ∷ drop (suc h.whole) t) (suc n)
    ∙ (λ j. w ++ h.point j ∷ take n (drop (sym (add-one h.whole) j) t))

digits_pushed : (g : List ℕ) (c : ℕ) → AreDigits g → IsInRange 48 57 c → AreDigits (g ++ c ∷ [])
digits_pushed [] c h d zero below = d
digits_pushed [] c h d (suc k) below = absurd (omega (arith, below))
digits_pushed (x ∷ g) c h d zero below = h 0 (omega arith)
digits_pushed (x ∷ g) c h d (suc k) below =
    digits_pushed g c (λ i inside. h (suc i) (omega (arith, inside))) d k (omega (arith, below))

pub part_completes : (t : List ℕ) (end : ℕ) (h : IsPart t end) (n : ℕ) → n ≤ h.part → n ≤ 2
    → Completes (take (h.whole + 1 + n) t)
part_completes t end h n within few =
    let w = take h.whole t in
    let g = take n (drop (h.whole + 1) t) in
    let f = g ++ 49 ∷ [] in
    let wide : length w ≡ h.whole = first_count 15 t h.whole h.whole h.first (omega arith) in
    let count : length g ≡ n = first_count 3 (drop (h.whole + 1) t) h.part n h.second within in
    let long : length f ≡ n + 1 = length-append g (49 ∷ []) ∙ ap (λ i. i + 1) count in
    let value : digits_value 10 f ≡ digits_value 10 g * 10 + 1 = digits_value_push 10 g 49 in
    let some : 0 < digits_value 10 f * 10 ^ (3 - length f) =
    positive (digits_value 10 f) (3 - length f) (omega (arith, value)) (omega (arith, long)) in
    record {
      more = 49 ∷ [];
      value = digits_value 10 w * 1000 + digits_value 10 f * 10 ^ (3 - length f);
      reads = ap (λ s. unsigned_of (s ++ 49 ∷ [])) (cut t end h n)
          ∙ ap unsigned_of (append_assoc w (46 ∷ g) (49 ∷ []))
          ∙ with_fraction w f (first_digits 15 t h.whole h.whole h.first (omega arith))
          (omega (arith, wide, h.some)) (omega (arith, wide, h.first.few))
          (digits_pushed g 49 (first_digits 3 (drop (h.whole + 1) t) h.part n h.second within)
          (omega arith, omega arith)) (omega (arith, long)) (omega (arith, long, few));
      above = omega (arith, some);
    }

-- with three digits after its point the beginning is a number itself
pub record IsFull (t : List ℕ) (end : ℕ) : Type 0 where
  pub value : ℕ
  pub reads : unsigned_of (take end t) ≡ Some value
  pub five : 5 ≤ end
  pub point : get_or t (end - 4) 0 ≡ 46

full : (t : List ℕ) (end : ℕ) (h : IsPart t end) → h.part ≡ 3 → IsFull t end
full t end h three =
    let w = take h.whole t in
    let g = take h.part (drop (h.whole + 1) t) in
    let wide : length w ≡ h.whole = first_count 15 t h.whole h.whole h.first (omega arith) in
    let count : length g ≡ h.part =
    first_count 3 (drop (h.whole + 1) t) h.part h.part h.second (omega arith) in
    let place : end - 4 ≡ h.whole = omega (arith, h.is, three) in
    record {
      value = digits_value 10 w * 1000 + digits_value 10 g * 10 ^ (3 - length g);
      reads = ap (λ n. unsigned_of (take n t)) h.is ∙ ap unsigned_of (cut t end h h.part)
          ∙ with_fraction w g (first_digits 15 t h.whole h.whole h.first (omega arith))
          (omega (arith, wide, h.some)) (omega (arith, wide, h.first.few))
          (first_digits 3 (drop (h.whole + 1) t) h.part h.part h.second (omega arith))
          (omega (arith, count, three)) (omega (arith, count, three));
      five = omega (arith, h.is, three, h.some);
      point = ap (λ n. get_or t n 0) place ∙ h.point;
    }

pub begins : (t : List ℕ) (end : ℕ) → IsWhole t end ⊎ IsPart t end → Completes (take end t) ⊎ IsFull t end
begins t end (inl h) = inl (subst (λ n. Completes (take n t)) (sym h.is) (whole_completes t h.whole h.first))
begins t end (inr h) = by (cases_order h.part 3)
  where
    by : (h.part ≡ 3) ⊎ ((h.part < 3) ⊎ (3 < h.part)) → Completes (take end t) ⊎ IsFull t end
    by (inl three) = inr (full t end h three)
    by (inr (inl few)) =
        inl (subst (λ n. Completes (take n t)) (sym h.is)
        (part_completes t end h h.part (omega arith) (omega (arith, few))))
    by (inr (inr many)) = absurd (omega (arith, many, h.second.few))

pub within : (t : List ℕ) (end : ℕ) → IsWhole t end ⊎ IsPart t end → end ≤ length t
within t end (inl h) = omega (arith, h.is, h.first.within)
within t end (inr h) =
    let after = length-drop (h.whole + 1) t in omega (arith, h.is, h.second.within, after, h.inside)
