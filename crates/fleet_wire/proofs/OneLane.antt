-- One device on a lane: a datagram comes, a datagram goes on.
use Rattle.std.proofs.Common.{◌≡◌, ◌⊎◌, inl, inr, ℕ, suc, ◌+◌, ◌≤◌, ◌<◌, ◌==◌, Bool, true, false, cond, List, []}
use Rattle.std.proofs.Common.{◌∷◌, ◌++◌}
use Rattle.std.proofs.Common.{length, Some, slice_get, refl, sym, ap, subst, ◌∙◌, arith}
use Rattle.std.specs.List.{AllByRecursion, sum_by}
use Rattle.std.proofs.lemmas.Bool.{cases_eq, eq-eqb, ne_eqb}
use Rattle.std.proofs.lemmas.Bool.Decides.{nat_tests}
use Rattle.std.proofs.lemmas.List.Sums.{sum_by-append, sum_by-cons, sum_by_push}
use Rattle.std.proofs.lemmas.Option.{slice_get_within}
use Rattle.lemmas.proofs.Lists.{each_pushed, each_weaker, item_pushed, length_pushed, pushed_cases, item_before}
use Rattle.lemmas.proofs.Lists.{each_here}
use Rattle.lemmas.proofs.Tests.{or_first}
use Rattle.fleet_link.specs.Traffic.{ReceivedPacket}
use Rattle.fleet_wire.specs.declared.lane.Held.{Held}
use Rattle.fleet_wire.specs.declared.plan.Fate.{Fate}
use Rattle.fleet_wire.specs.declared.plan.Fate.TheVariants.{Late, Lost, Passes, Swapped, Twice}
use Rattle.fleet_wire.specs.Schedule.{copies, goes_at_once}
use Rattle.fleet_wire.specs.Lane.{held_with, is_due, is_over, ForwardedPacket, IsAtOnce, IsRightAfter, IsGone, IsHeld}
use Rattle.fleet_wire.specs.Lane.{IsLane, IsOver}
use Rattle.fleet_wire.proofs.Held.{each_without, Waits}

-- ---- lists

each_both : {X : Type 0} (P Q R : X → Type 0) → ((x : X) → P x → Q x → R x) → (xs : List X) → AllByRecursion P xs
    → AllByRecursion Q xs → AllByRecursion R xs
each_both P Q R f [] h k = tt
each_both P Q R f (x ∷ xs) h k = (f x h.0 k.0, each_both P Q R f xs h.1 k.1)

-- how often a place is among those that went on
abbrev gone_at : ℕ → ForwardedPacket → ℕ
gone_at i w = cond (w.place == i) 1 0

abbrev held_at : ℕ → Held → ℕ
held_at i h = cond (h.place == i) 1 0

none_gone : (i : ℕ) (went : List ForwardedPacket)
    → ((k : ℕ) (w : ForwardedPacket) → slice_get went k ≡ Some w → w.place ≡ i → ⊥)
    → sum_by (gone_at i) went ≡ 0
none_gone i [] h = refl
none_gone i (w ∷ went) h =
    let here : gone_at i w ≡ 0 = ap (λ b. cond b 1 0) (ne_eqb w.place i (h 0 w refl)) in
    let rest = none_gone i went (λ k v got. h (suc k) v got) in
    omega (arith, sum_by-cons (gone_at i) w went, here, rest)

none_held : (i : ℕ) (held : List Held) → AllByRecursion (λ h. h.place ≡ i → ⊥) held → sum_by (held_at i) held ≡ 0
none_held i [] h = refl
none_held i (x ∷ held) h =
    let here : held_at i x ≡ 0 = ap (λ b. cond b 1 0) (ne_eqb x.place i h.0) in
    let rest = none_held i held h.1 in
    omega (arith, sum_by-cons (held_at i) x held, here, rest)

-- one that is counted is there
record IsAmong (i : ℕ) (went : List ForwardedPacket) : Type 0 where
  pub gone : ForwardedPacket
  pub at : ℕ
  pub is : slice_get went at ≡ Some gone
  pub place : gone.place ≡ i

some_gone : (i : ℕ) (went : List ForwardedPacket) → 1 ≤ sum_by (gone_at i) went → IsAmong i went
some_gone i [] h = absurd (omega (arith, h))
some_gone i (w ∷ went) h = at (cases_eq w.place i) (some_gone i went)
  where
    at : (w.place ≡ i) ⊎ (w.place ≡ i → ⊥) → (1 ≤ sum_by (gone_at i) went → IsAmong i went) → IsAmong i (w ∷ went)
    at (inl same) rest = record { gone = w; at = 0; is = refl; place = same }
    at (inr other) rest =
        let here : gone_at i w ≡ 0 = ap (λ b. cond b 1 0) (ne_eqb w.place i other) in
        let there = rest (omega (arith, sum_by-cons (gone_at i) w went, here, h)) in
        record { gone = there.gone; at = suc there.at; is = there.is; place = there.place }

-- ---- what is held

pub held_later : (fate : ℕ → Fate) (now second : ℕ) (came : List ReceivedPacket) (freed : Bool) → now ≤ second
    → (h : Held)
    → IsHeld fate now came freed h → IsHeld fate second came freed h
held_later fate now second came freed later h is =
    record {
      heard = is.heard;
      is = is.is;
      same = is.same;
      second = is.second;
      until = omega (arith, is.until, later);
      fate_is = is.fate_is;
      last = is.last;
      waits = is.waits;
    }

-- it does not go now
abbrev pub IsQuiet : Bool → Held → Type 0
IsQuiet freed h = (goes_at_once h.fate ≡ false) × (h.fate ≡ Swapped → freed ≡ false)

pub quiet : (f : Fate) (freed over : Bool) → is_due f freed over ≡ false
    → (goes_at_once f ≡ false) × (f ≡ Swapped → freed ≡ false)
quiet Lost freed over h = (refl, λ e. let no : ⊥ = cc in absurd no)
quiet Twice freed over h = let no : ⊥ = cc in absurd no
quiet Swapped freed over h = (refl, λ e. or_first freed over h)
quiet Late freed over h = (refl, λ e. let no : ⊥ = cc in absurd no)
quiet Passes freed over h = let no : ⊥ = cc in absurd no

held_elsewhere : (fate : ℕ → Fate) (now second : ℕ) (came : List ReceivedPacket) (freed : Bool) → now ≤ second
    → (h : Held)
    → IsHeld fate now came freed h → IsQuiet freed h → IsHeld fate second came false h
held_elsewhere fate now second came freed later h is q =
    record {
      heard = is.heard;
      is = is.is;
      same = is.same;
      second = is.second;
      until = omega (arith, is.until, later);
      fate_is = is.fate_is;
      last = is.last;
      waits = λ s p a b c.
          let yes = is.waits s p a b c in
          let no = q.1 s in
          let never : ⊥ = cc in
          absurd never;
    }

-- ---- a second passes, or a datagram comes of another device

pub lane_later : (fate : ℕ → Fate) (late_by now second : ℕ) (came : List ReceivedPacket) (went : List ForwardedPacket)
    (held : List Held)
    (freed : Bool) → now ≤ second → IsLane fate late_by now came went held freed
    → IsLane fate late_by second came went held freed
lane_later fate late_by now second came went held freed later l =
    record {
      gone = l.gone;
      often = l.often;
      ordered = l.ordered;
      swapped = l.swapped;
      waiting = each_weaker (IsHeld fate now came freed) (IsHeld fate second came freed)
          (held_later fate now second came freed later) held l.waiting;
      last = l.last;
    }

pub lane_elsewhere : (fate : ℕ → Fate) (late_by now second : ℕ) (came : List ReceivedPacket)
    (went : List ForwardedPacket)
    (held : List Held) (freed : Bool) → now ≤ second → IsLane fate late_by now came went held freed
    → AllByRecursion (IsQuiet freed) held → IsLane fate late_by second came went held false
lane_elsewhere fate late_by now second came went held freed later l q =
    record {
      gone = l.gone;
      often = l.often;
      ordered = l.ordered;
      swapped = l.swapped;
      waiting = each_both (IsHeld fate now came freed) (IsQuiet freed) (IsHeld fate second came false)
          (held_elsewhere fate now second came freed later) held l.waiting q;
      last = λ e. let no : ⊥ = cc in absurd no;
    }

-- ---- a datagram comes

count_with : (f : Fate) (h : Held) (xs : List Held) (i : ℕ)
    → sum_by (held_at i) (held_with f h xs) ≡ cond (h.place == i) (copies f) 0 + sum_by (held_at i) xs
count_with f h xs i = at f (h.place == i) refl
  where
    one : (b : Bool) → (h.place == i) ≡ b → held_at i h ≡ cond b 1 0
    one b e = ap (λ t. cond t 1 0) e

    at : (f : Fate) (b : Bool) → (h.place == i) ≡ b
        → sum_by (held_at i) (held_with f h xs) ≡ cond b (copies f) 0 + sum_by (held_at i) xs
    at Lost true e = omega arith
    at Lost false e = omega arith
    at Twice true e =
        omega (arith, one true e, sum_by-cons (held_at i) h (h ∷ xs), sum_by-cons (held_at i) h xs)
    at Twice false e =
        omega (arith, one false e, sum_by-cons (held_at i) h (h ∷ xs), sum_by-cons (held_at i) h xs)
    at Swapped true e = omega (arith, one true e, sum_by_push (held_at i) xs h)
    at Swapped false e = omega (arith, one false e, sum_by_push (held_at i) xs h)
    at Late true e = omega (arith, one true e, sum_by_push (held_at i) xs h)
    at Late false e = omega (arith, one false e, sum_by_push (held_at i) xs h)
    at Passes true e = omega (arith, one true e, sum_by-cons (held_at i) h xs)
    at Passes false e = omega (arith, one false e, sum_by-cons (held_at i) h xs)

each_with : (P : Held → Type 0) (f : Fate) (h : Held) (xs : List Held) → P h → AllByRecursion P xs
    → AllByRecursion P (held_with f h xs)
each_with P Lost h xs p all = all
each_with P Twice h xs p all = (p, (p, all))
each_with P Swapped h xs p all = each_pushed P xs h all p
each_with P Late h xs p all = each_pushed P xs h all p
each_with P Passes h xs p all = (p, all)

-- what is asked of a datagram that is to be held: it is this one, the last that came
pub record IsNew (fate : ℕ → Fate) (second : ℕ) (came : List ReceivedPacket) (x : ReceivedPacket)
    (h : Held) : Type 0 where
  pub place : h.place ≡ length came
  pub same : h.packet ≡ x.packet
  pub when : h.second ≡ x.second
  pub until : x.second ≤ second
  pub fate_is : h.fate ≡ fate (length came)

held_new : (fate : ℕ → Fate) (second : ℕ) (came : List ReceivedPacket) (x : ReceivedPacket) (h : Held) (freed : Bool)
    → IsNew fate second came x h → IsHeld fate second (came ++ x ∷ []) freed h
held_new fate second came x h freed n =
    record {
      heard = x;
      is = subst (λ i. slice_get (came ++ x ∷ []) i ≡ Some x) (sym n.place) (item_pushed came x);
      same = n.same;
      second = n.when;
      until = omega (arith, n.when, n.until);
      fate_is = n.fate_is ∙ ap fate (sym n.place);
      last = λ _. omega (arith, n.place, length_pushed came x);
      waits = λ _ q a b _. absurd (omega (arith, n.place, length_pushed came x, a, b));
    }

held_behind : (fate : ℕ → Fate) (now second : ℕ) (came : List ReceivedPacket) (x : ReceivedPacket) (freed : Bool)
    → now ≤ second
    → (h : Held) → IsHeld fate now came freed h → IsQuiet freed h
    → IsHeld fate second (came ++ x ∷ []) (goes_at_once (fate (length came))) h
held_behind fate now second came x freed later h is q =
    record {
      heard = is.heard;
      is = item_before came x h.place is.heard is.is;
      same = is.same;
      second = is.second;
      until = omega (arith, is.until, later);
      fate_is = is.fate_is;
      last = λ e. let no = q.0 in let never : ⊥ = cc in absurd never;
      waits = λ s p a b c. at s p a b c (cases_eq p (length came));
    }
  where
    at : h.fate ≡ Swapped → (p : ℕ) → h.place < p → p < length (came ++ x ∷ []) → goes_at_once (fate p) ≡ true
        → (p ≡ length came) ⊎ (p ≡ length came → ⊥)
        → (p + 1 ≡ length (came ++ x ∷ [])) × (goes_at_once (fate (length came)) ≡ true)
    at s p a b c (inl same) =
        (omega (arith, same, length_pushed came x), subst (λ i. goes_at_once (fate i) ≡ true) same c)
    at s p a b c (inr other) =
        let below : p < length came = omega (arith, other, length_pushed came x, b) in
        let yes = is.waits s p a below c in
        let no = q.1 s in
        let never : ⊥ = cc in
        absurd never

pub lane_comes : (fate : ℕ → Fate) (late_by now second : ℕ) (came : List ReceivedPacket) (went : List ForwardedPacket)
    (held : List Held)
    (freed : Bool) (x : ReceivedPacket) (h : Held) → now ≤ second → IsLane fate late_by now came went held freed
    → AllByRecursion (IsQuiet freed) held → IsNew fate second came x h
    → IsLane fate late_by second (came ++ x ∷ []) went (held_with h.fate h held) (goes_at_once h.fate)
lane_comes fate late_by now second came went held freed x h later l q n =
    subst (IsLane fate late_by second (came ++ x ∷ []) went (held_with h.fate h held)) (ap goes_at_once (sym n.fate_is))
    (record {
      gone = λ k w got. still (l.gone k w got);
      often = λ i below. counted i (cases_eq i (length came)) below;
      ordered = l.ordered;
      swapped = λ k w got s. over k w (l.swapped k w got s);
      waiting = each_with (IsHeld fate second (came ++ x ∷ []) (goes_at_once (fate (length came)))) h.fate h held
          (held_new fate second came x h (goes_at_once (fate (length came))) n)
          (each_both (IsHeld fate now came freed) (IsQuiet freed)
          (IsHeld fate second (came ++ x ∷ []) (goes_at_once (fate (length came))))
          (held_behind fate now second came x freed later) held l.waiting q);
      last = λ e. record { place = length came; last = omega (arith, length_pushed came x); at_once = e };
    })
  where
    still : {w : ForwardedPacket} → IsGone fate late_by came w → IsGone fate late_by (came ++ x ∷ []) w
    still {w} g =
        record {
          heard = g.heard;
          is = item_before came x w.place g.heard g.is;
          same = g.same;
          later = g.later;
          late = g.late;
        }

    over : (k : ℕ) (w : ForwardedPacket) → IsOver late_by came w ⊎ IsRightAfter fate went k w
        → IsOver late_by (came ++ x ∷ []) w ⊎ IsRightAfter fate went k w
    over k w (inl o) =
        inl (record { heard = o.heard; is = item_before came x w.place o.heard o.is; over = o.over })
    over k w (inr b) = inr b

    counted : (i : ℕ) → (i ≡ length came) ⊎ (i ≡ length came → ⊥) → i < length (came ++ x ∷ [])
        → sum_by (gone_at i) went + sum_by (held_at i) (held_with h.fate h held) ≡ copies (fate i)
    counted i (inl same) below =
        let here : cond (h.place == i) (copies h.fate) 0 ≡ copies h.fate =
        ap (λ b. cond b (copies h.fate) 0) (eq-eqb h.place i (n.place ∙ sym same)) in
        let fates : copies h.fate ≡ copies (fate i) =
        ap copies (n.fate_is ∙ ap fate (sym same)) in
        let no_gone = none_gone i went (λ k w got p.
        let g = l.gone k w got in
        let in_range = slice_get_within came w.place g.heard g.is in
        let no : ⊥ = omega (arith, in_range, p, same) in no) in
        let no_held = none_held i held (each_weaker (IsHeld fate now came freed) (λ y. y.place ≡ i → ⊥)
        (λ y is p.
        let in_range = slice_get_within came y.place is.heard is.is in
        let no : ⊥ = omega (arith, in_range, p, same) in no) held l.waiting) in
        omega (arith, count_with h.fate h held i, here, fates, no_gone, no_held)
    counted i (inr other) below =
        let here : cond (h.place == i) (copies h.fate) 0 ≡ 0 =
        ap (λ b. cond b (copies h.fate) 0) (ne_eqb h.place i (λ e. other (sym e ∙ n.place))) in
        let within : i < length came = omega (arith, other, length_pushed came x, below) in
        omega (arith, count_with h.fate h held i, here, l.often i within)

-- ---- a datagram goes on

-- the one that goes on, as it is noted
abbrev pub gone_of : ℕ → Held → ForwardedPacket
gone_of second h = record { place = h.place; second = second; packet = h.packet }

own_gone : (fate : ℕ → Fate) (late_by now second : ℕ) (came : List ReceivedPacket) (freed : Bool) (h : Held)
    → now ≤ second
    → IsHeld fate now came freed h → is_due h.fate freed (is_over late_by h.second second) ≡ true
    → IsGone fate late_by came (gone_of second h)
own_gone fate late_by now second came freed h later is due =
    record {
      heard = is.heard;
      is = is.is;
      same = is.same;
      later = omega (arith, is.second, is.until, later);
      late = λ e. over (is.fate_is ∙ e);
    }
  where
    over : h.fate ≡ Late → is.heard.second + late_by ≤ second
    over e =
        let test : is_over late_by h.second second ≡ true =
        subst (λ f. is_due f freed (is_over late_by h.second second) ≡ true) e due in
        let same = is.second in
        let until = is.until in
        grind (arith, nat_tests)

-- a place whose datagram goes on at once, with all held ones waiting, is among those that went on
sent_once : (fate : ℕ → Fate) (late_by now : ℕ) (came : List ReceivedPacket) (went : List ForwardedPacket)
    (held : List Held) (freed : Bool)
    (q : ℕ) → IsLane fate late_by now came went held freed → AllByRecursion Waits held → q < length came
    → goes_at_once (fate q) ≡ true → IsAmong q went
sent_once fate late_by now came went held freed q l waits below once =
    let none = none_held q held (each_both (IsHeld fate now came freed) Waits (λ y. y.place ≡ q → ⊥) other held
    l.waiting waits) in
    some_gone q went (omega (arith, l.often q below, none, at_least (fate q) once))
  where
    other : (y : Held) → IsHeld fate now came freed y → Waits y → y.place ≡ q → ⊥
    other y is w e =
        let f : y.fate ≡ fate q = is.fate_is ∙ ap fate e in
        let yes : goes_at_once y.fate ≡ true = ap goes_at_once f ∙ once in
        cc

    at_least : (f : Fate) → goes_at_once f ≡ true → 1 ≤ copies f
    at_least Lost e = let no : ⊥ = cc in absurd no
    at_least Twice e = omega arith
    at_least Swapped e = let no : ⊥ = cc in absurd no
    at_least Late e = let no : ⊥ = cc in absurd no
    at_least Passes e = omega arith

split_or : (a b : Bool) → is_due Swapped a b ≡ true → (b ≡ true) ⊎ (a ≡ true)
split_or true b e = inr refl
split_or false b e = inl e

own_swapped : (fate : ℕ → Fate) (late_by now second : ℕ) (came : List ReceivedPacket) (went : List ForwardedPacket)
    (held : List Held)
    (freed : Bool) (h : Held) → now ≤ second → IsLane fate late_by now came went held freed
    → IsHeld fate now came freed h → is_due h.fate freed (is_over late_by h.second second) ≡ true
    → (goes_at_once h.fate ≡ false → AllByRecursion Waits held) → fate h.place ≡ Swapped
    → IsOver late_by came (gone_of second h)
    ⊎ IsRightAfter fate (went ++ gone_of second h ∷ []) (length went) (gone_of second h)
own_swapped fate late_by now second came went held freed h later l is due order swapped =
    at (split_or freed (is_over late_by h.second second)
    (subst (λ f. is_due f freed (is_over late_by h.second second) ≡ true) (is.fate_is ∙ swapped) due))
  where
    waits : AllByRecursion Waits held
    waits = order (ap goes_at_once (is.fate_is ∙ swapped))

    free : IsAtOnce fate came → IsRightAfter fate (went ++ gone_of second h ∷ []) (length went) (gone_of second h)
    free once = behind_it once
        (sent_once fate late_by now came went held freed once.place l waits (omega (arith, once.last)) once.at_once)
      where
        alone : (once : IsAtOnce fate came) (j : ℕ) (v : ForwardedPacket) → j < length went
            → (slice_get went j ≡ Some v) ⊎ ((j ≡ length went) × (gone_of second h ≡ v))
            → goes_at_once (fate v.place) ≡ true → h.place < v.place → v.place ≡ once.place
        alone once j v below (inl old) once_v after =
            let g = l.gone j v old in
            let in_range = slice_get_within came v.place g.heard g.is in
            let last = is.waits (is.fate_is ∙ swapped) v.place after in_range once_v in
            omega (arith, last.0, once.last)
        alone once j v below (inr new) once_v after = absurd (omega (arith, below, new.0))

        behind_it : (once : IsAtOnce fate came) → IsAmong once.place went
            → IsRightAfter fate (went ++ gone_of second h ∷ []) (length went) (gone_of second h)
        behind_it once a =
            let in_range = slice_get_within came h.place is.heard is.is in
            let apart : h.place ≡ once.place → ⊥ = λ e.
            let yes = once.at_once in
            let f : fate once.place ≡ Swapped = ap fate (sym e) ∙ swapped in
            let no : goes_at_once (fate once.place) ≡ false = ap goes_at_once f in cc in
            record {
              next = a.gone;
              at = a.at;
              before = slice_get_within went a.at a.gone a.is;
              is = item_before went (gone_of second h) a.at a.gone a.is;
              at_once = subst (λ i. goes_at_once (fate i) ≡ true) (sym a.place) once.at_once;
              after = omega (arith, a.place, once.last, in_range, apart);
              alone = λ j v below got once_v after.
                  alone once j v below (pushed_cases went (gone_of second h) j v got) once_v after ∙ sym a.place;
            }

    at : (is_over late_by h.second second ≡ true) ⊎ (freed ≡ true)
        → IsOver late_by came (gone_of second h)
        ⊎ IsRightAfter fate (went ++ gone_of second h ∷ []) (length went) (gone_of second h)
    at (inl over) =
        let same = is.second in
        let until = is.until in
        inl (record { heard = is.heard; is = is.is; over = grind (arith, nat_tests) })
    at (inr is) = inr (free (l.last is))

behind_still : (fate : ℕ → Fate) (went : List ForwardedPacket) (new : ForwardedPacket) (k : ℕ) (w : ForwardedPacket)
    → slice_get went k ≡ Some w
    → IsRightAfter fate went k w → IsRightAfter fate (went ++ new ∷ []) k w
behind_still fate went new k w got b =
    record {
      next = b.next;
      at = b.at;
      before = b.before;
      is = item_before went new b.at b.next b.is;
      at_once = b.at_once;
      after = b.after;
      alone = λ j v below found once_v after. alone j v below (pushed_cases went new j v found) once_v after;
    }
  where
    alone : (j : ℕ) (v : ForwardedPacket) → j < k → (slice_get went j ≡ Some v) ⊎ ((j ≡ length went) × (new ≡ v))
        → goes_at_once (fate v.place) ≡ true → w.place < v.place → v.place ≡ b.next.place
    alone j v below (inl old) once_v after = b.alone j v below old once_v after
    alone j v below (inr is) once_v after = absurd (omega (arith, below, is.0, slice_get_within went k w got))

pub lane_goes : (fate : ℕ → Fate) (late_by now second : ℕ) (came : List ReceivedPacket) (went : List ForwardedPacket)
    (front : List Held) (h : Held) (back : List Held) (freed : Bool) → now ≤ second
    → IsLane fate late_by now came went (front ++ h ∷ back) freed
    → is_due h.fate freed (is_over late_by h.second second) ≡ true
    → (goes_at_once h.fate ≡ false → AllByRecursion Waits (front ++ h ∷ back))
    → IsLane fate late_by second came (went ++ gone_of second h ∷ []) (front ++ back) freed
lane_goes fate late_by now second came went front h back freed later l due order =
    record {
      gone = λ k w got. gone k w (pushed_cases went (gone_of second h) k w got);
      often = λ i below. counted i (l.often i below);
      ordered = λ j k v w below at_j at_k once_v once_w.
          ordered j k v w below (pushed_cases went (gone_of second h) j v at_j)
          (pushed_cases went (gone_of second h) k w at_k) once_v once_w;
      swapped = λ k w got s. swapped k w (pushed_cases went (gone_of second h) k w got) s;
      waiting = each_weaker (IsHeld fate now came freed) (IsHeld fate second came freed)
          (held_later fate now second came freed later) (front ++ back)
          (each_without (IsHeld fate now came freed) front h back l.waiting);
      last = l.last;
    }
  where
    is : IsHeld fate now came freed h
    is = each_here (IsHeld fate now came freed) front h back l.waiting

    gone : (k : ℕ) (w : ForwardedPacket) → (slice_get went k ≡ Some w) ⊎ ((k ≡ length went) × (gone_of second h ≡ w))
        → IsGone fate late_by came w
    gone k w (inl old) = l.gone k w old
    gone k w (inr new) =
        subst (IsGone fate late_by came) new.1 (own_gone fate late_by now second came freed h later is due)

    counted : (i : ℕ) → sum_by (gone_at i) went + sum_by (held_at i) (front ++ h ∷ back) ≡ copies (fate i)
        → sum_by (gone_at i) (went ++ gone_of second h ∷ []) + sum_by (held_at i) (front ++ back) ≡ copies (fate i)
    counted i e =
        let a = sum_by_push (gone_at i) went (gone_of second h) in
        let b = sum_by-append (held_at i) front (h ∷ back) in
        let c = sum_by-cons (held_at i) h back in
        let d = sum_by-append (held_at i) front back in
        omega (arith, a, b, c, d, e)

    ordered : (j k : ℕ) (v w : ForwardedPacket) → j < k
        → (slice_get went j ≡ Some v) ⊎ ((j ≡ length went) × (gone_of second h ≡ v))
        → (slice_get went k ≡ Some w) ⊎ ((k ≡ length went) × (gone_of second h ≡ w))
        → goes_at_once (fate v.place) ≡ true → goes_at_once (fate w.place) ≡ true → v.place ≤ w.place
    ordered j k v w below (inl a) (inl b) once_v once_w = l.ordered j k v w below a b once_v once_w
    ordered j k v w below (inl a) (inr new) once_v once_w =
        let g = l.gone j v a in
        let in_range = slice_get_within came v.place g.heard g.is in
        let place : h.place ≡ w.place = ap (λ (x : ForwardedPacket). x.place) new.1 in
        let once : goes_at_once h.fate ≡ true =
        ap goes_at_once (is.fate_is ∙ ap fate place) ∙ once_w in
        omega (arith, in_range, is.last once, place)
    ordered j k v w below (inr a) (inl b) once_v once_w =
        absurd (omega (arith, below, a.0, slice_get_within went k w b))
    ordered j k v w below (inr a) (inr b) once_v once_w = absurd (omega (arith, below, a.0, b.0))

    swapped : (k : ℕ) (w : ForwardedPacket) → (slice_get went k ≡ Some w) ⊎ ((k ≡ length went) × (gone_of second h ≡ w))
        → fate w.place ≡ Swapped → IsOver late_by came w ⊎ IsRightAfter fate (went ++ gone_of second h ∷ []) k w
    swapped k w (inl old) s = still (l.swapped k w old s)
      where
        still : IsOver late_by came w ⊎ IsRightAfter fate went k w
            → IsOver late_by came w ⊎ IsRightAfter fate (went ++ gone_of second h ∷ []) k w
        still (inl o) = inl o
        still (inr b) = inr (behind_still fate went (gone_of second h) k w old b)
    swapped k w (inr new) s =
        subst (λ (x : ForwardedPacket). IsOver late_by came x ⊎ IsRightAfter fate (went ++ gone_of second h ∷ []) k x)
        new.1
        (subst (λ i. IsOver late_by came (gone_of second h)
        ⊎ IsRightAfter fate (went ++ gone_of second h ∷ []) i (gone_of second h)) (sym new.0)
        (own_swapped fate late_by now second came went (front ++ h ∷ back) freed h later l is due order
        (ap (λ (x : ForwardedPacket). fate x.place) new.1 ∙ s)))
