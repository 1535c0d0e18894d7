-- How many events devices take in a move.
use Rattle.std.proofs.Common.{◌≡◌, ℕ, zero, suc, ◌+◌, ◌-◌, ◌*◌, ◌/◌, ◌<◌, ◌≤◌, ◌⊎◌, inl, inr, nat_lt, cond, List}
use Rattle.std.proofs.Common.{◌++◌, length, take, drop, filter, Some, slice_get, slice_range}
use Rattle.std.proofs.Common.{refl, sym, ap, subst, ◌∙◌, arith, add-one, length-append}
use Rattle.std.proofs.lemmas.Bool.{le-leb, lt-leb, lt-ltb, cases_lt}
use Rattle.std.proofs.lemmas.List.{take-append-drop, take-take, drop-take}
use Rattle.std.proofs.lemmas.List.Elements.{filter-append}
use Rattle.lemmas.proofs.Lists.{item_at, take_none, take_one_more}
use Rattle.scenario_image.specs.Play.{is_event}
use Rattle.scenario_image.specs.Scenario.{Scenario, IsValid}
use Rattle.trace_file.specs.declared.entry.Entry.{Entry}
use Rattle.fleet_core.specs.Run.{made_by, step_at, Fits, IsRun}
use Rattle.fleet_core.proofs.Sums.{made-append}
use Rattle.debugger.specs.Session.{Session}
use Rattle.debugger.specs.Replayed.{devices_between, events_among, events_by, is_event_at, GoesBack, IsLatestCopy}
use Rattle.debugger.specs.Replayed.{IsReplayedBack}
use Rattle.debugger.specs.Moves.{HasSteps, steps_between, steps_to}
use Rattle.device_entries.proofs.Runs.{fits_at, made_own, made_else, step_before}
use Rattle.device_entries.proofs.Counting.{entry_row}
use Rattle.debugger.proofs.Events.{events_apart, events_few, events_next, events_order, few_taken, filter_push}
use Rattle.debugger.proofs.Moving.{few_steps}
use Rattle.debugger.proofs.Totals.{total, total_adds, total_none, total_plus, total_within}

-- ---- one device

pub on_between : (s : Scenario) (d from to : ℕ) → from ≤ to
    → steps_between s d from to ≡ events_by s d to - events_by s d from
on_between s d from to order =
    ap (λ b. cond b (events_by s d to - events_by s d from) (events_by s d to - events_by s d (64 * (to / 64))))
    (le-leb from to order)

pub back_between : (s : Scenario) (d from to : ℕ) → to < from
    → steps_between s d from to ≡ events_by s d to - events_by s d (64 * (to / 64))
back_between s d from to order =
    ap (λ b. cond b (events_by s d to - events_by s d from) (events_by s d to - events_by s d (64 * (to / 64))))
    (lt-leb from to order)

few_by : (s : Scenario) (d from to : ℕ) → (to < from) ⊎ (from ≤ to) → steps_between s d from to ≤ to
few_by s d from to (inl back) =
    let few = events_few s d to in
    let is = back_between s d from to back in omega (arith, is, few)
few_by s d from to (inr on) =
    let few = events_few s d to in
    let is = on_between s d from to on in omega (arith, is, few)

-- a row has at most 4,096 steps, so no device takes more
pub few_between : (s : Scenario) (d from to : ℕ) → IsValid s → HasSteps s d to → steps_between s d from to ≤ 4096
few_between s d from to valid row =
    let most : to ≤ 4096 = few_steps s d to valid row in
    let few : steps_between s d from to ≤ to = few_by s d from to (cases_lt to from) in
    omega (arith, most, few)

-- none without an entry, and back at most 63
back_few : (s : Scenario) (d a b x : ℕ) → a ≡ b + x → steps_between s d a b ≤ 63 * cond (nat_lt 0 x) 1 0
back_few s d a b zero same =
    let on : steps_between s d a b ≡ events_by s d b - events_by s d a = on_between s d a b (omega (arith, same)) in
    let less : events_by s d b ≤ events_by s d a = events_order s d b a (omega (arith, same)) in
    omega (arith, on, less)
back_few s d a b (suc x) same =
    let back : steps_between s d a b ≡ events_by s d b - events_by s d (64 * (b / 64)) =
    back_between s d a b (omega (arith, same)) in
    let apart : events_by s d b + 64 * (b / 64) ≤ events_by s d (64 * (b / 64)) + b =
    events_apart s d (64 * (b / 64)) b (omega arith) in
    let one : ◌≡◌ {A = ℕ} (cond (nat_lt 0 (suc x)) 1 0) 1 =
    ap (λ t. cond {A = ℕ} t 1 0) (lt-ltb 0 (suc x) (omega arith)) in
    let most : steps_between s d a b ≤ 63 = omega (arith, back, apart) in
    subst (λ n. steps_between s d a b ≤ 63 * n) (sym one) most

-- none where it makes none
pub none_between : (s : Scenario) (d from to : ℕ) → from ≡ to → steps_between s d from to ≡ 0
none_between s d from to same =
    let on = on_between s d from to (omega (arith, same)) in
    let less = events_order s d to from (omega (arith, same)) in omega (arith, on, less)

-- ---- the entries between two places

-- the entries before the second place are those before the first and those between the two
whole_is : (es : List Entry) (from to : ℕ) → from ≤ to → take to es ≡ take from es ++ slice_range es from to
whole_is es from to order =
    let end : from + (to - from) ≡ to = omega (arith, order) in
    sym (take-append-drop from (take to es))
    ∙ (ap (λ l. l ++ drop from (take to es)) (take-take from to es order)
    ∙ ap (λ l. take from es ++ l)
    (sym (ap (λ k. drop from (take k es)) end) ∙ drop-take from (to - from) es))

-- as many as before the second place are before the first and between the two
pub made_parts : (es : List Entry) (d from to : ℕ) → from ≤ to
    → made_by d (take to es) ≡ made_by d (take from es) + made_by d (slice_range es from to)
made_parts es d from to order =
    ap (made_by d) (whole_is es from to order) ∙ made-append d (take from es) (slice_range es from to)

events_parts : (s : Scenario) (es : List Entry) (from to : ℕ) → from ≤ to
    → events_among s (take to es) ≡ events_among s (take from es) + events_among s (slice_range es from to)
events_parts s es from to order =
    let p = λ (e : Entry). is_event_at (step_at s e.device e.step) in
    ap (events_among s) (whole_is es from to order)
    ∙ ap length (filter-append p (take from es) (slice_range es from to))
    ∙ length-append (filter p (take from es)) (filter p (slice_range es from to))

-- with one entry more
among_next : (s : Scenario) (es : List Entry) (n : ℕ) (e : Entry) → slice_get es n ≡ Some e
    → (fits : Fits s (take n es) e)
    → events_among s (take (suc n) es) ≡ events_among s (take n es) + cond (is_event fits.step) 1 0
among_next s es n e at fits =
    let p = λ (x : Entry). is_event_at (step_at s x.device x.step) in
    ap (λ k. events_among s (take k es)) (sym (add-one n)) ∙ ap (events_among s) (take_one_more es n e at)
    ∙ filter_push p (take n es) e
    ∙ ap (λ b. events_among s (take n es) + cond b 1 0) (ap is_event_at fits.stands)

own_next : (s : Scenario) (es : List Entry) (n : ℕ) (e : Entry) → IsRun s es → slice_get es n ≡ Some e
    → (fits : Fits s (take n es) e)
    → events_by s e.device (made_by e.device (take (suc n) es))
    ≡ events_by s e.device (made_by e.device (take n es)) + cond (is_event fits.step) 1 0
own_next s es n e run at fits =
    let one : suc n ≡ n + 1 = sym (add-one n) in
    let more : made_by e.device (take (suc n) es) ≡ e.step + 1 =
    ap (λ m. made_by e.device (take m es)) one ∙ made_own es e.device n e at refl ∙ sym (add-one _)
    ∙ ap (λ k. k + 1) (sym (step_before s es e.device n e run at refl)) in
    ap (events_by s e.device) more ∙ events_next s e.device e.step fits.step fits.stands
    ∙ ap (λ k. events_by s e.device k + cond (is_event fits.step) 1 0) (step_before s es e.device n e run at refl)

-- each entry of a run is a row's
pub all_events : (s : Scenario) (es : List Entry) (n : ℕ) → IsRun s es → n ≤ length es
    → total (λ d. events_by s d (made_by d (take n es))) (length s.rows) ≡ events_among s (take n es)
all_events s es zero run within =
    total_none (λ d. events_by s d (made_by d (take 0 es))) (length s.rows)
    (λ d less. let few = events_few s d (made_by d (take 0 es)) in
    let none = ap (made_by d) (take_none es) in omega (arith, few, none))
    ∙ sym (ap (events_among s) (take_none es))
all_events s es (suc n) run within =
    let found = item_at es n (omega (arith, within)) in
    let one : suc n ≡ n + 1 = sym (add-one n) in
    let fits = fits_at s es n found.0 run found.1 in
    total_adds (λ d. events_by s d (made_by d (take n es))) (λ d. events_by s d (made_by d (take (suc n) es)))
    (cond (is_event fits.step) 1 0) (length s.rows) found.0.device
    (entry_row s es n found.0 run found.1) (own_next s es n found.0 run found.1 fits)
    (λ d other. ap (events_by s d)
    (ap (λ m. made_by d (take m es)) one ∙ made_else es d n found.0 found.1 other))
    ∙ ap (λ k. k + cond (is_event fits.step) 1 0) (all_events s es n run (omega (arith, within)))
    ∙ sym (among_next s es n found.0 found.1 fits)

-- ---- all devices

on_adds : (s : Scenario) (d a b x : ℕ) → b ≡ a + x → steps_between s d a b + events_by s d a ≡ events_by s d b
on_adds s d a b x same =
    let on = on_between s d a b (omega (arith, same)) in
    let less = events_order s d a b (omega (arith, same)) in
    omega (arith, on, less)

-- forward the events among the entries are taken
pub steps_on : (v : Session) (to : ℕ) → IsRun v.scenario v.entries → v.place ≤ to → to ≤ length v.entries
    → steps_to v to ≡ events_among v.scenario (slice_range v.entries v.place to)
steps_on v to run order within =
    let s = v.scenario in
    let before : total (λ d. events_by s d (made_by d (take v.place v.entries))) (length s.rows)
    ≡ events_among s (take v.place v.entries) =
    all_events s v.entries v.place run (omega (arith, order, within)) in
    let after : total (λ d. events_by s d (made_by d (take to v.entries))) (length s.rows)
    ≡ events_among s (take to v.entries) = all_events s v.entries to run within in
    let sums = total_plus
    (λ d. steps_between s d (made_by d (take v.place v.entries)) (made_by d (take to v.entries)))
    (λ d. events_by s d (made_by d (take v.place v.entries))) (λ d. events_by s d (made_by d (take to v.entries)))
    (length s.rows)
    (λ d less. on_adds s d (made_by d (take v.place v.entries)) (made_by d (take to v.entries))
    (made_by d (slice_range v.entries v.place to)) (made_parts v.entries d v.place to order)) in
    let parts = events_parts s v.entries v.place to order in
    omega (arith, before, after, sums, parts)

-- at most one for each entry
pub few_on : (s : Scenario) (es : List Entry) (from count : ℕ)
    → events_among s (slice_range es from (from + count)) ≤ count
few_on s es from count =
    let p = λ (x : Entry). is_event_at (step_at s x.device x.step) in
    let few = few_taken p (from + count - from) (drop from es) in
    omega (arith, few)

-- back there are at most 63 for each device that has an entry
pub steps_back : (v : Session) (to : ℕ) → to ≤ v.place → steps_to v to ≤ 63 * devices_between v to v.place
steps_back v to order =
    total_within
    (λ d. steps_between v.scenario d (made_by d (take v.place v.entries)) (made_by d (take to v.entries)))
    (λ d. cond (nat_lt 0 (made_by d (slice_range v.entries to v.place))) 1 0) (length v.scenario.rows)
    (λ d less. back_few v.scenario d (made_by d (take v.place v.entries)) (made_by d (take to v.entries))
    (made_by d (slice_range v.entries to v.place)) (made_parts v.entries d to v.place order))

again_back : (s : Scenario) (d from to copied : ℕ) → IsLatestCopy to copied → to < from
    → events_by s d copied + steps_between s d from to ≡ events_by s d to
again_back s d from to copied is back =
    let same : copied ≡ 64 * (to / 64) = omega (arith, is.copied_is, is.before, is.latest) in
    let steps = back_between s d from to back in
    let less = events_order s d (64 * (to / 64)) to (omega arith) in
    let first : events_by s d copied ≡ events_by s d (64 * (to / 64)) = ap (events_by s d) same in
    omega (arith, steps, less, first)

goes_back : (s : Scenario) (d from to : ℕ) → GoesBack s d from to (steps_between s d from to)
goes_back s d from to = record {
  still = λ e. let on = on_between s d from to (omega (arith, e)) in
      let less = events_order s d to from (omega (arith, e)) in omega (arith, on, less);
  again = λ copied is back. again_back s d from to copied is back;
}

-- each device goes back from its latest copy
pub replayed_back : (v : Session) (to : ℕ) → IsReplayedBack v to (steps_to v to)
replayed_back v to = record {
  each = λ d. steps_between v.scenario d (made_by d (take v.place v.entries)) (made_by d (take to v.entries));
  goes = λ d less. goes_back v.scenario d (made_by d (take v.place v.entries)) (made_by d (take to v.entries));
  all = refl;
}
