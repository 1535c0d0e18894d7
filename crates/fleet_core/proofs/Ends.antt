-- Where runs end, and what their steps need.
use Rattle.std.proofs.Common.{◌≡◌, ℕ, zero, suc, ◌<◌, ◌≤◌, Bool, true, false, ◌⊎◌, inl, inr, List, [], ◌∷◌}
use Rattle.std.proofs.Common.{◌++◌, length, None, Some, slice_get, refl, sym, ap, subst, ◌∙◌, arith}
use Rattle.std.proofs.lemmas.Bool.{cases_eq, cases_lt, lt-ltb, le-ltb, ltb-true, false_from_ne_true, false≢true}
use Rattle.std.proofs.lemmas.List.{append-nil, append_assoc}
use Rattle.std.proofs.lemmas.Option.{slice_get_within}
use Rattle.lemmas.proofs.Lists.{item_at}
use Rattle.scenario_image.specs.declared.step.Step.{Step}
use Rattle.scenario_image.specs.declared.step.Step.TheVariants.{Need}
use Rattle.scenario_image.specs.Scenario.{Scenario, IsValid}
use Rattle.trace_file.specs.declared.entry.Entry.{Entry}
use Rattle.fleet_core.specs.Next.{next_of, may_pass}
use Rattle.fleet_core.specs.Run.{steps_in, step_at, made_by, posts_of, Fits, IsRun, IsComplete, is_enabled}
use Rattle.fleet_core.specs.Run.{entry_of}
use Rattle.fleet_core.specs.Waiting.{is_waiting}
use Rattle.fleet_core.proofs.Posts.{run_push, run_keeps, made_same, made_other, pass_same, pass_more, past_rows}
use Rattle.fleet_core.proofs.Posts.{enabled_fits, blocked_ended}
use Rattle.fleet_core.proofs.Valid.{need_group}
use Rattle.fleet_core.proofs.Lowest.{left, left-next}

-- ---- no device is enabled

pub no_more : (s : Scenario) (es : List Entry) → IsRun s es → ((d : ℕ) → is_enabled s es d ≡ false) → IsComplete s es
no_more s es run blocked = record { run = run; ended = blocked_ended s es blocked }

-- an enabled device has a step left
pub goes_waits : (s : Scenario) (es : List Entry) (d : ℕ) → is_enabled s es d ≡ true → is_waiting s es d ≡ true
goes_waits s es d go =
    let fits = enabled_fits s es 0 d go in
    lt-ltb (made_by d es) (length (steps_in (slice_get s.rows d)))
    (slice_get_within (steps_in (slice_get s.rows d)) (made_by d es) fits.step fits.stands)

pub none_past : {X : Type 0} (xs : List X) (i : ℕ) → slice_get xs i ≡ None → length xs ≤ i
none_past [] i at = omega arith
none_past (x ∷ xs) zero at = let e : Some x ≡ None = at in absurd cc
none_past (x ∷ xs) (suc i) at = omega (arith, none_past xs i at)

-- a device waits where it has a step left
pub waits_step : (s : Scenario) (es : List Entry) (d : ℕ) → is_waiting s es d ≡ true
    → (step : Step) × (step_at s d (made_by d es) ≡ Some step)
waits_step s es d waits =
    item_at (steps_in (slice_get s.rows d)) (made_by d es)
    (ltb-true (made_by d es) (length (steps_in (slice_get s.rows d))) waits)

pub step_waits : (s : Scenario) (es : List Entry) (d : ℕ) (step : Step) → step_at s d (made_by d es) ≡ Some step
    → is_waiting s es d ≡ true
step_waits s es d step at =
    lt-ltb (made_by d es) (length (steps_in (slice_get s.rows d)))
    (slice_get_within (steps_in (slice_get s.rows d)) (made_by d es) step at)

pub end_reached : (s : Scenario) (es : List Entry) (d : ℕ) → step_at s d (made_by d es) ≡ None
    → is_waiting s es d ≡ false
end_reached s es d at =
    le-ltb (made_by d es) (length (steps_in (slice_get s.rows d)))
    (none_past (steps_in (slice_get s.rows d)) (made_by d es) at)

-- a run whose devices are all at the end of their rows is complete
pub done_complete : (s : Scenario) (es : List Entry) → IsRun s es → ((d : ℕ) → is_waiting s es d ≡ false)
    → IsComplete s es
done_complete s es run done =
    no_more s es run
    (λ d. false_from_ne_true (is_enabled s es d) (λ go. false≢true (sym (done d) ∙ goes_waits s es d go)))

made_push : (s : Scenario) (b : List Entry) (e : Entry)
    → ((d : ℕ) → made_by d b ≤ length (steps_in (slice_get s.rows d))) → Fits s b e
    → (d : ℕ) → (e.device ≡ d) ⊎ (e.device ≡ d → ⊥) → made_by d (b ++ e ∷ []) ≤ length (steps_in (slice_get s.rows d))
made_push s b e within fits d (inl own) =
    let at : step_at s e.device (made_by e.device b) ≡ Some fits.step =
    subst (λ k. step_at s e.device k ≡ Some fits.step) fits.count fits.stands in
    let here : step_at s d (made_by d b) ≡ Some fits.step =
    subst (λ i. step_at s i (made_by i b) ≡ Some fits.step) own at in
    omega (arith, made_same d b e own, slice_get_within (steps_in (slice_get s.rows d)) (made_by d b) fits.step here)
made_push s b e within fits d (inr other) = omega (arith, made_other d b e other, within d)

-- a run has no more entries of a device than its row has steps
pub made_most : (s : Scenario) (es : List Entry) (d : ℕ) → IsRun s es
    → made_by d es ≤ length (steps_in (slice_get s.rows d))
made_most s es d run =
    run_keeps s (λ l. (i : ℕ) → made_by i l ≤ length (steps_in (slice_get s.rows i))) (λ i. omega arith)
    (λ b e before within fits i. made_push s b e within fits i (cases_eq e.device i)) es run d

-- ---- tables of posts

-- posts that are the same for the 256 groups say the same of a step
pub pass_alike : (s : Scenario) (d k : ℕ) (p q : ℕ → ℕ) → IsValid s → ((g : ℕ) → g < 256 → p g ≡ q g)
    → may_pass p (next_of (step_at s d k)) ≡ may_pass q (next_of (step_at s d k))
pass_alike s d k p q valid same = pass_same p q (step_at s d k) (λ g n at. same g (need_group s d k g n valid at))

pub enabled_by : (s : Scenario) (es : List Entry) (d : ℕ) (posts : ℕ → ℕ) → IsValid s
    → ((g : ℕ) → g < 256 → posts g ≡ posts_of s g es)
    → may_pass posts (next_of (step_at s d (made_by d es))) ≡ is_enabled s es d
enabled_by s es d posts valid same = pass_alike s d (made_by d es) posts (λ g. posts_of s g es) valid same

-- ---- a device that made no entry

-- what it could do it still can, where there are at least the posts
pub enabled_stays : (s : Scenario) (a b : List Entry) (d : ℕ) → made_by d a ≡ made_by d b
    → ((g : ℕ) → posts_of s g a ≤ posts_of s g b)
    → is_enabled s a d ≡ true → is_enabled s b d ≡ true
enabled_stays s a b d made posts go =
    subst (λ k. may_pass (λ g. posts_of s g b) (next_of (step_at s d k)) ≡ true) made
    (pass_more (λ g. posts_of s g a) (λ g. posts_of s g b) (step_at s d (made_by d a)) posts go)

-- and nothing else, where the group that it needs has the same posts
pub enabled_same : (s : Scenario) (a b : List Entry) (d : ℕ) → made_by d a ≡ made_by d b
    → ((g n : ℕ) → step_at s d (made_by d a) ≡ Some (Need g n) → posts_of s g a ≡ posts_of s g b)
    → is_enabled s a d ≡ is_enabled s b d
enabled_same s a b d made posts =
    pass_same (λ g. posts_of s g a) (λ g. posts_of s g b) (step_at s d (made_by d a)) posts
    ∙ ap (λ k. may_pass (λ g. posts_of s g b) (next_of (step_at s d k))) made

-- ---- every run begins a complete one

-- an enabled device, or none below
abbrev pub IsFound : Scenario → List Entry → ℕ → Type 0
IsFound s es n = ((d : ℕ) × (is_enabled s es d ≡ true)) ⊎ ((d : ℕ) → d < n → is_enabled s es d ≡ false)

below_next : (s : Scenario) (es : List Entry) (n : ℕ) → ((d : ℕ) → d < n → is_enabled s es d ≡ false)
    → is_enabled s es n ≡ false
    → (d : ℕ) → d < suc n → (n ≡ d) ⊎ (n ≡ d → ⊥) → is_enabled s es d ≡ false
below_next s es n below here d within (inl same) = subst (λ i. is_enabled s es i ≡ false) same here
below_next s es n below here d within (inr other) = below d (omega (arith, within, other))

found_next : (s : Scenario) (es : List Entry) (n : ℕ) (b : Bool) → is_enabled s es n ≡ b → IsFound s es n
    → IsFound s es (suc n)
found_next s es n b is (inl found) = inl found
found_next s es n true is (inr below) = inl (n, is)
found_next s es n false is (inr below) = inr (λ d within. below_next s es n below is d within (cases_eq n d))

find : (s : Scenario) (es : List Entry) (n : ℕ) → IsFound s es n
find s es zero = inr (λ d within. absurd (omega (arith, within)))
find s es (suc n) = found_next s es n (is_enabled s es n) refl (find s es n)

all_blocked : (s : Scenario) (es : List Entry) → ((d : ℕ) → d < length s.rows → is_enabled s es d ≡ false) → (d : ℕ)
    → (d < length s.rows) ⊎ (length s.rows ≤ d) → is_enabled s es d ≡ false
all_blocked s es below d (inl within) = below d within
all_blocked s es below d (inr past) = past_rows s es d past

-- the rest of a run that no device continues is empty
ends_here : (s : Scenario) (es : List Entry) → IsRun s es → ((d : ℕ) → d < length s.rows → is_enabled s es d ≡ false)
    → (rest : List Entry) × IsComplete s (es ++ rest)
ends_here s es run below = (
  [],
  subst (IsComplete s) (sym (append-nil es))
      (no_more s es run (λ d. all_blocked s es below d (cases_lt d (length s.rows)))),
)

-- with a device's next entry there are fewer steps left
left_down : (s : Scenario) (es : List Entry) (d : ℕ) → is_enabled s es d ≡ true
    → left (λ i. made_by i es) s.rows ≡ suc (left (λ i. made_by i (es ++ entry_of s 0 d es ∷ [])) s.rows)
left_down s es d go =
    let fits = enabled_fits s es 0 d go in
    left-next (λ i. made_by i es) (λ i. made_by i (es ++ entry_of s 0 d es ∷ [])) s.rows d fits.step fits.stands
    (made_same d es (entry_of s 0 d es) refl) (λ i h. made_other i es (entry_of s 0 d es) h)

abbrev pub Begins : Scenario → ℕ → Type 0
Begins s n = (es : List Entry) → IsRun s es → left (λ i. made_by i es) s.rows ≤ n
    → (rest : List Entry) × IsComplete s (es ++ rest)

with_next : (s : Scenario) (es : List Entry) (e : Entry) → (rest : List Entry) × IsComplete s ((es ++ e ∷ []) ++ rest)
    → (rest : List Entry) × IsComplete s (es ++ rest)
with_next s es e more = (e ∷ more.0, subst (IsComplete s) (append_assoc es (e ∷ []) more.0) more.1)

goes_on : (s : Scenario) (n : ℕ) → Begins s n → (es : List Entry) → IsRun s es → left (λ i. made_by i es) s.rows ≤ suc n
    → IsFound s es (length s.rows) → (rest : List Entry) × IsComplete s (es ++ rest)
goes_on s n begins es run room (inr below) = ends_here s es run below
goes_on s n begins es run room (inl found) =
    let e : Entry = entry_of s 0 found.0 es in
    with_next s es e
    (begins (es ++ e ∷ []) (run_push s es e run (enabled_fits s es 0 found.0 found.1))
    (omega (arith, left_down s es found.0 found.1, room)))

stays : (s : Scenario) (es : List Entry) → IsRun s es → left (λ i. made_by i es) s.rows ≤ 0
    → IsFound s es (length s.rows)
    → (rest : List Entry) × IsComplete s (es ++ rest)
stays s es run room (inr below) = ends_here s es run below
stays s es run room (inl found) = absurd (omega (arith, left_down s es found.0 found.1, room))

begins_in : (s : Scenario) (n : ℕ) → Begins s n
begins_in s zero es run room = stays s es run room (find s es (length s.rows))
begins_in s (suc n) es run room = goes_on s n (begins_in s n) es run room (find s es (length s.rows))

pub begins : (s : Scenario) (es : List Entry) → IsRun s es → (rest : List Entry) × IsComplete s (es ++ rest)
begins s es run = begins_in s (left (λ i. made_by i es) s.rows) es run (omega arith)
