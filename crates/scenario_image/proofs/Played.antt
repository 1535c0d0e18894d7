-- A device that takes steps one after another.
use Rattle.std.proofs.Common.{◌≡◌, ℕ, ◌+◌, ◌≤◌, ◌⊎◌, inl, inr, Bool, ◌||◌, true, false, List, [], ◌∷◌, ◌++◌}
use Rattle.std.proofs.Common.{length, map, take, Option, None, Some, is_some, slice_get, Ok, Err, ◌↔◌, refl, sym, ap}
use Rattle.std.proofs.Common.{subst, ◌∙◌, arith, length-append}
use Rattle.std.proofs.lemmas.List.{take_all, map-append, length-take-le}
use Rattle.std.proofs.lemmas.List.Folds.{list_any-append}
use Rattle.std.proofs.lemmas.Option.{slice_get_within}
use Rattle.std.specs.Bool.{IsTrue}
use Rattle.std.specs.List.{list_any}
use Rattle.lemmas.proofs.Lists.{pushed_cases, take_one_more}
use Rattle.lemmas.proofs.Tests.{never_both}
use Rattle.device_machine.specs.declared.fault.StepFault.{StepFault}
use Rattle.device_machine.specs.declared.fault.StepFault.TheVariants.{Memory, Spent}
use Rattle.device_machine.specs.declared.output.Output.{Output}
use Rattle.device_machine.specs.State.{DeviceState, Machine, Device, Shows}
use Rattle.device_machine.specs.Reactions.{passes_end}
use Rattle.scenario_image.specs.declared.step.Step.{Step}
use Rattle.scenario_image.specs.declared.step.Step.TheVariants.{Event, Post, Need}
use Rattle.scenario_image.specs.Play.{step_after, step_outputs, state_after, PutsOut, is_step_refused, device_showing}
use Rattle.scenario_image.specs.Play.{IsStopped, IsLeft, is_event, outputs_in}

-- the first n steps are not refused after those before them
abbrev pub AreTaken : Machine → List Step → ℕ → Type 0
AreTaken f steps n =
    (k : ℕ) (s : Step) → slice_get (take n steps) k ≡ Some s
    → is_step_refused (device_showing (state_after f (take k steps))) s ≡ false

-- a spent device, which has heard of none of these steps
abbrev pub IsDeaf : Device → List Step → Type 0
IsDeaf device steps = (device.spent ≡ true) × (list_any is_event steps ≡ false)

-- a device has taken the first n of these steps, and this is what they output
pub record IsPlayed (old new : Device) (steps : List Step) (n : ℕ) (all : List (Option (List Output))) : Type 0 where
  pub count : length all ≡ n
  pub shows : (f : Machine) → Shows old f → Shows new (state_after f (take n steps))
  pub outputs : (f : Machine) → Shows old f → (k : ℕ) (o : Option (List Output)) → slice_get all k ≡ Some o
      → PutsOut f steps k (outputs_in o)
  pub asked : map is_some all ≡ map is_event (take n steps)
  pub taken : (f : Machine) → Shows old f → AreTaken f steps n
  pub deaf : old.spent ≡ true → IsDeaf new (take n steps)

-- the state after one step more
pub after_push : (f : Machine) (steps : List Step) (step : Step)
    → state_after f (steps ++ step ∷ []) ≡ step_after (state_after f steps) step
after_push f [] step = refl
after_push f (s ∷ steps) step = after_push (step_after f s) steps step

pub next_state : (f : Machine) (steps : List Step) (k : ℕ) (step : Step) → slice_get steps k ≡ Some step
    → state_after f (take (k + 1) steps) ≡ step_after (state_after f (take k steps)) step
next_state f steps k step h = ap (state_after f) (take_one_more steps k step h) ∙ after_push f (take k steps) step

never : {X : Type 0} (k : ℕ) (x : X) → slice_get [] k ≡ Some x → ⊥
never k x h = let e : None ≡ Some x = h in cc

by_place : (f : Machine) (steps : List Step) (n : ℕ) (all : List (Option (List Output))) (step : Step)
    (o : Option (List Output)) (k : ℕ) (p : Option (List Output))
    → length all ≡ n → slice_get steps n ≡ Some step → outputs_in o ≡ step_outputs (state_after f (take n steps)) step
    → (slice_get all k ≡ Some p → PutsOut f steps k (outputs_in p)) → (slice_get all k ≡ Some p)
    ⊎ ((k ≡ length all) × (o ≡ p)) → PutsOut f steps k (outputs_in p)
by_place f steps n all step o k p count at put_out before (inl h) = before h
by_place f steps n all step o k p count at put_out before (inr h) =
    subst (λ m. PutsOut f steps m (outputs_in p)) (sym (h.0 ∙ count))
    (record { step = step; stands = at; put_out = ap outputs_in (sym h.1) ∙ put_out })

pub starts : (device : Device) (steps : List Step) → IsPlayed device device steps 0 []
starts device steps =
    record {
      count = refl;
      shows = λ f h. h;
      outputs = λ f h k o e. absurd (never k o e);
      asked = refl;
      taken =
          λ f h k s e. absurd (never k s e);
      deaf = λ h. (h, refl);
    }

-- a device refuses what the one that shows its flat state refuses
same_refusal : (x : Device) (f : Machine) (step : Step) → Shows x f
    → is_step_refused x step ≡ is_step_refused (device_showing f) step
same_refusal x f (Event e) h =
    ap (λ b. b || passes_end x.flat.kept.clock e) h.ready ∙ ap (λ (k : DeviceState). passes_end k.clock e) h.kept
same_refusal x f (Post group) h = refl
same_refusal x f (Need group count) h = refl

taken_by_place : (f : Machine) (steps : List Step) (n : ℕ) (step : Step) (k : ℕ) (s : Step)
    → length (take n steps) ≡ n → is_step_refused (device_showing (state_after f (take n steps))) step ≡ false
    → AreTaken f steps n
    → (slice_get (take n steps) k ≡ Some s) ⊎ ((k ≡ length (take n steps)) × (step ≡ s))
    → is_step_refused (device_showing (state_after f (take k steps))) s ≡ false
taken_by_place f steps n step k s count free before (inl h) = before k s h
taken_by_place f steps n step k s count free before (inr h) =
    subst (λ m. is_step_refused (device_showing (state_after f (take m steps))) s ≡ false) (sym (h.0 ∙ count))
    (subst (λ t. is_step_refused (device_showing (state_after f (take n steps))) t ≡ false) h.1 free)

taken_more : (f : Machine) (steps : List Step) (n : ℕ) (step : Step) → slice_get steps n ≡ Some step
    → is_step_refused (device_showing (state_after f (take n steps))) step ≡ false → AreTaken f steps n
    → AreTaken f steps (n + 1)
taken_more f steps n step at free before k s h =
    let within = slice_get_within steps n step at in
    taken_by_place f steps n step k s (length-take-le n steps (omega (arith, within))) free before
    (pushed_cases (take n steps) step k s (ap (λ xs. slice_get xs k) (sym (take_one_more steps n step at)) ∙ h))

-- a step that is taken is not refused
pub accepted : {T : Type 0} (o : T) (b : Bool) → ((Ok o ≡ Err Spent) ↔ IsTrue b) → b ≡ false
accepted o false h = refl
accepted o true h = let e : Ok o ≡ Err Spent = h.1 refl in absurd cc

-- a spent device refuses each event
spent_refusal : (x : Device) (step : Step) → x.spent ≡ true → is_step_refused x step ≡ false → is_event step ≡ false
spent_refusal x (Event e) spent free =
    let all : (x.spent || passes_end x.flat.kept.clock e) ≡ true =
    ap (λ b. b || passes_end x.flat.kept.clock e) spent in
    absurd (never_both (x.spent || passes_end x.flat.kept.clock e) all free)
spent_refusal x (Post group) spent free = refl
spent_refusal x (Need group count) spent free = refl

deaf_more : (new newer : Device) (steps : List Step) (n : ℕ) (step : Step) → slice_get steps n ≡ Some step
    → is_step_refused new step ≡ false
    → (is_event step ≡ false → newer ≡ new) → IsDeaf new (take n steps) → IsDeaf newer (take (n + 1) steps)
deaf_more new newer steps n step at free unheard deaf =
    let silent : is_event step ≡ false = spent_refusal new step deaf.0 free in (
      ap (λ (x : Device). x.spent) (unheard silent) ∙ deaf.0,
      ap (list_any is_event) (take_one_more steps n step at) ∙ list_any-append is_event (take n steps) (step ∷ [])
          ∙ ap (λ b. b || (is_event step || false)) deaf.1 ∙ ap (λ b. b || false) silent,
    )

-- one step more is taken
pub goes_on : (old new newer : Device) (steps : List Step) (n : ℕ) (all more : List (Option (List Output)))
    (step : Step) (o : Option (List Output))
    → IsPlayed old new steps n all → slice_get steps n ≡ Some step
    → ((f : Machine) → Shows new f → outputs_in o ≡ step_outputs f step)
    → ((f : Machine) → Shows new f → Shows newer (step_after f step))
    → is_some o ≡ is_event step → is_step_refused new step ≡ false → (is_event step ≡ false → newer ≡ new)
    → more ≡ all ++ o ∷ [] → IsPlayed old newer steps (n + 1) more
goes_on old new newer steps n all more step o played at put_out shows asked free unheard e =
    record {
      count = omega (arith, played.count, ap length e, length-append all (o ∷ []));
      shows = λ f h. subst (Shows newer) (sym (next_state f steps n step at))
          (shows (state_after f (take n steps)) (played.shows f h));
      outputs = λ f h k p q. by_place f steps n all step o k p played.count at
          (put_out (state_after f (take n steps)) (played.shows f h))
          (played.outputs f h k p) (pushed_cases all o k p (ap (λ xs. slice_get xs k) (sym e) ∙ q));
      asked = ap (map is_some) e ∙ map-append is_some all (o ∷ []) ∙ ap (λ bs. bs ++ is_some o ∷ []) played.asked
          ∙ ap (λ b. map is_event (take n steps) ++ b ∷ []) asked
          ∙ sym (ap (map is_event) (take_one_more steps n step at) ∙ map-append is_event (take n steps) (step ∷ []));
      taken = λ f h. taken_more f steps n step at
          (sym (same_refusal new (state_after f (take n steps)) step (played.shows f h)) ∙ free) (played.taken f h);
      deaf = λ h. deaf_more new newer steps n step at free unheard (played.deaf h);
    }

-- a device that refuses a step stops there
pub stops : (old new : Device) (steps : List Step) (n : ℕ) (all : List (Option (List Output))) (step : Step)
    → IsPlayed old new steps n all → slice_get steps n ≡ Some step → is_step_refused new step ≡ true → (f : Machine)
    → Shows old f → IsStopped f steps
stops old new steps n all step played at refused f h =
    record {
      place = n;
      step = step;
      stands = at;
      refused = sym (same_refusal new (state_after f (take n steps)) step (played.shows f h)) ∙ refused;
    }

-- a device that has taken all of the steps was not stopped
pub never_stopped : (old new : Device) (steps : List Step) (n : ℕ) (all : List (Option (List Output)))
    → IsPlayed old new steps n all → length steps ≤ n → (f : Machine) → Shows old f → IsStopped f steps → ⊥
never_stopped old new steps n all played past f h stopped =
    never_both _ stopped.refused (played.taken f h stopped.place stopped.step
    (ap (λ xs. slice_get xs stopped.place) (take_all n steps past) ∙ stopped.stands))

pub all_asked : (old new : Device) (steps : List Step) (n : ℕ) (all : List (Option (List Output)))
    → IsPlayed old new steps n all → length steps ≤ n → map is_some all ≡ map is_event steps
all_asked old new steps n all played past = played.asked ∙ ap (map is_event) (take_all n steps past)

pub finished : (old new : Device) (steps : List Step) (n : ℕ) (all : List (Option (List Output)))
    → IsPlayed old new steps n all → length steps ≤ n → n ≤ length steps → (n ≡ length steps)
    × ((f : Machine) → Shows old f → Shows new (state_after f steps))
finished old new steps n all played past within = (
  omega (arith, past, within),
  λ f h. subst (λ xs. Shows new (state_after f xs)) (take_all n steps past) (played.shows f h),
)

pub all_unheard : (old new : Device) (steps : List Step) (n : ℕ) (all : List (Option (List Output)))
    → IsPlayed old new steps n all → length steps ≤ n → old.spent ≡ true → list_any is_event steps ≡ false
all_unheard old new steps n all played past spent =
    ap (list_any is_event) (sym (take_all n steps past)) ∙ (played.deaf spent).1

-- after the steps so far the device was left
pub left_after : (old new : Device) (steps : List Step) (n : ℕ) (all : List (Option (List Output)))
    → IsPlayed old new steps n all → n ≤ length steps → (f : Machine) → Shows old f → IsLeft new f steps
left_after old new steps n all played within f h = inr (n, within, played.shows f h)

-- after one step more
pub left_behind : (old new newer : Device) (steps : List Step) (n : ℕ) (all : List (Option (List Output))) (step : Step)
    → IsPlayed old new steps n all → slice_get steps n ≡ Some step
    → ((f : Machine) → Shows new f → Shows newer (step_after f step)) → (f : Machine) → Shows old f
    → IsLeft newer f steps
left_behind old new newer steps n all step played at shows f h =
    let within = slice_get_within steps n step at in
    inr (
      n + 1,
      omega (arith, within),
      subst (Shows newer) (sym (next_state f steps n step at))
          (shows (state_after f (take n steps)) (played.shows f h)),
    )

-- a step that was not taken: the device is as it was, or spent
pub left_there : (old new newer : Device) (steps : List Step) (n : ℕ) (all : List (Option (List Output)))
    (fault : StepFault)
    → IsPlayed old new steps n all → n ≤ length steps → (fault ≡ Spent → newer ≡ new)
    → (fault ≡ Memory → IsTrue newer.spent) → (f : Machine) → Shows old f → IsLeft newer f steps
left_there old new newer steps n all Spent played within unchanged memory f h =
    inr (n, within, subst (λ x. Shows x (state_after f (take n steps))) (sym (unchanged refl)) (played.shows f h))
left_there old new newer steps n all Memory played within unchanged memory f h = inl (memory refl)
