-- What a valid scenario says of the steps that are taken.
use Rattle.std.proofs.Common.{◌≡◌, ℕ, zero, suc, ◌+◌, ◌*◌, ◌<◌, ◌≤◌, nat_le, nat_lt, Bool, true, false, List, [], ◌∷◌}
use Rattle.std.proofs.Common.{length, take, Option, None, Some, slice_get, refl, ap, subst, arith}
use Rattle.std.specs.List.{AllByRecursion}
use Rattle.std.proofs.lemmas.Bool.{leb-true, le-ltb, and_parts, or_from}
use Rattle.std.proofs.lemmas.Option.{slice_get_within}
use Rattle.lemmas.proofs.Lists.{each_at}
use Rattle.device_template.specs.Template.{Template}
use Rattle.device_machine.specs.State.{Machine, Device, Shows}
use Rattle.device_machine.specs.declared.event.Event.TheVariants.{Recv, Put, Firmware, Tick}
use Rattle.scenario_image.specs.declared.step.Step.{Step}
use Rattle.scenario_image.specs.declared.step.Step.TheVariants.{Event, Post, Need}
use Rattle.scenario_image.specs.Scenario.{Row, Scenario, IsGoodStep, IsGoodRow, IsValid, is_in_range}
use Rattle.scenario_image.specs.Play.{start, step_after, state_after, state_at, IsRowOf, is_step_refused}
use Rattle.trace_file.specs.declared.entry.Entry.{Entry}
use Rattle.fleet_core.specs.Run.{steps_in, step_at, made_by, posts_to, posts_of, IsRun}
use Rattle.fleet_core.proofs.Posts.{one, posts_in, posted, posts_are}
use Rattle.fleet_core.proofs.Clock.{recv_clock, put_clock, firmware_clock}

pub in_row : (o : Option Row) (k : ℕ) (step : Step) → slice_get (steps_in o) k ≡ Some step → (row : Row)
    × (o ≡ Some row) × (slice_get row.steps k ≡ Some step)
in_row None k step h = let e : None ≡ Some step = h in absurd cc
in_row (Some row) k step h = (row, refl, h)

-- a step that a device of a valid scenario has
pub record IsStep (s : Scenario) (d k : ℕ) (step : Step) : Type 0 where
  pub class : Template
  pub steps : List Step
  pub row : IsRowOf s d class steps
  pub stands : slice_get steps k ≡ Some step
  pub good : AllByRecursion (IsGoodStep class.accounts) steps
  pub range : is_in_range step ≡ true
  pub early : k < 4096
  pub within : d < length s.rows

pub step_is : (s : Scenario) (d k : ℕ) (step : Step) → IsValid s → step_at s d k ≡ Some step → IsStep s d k step
step_is s d k step valid at =
    let found = in_row (slice_get s.rows d) k step at in
    let good : IsGoodRow s.classes found.0 = each_at (IsGoodRow s.classes) s.rows d found.0 valid.each found.1 in
    record {
      class = good.class;
      steps = found.0.steps;
      row = record { place = found.0.class; row = found.1; stated = good.stated };
      stands = found.2;
      good = good.each;
      range = (each_at (IsGoodStep good.class.accounts) found.0.steps k step good.each found.2).range;
      early = omega (arith, slice_get_within found.0.steps k step found.2, good.count);
      within = slice_get_within s.rows d found.0 found.1;
    }

-- the step of a row, where the row is known
pub step_stands : (s : Scenario) (d k : ℕ) (step : Step) (class : Template) (steps : List Step)
    → IsRowOf s d class steps → step_at s d k ≡ Some step
    → slice_get steps k ≡ Some step
step_stands s d k step class steps row at = subst (λ o. slice_get (steps_in o) k ≡ Some step) row.row at

-- the group of a need or a post is one of 256
pub need_group : (s : Scenario) (d k g n : ℕ) → IsValid s → step_at s d k ≡ Some (Need g n) → g < 256
need_group s d k g n valid at =
    let is : IsStep s d k (Need g n) = step_is s d k (Need g n) valid at in
    (each_at (IsGoodStep is.class.accounts) is.steps k (Need g n) is.good is.stands).fields

pub post_group : (s : Scenario) (d k g : ℕ) → IsValid s → step_at s d k ≡ Some (Post g) → g < 256
post_group s d k g valid at =
    let is : IsStep s d k (Post g) = step_is s d k (Post g) valid at in
    (each_at (IsGoodStep is.class.accounts) is.steps k (Post g) is.good is.stands).fields

-- ---- the clock

-- a step sets the clock on by a day at most
step_clock : (f : Machine) (step : Step) → is_in_range step ≡ true
    → (step_after f step).kept.clock ≤ f.kept.clock + 86400
step_clock f (Event (Recv server bytes)) range = omega (arith, recv_clock f server bytes)
step_clock f (Event (Put path value)) range = omega (arith, put_clock f path value)
step_clock f (Event (Firmware code)) range = omega (arith, firmware_clock f code)
step_clock f (Event (Tick seconds)) range =
    omega (arith, leb-true seconds 86400 (and_parts (nat_le 1 seconds) (nat_le seconds 86400) range).1)
step_clock f (Post group) range = omega arith
step_clock f (Need group count) range = omega arith

state_clock : (accounts : List ℕ) (steps : List Step) (k : ℕ) (f : Machine) → AllByRecursion (IsGoodStep accounts) steps
    → (state_after f (take k steps)).kept.clock ≤ f.kept.clock + 86400 * k
state_clock accounts [] zero f good = omega arith
state_clock accounts [] (suc k) f good = omega arith
state_clock accounts (x ∷ xs) zero f good = omega arith
state_clock accounts (x ∷ xs) (suc k) f good =
    omega (arith, step_clock f x good.0.range, state_clock accounts xs k (step_after f x) good.1)

-- a device that shows such a state refuses no step
not_refused : (x : Device) (f : Machine) (step : Step) → Shows x f → is_in_range step ≡ true
    → f.kept.clock ≤ 86400 * 4096 → is_step_refused x step ≡ false
not_refused x f (Event (Recv server bytes)) shows range early = or_from x.spent false shows.ready refl
not_refused x f (Event (Put path value)) shows range early = or_from x.spent false shows.ready refl
not_refused x f (Event (Firmware code)) shows range early = or_from x.spent false shows.ready refl
not_refused x f (Event (Tick seconds)) shows range early =
    let clock : x.flat.kept.clock ≡ f.kept.clock = ap (λ g. g.clock) shows.kept in
    let day : seconds ≤ 86400 = leb-true seconds 86400 (and_parts (nat_le 1 seconds) (nat_le seconds 86400) range).1 in
    or_from x.spent (nat_lt 9223372036854775807 (x.flat.kept.clock + seconds)) shows.ready
    (le-ltb 9223372036854775807 (x.flat.kept.clock + seconds) (omega arith))
not_refused x f (Post group) shows range early = refl
not_refused x f (Need group count) shows range early = refl

pub takes_step : (s : Scenario) (d k : ℕ) (step : Step) (x : Device) → IsStep s d k step
    → ((class : Template) (steps : List Step) → IsRowOf s d class steps → Shows x (state_at class steps k))
    → is_step_refused x step ≡ false
takes_step s d k step x is shows =
    let clock : (state_at is.class is.steps k).kept.clock ≤ 0 + 86400 * k =
    state_clock is.class.accounts is.steps k (start is.class) is.good in
    let early : k < 4096 = is.early in
    not_refused x (state_at is.class is.steps k) step (shows is.class is.steps is.row) is.range
    (omega (arith, clock, early))

-- ---- the state after one step more

pub state-more : (steps : List Step) (k : ℕ) (step : Step) (f : Machine) → slice_get steps k ≡ Some step
    → state_after f (take (suc k) steps) ≡ step_after (state_after f (take k steps)) step
state-more [] k step f at = let e : None ≡ Some step = at in absurd cc
state-more (x ∷ xs) zero step f at = let e : Some x ≡ Some step = at in let same : x ≡ step =
    cc in ap (step_after f) same
state-more (x ∷ xs) (suc k) step f at = state-more xs k step (step_after f x) at

-- ---- posts

pub one_within : (b : Bool) → one b ≤ 1
one_within true = omega arith
one_within false = omega arith

posts_in_within : (g k : ℕ) (xs : List Step) → posts_in g k xs ≤ length xs
posts_in_within g zero [] = omega arith
posts_in_within g zero (x ∷ xs) = omega arith
posts_in_within g (suc k) [] = omega arith
posts_in_within g (suc k) (x ∷ xs) = omega (arith, posts_in_within g k xs, one_within (posts_to g x))

posted_within : (classes : List Template) (g : ℕ) (m : ℕ → ℕ) (rs : List Row) → AllByRecursion (IsGoodRow classes) rs
    → posted g m rs ≤ 4096 * length rs
posted_within classes g m [] good = omega arith
posted_within classes g m (r ∷ rs) good =
    omega (arith, posts_in_within g (m 0) r.steps, good.0.count, posted_within classes g (λ d. m (suc d)) rs good.1)

-- a run makes at most n posts
pub posts_within : (s : Scenario) (g : ℕ) (es : List Entry) → IsValid s → IsRun s es → posts_of s g es ≤ 67108864
posts_within s g es valid run =
    omega (arith, posts_are s g es run, posted_within s.classes g (λ d. made_by d es) s.rows valid.each, valid.rows)
