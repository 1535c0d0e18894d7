-- What a session is of the calls that it made, of a device in any state, and of a device of a class from its start.
use Rattle.std.specs.Prelude.{◌≡◌, ℕ, ◌≤◌, Bool, true, false, List, [], ◌++◌, length, Option}
use Rattle.std.specs.List.{AllByRecursion}
use Rattle.device_machine.specs.State.{Machine}
use Rattle.device_template.specs.Template.{Template}
use Rattle.scenario_image.specs.declared.step.Step.{Step}
use Rattle.scenario_image.specs.Play.{start}
use Rattle.live_link.specs.declared.packet.Packet.{Packet}
use Rattle.live_link.specs.declared.session.LiveEnd.{LiveEnd}
use Rattle.live_link.specs.declared.session.LiveEnd.TheVariants.{Spent}
use Rattle.live_link.specs.declared.session.LiveSession.{LiveSession}
use Rattle.live_link.specs.Wire.{Traffic, AreRead, Carries}
use Rattle.live_link.specs.Live.{failures_at, most_refusals, refused_at, turn_steps, AreCountsAt, ArePassed}
use Rattle.live_link.specs.Live.{IsLiveStep, IsPastEnd, IsSentAt}

-- the steps are those of the turns, one turn for each reading, but for one that was refused
pub record AreMade (end : LiveEnd) (turns refusals : ℕ) (readings : List ℕ) (received : List (Option Packet))
    (steps refused : List Step) : Type 0 where
  pub seconds : List ℕ
  pub passed : ArePassed readings seconds
  pub given : turn_steps seconds received ≡ steps ++ refused
  pub refused_count : length refused ≡ refused_at end refusals
  pub counts : AreCountsAt end turns (length readings) (length received)
  pub live : AllByRecursion IsLiveStep steps

-- a device, which is in any of these states, or is spent, was served for at most n turns, over a wire that told this
-- before and after, and a clock. These are its steps, what it sent, and how it ended
pub record IsSession (is_in : Machine → Type 0) (spent : Bool) (turns : ℕ) (end : LiveEnd) (steps : List Step)
    (sent : List Packet) (before after : Option Traffic) (read_before read_after : Option (List ℕ)) : Type 0 where
  -- what went over the wire, and what the clock showed
  pub received : List (Option Packet)
  pub refusals : ℕ
  pub few : refusals ≤ most_refusals end
  pub told : Carries before after
      (record { received = received; taken = sent; failures = failures_at end; refusals = refusals })
  pub readings : List ℕ
  pub read : AreRead read_before read_after readings
  -- what came of it
  pub refused : List Step
  pub made : AreMade end turns refusals readings received steps refused
  pub put_out : (f : Machine) → is_in f → IsSentAt end refusals f steps sent
  pub past_end : (f : Machine) → is_in f → end ≡ Spent → IsPastEnd f steps refused
  pub deaf : spent ≡ true → steps ≡ []

-- a device of this class was served from its start
abbrev pub IsServed : Template → ℕ → LiveSession → Option Traffic → Option Traffic → Option (List ℕ)
    → Option (List ℕ) → Type 0
IsServed class turns session before after read_before read_after =
    IsSession (λ f. f ≡ start class) false turns session.end session.steps.items session.sent.items before after
    read_before read_after
