-- What a device's next step asks for, and whether it may be made. A run, a fleet, and a job of a worker all go by this
-- one test.
use Rattle.std.specs.Prelude.{ℕ, nat_le, Bool, true, false, Option, None, Some}
use Rattle.scenario_image.specs.declared.step.Step.{Step}
use Rattle.scenario_image.specs.declared.step.Step.TheVariants.{Event, Post, Need}
use Rattle.fleet_core.specs.declared.next.Next.{Next}
use Rattle.fleet_core.specs.declared.next.Next.TheVariants.{End, Free, Waits}

-- an event or a post asks for nothing, a need for its posts
abbrev pub next_of : Option Step → Next
next_of None = End
next_of (Some (Event event)) = Free
next_of (Some (Post group)) = Free
next_of (Some (Need group count)) = Waits group count

-- where each group has n posts, the step is there, and may be made
abbrev pub may_pass : (ℕ → ℕ) → Next → Bool
may_pass posts End = false
may_pass posts Free = true
may_pass posts (Waits group count) = nat_le count (posts group)
