-- What a device is asked.
use Rattle.std.specs.Prelude.{◌≡◌, ℕ, length, Option, None, Some}
use Rattle.object_defs.specs.Path.{full_path}
use Rattle.device_machine.specs.State.{Machine, value_in}
use Rattle.device_machine.specs.Held.{IsNextSending, IsSilent}
use Rattle.case_text.specs.declared.question.Question.{Question}
use Rattle.case_text.specs.declared.question.Question.TheVariants.{Value, Clock, Observations, Due}

-- this is the first second in which a device sends or removes something by itself, or there is none
abbrev pub IsDue : Machine → Option ℕ → Type 0
IsDue f None = IsSilent f
IsDue f (Some second) = IsNextSending f second

-- what is asked has the stated answer in this flat state: the value at the path, the second that the clock shows, how
-- many observations there are, and the second that is due
abbrev pub IsAnswer : Question → Machine → Type 0
IsAnswer (Value path value) f = value_in f.kept (full_path path) ≡ value
IsAnswer (Clock second) f = f.kept.clock ≡ second
IsAnswer (Observations count) f = length f.kept.observations ≡ count
IsAnswer (Due second) f = IsDue f second
