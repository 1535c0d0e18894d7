-- What is answered to each command, and where the debugger then is.
use Rattle.std.specs.Prelude.{◌≡◌, ◌⊎◌, ℕ, ◌+◌, ◌-◌, ◌<◌, ◌≤◌, List, length, slice_range, codes}
use Rattle.debugger.specs.declared.breaks.Break.{Break}
use Rattle.debugger.specs.declared.breaks.Stop.{Stop}
use Rattle.debugger.specs.Replayed.{events_among, IsReplayedBack}
use Rattle.debugger.specs.Session.{Session, at_place, with_replayed}
use Rattle.debugger.specs.Stops.{IsNextStop}
use Rattle.debugger.specs.Breaks.{IsTaken, AreAllTaken, IsAdded, IsRemoved}
use Rattle.scenario_words.specs.Words.{ended_line}
use Rattle.debug_answers.specs.Lines.{at_line, break_line, cleared_line, stop_line}

-- the place is now this one, and is answered; how many events devices took in the move is kept, and not answered
pub record IsMoved (old new : Session) (to : ℕ) (text : List ℕ) : Type 0 where
  pub new_place : new ≡ with_replayed (at_place old to) new.replayed
  pub text_is : text ≡ at_line to

-- where no memory was left for a line, the debugger is as it was, or as it is with this answer
abbrev pub IsAsBeforeOrAfter : (Session → List ℕ → Type 0) → Session → Session → Type 0
IsAsBeforeOrAfter answer old new = (new ≡ old) ⊎ ((text : List ℕ) × answer new text)

-- nothing changed, and these words are answered
pub record IsCommandRefused (old new : Session) (words text : List ℕ) : Type 0 where
  pub unchanged : new ≡ old
  pub text_is : text ≡ ended_line words

-- `forward N`: the new place, or `past end` where there are fewer entries after the place
pub record IsForward (old : Session) (count : ℕ) (new : Session) (text : List ℕ) : Type 0 where
  pub reachable : old.place + count ≤ length old.entries → IsMoved old new (old.place + count) text
  pub events_replayed : old.place + count ≤ length old.entries
      → new.replayed ≡ events_among old.scenario (slice_range old.entries old.place (old.place + count))
  pub past_end : length old.entries < old.place + count → IsCommandRefused old new (codes "past end") text

-- `back N`: the new place, or `past start` where there are fewer entries before the place
pub record IsBack (old : Session) (count : ℕ) (new : Session) (text : List ℕ) : Type 0 where
  pub reachable : count ≤ old.place → IsMoved old new (old.place - count) text
  pub events_replayed : count ≤ old.place → IsReplayedBack old (old.place - count) new.replayed
  pub past_start : old.place < count → IsCommandRefused old new (codes "past start") text

-- the breakpoint of the number was there, and is no more
pub record IsClearAnswered (old : Session) (id : ℕ) (new : Session) (text : List ℕ) : Type 0 where
  pub removed : IsRemoved old new id
  pub text_is : text ≡ cleared_line id

-- `clear ID`: whether there was a breakpoint of this number, which is removed
pub record IsCleared (old : Session) (id : ℕ) (new : Session) (text : List ℕ) : Type 0 where
  pub breakpoint_there : IsTaken old.breaks id → IsClearAnswered old id new text
  pub no_such : (IsTaken old.breaks id → ⊥) → IsCommandRefused old new (codes "no such") text

-- `resume`: the debugger moved to the next stop, which is answered
pub record IsResumed (old new : Session) (text : List ℕ) : Type 0 where
  pub stop : Stop
  pub next_stop : IsNextStop old stop new.place
  pub at_stop : new ≡ at_place old new.place
  pub text_is : text ≡ stop_line stop new.place

-- the breakpoint is added, and its number is answered
pub record IsBreakAnswered (old : Session) (point : Break) (new : Session) (text : List ℕ) : Type 0 where
  pub id : ℕ
  pub added : IsAdded old new point id
  pub text_is : text ≡ break_line id

-- `break ..`: the number of the new breakpoint, or `full` where each number is taken
pub record IsBreak (old : Session) (point : Break) (new : Session) (text : List ℕ) : Type 0 where
  pub number_free : (AreAllTaken old.breaks → ⊥) → IsBreakAnswered old point new text
  pub all_taken : AreAllTaken old.breaks → IsCommandRefused old new (codes "full") text
