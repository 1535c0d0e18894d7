-- A debugger where no memory was left for the line of an answer.
use Rattle.std.proofs.Common.{◌≡◌, inl, inr, ℕ, Bool, List, Some, Result, Ok, Err, OnErr, refl, sym, subst}
use Rattle.debug_answers.specs.declared.command.Command.{Command}
use Rattle.debug_answers.specs.declared.command.Command.TheVariants as command
use Rattle.debug_answers.specs.declared.command.Point.{Point}
use Rattle.debug_answers.specs.Saying.{IsCommandIn}
use Rattle.debugger.specs.declared.breaks.Break.{Break}
use Rattle.debugger.specs.declared.breaks.Stop.{Stop}
use Rattle.debugger.specs.Breaks.{AreAllTaken, IsAdded}
use Rattle.debugger.specs.Session.{Session, at_place}
use Rattle.debugger.specs.Stops.{IsNextStop}
use Rattle.debug_answers.specs.Answers.{IsAsBeforeOrAfter, IsBreak, IsResumed}
use Rattle.debug_answers.specs.Lines.{break_line, stop_line}
use Rattle.debug_answers.specs.Replies.{break_of, IsAnswer, IsReply}
use Rattle.debug_answers.proofs.ReplyParts.{reply_of}

on_err : {A E P : Type 0} (r : Result A E) → P → OnErr r P
on_err (Ok x) p = tt
on_err (Err e) p = p

-- the breakpoint was added
pub added_left : {A E : Type 0} (r : Result A E) (old new : Session) (point : Break) (id : ℕ)
    → IsAdded old new point id → (AreAllTaken old.breaks → ⊥)
    → OnErr r (IsAsBeforeOrAfter (IsBreak old point) old new)
added_left r old new point id added room =
    on_err r (inr (
      break_line id,
      record {
        number_free = λ _. record { id = id; added = added; text_is = refl };
        all_taken = λ all. absurd (room all);
      },
    ))

-- the debugger is at the next stop
pub resumed_left : {A E : Type 0} (r : Result A E) (old new : Session) (stop : Stop)
    → IsNextStop old stop new.place → new ≡ at_place old new.place
    → OnErr r (IsAsBeforeOrAfter (IsResumed old) old new)
resumed_left r old new stop next moved =
    on_err r (inr (stop_line stop new.place, record { stop = stop; next_stop = next; at_stop = moved; text_is = refl }))

-- as after a command that adds a breakpoint
pub break_left : {A E : Type 0} (r : Result A E) (old new : Session) (c : Command) (p : Point) (b : Break)
    → c ≡ command.Break p → b ≡ break_of p → OnErr r (IsAsBeforeOrAfter (IsBreak old b) old new)
    → OnErr r (IsAsBeforeOrAfter (IsAnswer old c) old new)
break_left r old new c p b is same h =
    subst (λ (d : Command). OnErr r (IsAsBeforeOrAfter (IsAnswer old d) old new)) (sym is)
    (subst (λ (x : Break). OnErr r (IsAsBeforeOrAfter (IsBreak old x) old new)) same h)

-- as after the command that a line says
pub reply_left : (reasons : Bool) (old : Session) (said : List ℕ) (new : Session) (c : Command)
    → IsCommandIn reasons c said → ((d : Command) → IsCommandIn reasons d said → Some c ≡ Some d)
    → IsAsBeforeOrAfter (IsAnswer old c) old new → IsAsBeforeOrAfter (IsReply reasons old said) old new
reply_left reasons old said new c is again (inl same) = inl same
reply_left reasons old said new c is again (inr (text, answered)) =
    inr (text, reply_of reasons old said new text c is again answered)
