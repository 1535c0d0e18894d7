-- The reply to a line, put together from its parts.
use Rattle.std.proofs.Common.{◌≡◌, ◌↔◌, ℕ, Bool, true, false, List, None, Some, codes, ap, refl, subst}
use Rattle.std.proofs.lemmas.Bool.{false≢true}
use Rattle.debug_answers.specs.declared.command.Command.{Command}
use Rattle.debug_answers.specs.declared.command.Command.TheVariants.{Quit}
use Rattle.debug_answers.specs.Saying.{IsCommandIn, IsHelp, IsLineOf}
use Rattle.debug_answers.proofs.Again.{help_apart}
use Rattle.debugger.specs.Session.{Session}
use Rattle.debug_answers.specs.Help.{help_text}
use Rattle.scenario_words.specs.Words.{ended_line}
use Rattle.debug_answers.specs.Notes.{IsNote, no_command}
use Rattle.debug_answers.specs.Replies.{IsAnswer, IsReply}

same_command : (c d : Command) → Some c ≡ Some d → c ≡ d
same_command c d same = cc

-- the answer to the command that a line says
pub reply_of : (reasons : Bool) (old : Session) (said : List ℕ) (new : Session) (text : List ℕ) (c : Command)
    → IsCommandIn reasons c said → ((d : Command) → IsCommandIn reasons d said → Some c ≡ Some d)
    → IsAnswer old c new text → IsReply reasons old said new text
reply_of reasons old said new text c is again answered = record {
  answer = λ d h. subst (λ e. IsAnswer old e new text) (same_command c d (again d h)) answered;
  bad_command = λ none. absurd (none c is);
}

-- the answer to a line that says none
pub bad_reply : (reasons : Bool) (old : Session) (said text : List ℕ)
    → ((c : Command) → IsCommandIn reasons c said → ⊥)
    → text ≡ ended_line (codes "bad command") → IsReply reasons old said old text
bad_reply reasons old said text none is = record {
  answer = λ c h. absurd (none c h);
  bad_command = λ _. record { unchanged = refl; text_is = is };
}

-- there is no note on a command
pub no_note : (reasons : Bool) (said : List ℕ) (c : Command) → IsCommandIn reasons c said → IsNote reasons said None
no_note reasons said c is = record {
  command = λ d h. refl;
  help = λ h. absurd (help_apart c _ h.1 is.0.1);
  other = λ none _. absurd (none c is);
}

-- the note on a line that says none
pub note_of : (reasons : Bool) (said text : List ℕ) → ((c : Command) → IsCommandIn reasons c said → ⊥)
    → (IsHelp said → text ≡ help_text reasons) → ((IsHelp said → ⊥) → text ≡ no_command said)
    → IsNote reasons said (Some text)
note_of reasons said text none help other = record {
  command = λ c h. absurd (none c h);
  help = λ h. ap Some (help h);
  other = λ _ h. ap Some (other h);
}

-- the line of a command asks for the end exactly if the command is `quit`
pub asks_for_end : (reasons : Bool) (said : List ℕ) (c : Command) (b : Bool) → IsCommandIn reasons c said
    → ((d : Command) → IsCommandIn reasons d said → Some c ≡ Some d) → (b ≡ true) ↔ (c ≡ Quit)
    → (b ≡ true) ↔ IsLineOf Quit said
asks_for_end reasons said c b is again quits =
    (λ yes. subst (λ e. IsLineOf e said) (quits.0 yes) is.0, λ h. quits.1 (same_command c Quit (again Quit (h, tt))))

-- a line that says no command does not ask for the end
pub asks_nothing : (reasons : Bool) (said : List ℕ) → ((c : Command) → IsCommandIn reasons c said → ⊥)
    → (false ≡ true) ↔ IsLineOf Quit said
asks_nothing reasons said none = (λ yes. absurd (false≢true yes), λ h. absurd (none Quit (h, tt)))
