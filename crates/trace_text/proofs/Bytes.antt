-- The bytes of a datagram that arrives, in the text of its entry.
use Rattle.std.proofs.Common.{◌≡◌, ℕ, List, [], ◌∷◌, ◌++◌, Option, None, Some, append_assoc, refl, sym, ap}
use Rattle.std.proofs.Common.{subst, ◌∙◌}
use Rattle.std.proofs.lemmas.List.{append-nil}
use Rattle.std.specs.Prelude.{codes}
use Rattle.std.specs.Fmt.{decimal}
use Rattle.device_machine.specs.declared.event.Event.TheVariants.{Recv}
use Rattle.scenario_words.specs.HexWord.{hex_word}
use Rattle.scenario_mnemonics.specs.declared.mnemonic.Mnemonic.{Mnemonic}
use Rattle.scenario_mnemonics.specs.Denoting.{mnemonic_of}
use Rattle.scenario_statements.specs.declared.statement.Statement.TheVariants as says
use Rattle.scenario_statements.specs.Spelling.{line_of}
use Rattle.scenario_asm.specs.Canonical.{of_datagram}
use Rattle.scenario_image.specs.declared.step.Step.{Step}
use Rattle.scenario_image.specs.declared.step.Step.TheVariants.{Event}
use Rattle.scenario_image.specs.Scenario.{Scenario}
use Rattle.trace_file.specs.declared.entry.Entry.{Entry}
use Rattle.fleet_core.specs.Run.{step_at}
use Rattle.trace_text.specs.Lines.{all_output_lines, arrival_lines, bytes_line, bytes_lines, entry_line, said_line}
use Rattle.trace_text.specs.Lines.{step_words}
use Rattle.trace_text.specs.Seconds.{second_at}
use Rattle.trace_text.specs.Text.{HasPart, entry_text}

in_front : (part more text : List ℕ) → HasPart text part → HasPart (text ++ more) part
in_front part more text has = (
  has.0,
  has.1 ++ more,
  ap (λ t. t ++ more) has.2 ∙ append_assoc has.0 (part ++ has.1) more
      ∙ ap (λ t. has.0 ++ t) (append_assoc part has.1 more),
)

behind : (part more text : List ℕ) → HasPart text part → HasPart (more ++ text) part
behind part more text has = (
  more ++ has.0,
  has.1,
  ap (λ t. more ++ t) has.2 ∙ sym (append_assoc more has.0 (part ++ has.1)),
)

whole : (part : List ℕ) → HasPart part part
whole part = ([], [], sym (append-nil part))

-- in the words of a `recv`
in_words : (server : ℕ) (bytes : List ℕ) → HasPart (line_of (says.Recv server bytes)) (hex_word bytes)
in_words server bytes =
    behind (hex_word bytes) (codes "recv ") (decimal server ++ (32 ∷ hex_word bytes))
    (behind (hex_word bytes) (decimal server) (32 ∷ hex_word bytes)
    (behind (hex_word bytes) (32 ∷ []) (hex_word bytes) (whole (hex_word bytes))))

-- in the line of an entry with these words
in_line : (number second : ℕ) (e : Entry) (words part : List ℕ) → HasPart words part
    → HasPart (entry_line number e second words) part
in_line number second e words part has =
    let head : List ℕ =
    decimal number ++ codes " worker " ++ decimal e.worker ++ codes " device " ++ decimal e.device ++ codes " step "
    ++ decimal e.step ++ codes " second " ++ decimal second ++ codes ": " in
    let same : head ++ words
    ≡ decimal number ++ codes " worker " ++ decimal e.worker ++ codes " device " ++ decimal e.device ++ codes " step "
    ++ decimal e.step ++ codes " second " ++ decimal second ++ codes ": " ++ words = simp append_assoc refl in
    in_front part (10 ∷ []) _ (subst (λ t. HasPart t part) same (behind part head words has))

-- below a mnemonic
in_bytes : (bytes : List ℕ) → HasPart (bytes_line bytes) (hex_word bytes)
in_bytes bytes =
    in_front (hex_word bytes) (10 ∷ []) (codes "    # " ++ hex_word bytes)
    (behind (hex_word bytes) (codes "    # ") (hex_word bytes) (whole (hex_word bytes)))

in_entry : (number second : ℕ) (e : Entry) (server : ℕ) (bytes : List ℕ) (m : Option Mnemonic)
    → HasPart
    (entry_line number e second (line_of (of_datagram server bytes m))
    ++ ((bytes_lines m bytes ++ said_line bytes) ++ all_output_lines e.outputs)) (hex_word bytes)
in_entry number second e server bytes None =
    in_front (hex_word bytes) _ _
    (in_line number second e (line_of (says.Recv server bytes)) (hex_word bytes) (in_words server bytes))
in_entry number second e server bytes (Some m) =
    behind (hex_word bytes) _ _
    (in_front (hex_word bytes) (all_output_lines e.outputs) (bytes_line bytes ++ said_line bytes)
    (in_front (hex_word bytes) (said_line bytes) (bytes_line bytes) (in_bytes bytes)))

-- the text of an entry whose step is this one
abbrev text_with : Scenario → ℕ → Entry → Option Step → List ℕ
text_with s number e step =
    entry_line number e (second_at s e.device e.step) (step_words step)
    ++ (arrival_lines step ++ all_output_lines e.outputs)

pub shown : (s : Scenario) (number : ℕ) (e : Entry) (server : ℕ) (bytes : List ℕ)
    → step_at s e.device e.step ≡ Some (Event (Recv server bytes)) → HasPart (entry_text s number e) (hex_word bytes)
shown s number e server bytes at =
    subst (λ step. HasPart (text_with s number e step) (hex_word bytes)) (sym at)
    (in_entry number (second_at s e.device e.step) e server bytes (mnemonic_of bytes))
