-- What `spell` came to, put together from its parts.
use Rattle.std.proofs.Common.{ℕ, ◌≡◌, ◌≢◌, List, [], Some, Ok, Err, inl, inr, refl, subst, sym}
use Rattle.std.specs.List.{join_with_byte}
use Rattle.std.specs.String.{string_bytes}
use Rattle.hex.specs.Hex.{IsBytes, encode_upper}
use Rattle.scenario_words.specs.Words.{ended_line}
use Rattle.scenario_words.specs.declared.cause.Cause.{Cause}
use Rattle.scenario_words.specs.declared.cause.Cause.TheVariants as cause
use Rattle.command_files.specs.Answers.{files_of}
use Rattle.command_files.specs.declared.answer.Answer.{Answer}
use Rattle.command_files.specs.declared.fault.Fault.{Fault}
use Rattle.command_files.specs.declared.fault.Fault.TheVariants.{Memory}
use Rattle.command_files.specs.declared.refusal.Why.{Why}
use Rattle.command_files.specs.declared.status.Status.TheVariants.{Done}
use Rattle.command_texts.specs.Blamed.{IsBlamed, IsRefusedText}
use Rattle.command_words.specs.declared.arrival.Arrival.{Arrival}
use Rattle.command_words.specs.Spelling.{IsSpellDone, IsSpellFault, IsSpellWhy, arrival_of, passed_by}
use Rattle.command_words.specs.Spelling.{said_words, words_cause}

pub spelled : (given : List (List ℕ)) (a : Arrival) (answer : Answer) → arrival_of (said_words given) ≡ Ok (Some a)
    → IsBytes a.bytes → string_bytes answer.text ≡ ended_line (encode_upper a.bytes) → answer.status ≡ Done
    → files_of answer.file ≡ [] → IsSpellDone given answer
spelled given a answer denotes octets said ended none = record {
  arrival = a;
  denotes = denotes;
  octets = octets;
  text_is = said;
  status_is = ended;
  made_is = none;
}

pub refused : (given : List (List ℕ)) (line : List ℕ) (c : Cause) (f : Fault) (why : Why)
    → (c ≢ cause.Memory → arrival_of (said_words given) ≡ Err c)
    → IsRefusedText words_cause line (record { line = 1; cause = c; limit = passed_by c }) f why
    → IsSpellFault given f
refused given line c f why h (inl told) = subst (λ g. IsSpellFault given g) (sym told.1) (refl, h told.0, refl)
refused given line c f why h (inr memory) = subst (λ g. IsSpellFault given g) (sym memory.0) tt

pub spelled_why : (given : List (List ℕ)) (line : List ℕ) (c : Cause) (f : Fault) (why : Why)
    → line ≡ join_with_byte 32 given
    → IsRefusedText words_cause line (record { line = 1; cause = c; limit = passed_by c }) f why
    → IsSpellWhy given f why
spelled_why given line c f why same (inl told) =
    subst (λ g. IsSpellWhy given g why) (sym told.1)
    (subst (λ l. IsBlamed words_cause l (record { line = 1; cause = c; limit = passed_by c }) why) same told.2)
spelled_why given line c f why same (inr memory) = subst (λ g. IsSpellWhy given g why) (sym memory.0) tt

pub memory_why : (given : List (List ℕ)) (f : Fault) (why : Why) → f ≡ Memory → IsSpellWhy given f why
memory_why given f why same = subst (λ g. IsSpellWhy given g why) (sym same) tt

pub no_memory : (given : List (List ℕ)) (f : Fault) → f ≡ Memory → IsSpellFault given f
no_memory given f same = subst (λ g. IsSpellFault given g) (sym same) tt
