-- What `say -` came to, put together from its parts.
use Rattle.std.proofs.Common.{ℕ, ◌≡◌, ◌⊎◌, List, [], Option, inl, inr, subst, sym}
use Rattle.std.specs.String.{string_bytes}
use Rattle.command_files.specs.Answers.{files_of}
use Rattle.command_files.specs.Fault.{IsReadingFault}
use Rattle.command_files.specs.Input.{WhereKnown}
use Rattle.command_files.specs.declared.answer.Answer.{Answer}
use Rattle.command_files.specs.declared.fault.Fault.{Fault}
use Rattle.command_files.specs.declared.fault.Fault.TheVariants.{Memory}
use Rattle.command_files.specs.declared.status.Status.TheVariants.{Done}
use Rattle.command_words.specs.Inputs.{IsAll, IsBeyond, IsInputRefused, IsInputSaid}
use Rattle.command_words.specs.Inside.{AreSaid}
use Rattle.command_words.specs.Logs.{IsLogFault, IsLogSaid}

pub log_said : (log : List ℕ) (server : ℕ) (answer : Answer) → AreSaid log server (string_bytes answer.text)
    → answer.status ≡ Done → files_of answer.file ≡ [] → IsLogSaid log server answer
log_said log server answer said ended none = record {
  datagrams = said.datagrams;
  are = said.are;
  text_is = said.text_is;
  status_is = ended;
  made_is = none;
}

pub input_said : (before after : Option (List ℕ)) (log : List ℕ) (server : ℕ) (answer : Answer)
    → WhereKnown (IsAll log) before after → IsLogSaid log server answer → IsInputSaid before after server answer
input_said before after log server answer all said = (log, all, said)

pub input_wrong : (fails : Type 0) (before after : Option (List ℕ)) (log : List ℕ) (f : Fault)
    → WhereKnown (IsAll log) before after → IsLogFault log f → IsInputRefused fails before after f
input_wrong fails before after log f all wrong = inr (log, all, wrong)

pub input_unread : (fails : Type 0) (before after : Option (List ℕ)) (f : Fault)
    → IsReadingFault (fails ⊎ IsBeyond before) f → IsInputRefused fails before after f
input_unread fails before after f h = inl h

pub input_memory : (fails : Type 0) (before after : Option (List ℕ)) (f : Fault) → f ≡ Memory
    → IsInputRefused fails before after f
input_memory fails before after f same =
    inl (subst (λ g. IsReadingFault (fails ⊎ IsBeyond before) g) (sym same) tt)
