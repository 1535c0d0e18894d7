-- What `say` came to, put together from its parts.
use Rattle.std.proofs.Common.{ℕ, ◌≡◌, ◌⊎◌, List, [], IsErr, inl, inr, subst, sym}
use Rattle.std.specs.Result.{IsOkAnd}
use Rattle.std.specs.String.{string_bytes}
use Rattle.hex.specs.Hex.{decode_of}
use Rattle.command_files.specs.Answers.{files_of}
use Rattle.command_files.specs.declared.answer.Answer.{Answer}
use Rattle.command_files.specs.declared.fault.Fault.{Fault}
use Rattle.command_files.specs.declared.fault.Fault.TheVariants as faults
use Rattle.command_files.specs.declared.status.Status.TheVariants.{Done}
use Rattle.command_words.specs.Saying.{IsSayDone, IsSayFault, said_text}

pub said : (hex : List ℕ) (server : ℕ) (answer : Answer) → answer.status ≡ Done → files_of answer.file ≡ []
    → IsOkAnd (decode_of hex) (λ bytes. string_bytes answer.text ≡ said_text server bytes)
    → IsSayDone hex server answer
said hex server answer ended none is = record { text_is = is; status_is = ended; made_is = none }

pub no_hex : (hex : List ℕ) (f : Fault) → (f ≡ faults.Memory) ⊎ ((f ≡ faults.Hex) × IsErr (decode_of hex))
    → IsSayFault hex f
no_hex hex f (inl memory) = subst (λ g. IsSayFault hex g) (sym memory) tt
no_hex hex f (inr bad) = subst (λ g. IsSayFault hex g) (sym bad.0) bad.1

pub no_memory : (hex : List ℕ) (f : Fault) → f ≡ faults.Memory → IsSayFault hex f
no_memory hex f same = subst (λ g. IsSayFault hex g) (sym same) tt
