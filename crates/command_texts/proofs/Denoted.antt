-- What is read of a text, put together from its parts.
use Rattle.std.proofs.Common.{ℕ, ◌≡◌, ◌≢◌, List, Option, None, Err, inl, inr, subst, sym}
use Rattle.std.specs.Str.{IsUtf8}
use Rattle.scenario_image.specs.Scenario.{Scenario}
use Rattle.scenario_words.specs.declared.cause.Cause.{Cause}
use Rattle.scenario_words.specs.declared.cause.Cause.TheVariants as cause
use Rattle.scenario_asm.specs.Denotes.{Denotes}
use Rattle.scenario_asm.specs.Limits.{PassesAt, asm_fault}
use Rattle.scenario_asm.specs.Text.{scenario_of_text}
use Rattle.scenario_asm.specs.declared.fault.TextFault.{TextFault}
use Rattle.command_files.specs.Fault.{IsReadingFault}
use Rattle.command_files.specs.declared.fault.Fault.{Fault}
use Rattle.command_files.specs.declared.fault.Fault.TheVariants as faults
use Rattle.command_files.specs.declared.refusal.Why.{Why}
use Rattle.command_files.specs.declared.refusal.Why.TheVariants as whys
use Rattle.command_texts.specs.Blamed.{IsBlamed, IsRefusedText, statement_cause}
use Rattle.command_texts.specs.Texts.{IsNoText, IsTextAt, IsTextFault, IsTextWhy, IsTextWhyAt}

pub text_at : (holds : List ℕ → List ℕ → Type 0) (path bytes : List ℕ) (s : Scenario) → holds path bytes
    → Denotes bytes s → IsTextAt holds path s
text_at holds path bytes s held denotes = record { bytes = bytes; held = held; so = denotes }

pub unread : (holds : List ℕ → List ℕ → Type 0) (fails : List ℕ → Type 0) (path : List ℕ) (f : Fault)
    → IsReadingFault (fails path) f → IsTextFault holds fails path f
unread holds fails path f h = inl h

pub no_text_at : (holds : List ℕ → List ℕ → Type 0) (fails : List ℕ → Type 0) (path bytes : List ℕ) (f : Fault)
    → holds path bytes → IsNoText bytes f → IsTextFault holds fails path f
no_text_at holds fails path bytes f held h = inr (record { bytes = bytes; held = held; so = h })

pub no_utf8 : (bytes : List ℕ) → ¬ (IsUtf8 bytes) → IsNoText bytes faults.Read
no_utf8 bytes broken = broken

-- a text that denotes no scenario
pub wrong_text : (bytes : List ℕ) (fault : TextFault) (f : Fault) (why : Why)
    → (fault.cause ≢ cause.Memory → scenario_of_text bytes ≡ Err (asm_fault fault))
    → (fault.cause ≡ cause.Limit → PassesAt bytes fault.line fault.limit)
    → (fault.cause ≢ cause.Limit → fault.limit ≡ None) → IsRefusedText statement_cause bytes fault f why
    → IsNoText bytes f
wrong_text bytes fault f why h limit no_limit (inl told) =
    subst (λ g. IsNoText bytes g) (sym told.1)
    (record { fault_is = h told.0; limit = limit; no_limit = no_limit })
wrong_text bytes fault f why h limit no_limit (inr memory) = subst (λ g. IsNoText bytes g) (sym memory.0) tt

pub text_why : (bytes : List ℕ) (fault : TextFault) (f : Fault) (why : Why)
    → IsRefusedText statement_cause bytes fault f why → IsTextWhy bytes f why
text_why bytes fault f why (inl told) = subst (λ g. IsTextWhy bytes g why) (sym told.1) told.2
text_why bytes fault f why (inr memory) = subst (λ g. IsTextWhy bytes g why) (sym memory.0) tt

-- the same of the file that was read
pub unread_why : (holds : List ℕ → List ℕ → Type 0) (fails : Type 0) (path : List ℕ) (f : Fault) (why : Why)
    → IsReadingFault fails f → IsTextWhyAt holds path f why
unread_why holds fails path faults.Memory why h = tt
unread_why holds fails path faults.Read why h = tt
unread_why holds fails path (faults.Text fault) why h = absurd h
unread_why holds fails path faults.Hex why h = tt
unread_why holds fails path faults.Write why h = tt
unread_why holds fails path (faults.Layout fault) why h = tt
unread_why holds fails path faults.TooLarge why h = tt
unread_why holds fails path (faults.Template fault) why h = tt
unread_why holds fails path faults.Workers why h = tt
unread_why holds fails path faults.Batch why h = tt
unread_why holds fails path faults.Spent why h = tt
unread_why holds fails path faults.NoDevice why h = tt
unread_why holds fails path faults.PastEnd why h = tt
unread_why holds fails path faults.Range why h = tt
unread_why holds fails path faults.TooLong why h = tt
unread_why holds fails path faults.Bind why h = tt
unread_why holds fails path faults.Wire why h = tt
unread_why holds fails path (faults.Session fault) why h = tt
unread_why holds fails path (faults.Cases fault) why h = tt
unread_why holds fails path faults.NoSuchCase why h = tt
unread_why holds fails path faults.NoDatagram why h = tt
unread_why holds fails path faults.OtherClasses why h = tt
unread_why holds fails path faults.Slices why h = tt

pub why_at : (holds : List ℕ → List ℕ → Type 0) (path bytes : List ℕ) (f : Fault) (why : Why) → holds path bytes
    → IsNoText bytes f → IsTextWhy bytes f why → IsTextWhyAt holds path f why
why_at holds path bytes faults.Memory why held h said = tt
why_at holds path bytes faults.Read why held h said = tt
why_at holds path bytes (faults.Text fault) why held h said =
    record { bytes = bytes; held = held; so = (h, said) }
why_at holds path bytes faults.Hex why held h said = tt
why_at holds path bytes faults.Write why held h said = tt
why_at holds path bytes (faults.Layout fault) why held h said = tt
why_at holds path bytes faults.TooLarge why held h said = tt
why_at holds path bytes (faults.Template fault) why held h said = tt
why_at holds path bytes faults.Workers why held h said = tt
why_at holds path bytes faults.Batch why held h said = tt
why_at holds path bytes faults.Spent why held h said = tt
why_at holds path bytes faults.NoDevice why held h said = tt
why_at holds path bytes faults.PastEnd why held h said = tt
why_at holds path bytes faults.Range why held h said = tt
why_at holds path bytes faults.TooLong why held h said = tt
why_at holds path bytes faults.Bind why held h said = tt
why_at holds path bytes faults.Wire why held h said = tt
why_at holds path bytes (faults.Session fault) why held h said = tt
why_at holds path bytes (faults.Cases fault) why held h said = tt
why_at holds path bytes faults.NoSuchCase why held h said = tt
why_at holds path bytes faults.NoDatagram why held h said = tt
why_at holds path bytes faults.OtherClasses why held h said = tt
why_at holds path bytes faults.Slices why held h said = tt

-- what is said of a text
pub refused_so : (causes : List (List ℕ) → Option Cause) (text : List ℕ) (fault : TextFault) (f : Fault) (why : Why)
    → fault.cause ≢ cause.Memory → f ≡ faults.Text fault → IsBlamed causes text fault why
    → IsRefusedText causes text fault f why
refused_so causes text fault f why some is blamed = inl (some, is, blamed)

pub no_memory : (causes : List (List ℕ) → Option Cause) (text : List ℕ) (fault : TextFault) (f : Fault) (why : Why)
    → f ≡ faults.Memory → why ≡ whys.Named → IsRefusedText causes text fault f why
no_memory causes text fault f why is named = inr (is, named)

-- no memory is left
pub text_memory : (holds : List ℕ → List ℕ → Type 0) (fails : List ℕ → Type 0) (path : List ℕ) (f : Fault)
    → f ≡ faults.Memory → IsTextFault holds fails path f
text_memory holds fails path f same = subst (λ g. IsTextFault holds fails path g) (sym same) (inl tt)
