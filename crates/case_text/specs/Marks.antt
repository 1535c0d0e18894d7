-- How a line begins, and what is made of what stands behind its mark.
use Rattle.std.specs.Prelude.{◌≡◌, ◌≢◌, ℕ, ◌&&◌, Bool, List, length, take, drop, Result, Ok, Err, if◌then◌else◌}
use Rattle.std.specs.Str.{bytes_eq, is_utf8}
use Rattle.scenario_words.specs.declared.cause.Cause.{Cause}
use Rattle.case_text.specs.declared.fault.Why.{Why}
use Rattle.case_text.specs.declared.fault.Why.TheVariants as why
use Rattle.case_text.specs.declared.line.Line.{Line}

-- what a function answered is what there is, seen through the view, unless memory ran out
abbrev pub Finds : {X Y : Type 0} → (X → Y) → Result X Why → Result Y Why → Type 0
Finds view (Ok x) found = found ≡ Ok (view x)
Finds view (Err e) found = e ≢ why.Memory → found ≡ Err e

-- whether a line begins so, and what stands behind this beginning
abbrev pub begins : List ℕ → List ℕ → Bool
begins mark line = bytes_eq (take (length mark) line) mark

abbrev pub behind : List ℕ → List ℕ → List ℕ
behind mark line = drop (length mark) line

-- whether a line begins with this name, which is its first word
abbrev pub is_headed : List ℕ → List ℕ → List ℕ → Bool
is_headed name w line = bytes_eq w name && begins name line

-- what was read, and what is made of it, or why it could not be read
abbrev pub line_or_refusal : {A : Type 0} → (Cause → Why) → (A → Line) → Result A Cause → Result Line Why
line_or_refusal refused make (Ok x) = Ok (make x)
line_or_refusal refused make (Err cause) = Err (refused cause)

-- bytes that have to be UTF-8, and what is made of such a text
abbrev pub text_from : List ℕ → Result (List ℕ) Why
text_from bytes = if is_utf8 bytes then Ok bytes else Err why.NotText

abbrev pub of_text : (List ℕ → Line) → Result (List ℕ) Why → Result Line Why
of_text make (Ok text) = Ok (make text)
of_text make (Err e) = Err e
