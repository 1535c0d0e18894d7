-- The datagram that a line of a case states.
use Rattle.std.specs.Prelude.{ℕ, ◌+◌, ◌*◌, ◌==◌, nat_lt, ◌&&◌, List, [], ◌∷◌, Option, None, Some, find, option_map}
use Rattle.std.specs.Prelude.{if◌then◌else◌, option_and_then}
use Rattle.scenario_words.specs.HexWord.{with_first_byte}
use Rattle.case_text.specs.declared.answer.Answer.{Answer}
use Rattle.case_text.specs.declared.case.Case.{Case}
use Rattle.case_text.specs.declared.case.Case.TheVariants as cases
use Rattle.case_text.specs.declared.digit.Digit.{Digit}
use Rattle.case_text.specs.declared.digit.Digit.TheVariants.{Any, Is}
use Rattle.case_text.specs.declared.item.Item.{Item}
use Rattle.case_text.specs.declared.stated.OutputStated.TheVariants.{Send}
use Rattle.case_text.specs.declared.stated.Stated.{Stated}
use Rattle.case_text.specs.declared.stated.Stated.TheVariants.{Output}

-- the byte of two digits, where both are stated
abbrev pub known_byte : Digit → Digit → Option ℕ
known_byte (Is high) (Is low) = if nat_lt high 16 && nat_lt low 16 then Some (high * 16 + low) else None
known_byte Any low = None
known_byte (Is high) Any = None

abbrev pub byte_before : Option ℕ → Option (List ℕ) → Option (List ℕ)
byte_before None others = None
byte_before (Some byte) others = with_first_byte byte others

-- the bytes of digits, where each digit is stated
abbrev pub known_bytes : List Digit → Option (List ℕ)
known_bytes [] = Some []
known_bytes (high ∷ []) = None
known_bytes (high ∷ low ∷ others) = byte_before (known_byte high low) (known_bytes others)

-- no bytes, where no digit is left
abbrev pub if_none : List Digit → Option (List ℕ)
if_none [] = Some []
if_none (digit ∷ others) = None

-- the datagram that is stated to be sent
abbrev pub sent_by : Stated → Option (List ℕ)
sent_by (Output (Send server digits)) = known_bytes digits
sent_by stated = None

-- what the answer in this line states, if an answer stands there
abbrev pub stated_by : ℕ → List Answer → Option Stated
stated_by line answers = option_map (λ a. a.stated) (find (λ a. a.line == line) answers)

abbrev pub or_else : Option Stated → Option Stated → Option Stated
or_else (Some stated) other = Some stated
or_else None other = other

abbrev pub stated_in : ℕ → List Item → Option Stated
stated_in line [] = None
stated_in line (item ∷ items) = or_else (stated_by line item.answers) (stated_in line items)

-- the datagram that a line of a case states, if it states one and all its digits
abbrev pub sent_at : Case → ℕ → Option (List ℕ)
sent_at (cases.Scenario case) line = option_and_then sent_by (stated_in line case.items)
sent_at (cases.File case) line = None
