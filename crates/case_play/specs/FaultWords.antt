-- Why a text is refused, in the words of a case.
use Rattle.std.specs.Prelude.{ℕ, List, ◌++◌, codes}
use Rattle.std.specs.Fmt.{decimal}
use Rattle.scenario_words.specs.CauseWords.{cause_words}
use Rattle.scenario_asm.specs.declared.fault.AsmFault.{AsmFault}

-- the number of a line, and a word after it
abbrev pub line_and_word : ℕ → List ℕ → List ℕ
line_and_word line word = codes "line " ++ decimal line ++ codes " " ++ word

-- the line that is refused, counted from 1, and the cause
abbrev pub text_fault_words : AsmFault → List ℕ
text_fault_words fault = line_and_word fault.line (cause_words fault.cause)

-- the bytes are not UTF-8
abbrev pub unreadable_words : List ℕ
unreadable_words = codes "read"
