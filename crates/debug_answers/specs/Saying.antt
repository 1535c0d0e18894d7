-- Which words say which debug command. Numbers, paths and hex digits are as in scenario text.
use Rattle.std.specs.Prelude.{◌≡◌, ◌<◌, ◌^◌, ◌==◌, ◌&&◌, ℕ, nat_le, Bool, true, not, List, [], ◌∷◌, codes}
use Rattle.std.specs.List.{list_all}
use Rattle.std.specs.Fmt.{decimal}
use Rattle.scenario_words.specs.HexWord.{IsByte}
use Rattle.scenario_words.specs.PathWord.{IsPath}
use Rattle.object_defs.specs.Path.{path_text}
use Rattle.scenario_words.specs.Words.{words}
use Rattle.debug_answers.specs.declared.command.Command.{Command}
use Rattle.debug_answers.specs.declared.command.Command.TheVariants as command
use Rattle.debug_answers.specs.declared.command.Point.{Point}
use Rattle.debug_answers.specs.declared.command.Point.TheVariants as point

-- these words say where a breakpoint is to hold. The byte of a code has two hex digits, each in either case
abbrev pub IsBreakSaidBy : Point → List (List ℕ) → Type 0
IsBreakSaidBy (point.At n) ws = (ws ≡ codes "break" ∷ codes "at" ∷ decimal n ∷ []) × (n < 2 ^ 64)
IsBreakSaidBy (point.Step d k) ws =
    (ws ≡ codes "break" ∷ codes "step" ∷ decimal d ∷ decimal k ∷ []) × (d < 2 ^ 16) × (k < 2 ^ 32)
IsBreakSaidBy (point.Changed d p) ws =
    (ws ≡ codes "break" ∷ codes "changed" ∷ decimal d ∷ path_text p ∷ []) × (d < 2 ^ 16) × IsPath p
IsBreakSaidBy (point.Code d c) ws =
    (high : ℕ) × (low : ℕ) × (ws ≡ codes "break" ∷ codes "code" ∷ decimal d ∷ (high ∷ low ∷ []) ∷ []) × (d < 2 ^ 16)
    × IsByte c high low
IsBreakSaidBy (point.Notified d) ws = (ws ≡ codes "break" ∷ codes "notified" ∷ decimal d ∷ []) × (d < 2 ^ 16)

-- these words say this command, and none is left over
abbrev pub IsSaidBy : Command → List (List ℕ) → Type 0
IsSaidBy command.At ws = ws ≡ codes "at" ∷ []
IsSaidBy (command.Forward n) ws = (ws ≡ codes "forward" ∷ decimal n ∷ []) × (n < 2 ^ 64)
IsSaidBy (command.Back n) ws = (ws ≡ codes "back" ∷ decimal n ∷ []) × (n < 2 ^ 64)
IsSaidBy (command.Break p) ws = IsBreakSaidBy p ws
IsSaidBy (command.Clear id) ws = (ws ≡ codes "clear" ∷ decimal id ∷ []) × (id < 2 ^ 8)
IsSaidBy command.Resume ws = ws ≡ codes "resume" ∷ []
IsSaidBy (command.Value d p) ws = (ws ≡ codes "value" ∷ decimal d ∷ path_text p ∷ []) × (d < 2 ^ 16) × IsPath p
IsSaidBy (command.Observations d) ws = (ws ≡ codes "obs" ∷ decimal d ∷ []) × (d < 2 ^ 16)
IsSaidBy (command.Outputs d) ws = (ws ≡ codes "out" ∷ decimal d ∷ []) × (d < 2 ^ 16)
IsSaidBy (command.Why d) ws = (ws ≡ codes "why" ∷ decimal d ∷ []) × (d < 2 ^ 16)
IsSaidBy command.Quit ws = ws ≡ codes "quit" ∷ []

-- a character of printable ASCII, and no `#`
abbrev pub is_plain : List ℕ → Bool
is_plain line = list_all (λ b. nat_le 32 b && nat_le b 126 && not (b == 35)) line

-- the line says this command: it is of such characters, and spaces part its words
abbrev pub IsLineOf : Command → List ℕ → Type 0
IsLineOf c line = (is_plain line ≡ true) × IsSaidBy c (words line)

-- a debugger has this command: only one that is asked for reasons has `why`
abbrev pub HasCommand : Bool → Command → Type 0
HasCommand reasons (command.Why d) = reasons ≡ true
HasCommand reasons c = Unit {0}

-- the line says this command, and the debugger has it
abbrev pub IsCommandIn : Bool → Command → List ℕ → Type 0
IsCommandIn reasons c line = IsLineOf c line × HasCommand reasons c

-- the line is the word `help` alone: what a person asks, and no command
abbrev pub IsHelp : List ℕ → Type 0
IsHelp line = (is_plain line ≡ true) × (words line ≡ codes "help" ∷ [])
