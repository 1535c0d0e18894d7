-- The words by which a debug command is written, and which commands have such words.
use Rattle.std.specs.Prelude.{◌<◌, ◌^◌, ℕ, List, [], ◌∷◌, codes}
use Rattle.std.specs.List.{join_with_byte}
use Rattle.std.specs.Fmt.{decimal}
use Rattle.scenario_words.specs.HexWord.{hex_word}
use Rattle.scenario_words.specs.PathWord.{IsPath}
use Rattle.object_defs.specs.Path.{path_text}
use Rattle.debug_answers.specs.declared.command.Command.{Command}
use Rattle.debug_answers.specs.declared.command.Command.TheVariants as command
use Rattle.debug_answers.specs.declared.command.Point.{Point}
use Rattle.debug_answers.specs.declared.command.Point.TheVariants as point

-- a point whose numbers have their bits
abbrev pub IsPoint : Point → Type 0
IsPoint (point.At n) = n < 2 ^ 64
IsPoint (point.Step d k) = (d < 2 ^ 16) × (k < 2 ^ 32)
IsPoint (point.Changed d p) = (d < 2 ^ 16) × IsPath p
IsPoint (point.Code d c) = (d < 2 ^ 16) × (c < 2 ^ 8)
IsPoint (point.Notified d) = d < 2 ^ 16

-- a command whose numbers have their bits
abbrev pub IsCommand : Command → Type 0
IsCommand command.At = Unit {0}
IsCommand (command.Forward n) = n < 2 ^ 64
IsCommand (command.Back n) = n < 2 ^ 64
IsCommand (command.Break p) = IsPoint p
IsCommand (command.Clear id) = id < 2 ^ 8
IsCommand command.Resume = Unit {0}
IsCommand (command.Value d p) = (d < 2 ^ 16) × IsPath p
IsCommand (command.Observations d) = d < 2 ^ 16
IsCommand (command.Outputs d) = d < 2 ^ 16
IsCommand (command.Why d) = d < 2 ^ 16
IsCommand command.Quit = Unit {0}

-- the words of a point, after `break`
abbrev pub point_words : Point → List (List ℕ)
point_words (point.At n) = codes "at" ∷ decimal n ∷ []
point_words (point.Step d k) = codes "step" ∷ decimal d ∷ decimal k ∷ []
point_words (point.Changed d p) = codes "changed" ∷ decimal d ∷ path_text p ∷ []
point_words (point.Code d c) = codes "code" ∷ decimal d ∷ hex_word (c ∷ []) ∷ []
point_words (point.Notified d) = codes "notified" ∷ decimal d ∷ []

-- the words of a command
abbrev pub words_of : Command → List (List ℕ)
words_of command.At = codes "at" ∷ []
words_of (command.Forward n) = codes "forward" ∷ decimal n ∷ []
words_of (command.Back n) = codes "back" ∷ decimal n ∷ []
words_of (command.Break p) = codes "break" ∷ point_words p
words_of (command.Clear id) = codes "clear" ∷ decimal id ∷ []
words_of command.Resume = codes "resume" ∷ []
words_of (command.Value d p) = codes "value" ∷ decimal d ∷ path_text p ∷ []
words_of (command.Observations d) = codes "obs" ∷ decimal d ∷ []
words_of (command.Outputs d) = codes "out" ∷ decimal d ∷ []
words_of (command.Why d) = codes "why" ∷ decimal d ∷ []
words_of command.Quit = codes "quit" ∷ []

-- a command as its line has it
abbrev pub line_of : Command → List ℕ
line_of c = join_with_byte 32 (words_of c)
