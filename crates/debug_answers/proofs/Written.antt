-- The words of a command say it, and are found again in its line.
use Rattle.std.proofs.Common.{◌≡◌, ℕ, ◌/◌, ◌%◌, ◌<◌, ◌^◌, inl, inr, true, List, [], ◌∷◌, refl, arith}
use Rattle.std.specs.Prelude.{codes}
use Rattle.std.specs.List.{list_all}
use Rattle.std.specs.Fmt.{decimal}
use Rattle.std.proofs.lemmas.Bool.{and_from}
use Rattle.scenario_words.specs.Words.{words}
use Rattle.object_defs.specs.Path.{path_text}
use Rattle.scenario_words.specs.HexWord.{IsByte, IsHex, ArePairs, digit_of, hex_word}
use Rattle.scenario_words.proofs.Pairs.{hex_written}
use Rattle.scenario_statements.proofs.Plain.{is_bare, bare_words, decimal_bare, hex_bare, path_bare}
use Rattle.debug_answers.specs.declared.command.Command.{Command}
use Rattle.debug_answers.specs.declared.command.Command.TheVariants as command
use Rattle.debug_answers.specs.declared.command.Point.{Point}
use Rattle.debug_answers.specs.declared.command.Point.TheVariants as point
use Rattle.debug_answers.specs.Saying.{IsBreakSaidBy, IsSaidBy}
use Rattle.debug_answers.specs.Spelling.{IsPoint, IsCommand, point_words, words_of, line_of}

pairs_of : (w : List ℕ) (b : ℕ) → IsHex w (b ∷ []) → ArePairs w (b ∷ [])
pairs_of w b (inl none) = cc (none.1)
pairs_of w b (inr pairs) = pairs

byte_written : (b : ℕ) → b < 2 ^ 8 → IsByte b (digit_of (b / 16)) (digit_of (b % 16))
byte_written b h = (pairs_of (hex_word (b ∷ [])) b (hex_written (b ∷ []) (omega (arith, h), tt))).0

point_said : (p : Point) → IsPoint p → IsBreakSaidBy p (codes "break" ∷ point_words p)
point_said (point.At n) h = (refl, h)
point_said (point.Step d k) h = (refl, h.0, h.1)
point_said (point.Changed d p) h = (refl, h.0, h.1)
point_said (point.Code d c) h = (digit_of (c / 16), digit_of (c % 16), refl, h.0, byte_written c h.1)
point_said (point.Notified d) h = (refl, h)

pub said : (c : Command) → IsCommand c → IsSaidBy c (words_of c)
said command.At h = refl
said (command.Forward n) h = (refl, h)
said (command.Back n) h = (refl, h)
said (command.Break p) h = point_said p h
said (command.Clear id) h = (refl, h)
said command.Resume h = refl
said (command.Value d p) h = (refl, h.0, h.1)
said (command.Observations d) h = (refl, h)
said (command.Outputs d) h = (refl, h)
said (command.Why d) h = (refl, h)
said command.Quit h = refl

point_good : (p : Point) (ws : List (List ℕ)) → IsBreakSaidBy p ws → IsPoint p
point_good (point.At n) ws h = h.1
point_good (point.Step d k) ws h = (h.1, h.2)
point_good (point.Changed d p) ws h = (h.1, h.2)
point_good (point.Code d c) ws h = (h.3, omega (arith, h.4.0))
point_good (point.Notified d) ws h = h.1

pub good : (c : Command) (ws : List (List ℕ)) → IsSaidBy c ws → IsCommand c
good command.At ws h = tt
good (command.Forward n) ws h = h.1
good (command.Back n) ws h = h.1
good (command.Break p) ws h = point_good p ws h
good (command.Clear id) ws h = h.1
good command.Resume ws h = tt
good (command.Value d p) ws h = (h.1, h.2)
good (command.Observations d) ws h = h.1
good (command.Outputs d) ws h = h.1
good (command.Why d) ws h = h.1
good command.Quit ws h = tt

-- ---- the words of the line

number_bare : (n : ℕ) → n < 2 ^ 64 → list_all is_bare (decimal n ∷ []) ≡ true
number_bare n h = and_from _ _ (decimal_bare n h) refl

two_bare : (n : ℕ) (w : List ℕ) → n < 2 ^ 16 → is_bare w ≡ true → list_all is_bare (decimal n ∷ w ∷ []) ≡ true
two_bare n w h k = and_from _ _ (decimal_bare n (omega arith)) (and_from _ _ k refl)

point_bare : (p : Point) → IsPoint p → list_all is_bare (point_words p) ≡ true
point_bare (point.At n) h = and_from _ _ refl (number_bare n h)
point_bare (point.Step d k) h = and_from _ _ refl (two_bare d (decimal k) h.0 (decimal_bare k (omega (arith, h.1))))
point_bare (point.Changed d p) h = and_from _ _ refl (two_bare d (path_text p) h.0 (path_bare p h.1))
point_bare (point.Code d c) h = and_from _ _ refl (two_bare d (hex_word (c ∷ [])) h.0 (hex_bare (c ∷ [])))
point_bare (point.Notified d) h = and_from _ _ refl (number_bare d (omega arith))

bare : (c : Command) → IsCommand c → list_all is_bare (words_of c) ≡ true
bare command.At h = refl
bare (command.Forward n) h = and_from _ _ refl (number_bare n h)
bare (command.Back n) h = and_from _ _ refl (number_bare n h)
bare (command.Break p) h = and_from _ _ refl (point_bare p h)
bare (command.Clear id) h = and_from _ _ refl (number_bare id (omega arith))
bare command.Resume h = refl
bare (command.Value d p) h = and_from _ _ refl (two_bare d (path_text p) h.0 (path_bare p h.1))
bare (command.Observations d) h = and_from _ _ refl (number_bare d (omega arith))
bare (command.Outputs d) h = and_from _ _ refl (number_bare d (omega arith))
bare (command.Why d) h = and_from _ _ refl (number_bare d (omega arith))
bare command.Quit h = refl

pub found_again : (c : Command) → IsCommand c → words (line_of c) ≡ words_of c
found_again c h = bare_words (words_of c) (bare c h)
