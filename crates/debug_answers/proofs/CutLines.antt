-- What is shown of a line.
use Rattle.std.proofs.Common.{◌≡◌, ◌≤◌, ℕ, List, length, take, sym}
use Rattle.std.proofs.lemmas.List.{take_all}
use Rattle.debug_answers.specs.Notes.{most_shown_bytes}

pub all_shown : (line : List ℕ) → length line ≤ most_shown_bytes → line ≡ take most_shown_bytes line
all_shown line few = sym (take_all most_shown_bytes line few)
