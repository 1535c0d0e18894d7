-- Queries that a word of scenario text can say: 34 is `"`, 35 is `#`.
use Rattle.std.specs.Prelude.{ℕ, nat_lt, nat_le, ◌==◌, not, ◌&&◌, Bool, false, List, [], ◌∷◌, length}
use Rattle.std.specs.List.{list_all}
use Rattle.std.specs.Char.{is_ascii_graphic}

-- 1 to 255 bytes from 21 to 7E, of which the first begins neither a comment nor a quoted word
abbrev pub is_query : List ℕ → Bool
is_query [] = false
is_query (b ∷ bs) =
    (not (b == 35) && not (b == 34)) && (nat_le (length (b ∷ bs)) 255 && list_all is_ascii_graphic (b ∷ bs))

-- one such query or more
abbrev pub are_queries : List (List ℕ) → Bool
are_queries qs = nat_lt 0 (length qs) && list_all is_query qs
