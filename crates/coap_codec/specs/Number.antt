use Rattle.std.specs.Prelude.{ℕ, ◌+◌, ◌*◌, ◌/◌, ◌%◌, List, [], ◌∷◌, fold, nat_lt, if◌then◌else◌}

-- the number that bytes spell, the high byte first (RFC 7252 section 3.2)
abbrev pub big_endian : List ℕ → ℕ
big_endian bytes = fold (λ n b. 256 * n + b) 0 bytes

-- the fewest bytes of a number below 2^32, zero in none (RFC 7252 section 3.2)
abbrev pub shortest_big_endian : ℕ → List ℕ
shortest_big_endian n =
    if nat_lt n 1 then []
    else (if nat_lt n 256 then n ∷ []
    else (if nat_lt n 65536 then n / 256 ∷ n % 256 ∷ []
    else (if nat_lt n 16777216 then n / 65536 ∷ n / 256 % 256 ∷ n % 256 ∷ []
    else n / 16777216 ∷ n / 65536 % 256 ∷ n / 256 % 256 ∷ n % 256 ∷ [])))
