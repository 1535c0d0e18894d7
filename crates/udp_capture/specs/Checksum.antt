-- The checksum of the internet protocols (RFC 1071 section 1).
use Rattle.std.specs.Prelude.{ℕ, ◌+◌, ◌-◌, ◌*◌, ◌/◌, ◌%◌, List, [], ◌∷◌}

-- bytes as words of 16 bits, the high byte first; an odd byte at the end is followed by a zero
abbrev pub sixteen_bit_words : List ℕ → List ℕ
sixteen_bit_words [] = []
sixteen_bit_words (high ∷ []) = 256 * high ∷ []
sixteen_bit_words (high ∷ (low ∷ rest)) = (256 * high + low) ∷ sixteen_bit_words rest

-- the one's complement sum of two words: a carry out of the 16 bits is added at their low end
abbrev pub ones_plus : ℕ → ℕ → ℕ
ones_plus a b = (a + b) % 65536 + (a + b) / 65536

-- the one's complement sum of words
abbrev pub ones_sum : List ℕ → ℕ
ones_sum [] = 0
ones_sum (word ∷ words) = ones_plus word (ones_sum words)

-- the one's complement of that sum of the words of bytes
abbrev pub checksum : List ℕ → ℕ
checksum bytes = 0xFFFF - ones_sum (sixteen_bit_words bytes)
