-- Numbers: decimal, with no needless zero, and a minus sign in front of those below 0.
use Rattle.std.specs.Prelude.{ℕ, ℤ, pos, negsuc, neg_ℤ, Bool, false, ◌==◌, nat_lt, nat_le, ◌&&◌, ◌||◌, List, [], ◌∷◌}
use Rattle.std.specs.Prelude.{length, slice_index, if◌then◌else◌, Result, Ok, Err}
use Rattle.std.specs.List.{list_all}
use Rattle.std.specs.Char.{is_ascii_digit}
use Rattle.std.specs.Str.Parse.{digits_value}
use Rattle.scenario_words.specs.declared.cause.Cause.{Cause}
use Rattle.scenario_words.specs.declared.cause.Cause.TheVariants.{Token, Range}

-- digits alone, and a zero in front only where it is the number 0
abbrev pub is_natural : List ℕ → Bool
is_natural ds = list_all is_ascii_digit ds && (nat_lt 0 (length ds) && (nat_lt 48 (slice_index ds 0) || length ds == 1))

-- such digits, or a minus sign and such digits of a number other than 0
abbrev pub is_number : List ℕ → Bool
is_number [] = false
is_number (c ∷ cs) = if c == 45 then is_natural cs && nat_lt 48 (slice_index cs 0) else is_natural (c ∷ cs)

-- the number of a word, which has to be from low to high
abbrev pub number_of : ℕ → ℕ → List ℕ → Result ℕ Cause
number_of low high w =
    if is_number w then (if is_natural w && (nat_le low (digits_value 10 w) && nat_le (digits_value 10 w) high)
    then Ok (digits_value 10 w) else Err Range) else Err Token

-- what a number's word stands for
abbrev pub integer_value : List ℕ → ℤ
integer_value [] = pos 0
integer_value (c ∷ cs) = if c == 45 then neg_ℤ (pos (digits_value 10 cs)) else pos (digits_value 10 (c ∷ cs))

-- from -2^63 to 2^63 - 1
abbrev pub is_64_bits : ℤ → Bool
is_64_bits (pos n) = nat_lt n 9223372036854775808
is_64_bits (negsuc n) = nat_lt n 9223372036854775808

-- the integer of a word, which has to have 64 bits
abbrev pub integer_of : List ℕ → Result ℤ Cause
integer_of w = if is_number w then (if is_64_bits (integer_value w) then Ok (integer_value w) else Err Range)
    else Err Token
