-- The words of bytes.
use Rattle.std.proofs.Common.{◌≡◌, ℕ, zero, suc, ◌+◌, ◌*◌, ◌<◌, ◌≤◌, List, [], ◌∷◌, ◌++◌, length, get_or}
use Rattle.std.proofs.Common.{drop, refl, ap, arith}
use Rattle.std.specs.Prelude.{sum}
use Rattle.std.specs.List.{AllByRecursion}
use Rattle.std.specs.Int.{Width, byte_at, bytes_high_first, byte_len, to_be_bytes}
use Rattle.std.proofs.lemmas.List.Sums.{sum_by-append}
use Rattle.udp_capture.specs.Checksum.{sixteen_bit_words}
use Rattle.udp_capture.specs.Fields.{header_bytes}
use Rattle.udp_capture.proofs.Sums.{AreWords, sum_cons}

abbrev pub AreBytes : List ℕ → Type 0
AreBytes bytes = AllByRecursion (λ b. b < 256) bytes

pub joined_bytes : (a b : List ℕ) → AreBytes a → AreBytes b → AreBytes (a ++ b)
joined_bytes [] b fa fb = fb
joined_bytes (x ∷ a) b fa fb = (fa.0, joined_bytes a b fa.1 fb)

byte_fits : (i n : ℕ) → byte_at i n < 256
byte_fits zero n = omega arith
byte_fits (suc i) n = omega arith

number_fits : (k n : ℕ) → AreBytes (bytes_high_first k n)
number_fits zero n = tt
number_fits (suc k) n = (byte_fits k n, number_fits k n)

-- fields are bytes
pub fields_fit : (fields : List (Width × ℕ)) → AreBytes (header_bytes fields)
fields_fit [] = tt
fields_fit (f ∷ fields) =
    joined_bytes (to_be_bytes f.0 f.1) (header_bytes fields) (number_fits (byte_len f.0) f.1) (fields_fit fields)

-- bytes by their places
pub bytes_are : (bytes : List ℕ) → ((k : ℕ) → get_or bytes k 0 < 256) → AreBytes bytes
bytes_are [] fit = tt
bytes_are (b ∷ bytes) fit = (fit 0, bytes_are bytes (λ k. fit (suc k)))

-- words of bytes are words
pub words_fit : (bytes : List ℕ) → AreBytes bytes → AreWords (sixteen_bit_words bytes)
words_fit [] fit = tt
words_fit (a ∷ []) fit = (omega (arith, fit.0), tt)
words_fit (a ∷ (b ∷ rest)) fit = (omega (arith, fit.0, fit.1.0), words_fit rest fit.1.1)

-- no sum is above this
pub sum_below : (bytes : List ℕ) → AreBytes bytes → sum (sixteen_bit_words bytes) ≤ 32768 * (length bytes + 1)
sum_below [] fit = omega arith
sum_below (a ∷ []) fit = omega (arith, fit.0)
sum_below (a ∷ (b ∷ rest)) fit =
    omega (
      arith,
      fit.0,
      fit.1.0,
      sum_cons (256 * a + b) (sixteen_bit_words rest),
      sum_below rest fit.1.1,
    )

-- the first word of several bytes, and the one of a lone byte
pub first_word : (bytes : List ℕ) → 2 ≤ length bytes
    → sum (sixteen_bit_words bytes)
    ≡ 256 * get_or bytes 0 0 + get_or bytes 1 0 + sum (sixteen_bit_words (drop 2 bytes))
first_word [] two = absurd (omega arith)
first_word (a ∷ []) two = absurd (omega arith)
first_word (a ∷ (b ∷ rest)) two = sum_cons (256 * a + b) (sixteen_bit_words rest)

pub lone_word : (bytes : List ℕ) → length bytes ≡ 1 → sum (sixteen_bit_words bytes) ≡ 256 * get_or bytes 0 0
lone_word [] one = absurd (omega arith)
lone_word (a ∷ []) one = omega arith
lone_word (a ∷ (b ∷ rest)) one = absurd (omega arith)

-- words of bytes of an even length, and of those after them
pub words-append : (k : ℕ) (a b : List ℕ) → length a ≡ k + k
    → sixteen_bit_words (a ++ b) ≡ sixteen_bit_words a ++ sixteen_bit_words b
words-append k [] b even = refl
words-append k (x ∷ []) b even = absurd (omega arith)
words-append zero (x ∷ (y ∷ a)) b even = absurd (omega arith)
words-append (suc k) (x ∷ (y ∷ a)) b even =
    ap (λ ws. (256 * x + y) ∷ ws) (words-append k a b (omega arith))

pub sum-append : (a b : List ℕ) → sum (a ++ b) ≡ sum a + sum b
sum-append a b = sum_by-append (λ n. n) a b
