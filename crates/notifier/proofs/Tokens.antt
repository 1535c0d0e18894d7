-- The bytes of a token as one number.
use Rattle.std.proofs.Common.{ℕ, ◌<◌, ◌≤◌, ◌^◌, List, [], ◌∷◌, length, get_or, take, suc, zero, arith}
use Rattle.std.proofs.Common.{length-take}
use Rattle.std.proofs.Math.Nat.{pow-le-pow_right}
use Rattle.std.proofs.lemmas.Int.Digits.{number_lt}
use Rattle.std.specs.Int.Digits.{AllBelowBase, number_from_digits}

pub are_bytes : (bs : List ℕ) → ((i : ℕ) → get_or bs i 0 < 256) → AllBelowBase 256 bs
are_bytes [] h = tt
are_bytes (b ∷ bs) h = (h zero, are_bytes bs (λ i. h (suc i)))

first_bytes : (bs : List ℕ) (i : ℕ) → AllBelowBase 256 bs → AllBelowBase 256 (take i bs)
first_bytes [] zero h = tt
first_bytes [] (suc i) h = tt
first_bytes (b ∷ bs) zero h = tt
first_bytes (b ∷ bs) (suc i) h = (h.0, first_bytes bs i h.1)

-- the number of the first bytes, of at most 7
pub number_so_far : (bs : List ℕ) (i : ℕ) → ((k : ℕ) → get_or bs k 0 < 256) → i ≤ 7
    → number_from_digits 256 (take i bs) < 256 ^ 7
number_so_far bs i h few =
    let below = number_lt 256 (take i bs) (first_bytes bs i (are_bytes bs h)) in
    let short : length (take i bs) ≤ 7 = omega (arith, length-take i bs) in
    let most : 256 ^ length (take i bs) ≤ 256 ^ 7 = pow-le-pow_right {n = 256} (omega arith) short in
    omega (arith, below, most)
