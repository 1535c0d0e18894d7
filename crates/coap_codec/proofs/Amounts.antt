-- deltas and lengths: what their nibbles and extensions say is what was spelled
use Rattle.std.proofs.Common.{◌≡◌, ℕ, ◌-◌, ◌<◌, ◌≤◌, List, [], ◌∷◌, ◌++◌, length, drop, refl, inl, inr, arith}
use Rattle.std.proofs.lemmas.Bool.{cases_lt, lt-ltb, le-ltb}
use Rattle.coap_codec.specs.Message.{nibble_of, extension_of, two_bytes}
use Rattle.coap_codec.specs.Fault.{width, amount}

-- a number is itself, or has one byte more, or two
pub by_size : (n : ℕ) (P : ℕ → List ℕ → Type 0) → (n < 13 → P n []) → (13 ≤ n → n < 269 → P 13 ((n - 13) ∷ []))
    → (269 ≤ n → P 14 (two_bytes (n - 269))) → P (nibble_of n) (extension_of n)
by_size n P small middle large =
    elim (cases_lt n 13) [
      | inl h ↦ rw (lt-ltb n 13 h) (small h)
      | inr h ↦ elim (cases_lt n 269) [
        | inl k ↦ rw (le-ltb n 13 h, lt-ltb n 269 k) (middle h k)
        | inr k ↦ rw (le-ltb n 13 h, le-ltb n 269 k) (large k)
      ]
    ]

pub nibble_below : (n : ℕ) → nibble_of n < 15
nibble_below n = by_size n (λ k e. k < 15) (λ h. omega arith) (λ h k. omega arith) (λ h. omega arith)

pub width_length : (n : ℕ) → width (nibble_of n) ≡ length (extension_of n)
width_length n = by_size n (λ k e. width k ≡ length e) (λ h. rw (lt-ltb n 13 h) refl) (λ h k. refl) (λ h. refl)

pub amount_again : (n : ℕ) (r : List ℕ) → amount (nibble_of n) (extension_of n ++ r) ≡ n
amount_again n r =
    by_size n (λ k e. amount k (e ++ r) ≡ n) (λ h. rw (lt-ltb n 13 h) refl) (λ h k. omega arith) (λ h. omega arith)

pub rest_again : (n : ℕ) (r : List ℕ) → drop (width (nibble_of n)) (extension_of n ++ r) ≡ r
rest_again n r = by_size n (λ k e. drop (width k) (e ++ r) ≡ r) (λ h. rw (lt-ltb n 13 h) refl) (λ h k. refl) (λ h. refl)
