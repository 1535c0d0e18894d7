-- A word and a name, byte by byte.
use Rattle.std.proofs.Common.{◌≡◌, ◌≢◌, ℕ, ◌+◌, ◌<◌, ◌&&◌, false, eqb, List, length, get_or, drop, refl, ap}
use Rattle.std.specs.Str.{bytes_eq}
use Rattle.std.proofs.lemmas.Bool.{false_from_ne_true}
use Rattle.std.proofs.lemmas.Slice.Eq.{bytes_eq-Decides}
use Rattle.scenario_words.proofs.Scanning.{drop_here}

-- bytes of another length are others
pub other_length : (v w : List ℕ) → length v ≢ length w → bytes_eq v w ≡ false
other_length v w h = false_from_ne_true (bytes_eq v w) (λ e. h (ap length ((bytes_eq-Decides v w).0 e)))

-- a byte of each, before the others
pub same_here : (v w : List ℕ) (i : ℕ) → i < length v → i < length w
    → bytes_eq (drop i v) (drop i w) ≡ (eqb (get_or v i 0) (get_or w i 0) && bytes_eq (drop (i + 1) v) (drop (i + 1) w))
same_here v w i inside within = rw (drop_here v i inside, drop_here w i within) refl
