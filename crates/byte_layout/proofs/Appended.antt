-- Bytes written behind others leave those in front.
use Rattle.std.proofs.Common.{◌≡◌, ℕ, List, ◌++◌, length, take, take-take, refl}
use Rattle.std.specs.Io.{StartsWith}
use Rattle.std.proofs.Transfers.{starts_with_of_eq, starts_with_of_append, starts_with_trans, starts_with_length}

-- nothing was written
pub none_more : (old : List ℕ) → StartsWith old old
none_more old = starts_with_of_eq old old refl

-- some was written
pub some_more : (old more : List ℕ) → (old ++ more ≡ old ++ more) × StartsWith (old ++ more) old
some_more old more = (refl, starts_with_of_append (old ++ more) old more refl)

-- some was written, and then again
pub more_again : (old mid new : List ℕ) → StartsWith mid old → StartsWith new mid
    → take (length old) (take (length mid) new) ≡ take (length old) new
more_again old mid new h k = take-take (length old) (length mid) new (starts_with_length mid old h)

-- for tactics
pub ruleset appended = (none_more, some_more, more_again)

-- behind what a loop has written
pub behind : (start written out new : List ℕ) → out ≡ start ++ written → StartsWith new out → StartsWith new start
behind start written out new so_far h =
    starts_with_trans new out start h (starts_with_of_append out start written so_far)
