-- Faults that are passed on.
use Rattle.std.proofs.Common.{◌≡◌, Result, Err, ap}

-- a fault is the same whatever would have been returned without it
pub same_fault : {X Y F : Type 0} (a b : F) → ◌≡◌ {A = Result X F} (Err a) (Err b)
    → ◌≡◌ {A = Result Y F} (Err a) (Err b)
same_fault a b is = let same : a ≡ b = cc in ap Err same
