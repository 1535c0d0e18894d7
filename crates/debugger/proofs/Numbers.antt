-- The slots of breakpoints.
use Rattle.std.proofs.Common.{◌≡◌, ℕ, ◌+◌, ◌<◌, List, length, get_or}
use Rattle.std.proofs.Common.{Option, None, Some, is_some, true, false, slice_get, refl, sym, subst, ◌∙◌, arith}
use Rattle.std.proofs.lemmas.Option.{slice_get_within, slice_get-get_or}
use Rattle.debugger.specs.declared.breaks.Break.{Break}
use Rattle.debugger.specs.Session.{most_breaks}
use Rattle.debugger.specs.Breaks.{IsTaken, AreAllTaken}

-- a number is taken exactly if its slot has a breakpoint
pub taken_slot : (breaks : List (Option Break)) (i : ℕ) → IsTaken breaks (i + 1)
    → (b : Break) × (slice_get breaks i ≡ Some (Some b))
taken_slot breaks i taken =
    let same : taken.slot ≡ i = omega (arith, taken.number) in
    (taken.point, subst (λ j. slice_get breaks j ≡ Some (Some taken.point)) same taken.stands)

pub is_taken_at : (breaks : List (Option Break)) (i : ℕ) (b : Break) → slice_get breaks i ≡ Some (Some b)
    → IsTaken breaks (i + 1)
is_taken_at breaks i b at = record { slot = i; point = b; number = refl; stands = at }

-- where a slot is free not all are taken
pub free_not_all : (breaks : List (Option Break)) (slot : ℕ) → length breaks ≡ most_breaks
    → slice_get breaks slot ≡ Some None → AreAllTaken breaks → ⊥
free_not_all breaks slot count free all =
    let within : slot < length breaks = slice_get_within breaks slot None free in
    let found = taken_slot breaks slot (all slot (omega (arith, within, count))) in
    let e : Some None ≡ Some (Some found.0) = sym free ∙ found.1 in cc

pub all_taken : (breaks : List (Option Break)) → length breaks ≡ most_breaks
    → ((k : ℕ) → k < length breaks → IsTaken breaks (k + 1)) → AreAllTaken breaks
all_taken breaks count each = λ i less. each i (omega (arith, less, count))

some_taken : (breaks : List (Option Break)) (slot : ℕ) (o : Option Break) → slice_get breaks slot ≡ Some o → is_some o
    ≡ true
    → IsTaken breaks (slot + 1)
some_taken breaks slot None at there = let e : false ≡ true = there in absurd cc
some_taken breaks slot (Some b) at there = is_taken_at breaks slot b at

-- a slot that is not free
pub slot_here : (breaks : List (Option Break)) (slot : ℕ) → slot < length breaks → is_some (get_or breaks slot None) ≡
    true
    → IsTaken breaks (slot + 1)
slot_here breaks slot within there =
    some_taken breaks slot (get_or breaks slot None) (slice_get-get_or breaks slot None within) there
