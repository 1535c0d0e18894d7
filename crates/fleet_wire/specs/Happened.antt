-- How often the wire did what.
use Rattle.std.specs.Prelude.{◌≡◌, ℕ, Bool, true, false, List, count_by}
use Rattle.fleet_link.specs.Counting.{saturated_count}
use Rattle.fleet_wire.specs.declared.happened.Happened.{Happened}
use Rattle.fleet_wire.specs.declared.note.Note.{Note}
use Rattle.fleet_wire.specs.declared.plan.Fate.{Fate}
use Rattle.fleet_wire.specs.declared.plan.Fate.TheVariants.{Late, Lost, Passes, Swapped, Twice}

abbrev pub is_lost : Fate → Bool
is_lost Lost = true
is_lost Twice = false
is_lost Swapped = false
is_lost Late = false
is_lost Passes = false

abbrev pub is_twice : Fate → Bool
is_twice Lost = false
is_twice Twice = true
is_twice Swapped = false
is_twice Late = false
is_twice Passes = false

abbrev pub is_swapped : Fate → Bool
is_swapped Lost = false
is_swapped Twice = false
is_swapped Swapped = true
is_swapped Late = false
is_swapped Passes = false

abbrev pub is_late : Fate → Bool
is_late Lost = false
is_late Twice = false
is_late Swapped = false
is_late Late = true
is_late Passes = false

-- how many notes are of each fate; a count of 64 bits stays at its greatest number
abbrev pub happened_in : List Note → Happened
happened_in notes =
    record {
      lost = saturated_count (count_by (λ (n : Note). is_lost n.fate) notes);
      twice = saturated_count (count_by (λ (n : Note). is_twice n.fate) notes);
      swapped = saturated_count (count_by (λ (n : Note). is_swapped n.fate) notes);
      late = saturated_count (count_by (λ (n : Note). is_late n.fate) notes);
    }
