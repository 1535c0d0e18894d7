-- The entries of a run.
use Rattle.std.proofs.Common.{◌≡◌, ℕ, ◌<◌, List, length, get_or, Some, slice_get, refl}
use Rattle.std.proofs.lemmas.Option.{slice_get_read}
use Rattle.scenario_image.specs.Scenario.{Scenario}
use Rattle.trace_file.specs.declared.entry.Entry.{Entry}
use Rattle.fleet_core.specs.Run.{IsRun}
use Rattle.fleet_core.proofs.Taken.{row_below}
use Rattle.device_entries.proofs.Runs.{fits_at}

pub entry_at : (es : List Entry) (i : ℕ) (e : Entry) → i < length es → e ≡ get_or es i e → slice_get es i ≡ Some e
entry_at es i e within read = slice_get_read es (length es) i e refl within read

-- the device of an entry of a run has a row
pub entry_row : (s : Scenario) (es : List Entry) (i : ℕ) (e : Entry) → IsRun s es → slice_get es i ≡ Some e
    → e.device < length s.rows
entry_row s es i e run at =
    let fits = fits_at s es i e run at in row_below s e.device e.step fits.step fits.stands
