-- Entries of one device, as a worker adds them.
use Rattle.std.specs.Prelude.{◌≡◌, ℕ, List}
use Rattle.std.specs.List.{AllByRecursion}
use Rattle.trace_file.specs.declared.entry.Entry.{Entry}

-- each of the entries is the device's
abbrev pub AreOf : ℕ → List Entry → Type 0
AreOf d es = AllByRecursion (λ e. e.device ≡ d) es
