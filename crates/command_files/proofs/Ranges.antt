-- Words that are no range of devices.
use Rattle.std.proofs.Common.{ℕ, ◌≡◌, ◌≤◌, ◌==◌, List, Option, IfNone, None, Some, sym, subst}
use Rattle.std.specs.List.{after_first, before_first}
use Rattle.command_files.specs.Devices.{IsDeviceRange, IsShortNumber}
use Rattle.command_files.specs.declared.devices.Devices.{Devices}

-- words whose parts are no devices are no range
pub no_range : (text first last : List ℕ) (r : Option Devices) → first ≡ before_first (λ b. b == 45) text
    → last ≡ after_first (λ b. b == 45) text
    → IfNone r ((devices : Devices) → IsShortNumber first devices.first → IsShortNumber last devices.last
    → devices.first ≤ devices.last → ⊥)
    → IfNone r ((devices : Devices) → IsDeviceRange text devices → ⊥)
no_range text first last (Some devices) before after none = tt
no_range text first last None before after none =
    λ devices is. none devices (subst (λ t. IsShortNumber t devices.first) (sym before) is.first)
    (subst (λ t. IsShortNumber t devices.last) (sym after) is.last) is.some
