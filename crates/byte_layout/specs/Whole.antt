-- Bytes as a whole: those of a value, or those with a fault.
use Rattle.std.specs.Prelude.{◌≡◌, ℕ, ◌-◌, ◌⊎◌, ◌==◌, List, ◌∷◌, ◌++◌, length, Result, Ok, Err, if◌then◌else◌}
use Rattle.byte_layout.specs.declared.fault.Break.{Break}
use Rattle.byte_layout.specs.declared.fault.Break.TheVariants as breaks
use Rattle.byte_layout.specs.declared.fault.ReadError.{ReadError}
use Rattle.byte_layout.specs.declared.fault.ReadError.TheVariants as errors
use Rattle.byte_layout.specs.declared.fault.LayoutFault.{LayoutFault}
use Rattle.byte_layout.specs.declared.fault.LayoutFault.TheVariants as faults
use Rattle.byte_layout.specs.Layout.{Layout, ◌>>=◌}

-- the bytes are those of this valid value, all of them
abbrev pub IsAll : {A : Type 0} → Layout A → List ℕ → A → Type 0
IsAll p bytes a = p.Good a × (bytes ≡ p.spell a)

-- the bytes break off within the part, or a valid value's stand there and at least one after them
abbrev pub BreaksOff : {A : Type 0} → Layout A → List ℕ → Break → Type 0
BreaksOff p bytes b =
    p.Breaks bytes b
    ⊎ ((a : _) × (first : ℕ) × (rest : List ℕ) × p.Good a × (bytes ≡ p.spell a ++ first ∷ rest)
    × (b ≡ breaks.Trailing))

-- the value of all of the bytes, or the first break
abbrev pub read_all : {A : Type 0} → Layout A → List ℕ → Result A Break
read_all p bytes = p.read bytes >>= λ x. if length x.1 == 0 then Ok x.0 else Err breaks.Trailing

-- the fault of n bytes that break off so: its place is counted from the first byte
abbrev pub fault_of_break : ℕ → Break → LayoutFault
fault_of_break total breaks.Magic = faults.Magic
fault_of_break total breaks.Version = faults.Version
fault_of_break total breaks.Cut = faults.Cut
fault_of_break total breaks.Trailing = faults.Trailing
fault_of_break total (breaks.BadField left) = faults.BadField (total - left)
fault_of_break total (breaks.Limit left) = faults.Limit (total - left)

-- the fault of n bytes whose reading ended so
abbrev pub fault_of : ℕ → ReadError → LayoutFault
fault_of total errors.Memory = faults.Memory
fault_of total (errors.Fault b) = fault_of_break total b

-- the bytes have this fault, the first from the left
abbrev pub HasFault : {A : Type 0} → Layout A → List ℕ → LayoutFault → Type 0
HasFault p bytes fault = (b : Break) × BreaksOff p bytes b × (fault ≡ fault_of_break (length bytes) b)
