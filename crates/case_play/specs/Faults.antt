-- Why a file is refused, in the words of `lwbench`.
use Rattle.std.specs.Prelude.{ℕ, List, ◌++◌, codes}
use Rattle.std.specs.Fmt.{decimal}
use Rattle.byte_layout.specs.declared.fault.LayoutFault.{LayoutFault}
use Rattle.byte_layout.specs.declared.fault.LayoutFault.TheVariants as faults

-- words, and after them a place
abbrev pub placed_words : List ℕ → ℕ → List ℕ
placed_words words place = words ++ codes " at " ++ decimal place

-- the words of a fault, with its place where it has one
abbrev pub fault_words : LayoutFault → List ℕ
fault_words faults.Magic = codes "magic"
fault_words faults.Version = codes "version"
fault_words faults.Cut = codes "cut"
fault_words faults.Trailing = codes "trailing"
fault_words (faults.BadField place) = placed_words (codes "bad field") place
fault_words (faults.Limit place) = placed_words (codes "limit") place
fault_words faults.Memory = codes "memory"
