-- A list that grows by one item at a time, as clauses of private functions name it. No promise rests on it.
use Rattle.std.specs.Prelude.{◌≡◌, ℕ, Bool, true, List, [], ◌∷◌, ◌++◌, Option, None, Some, Result, Ok}
use Rattle.std.specs.List.{list_all}
use Rattle.std.specs.Ordering.{is_lt}
use Rattle.std.specs.declared.cmp.Ordering.{Ordering}
use Rattle.byte_layout.specs.declared.fault.Break.{Break}
use Rattle.byte_layout.specs.declared.fault.Break.TheVariants.{BadField}
use Rattle.byte_layout.specs.declared.fault.ReadError.{ReadError}
use Rattle.byte_layout.specs.declared.fault.ReadError.TheVariants as errors
use Rattle.byte_layout.specs.Layout.{◌>>=◌}
use Rattle.object_defs.specs.Vendor.{with_resource}
use Rattle.object_defs.specs.declared.definition.ObjectDef.{ObjectDef}
use Rattle.object_defs.specs.declared.definition.ResourceDef.{ResourceDef}
use Rattle.device_template.specs.declared.fault.TemplateFault.{TemplateFault}
use Rattle.device_template.specs.declared.fault.TemplateFault.TheVariants as faults

-- the items before, and the one that is read after them
abbrev pub items_with_next : {A : Type 0} → List A → Result (A × List ℕ) Break → Result (List A × List ℕ) Break
items_with_next before r = r >>= λ x. Ok (before ++ x.0 ∷ [], x.1)

-- after this key, where there is one
abbrev pub is_behind : {K : Type 0} → (K → K → Ordering) → Option K → K → Bool
is_behind R None k = true
is_behind R (Some last) k = is_lt (R last k)

-- what stands after this key stands after that of each item, and the other way round
abbrev pub IsLast : {A K : Type 0} → (K → K → Ordering) → (A → K) → List A → Option K → Type 0
IsLast R key items last = (k : _) → list_all (λ a. is_lt (R (key a) k)) items ≡ is_behind R last k

-- why an item was not read that a class did not take, n bytes from the end
abbrev pub refusal : TemplateFault → ℕ → ReadError
refusal faults.Memory left = errors.Memory
refusal faults.Range left = errors.Fault (BadField left)
refusal faults.Missing left = errors.Fault (BadField left)
refusal faults.Duplicate left = errors.Fault (BadField left)
refusal faults.Full left = errors.Fault (BadField left)

-- a catalog whose object of this number has these definitions more, one after another
abbrev pub with_definitions : List ObjectDef → ℕ → List ResourceDef → List ObjectDef
with_definitions c id [] = c
with_definitions c id (d ∷ ds) = with_definitions (with_resource c id d) id ds
