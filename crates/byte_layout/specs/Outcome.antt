-- What a function that reads returned, beside what reading gives.
use Rattle.std.specs.Prelude.{◌≡◌, Result, Ok, Err}
use Rattle.byte_layout.specs.declared.fault.Break.{Break}
use Rattle.byte_layout.specs.declared.fault.ReadError.{ReadError}
use Rattle.byte_layout.specs.declared.fault.ReadError.TheVariants as errors

-- the error is the break that reading meets, unless memory runs out
abbrev pub Fails : {Y : Type 0} → ReadError → Result Y Break → Type 0
Fails errors.Memory read = Unit {0}
Fails (errors.Fault b) read = read ≡ Err b

-- what was returned, so viewed, is what reading gives, unless memory ran out
abbrev pub Gives : {X Y : Type 0} → (X → Y) → Result X ReadError → Result Y Break → Type 0
Gives view (Ok x) read = read ≡ Ok (view x)
Gives view (Err e) read = Fails e read
