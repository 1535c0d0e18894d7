-- What is read of a word: the number that it spells, if it spells one.
use Rattle.std.proofs.Common.{◌≡◌, ◌<◌, ◌^◌, ℕ, Option, None, Some, Result, Ok, Err, refl, sym}
use Rattle.std.proofs.Common.{subst, rules}
use Rattle.std.specs.Str.Parse.{ExplainsUnsignedError, HasUnsignedDigitsIfOk, ParsesUnsigned}
use Rattle.std.specs.declared.num.ParseIntError.{ParseIntError}
use Rattle.clap.specs.Words.{ReadsOne, Text as Word}
use Rattle.command_line.specs.Words.{IsOptionalNumber}

-- how a number of n bits is read
abbrev pub reads : ℕ → Word → Result ℕ ParseIntError → Type 0
reads bits word r = ParsesUnsigned bits 10 word r × ExplainsUnsignedError 10 word r × HasUnsignedDigitsIfOk word r

pub optional_number : {E : Type 0} (bits : ℕ) (gives : Word → Result ℕ E → Type 0) (word : Option Word) (r : Option ℕ)
    → ((t : Word) (x : Result ℕ E) → gives t x → ParsesUnsigned bits 10 t x)
    → (word ≡ None → r ≡ None) → ((t : Word) → word ≡ Some t → ReadsOne gives t r) → IsOptionalNumber bits word r
optional_number bits gives None None parses none value = λ n h. h
optional_number bits gives None (Some n) parses none value = search rules
optional_number bits gives (Some t) (Some n) parses none value =
    let read = parses t (Ok n) (value t refl) in
    record { digits = read.0.0; value = read.1; bound = subst (λ k. k < 2 ^ bits) (sym read.1) read.0.1 }
optional_number bits gives (Some t) None parses none value =
    let refused = value t refl in
    let not = parses t (Err refused.0) refused.1 in
    λ n h. not (h.digits, subst (λ k. k < 2 ^ bits) h.value h.bound)
