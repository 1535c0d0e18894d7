-- Hex that is refused.
use Rattle.std.proofs.Common.{◌≡◌, ◌≢◌, ◌⊎◌, inl, inr, List, ℕ, Result, Ok, Err, ap, sym, ◌∙◌}
use Rattle.hex.specs.Hex.{decode_of}
use Rattle.hex.specs.declared.error.FromHexError.{FromHexError}
use Rattle.hex.specs.declared.error.FromHexError.TheVariants.{OutOfMemory}
use Rattle.scenario_words.specs.declared.cause.Cause.{Cause}
use Rattle.scenario_words.specs.declared.cause.Cause.TheVariants.{Token, Memory}
use Rattle.case_text.specs.BytesWords.{or_token}

-- the cause of a fault, unless memory ran out
pub refused : (r : Result (List ℕ) FromHexError) (e : FromHexError) (cause : Cause) → (e ≡ OutOfMemory) ⊎ (r ≡ Err e)
    → (e ≡ OutOfMemory → cause ≡ Memory) → (e ≢ OutOfMemory → cause ≡ Token) → cause ≢ Memory
    → or_token r ≡ Err cause
refused r e cause (inl m) memory token known = absurd (known (memory m))
refused r e cause (inr h) memory token known = ap or_token h ∙ ap Err (sym (token (λ m. known (memory m))))
