-- The first second of a test is that of a test that passes at the same seconds.
use Rattle.std.proofs.Common.{◌≡◌, ℕ, ◌∙◌, Bool, Option, None, Some, sym}
use Rattle.notification_times.specs.First.{IsFirst}

pub same_first : (p q : ℕ → Bool) (now : ℕ) (result : Option ℕ) → ((clock : ℕ) → p clock ≡ q clock)
    → IsFirst p now result → IsFirst q now result
same_first p q now None same h = λ clock after fits. sym (same clock) ∙ h clock after fits
same_first p q now (Some first) same h =
    record {
      later = h.later;
      fits = h.fits;
      passes = sym (same first) ∙ h.passes;
      none_before = λ clock after before. sym (same clock) ∙ h.none_before clock after before;
    }
