-- What is found in a file is one thing.
use Rattle.std.proofs.Common.{◌≡◌, ◌≢◌, ℕ, List, Result, Ok, Err, IfOk, refl, sym, ap, subst, ◌∙◌, inl, inr}
use Rattle.std.specs.Str.{IsUtf8}
use Rattle.byte_layout.specs.declared.fault.LayoutFault.{LayoutFault}
use Rattle.byte_layout.specs.declared.fault.LayoutFault.TheVariants as layout
use Rattle.byte_layout.specs.Whole.{HasFault}
use Rattle.scenario_image.specs.Image.{IsImage, HasImageFault}
use Rattle.scenario_image.specs.Scenario.{Scenario}
use Rattle.scenario_words.specs.declared.cause.Cause.TheVariants as cause
use Rattle.scenario_asm.specs.declared.fault.AsmFault.{AsmFault}
use Rattle.scenario_asm.specs.Text.{scenario_of_text}
use Rattle.trace_file.specs.declared.entry.Entry.{Entry}
use Rattle.trace_file.specs.Layout.{trace_file, IsTraceFile}
use Rattle.case_text.specs.declared.file_case.FileKind.TheVariants.{Image, Trace, Text}
use Rattle.case_play.specs.Faults.{fault_words}
use Rattle.case_play.specs.declared.finding.Finding.{Finding}
use Rattle.case_play.specs.declared.finding.Finding.TheVariants as found
use Rattle.case_play.specs.FaultWords.{text_fault_words, unreadable_words}
use Rattle.case_play.specs.Findings.{IsInImage, IsInTrace, IsInText}
use Rattle.case_play.specs.Trying.{IsOneFinding}

-- ---- an image

one_image : (bytes : List ℕ) (s : Scenario) → ((t : Scenario) → IsImage bytes t → s ≡ t)
    → ((f : LayoutFault) → HasImageFault bytes f → ⊥) → (other : Finding) → IsInImage bytes other
    → other ≡ found.Scenario s
one_image bytes s only never (found.Scenario t) h = ap found.Scenario (sym (only t h))
one_image bytes s only never (found.Entries es) h = absurd h
one_image bytes s only never (found.Fault words) h = absurd (never h.0 h.1)

pub image_found : (bytes : List ℕ) (s : Scenario) → IsImage bytes s → ((t : Scenario) → IsImage bytes t → s ≡ t)
    → ((f : LayoutFault) → HasImageFault bytes f → ⊥) → IsOneFinding Image bytes (found.Scenario s)
image_found bytes s is only never = record { is = is; only = one_image bytes s only never }

one_image_fault : (bytes : List ℕ) (f : LayoutFault) → ((t : Scenario) → IsImage bytes t → ⊥)
    → ((g : LayoutFault) → HasImageFault bytes g → f ≡ g) → (other : Finding) → IsInImage bytes other
    → other ≡ found.Fault (fault_words f)
one_image_fault bytes f never only (found.Scenario t) h = absurd (never t h)
one_image_fault bytes f never only (found.Entries es) h = absurd h
one_image_fault bytes f never only (found.Fault words) h =
    ap found.Fault (h.2 ∙ ap fault_words (sym (only h.0 h.1)))

pub image_refused : {E : Type 0} (bytes : List ℕ) (f : LayoutFault) (r : Result Finding E)
    → IfOk r (λ x. (f ≢ layout.Memory) × (x ≡ found.Fault (fault_words f)))
    → (f ≢ layout.Memory → HasImageFault bytes f) → ((t : Scenario) → IsImage bytes t → f ≡ layout.Memory)
    → ((g : LayoutFault) → HasImageFault bytes g → f ≢ layout.Memory → f ≡ g)
    → IfOk r (λ x. IsOneFinding Image bytes x)
image_refused bytes f (Ok x) h has never only =
    subst (λ y. IsOneFinding Image bytes y) (sym h.1) (record {
      is = (f, has h.0, refl);
      only = one_image_fault bytes f (λ t is. h.0 (never t is)) (λ g of. only g of h.0);
    })
image_refused bytes f (Err e) h has never only = tt

-- ---- a trace file

one_trace : (bytes : List ℕ) (es : List Entry) → ((t : List Entry) → IsTraceFile bytes t → es ≡ t)
    → ((f : LayoutFault) → HasFault trace_file bytes f → ⊥) → (other : Finding) → IsInTrace bytes other
    → other ≡ found.Entries es
one_trace bytes es only never (found.Scenario t) h = absurd h
one_trace bytes es only never (found.Entries t) h = ap found.Entries (sym (only t h))
one_trace bytes es only never (found.Fault words) h = absurd (never h.0 h.1)

pub trace_found : (bytes : List ℕ) (es : List Entry) → IsTraceFile bytes es
    → ((t : List Entry) → IsTraceFile bytes t → es ≡ t) → ((f : LayoutFault) → HasFault trace_file bytes f → ⊥)
    → IsOneFinding Trace bytes (found.Entries es)
trace_found bytes es is only never = record { is = is; only = one_trace bytes es only never }

one_trace_fault : (bytes : List ℕ) (f : LayoutFault) → ((t : List Entry) → IsTraceFile bytes t → ⊥)
    → ((g : LayoutFault) → HasFault trace_file bytes g → f ≡ g) → (other : Finding) → IsInTrace bytes other
    → other ≡ found.Fault (fault_words f)
one_trace_fault bytes f never only (found.Scenario t) h = absurd h
one_trace_fault bytes f never only (found.Entries es) h = absurd (never es h)
one_trace_fault bytes f never only (found.Fault words) h =
    ap found.Fault (h.2 ∙ ap fault_words (sym (only h.0 h.1)))

pub trace_refused : {E : Type 0} (bytes : List ℕ) (f : LayoutFault) (r : Result Finding E)
    → IfOk r (λ x. (f ≢ layout.Memory) × (x ≡ found.Fault (fault_words f)))
    → (f ≢ layout.Memory → HasFault trace_file bytes f)
    → ((t : List Entry) → IsTraceFile bytes t → f ≡ layout.Memory)
    → ((g : LayoutFault) → HasFault trace_file bytes g → f ≢ layout.Memory → f ≡ g)
    → IfOk r (λ x. IsOneFinding Trace bytes x)
trace_refused bytes f (Ok x) h has never only =
    subst (λ y. IsOneFinding Trace bytes y) (sym h.1) (record {
      is = (f, has h.0, refl);
      only = one_trace_fault bytes f (λ t is. h.0 (never t is)) (λ g of. only g of h.0);
    })
trace_refused bytes f (Err e) h has never only = tt

-- ---- a text

same_Ok : (s t : Scenario) (r : Result Scenario AsmFault) → r ≡ Ok s → r ≡ Ok t → s ≡ t
same_Ok s t r a b = cc

same_Err : (f g : AsmFault) (r : Result Scenario AsmFault) → r ≡ Err f → r ≡ Err g → f ≡ g
same_Err f g r a b = cc

not_both : (s : Scenario) (f : AsmFault) (r : Result Scenario AsmFault) → r ≡ Ok s → r ≡ Err f → ⊥
not_both s f r a b = cc

one_text : (bytes : List ℕ) (s : Scenario) → IsUtf8 bytes → scenario_of_text bytes ≡ Ok s → (other : Finding)
    → IsInText bytes other → other ≡ found.Scenario s
one_text bytes s utf8 is (found.Scenario t) h = ap found.Scenario (same_Ok t s (scenario_of_text bytes) h.1 is)
one_text bytes s utf8 is (found.Entries es) h = absurd h
one_text bytes s utf8 is (found.Fault words) (inl h) = absurd (h.0 utf8)
one_text bytes s utf8 is (found.Fault words) (inr h) = absurd (not_both s h.0 (scenario_of_text bytes) is h.2)

pub text_found : (bytes : List ℕ) (s : Scenario) → IsUtf8 bytes → scenario_of_text bytes ≡ Ok s
    → IsOneFinding Text bytes (found.Scenario s)
text_found bytes s utf8 is = record { is = (utf8, is); only = one_text bytes s utf8 is }

one_text_fault : (bytes : List ℕ) (f : AsmFault) → IsUtf8 bytes → scenario_of_text bytes ≡ Err f → (other : Finding)
    → IsInText bytes other → other ≡ found.Fault (text_fault_words f)
one_text_fault bytes f utf8 is (found.Scenario t) h = absurd (not_both t f (scenario_of_text bytes) h.1 is)
one_text_fault bytes f utf8 is (found.Entries es) h = absurd h
one_text_fault bytes f utf8 is (found.Fault words) (inl h) = absurd (h.0 utf8)
one_text_fault bytes f utf8 is (found.Fault words) (inr h) =
    ap found.Fault (h.3 ∙ ap text_fault_words (same_Err h.0 f (scenario_of_text bytes) h.2 is))

pub text_refused : {E : Type 0} (bytes : List ℕ) (f : AsmFault) (r : Result Finding E) → IsUtf8 bytes
    → IfOk r (λ x. (f.cause ≢ cause.Memory) × (x ≡ found.Fault (text_fault_words f)))
    → (f.cause ≢ cause.Memory → scenario_of_text bytes ≡ Err f) → IfOk r (λ x. IsOneFinding Text bytes x)
text_refused bytes f (Ok x) utf8 h is =
    subst (λ y. IsOneFinding Text bytes y) (sym h.1) (record {
      is = inr (f, utf8, is h.0, refl);
      only = one_text_fault bytes f utf8 (is h.0);
    })
text_refused bytes f (Err e) utf8 h is = tt

one_unreadable : (bytes : List ℕ) → (IsUtf8 bytes → ⊥) → (other : Finding) → IsInText bytes other
    → other ≡ found.Fault unreadable_words
one_unreadable bytes broken (found.Scenario t) h = absurd (broken h.0)
one_unreadable bytes broken (found.Entries es) h = absurd h
one_unreadable bytes broken (found.Fault words) (inl h) = ap found.Fault h.1
one_unreadable bytes broken (found.Fault words) (inr h) = absurd (broken h.1)

pub text_unreadable : {E : Type 0} (bytes : List ℕ) (r : Result Finding E) → (IsUtf8 bytes → ⊥)
    → IfOk r (λ x. x ≡ found.Fault unreadable_words) → IfOk r (λ x. IsOneFinding Text bytes x)
text_unreadable bytes (Ok x) broken h =
    subst (λ y. IsOneFinding Text bytes y) (sym h)
    (record { is = inl (broken, refl); only = one_unreadable bytes broken })
text_unreadable bytes (Err e) broken h = tt
