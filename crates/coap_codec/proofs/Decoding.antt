-- what decoding owes, from what it found
use Rattle.std.proofs.Common.{◌≡◌, ◌≢◌, ℕ, ◌<◌, ◌≤◌, ◌⊎◌, inl, inr, List, [], ◌∷◌, ◌++◌, length, refl, ap, sym, ◌∙◌}
use Rattle.std.proofs.Common.{arith, Result, Ok, Err, MatchResult, IfOk, IfErr, IsErrAnd}
use Rattle.coap_codec.specs.declared.kind.Kind.{Kind}
use Rattle.coap_codec.specs.declared.option.Opt.{Opt}
use Rattle.coap_codec.specs.declared.fault.CoapFault.{CoapFault}
use Rattle.coap_codec.specs.declared.fault.CoapFault.TheVariants.{Short, Version, TokenLength, EmptyWithData, OptionCut}
use Rattle.coap_codec.specs.declared.fault.CoapFault.TheVariants.{OptionReserved, OptionNumber, PayloadEmpty, Memory}
use Rattle.coap_codec.specs.Message.{Message, IsWellFormed, Spells, IsOptionList, options_bytes, payload_bytes}
use Rattle.coap_codec.specs.Fault.{HasFault}
use Rattle.coap_codec.specs.Reading.{reading_of}
use Rattle.coap_codec.proofs.OneReading.{reading_of_spelled, reading_of_fault, one_message, one_fault, never_both}

nothing_there : (os : List Opt) (p : List ℕ) → options_bytes 0 os ++ payload_bytes p ≡ [] → (length os ≡ 0)
    × (length p ≡ 0)
nothing_there [] [] e = (refl, refl)
nothing_there [] (b ∷ p) e = absurd (cc)
nothing_there (o ∷ os) p e = absurd (cc)

-- what was read is well formed
pub is_well_formed : (kind : Kind) (code mid : ℕ) (token start_token rest payload found_payload : List ℕ)
    (options found_options : List Opt) → code < 256 → mid < 65536 → token ≡ start_token → length start_token ≤ 8
    → options ≡ found_options → IsOptionList 0 found_options → payload ≡ found_payload
    → rest ≡ options_bytes 0 found_options ++ payload_bytes found_payload
    → (code ≡ 0 → (start_token ≡ []) × (rest ≡ []))
    → IsWellFormed (record {
      kind = kind;
      code = code;
      mid = mid;
      token = token;
      options =
          options;
      payload = payload;
    })
is_well_formed kind code mid token start_token rest payload found_payload options found_options code_range mid_range
    token_is short options_are list payload_is rest_is bare =
    record {
      code = code_range;
      mid = mid_range;
      token = omega (arith, ap length token_is);
      options = rw (options_are) list;
      empty = λ z.
          let b : (start_token ≡ []) × (rest ≡ []) = bare z in
          let n : (length found_options ≡ 0) × (length found_payload ≡ 0) =
          nothing_there found_options found_payload (sym rest_is ∙ b.1) in
          (ap length (token_is ∙ b.0), ap length options_are ∙ n.0, ap length payload_is ∙ n.1);
    }

cases_memory : (f : CoapFault) → (f ≡ Memory) ⊎ (f ≢ Memory)
cases_memory Short = inr (λ e. absurd (cc))
cases_memory Version = inr (λ e. absurd (cc))
cases_memory TokenLength = inr (λ e. absurd (cc))
cases_memory EmptyWithData = inr (λ e. absurd (cc))
cases_memory OptionCut = inr (λ e. absurd (cc))
cases_memory OptionReserved = inr (λ e. absurd (cc))
cases_memory OptionNumber = inr (λ e. absurd (cc))
cases_memory PayloadEmpty = inr (λ e. absurd (cc))
cases_memory Memory = inl refl

pub is_only : (bytes : List ℕ) (r : Result Message CoapFault) → IfOk r (λ m. Spells bytes m)
    → IfErr r (λ f. f ≢ Memory → HasFault bytes f) → (m : Message) → Spells bytes m
    → MatchResult r (λ x. x ≡ m) (λ f. f ≡ Memory)
is_only bytes (Ok x) found fault m spells = one_message bytes x m found spells
is_only bytes (Err f) found fault m spells =
    elim (cases_memory f) [ inl e ↦ e | inr n ↦ absurd (never_both bytes m f spells (fault n)) ]

pub is_refused : (bytes : List ℕ) (r : Result Message CoapFault) → IfOk r (λ m. Spells bytes m)
    → IfErr r (λ f. f ≢ Memory → HasFault bytes f) → (f : CoapFault) → HasFault bytes f
    → IsErrAnd r (λ g. g ≢ Memory → g ≡ f)
is_refused bytes (Ok x) found fault f wrong = absurd (never_both bytes x f found wrong)
is_refused bytes (Err g) found fault f wrong = λ n. one_fault bytes g f (fault n) wrong

pub is_reading : (bytes : List ℕ) (r : Result Message CoapFault) → IfOk r (λ m. Spells bytes m)
    → IfErr r (λ f. f ≢ Memory → HasFault bytes f)
    → MatchResult r (λ m. reading_of bytes ≡ Ok m) (λ f. f ≢ Memory → reading_of bytes ≡ Err f)
is_reading bytes (Ok x) found fault = reading_of_spelled bytes x found
is_reading bytes (Err g) found fault = λ n. reading_of_fault bytes g (fault n)
