-- Rule 3: the option that must be understood and is not (RFC 7252 sections 5.4.1, 5.4.3 and 5.4.5).
use Rattle.std.specs.Prelude.{◌≡◌, ℕ, ◌==◌, Bool, true, false, List, [], ◌∷◌, ◌++◌, length}
use Rattle.std.specs.List.{list_any}
use Rattle.coap_codec.specs.declared.option.Opt.{Opt}
use Rattle.device_requests.specs.Options.{has_known_form, has_unrecognized_critical, known_options}
use Rattle.request_reasons.specs.declared.options.OptionFault.{OptionFault}
use Rattle.request_reasons.specs.declared.options.OptionFault.TheVariants.{Unknown, Length, Repeated}

-- an option of this number is recognized where its length is right
abbrev pub is_known : ℕ → Bool
is_known number = list_any (λ k. k.number == number) known_options

-- why an option is not recognized: no option of its number is; it has a length that this one may not have; else it is a
-- second one, where there may be one
abbrev pub IsFaultOf : Opt → OptionFault → Type 0
IsFaultOf option Unknown = is_known option.number ≡ false
IsFaultOf option (Length count) =
    (is_known option.number ≡ true) × (has_known_form option ≡ false) × (length option.value ≡ count)
IsFaultOf option Repeated = has_known_form option ≡ true

-- the first of the options that must be understood and is not: those before it are recognized, and with it no longer
pub record IsUnrecognized (options : List Opt) (number : ℕ) (fault : OptionFault) : Type 0 where
  pub before : List Opt
  pub option : Opt
  pub after : List Opt
  pub split : options ≡ before ++ option ∷ after
  pub recognized : has_unrecognized_critical before ≡ false
  pub unrecognized : has_unrecognized_critical (before ++ option ∷ []) ≡ true
  pub numbered : option.number ≡ number
  pub why : IsFaultOf option fault
