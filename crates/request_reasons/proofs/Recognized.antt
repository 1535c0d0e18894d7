-- Options up to a place, and one more.
use Rattle.std.proofs.Common.{◌≡◌, ℕ, ◌+◌, ◌<◌, true, false, List, [], ◌∷◌, ◌++◌, length, take, drop, get_or}
use Rattle.std.proofs.Common.{sym, ap, ◌∙◌, refl}
use Rattle.std.proofs.lemmas.List.{drop_more, take_more, take-append-drop}
use Rattle.coap_codec.specs.declared.option.Opt.{Opt}
use Rattle.device_requests.specs.Options.{has_unrecognized_critical}
use Rattle.request_reasons.specs.Options.{IsFaultOf, IsUnrecognized}
use Rattle.request_reasons.specs.declared.options.OptionFault.{OptionFault}

-- the first place up to which not all options are recognized
pub first_at : (options : List Opt) (i : ℕ) (option : Opt) (fault : OptionFault) → i < length options
    → option ≡ get_or options i option → has_unrecognized_critical (take i options) ≡ false
    → has_unrecognized_critical (take (i + 1) options) ≡ true → IsFaultOf option fault
    → IsUnrecognized options option.number fault
first_at options i option fault inside is known unknown why =
    let rest = drop (i + 1) options in
    record {
      before = take i options;
      option = option;
      after = rest;
      split =
          sym (take-append-drop i options)
          ∙ ap (λ xs. take i options ++ xs) (drop_more options i option inside ∙ ap (λ x. x ∷ rest) (sym is));
      recognized = known;
      unrecognized =
          ap (λ x. has_unrecognized_critical (take i options ++ x ∷ [])) is
          ∙ ap has_unrecognized_critical (sym (take_more options i option inside)) ∙ unknown;
      numbered = refl;
      why = why;
    }
