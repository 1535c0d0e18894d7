-- one more option after a list of options
use Rattle.std.proofs.Common.{◌≡◌, ℕ, ◌⊎◌, inl, inr, List, [], ◌∷◌, ◌++◌, refl, ap, sym, subst, ◌∙◌, append_assoc}
use Rattle.std.proofs.Common.{Option, Some, None, false, eqb}
use Rattle.coap_codec.specs.declared.option.Opt.{Opt}
use Rattle.coap_codec.specs.declared.fault.CoapFault.{CoapFault}
use Rattle.coap_codec.specs.Message.{IsOptionList, MayFollow, option_bytes, options_bytes}
use Rattle.coap_codec.specs.Fault.{last_number, option_fault, place_fault, BreaksOff}

pub IsOptionList-push : (number : ℕ) (os : List Opt) (o : Opt) → IsOptionList number os
    → MayFollow (last_number number os) o → IsOptionList number (os ++ o ∷ [])
IsOptionList-push number [] o list follows = (follows, tt)
IsOptionList-push number (p ∷ os) o list follows = (list.0, IsOptionList-push p.number os o list.1 follows)

pub options_bytes-push : (number : ℕ) (os : List Opt) (o : Opt) (r : List ℕ)
    → options_bytes number (os ++ o ∷ []) ++ r ≡ options_bytes number os
    ++ (option_bytes (last_number number os) o ++ r)
options_bytes-push number [] o r = append_assoc (option_bytes number o) [] r
options_bytes-push number (p ∷ os) o r =
    append_assoc (option_bytes number p) (options_bytes p.number (os ++ o ∷ [])) r
    ∙ (ap (λ x. option_bytes number p ++ x) (options_bytes-push p.number os o r)
    ∙ sym (append_assoc (option_bytes number p) (options_bytes p.number os)
    (option_bytes (last_number p.number os) o ++ r)))

pub last_number-push : (number : ℕ) (os : List Opt) (o : Opt) → last_number number (os ++ o ∷ []) ≡ o.number
last_number-push number [] o = refl
last_number-push number (p ∷ os) o = last_number-push p.number os o

-- what was found, with the option that begins what is left
pub list_goes_on : (found os : List Opt) (o : Opt) (number : ℕ) → found ≡ os ++ o ∷ [] → number ≡ last_number 0 os
    → IsOptionList 0 os → MayFollow number o → IsOptionList 0 found
list_goes_on found os o number more last list follows =
    let follows2 : MayFollow (last_number 0 os) o = rw (← last) follows in
    rw (more) (IsOptionList-push 0 os o list follows2)

pub parts_go_on : (bytes rest behind after : List ℕ) (first : ℕ) (found os : List Opt) (o : Opt) (number : ℕ)
    → found ≡ os ++ o ∷ [] → number ≡ last_number 0 os → bytes ≡ options_bytes 0 os ++ rest → rest ≡ first ∷ after
    → first ∷ after ≡ option_bytes number o ++ behind → bytes ≡ options_bytes 0 found ++ behind
parts_go_on bytes rest behind after first found os o number more last parts begins here =
    parts
    ∙ (ap (λ x. options_bytes 0 os ++ x) (begins ∙ (here ∙ ap (λ n. option_bytes n o ++ behind) last))
    ∙ (sym (options_bytes-push 0 os o behind) ∙ ap (λ x. options_bytes 0 x ++ behind) (sym more)))

pub last_goes_on : (found os : List Opt) (o : Opt) → found ≡ os ++ o ∷ [] → o.number ≡ last_number 0 found
last_goes_on found os o more = sym (ap (last_number 0) more ∙ last_number-push 0 os o)

-- an option that fits no case, after whole options
pub breaks_off : (bytes rest after : List ℕ) (os : List Opt) (number first : ℕ) (fault : CoapFault) → IsOptionList 0 os
    → number ≡ last_number 0 os → bytes ≡ options_bytes 0 os ++ rest → rest ≡ first ∷ after → eqb first 255 ≡ false
    → option_fault number first after ≡ Some fault → BreaksOff 0 bytes fault
breaks_off bytes rest after os number first fault list last parts here other wrong =
    record {
      whole = os;
      rest = first ∷ after;
      is_list = list;
      parts =
          parts ∙ ap (λ x. options_bytes 0 os ++ x) here;
      place = rw (other, ← last) wrong;
    }

-- nothing was looked at yet, or what stands first fits
abbrev pub HasBegun : ℕ → List ℕ → List ℕ → Type 0
HasBegun number rest bytes = ((number ≡ 0) × (rest ≡ bytes)) ⊎ (place_fault 0 bytes ≡ None)

-- what stands first, if this is the first place
pub at_first : (bytes rest : List ℕ) (number : ℕ) (fault : CoapFault) → HasBegun number rest bytes
    → place_fault 0 bytes ≡ Some fault → place_fault number rest ≡ Some fault
at_first bytes rest number fault (inl (z, e)) wrong = rw (z, e) wrong
at_first bytes rest number fault (inr fits) wrong = absurd (cc (fits, wrong))

-- the first option, if this is the first place
pub first_option : (bytes rest after : List ℕ) (number first : ℕ) (fault : CoapFault) → HasBegun number rest bytes
    → rest ≡ first ∷ after → eqb first 255 ≡ false → place_fault 0 bytes ≡ Some fault
    → option_fault number first after ≡ Some fault
first_option bytes rest after number first fault begun here other wrong =
    let place : place_fault number (first ∷ after) ≡ Some fault =
    subst (λ (r : List ℕ). place_fault number r ≡ Some fault) here (at_first bytes rest number fault begun wrong) in
    rw other at place

none_if : (o : Option CoapFault) → ((f : CoapFault) → o ≡ Some f → ⊥) → o ≡ None
none_if None never = refl
none_if (Some f) never = absurd (never f refl)

-- after an option without a fault what stands first fits
pub first_fits : (bytes rest after : List ℕ) (number first : ℕ) → HasBegun number rest bytes → rest ≡ first ∷ after
    → eqb first 255 ≡ false → ((f : CoapFault) → option_fault number first after ≡ Some f → ⊥)
    → place_fault 0 bytes ≡ None
first_fits bytes rest after number first begun here other never =
    none_if (place_fault 0 bytes) (λ f wrong. never f
    (first_option bytes rest after number first f begun here other wrong))
