-- what bytes spell, or where they break off, is what reading them finds
use Rattle.std.proofs.Common.{◌≡◌, ℕ, ◌+◌, ◌-◌, ◌*◌, ◌/◌, ◌%◌, ◌<◌, ◌≤◌, zero, suc, List, [], ◌∷◌, ◌++◌, length, take}
use Rattle.std.proofs.Common.{drop, refl, ap, sym, subst, ◌∙◌, append_assoc, arith, Some, None, Result, Ok, Err}
use Rattle.std.proofs.Common.{length-append}
use Rattle.std.proofs.Math.Seq.{take-append_seam, drop-append_seam}
use Rattle.std.proofs.lemmas.Bool.{le-ltb, ne_eqb}
use Rattle.coap_codec.specs.declared.option.Opt.{Opt}
use Rattle.coap_codec.specs.declared.fault.CoapFault.{CoapFault}
use Rattle.coap_codec.specs.Message.{IsOptionList, nibble_of, extension_of, options_bytes, payload_bytes}
use Rattle.coap_codec.specs.Fault.{width, amount, option_fault, place_fault, last_number}
use Rattle.coap_codec.specs.Reading.{OptionsAndPayload, option_here, behind_option, with_option, read_place}
use Rattle.coap_codec.specs.Reading.{read_options}
use Rattle.coap_codec.proofs.Amounts.{nibble_below, width_length, amount_again, rest_again}

-- the option of this first byte fits each case
pub record Stands (number first : ℕ) (rest : List ℕ) : Type 0 where
  pub delta : (first / 16 ≡ 15) → ⊥
  pub size : (first % 16 ≡ 15) → ⊥
  pub wide : width (first / 16) ≤ length rest
  pub in_range : number + amount (first / 16) rest ≤ 65535
  pub long : width (first % 16) ≤ length (drop (width (first / 16)) rest)
  pub whole : amount (first % 16) (drop (width (first / 16)) rest) ≤ length
      (drop (width (first % 16)) (drop (width (first / 16)) rest))

pub stands_no_fault : (number first : ℕ) (rest : List ℕ) → Stands number first rest
    → option_fault number first rest ≡ None
stands_no_fault number first rest s =
    rw (
      ne_eqb (first / 16) 15 s.delta,
      ne_eqb (first % 16) 15 s.size,
      le-ltb (length rest) (width (first / 16)) s.wide,
      le-ltb 65535 (number + amount (first / 16) rest) s.in_range,
      le-ltb (length (drop (width (first / 16)) rest)) (width (first % 16)) s.long,
      le-ltb (length (drop (width (first % 16)) (drop (width (first / 16)) rest)))
          (amount (first % 16) (drop (width (first / 16)) rest)) s.whole,
    ) refl

-- an option that was taken apart fits each case: its delta, its length, and what stands after each of them
pub taken_apart : (number first delta size : ℕ) (bytes rest behind : List ℕ) → (first / 16 ≡ 15 → ⊥)
    → (first % 16 ≡ 15 → ⊥) → width (first / 16) ≤ length bytes → delta ≡ amount (first / 16) bytes
    → rest ≡ drop (width (first / 16)) bytes → number + delta ≤ 65535 → width (first % 16) ≤ length rest
    → size ≡ amount (first % 16) rest → behind ≡ drop (width (first % 16)) rest → size ≤ length behind
    → option_fault number first bytes ≡ None
taken_apart number first delta size bytes rest behind high low wide delta_is rest_is in_range long size_is behind_is
    whole =
    let enough : amount (first % 16) rest ≤ length (drop (width (first % 16)) rest) =
    subst (λ b. amount (first % 16) rest ≤ length b) behind_is (subst (λ n. n ≤ length behind) size_is whole) in
    stands_no_fault number first bytes (record {
      delta = high;
      size = low;
      wide = wide;
      in_range = subst (λ d. number + d ≤ 65535) delta_is in_range;
      long = subst (λ (r : List ℕ). width (first % 16) ≤ length r) rest_is long;
      whole = subst (λ (r : List ℕ). amount (first % 16) r ≤ length (drop (width (first % 16)) r)) rest_is enough;
    })

high_nibble : (a b : ℕ) → b < 15 → (16 * a + b) / 16 ≡ a
high_nibble a b h = omega arith

low_nibble : (a b : ℕ) → b < 15 → (16 * a + b) % 16 ≡ b
low_nibble a b h = omega arith

no_marker : (a b : ℕ) → a < 15 → b < 15 → (16 * a + b ≡ 255) → ⊥
no_marker a b h k e = omega arith

-- what the bytes of an option are read as
pub record ReadAs (number first : ℕ) (rest : List ℕ) (o : Opt) (behind : List ℕ) : Type 0 where
  pub other : (first ≡ 255) → ⊥
  pub stands : Stands number first rest
  pub option : option_here number first rest ≡ o
  pub behind_is : behind_option first rest ≡ behind

same_option : (o p : Opt) → o.number ≡ p.number → o.value ≡ p.value → o ≡ p
same_option o p n v =
    let make : ℕ → List ℕ → Opt = λ x y. record { number = x; value = y } in
    ap (λ x. make x o.value) n ∙ ap (make p.number) v

-- the same over plain variables: d and l are the delta and the length
spelled_parts : (number d l first : ℕ) (rest value behind : List ℕ) (o : Opt) → first ≡ 16 * nibble_of d + nibble_of l
    → rest ≡ extension_of d ++ (extension_of l ++ (value ++ behind)) → l ≡ length value → number + d ≡ o.number
    → value ≡ o.value → o.number < 65536 → ReadAs number first rest o behind
spelled_parts number d l first rest value behind o begins rest_is size number_is value_is in_range =
    let high : first / 16 ≡ nibble_of d =
    ap (λ x. x / 16) begins ∙ high_nibble (nibble_of d) (nibble_of l) (nibble_below l) in
    let low : first % 16 ≡ nibble_of l =
    ap (λ x. x % 16) begins ∙ low_nibble (nibble_of d) (nibble_of l) (nibble_below l) in
    let after : List ℕ = extension_of l ++ (value ++ behind) in
    let delta : amount (first / 16) rest ≡ d =
    ap (λ k. amount k rest) high ∙ (ap (amount (nibble_of d)) rest_is ∙ amount_again d after) in
    let skipped : drop (width (first / 16)) rest ≡ after =
    ap (λ k. drop (width k) rest) high ∙ (ap (drop (width (nibble_of d))) rest_is ∙ rest_again d after) in
    let size_is : amount (first % 16) (drop (width (first / 16)) rest) ≡ l =
    ap (λ k. amount k (drop (width (first / 16)) rest)) low
    ∙ (ap (amount (nibble_of l)) skipped ∙ amount_again l (value ++ behind)) in
    let left : drop (width (first % 16)) (drop (width (first / 16)) rest) ≡ value ++ behind =
    ap (λ k. drop (width k) (drop (width (first / 16)) rest)) low
    ∙ (ap (drop (width (nibble_of l))) skipped ∙ rest_again l (value ++ behind)) in
    let wide : width (first / 16) ≡ length (extension_of d) = ap width high ∙ width_length d in
    let long : width (first % 16) ≡ length (extension_of l) = ap width low ∙ width_length l in
    let size_there : amount (first % 16) (drop (width (first / 16)) rest) ≡ length value = size_is ∙ size in
    record {
      other = λ e. no_marker (nibble_of d) (nibble_of l) (nibble_below d) (nibble_below l) (sym begins ∙ e);
      stands = record {
        delta = λ e. absurd (omega (arith, nibble_below d));
        size = λ e. absurd (omega (arith, nibble_below l));
        wide = omega (arith, ap length rest_is, length-append (extension_of d) after);
        in_range = omega arith;
        long = omega (arith, ap length skipped, length-append (extension_of l) (value ++ behind));
        whole = omega (arith, ap length left, length-append value behind);
      };
      option = same_option _ o (ap (λ x. number + x) delta ∙ number_is)
          (ap (λ x. take x (drop (width (first % 16)) (drop (width (first / 16)) rest))) size_there
          ∙ (ap (take (length value)) left ∙ (take-append_seam value behind ∙ value_is)));
      behind_is = ap (λ x. drop x (drop (width (first % 16)) (drop (width (first / 16)) rest))) size_there
          ∙ (ap (drop (length value)) left ∙ drop-append_seam value behind);
    }

pub place_no_fault : (number first : ℕ) (rest : List ℕ) (o : Opt) (behind : List ℕ) → ReadAs number first rest o behind
    → place_fault number (first ∷ rest) ≡ None
place_no_fault number first rest o behind a = rw (ne_eqb first 255 a.other) (stands_no_fault number first rest a.stands)

-- an option is read, and then what stands after it
read_step : (steps number first : ℕ) (rest : List ℕ) (o : Opt) (behind : List ℕ) → ReadAs number first rest o behind
    → read_options (suc steps) number (first ∷ rest) ≡ with_option o (read_options steps o.number behind)
unfolding read_options
read_step steps number first rest o behind a =
    ap (read_place (read_options steps) number (first ∷ rest)) (place_no_fault number first rest o behind a)
    ∙ rw (ne_eqb first 255 a.other) (ap (λ (p : Opt). with_option p
    (read_options steps p.number (behind_option first rest))) a.option
    ∙ ap (λ r. with_option o (read_options steps o.number r)) a.behind_is)

-- options before what was found after them
abbrev pub with_all : List Opt → Result OptionsAndPayload CoapFault → Result OptionsAndPayload CoapFault
with_all [] found = found
with_all (o ∷ os) found = with_option o (with_all os found)

pub with_all-ok : (os : List Opt) (p : List ℕ)
    → with_all os (Ok (record { options = []; payload = p })) ≡ Ok (record { options = os; payload = p })
with_all-ok [] p = refl
with_all-ok (o ∷ os) p = ap (with_option o) (with_all-ok os p)

pub with_all-err : (os : List Opt) (fault : CoapFault) → with_all os (Err fault) ≡ Err fault
with_all-err [] fault = refl
with_all-err (o ∷ os) fault = ap (with_option o) (with_all-err os fault)

-- whole options are read one after another, and then what stands after them
pub read_all : (os : List Opt) (number : ℕ) (tail : List ℕ) (found : Result OptionsAndPayload CoapFault)
    → IsOptionList number os
    → ((steps : ℕ) → length tail ≤ steps → read_options steps (last_number number os) tail ≡ found) → (steps : ℕ)
    → length (options_bytes number os ++ tail) ≤ steps
    → read_options steps number (options_bytes number os ++ tail) ≡ with_all os found
read_all [] number tail found list at_end steps enough = at_end steps enough
read_all (o ∷ os) number tail found list at_end zero enough = absurd (omega arith)
read_all (o ∷ os) number tail found list at_end (suc steps) enough =
    let d : ℕ = o.number - number in
    let l : ℕ = length o.value in
    let behind : List ℕ = options_bytes o.number os ++ tail in
    let rest : List ℕ = ((extension_of d ++ (extension_of l ++ o.value)) ++ options_bytes o.number os) ++ tail in
    let split : rest ≡ extension_of d ++ (extension_of l ++ (o.value ++ behind)) = simp append_assoc in
    let number_is : number + d ≡ o.number = omega (arith, list.0.ascends) in
    let a : ReadAs number (16 * nibble_of d + nibble_of l) rest o behind =
    spelled_parts number d l (16 * nibble_of d + nibble_of l) rest o.value behind o refl split refl number_is refl
    list.0.in_range in
    let shorter : length behind ≤ steps =
    omega (
      arith,
      ap length split,
      length-append (extension_of d) (extension_of l ++ (o.value ++ behind)),
      length-append (extension_of l) (o.value ++ behind),
      length-append o.value behind,
    ) in
    read_step steps number (16 * nibble_of d + nibble_of l) rest o behind a
    ∙ ap (with_option o) (read_all os o.number tail found list.1 at_end steps shorter)

pub read_payload : (number : ℕ) (p : List ℕ) (steps : ℕ) → length (payload_bytes p) ≤ steps
    → read_options steps number (payload_bytes p) ≡ Ok (record { options = []; payload = p })
unfolding read_options
read_payload number [] zero enough = refl
read_payload number [] (suc steps) enough = refl
read_payload number (b ∷ p) zero enough = absurd (omega arith)
read_payload number (b ∷ p) (suc steps) enough = rw (ne_eqb (length (b ∷ p)) 0 (omega arith)) refl

pub read_fault : (number : ℕ) (rest : List ℕ) (fault : CoapFault) (steps : ℕ) → place_fault number rest ≡ Some fault
    → length rest ≤ steps → read_options steps number rest ≡ Err fault
unfolding read_options
read_fault number [] fault steps wrong enough = absurd (cc)
read_fault number (first ∷ rest) fault zero wrong enough = absurd (omega arith)
read_fault number (first ∷ rest) fault (suc steps) wrong enough =
    ap (read_place (read_options steps) number (first ∷ rest)) wrong
