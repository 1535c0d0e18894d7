-- What is known of a Result that is Ok, by what it was made of.
use Rattle.std.proofs.Common.{◌≡◌, ℕ, Bool, true, false, List, ◌∷◌, Option, None, Some, Result, Ok, Err, ok_or, refl, ap}
use Rattle.std.specs.Bool.{if◌then◌else◌}
use Rattle.lwm2m_values.specs.Reading.{nodes_of_bytes}
use Rattle.lwm2m_values.specs.Tlv.{IsTlv}
use Rattle.lwm2m_values.specs.Tree.{Trees}
use Rattle.lwm2m_values.proofs.TlvReading.{nodes_of_bytes_exact}
use Rattle.lwm2m_payloads.specs.Given.{at_record, before, records_in, unless}
use Rattle.lwm2m_payloads.specs.Results.{result_and_then, result_map}
use Rattle.lwm2m_payloads.specs.declared.fault.PayloadFault.{PayloadFault}
use Rattle.lwm2m_payloads.specs.declared.fault.PayloadFault.TheVariants.{NotTlv}
use Rattle.lwm2m_payloads.specs.declared.fault.RecordFault.{RecordFault}

pub result_map_parts : {A B E : Type 0} (f : A → B) (r : Result A E) (y : B) → result_map f r ≡ Ok y
    → (x : A) × (r ≡ Ok x) × (f x ≡ y)
result_map_parts f (Err e) y h = cc
result_map_parts f (Ok x) y h = (x, refl, cc)

pub result_and_then_parts : {A B E : Type 0} (f : A → Result B E) (r : Result A E) (y : B)
    → result_and_then f r ≡ Ok y → (x : A) × (r ≡ Ok x) × (f x ≡ Ok y)
result_and_then_parts f (Err e) y h = cc
result_and_then_parts f (Ok x) y h = (x, refl, h)

pub ok_or_parts : {A E : Type 0} (o : Option A) (e : E) (x : A) → ok_or o e ≡ Ok x → o ≡ Some x
ok_or_parts None e x h = cc
ok_or_parts (Some y) e x h = cc

-- what is refused unless a test holds
pub where_ok : {A E : Type 0} (b : Bool) (r : Result A E) (e : E) (x : A) → (if b then r else Err e) ≡ Ok x
    → (b ≡ true) × (r ≡ Ok x)
where_ok true r e x h = (refl, h)
where_ok false r e x h = cc

-- what is refused where a test holds
pub unless_ok : {A E : Type 0} (b : Bool) (r : Result A E) (e : E) (x : A) → (if b then Err e else r) ≡ Ok x
    → (b ≡ false) × (r ≡ Ok x)
unless_ok true r e x h = cc
unless_ok false r e x h = (refl, h)

pub unless_parts : {A E : Type 0} (b : Bool) (e : E) (r : Result A E) (x : A) → unless b e r ≡ Ok x
    → (b ≡ false) × (r ≡ Ok x)
unless_parts true e (Ok y) x h = cc
unless_parts false e (Ok y) x h = (refl, h)
unless_parts b e (Err f) x h = cc

pub at_record_parts : {A : Type 0} (place number : ℕ) (r : Result A RecordFault) (x : A)
    → at_record place number r ≡ Ok x → r ≡ Ok x
at_record_parts place number (Ok y) x h = cc
at_record_parts place number (Err e) x h = cc

pub record IsBefore {A E : Type 0} (a : Result A E) (r : Result (List A) E) (all : List A) : Type 0 where
  pub first : A
  pub others : List A
  pub first_is : a ≡ Ok first
  pub others_are : r ≡ Ok others
  pub are : first ∷ others ≡ all

pub before_parts : {A E : Type 0} (a : Result A E) (r : Result (List A) E) (all : List A) → before a r ≡ Ok all
    → IsBefore a r all
before_parts (Err e) r all h = cc
before_parts (Ok x) (Err e) all h = cc
before_parts (Ok x) (Ok xs) all h =
    record { first = x; others = xs; first_is = refl; others_are = refl; are = cc }

-- the records of a payload
pub are_records : (nodes : Trees) (payload : List ℕ) → records_in payload ≡ Ok nodes → IsTlv nodes payload
are_records nodes payload h =
    (nodes_of_bytes_exact nodes payload).0 (ok_or_parts (nodes_of_bytes payload) NotTlv nodes h)

pub records_are : (nodes : Trees) (payload : List ℕ) → IsTlv nodes payload → records_in payload ≡ Ok nodes
records_are nodes payload tlv =
    ap (λ (o : Option Trees). ok_or o NotTlv) ((nodes_of_bytes_exact nodes payload).1 tlv)
