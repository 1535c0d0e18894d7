-- What the first option of a number says, and what the segments name.
use Rattle.std.proofs.Common.{◌≡◌, inl, inr, ℕ, ◌+◌, ◌*◌, ◌<◌, ◌≤◌, ◌==◌, Bool, true, false, cond}
use Rattle.std.proofs.Common.{nat_le, List, [], ◌∷◌, ◌++◌, map, length, Option, None, Some, option_map}
use Rattle.std.proofs.Common.{option_and_then, refl, sym, ap, subst, ◌∙◌, arith}
use Rattle.std.specs.Bool.{if◌then◌else◌}
use Rattle.std.specs.Fmt.{decimal}
use Rattle.std.specs.List as lists
use Rattle.std.specs.List.{filter}
use Rattle.std.proofs.lemmas.Bool.{le-leb, ne_eqb, eqb-true, both_ways, eqb-false, leb-true}
use Rattle.std.proofs.lemmas.Option.{same_Some}
use Rattle.lemmas.proofs.Numbers.{eqb_itself}
use Rattle.lemmas.proofs.Options.{option_and_then_parts}
use Rattle.coap_codec.specs.Number.{big_endian}
use Rattle.coap_codec.specs.declared.option.Opt.{Opt}
use Rattle.lwm2m_values.proofs.Choices.{kept_if}
use Rattle.object_defs.specs.Decimal.{decimal_number}
use Rattle.object_defs.specs.declared.path.Path.{Path}
use Rattle.object_defs.specs.declared.path.Path.TheVariants.{Object, Instance, Resource, Part}
use Rattle.object_defs.proofs.Digits.{decimal_number-law}
use Rattle.device_requests.specs.Laws.{IsAmong}
use Rattle.device_requests.specs.Options.{numbers_of}
use Rattle.device_requests.specs.Options.{path_from, path_of}
use Rattle.laws_requests.specs.Understood.{AreValues, FirstNames, FirstSays, BytesSay}
use Rattle.laws_requests.specs.Understood.{NamePath}
use Rattle.laws_requests.specs.Understood.{SegmentsName, ValuesInOrder, its_value, name_instance}
use Rattle.laws_requests.specs.Understood.{name_object, name_part, name_resource, no_byte, no_value, one_byte}
use Rattle.laws_requests.specs.Understood.{other_option, three_bytes, two_bytes}

-- ---- the number of the first option

is_number : (bytes : List ℕ) → length bytes ≤ 3 → BytesSay bytes (big_endian bytes)
is_number [] h = no_byte
is_number (a ∷ []) h =
    let e : a ≡ 256 * 0 + a = omega arith in subst (BytesSay (a ∷ [])) e (one_byte a)
is_number (a ∷ b ∷ []) h =
    let e : 256 * a + b ≡ 256 * (256 * 0 + a) + b = omega arith in subst (BytesSay (a ∷ b ∷ [])) e (two_bytes a b)
is_number (a ∷ b ∷ c ∷ []) h =
    let e : 65536 * a + (256 * b + c) ≡ 256 * (256 * (256 * 0 + a) + b) + c = omega arith in
    subst (BytesSay (a ∷ b ∷ c ∷ [])) e (three_bytes a b c)
is_number (a ∷ b ∷ c ∷ d ∷ bytes) h = absurd (omega arith)

number_is : (bytes : List ℕ) (n : ℕ) → BytesSay bytes n → big_endian bytes ≡ n
number_is bytes n no_byte = refl
number_is bytes n (one_byte a) = omega arith
number_is bytes n (two_bytes a b) = omega arith
number_is bytes n (three_bytes a b c) = omega arith

-- the first that passes a test
record IsFirst (p : Opt → Bool) (os : List Opt) (o : Opt) : Type 0 where
  before : List Opt
  after : List Opt
  splits : os ≡ before ++ o ∷ after
  none : (x : Opt) → IsAmong x before → p x ≡ false
  passes_it : p o ≡ true

first_found : (p : Opt → Bool) (os : List Opt) (o : Opt) → lists.find p os ≡ Some o → IsFirst p os o
first_found p [] o h = cc
first_found p (x ∷ os) o h =
    elim (p x) as (λ b. p x ≡ b → cond b (Some x) (lists.find p os) ≡ Some o → IsFirst p (x ∷ os) o) [
      | true ↦ λ is k.
          let e : x ≡ o = cc in
          record {
            before = [];
            after = os;
            splits = λ j. e j ∷ os;
            none = λ y f. absurd f;
            passes_it = sym (ap p e) ∙ is;
          }
      | false ↦ λ is k.
          let r = first_found p os o k in
          record {
            before = x ∷ r.before;
            after = r.after;
            splits = ap (λ (t : List Opt). x ∷ t) r.splits;
            none = λ y f. elim f [ inl e ↦ sym (ap p e) ∙ is | inr g ↦ r.none y g ];
            passes_it = r.passes_it;
          }
    ] refl h

found_first : (p : Opt → Bool) (before after : List Opt) (o : Opt) → ((x : Opt) → IsAmong x before → p x ≡ false)
    → p o ≡ true → lists.find p (before ++ o ∷ after) ≡ Some o
found_first p [] after o none is = ap (λ (b : Bool). cond b (Some o) (lists.find p after)) is
found_first p (x ∷ before) after o none is =
    ap (λ (b : Bool). cond b (Some x) (lists.find p (before ++ o ∷ after))) (none x (inl refl))
    ∙ found_first p before after o (λ y f. none y (inr f)) is

-- the number in an option of at most `most` bytes
abbrev pub read_at_most : ℕ → Opt → Option ℕ
read_at_most most o = if nat_le (length o.value) most then Some (big_endian o.value) else None

first_says : (number most : ℕ) (os : List Opt) (n : ℕ) → most ≤ 3
    → option_and_then (read_at_most most) (lists.find (λ o. o.number == number) os) ≡ Some n
    → FirstSays number most os n
first_says number most os n small h =
    let a = option_and_then_parts (read_at_most most) (lists.find (λ o. o.number == number) os) n h in
    let f = first_found (λ (o : Opt). o.number == number) os a.0 a.1 in
    let u = kept_if (nat_le (length a.0.value) most) (Some (big_endian a.0.value)) n a.2 in
    let l : length a.0.value ≤ most = leb-true (length a.0.value) most u.0 in
    let l3 : length a.0.value ≤ 3 = omega arith in
    record {
      before = f.before;
      first = a.0;
      after = f.after;
      splits = f.splits;
      none_before = λ x among same.
          both_ways (x.number == number) (f.none x among) (ap (λ (k : ℕ). k == number) same ∙ eqb_itself number);
      is_one = eqb-true a.0.number number f.passes_it;
      fits = l;
      says = subst (BytesSay a.0.value) (same_Some (big_endian a.0.value) n u.1) (is_number a.0.value l3);
    }

says_first : (number most : ℕ) (os : List Opt) (n : ℕ) → FirstSays number most os n
    → option_and_then (read_at_most most) (lists.find (λ o. o.number == number) os) ≡ Some n
says_first number most os n f =
    ap (λ (t : List Opt). option_and_then (read_at_most most) (lists.find (λ o. o.number == number) t)) f.splits
    ∙ ap (option_and_then (read_at_most most)) (found_first (λ (o : Opt). o.number == number) f.before f.after f.first
    (λ x among. ne_eqb x.number number (f.none_before x among))
    (ap (λ (k : ℕ). k == number) f.is_one ∙ eqb_itself number))
    ∙ ap (λ (b : Bool). if b then Some (big_endian f.first.value) else None)
    (le-leb (length f.first.value) most f.fits)
    ∙ ap Some (number_is f.first.value n f.says)

pub first_names : FirstNames
first_names os n = (
  (first_says 17 2 os n (omega arith), says_first 17 2 os n),
  (first_says 12 2 os n (omega arith), says_first 12 2 os n),
  (first_says 6 3 os n (omega arith), says_first 6 3 os n),
)

-- ---- the path

abbrev AreSmall : List ℕ → Type 0
AreSmall [] = Unit {0}
AreSmall (n ∷ ns) = (n < 65536) × AreSmall ns

mapped_numbers : (n : ℕ) (o : Option (List ℕ)) (all : List ℕ) → option_map (λ ns. n ∷ ns) o ≡ Some all
    → (ns : List ℕ) × (o ≡ Some ns) × (n ∷ ns ≡ all)
mapped_numbers n None all h = cc
mapped_numbers n (Some ns) all h = (ns, refl, cc)

numbers_are : (ss : List (List ℕ)) (ns : List ℕ) → numbers_of ss ≡ Some ns → (ss ≡ map decimal ns) × AreSmall ns
numbers_are [] ns h =
    let is : [] ≡ ns = cc in (ap (λ (t : List ℕ). map decimal t) is, subst AreSmall is tt)
numbers_are (s ∷ ss) ns h =
    let a = option_and_then_parts (λ (n : ℕ). option_map (λ (t : List ℕ). n ∷ t) (numbers_of ss)) (decimal_number s) ns
    h in
    let m = mapped_numbers a.0 (numbers_of ss) ns a.2 in
    let r = numbers_are ss m.0 m.1 in
    let d = (decimal_number-law s a.0).0 a.1 in
    ((λ j. d.1 j ∷ r.0 j) ∙ ap (λ (t : List ℕ). map decimal t) m.2, subst AreSmall m.2 (d.0, r.1))

are_numbers : (ns : List ℕ) → AreSmall ns → numbers_of (map decimal ns) ≡ Some ns
are_numbers [] h = refl
are_numbers (n ∷ ns) h =
    ap (option_and_then (λ (m : ℕ). option_map (λ (t : List ℕ). m ∷ t) (numbers_of (map decimal ns))))
    ((decimal_number-law (decimal n) n).1 (h.0, refl))
    ∙ ap (option_map (λ (t : List ℕ). n ∷ t)) (are_numbers ns h.1)

named_by : (ns : List ℕ) (path : Path) → path_from ns ≡ Some path → AreSmall ns → NamePath (map decimal ns) path
named_by [] path h s = cc
named_by (o ∷ []) path h s =
    let is : Object o ≡ path = cc in subst (NamePath (decimal o ∷ [])) is (name_object o s.0)
named_by (o ∷ i ∷ []) path h s =
    let is : Instance o i ≡ path = cc in
    subst (NamePath (decimal o ∷ decimal i ∷ [])) is (name_instance o i s.0 s.1.0)
named_by (o ∷ i ∷ r ∷ []) path h s =
    let is : Resource o i r ≡ path = cc in
    subst (NamePath (decimal o ∷ decimal i ∷ decimal r ∷ [])) is (name_resource o i r s.0 s.1.0 s.1.1.0)
named_by (o ∷ i ∷ r ∷ p ∷ []) path h s =
    let is : Part o i r p ≡ path = cc in
    subst (NamePath (decimal o ∷ decimal i ∷ decimal r ∷ decimal p ∷ [])) is
    (name_part o i r p s.0 s.1.0 s.1.1.0 s.1.1.1.0)
named_by (o ∷ i ∷ r ∷ p ∷ n ∷ ns) path h s = cc

path_named : (segments : List (List ℕ)) (path : Path) → path_of segments ≡ Some path → NamePath segments path
path_named segments path h =
    let a = option_and_then_parts path_from (numbers_of segments) path h in
    let n = numbers_are segments a.0 a.1 in
    subst (λ (ss : List (List ℕ)). NamePath ss path) (sym n.0) (named_by a.0 path a.2 n.1)

named_path : (segments : List (List ℕ)) (path : Path) → NamePath segments path → path_of segments ≡ Some path
named_path segments path (name_object o h) = ap (option_and_then path_from) (are_numbers (o ∷ []) (h, tt))
named_path segments path (name_instance o i h k) =
    ap (option_and_then path_from) (are_numbers (o ∷ i ∷ []) (h, (k, tt)))
named_path segments path (name_resource o i r h k l) =
    ap (option_and_then path_from) (are_numbers (o ∷ i ∷ r ∷ []) (h, (k, (l, tt))))
named_path segments path (name_part o i r n h k l m) =
    ap (option_and_then path_from) (are_numbers (o ∷ i ∷ r ∷ n ∷ []) (h, (k, (l, (m, tt)))))

pub segments_name : SegmentsName
segments_name segments path = (path_named segments path, named_path segments path)

-- ---- the values of options

are_values : (number : ℕ) (os : List Opt)
    → AreValues number os (map (λ o. o.value) (filter (λ o. o.number == number) os))
are_values number [] = no_value
are_values number (o ∷ os) =
    let rest = filter (λ (x : Opt). x.number == number) os in
    elim (o.number == number) as (λ b. (o.number == number) ≡ b
    → AreValues number (o ∷ os) (map (λ x. x.value) (cond b (o ∷ rest) rest))) [
      | true ↦ λ is. its_value o os (map (λ x. x.value) rest) (eqb-true o.number number is) (are_values number os)
      | false ↦ λ is.
          other_option o os (map (λ x. x.value) rest) (eqb-false o.number number is) (are_values number os)
    ] refl

pub values_in_order : ValuesInOrder
values_in_order os = (are_values 11 os, are_values 15 os)
