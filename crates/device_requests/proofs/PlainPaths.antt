-- Options of Uri-Path alone, looked at one after another.
use Rattle.std.proofs.Common.{◌≡◌, ℕ, ◌+◌, ◌-◌, ◌*◌, ◌≤◌, inl, inr, List, [], ◌∷◌, ◌++◌, length, map}
use Rattle.std.proofs.Common.{Option, None, Some, IfNone, IfSome, refl, sym, ap, ◌∙◌, arith, lt-ltb, ◌==◌}
use Rattle.std.proofs.Common.{option_and_then}
use Rattle.lemmas.proofs.Lists.{same_parts}
use Rattle.std.specs.List.{All, filter}
use Rattle.std.proofs.lemmas.Bool.{cases_lt, eq-eqb}
use Rattle.std.proofs.lemmas.List.{append-nil, map-append, nil_from_length}
use Rattle.std.proofs.lemmas.List.Elements.{All-nil, All-head, All-tail, All-push, filter-append}
use Rattle.coap_codec.specs.declared.option.Opt.{Opt}
use Rattle.coap_codec.specs.Message.{IsOptionList, MayFollow, nibble_of, extension_of, option_bytes, options_bytes}
use Rattle.coap_codec.specs.Fault.{last_number}
use Rattle.coap_codec.proofs.OptionLists.{IsOptionList-push, last_number-push, parts_go_on}
use Rattle.object_defs.specs.Decimal.{decimal_number}
use Rattle.object_defs.specs.declared.path.Path.{Path}
use Rattle.object_defs.specs.declared.path.Path.TheVariants.{Object, Instance, Resource, Part}
use Rattle.object_defs.proofs.Digits.{none-long}
use Rattle.device_requests.specs.Inside.{SpellsPath, numbers_in}
use Rattle.device_requests.specs.Options.{numbers_of, path_from, segments_of}
use Rattle.device_requests.specs.PlainRead.{IsSegment}
use Rattle.device_requests.proofs.Paths.{finished, finished-long, finished-more, finished-no_number, one_more}

-- what was looked at are options of Uri-Path alone, whose numbers are those of the path so far, and the next one has
-- this delta
pub record SpellsBefore (bytes rest : List ℕ) (delta : ℕ) (path : Option Path) : Type 0 where
  pub options : List Opt
  pub spelled : bytes ≡ options_bytes 0 options ++ rest
  pub is_list : IsOptionList 0 options
  pub segments : All IsSegment options
  pub numbers : numbers_of (segments_of options) ≡ Some (numbers_in path)
  pub next : last_number 0 options + delta ≡ 11

-- what is left are options of Uri-Path alone, which complete the path so far to this one
pub record SpellsAfter (rest : List ℕ) (delta : ℕ) (path : Option Path) (whole : Path) : Type 0 where
  pub number : ℕ
  pub options : List Opt
  pub spelled : rest ≡ options_bytes number options
  pub segments : All IsSegment options
  pub named : finished path (numbers_of (segments_of options)) ≡ Some whole
  pub next : number + delta ≡ 11

-- ---- the bytes of a segment

-- a Uri-Path of at most 12 bytes has a nibble for its delta, one for its length, and no extension
segment_bytes : (number delta : ℕ) (o : Opt) → number + delta ≡ 11 → o.number ≡ 11 → length o.value ≤ 12
    → option_bytes number o ≡ (16 * delta + length o.value) ∷ o.value
segment_bytes number delta o next is short =
    let delta_is : o.number - number ≡ delta = omega (arith, next, is) in
    ap (λ d. (16 * nibble_of d + nibble_of (length o.value))
    ∷ (extension_of d ++ (extension_of (length o.value) ++ o.value))) delta_is
    ∙ rw (lt-ltb delta 13 (omega (arith, next)), lt-ltb (length o.value) 13 (omega (arith, short))) refl

-- ---- numbers and segments

segments_push : (os : List Opt) (value : List ℕ)
    → segments_of (os ++ record { number = 11; value = value } ∷ []) ≡ segments_of os ++ value ∷ []
segments_push os value =
    ap (map (λ (o : Opt). o.value)) (filter-append (λ (o : Opt). o.number == 11) os
    (record { number = 11; value = value } ∷ []))
    ∙ map-append (λ (o : Opt). o.value) (filter (λ (o : Opt). o.number == 11) os)
    (record { number = 11; value = value } ∷ [])

segments_first : (o : Opt) (os : List Opt) → o.number ≡ 11 → segments_of (o ∷ os) ≡ o.value ∷ segments_of os
segments_first o os is = rw (eq-eqb o.number 11 is) refl

one_more_push : (first : Option ℕ) (rest longer : Option (List ℕ)) (ns : List ℕ) (n : ℕ)
    → one_more first rest ≡ Some ns → ((ms : List ℕ) → rest ≡ Some ms → longer ≡ Some (ms ++ n ∷ []))
    → one_more first longer ≡ Some (ns ++ n ∷ [])
one_more_push None rest longer ns n e h = absurd cc
one_more_push (Some k) None longer ns n e h = absurd cc
one_more_push (Some k) (Some ms) longer ns n e h =
    let all : k ∷ ms ≡ ns = cc in
    ap (one_more (Some k)) (h ms refl) ∙ ap (λ xs. Some (xs ++ n ∷ [])) all

numbers_push : (segments : List (List ℕ)) (segment ns : List ℕ) (n : ℕ) → numbers_of segments ≡ Some ns
    → decimal_number segment ≡ Some n → numbers_of (segments ++ segment ∷ []) ≡ Some (ns ++ n ∷ [])
numbers_push [] segment ns n e is =
    let none : [] ≡ ns = cc in
    rw is (ap (λ xs. Some (xs ++ n ∷ [])) none)
numbers_push (s ∷ segments) segment ns n e is =
    one_more_push (decimal_number s) (numbers_of segments) (numbers_of (segments ++ segment ∷ [])) ns n e
    (λ ms f. numbers_push segments segment ms n f is)

-- a path has the numbers that it was made of
numbers_again : (ns : List ℕ) (path : Path) → path_from ns ≡ Some path → numbers_in (Some path) ≡ ns
numbers_again [] path e = absurd cc
numbers_again (o ∷ []) path e = ap numbers_in (sym e)
numbers_again (o ∷ i ∷ []) path e = ap numbers_in (sym e)
numbers_again (o ∷ i ∷ r ∷ []) path e = ap numbers_in (sym e)
numbers_again (o ∷ i ∷ r ∷ p ∷ []) path e = ap numbers_in (sym e)
numbers_again (o ∷ i ∷ r ∷ p ∷ n ∷ ns) path e = absurd cc

path_again : (path : Path) → path_from (numbers_in (Some path)) ≡ Some path
path_again (Object o) = refl
path_again (Instance o i) = refl
path_again (Resource o i r) = refl
path_again (Part o i r p) = refl

-- ---- what was looked at

pub nothing_before : (bytes : List ℕ) → SpellsBefore bytes bytes 11 None
nothing_before bytes =
    record { options = []; spelled = refl; is_list = tt; segments = All-nil IsSegment; numbers = refl; next = refl }

pub segment_before : (bytes rest after value behind : List ℕ) (delta first n : ℕ) (path : Option Path) (longer : Path)
    → SpellsBefore bytes rest delta path → rest ≡ first ∷ after → first ≡ 16 * delta + length value
    → after ≡ value ++ behind → length value ≤ 12 → decimal_number value ≡ Some n
    → path_from (numbers_in path ++ n ∷ []) ≡ Some longer → SpellsBefore bytes behind 0 (Some longer)
segment_before bytes rest after value behind delta first n path longer before begins first_is after_is short number_is
    path_is =
    let os : List Opt = before.options in
    let o : Opt = record { number = 11; value = value } in
    let last : ℕ = last_number 0 os in
    let here : first ∷ after ≡ option_bytes last o ++ behind =
    ap (λ x. x ∷ after) first_is
    ∙ (ap (λ xs. (16 * delta + length value) ∷ xs) after_is
    ∙ ap (λ xs. xs ++ behind) (sym (segment_bytes last delta o before.next refl short)))
    in
    let follows : MayFollow last o =
    record { ascends = omega (arith, before.next); in_range = omega arith; fits = omega (arith, short) } in
    record {
      options = os ++ o ∷ [];
      spelled =
          parts_go_on bytes rest behind after first (os ++ o ∷ []) os o last refl refl before.spelled begins here;
      is_list = IsOptionList-push 0 os o before.is_list follows;
      segments = All-push IsSegment os o before.segments (refl, omega (arith, short));
      numbers = ap numbers_of (segments_push os value)
          ∙ (numbers_push (segments_of os) value (numbers_in path) n before.numbers number_is
          ∙ ap Some (sym (numbers_again (numbers_in path ++ n ∷ []) longer path_is)));
      next = omega (arith, last_number-push 0 os o);
    }

pub all_before : (bytes rest : List ℕ) (delta : ℕ) (path : Option Path) → SpellsBefore bytes rest delta path
    → length rest ≡ 0 → IfSome path (λ p. SpellsPath bytes p)
all_before bytes rest delta None before end = tt
all_before bytes rest delta (Some path) before end =
    record {
      options = before.options;
      spelled = before.spelled
          ∙ (ap (λ r. options_bytes 0 before.options ++ r) (nil_from_length rest end)
          ∙ append-nil (options_bytes 0 before.options));
      is_list = before.is_list;
      segments = before.segments;
      named = ap (option_and_then path_from) before.numbers ∙ path_again path;
    }

-- ---- what is left

pub all_after : (bytes : List ℕ) (path : Path) → SpellsPath bytes path → SpellsAfter bytes 11 None path
all_after bytes path spells =
    record {
      number = 0;
      options = spells.options;
      spelled = spells.spelled;
      segments = spells.segments;
      named = spells.named;
      next = refl;
    }

-- a segment stands first, and the others behind it
record SegmentFirst (first delta : ℕ) (after : List ℕ) (path : Option Path) (whole : Path) : Type 0 where
  value : List ℕ
  others : List Opt
  short : length value ≤ 12
  first_is : first ≡ 16 * delta + length value
  after_is : after ≡ value ++ options_bytes 11 others
  segments : All IsSegment others
  named : finished path (one_more (decimal_number value) (numbers_of (segments_of others))) ≡ Some whole

-- a number has at most five digits
short_value : (value : List ℕ) (path : Option Path) (others : Option (List ℕ)) (whole : Path)
    → finished path (one_more (decimal_number value) others) ≡ Some whole → length value ≤ 12
short_value value path others whole named =
    elim (cases_lt 5 (length value)) [
      | inl long ↦ absurd (cc (
        finished-no_number path (decimal_number value) others (sym (none-long value long)),
        named,
      ))
      | inr short ↦ omega (arith, short)
    ]

segment_first : (rest after : List ℕ) (first delta number : ℕ) (path : Option Path) (whole : Path) (options : List Opt)
    → rest ≡ options_bytes number options → All IsSegment options
    → finished path (numbers_of (segments_of options)) ≡ Some whole → number + delta ≡ 11 → rest ≡ first ∷ after
    → SegmentFirst first delta after path whole
segment_first rest after first delta number path whole [] spelled segments named next begins =
    absurd (cc (spelled, begins))
segment_first rest after first delta number path whole (o ∷ os) spelled segments named next begins =
    let is : o.number ≡ 11 = (All-head IsSegment o os segments).0 in
    let of_first : finished path (one_more (decimal_number o.value) (numbers_of (segments_of os))) ≡ Some whole =
    sym (ap (λ ss. finished path (numbers_of ss)) (segments_first o os is)) ∙ named in
    let short : length o.value ≤ 12 = short_value o.value path (numbers_of (segments_of os)) whole of_first in
    let bytes : first ∷ after ≡ (16 * delta + length o.value) ∷ (o.value ++ options_bytes o.number os) =
    sym begins
    ∙ (spelled ∙ ap (λ xs. xs ++ options_bytes o.number os) (segment_bytes number delta o next is short)) in
    let tail : after ≡ o.value ++ options_bytes o.number os = cc bytes in
    record {
      value = o.value;
      others = os;
      short = short;
      first_is = cc bytes;
      after_is = tail ∙ ap (λ n. o.value ++ options_bytes n os) is;
      segments = All-tail IsSegment o os segments;
      named = of_first;
    }

first_of : (rest after : List ℕ) (first delta : ℕ) (path : Option Path) (whole : Path)
    → SpellsAfter rest delta path whole → rest ≡ first ∷ after → SegmentFirst first delta after path whole
first_of rest after first delta path whole left begins =
    segment_first rest after first delta left.number path whole left.options left.spelled left.segments left.named
    left.next begins

-- the segment that was found is the one that stands first
same_segment : (first delta : ℕ) (after value behind : List ℕ) (path : Option Path) (whole : Path)
    → (f : SegmentFirst first delta after path whole) → first ≡ 16 * delta + length value → after ≡ value ++ behind
    → (value ≡ f.value) × (behind ≡ options_bytes 11 f.others)
same_segment first delta after value behind path whole f first_is after_is =
    same_parts value f.value behind (options_bytes 11 f.others) (omega (arith, first_is, f.first_is))
    (sym after_is ∙ f.after_is)

-- a segment must be found where one is left
pub never_missed : (rest after : List ℕ) (first delta : ℕ) (path : Option Path) (whole : Path)
    → SpellsAfter rest delta path whole → rest ≡ first ∷ after
    → ((value behind : List ℕ) → length value ≤ 12 → first ≡ 16 * delta + length value → after ≡ value ++ behind → ⊥)
    → ⊥
never_missed rest after first delta path whole left begins none =
    let f = first_of rest after first delta path whole left begins in
    none f.value (options_bytes 11 f.others) f.short f.first_is f.after_is

-- what is left names no path if the first segment is no number
pub never_other : (rest after value behind : List ℕ) (first delta : ℕ) (path : Option Path) (whole : Path)
    → SpellsAfter rest delta path whole → rest ≡ first ∷ after → first ≡ 16 * delta + length value
    → after ≡ value ++ behind → decimal_number value ≡ None → ⊥
never_other rest after value behind first delta path whole left begins first_is after_is none =
    let f = first_of rest after first delta path whole left begins in
    let same = same_segment first delta after value behind path whole f first_is after_is in
    let missing : decimal_number f.value ≡ None = sym (ap decimal_number same.0) ∙ none in
    absurd (cc (
      finished-no_number path (decimal_number f.value) (numbers_of (segments_of f.others)) missing,
      f.named,
    ))

-- or if it is a number too many
pub never_longer : (rest after value behind : List ℕ) (first delta n : ℕ) (path : Option Path) (whole : Path)
    → SpellsAfter rest delta path whole → rest ≡ first ∷ after → first ≡ 16 * delta + length value
    → after ≡ value ++ behind → decimal_number value ≡ Some n → path_from (numbers_in path ++ n ∷ []) ≡ None → ⊥
never_longer rest after value behind first delta n path whole left begins first_is after_is number_is long =
    let f = first_of rest after first delta path whole left begins in
    let same = same_segment first delta after value behind path whole f first_is after_is in
    let there : decimal_number f.value ≡ Some n = sym (ap decimal_number same.0) ∙ number_is in
    absurd (cc (
      finished-long path (decimal_number f.value) n (numbers_of (segments_of f.others)) there long,
      f.named,
    ))

pub segment_after : (rest after value behind : List ℕ) (first delta n : ℕ) (path : Option Path) (longer whole : Path)
    → SpellsAfter rest delta path whole → rest ≡ first ∷ after → first ≡ 16 * delta + length value
    → after ≡ value ++ behind → decimal_number value ≡ Some n
    → path_from (numbers_in path ++ n ∷ []) ≡ Some longer → SpellsAfter behind 0 (Some longer) whole
segment_after rest after value behind first delta n path longer whole left begins first_is after_is number_is path_is =
    let f = first_of rest after first delta path whole left begins in
    let same = same_segment first delta after value behind path whole f first_is after_is in
    let there : decimal_number f.value ≡ Some n = sym (ap decimal_number same.0) ∙ number_is in
    record {
      number = 11;
      options = f.others;
      spelled = same.1;
      segments = f.segments;
      named =
          sym (finished-more path (decimal_number f.value) n longer (numbers_of (segments_of f.others)) there path_is)
          ∙ f.named;
      next = refl;
    }

no_path_left : (rest : List ℕ) (number : ℕ) (whole : Path) (options : List Opt) → length rest ≡ 0
    → rest ≡ options_bytes number options → finished None (numbers_of (segments_of options)) ≡ Some whole → ⊥
no_path_left rest number whole [] end spelled named = absurd (cc)
no_path_left rest number whole (o ∷ os) end spelled named = absurd (omega (arith, end, ap length spelled))

-- bytes without a segment name no path
pub nothing_named : (bytes rest : List ℕ) (delta : ℕ) (path : Option Path)
    → ((whole : Path) → SpellsPath bytes whole → SpellsAfter rest delta path whole) → length rest ≡ 0
    → IfNone path ((whole : Path) → SpellsPath bytes whole → ⊥)
nothing_named bytes rest delta None after end = λ whole spells.
    let left = after whole spells in
    no_path_left rest left.number whole left.options end left.spelled left.named
nothing_named bytes rest delta (Some path) after end = tt

-- nor is one found of bytes that name none
pub none_named : (bytes : List ℕ) (found : Option Path) → ((whole : Path) → SpellsPath bytes whole → ⊥)
    → IfNone found ((whole : Path) → SpellsPath bytes whole → ⊥)
none_named bytes None never = never
none_named bytes (Some path) never = tt
