-- Words that stand where a number, a path, a link, bytes or a text have to stand.
use Rattle.std.proofs.Common.{◌≡◌, ◌≢◌, ◌⊎◌, ℕ, ◌<◌, ◌≤◌, ◌^◌, ◌==◌, nat_le, nat_lt, ℤ, Bool, true, false, ◌&&◌}
use Rattle.std.proofs.Common.{◌||◌, cond, List, [], ◌∷◌, ◌++◌, length, slice_index, Option, None, Some, Result, Ok, Err}
use Rattle.std.proofs.Common.{inl, inr, refl, sym, ap, subst, ◌∙◌, arith, eq-eqb, eqb-true, lt-ltb, ltb-true}
use Rattle.std.proofs.Common.{w64, FitsSigned}
use Rattle.std.specs.Prelude.{codes}
use Rattle.std.specs.Char.{is_ascii_digit}
use Rattle.std.specs.Fmt.{decimal, signed_decimal}
use Rattle.std.specs.Bool.{if◌then◌else◌}
use Rattle.std.specs.Str.Parse.{digits_value}
use Rattle.std.specs.List.{AllByRecursion, flat_map, join_with_byte, list_all, onto_first}
use Rattle.std.proofs.lemmas.Bool.{and_from, and_parts, cases_eq, or_cases, or_left, or_right}
use Rattle.std.proofs.lemmas.Bool.Decides.{nat_tests}
use Rattle.std.proofs.lemmas.List.{append-nil}
use Rattle.std.proofs.lemmas.List.Splits.{join_with_byte-slice_split}
use Rattle.object_defs.specs.declared.path.Path.{Path}
use Rattle.object_defs.specs.declared.path.Path.TheVariants.{Instance, Object, Part, Resource}
use Rattle.object_defs.specs.Path.{path_text}
use Rattle.scenario_words.specs.declared.cause.Cause.{Cause}
use Rattle.scenario_words.specs.declared.cause.Cause.TheVariants.{Range, Token}
use Rattle.scenario_words.specs.HexWord.{IsHex, bytes_of, or_token, pairs}
use Rattle.scenario_words.specs.Number.{integer_of, integer_value, is_64_bits, is_natural, is_number, number_of}
use Rattle.scenario_words.specs.PathWord.{IsPath, link_of, link_of_parts, link_word, path_of, path_of_numbers}
use Rattle.scenario_words.specs.PathWord.{path_of_parts}
use Rattle.scenario_words.specs.Quoted.{IsQuoted, text_of, unquoted_bytes, utf8_or_token}
use Rattle.scenario_words.specs.Reading.{◌>>=◌}
use Rattle.scenario_words.specs.Words.{parts}
use Rattle.scenario_words.proofs.Digits.{minus_number, plain_number}
use Rattle.scenario_words.proofs.NumberLaws.{integer_of-law, is_number-natural, number_of-law}
use Rattle.scenario_words.proofs.Pairs.{hex_law, quoted_law}
use Rattle.scenario_words.proofs.PathLaws.{link_law, path_law, other_byte}
use Rattle.scenario_statements.specs.Spelling.{IsWithin}
use Rattle.laws_reading.specs.WrongWords.{BytesAreHex, IntegersFit, IsNatural, IsNumber, IsPair, IsSlashed}
use Rattle.laws_reading.specs.WrongWords.{LinksArePairs, NumbersAreWithin, PathsAreSlashed, TextsAreQuoted}
use Rattle.laws_reading.proofs.Refused.{Reads, bind_err, each_said, each_tested, refused, same_cause, is_wrong}

-- ---- numbers

digit_said : (b : ℕ) → is_ascii_digit b ≡ true → IsWithin 48 57 b
digit_said b h = (grind (arith, nat_tests), grind (arith, nat_tests))

digit_tested : (b : ℕ) → IsWithin 48 57 b → is_ascii_digit b ≡ true
digit_tested b h = grind (arith, nat_tests)

nothing_left : (ds : List ℕ) → length ds ≡ 0 → ds ≡ []
nothing_left [] h = refl
nothing_left (d ∷ ds) h = absurd (omega (arith, h))

alone_after : (d : ℕ) (ds : List ℕ) → (nat_lt 48 d || length (d ∷ ds) == 1) ≡ true → d ≡ 48 → ds ≡ []
alone_after d ds h z =
    nothing_left ds (elim (or_cases (nat_lt 48 d) (length (d ∷ ds) == 1) h) [
      | inl more ↦ absurd (omega (arith, ltb-true 48 d more, z))
      | inr one ↦ let k = eqb-true (length (d ∷ ds)) 1 one in omega (arith, k)
    ])

natural_said : (ds : List ℕ) → is_natural ds ≡ true → IsNatural ds
natural_said [] h = cc
natural_said (d ∷ ds) h =
    let t = and_parts (list_all is_ascii_digit (d ∷ ds)) _ h in
    let u = and_parts (nat_lt 0 (length (d ∷ ds))) (nat_lt 48 d || length (d ∷ ds) == 1) t.1 in
    (each_said is_ascii_digit (IsWithin 48 57) digit_said (d ∷ ds) t.0, alone_after d ds u.1)

long_or_other : (d : ℕ) (ds : List ℕ) → 48 ≤ d → (d ≡ 48 → ds ≡ [])
    → (nat_lt 48 d || length (d ∷ ds) == 1) ≡ true
long_or_other d ds low h = elim (cases_eq d 48) [
  | inl zero ↦ or_right (nat_lt 48 d) (length (d ∷ ds) == 1)
      (eq-eqb (length (d ∷ ds)) 1 (ap (λ xs. length (d ∷ xs)) (h zero)))
  | inr more ↦ or_left (nat_lt 48 d) (length (d ∷ ds) == 1) (lt-ltb 48 d (omega (arith, low, more)))
]

natural_tested : (ds : List ℕ) → IsNatural ds → is_natural ds ≡ true
natural_tested [] h = absurd h
natural_tested (d ∷ ds) h =
    and_from (list_all is_ascii_digit (d ∷ ds)) _
    (each_tested is_ascii_digit (IsWithin 48 57) digit_tested (d ∷ ds) h.0)
    (and_from (nat_lt 0 (length (d ∷ ds))) _ (lt-ltb 0 (length (d ∷ ds)) (omega arith))
    (long_or_other d ds h.0.0.0 h.1))

no_zero : (ds : List ℕ) → nat_lt 48 (slice_index ds 0) ≡ true → ds ≢ codes "0"
no_zero ds h e =
    let k : nat_lt 48 (slice_index (codes "0") 0) ≡ true = sym (ap (λ xs. nat_lt 48 (slice_index xs 0)) e) ∙ h in cc

number_said : (w : List ℕ) → is_number w ≡ true → IsNumber w
number_said [] h = cc
number_said (c ∷ cs) h = elim (cases_eq c 45) [
  | inl minus ↦
      let t = and_parts (is_natural cs) (nat_lt 48 (slice_index cs 0)) (sym (minus_number c cs minus) ∙ h) in
      inr (cs, ap (λ x. x ∷ cs) minus, natural_said cs t.0, no_zero cs t.1)
  | inr plain ↦ inl (natural_said (c ∷ cs) (sym (plain_number c cs plain) ∙ h))
]

above_zero : (ds : List ℕ) → IsNatural ds → ds ≢ codes "0" → nat_lt 48 (slice_index ds 0) ≡ true
above_zero [] h k = absurd h
above_zero (d ∷ ds) h k = elim (cases_eq d 48) [
  | inl zero ↦ absurd (k (ap (λ x. x ∷ ds) zero ∙ ap (λ xs. 48 ∷ xs) (h.1 zero)))
  | inr more ↦ lt-ltb 48 d (omega (arith, h.0.0.0, more))
]

number_tested : (w : List ℕ) → IsNumber w → is_number w ≡ true
number_tested w (inl h) = is_number-natural w (natural_tested w h)
number_tested w (inr h) =
    ap is_number h.1
    ∙ and_from (is_natural h.0) (nat_lt 48 (slice_index h.0 0)) (natural_tested h.0 h.2) (above_zero h.0 h.2 h.3)

-- what is read where a form is tested, and then a range
chosen_err : {A : Type 0} (b : Bool) (x : A) (e : Cause) → cond b (Ok x) (Err Range) ≡ Err e → e ≡ Range
chosen_err true x e h = cc
chosen_err {A} false x e h = sym (same_cause {A = A} Range e h)

abbrev is_inside : ℕ → ℕ → List ℕ → Bool
is_inside low high w = is_natural w && (nat_le low (digits_value 10 w) && nat_le (digits_value 10 w) high)

abbrev inside : ℕ → ℕ → List ℕ → Result ℕ Cause
inside low high w = if is_inside low high w then Ok (digits_value 10 w) else Err Range

abbrev fitting : List ℕ → Result ℤ Cause
fitting w = if is_64_bits (integer_value w) then Ok (integer_value w) else Err Range

number_err : (low high : ℕ) (w : List ℕ) → is_number w ≡ true → (e : Cause) → number_of low high w ≡ Err e → e ≡ Range
number_err low high w number e h =
    chosen_err (is_inside low high w) (digits_value 10 w) e
    (sym (ap (λ b. cond b (inside low high w) (Err Token)) number) ∙ h)

number_reads : (low high : ℕ) (w : List ℕ) → high < 2 ^ 64
    → Reads (number_of low high w) (IsNumber w) ((n : ℕ) × IsWithin low high n × (w ≡ decimal n)) Range (is_number w)
number_reads low high w small =
    record {
      tested = number_said w;
      passes = number_tested w;
      unformed = λ h. ap (λ b. cond b (inside low high w) (Err Token)) h;
      formed = number_err low high w;
      takes = λ n h. let l = (number_of-law low high n w small).0 h in (n, (l.1, l.2), l.0);
      taken = λ h. (h.0, (number_of-law low high h.0 w small).1 (h.2, h.1.0, h.1.1));
    }

pub numbers_within : NumbersAreWithin
numbers_within low high w cause small =
    is_wrong (number_of low high w) (IsNumber w) ((n : ℕ) × IsWithin low high n × (w ≡ decimal n)) Range cause
    (is_number w) (number_reads low high w small)

integer_reads : (w : List ℕ)
    → Reads (integer_of w) (IsNumber w) ((z : ℤ) × FitsSigned w64 z × (w ≡ signed_decimal z)) Range (is_number w)
integer_reads w =
    record {
      tested = number_said w;
      passes = number_tested w;
      unformed = λ h. ap (λ b. cond b (fitting w) (Err Token)) h;
      formed = λ number e h. chosen_err (is_64_bits (integer_value w)) (integer_value w) e
          (sym (ap (λ b. cond b (fitting w) (Err Token)) number) ∙ h);
      takes = λ z h. let l = (integer_of-law z w).0 h in (z, l.1, l.0);
      taken = λ h. (h.0, (integer_of-law h.0 w).1 (h.2, h.1));
    }

pub integers_fit : IntegersFit
integers_fit w cause =
    is_wrong (integer_of w) (IsNumber w) ((z : ℤ) × FitsSigned w64 z × (w ≡ signed_decimal z)) Range cause (is_number w)
    (integer_reads w)

-- ---- words that are cut at a byte

abbrev IsWithout : ℕ → List ℕ → Type 0
IsWithout c w = AllByRecursion (λ b. b ≢ c) w

cut_after : (c : ℕ) (w rest : List ℕ) → IsWithout c w → parts c (w ++ c ∷ rest) ≡ w ∷ parts c rest
cut_after c [] rest h = ap (λ t. cond t ([] ∷ parts c rest) (onto_first c (parts c rest))) (eq-eqb c c refl)
cut_after c (b ∷ w) rest h =
    other_byte c b (w ++ c ∷ rest) h.0 ∙ ap (onto_first b) (cut_after c w rest h.1)

uncut : (c : ℕ) (w : List ℕ) → IsWithout c w → parts c w ≡ w ∷ []
uncut c [] h = refl
uncut c (b ∷ w) h = other_byte c b w h.0 ∙ ap (onto_first b) (uncut c w h.1)

digits_without : (c : ℕ) (ds : List ℕ) → 57 < c → AllByRecursion (IsWithin 48 57) ds → IsWithout c ds
digits_without c [] high h = tt
digits_without c (d ∷ ds) high h = ((λ e. omega (arith, high, h.0.1, e)), digits_without c ds high h.1)

low_without : (c : ℕ) (ds : List ℕ) → c < 48 → AllByRecursion (IsWithin 48 57) ds → IsWithout c ds
low_without c [] low h = tt
low_without c (d ∷ ds) low h = ((λ e. omega (arith, low, h.0.0, e)), low_without c ds low h.1)

natural_without : (c : ℕ) (ds : List ℕ) → (57 < c) ⊎ (c < 48) → IsNatural ds → IsWithout c ds
natural_without c [] far h = absurd h
natural_without c (d ∷ ds) (inl high) h = digits_without c (d ∷ ds) high h.0
natural_without c (d ∷ ds) (inr low) h = low_without c (d ∷ ds) low h.0

number_without : (c : ℕ) (w : List ℕ) → (57 < c) ⊎ (c < 48) → 45 ≢ c → IsNumber w → IsWithout c w
number_without c w far other (inl h) = natural_without c w far h
number_without c w far other (inr h) =
    subst (IsWithout c) (sym h.1) (other, natural_without c h.0 far h.2)

-- ---- paths

abbrev slashed : List (List ℕ) → List ℕ
slashed ns = flat_map (λ n. 47 ∷ n) ns

joined : (n : List ℕ) (ns : List (List ℕ)) → join_with_byte 47 (n ∷ ns) ≡ n ++ slashed ns
joined n [] = sym (append-nil n)
joined n (m ∷ ms) = ap (λ t. n ++ 47 ∷ t) (joined m ms)

cut_slashed : (n : List ℕ) (ns : List (List ℕ)) → IsWithout 47 n → AllByRecursion (IsWithout 47) ns
    → parts 47 (n ++ slashed ns) ≡ n ∷ ns
cut_slashed n [] h all = ap (parts 47) (append-nil n) ∙ uncut 47 n h
cut_slashed n (m ∷ ms) h all =
    cut_after 47 n (m ++ slashed ms) h ∙ ap (λ ps. n ∷ ps) (cut_slashed m ms all.0 all.1)

numbers_without : (ns : List (List ℕ)) → AllByRecursion IsNumber ns → AllByRecursion (IsWithout 47) ns
numbers_without [] h = tt
numbers_without (n ∷ ns) h =
    (number_without 47 n (inr (omega arith)) (λ e. omega (arith, e)) h.0, numbers_without ns h.1)

cut_numbers : (ns : List (List ℕ)) → AllByRecursion IsNumber ns → parts 47 (slashed ns) ≡ [] ∷ ns
cut_numbers ns h = cut_slashed [] ns tt (numbers_without ns h)

abbrev is_few : List (List ℕ) → Bool
is_few [] = false
is_few (a ∷ []) = true
is_few (a ∷ b ∷ []) = true
is_few (a ∷ b ∷ c ∷ []) = true
is_few (a ∷ b ∷ c ∷ d ∷ []) = true
is_few (a ∷ b ∷ c ∷ d ∷ e ∷ more) = false

few_said : (ns : List (List ℕ)) → is_few ns ≡ true → IsWithin 1 4 (length ns)
few_said [] h = cc
few_said (a ∷ []) h = (omega arith, omega arith)
few_said (a ∷ b ∷ []) h = (omega arith, omega arith)
few_said (a ∷ b ∷ c ∷ []) h = (omega arith, omega arith)
few_said (a ∷ b ∷ c ∷ d ∷ []) h = (omega arith, omega arith)
few_said (a ∷ b ∷ c ∷ d ∷ e ∷ more) h = cc

few_tested : (ns : List (List ℕ)) → IsWithin 1 4 (length ns) → is_few ns ≡ true
few_tested [] h = absurd (omega (arith, h.0))
few_tested (a ∷ []) h = refl
few_tested (a ∷ b ∷ []) h = refl
few_tested (a ∷ b ∷ c ∷ []) h = refl
few_tested (a ∷ b ∷ c ∷ d ∷ []) h = refl
few_tested (a ∷ b ∷ c ∷ d ∷ e ∷ more) h = absurd (omega (arith, h.1))

abbrev is_slashed : List (List ℕ) → Bool
is_slashed [] = false
is_slashed ([] ∷ ns) = list_all is_number ns && is_few ns
is_slashed ((b ∷ bs) ∷ ns) = false

slashed_by : (w : List ℕ) (ps : List (List ℕ)) → join_with_byte 47 ps ≡ w → is_slashed ps ≡ true → IsSlashed w
slashed_by w [] e h = cc
slashed_by w ([] ∷ ns) e h =
    let t = and_parts (list_all is_number ns) (is_few ns) h in
    (ns, sym e ∙ joined [] ns, each_said is_number IsNumber number_said ns t.0, few_said ns t.1)
slashed_by w ((b ∷ bs) ∷ ns) e h = cc

slashed_tested : (w : List ℕ) → IsSlashed w → is_slashed (parts 47 w) ≡ true
slashed_tested w h =
    ap (λ x. is_slashed (parts 47 x)) h.1 ∙ ap is_slashed (cut_numbers h.0 h.2)
    ∙ and_from (list_all is_number h.0) (is_few h.0) (each_tested is_number IsNumber number_tested h.0 h.2)
    (few_tested h.0 h.3)

too_many : (ns : List (List ℕ)) → is_few ns ≡ false → path_of_numbers ns ≡ Err Token
too_many [] h = refl
too_many (a ∷ []) h = cc
too_many (a ∷ b ∷ []) h = cc
too_many (a ∷ b ∷ c ∷ []) h = cc
too_many (a ∷ b ∷ c ∷ d ∷ []) h = cc
too_many (a ∷ b ∷ c ∷ d ∷ e ∷ more) h = refl

unslashed : (ps : List (List ℕ)) → is_slashed ps ≡ false → path_of_parts ps ≡ Err Token
unslashed [] h = refl
unslashed ([] ∷ ns) h = by (list_all is_number ns) refl h
  where
    by : (b : Bool) → list_all is_number ns ≡ b → (b && is_few ns) ≡ false
        → cond b (path_of_numbers ns) (Err Token) ≡ Err Token
    by true e k = too_many ns k
    by false e k = refl
unslashed ((b ∷ bs) ∷ ns) h = refl

half_err : (a : List ℕ) → IsNumber a → (e : Cause) → number_of 0 65535 a ≡ Err e → e ≡ Range
half_err a h e k = number_err 0 65535 a (number_tested a h) e k

-- a step that reads a number, and the next one, fail in range alone
step_err : {B : Type 0} (a : List ℕ) (f : ℕ → Result B Cause) (e : Cause) → IsNumber a
    → ((n : ℕ) → f n ≡ Err e → e ≡ Range) → (number_of 0 65535 a >>= f) ≡ Err e → e ≡ Range
step_err a f e h next k = elim (bind_err (number_of 0 65535 a) f e k) [
  | inl here ↦ half_err a h e here
  | inr later ↦ next later.0 later.2
]

numbers_err : (ns : List (List ℕ)) → AllByRecursion IsNumber ns → is_few ns ≡ true → (e : Cause)
    → path_of_numbers ns ≡ Err e → e ≡ Range
numbers_err [] all few e h = cc few
numbers_err (a ∷ []) all few e h = step_err a (λ o. Ok (Object o)) e all.0 (λ o k. cc k) h
numbers_err (a ∷ b ∷ []) all few e h =
    step_err a (λ o. number_of 0 65535 b >>= (λ i. Ok (Instance o i))) e all.0
    (λ o. step_err b (λ i. Ok (Instance o i)) e all.1.0 (λ i k. cc k)) h
numbers_err (a ∷ b ∷ c ∷ []) all few e h =
    step_err a (λ o. number_of 0 65535 b >>= (λ i. number_of 0 65535 c >>= (λ r. Ok (Resource o i r)))) e all.0
    (λ o. step_err b (λ i. number_of 0 65535 c >>= (λ r. Ok (Resource o i r))) e all.1.0
    (λ i. step_err c (λ r. Ok (Resource o i r)) e all.1.1.0 (λ r k. cc k))) h
numbers_err (a ∷ b ∷ c ∷ d ∷ []) all few e h =
    step_err a (λ o. number_of 0 65535 b >>= (λ i. number_of 0 65535 c
    >>= (λ r. number_of 0 65535 d >>= (λ p. Ok (Part o i r p))))) e all.0
    (λ o. step_err b (λ i. number_of 0 65535 c >>= (λ r. number_of 0 65535 d >>= (λ p. Ok (Part o i r p)))) e all.1.0
    (λ i. step_err c (λ r. number_of 0 65535 d >>= (λ p. Ok (Part o i r p))) e all.1.1.0
    (λ r. step_err d (λ p. Ok (Part o i r p)) e all.1.1.1.0 (λ p k. cc k)))) h
numbers_err (a ∷ b ∷ c ∷ d ∷ x ∷ more) all few e h = cc few

slashed_err : (ps : List (List ℕ)) → is_slashed ps ≡ true → (e : Cause) → path_of_parts ps ≡ Err e → e ≡ Range
slashed_err [] h e k = cc h
slashed_err ([] ∷ ns) h e k =
    let t = and_parts (list_all is_number ns) (is_few ns) h in
    numbers_err ns (each_said is_number IsNumber number_said ns t.0) t.1 e
    (sym (ap (λ b. cond b (path_of_numbers ns) (Err Token)) t.0) ∙ k)
slashed_err ((b ∷ bs) ∷ ns) h e k = cc h

path_reads : (w : List ℕ)
    → Reads (path_of w) (IsSlashed w) ((p : Path) × IsPath p × (w ≡ path_text p)) Range (is_slashed (parts 47 w))
path_reads w =
    record {
      tested = slashed_by w (parts 47 w) (join_with_byte-slice_split 47 w);
      passes = slashed_tested w;
      unformed = unslashed (parts 47 w);
      formed = slashed_err (parts 47 w);
      takes = λ p h. let l = (path_law w p).0 h in (p, l.1, l.0);
      taken = λ h. (h.0, (path_law w h.0).1 (h.2, h.1));
    }

pub paths_slashed : PathsAreSlashed
paths_slashed w cause =
    is_wrong (path_of w) (IsSlashed w) ((p : Path) × IsPath p × (w ≡ path_text p)) Range cause (is_slashed (parts 47 w))
    (path_reads w)

-- ---- links

abbrev is_pair : List (List ℕ) → Bool
is_pair [] = false
is_pair (a ∷ []) = false
is_pair (a ∷ b ∷ []) = list_all is_number (a ∷ b ∷ [])
is_pair (a ∷ b ∷ c ∷ more) = false

pair_by : (w : List ℕ) (ps : List (List ℕ)) → join_with_byte 58 ps ≡ w → is_pair ps ≡ true → IsPair w
pair_by w [] e h = cc
pair_by w (a ∷ []) e h = cc
pair_by w (a ∷ b ∷ []) e h =
    let all = each_said is_number IsNumber number_said (a ∷ b ∷ []) h in (a, b, sym e, all.0, all.1.0)
pair_by w (a ∷ b ∷ c ∷ more) e h = cc

colon_without : (w : List ℕ) → IsNumber w → IsWithout 58 w
colon_without w h = number_without 58 w (inl (omega arith)) (λ e. omega (arith, e)) h

pair_tested : (w : List ℕ) → IsPair w → is_pair (parts 58 w) ≡ true
pair_tested w h =
    ap (λ x. is_pair (parts 58 x)) h.2
    ∙ ap is_pair (cut_after 58 h.0 h.1 (colon_without h.0 h.3)
    ∙ ap (λ ps. h.0 ∷ ps) (uncut 58 h.1 (colon_without h.1 h.4)))
    ∙ each_tested is_number IsNumber number_tested (h.0 ∷ h.1 ∷ []) (h.3, (h.4, tt))

abbrev linked : ℕ → ℕ → Result (ℕ × ℕ) Cause
linked o i = Ok (o, i)

unpaired : (ps : List (List ℕ)) → is_pair ps ≡ false → link_of_parts ps ≡ Err Token
unpaired [] h = refl
unpaired (a ∷ []) h = refl
unpaired (a ∷ b ∷ []) h =
    ap (λ t. cond t (number_of 0 65535 a >>= (λ o. number_of 0 65535 b >>= linked o)) (Err Token)) h
unpaired (a ∷ b ∷ c ∷ more) h = refl

pair_err : (ps : List (List ℕ)) → is_pair ps ≡ true → (e : Cause) → link_of_parts ps ≡ Err e → e ≡ Range
pair_err [] h e k = cc h
pair_err (a ∷ []) h e k = cc h
pair_err (a ∷ b ∷ []) h e k =
    let all = each_said is_number IsNumber number_said (a ∷ b ∷ []) h in
    step_err a (λ o. number_of 0 65535 b >>= linked o) e all.0
    (λ o. step_err b (linked o) e all.1.0 (λ i j. cc j))
    (sym (ap (λ t. cond t (number_of 0 65535 a >>= (λ o. number_of 0 65535 b >>= linked o)) (Err Token)) h) ∙ k)
pair_err (a ∷ b ∷ c ∷ more) h e k = cc h

link_reads : (w : List ℕ)
    → Reads (link_of w) (IsPair w) ((o : ℕ) × (i : ℕ) × (o < 65536) × (i < 65536) × (w ≡ link_word o i)) Range
    (is_pair (parts 58 w))
link_reads w =
    record {
      tested = pair_by w (parts 58 w) (join_with_byte-slice_split 58 w);
      passes = pair_tested w;
      unformed = unpaired (parts 58 w);
      formed = pair_err (parts 58 w);
      takes = λ p h. let l = (link_law w p.0 p.1).0 h in (p.0, p.1, l.1, l.2, l.0);
      taken = λ h. ((h.0, h.1), (link_law w h.0 h.1).1 (h.4, h.2, h.3));
    }

pub links_paired : LinksArePairs
links_paired w cause =
    is_wrong (link_of w) (IsPair w) ((o : ℕ) × (i : ℕ) × (o < 65536) × (i < 65536) × (w ≡ link_word o i)) Range cause
    (is_pair (parts 58 w)) (link_reads w)

-- ---- bytes and texts

-- a reading that can only answer Token refuses just what it does not take
pub token_alone : {A : Type 0} (r : Result A Cause) (cause : Cause) (taken : Type 0) → ((x : A) → r ≡ Ok x → taken)
    → (taken → (x : A) × (r ≡ Ok x)) → ((e : Cause) → r ≡ Err e → e ≡ Token)
    → ((r ≡ Err cause) → (taken → ⊥) × (cause ≡ Token)) × ((taken → ⊥) × (cause ≡ Token) → (r ≡ Err cause))
token_alone (Ok x) cause taken takes again only =
    ((λ h. cc h), (λ h. absurd (h.0 (takes x refl))))
token_alone (Err e) cause taken takes again only = (
  (λ h. ((λ t. let k = again t in let no = k.1 in cc no), only cause h)),
  (λ h. ap (λ x. refused x) (only e refl ∙ sym h.1)),
)

or_token_err : (o : Option (List ℕ)) (e : Cause) → or_token o ≡ Err e → e ≡ Token
or_token_err None e h = sym (same_cause {A = List ℕ} Token e h)
or_token_err (Some bs) e h = cc

pub bytes_err : (w : List ℕ) (e : Cause) → bytes_of w ≡ Err e → e ≡ Token
bytes_err w e h = by _ h
  where
    by : (b : Bool) → cond b (Ok []) (or_token (pairs w)) ≡ Err e → e ≡ Token
    by true k = cc
    by false k = or_token_err (pairs w) e k

pub bytes_hex : BytesAreHex
bytes_hex w cause =
    token_alone (bytes_of w) cause ((bs : List ℕ) × IsHex w bs) (λ bs h. (bs, (hex_law w bs).0 h))
    (λ h. (h.0, (hex_law w h.0).1 h.1)) (bytes_err w)

utf8_err : (o : Option (List ℕ)) (e : Cause) → utf8_or_token o ≡ Err e → e ≡ Token
utf8_err None e h = sym (same_cause {A = List ℕ} Token e h)
utf8_err (Some t) e h = by _ h
  where
    by : (b : Bool) → cond b (Ok t) (Err Token) ≡ Err e → e ≡ Token
    by true k = cc
    by false k = sym (same_cause {A = List ℕ} Token e k)

text_err : (w : List ℕ) (e : Cause) → text_of w ≡ Err e → e ≡ Token
text_err [] e h = sym (same_cause {A = List ℕ} Token e h)
text_err (b ∷ bs) e h = by _ h
  where
    by : (q : Bool) → cond q (utf8_or_token (unquoted_bytes bs)) (Err Token) ≡ Err e → e ≡ Token
    by true k = utf8_err (unquoted_bytes bs) e k
    by false k = sym (same_cause {A = List ℕ} Token e k)

pub texts_quoted : TextsAreQuoted
texts_quoted w cause =
    token_alone (text_of w) cause ((t : List ℕ) × IsQuoted w t) (λ t h. (t, (quoted_law w t).0 h))
    (λ h. (h.0, (quoted_law w h.0).1 h.1)) (text_err w)
