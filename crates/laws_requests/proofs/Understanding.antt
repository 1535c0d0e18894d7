-- Which options must be understood.
use Rattle.std.proofs.Common.{◌≡◌, ◌≢◌, ◌⊎◌, inl, inr, ℕ, ◌+◌, ◌%◌, ◌<◌, ◌≤◌, ◌==◌, Bool, true, false, cond, not}
use Rattle.std.proofs.Common.{◌&&◌, ◌||◌, nat_le, nat_lt, List, [], ◌∷◌, ◌++◌, length}
use Rattle.std.proofs.Common.{refl, sym, ap, subst, ◌∙◌, arith}
use Rattle.std.specs.List.{count_by, list_any}
use Rattle.std.proofs.lemmas.Bool.{le-leb, eqb-true, and_parts, and_from, false_from_ne_true, both_ways, or_cases}
use Rattle.std.proofs.lemmas.Bool.Decides.{nat_tests}
use Rattle.std.proofs.lemmas.List.Sums.{sum_by-cons}
use Rattle.std.proofs.lemmas.Bool.{or_left, leb-true}
use Rattle.lemmas.proofs.Numbers.{eqb_itself}
use Rattle.coap_codec.specs.declared.option.Opt.{Opt}
use Rattle.device_requests.specs.Laws.{IsAmong}
use Rattle.device_requests.specs.Options.{has_known_form, has_unknown_critical}
use Rattle.device_requests.specs.Options.{has_unrecognized_critical, is_critical, known_options}
use Rattle.device_requests.specs.Options.{repeats}
use Rattle.device_requests.proofs.Among.{any_found, among-any}
use Rattle.laws_requests.specs.Understood.{CriticalIsUnderstood, HasNo}
use Rattle.laws_requests.specs.Understood.{IsRecognized, IsUnderstood}
use Rattle.laws_requests.specs.Understood.{accept, content_format}
use Rattle.laws_requests.specs.Understood.{observe}
use Rattle.laws_requests.specs.Understood.{uri_host, uri_path, uri_port, uri_query}

-- ---- the table of recognized options

-- a line of the table applies
abbrev fits : ℕ → ℕ → ℕ → ℕ → ℕ → Bool
fits k least most n size = k == n && (nat_le least size && nat_le size most)

record Fits (k least most n size : ℕ) : Type 0 where
  same : k ≡ n
  low : least ≤ size
  high : size ≤ most

is_fit : (k least most n size : ℕ) → fits k least most n size ≡ true → Fits k least most n size
is_fit k least most n size h =
    let b = and_parts (k == n) (nat_le least size && nat_le size most) h in
    let c = and_parts (nat_le least size) (nat_le size most) b.1 in
    record { same = eqb-true k n b.0; low = leb-true least size c.0; high = leb-true size most c.1 }

within : (least most size : ℕ) → least ≤ size → size ≤ most → (nat_le least size && nat_le size most) ≡ true
within least most size h k = and_from (nat_le least size) (nat_le size most) (le-leb least size h) (le-leb size most k)

abbrev form : ℕ → ℕ → Bool
form n size = list_any (λ k. k.number == n && (nat_le k.least size && nat_le size k.most)) known_options

form_means : (n size : ℕ) → form n size ≡ true → IsRecognized n size
form_means n size h =
    let to = λ (k : ℕ) (is : k ≡ n) (r : IsRecognized k size). subst (λ (m : ℕ). IsRecognized m size) is r in
    elim (or_cases (fits 3 1 255 n size) _ h) [
      | inl f ↦ let g = is_fit 3 1 255 n size f in to 3 g.same (uri_host size g.low g.high)
      | inr h ↦ elim (or_cases (fits 6 0 3 n size) _ h) [
        | inl f ↦ let g = is_fit 6 0 3 n size f in to 6 g.same (observe size g.high)
        | inr h ↦ elim (or_cases (fits 7 0 2 n size) _ h) [
          | inl f ↦ let g = is_fit 7 0 2 n size f in to 7 g.same (uri_port size g.high)
          | inr h ↦ elim (or_cases (fits 11 0 255 n size) _ h) [
            | inl f ↦ let g = is_fit 11 0 255 n size f in to 11 g.same (uri_path size g.high)
            | inr h ↦ elim (or_cases (fits 12 0 2 n size) _ h) [
              | inl f ↦ let g = is_fit 12 0 2 n size f in to 12 g.same (content_format size g.high)
              | inr h ↦ elim (or_cases (fits 15 0 255 n size) _ h) [
                | inl f ↦ let g = is_fit 15 0 255 n size f in to 15 g.same (uri_query size g.high)
                | inr h ↦ elim (or_cases (fits 17 0 2 n size) false h) [
                  | inl f ↦ let g = is_fit 17 0 2 n size f in to 17 g.same (accept size g.high)
                  | inr h ↦ cc
                ]
              ]
            ]
          ]
        ]
      ]
    ]

from_zero : (most size : ℕ) → size ≤ most → (nat_le 0 size && nat_le size most) ≡ true
from_zero most size h = within 0 most size (omega arith) h

means_form : (n size : ℕ) → IsRecognized n size → form n size ≡ true
means_form n size (uri_host _ l h) = or_left _ _ (within 1 255 size l h)
means_form n size (observe _ h) = or_left _ _ (from_zero 3 size h)
means_form n size (uri_port _ h) = or_left _ _ (from_zero 2 size h)
means_form n size (uri_path _ h) = or_left _ _ (from_zero 255 size h)
means_form n size (content_format _ h) = or_left _ _ (from_zero 2 size h)
means_form n size (uri_query _ h) = or_left _ _ (from_zero 255 size h)
means_form n size (accept _ h) = or_left _ _ (from_zero 2 size h)

-- ---- options before and after

split_of : (o : Opt) (os : List Opt) → IsAmong o os → (before : List Opt) × (after : List Opt)
    × (os ≡ before ++ o ∷ after)
split_of o [] h = absurd h
split_of o (p ∷ ps) (inl is) = ([], ps, λ j. is j ∷ ps)
split_of o (p ∷ ps) (inr h) = let s = split_of o ps h in (p ∷ s.0, s.1, ap (λ (t : List Opt). p ∷ t) s.2)

among_split : (o : Opt) (before after : List Opt) → IsAmong o (before ++ o ∷ after)
among_split o [] after = inl refl
among_split o (p ∷ before) after = inr (among_split o before after)

-- how often a number stands there
abbrev pub count : ℕ → List Opt → ℕ
count n os = count_by (λ o. o.number == n) os

pub count_more : (n : ℕ) (o : Opt) (os : List Opt) → count n (o ∷ os) ≡ cond (o.number == n) 1 0 + count n os
count_more n o os = sum_by-cons (λ (x : Opt). cond (x.number == n) 1 0) o os

some_counted : (n : ℕ) (os : List Opt) → 0 < count n os → (o : Opt) × IsAmong o os × (o.number ≡ n)
some_counted n [] h = absurd (omega arith)
some_counted n (o ∷ os) h =
    elim (o.number == n) as (λ b. (o.number == n) ≡ b → 0 < cond b 1 0 + count n os
    → (p : Opt) × IsAmong p (o ∷ os) × (p.number ≡ n)) [
      | true ↦ λ is k. (o, inl refl, eqb-true o.number n is)
      | false ↦ λ is k.
          let l : 0 < count n os = omega arith in
          let r = some_counted n os l in (r.0, inr r.1, r.2)
    ] refl (subst (λ (c : ℕ). 0 < c) (count_more n o os) h)

-- an option that stands there again
record StandsAgain (n : ℕ) (os : List Opt) : Type 0 where
  before : List Opt
  again : Opt
  after : List Opt
  splits : os ≡ before ++ again ∷ after
  number : again.number ≡ n
  first : Opt
  first_before : IsAmong first before
  first_number : first.number ≡ n

twice : (n : ℕ) (os : List Opt) → 1 < count n os → StandsAgain n os
twice n [] h = absurd (omega arith)
twice n (o ∷ os) h =
    elim (o.number == n) as (λ b. (o.number == n) ≡ b → 1 < cond b 1 0 + count n os → StandsAgain n (o ∷ os)) [
      | true ↦ λ is k.
          let l : 0 < count n os = omega arith in
          let r = some_counted n os l in
          let s = split_of r.0 os r.1 in
          record {
            before = o ∷ s.0;
            again = r.0;
            after = s.1;
            splits = ap (λ (t : List Opt). o ∷ t) s.2;
            number = r.2;
            first = o;
            first_before = inl refl;
            first_number = eqb-true o.number n is;
          }
      | false ↦ λ is k.
          let l : 1 < count n os = omega arith in
          let r = twice n os l in
          record {
            before = o ∷ r.before;
            again = r.again;
            after = r.after;
            splits = ap (λ (t : List Opt). o ∷ t) r.splits;
            number = r.number;
            first = r.first;
            first_before = inr r.first_before;
            first_number = r.first_number;
          }
    ] refl (subst (λ (c : ℕ). 1 < c) (count_more n o os) h)

counted_among : (n : ℕ) (os : List Opt) (o : Opt) → IsAmong o os → o.number ≡ n → 0 < count n os
counted_among n [] o h is = absurd h
counted_among n (p ∷ os) o (inl same) is =
    let l : (p.number == n) ≡ true = ap (λ (k : ℕ). k == n) (ap (λ (x : Opt). x.number) same ∙ is) ∙ eqb_itself n in
    let m : 0 < cond true 1 0 + count n os = omega arith in
    subst (λ (c : ℕ). 0 < c) (sym (count_more n p os))
    (subst (λ (b : Bool). 0 < cond b 1 0 + count n os) (sym l) m)
counted_among n (p ∷ os) o (inr h) is =
    let l : 0 < count n os = counted_among n os o h is in
    let e = count_more n p os in omega arith

one_more : (n : ℕ) (before after : List Opt) (o : Opt) → o.number ≡ n
    → count n before < count n (before ++ o ∷ after)
one_more n [] after o is = counted_among n (o ∷ after) o (inl refl) is
one_more n (p ∷ before) after o is =
    let l : count n before < count n (before ++ o ∷ after) = one_more n before after o is in
    let d = count_more n p before in
    let e = count_more n p (before ++ o ∷ after) in omega arith

pub more_than_one : (c : ℕ) → 1 < c → nat_lt 1 c ≡ true
more_than_one c h = grind (arith, nat_tests)

pub is_more : (c : ℕ) → nat_lt 1 c ≡ true → 1 < c
is_more c h = grind (arith, nat_tests)

alone_before : (n : ℕ) (os before after : List Opt) (o : Opt) → repeats n os ≡ false → os ≡ before ++ o ∷ after
    → o.number ≡ n → HasNo n before
alone_before n os before after o h splits is p among same =
    let l : 0 < count n before = counted_among n before p among same in
    let m : count n before < count n (before ++ o ∷ after) = one_more n before after o is in
    let k : 1 < count n (before ++ o ∷ after) = omega arith in
    both_ways (repeats n os) h (ap (repeats n) splits ∙ more_than_one (count n (before ++ o ∷ after)) k)

-- ---- what must be understood

-- none of the four tests refuses the options
pub record PassesAll (os : List Opt) : Type 0 where
  pub known : has_unknown_critical os ≡ false
  pub host : repeats 3 os ≡ false
  pub port : repeats 7 os ≡ false
  pub format : repeats 17 os ≡ false

none_of : (a b c d : Bool) → (((a || b) || c) || d) ≡ false
    → (a ≡ false) × (b ≡ false) × (c ≡ false) × (d ≡ false)
none_of false false false false h = (refl, refl, refl, refl)
none_of false false false true h = cc
none_of false false true d h = cc
none_of false true c d h = cc
none_of true b c d h = cc

pub of_none : (a b c d : Bool) → a ≡ false → b ≡ false → c ≡ false → d ≡ false → (((a || b) || c) || d) ≡ false
of_none false false false false h k l m = refl
of_none true b c d h k l m = cc
of_none false true c d h k l m = cc
of_none false false true d h k l m = cc
of_none false false false true h k l m = cc

pub passes : (os : List Opt) → has_unrecognized_critical os ≡ false → PassesAll os
passes os h =
    let n = none_of (has_unknown_critical os) (repeats 3 os) (repeats 7 os) (repeats 17 os) h in
    record { known = n.0; host = n.1; port = n.2; format = n.3 }

known_then : (a b : Bool) → (a && not b) ≡ false → a ≡ true → b ≡ true
known_then true true h k = refl
known_then true false h k = cc
known_then false b h k = cc

-- a recognized option with an odd number stands once, or may stand more than once
once_or_more : (os : List Opt) (n size : ℕ) → PassesAll os → IsRecognized n size → n % 2 ≡ 1
    → (n ≡ 11) ⊎ ((n ≡ 15) ⊎ (repeats n os ≡ false))
once_or_more os n size p (uri_host _ l h) odd = inr (inr p.host)
once_or_more os n size p (observe _ h) odd = cc
once_or_more os n size p (uri_port _ h) odd = inr (inr p.port)
once_or_more os n size p (uri_path _ h) odd = inl refl
once_or_more os n size p (content_format _ h) odd = cc
once_or_more os n size p (uri_query _ h) odd = inr (inl refl)
once_or_more os n size p (accept _ h) odd = inr (inr p.format)

understood : (os : List Opt) → has_unrecognized_critical os ≡ false → (before after : List Opt) (o : Opt)
    → os ≡ before ++ o ∷ after → o.number % 2 ≡ 1 → IsUnderstood before o
understood os h before after o splits odd =
    let p = passes os h in
    let among : IsAmong o os = subst (IsAmong o) (sym splits) (among_split o before after) in
    let test = λ (x : Opt). is_critical x && not (has_known_form x) in
    let critical : is_critical o ≡ true = ap (λ (k : ℕ). k == 1) odd in
    let off : test o ≡ false =
    false_from_ne_true (test o) (λ k. both_ways (list_any test os) p.known (among-any test o os among k)) in
    let r = form_means o.number (length o.value) (known_then (is_critical o) (has_known_form o) off critical) in
    record {
      recognized = r;
      once = elim (once_or_more os o.number (length o.value) p r odd) [
        | inl is ↦ inl is
        | inr k ↦ elim k [
          | inl is ↦ inr (inl is)
          | inr alone ↦ inr (inr (alone_before o.number os before after o alone splits refl))
        ]
      ];
    }

-- all that is odd is understood
abbrev AllUnderstood : List Opt → Type 0
AllUnderstood os =
    (before after : List Opt) (o : Opt) → os ≡ before ++ o ∷ after → o.number % 2 ≡ 1 → IsUnderstood before o

is_odd : (o : Opt) (b : Bool) → (is_critical o && b) ≡ true → (o.number % 2 ≡ 1) × (b ≡ true)
is_odd o b h =
    let k = and_parts (is_critical o) b h in (eqb-true (o.number % 2) 1 k.0, k.1)

all_known : (os : List Opt) → AllUnderstood os → has_unknown_critical os ≡ false
all_known os all =
    let test = λ (x : Opt). is_critical x && not (has_known_form x) in
    false_from_ne_true (list_any test os) (λ k.
    let f = any_found test os k in
    let s = split_of f.0 os f.1 in
    let odd = is_odd f.0 (not (has_known_form f.0)) f.2 in
    let u = all s.0 s.1 f.0 s.2 odd.0 in
    both_ways (not (has_known_form f.0)) (ap not (means_form f.0.number (length f.0.value) u.recognized)) odd.1)

never_again : (os : List Opt) (n : ℕ) → AllUnderstood os → n % 2 ≡ 1 → n ≢ 11 → n ≢ 15 → repeats n os ≡ false
never_again os n all odd path query =
    false_from_ne_true (repeats n os) (λ k.
    let t = twice n os (is_more (count n os) k) in
    let u = all t.before t.after t.again t.splits (ap (λ (m : ℕ). m % 2) t.number ∙ odd) in
    elim u.once [
      | inl is ↦ path (sym t.number ∙ is)
      | inr h ↦ elim h [
        | inl is ↦ query (sym t.number ∙ is)
        | inr none ↦ none t.first t.first_before (t.first_number ∙ sym t.number)
      ]
    ])

pub critical_understood : CriticalIsUnderstood
critical_understood os = (
  understood os,
  λ all.
      of_none (has_unknown_critical os) (repeats 3 os) (repeats 7 os) (repeats 17 os) (all_known os all)
      (never_again os 3 all refl (λ e. cc) (λ e. cc)) (never_again os 7 all refl (λ e. cc) (λ e. cc))
      (never_again os 17 all refl (λ e. cc) (λ e. cc)),
)
