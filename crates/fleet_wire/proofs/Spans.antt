-- A list of spans, read part by part.
use Rattle.std.proofs.Common.{◌≡◌, ℕ, ◌+◌, ◌<◌, ◌≤◌, false, List, [], ◌∷◌, ◌++◌, length, take, drop}
use Rattle.std.proofs.Common.{None, Some, Result, Ok, Err, refl, sym, ap, subst, ◌∙◌, append_assoc, arith, ltb}
use Rattle.std.proofs.Common.{◌⊎◌, inl, inr, MatchResult}
use Rattle.fleet_wire.specs.declared.reading.ChoiceFault.TheVariants.{Memory}
use Rattle.std.specs.List.{position, position_or_len, slice_split}
use Rattle.std.proofs.lemmas.Bool.Decides.{nat_tests}
use Rattle.std.proofs.lemmas.List.Splits.{slice_split_first, slice_split_none}
use Rattle.std.proofs.lemmas.List.Sums.{fails_before_first}
use Rattle.std.proofs.lemmas.Option.{cond_some}
use Rattle.lemmas.proofs.Options.{no_choice}
use Rattle.fleet_wire.specs.declared.choice.Span.{Span}
use Rattle.fleet_wire.specs.declared.reading.ChoiceFault.{ChoiceFault}
use Rattle.fleet_wire.specs.Reading.{and_rest, before_all, is_comma, next_span, spans_from, IsWithLast}

-- those, and then these
abbrev pub after_all : List Span → Result (List Span) ChoiceFault → Result (List Span) ChoiceFault
after_all before (Ok spans) = Ok (before ++ spans)
after_all before (Err fault) = Err fault

pub split_on : (xs : List ℕ) (i : ℕ) → position is_comma xs ≡ Some i
    → slice_split is_comma xs ≡ take i xs ∷ slice_split is_comma (drop (i + 1) xs)
split_on xs i h =
    let parts = cond_some (ltb (position_or_len is_comma xs) (length xs)) (position_or_len is_comma xs) i h in
    let test = parts.0 in
    let within : position_or_len is_comma xs < length xs = grind (arith, nat_tests) in
    subst (λ n. slice_split is_comma xs ≡ take n xs ∷ slice_split is_comma (drop (n + 1) xs)) parts.1
    (slice_split_first is_comma xs 0 within)

pub split_off : (xs : List ℕ) → position is_comma xs ≡ None → slice_split is_comma xs ≡ xs ∷ []
split_off xs h =
    let test : ltb (position_or_len is_comma xs) (length xs) ≡ false = no_choice _ (position_or_len is_comma xs) h in
    let all : length xs ≤ position_or_len is_comma xs = grind (arith, nat_tests) in
    slice_split_none is_comma xs (λ k d b. fails_before_first is_comma xs k d (omega (arith, all, b)))

pub after_one : (before : List Span) (span : Span) (r : Result (List Span) ChoiceFault)
    → after_all (before ++ span ∷ []) r ≡ after_all before (before_all span r)
after_one before span (Ok spans) = ap (λ t. Ok t) (append_assoc before (span ∷ []) spans)
after_one before span (Err fault) = refl

-- one part has been read
pub one_read : (before : List Span) (span : Span) (xs : List ℕ) (i last : ℕ) (said : Result (List Span) ChoiceFault)
    → position is_comma xs ≡ Some i → next_span last (take i xs) ≡ Ok span
    → after_all before (spans_from (slice_split is_comma xs) last) ≡ said
    → after_all (before ++ span ∷ []) (spans_from (slice_split is_comma (drop (i + 1) xs)) span.to) ≡ said
one_read before span xs i last said at read h =
    after_one before span (spans_from (slice_split is_comma (drop (i + 1) xs)) span.to)
    ∙ ap (λ r. after_all before (and_rest r (spans_from (slice_split is_comma (drop (i + 1) xs))))) (sym read)
    ∙ ap (λ parts. after_all before (spans_from parts last)) (sym (split_on xs i at)) ∙ h

-- a part that is refused
pub one_refused : (before : List Span) (xs : List ℕ) (i last : ℕ) (said : Result (List Span) ChoiceFault)
    (fault : ChoiceFault) → position is_comma xs ≡ Some i → next_span last (take i xs) ≡ Err fault
    → after_all before (spans_from (slice_split is_comma xs) last) ≡ said → said ≡ Err fault
one_refused before xs i last said fault at read h =
    sym h ∙ ap (λ parts. after_all before (spans_from parts last)) (split_on xs i at)
    ∙ ap (λ r. after_all before (and_rest r (spans_from (slice_split is_comma (drop (i + 1) xs))))) read

pub last_read : (before all : List Span) (xs : List ℕ) (last : ℕ) (said : Result (List Span) ChoiceFault)
    → position is_comma xs ≡ None → IsWithLast before (next_span last xs) all
    → after_all before (spans_from (slice_split is_comma xs) last) ≡ said → said ≡ Ok all
last_read before all xs last said at read h =
    sym h ∙ ap (λ parts. after_all before (spans_from parts last)) (split_off xs at) ∙ ended (next_span last xs) read
  where
    ended : (r : Result Span ChoiceFault) → IsWithLast before r all
        → after_all before (and_rest r (spans_from [])) ≡ Ok all
    ended (Ok span) e = ap (λ t. Ok t) (sym e)
    ended (Err fault) e = absurd e

pub last_refused : (before : List Span) (xs : List ℕ) (last : ℕ) (said : Result (List Span) ChoiceFault)
    (fault : ChoiceFault) → position is_comma xs ≡ None → next_span last xs ≡ Err fault
    → after_all before (spans_from (slice_split is_comma xs) last) ≡ said → said ≡ Err fault
last_refused before xs last said fault at read h =
    sym h ∙ ap (λ parts. after_all before (spans_from parts last)) (split_off xs at)
    ∙ ap (λ r. after_all before (and_rest r (spans_from []))) read

-- what comes of the last part
pub all_read : {V : Type 0} (r : Result V ChoiceFault) (items : V → List Span) (before : List Span) (xs : List ℕ)
    (last : ℕ) (said : Result (List Span) ChoiceFault) → position is_comma xs ≡ None
    → after_all before (spans_from (slice_split is_comma xs) last) ≡ said
    → MatchResult r (λ v. IsWithLast before (next_span last xs) (items v))
    (λ fault. (fault ≡ Memory) ⊎ (next_span last xs ≡ Err fault))
    → MatchResult r (λ v. said ≡ Ok (items v)) (λ fault. (fault ≡ Memory) ⊎ (said ≡ Err fault))
all_read (Ok v) items before xs last said at h read = last_read before (items v) xs last said at read h
all_read (Err fault) items before xs last said at h read = ended read
  where
    ended : (fault ≡ Memory) ⊎ (next_span last xs ≡ Err fault) → (fault ≡ Memory) ⊎ (said ≡ Err fault)
    ended (inl memory) = inl memory
    ended (inr refused) = inr (last_refused before xs last said fault at refused h)
