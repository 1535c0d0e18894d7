-- Queries from the left: those that spell changes, and then the first that spells none.
use Rattle.std.proofs.Common.{◌≡◌, ℕ, ◌+◌, List, [], ◌∷◌, ◌++◌, Result, Ok, Err, refl}
use Rattle.std.proofs.Common.{sym, ap, ◌∙◌, ◌-◌, ◌≤◌, length, take, drop, get_or, arith, length-append, append_assoc}
use Rattle.std.proofs.Common.{subst}
use Rattle.std.proofs.lemmas.Bool.{eq-eqb}
use Rattle.std.proofs.lemmas.List.{append-nil}
use Rattle.std.proofs.Math.Seq.{take-length}
use Rattle.coap_codec.specs.declared.option.Opt.{Opt}
use Rattle.notifier.specs.Query.{changes_of, reading_of}
use Rattle.notifier.specs.declared.attribute.Change.{Change}
use Rattle.notifier.specs.declared.attribute.Level.{Level}
use Rattle.notifier.specs.declared.fault.QueryFault.{QueryFault}
use Rattle.notifier.proofs.QueryLaws.{after_first}
use Rattle.device_requests.specs.Options.{queries_of}
use Rattle.device_requests.proofs.Queries.{taken}
use Rattle.request_reasons.specs.Unfit.{IsBadQuery}

-- the queries that were read, with the changes that they spell and their count; and those that are left
pub record IsRead (level : Level) (all left : List (List ℕ)) (changes : List Change) (count : ℕ) : Type 0 where
  pub before : List (List ℕ)
  pub split : all ≡ before ++ left
  pub spelled : (qs : List (List ℕ)) → changes_of [] level (before ++ qs) ≡ changes_of changes level qs
  pub counted : count ≡ length before

pub none_read : (level : Level) (all : List (List ℕ)) → IsRead level all all [] 0
none_read level all = record { before = []; split = refl; spelled = λ qs. refl; counted = refl }

-- one more that spells a change
pub one_read : (level : Level) (all left : List (List ℕ)) (q : List ℕ) (changes more : List Change) (count : ℕ)
    → IsRead level all (q ∷ left) changes count → changes_of changes level (q ∷ []) ≡ Ok more
    → IsRead level all left more (count + 1)
one_read level all left q changes more count read h =
    record {
      before = read.before ++ q ∷ [];
      split = read.split ∙ sym (append_assoc read.before (q ∷ []) left);
      spelled = λ qs. ap (changes_of [] level) (append_assoc read.before (q ∷ []) qs) ∙ read.spelled (q ∷ qs)
          ∙ after_first changes more level q qs h;
      counted = let sum = length-append read.before (q ∷ []) in omega (arith, sum, read.counted);
    }

refusal : (changes : List Change) (level : Level) (q : List ℕ) (why : QueryFault)
    → changes_of changes level (q ∷ []) ≡ Err why → reading_of changes level q ≡ Err why
refusal changes level q why h =
    elim (reading_of changes level q) as (λ r.
    (elim r as (λ _. Result (List Change) QueryFault) [ Ok x ↦ Ok (changes ++ x ∷ []) | Err e ↦ Err e ]) ≡ Err why
    → r ≡ Err why) [
      | Ok x ↦ λ k. cc
      | Err e ↦ λ k. let same : e ≡ why = cc in ap Err same
    ] h

-- one that spells none
pub bad_query : (level : Level) (all left : List (List ℕ)) (q : List ℕ) (changes : List Change) (count : ℕ)
    (why : QueryFault) → IsRead level all (q ∷ left) changes count → changes_of changes level (q ∷ []) ≡ Err why
    → IsBadQuery level all (count + 1) q why
bad_query level all left q changes count why read h =
    record {
      before = read.before;
      after = left;
      changes = changes;
      split = read.split;
      placed = ap (λ n. n + 1) read.counted;
      spelled = ap (changes_of [] level) (sym (append-nil read.before)) ∙ read.spelled [];
      refused = refusal changes level q why h;
    }

-- all of them
pub all_read : (level : Level) (all : List (List ℕ)) (changes : List Change) (count : ℕ)
    → IsRead level all [] changes count → changes_of [] level all ≡ Ok changes
all_read level all changes count read = ap (changes_of [] level) read.split ∙ read.spelled []

-- options as the first of them and the others
pub first_and_others : (rest : List Opt) (o : Opt) → 1 ≤ length rest → o ≡ get_or rest 0 o
    → rest ≡ o ∷ take (length rest - 1) (drop 1 rest)
first_and_others [] o h e = absurd (omega (arith, h))
first_and_others (x ∷ xs) o h e =
    let fewer : length (x ∷ xs) - 1 ≡ length xs = omega arith in
    ap (λ y. y ∷ xs) (sym e) ∙ ap (λ ys. o ∷ ys) (sym (take-length xs) ∙ ap (λ n. take n xs) (sym fewer))

-- the first of them is a query, or is none
pub begins_with_query : (rest : List Opt) (o : Opt) (q : List ℕ) → 1 ≤ length rest → o ≡ get_or rest 0 o
    → o.number ≡ 15 → q ≡ o.value → queries_of rest ≡ q ∷ queries_of (take (length rest - 1) (drop 1 rest))
begins_with_query rest o q h e n v =
    let others = take (length rest - 1) (drop 1 rest) in
    ap queries_of (first_and_others rest o h e) ∙ taken o others (eq-eqb o.number 15 n)
    ∙ ap (λ x. x ∷ queries_of others) (sym v)

-- options that begin with a query that spells a change
pub rest_read : (level : Level) (all : List (List ℕ)) (rest : List Opt) (o : Opt) (q : List ℕ)
    (changes more : List Change) (count : ℕ) → IsRead level all (queries_of rest) changes count → 1 ≤ length rest
    → o ≡ get_or rest 0 o → o.number ≡ 15 → q ≡ o.value → changes_of changes level (q ∷ []) ≡ Ok more
    → IsRead level all (queries_of (take (length rest - 1) (drop 1 rest))) more (count + 1)
rest_read level all rest o q changes more count read h e n v is =
    one_read level all (queries_of (take (length rest - 1) (drop 1 rest))) q changes more count
    (subst (λ left. IsRead level all left changes count) (begins_with_query rest o q h e n v) read) is

-- or with one that spells none
pub rest_bad : (level : Level) (all : List (List ℕ)) (rest : List Opt) (o : Opt) (q : List ℕ) (changes : List Change)
    (count : ℕ) (why : QueryFault) → IsRead level all (queries_of rest) changes count → 1 ≤ length rest
    → o ≡ get_or rest 0 o → o.number ≡ 15 → q ≡ o.value → changes_of changes level (q ∷ []) ≡ Err why
    → IsBadQuery level all (count + 1) q why
rest_bad level all rest o q changes count why read h e n v is =
    bad_query level all (queries_of (take (length rest - 1) (drop 1 rest))) q changes count why
    (subst (λ left. IsRead level all left changes count) (begins_with_query rest o q h e n v) read) is
