-- The changes of queries, one option after another.
use Rattle.std.proofs.Common.{◌≡◌, ℕ, ◌+◌, ◌<◌, ◌==◌, Bool, true, false, List, [], ◌∷◌, None, Some, Result, Ok, Err}
use Rattle.std.proofs.Common.{length, drop, get_or, refl, sym, ap, ◌∙◌, ◌⊎◌, inl, inr, IsOk, subst, ◌≢◌}
use Rattle.std.proofs.lemmas.List.{drop_more}
use Rattle.coap_codec.specs.declared.option.Opt.{Opt}
use Rattle.notifier.specs.declared.attribute.Change.{Change}
use Rattle.notifier.specs.declared.attribute.Level.{Level}
use Rattle.notifier.specs.declared.fault.QueryFault.{QueryFault}
use Rattle.notifier.specs.Query.{BeginsWithChange, changes_of, reading_of}
use Rattle.notifier.proofs.QueryLaws.{after_first, fault_first, one_spelled}
use Rattle.device_requests.specs.WriteAttributes.{changes_or_none}
use Rattle.device_requests.specs.Options.{queries_of}

-- an option that is no query, and one that is
pub skipped : (o : Opt) (os : List Opt) → (o.number == 15) ≡ false → queries_of (o ∷ os) ≡ queries_of os
skipped o os e = rw e refl

pub taken : (o : Opt) (os : List Opt) → (o.number == 15) ≡ true → queries_of (o ∷ os) ≡ o.value ∷ queries_of os
taken o os e = rw e refl

spelled_some : (r : Result (List Change) QueryFault) (c : List Change) → changes_or_none r ≡ Some c → r ≡ Ok c
spelled_some (Ok x) c h = let same : x ≡ c = cc in ap Ok same
spelled_some (Err e) c h = cc

spelled_none : (r : Result (List Change) QueryFault) → changes_or_none r ≡ None → (e : QueryFault) × (r ≡ Err e)
spelled_none (Ok x) h = cc
spelled_none (Err e) h = (e, refl)

-- where the first option spells no fault, the others follow it
next_of : (before c : List Change) (level : Level) (o : Opt) (os : List Opt) (b : Bool) → (o.number == 15) ≡ b
    → changes_or_none (changes_of before level (queries_of (o ∷ []))) ≡ Some c → changes_of c level (queries_of os)
    ≡ changes_of before level (queries_of (o ∷ os))
next_of before c level o os true e h =
    let first : changes_of before level (o.value ∷ []) ≡ Ok c = spelled_some _ c (rw (taken o [] e) at h) in
    sym (after_first before c level o.value (queries_of os) first) ∙ ap (changes_of before level) (sym (taken o os e))
next_of before c level o os false e h =
    let same : before ≡ c = let k = rw (skipped o [] e) at h in cc in
    ap (λ cs. changes_of cs level (queries_of os)) (sym same) ∙ ap (changes_of before level) (sym (skipped o os e))

-- where it spells a fault, all do
fault_of : (before : List Change) (level : Level) (o : Opt) (os : List Opt) (b : Bool) → (o.number == 15) ≡ b
    → changes_or_none (changes_of before level (queries_of (o ∷ []))) ≡ None
    → changes_or_none (changes_of before level (queries_of (o ∷ os))) ≡ None
fault_of before level o os true e h =
    let first = spelled_none (changes_of before level (o.value ∷ [])) (rw (taken o [] e) at h) in
    ap (λ qs. changes_or_none (changes_of before level qs)) (taken o os e)
    ∙ ap changes_or_none (fault_first before level o.value (queries_of os) first.0 first.1)
fault_of before level o os false e h = let k = rw (skipped o [] e) at h in cc

-- the option at an index, and those after it
pub read_at : (before c : List Change) (level : Level) (options : List Opt) (i : ℕ) (o : Opt) → i < length options → o
    ≡ get_or options i o
    → changes_or_none (changes_of before level (queries_of (o ∷ []))) ≡ Some c
    → changes_of c level (queries_of (drop (i + 1) options)) ≡ changes_of before level (queries_of (drop i options))
read_at before c level options i o h e k =
    next_of before c level o (drop (i + 1) options) (o.number == 15) refl k
    ∙ ap (λ os. changes_of before level (queries_of os))
    (ap (λ x. x ∷ drop (i + 1) options) e ∙ sym (drop_more options i o h))

pub refused_at : (before : List Change) (level : Level) (options : List Opt) (i : ℕ) (o : Opt) → i < length options
    → o ≡ get_or options i o
    → changes_or_none (changes_of before level (queries_of (o ∷ []))) ≡ None
    → changes_or_none (changes_of before level (queries_of (drop i options))) ≡ None
refused_at before level options i o h e k =
    ap (λ os. changes_or_none (changes_of before level (queries_of os)))
    (drop_more options i o h ∙ ap (λ x. x ∷ drop (i + 1) options) (sym e))
    ∙ fault_of before level o (drop (i + 1) options) (o.number == 15) refl k

-- no query is read before these options are left of all, and no change; or the first of all spells a change
abbrev pub IsBegun : List Change → Level → List Opt → List Opt → Type 0
IsBegun changes level left all =
    ((changes ≡ []) × (queries_of left ≡ queries_of all)) ⊎ BeginsWithChange level (queries_of all)

-- the first query spells a change where the next one does
begins : (changes : List Change) (level : Level) (o : Opt) (left all : List Opt) → (o.number == 15) ≡ true
    → IsBegun changes level (o ∷ left) all → IsOk (reading_of changes level o.value)
    → BeginsWithChange level (queries_of all)
begins changes level o left all e (inr begun) spells = begun
begins changes level o left all e (inl none) spells =
    let first : IsOk (reading_of [] level o.value) = subst (λ cs. IsOk (reading_of cs level o.value)) none.0 spells in
    subst (BeginsWithChange level) (sym (taken o left e) ∙ none.1) first

begun_behind : (changes c : List Change) (level : Level) (o : Opt) (left all : List Opt) (b : Bool)
    → (o.number == 15) ≡ b → IsBegun changes level (o ∷ left) all
    → changes_or_none (changes_of changes level (queries_of (o ∷ []))) ≡ Some c → IsBegun c level left all
begun_behind changes c level o left all true e begun h =
    inr (begins changes level o left all e begun
    (one_spelled changes c level o.value (spelled_some _ c (rw (taken o [] e) at h))))
begun_behind changes c level o left all false e (inr begun) h = inr begun
begun_behind changes c level o left all false e (inl none) h =
    let same : c ≡ changes = let k = rw (skipped o [] e) at h in cc in
    inl (same ∙ none.0, sym (skipped o left e) ∙ none.1)

-- the options from an index on
from_index : (options : List Opt) (i : ℕ) (o : Opt) → i < length options → o ≡ get_or options i o
    → drop i options ≡ o ∷ drop (i + 1) options
from_index options i o h e = drop_more options i o h ∙ ap (λ x. x ∷ drop (i + 1) options) (sym e)

-- the option at an index is the first query, or one was read before
pub begins_at : (changes : List Change) (level : Level) (options : List Opt) (i : ℕ) (o : Opt) → i < length options
    → o ≡ get_or options i o → o.number ≡ 15 → IsBegun changes level (drop i options) options
    → IsOk (reading_of changes level o.value)
    → BeginsWithChange level (queries_of options)
begins_at changes level options i o h e query begun spells =
    begins changes level o (drop (i + 1) options) options (ap (λ n. n == 15) query)
    (subst (λ left. IsBegun changes level left options) (from_index options i o h e) begun) spells

pub begun_at : (changes c : List Change) (level : Level) (options : List Opt) (i : ℕ) (o : Opt) → i < length options
    → o ≡ get_or options i o → IsBegun changes level (drop i options) options
    → changes_or_none (changes_of changes level (queries_of (o ∷ []))) ≡ Some c
    → IsBegun c level (drop (i + 1) options) options
begun_at changes c level options i o h e begun k =
    begun_behind changes c level o (drop (i + 1) options) options (o.number == 15) refl
    (subst (λ left. IsBegun changes level left options) (from_index options i o h e) begun) k

-- where queries spell changes, the first does
pub first_begins : (level : Level) (queries : List (List ℕ)) (c : List Change)
    → changes_or_none (changes_of [] level queries) ≡ Some c → c ≢ [] → BeginsWithChange level queries
first_begins level [] c h some = let none : c ≡ [] = cc in some none
first_begins level (q ∷ qs) c h some =
    elim (reading_of [] level q) as (λ r.
    changes_or_none (elim r as (λ _. Result (List Change) QueryFault)
    [ Ok x ↦ changes_of (x ∷ []) level qs | Err e ↦ Err e ])
    ≡ Some c → IsOk r) [
      | Ok x ↦ λ k. refl
      | Err e ↦ λ k. cc
    ] h
