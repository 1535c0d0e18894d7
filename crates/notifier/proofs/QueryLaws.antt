-- Queries, read one after another.
use Rattle.std.proofs.Common.{◌≡◌, ◌≢◌, ℕ, Bool, true, false, if◌then◌else◌, Option, None, Some, List, [], ◌∷◌, ◌++◌}
use Rattle.std.proofs.Common.{Result, Ok, Err, map, drop, get_or, length, ◌+◌, ◌<◌, ℤ, sym, ap, ◌∙◌, add-one, drop-cons}
use Rattle.std.proofs.Common.{◌⊎◌, inl, inr, IsOk, arith, refl, subst}
use Rattle.std.specs.List.{list_any}
use Rattle.notifier.specs.declared.attribute.Change.{Change}
use Rattle.notifier.specs.declared.attribute.Level.{Level}
use Rattle.notifier.specs.declared.fault.QueryFault.{QueryFault}
use Rattle.notifier.specs.declared.attribute.Name.{Name}
use Rattle.notifier.specs.declared.fault.QueryFault.TheVariants as fault
use Rattle.notifier.specs.Query.{BeginsWithChange, reading_of, change_of, change_to, changes_of, is_of, name_of}
use Rattle.notifier.specs.Query.{name_part, number_part, stands_at, target_of}

-- where the first query spells a change, the others follow it
pub after_first : (before c : List Change) (level : Level) (q : List ℕ) (qs : List (List ℕ))
    → changes_of before level (q ∷ []) ≡ Ok c → changes_of before level (q ∷ qs) ≡ changes_of c level qs
after_first before c level q qs h =
    elim (reading_of before level q) as (λ r.
    (elim r as (λ _. Result (List Change) QueryFault) [ Ok x ↦ Ok (before ++ x ∷ []) | Err e ↦ Err e ]) ≡ Ok c
    → (elim r as (λ _. Result (List Change) QueryFault)
    [ Ok x ↦ changes_of (before ++ x ∷ []) level qs | Err e ↦ Err e ]) ≡ changes_of c level qs) [
      | Ok x ↦ λ k. let same : before ++ x ∷ [] ≡ c = cc in ap (λ b. changes_of b level qs) same
      | Err e ↦ λ k. cc
    ] h

-- where it has a fault, that is the fault
pub fault_first : (before : List Change) (level : Level) (q : List ℕ) (qs : List (List ℕ)) (e : QueryFault)
    → changes_of before level (q ∷ []) ≡ Err e → changes_of before level (q ∷ qs) ≡ Err e
fault_first before level q qs e h =
    elim (reading_of before level q) as (λ r.
    (elim r as (λ _. Result (List Change) QueryFault) [ Ok x ↦ Ok (before ++ x ∷ []) | Err f ↦ Err f ]) ≡ Err e
    → (elim r as (λ _. Result (List Change) QueryFault)
    [ Ok x ↦ changes_of (before ++ x ∷ []) level qs | Err f ↦ Err f ]) ≡ Err e) [
      | Ok x ↦ λ k. cc
      | Err f ↦ λ k. k
    ] h

-- the texts of queries from a place on, and the one at that place
module _ {X : Type 0} (text : X → List ℕ) where
  from_place : (qs : List X) (i : ℕ) (d : X) → i < length qs
      → map text (drop i qs) ≡ text (get_or qs i d) ∷ map text (drop (i + 1) qs)
  from_place qs i d h =
      ap (map text) (drop-cons qs i d h)
      ∙ ap (λ n. text (get_or qs i d) ∷ map text (drop n qs)) (sym (add-one i))

  -- one query more is read
  pub one_read : (before c : List Change) (level : Level) (qs : List X) (i : ℕ) (d : X)
      → i < length qs → changes_of before level (text (get_or qs i d) ∷ []) ≡ Ok c
      → changes_of c level (map text (drop (i + 1) qs)) ≡ changes_of before level (map text (drop i qs))
  one_read before c level qs i d inside h =
      sym (after_first before c level (text (get_or qs i d)) (map text (drop (i + 1) qs)) h)
      ∙ ap (changes_of before level) (sym (from_place qs i d inside))

  pub one_refused : (before : List Change) (level : Level) (qs : List X) (i : ℕ) (d : X) (e : QueryFault)
      → i < length qs → changes_of before level (text (get_or qs i d) ∷ []) ≡ Err e
      → changes_of before level (map text (drop i qs)) ≡ Err e
  one_refused before level qs i d e inside h =
      ap (changes_of before level) (from_place qs i d inside)
      ∙ fault_first before level (text (get_or qs i d)) (map text (drop (i + 1) qs)) e h

-- a query that is read spells a change
pub one_spelled : (before c : List Change) (level : Level) (q : List ℕ) → changes_of before level (q ∷ []) ≡ Ok c
    → IsOk (reading_of before level q)
one_spelled before c level q h =
    elim (reading_of before level q) as (λ r.
    (elim r as (λ _. Result (List Change) QueryFault) [ Ok x ↦ Ok (before ++ x ∷ []) | Err e ↦ Err e ]) ≡ Ok c
    → IsOk r) [
      | Ok x ↦ λ k. refl
      | Err e ↦ λ k. cc
    ] h

-- so where one does, the first does
pub first_spelled : {X : Type 0} (text : X → List ℕ) (level : Level) (qs : List X) (i : ℕ) (d : X)
    (before : List Change)
    → i < length qs → ((i ≡ 0) × (before ≡ [])) ⊎ BeginsWithChange level (map text qs)
    → IsOk (reading_of before level (text (get_or qs i d))) → BeginsWithChange level (map text qs)
first_spelled text level qs i d before inside (inr begun) spelled = begun
first_spelled text level [] i d before inside (inl none) spelled = omega arith
first_spelled text level (q ∷ qs) i d before inside (inl none) spelled =
    let first : IsOk (reading_of [] level (text (get_or (q ∷ qs) 0 d))) =
    subst (λ n. IsOk (reading_of [] level (text (get_or (q ∷ qs) n d)))) none.0
    (subst (λ b. IsOk (reading_of b level (text (get_or (q ∷ qs) i d)))) none.1 spelled)
    in
    first

pub first_read : {X : Type 0} (text : X → List ℕ) (level : Level) (qs : List X) (i : ℕ) (d : X)
    (before c : List Change)
    → i < length qs → ((i ≡ 0) × (before ≡ [])) ⊎ BeginsWithChange level (map text qs)
    → changes_of before level (text (get_or qs i d) ∷ []) ≡ Ok c → BeginsWithChange level (map text qs)
first_read text level qs i d before c inside begun h =
    first_spelled text level qs i d before inside begun (one_spelled before c level (text (get_or qs i d)) h)

-- ---- memory

neither : (b : Bool) (x y : Result Change QueryFault) → x ≢ Err fault.Memory → y ≢ Err fault.Memory
    → (if b then x else y) ≢ Err fault.Memory
neither true x y first second = first
neither false x y first second = second

plain_target : (level : Level) (n : Name) (target : Option (Option ℤ)) → change_to level n target ≢ Err fault.Memory
plain_target level n None = λ h. cc
plain_target level n (Some z) =
    neither (stands_at n level) (Ok (record { name = n; number = z })) (Err fault.Level) (λ h. cc) (λ h. cc)

plain_change : (before : List Change) (level : Level) (n : Option Name) (text : Option (List ℕ))
    → change_of before level n text ≢ Err fault.Memory
plain_change before level None text = λ h. cc
plain_change before level (Some n) text =
    neither (list_any (is_of n) before) (Err fault.Repeated) (change_to level n (target_of n text)) (λ h. cc)
    (plain_target level n (target_of n text))

-- a lack of memory is no fault of a query
pub reading_is_plain : (before : List Change) (level : Level) (q : List ℕ)
    → reading_of before level q ≢ Err fault.Memory
reading_is_plain before level q = plain_change before level (name_of (name_part q)) (number_part q)
