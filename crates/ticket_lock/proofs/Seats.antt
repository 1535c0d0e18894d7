-- What the clauses say of a pass's seat and of the value, from what the rule says of the pass.
use Rattle.std.proofs.Common.{◌≡◌, ℕ, zero, suc, ◌+◌, ◌<◌, true, Option, List, [], ◌∷◌, ◌++◌, map, take, drop}
use Rattle.std.proofs.Common.{refl, sym, ap, ◌∙◌, arith, min, ⊎_elim}
use mathlib.Core.List.{map-append}
use mathlib.Core.Logic.{dite}
use native.Mathlib.Decide.{ℕ_discrete}
use Rattle.atomic_table.specs.Table.{Me, Step, rest}
use Rattle.ticket_lock.specs.declared.rule.TheConstants.{LAST}
use Rattle.ticket_lock.specs.declared.logged.Share.{Share}
use Rattle.ticket_lock.specs.declared.rule.View.{View}
use Rattle.ticket_lock.specs.declared.rule.Stage.{Stage}
use Rattle.ticket_lock.specs.Log.{Reading, each_of, entries_of_worker, entries_of_workers, share, shares}
use Rattle.ticket_lock.specs.Lock.{IsAware, HasNumber, AreNeighbours}
use Rattle.ticket_lock.specs.Changes.{with_end_seen, with_stage, lower_part, upper_part, joined_view, Looked}
use Rattle.ticket_lock.specs.Names.{work_or, lowest_work, IsFaithful}
use Rattle.ticket_lock.proofs.Neighbours.{shares_below, shares_above}
use Rattle.ticket_lock.proofs.Logs.{map-each, parts, length-each, each_same, each-append, each_first, each_rest}
use Rattle.ticket_lock.proofs.Logs.{each_at}
use Rattle.ticket_lock.proofs.Aware.{own_of_front}

map-take_one : {X Y : Type 0} (f : X → Y) (xs : List X) → map f (take 1 xs) ≡ take 1 (map f xs)
map-take_one f [] = refl
map-take_one f (x ∷ xs) = refl

map-drop_one : {X Y : Type 0} (f : X → Y) (xs : List X) → map f (drop 1 xs) ≡ drop 1 (map f xs)
map-drop_one f [] = refl
map-drop_one f (x ∷ xs) = refl

-- a seat that holds a slot, by its first one
pub first_slot : {S V : Type 0} (cs : List (ℕ × S)) (n : Me S V) (k : ℕ) (x : S) (v : V) → n ≡ (v, (k, x) ∷ cs)
    → (y : S) × (n.1 ≡ (k, y) ∷ rest n.1)
first_slot {S} cs n k x v e = let now : n.1 ≡ (k, x) ∷ cs =
    ap (λ z. z.1) e in (x, now ∙ ap (λ (c : List (ℕ × S)). (k, x) ∷ rest c) (sym now))

module _ {T E S O : Type 0} (R : Reading T E S O) where
  -- a load changes nothing but whether the end was seen
  pub looked_view : (st : Step (Option T)) (m n : Me (Option T) (View T E S O)) (found : ℕ) → Looked R st m found n
      → n.0 ≡ record m.0 { end = n.0.end }
  looked_view st m n found l = dite (ℕ_discrete found LAST)
      (λ hit. let e : n.0 ≡ with_end_seen m.0 =
      ap (λ z. z.0) (l.last hit) in e ∙ ap (λ b. record m.0 { end = b }) (sym (ap (λ v. v.end) e)))
      (λ miss. let e : n.0 ≡ m.0 =
      ap (λ z. z.0) (l.other miss) in e ∙ ap (λ b. record m.0 { end = b }) (sym (ap (λ v. v.end) e)))

  -- and what was seen stays seen
  pub looked_end : (st : Step (Option T)) (m n : Me (Option T) (View T E S O)) (found : ℕ) → Looked R st m found n
      → m.0.end ≡ true → n.0.end ≡ true
  looked_end st m n found l e = ap (λ z. z.0.end) (l.last (l.seen_end e))

  -- the shares of a value are those of its log
  pub map-shares : (x : T) (low n : ℕ) → map (λ s. s.own) (shares R x low n) ≡ entries_of_workers R (R.entries x) low n
  map-shares x low n = map-each (λ (s : Share E O). s.own) (share R x) low n

  -- what a pass knows does not depend on where it stands
  pub aware_staged : (x : T) (v : View T E S O) (stage : Stage T) → IsAware R x (with_stage v stage) → IsAware R x v
  aware_staged x v stage a =
      record { after = a.after; front = a.front; others = a.others; subject = a.subject; shares = a.shares }

  pub first_work : (x : T) (low n : ℕ) (d : O) → 0 < n → work_or (shares R x low n) d ≡ R.work x low
  unfolding each_of
  first_work x low zero d some = absurd (omega arith)
  first_work x low (suc n) d some = refl

  pub lowest_work-aware : (x : T) (v : View T E S O) (d : O) → 0 < v.count → IsAware R x v
      → lowest_work v d ≡ R.work x v.low
  lowest_work-aware x v d some a = ap (λ l. work_or l d) a.shares ∙ first_work x v.low v.count d some

  -- what is aware is faithful
  pub aware_faithful : (x : T) (v : View T E S O) → IsAware R x v → IsFaithful R v
  aware_faithful x v a =
      ap (map (λ s. s.own)) a.shares
      ∙ (map-shares x v.low v.count ∙ each_same (λ w. entries_of_worker R w (R.entries x))
      (λ w. entries_of_worker R w v.front) v.low v.count
      (λ k p q. own_of_front R x v k p q a))

  pub lower_faithful : (v : View T E S O) → 0 < v.count → IsFaithful R v → IsFaithful R (lower_part v)
  lower_faithful v some h =
      map-take_one (λ (s : Share E O). s.own) v.shares
      ∙ (ap (take 1) h ∙ each_first (λ w. entries_of_worker R w v.front) v.low v.count some)

  pub upper_faithful : (v : View T E S O) → 0 < v.count → IsFaithful R v → IsFaithful R (upper_part v)
  upper_faithful v some h =
      map-drop_one (λ (s : Share E O). s.own) v.shares
      ∙ (ap (drop 1) h ∙ each_rest (λ w. entries_of_worker R w v.front) v.low v.count some)

  -- a front whose own entries under the numbers of two neighbours, the first and the second, are those of both
  rows : (log : List E) (v w : View T E S O) → v.low + v.count ≡ w.low → IsFaithful R v → IsFaithful R w
      → map (λ s. s.own) (v.shares ++ w.shares) ≡ entries_of_workers R log v.low (v.count + w.count)
      → (entries_of_workers R log v.low v.count ≡ entries_of_workers R v.front v.low v.count)
      × (entries_of_workers R log w.low w.count ≡ entries_of_workers R w.front w.low w.count)
  rows log v w next this other both = let J : ℕ → List E =
      λ n. entries_of_worker R n log in let f : Share E O → List E =
      λ s. s.own in
      let split : each_of J v.low v.count ++ each_of J w.low w.count
      ≡ entries_of_workers R log v.low (v.count + w.count) =
      ap (λ n. each_of J v.low v.count ++ each_of J n w.count) (sym next)
      ∙ sym (each-append J v.low v.count w.count) in
      parts (each_of J v.low v.count) (entries_of_workers R v.front v.low v.count) (each_of J w.low w.count)
      (entries_of_workers R w.front w.low w.count)
      (split ∙ (sym both ∙ (map-append f v.shares w.shares ∙ (λ i. this i ++ other i))))
      (length-each J v.low v.count ∙ sym (length-each (λ n. entries_of_worker R n v.front) v.low v.count))

  -- the joined front has, under each number, the own entries of the front that the number came with
  module _ (v w : View T E S O) (some : 0 < v.count) (next : AreNeighbours v w) (this : IsFaithful R v)
      (other : IsFaithful R w) (both : IsFaithful R (joined_view v w)) where
    joined_rows : (entries_of_workers R (joined_view v w).front v.low v.count
        ≡ entries_of_workers R v.front v.low v.count)
        × (entries_of_workers R (joined_view v w).front w.low w.count ≡ entries_of_workers R w.front w.low w.count)
    joined_rows = let log : List E = (joined_view v w).front in let f : Share E O → List E = λ s. s.own in ⊎_elim
        (λ (above : v.low + v.count ≡ w.low).
        let low : min v.low w.low ≡ v.low = omega arith in
        rows log v w above this other (ap (map f) (sym (shares_below v w (omega arith)))
        ∙ (both ∙ ap (λ n. entries_of_workers R log n (v.count + w.count)) low)))
        (λ (below : w.low + w.count ≡ v.low).
        let low : min v.low w.low ≡ w.low = omega arith in
        let sum : v.count + w.count ≡ w.count + v.count = omega arith in
        let r = rows log w v below other this (ap (map f) (sym (shares_above v w (omega arith)))
        ∙ (both ∙ (λ i. entries_of_workers R log (low i) (sum i)))) in
        (r.1, r.0)) next

    pub joined_lower : (n : ℕ) → HasNumber v n
        → entries_of_worker R n (joined_view v w).front ≡ entries_of_worker R n v.front
    joined_lower n h =
        each_at (λ k. entries_of_worker R k (joined_view v w).front)
        (λ k. entries_of_worker R k v.front) v.low v.count n joined_rows.0 h.0 h.1

    pub joined_upper : (n : ℕ) → HasNumber w n
        → entries_of_worker R n (joined_view v w).front ≡ entries_of_worker R n w.front
    joined_upper n h =
        each_at (λ k. entries_of_worker R k (joined_view v w).front)
        (λ k. entries_of_worker R k w.front) w.low w.count n joined_rows.1 h.0 h.1
