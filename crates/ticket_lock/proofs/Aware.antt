-- What a pass knows of the value's log stays true while others add to it, and goes with its numbers where they are
-- split or joined.
use Rattle.std.proofs.Common.{◌≡◌, ℕ, ◌+◌, ◌-◌, ◌<◌, ◌≤◌, eqb, cond, List, [], ◌∷◌, ◌++◌, length, take, drop, refl, sym}
use Rattle.std.proofs.Common.{ap, ◌∙◌, subst, arith, append_assoc, append-nil, Some, min, ◌⊎◌, ⊎_elim}
use Rattle.std.specs.List.{AllByRecursion}
use Rattle.std.proofs.lemmas.Bool.{ne_eqb}
use Rattle.std.proofs.lemmas.List.Elements.{filter-append}
use mathlib.Core.Logic.{dite}
use native.Mathlib.Decide.{dec_lt}
use Rattle.ticket_lock.specs.declared.rule.TheConstants.{NUMBERS}
use Rattle.ticket_lock.specs.declared.rule.View.{View}
use Rattle.ticket_lock.specs.Log.{Reading, entries_of_worker, share, shares, Adds}
use Rattle.ticket_lock.specs.declared.logged.Share.{Share}
use Rattle.ticket_lock.specs.Lock.{HasNumber, AreNeighbours, IsOther, IsAware}
use Rattle.ticket_lock.specs.Changes.{joined_view, lower_part, upper_part, view_inside, view_after_give, opening_view}
use Rattle.ticket_lock.proofs.Neighbours.{in_one, shares_below, shares_above}
use Rattle.ticket_lock.proofs.Logs.{every-append, every-right, every_one, every_two, every_none, between, longer_first}
use Rattle.ticket_lock.proofs.Logs.{longer_second, each_same, each-append, each_first, each_rest}

module _ {T E S O : Type 0} (R : Reading T E S O) where
  -- what carries no number w has no entry of w
  pub own_none : (P : E → Type 0) (w : ℕ) → ((e : E) → P e → R.worker e ≡ w → ⊥) → (log : List E) → AllByRecursion P log
      → entries_of_worker R w log ≡ []
  own_none P w never [] h = refl
  own_none P w never (e ∷ log) h =
      ap (λ t. cond t (e ∷ entries_of_worker R w log) (entries_of_worker R w log)) (ne_eqb (R.worker e) w (never e h.0))
      ∙ own_none P w never log h.1

  entries_of_worker-append : (w : ℕ) (a b : List E)
      → entries_of_worker R w (a ++ b) ≡ entries_of_worker R w a ++ entries_of_worker R w b
  entries_of_worker-append w a b = filter-append (λ e. eqb (R.worker e) w) a b

  -- after a front, entries of others do not count
  pub own_stays : (front after : List E) (low count w : ℕ) → AllByRecursion (IsOther R low count) after → low ≤ w
      → w < low + count → entries_of_worker R w (front ++ after) ≡ entries_of_worker R w front
  own_stays front after low count w others a b =
      entries_of_worker-append w front after
      ∙ (ap (λ l. entries_of_worker R w front ++ l) (own_none (IsOther R low count) w
      (λ e h is. h.2 (omega arith) (omega arith)) after others) ∙ append-nil (entries_of_worker R w front))

  -- entries of one worker do not count for another
  pub own_added : (x y : T) (w n : ℕ) → Adds R w x y → (n ≡ w → ⊥)
      → entries_of_worker R n (R.entries y) ≡ entries_of_worker R n (R.entries x)
  own_added x y w n adds ne =
      ap (entries_of_worker R n) adds.entries
      ∙ (entries_of_worker-append n (R.entries x) adds.added
      ∙ (ap (λ l. entries_of_worker R n (R.entries x) ++ l) (own_none (λ e. R.worker e ≡ w) n
      (λ e h is. ne (sym is ∙ h)) adds.added adds.by_worker) ∙ append-nil (entries_of_worker R n (R.entries x))))

  -- the shares of others stay as they are
  pub others_share : (x y : T) (w low n : ℕ) → Adds R w x y → (low ≤ w → w < low + n → ⊥)
      → shares R x low n ≡ shares R y low n
  others_share x y w low n adds out = each_same (share R x) (share R y) low n (λ k a b.
      let ne : k ≡ w → ⊥ = λ e. out (omega arith) (omega arith) in
      let log : entries_of_worker R k (R.entries x) ≡ entries_of_worker R k (R.entries y) =
      sym (own_added x y w k adds ne) in
      let work : R.work x k ≡ R.work y k = sym (adds.others k ne) in
      λ i. record { own = log i; work = work i })

  -- what a pass knows stays true while another adds entries of its own
  pub still_aware : (x y : T) (w : ℕ) (v : View T E S O) → Adds R w x y → 1 ≤ w → w < NUMBERS + 1 → (HasNumber v w → ⊥)
      → IsAware R x v → IsAware R y v
  still_aware x y w v adds low high out a = record {
    after = a.after ++ adds.added;
    front = adds.entries ∙ (ap (λ l. l ++ adds.added) a.front ∙ append_assoc v.front a.after adds.added);
    others = every-append (IsOther R v.low v.count) a.after adds.added a.others
        (every_one (λ e. R.worker e ≡ w) (IsOther R v.low v.count)
        (λ e is. (omega arith, omega arith, λ l h. out (omega arith, omega arith))) adds.added adds.by_worker);
    subject = a.subject ∙ ap Some (sym adds.subject);
    shares = a.shares ∙ others_share x y w v.low v.count adds (λ l h. out (l, h));
  }

  -- two passes as one that has the numbers of both and no others, and this row of shares
  as_one : (x : T) (v w : View T E S O) (low : ℕ) (row : List (Share E O))
      → ((n : ℕ) → low ≤ n → n < low + (v.count + w.count) → HasNumber v n ⊎ HasNumber w n)
      → row ≡ shares R x low (v.count + w.count) → IsAware R x v → IsAware R x w
      → IsAware R x (record (joined_view v w) { low = low; shares = row })
  as_one x v w low row numbers is a b =
      let P = IsOther R v.low v.count in let Q = IsOther R w.low w.count in let S =
      IsOther R low (v.count + w.count) in
      let both : (e : E) → P e → Q e → S e = λ e p q. (
        p.0,
        p.1,
        λ l h. ⊎_elim (λ (k : HasNumber v (R.worker e)). p.2 k.0 k.1) (λ (k : HasNumber w (R.worker e)). q.2 k.0 k.1)
            (numbers (R.worker e) l h),
      ) in
      dite (dec_lt (length v.front) (length w.front))
      (λ lt.
      let m = between v.front w.front a.after b.after (sym a.front ∙ b.front) (omega arith) in
      let left : AllByRecursion P b.after = every-right P m.0 b.after (subst (AllByRecursion P) m.2 a.others) in
      record {
        after = b.after;
        front = b.front ∙ ap (λ l. l ++ b.after) (sym (longer_second v.front w.front lt));
        others = every_two P Q S both b.after left b.others;
        subject = a.subject;
        shares = is;
      })
      (λ ge.
      let m = between w.front v.front b.after a.after (sym b.front ∙ a.front) (omega arith) in
      let right : AllByRecursion Q a.after = every-right Q m.0 a.after (subst (AllByRecursion Q) m.2 b.others) in
      record {
        after = a.after;
        front = a.front ∙ ap (λ l. l ++ a.after) (sym (longer_first v.front w.front (omega arith)));
        others = every_two P Q S both a.after a.others right;
        subject = a.subject;
        shares = is;
      })

  -- two neighbours as one
  pub both_aware : (x : T) (v w : View T E S O) → 0 < v.count → AreNeighbours v w → IsAware R x v → IsAware R x w
      → IsAware R x (joined_view v w)
  both_aware x v w some next a b =
      as_one x v w (min v.low w.low) (joined_view v w).shares (λ n l h. in_one v w next n (l, h))
      (⊎_elim
      (λ (above : v.low + v.count ≡ w.low).
      let low : v.low ≡ min v.low w.low = omega arith in
      shares_below v w (omega arith) ∙ (row v w above a b ∙ ap (λ n. shares R x n (v.count + w.count)) low))
      (λ (below : w.low + w.count ≡ v.low).
      let low : w.low ≡ min v.low w.low = omega arith in
      let sum : w.count + v.count ≡ v.count + w.count = omega arith in
      shares_above v w (omega arith) ∙ (row w v below b a ∙ (λ i. shares R x (low i) (sum i)))) next) a b
    where
      row : (v w : View T E S O) → v.low + v.count ≡ w.low → IsAware R x v → IsAware R x w
          → v.shares ++ w.shares ≡ shares R x v.low (v.count + w.count)
      row v w next a b = ap (λ l. l ++ w.shares) a.shares ∙ (ap (λ l. shares R x v.low v.count ++ l)
          (b.shares ∙ ap (λ n. shares R x n w.count) (sym next)) ∙ sym (each-append (share R x) v.low v.count w.count))

  pub lower_aware : (x : T) (v : View T E S O) → 0 < v.count → IsAware R x v → IsAware R x (lower_part v)
  lower_aware x v some a = record {
    after = a.after;
    front = a.front;
    others = every_one (IsOther R v.low v.count) (IsOther R v.low 1)
        (λ e h. (h.0, h.1, λ l b. h.2 l (omega arith))) a.after a.others;
    subject = a.subject;
    shares = ap (take 1) a.shares ∙ each_first (share R x) v.low v.count some;
  }

  pub upper_aware : (x : T) (v : View T E S O) → 0 < v.count → IsAware R x v → IsAware R x (upper_part v)
  upper_aware x v some a = record {
    after = a.after;
    front = a.front;
    others = every_one (IsOther R v.low v.count) (IsOther R (v.low + 1) (v.count - 1))
        (λ e h. (h.0, h.1, λ l b. h.2 (omega arith) (omega arith))) a.after a.others;
    subject = a.subject;
    shares = ap (drop 1) a.shares ∙ each_rest (share R x) v.low v.count some;
  }

  pub arrived_aware : (x : T) (v : View T E S O) (t : ℕ) → IsAware R x v → IsAware R x (view_inside R v t x)
  arrived_aware x v t a =
      record { after = []; front = sym (append-nil (R.entries x)); others = tt; subject = a.subject; shares = a.shares }

  pub given_aware : (x : T) (v : View T E S O) → v.subject ≡ Some (R.subject x) → IsAware R x (view_after_give R v x)
  given_aware x v same =
      record { after = []; front = sym (append-nil (R.entries x)); others = tt; subject = same; shares = refl }

  pub whole_aware : (x : T) (t : ℕ) → IsAware R x (opening_view R x t)
  whole_aware x t =
      record { after = []; front = sym (append-nil (R.entries x)); others = tt; subject = refl; shares = refl }

  -- a pass with all numbers has seen the whole log
  pub sees_all : (x : T) (v : View T E S O) → v.low ≡ 1 → v.count ≡ NUMBERS → IsAware R x v → R.entries x ≡ v.front
  sees_all x v one all a =
      a.front ∙ (ap (λ l. v.front ++ l) (every_none (IsOther R v.low v.count)
      (λ e h. h.2 (let p = h.0 in omega arith) (let p = h.1 in omega arith)) a.after a.others) ∙ append-nil v.front)

  -- under each of the pass's numbers the log has its front's entries and no others
  pub own_of_front : (x : T) (v : View T E S O) (w : ℕ) → v.low ≤ w → w < v.low + v.count → IsAware R x v
      → entries_of_worker R w (R.entries x) ≡ entries_of_worker R w v.front
  own_of_front x v w a b h = ap (entries_of_worker R w) h.front ∙ own_stays v.front h.after v.low v.count w h.others a b
