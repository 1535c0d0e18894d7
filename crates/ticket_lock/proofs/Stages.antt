-- Where a pass stands, by the four cases, while the words change.
use Rattle.std.proofs.Common.{◌≡◌, ℕ, ◌+◌, ◌*◌, ◌/◌, ◌%◌, ◌<◌, ◌≤◌, true, refl, ap, arith, Option, Some, None, List, []}
use Rattle.std.proofs.Common.{◌∷◌, zero, suc}
use Rattle.std.proofs.lemmas.Bool.{false≢true}
use mathlib.Core.Option.{some, none}
use Rattle.ticket_lock.specs.declared.rule.Stage.{Stage}
use Rattle.ticket_lock.specs.declared.rule.Stage.TheVariants.{Spent, Resting, Waiting, Inside}
use Rattle.ticket_lock.specs.Lock.{home_of, is_live, is_resting, is_inside, ticket_of, found_or, holds_slot, HasTicket}
use Rattle.ticket_lock.specs.Lock.{Stands}
use Rattle.ticket_lock.specs.Changes.{turn_after}

-- an unknown turn
pub no_turn : (t : ℕ) → ◌≡◌ {A = Option ℕ} None (Some t) → ⊥
no_turn t e = cc

pub one_turn : (t u : ℕ) → ◌≡◌ {A = Option ℕ} (Some t) (Some u) → t ≡ u
one_turn t u e = cc

-- the turn before
pub turn_before : (o : Option ℕ) (t : ℕ) → turn_after o ≡ Some t → (u : ℕ) × (o ≡ Some u) × (u + 1 ≡ t)
turn_before None t e = absurd (no_turn t e)
turn_before (Some u) t e = (u, refl, one_turn (u + 1) t e)

module _ {T : Type 0} where
  pub even_home : (serving t : ℕ) (x : T) → serving ≡ 2 * t → home_of (serving % 2) x ≡ some (Some x)
  even_home serving t x e = let is : serving % 2 ≡ 0 = omega arith in ap (λ n. home_of n x) is

  pub odd_home : (serving t : ℕ) (x : T) → serving ≡ 2 * t + 1 → home_of (serving % 2) x ≡ none
  odd_home serving t x e = let is : serving % 2 ≡ 1 = omega arith in ap (λ n. home_of n x) is

  pub rests : (st : Stage T) → is_resting st ≡ true → st ≡ Resting
  rests Spent e = absurd (false≢true e)
  rests Resting e = refl
  rests (Waiting t) e = absurd (false≢true e)
  rests (Inside t x) e = absurd (false≢true e)

  pub resting_lives : (st : Stage T) → is_resting st ≡ true → is_live st ≡ true
  resting_lives Spent e = e
  resting_lives Resting e = refl
  resting_lives (Waiting t) e = refl
  resting_lives (Inside t x) e = refl

  -- a resting pass has no ticket
  pub no_ticket : (st : Stage T) (t : ℕ) → is_resting st ≡ true → HasTicket st t → ⊥
  no_ticket Spent t e h = h
  no_ticket Resting t e h = h
  no_ticket (Waiting u) t e h = false≢true e
  no_ticket (Inside u x) t e h = false≢true e

  pub insider : (st : Stage T) (d : T) → is_inside st ≡ true → st ≡ Inside (ticket_of st) (found_or st d)
  insider Spent d e = absurd (false≢true e)
  insider Resting d e = absurd (false≢true e)
  insider (Waiting t) d e = absurd (false≢true e)
  insider (Inside t x) d e = refl

  pub one_slot : (c : List (ℕ × Option T)) → holds_slot c ≡ true → c ≡ (0, None) ∷ []
  one_slot [] e = absurd (false≢true e)
  one_slot ((zero, None) ∷ []) e = refl
  one_slot ((zero, None) ∷ (y ∷ c)) e = absurd (false≢true e)
  one_slot ((zero, Some x) ∷ []) e = absurd (false≢true e)
  one_slot ((zero, Some x) ∷ (y ∷ c)) e = absurd (false≢true e)
  one_slot ((suc k, x) ∷ c) e = absurd (false≢true e)

  pub ticket_lives : (st : Stage T) (t : ℕ) → HasTicket st t → is_live st ≡ true
  ticket_lives Spent t h = absurd h
  ticket_lives Resting t h = refl
  ticket_lives (Waiting u) t h = refl
  ticket_lives (Inside u x) t h = refl

  -- what stands with a ticket has drawn it
  pub ticket_drawn : (next serving : ℕ) (value : T) (st : Stage T) (t : ℕ) → Stands next serving value st
      → HasTicket st t → t < next
  ticket_drawn next serving value Spent t h k = absurd k
  ticket_drawn next serving value Resting t h k = absurd k
  ticket_drawn next serving value (Waiting u) t h k = let p = h.1 in omega arith
  ticket_drawn next serving value (Inside u x) t h k = let p = h.1 in omega arith

  pub ticket_due : (next serving : ℕ) (value : T) (st : Stage T) (t : ℕ) → Stands next serving value st → HasTicket st t
      → serving / 2 ≤ t
  ticket_due next serving value Spent t h k = absurd k
  ticket_due next serving value Resting t h k = absurd k
  ticket_due next serving value (Waiting u) t h k = let p = h.0 in omega arith
  ticket_due next serving value (Inside u x) t h k = let p = h.0 in omega arith

  -- when another draws
  pub stands_drawn : (next serving : ℕ) (value : T) (st : Stage T) → Stands next serving value st
      → Stands (next + 1) serving value st
  stands_drawn next serving value Spent h = tt
  stands_drawn next serving value Resting h = tt
  stands_drawn next serving value (Waiting u) h = (h.0, (let p = h.1 in omega arith))
  stands_drawn next serving value (Inside u x) h = (h.0, (let p = h.1 in omega arith), h.2)

  -- when the holder of the ticket t enters
  pub stands_entered : (next t : ℕ) (value : T) (st : Stage T) → (HasTicket st t → ⊥) → Stands next (2 * t) value st
      → Stands next (2 * t + 1) value st
  stands_entered next t value Spent not h = tt
  stands_entered next t value Resting not h = tt
  stands_entered next t value (Waiting u) not h = ((let p = h.0 in let q : u ≡ t → ⊥ = not in omega arith), h.1)
  stands_entered next t value (Inside u x) not h = absurd (let p = h.0 in omega arith)

  -- when the holder of the ticket t leaves
  pub stands_left : (next t : ℕ) (value y : T) (st : Stage T) → (HasTicket st t → ⊥) → Stands next (2 * t + 1) value st
      → Stands next (2 * t + 2) y st
  stands_left next t value y Spent not h = tt
  stands_left next t value y Resting not h = tt
  stands_left next t value y (Waiting u) not h = ((let p = h.0 in omega arith), h.1)
  stands_left next t value y (Inside u x) not h = absurd (let p = h.0 in not (omega arith))
