-- What the clauses of the lock, its passes and its holders name.
use Rattle.std.specs.Prelude.{◌≡◌, ℕ, List, [], ◌∷◌, map, Option}
use Rattle.atomic_table.specs.Seated.{TableId}
use Rattle.atomic_table.specs.declared.shared.Seat.{Seat}
use Rattle.ticket_lock.specs.declared.logged.Logged.{Ghosts}
use Rattle.ticket_lock.specs.declared.logged.Share.{Share}
use Rattle.ticket_lock.specs.declared.rule.View.{View}
use Rattle.ticket_lock.specs.declared.lock.TicketLock.{TicketLock}
use Rattle.ticket_lock.specs.declared.pass.Pass.{Pass}
use Rattle.ticket_lock.specs.declared.held.Held.{Held}
use Rattle.ticket_lock.specs.Log.{Reading, entries_of_workers}
use Rattle.ticket_lock.specs.Lock.{found_or}

-- the open work of the first share, and d where there is none
abbrev pub work_or : {E O : Type 0} → List (Share E O) → O → O
work_or [] d = d
work_or (s ∷ ss) d = s.work

module _ {T E S O : Type 0} where
  -- which lock it is
  abbrev pub lock_id : TicketLock T E S O → TableId
  lock_id l = l.table.shared.table_id

  -- the value with which the lock was made
  abbrev pub opening_value : TicketLock T E S O → T
  opening_value l = l.table.shared.key.0.value

  -- the first ticket of the lock
  abbrev pub opening_ticket : TicketLock T E S O → ℕ
  opening_ticket l = l.table.shared.key.1

  -- of which lock the value is
  abbrev pub held_id : Held T E S O → TableId
  held_id h = h.seat.table_id

  -- what the pass inside knows
  abbrev pub held_view : Held T E S O → View T E S O
  held_view h = h.seat.me.0

  -- the value as it is now
  abbrev pub held_value : Held T E S O → T
  held_value h = h.value

  -- the value as the pass found it
  abbrev pub held_as_found : Held T E S O → T
  held_as_found h = found_or h.seat.me.0.stage h.value

  -- the open work of the lowest number, and d where there is no number
  abbrev pub lowest_work : View T E S O → O → O
  lowest_work v d = work_or v.shares d

module _ {T E S O : Type 0} (R : Reading T E S O) where
  -- the own entries that the view keeps of each number are those of its front
  abbrev pub IsFaithful : View T E S O → Type 0
  IsFaithful v = map (λ s. s.own) v.shares ≡ entries_of_workers R v.front v.low v.count

  -- the seat is at this table, and its view is faithful
  pub record IsSeated (id : TableId) (seat : Seat (Option T) (View T E S O)) : Type 0 where
    pub here : seat.table_id ≡ id
    pub faithful : IsFaithful seat.me.0

module _ {T E S O : Type 0} {g : Ghosts T E S O} where
  -- what a pass knows: its numbers, its front, its subject, its shares, and whether it has seen the end
  abbrev pub pass_view : Pass T E S O g → View T E S O
  pass_view p = p.seat.me.0

  -- the pass is the lock's
  abbrev pub IsPass : TableId → Pass T E S O g → Type 0
  IsPass id p = IsSeated g.log id p.seat
