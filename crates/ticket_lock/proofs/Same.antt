-- The facts of a holder have one proof each, so a holder is its fields.
use Rattle.std.proofs.Common.{◌≡◌, ◌+◌, ◌<◌, ◌≤◌, true}
use Rattle.std.proofs.Props.{props}
use Rattle.std.specs.Coded.{Coded-set}
use Rattle.atomic_table.specs.Seated.{table_id_coded}
use Rattle.ticket_lock.specs.declared.rule.TheConstants.{NUMBERS, LAST}
use Rattle.ticket_lock.specs.declared.held.Held.{Held}
use Rattle.ticket_lock.specs.Lock.{is_inside, ticket_of, holds_slot}
use Rattle.ticket_lock.specs.Lending.{with_value}

module _ {T E S O : Type 0} (h : Held T E S O) (w : T) where
  pub same_held : (here : h.seat.table_id ≡ h.lock.now.table.shared.table_id)
      (numbers : (h.seat.me.0.low ≡ h.low) × (h.seat.me.0.count ≡ h.count))
      (within : (0 < h.count) × (1 ≤ h.low) × (h.low + h.count ≤ NUMBERS + 1))
      (inside : (is_inside h.seat.me.0.stage ≡ true) × (ticket_of h.seat.me.0.stage ≡ h.ticket))
      (early : h.ticket < LAST) (holds : holds_slot h.seat.me.1 ≡ true)
      → record {
        lock = h.lock;
        low = h.low;
        count = h.count;
        ticket = h.ticket;
        seat = h.seat;
        value = w;
        here =
            here;
        numbers = numbers;
        within = within;
        inside = inside;
        early = early;
        holds = holds;
      } ≡ with_value h w
  same_held here numbers within inside early holds =
      let one_here : IsProp (h.seat.table_id ≡ h.lock.now.table.shared.table_id) =
      Coded-set table_id_coded h.seat.table_id h.lock.now.table.shared.table_id in
      let one_numbers : IsProp ((h.seat.me.0.low ≡ h.low) × (h.seat.me.0.count ≡ h.count)) = hlevel props in
      let one_within : IsProp ((0 < h.count) × (1 ≤ h.low) × (h.low + h.count ≤ NUMBERS + 1)) = hlevel props in
      let one_inside : IsProp ((is_inside h.seat.me.0.stage ≡ true) × (ticket_of h.seat.me.0.stage ≡ h.ticket)) =
      hlevel props in
      let one_early : IsProp (h.ticket < LAST) = hlevel props in
      let one_holds : IsProp (holds_slot h.seat.me.1 ≡ true) = hlevel props in
      λ i. record {
        lock = h.lock;
        low = h.low;
        count = h.count;
        ticket = h.ticket;
        seat = h.seat;
        value = w;
        here = one_here here h.here i;
        numbers = one_numbers numbers h.numbers i;
        within = one_within within h.within i;
        inside = one_inside inside h.inside i;
        early = one_early early h.early i;
        holds = one_holds holds h.holds i;
      }
