use Rattle.std.proofs.Common.{◌≡◌, ◌≢◌, ℕ, ◌++◌, take}
use Rattle.ticket_lock.specs.Log.{entries_of_worker}
use Rattle.ticket_lock.specs.Lock.{HasNumber}
use Rattle.ticket_lock.specs.Names.{lock_id, pass_view, IsPass}
use Rattle.ticket_lock_uses.specs.Items.{items_log, by_worker}
use Rattle.ticket_lock_uses.proofs.work.add_all.Given as goal

-- the numbers so far were added, and nothing under another number
abbrev pub invariant-loop-count : goal.invariant-loop-count
invariant-loop-count g l = record {
  pass : IsPass (lock_id l.lock) l.pass;
  low : (pass_view l.pass).low ≡ (pass_view l.initial.pass).low;
  size : (pass_view l.pass).count ≡ (pass_view l.initial.pass).count;
  added : entries_of_worker items_log (pass_view l.initial.pass).low (pass_view l.pass).front
      ≡ entries_of_worker items_log (pass_view l.initial.pass).low (pass_view l.initial.pass).front
      ++ by_worker (pass_view l.initial.pass).low (take l.count l.numbers);
  others : (w : ℕ) → HasNumber (pass_view l.initial.pass) w → w ≢ (pass_view l.initial.pass).low
      → entries_of_worker items_log w (pass_view l.pass).front
      ≡ entries_of_worker items_log w (pass_view l.initial.pass).front;
}
