-- What changes where a worker stops the trace.
use Rattle.std.proofs.Common.{◌≡◌, ℕ, [], sym, ap, subst, append-nil, refl}
use Rattle.std.specs.Prelude.{◌||◌}
use Rattle.std.proofs.lemmas.Bool.{ne_eqb}
use Rattle.ticket_lock.specs.Log.{Adds}
use Rattle.shared_trace.specs.Stops.{is_among}
use Rattle.shared_trace.specs.Trace.{TraceModel, IsShared, stopped_under, open_by, trace_log}

-- another's open work stays, and whether it has stopped the trace
pub stop_adds : (v new : TraceModel) (w : ℕ) → new ≡ stopped_under v w → Adds trace_log w v new
stop_adds v new w is =
    subst (Adds trace_log w v) (sym is) (record {
      added = [];
      entries = sym (append-nil v.entries);
      by_worker = tt;
      subject = refl;
      others = λ n ne. ap (λ b. record { out = open_by v n; stopped = b || is_among n v.stopped_by })
          (ne_eqb w n (λ e. ne (sym e)));
    })

pub stop_shared : (v new : TraceModel) (w : ℕ) → new ≡ stopped_under v w → IsShared v → IsShared new
stop_shared v new w is shared =
    subst IsShared (sym is)
    (record { valid = shared.valid; run = shared.run; count = shared.count; placed = shared.placed })
