-- Visits without a claim.
use Rattle.std.proofs.Common.{◌≡◌, inl, refl, ap}
use Rattle.std.specs.Prelude.{Err}
use Rattle.ticket_lock.specs.Changes.{with_end_seen}
use Rattle.worker_visits.specs.declared.ends.LoopEnd.{LoopEnd}
use Rattle.worker_visits.specs.declared.ends.LoopEnd.TheVariants.{Spent}
use Rattle.worker_visits.specs.Knowing.{PassView, EndsAs, IsVisit}
use Rattle.worker_visits.proofs.Following.{follows_itself, follows_ended}
use Rattle.worker_visits.proofs.Outs.{ended_outs}
use Rattle.worker_visits.proofs.Stops.{ended_going}

-- a take that finds no ticket
pub visit_spent : (v r : PassView) → r ≡ with_end_seen v → IsVisit v r (Err Spent)
visit_spent v r is = record {
  follows = follows_ended v r is;
  claimed = tt;
  end = ap (λ u. u.end) is;
  going = λ _. ended_going v r is;
  out = λ d out. inl (ended_outs v r d is out);
}

-- a worker that ends, and does not visit the trace
pub no_visit : (v : PassView) (how : LoopEnd) → EndsAs v how → IsVisit v v (Err how)
no_visit v how knows = record {
  follows = follows_itself v;
  claimed = tt;
  end = knows;
  going = λ _. refl;
  out = λ d out. inl out;
}
