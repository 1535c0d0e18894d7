-- What the workers of a new lock leave.
use Rattle.std.proofs.Common.{◌≡◌, ℕ, Bool, cond, false, List, [], ◌∷◌, ◌++◌, length, Some, refl, sym, ap, subst, ◌∙◌}
use Rattle.std.proofs.Common.{arith}
use Rattle.std.specs.Prelude.{Result, Ok, Err, IfOk, IfErr, filter}
use Rattle.std.specs.List.{AllByRecursion, range_with_len}
use Rattle.std.proofs.lemmas.Bool.{false≢true}
use Rattle.scenario_image.specs.Scenario.{Scenario}
use Rattle.trace_file.specs.declared.entry.Entry.{Entry}
use Rattle.fleet_core.specs.Run.{IsRun, IsComplete}
use Rattle.fleet_core.specs.Waiting.{is_waiting, waiting_devices}
use Rattle.fleet_core.proofs.Agreeing.{same_made}
use Rattle.ticket_lock.specs.declared.rule.TheConstants.{NUMBERS}
use Rattle.ticket_lock.specs.Log.{shares}
use Rattle.ticket_lock.specs.Changes.{opening_view}
use Rattle.ticket_lock.proofs.Logs.{every_one}
use Rattle.shared_trace.specs.Trace.{TraceModel, trace_log}
use Rattle.worker_visits.specs.declared.ends.LoopEnd.{LoopEnd}
use Rattle.worker_visits.specs.declared.ends.LoopEnd.TheVariants.{Done, Stalled, Stopped, Memory, Spent}
use Rattle.fleet_workers.specs.declared.fleet.FleetEnd.{FleetEnd}
use Rattle.fleet_workers.specs.declared.fleet.FleetEnd.TheVariants as ends
use Rattle.fleet_workers.specs.declared.fleet.FleetRun.{FleetRun}
use Rattle.fleet_workers.specs.declared.fleet.RunFault.{RunFault}
use Rattle.fleet_workers.specs.declared.fleet.RunFault.TheVariants as faults
use Rattle.worker_visits.specs.Knowing.{PassView}
use Rattle.fleet_workers.specs.Crew.{IsByCrew, CrewFollows, CrewEndsAs, HavePut, HaveWorked}
use Rattle.fleet_workers.specs.Fleet.{IsByWorker, IsEndOf, IsFleetRun, HasEnded, IsLeft, AreByBlocks, IsNew, IsMade}
use Rattle.fleet_workers.specs.Fleet.{IsOutcome, left_by}
use Rattle.worker_visits.proofs.Blocks.{put_nothing}

-- what workers know by their front is so of the whole run
ended_so : (s : Scenario) (n : ℕ) (w : PassView) (end : LoopEnd) → w.subject ≡ Some s → CrewEndsAs n w end
    → HasEnded s w.front end
ended_so s n w Done subject ends = ends s subject
ended_so s n w Stalled subject ends = ends s subject
ended_so s n w Stopped subject ends = tt
ended_so s n w Memory subject ends = tt
ended_so s n w Spent subject ends = tt

-- of a pass with all numbers the n lowest are those from 1 to n
by_workers : (n : ℕ) (v : PassView) (es : List Entry) → v.low ≡ 1 → v.count ≡ NUMBERS → AllByRecursion (IsByCrew n v) es
    → AllByRecursion (IsByWorker n) es
by_workers n v es low count all =
    every_one (IsByCrew n v) (IsByWorker n)
    (λ e by.
    let below = by.2 (omega (arith, low, by.0), omega (arith, low, count, by.1)) in
    (by.0, omega (arith, low, below))) es all

is_left : (s : Scenario) (n : ℕ) (v : PassView) (x : TraceModel) (all : PassView) (es : List Entry) (end : LoopEnd)
    → v ≡ opening_view trace_log x 0 → x.subject ≡ s → x.entries ≡ [] → CrewFollows n v all → CrewEndsAs n all end
    → es ≡ all.front → IsLeft s n es end
is_left s n v x all es end opened subject empty follows ends log =
    let front : v.front ≡ [] = ap (λ u. u.front) opened ∙ empty in
    let about : v.subject ≡ Some s = ap (λ u. u.subject) opened ∙ ap Some subject in
    let added : all.front ≡ follows.added = follows.front ∙ ap (λ l. l ++ follows.added) front in
    record {
      run = subst (IsRun s) (sym log)
          (follows.run s about (subst (IsRun s) (sym front) (record { along = tt })));
      by_workers = subst (AllByRecursion (IsByWorker n)) (sym (log ∙ added))
          (by_workers n v follows.added (ap (λ u. u.low) opened) (ap (λ u. u.count) opened) follows.workers);
      ended = subst (λ l. HasEnded s l end) (sym log) (ended_so s n all end (follows.subject ∙ about) ends);
    }

by_blocks : (came : ℕ → ℕ → Type 0) (s : Scenario) (n batch : ℕ) (v : PassView) (x : TraceModel) (all : PassView)
    (es : List Entry)
    → v ≡ opening_view trace_log x 0 → x.entries ≡ [] → HavePut came s v.low n batch v.front all.front → es ≡ all.front
    → AllByRecursion (IsByWorker n) es → AreByBlocks came s n batch es
by_blocks came s n batch v x all es opened empty put log by =
    let front : v.front ≡ [] = ap (λ u. u.front) opened ∙ empty in
    let low : v.low ≡ 1 = ap (λ u. u.low) opened in
    record {
      by_workers = by;
      each = subst (HavePut came s 1 n batch []) (sym log)
          (subst (λ l. HavePut came s 1 n batch l all.front) front
          (subst (λ k. HavePut came s k n batch v.front all.front) low put));
    }

-- what a crew of the numbers from 1 to n leaves in the trace that the lock gives back
pub is_made : (came : ℕ → ℕ → Type 0) (s : Scenario) (n batch : ℕ) (v : PassView) (x : TraceModel) (all : PassView)
    (closed : TraceModel) (end : LoopEnd) → v ≡ opening_view trace_log x 0 → IsNew s x
    → HaveWorked came s batch n v all end
    → closed.entries ≡ all.front → all.shares ≡ shares trace_log closed 1 NUMBERS
    → IsMade came s n batch closed.entries end
is_made came s n batch v x all closed end opened new worked log same =
    let es = closed.entries in
    let left = is_left s n v x all es end opened new.subject new.entries worked.follows worked.ends log in
    record {
      left = left;
      blocks = by_blocks came s n batch v x all es opened new.entries worked.blocks log left.by_workers;
      run = record {
        opened = x;
        new = new;
        last = all;
        worked = subst (λ u. HaveWorked came s batch n u all end) opened worked;
        closed = closed;
        entries = refl;
        front = sym log;
        shares = same;
      };
    }

-- of no entries there are no blocks
pub no_blocks : (came : ℕ → ℕ → Type 0) (s : Scenario) (n batch : ℕ) → AreByBlocks came s n batch []
no_blocks came s n batch = record {
  by_workers = tt;
  each = λ w least most. put_nothing came s w batch [] [] ([], refl) refl;
}

-- ---- what is answered

-- what holds of Memory and of Spent with the entries holds of any fault
pub outcome_fault : (P : RunFault → Type 0) (es : List Entry) (end : LoopEnd) (answer : Result FleetRun RunFault)
    → IsOutcome es end answer → P (faults.Memory es) → P (faults.Spent es) → IfErr answer P
outcome_fault P es Done (Ok r) h memory spent = tt
outcome_fault P es Done (Err e) h memory spent = absurd (false≢true h.0)
outcome_fault P es Stalled (Ok r) h memory spent = tt
outcome_fault P es Stalled (Err e) h memory spent = subst P (sym h.1) memory
outcome_fault P es Stopped answer h memory spent = subst (λ a. IfErr a P) (sym h) memory
outcome_fault P es Memory answer h memory spent = subst (λ a. IfErr a P) (sym h) memory
outcome_fault P es Spent answer h memory spent = subst (λ a. IfErr a P) (sym h) spent

-- a run has the entries
pub outcome_run : (P : List Entry → Type 0) (es : List Entry) (end : LoopEnd) (answer : Result FleetRun RunFault)
    → IsOutcome es end answer → P es → IfOk answer (λ r. P r.entries)
outcome_run P es Done (Ok r) h p = subst P (sym h.1) p
outcome_run P es Done (Err e) h p = tt
outcome_run P es Stalled (Ok r) h p = subst P (sym h.0) p
outcome_run P es Stalled (Err e) h p = tt
outcome_run P es Stopped answer h p = subst (λ a. IfOk a (λ r. P r.entries)) (sym h) tt
outcome_run P es Memory answer h p = subst (λ a. IfOk a (λ r. P r.entries)) (sym h) tt
outcome_run P es Spent answer h p = subst (λ a. IfOk a (λ r. P r.entries)) (sym h) tt

-- a fault comes with entries
abbrev HasEntries : RunFault → Type 0
HasEntries (faults.Memory es) = Unit {0}
HasEntries (faults.Spent es) = Unit {0}
HasEntries faults.Workers = ⊥
HasEntries faults.Batch = ⊥

pub outcome_not : (es : List Entry) (end : LoopEnd) (answer : Result FleetRun RunFault) (fault : RunFault)
    → IsOutcome es end answer → (HasEntries fault → ⊥) → answer ≡ Err fault → ⊥
outcome_not es end answer fault h not is =
    not (subst (λ a. IfErr a HasEntries) is (outcome_fault HasEntries es end answer h tt tt))

none_of : (test : ℕ → Bool) (ds : List ℕ) → ((d : ℕ) → test d ≡ false) → filter test ds ≡ []
none_of test [] none = refl
none_of test (d ∷ ds) none =
    ap (λ t. cond t (d ∷ filter test ds) (filter test ds)) (none d) ∙ none_of test ds none

left_waiting : (s : Scenario) (es : List Entry) (how : FleetEnd) → IsEndOf s es how → left_by how ≡ waiting_devices s es
left_waiting s es ends.Done is = sym (none_of (is_waiting s es) (range_with_len 0 (length s.rows)) is)
left_waiting s es (ends.Stalled devices) is = is.exactly

-- a complete run of the workers is that of a fleet
pub fleet_run : (s : Scenario) (n : ℕ) (es : List Entry) (how : FleetEnd) → AllByRecursion (IsByWorker n) es
    → IsComplete s es → IsEndOf s es how → IsFleetRun s n (record { entries = es; end = how })
fleet_run s n es how by complete is = record {
  complete = complete;
  by_workers = by;
  serial = λ serial is d. same_made s es serial complete is.complete d;
  end = is;
  waiting = left_waiting s es how is;
}
