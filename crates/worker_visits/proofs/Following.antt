-- What a visit to the trace leaves a pass with.
use Rattle.std.proofs.Common.{◌≡◌, ℕ, ◌+◌, ◌<◌, ◌≤◌, false, [], ◌++◌, Some, refl, sym, ap, subst, ◌∙◌, arith}
use Rattle.std.proofs.Common.{append_assoc, append-nil}
use Rattle.std.specs.Prelude.{Contains, Result, Ok, Err}
use Rattle.trace_file.specs.declared.entry.Entry.{Entry}
use Rattle.fleet_core.specs.Run.{IsRun, made_by, posts_of}
use Rattle.fleet_core.proofs.Sums.{posts_later}
use Rattle.ticket_lock.specs.declared.rule.TheConstants.{NUMBERS}
use Rattle.ticket_lock.specs.Log.{Adds, Begins}
use Rattle.ticket_lock.specs.Lock.{IsAware, IsOther}
use Rattle.ticket_lock.specs.Changes.{view_inside, view_after_give, with_end_seen}
use Rattle.ticket_lock.specs.Names.{lowest_work}
use Rattle.ticket_lock.proofs.Logs.{every-append, every_one}
use Rattle.shared_trace.specs.declared.claims.Claim.{Claim}
use Rattle.shared_trace.specs.declared.claims.Claim.TheVariants.{Got, Busy, Done, Stalled, Stopped}
use Rattle.shared_trace.specs.Trace.{TraceModel, IsShared, with_block, work_by, no_work, trace_log}
use Rattle.shared_trace.specs.Job.{Task, StandsIn, MayPut, IsSameJob}
use Rattle.shared_trace.specs.Claims.{Claims, ClaimStands}
use Rattle.worker_visits.specs.Blocks.{own_entries, IsPut}
use Rattle.worker_visits.specs.Knowing.{PassView, IsByOne, Follows, Knows, IsDone, IsStalled, HasClaimed}

pub some_is : {X : Type 0} (x y : X) → Some x ≡ Some y → x ≡ y
some_is x y e = cc

pub err_is : {A B : Type 0} (x y : B) (r : Result A B) → r ≡ Err x → r ≡ Err y → x ≡ y
err_is x y r e f = let h = sym e ∙ f in cc

pub ok_not : {A B : Type 0} (x : A) (y : B) (r : Result A B) → r ≡ Ok x → r ≡ Err y → ⊥
ok_not x y r e f = let h = sym e ∙ f in absurd cc

-- a pass follows itself
pub follows_itself : (v : PassView) → Follows v v
follows_itself v = record {
  low = refl;
  count = refl;
  subject = refl;
  added = [];
  front = sym (append-nil v.front);
  workers = tt;
  run = λ s subject run. run;
}

-- after a take that finds no ticket
pub follows_ended : (v r : PassView) → r ≡ with_end_seen v → Follows v r
follows_ended v r is = subst (Follows v) (sym is) (record {
  low = refl;
  count = refl;
  subject = refl;
  added = [];
  front = sym (append-nil v.front);
  workers = tt;
  run = λ s subject run. run;
})

same_numbers : (v w : PassView) → w.low ≡ v.low → w.count ≡ v.count → (e : Entry) → IsByOne w e → IsByOne v e
same_numbers v w low count e by =
    (by.0, by.1, λ has. by.2 (subst (λ n. n ≤ e.worker) (sym low) has.0, omega (arith, low, count, has.1)) ∙ low)

pub follows_both : (u v w : PassView) → Follows u v → Follows v w → Follows u w
follows_both u v w a b = record {
  low = b.low ∙ a.low;
  count = b.count ∙ a.count;
  subject = b.subject ∙ a.subject;
  added = a.added ++ b.added;
  front = b.front ∙ (ap (λ l. l ++ b.added) a.front ∙ append_assoc u.front a.added b.added);
  workers = every-append (IsByOne u) a.added b.added a.workers
      (every_one (IsByOne v) (IsByOne u) (same_numbers u v a.low a.count) b.added b.workers);
  run = λ s subject run. b.run s (a.subject ∙ subject) (a.run s subject run);
}

-- after a take and a give
pub follows : (v r inside : PassView) (t : ℕ) (x y : TraceModel) → IsAware trace_log x v
    → inside ≡ view_inside trace_log v t x
    → r ≡ view_after_give trace_log inside y
    → 1 ≤ v.low → v.low < NUMBERS + 1 → Adds trace_log v.low x y → IsShared y → Follows v r
follows v r inside t x y aware entered is one within adds shared =
    let there : r ≡ view_after_give trace_log (view_inside trace_log v t x) y =
    is ∙ ap (λ w. view_after_give trace_log w y) entered in
    subst (Follows v) (sym there) (record {
      low = refl;
      count = refl;
      subject = refl;
      added = aware.after ++ adds.added;
      front = adds.entries ∙ (ap (λ l. l ++ adds.added) aware.front ∙ append_assoc v.front aware.after adds.added);
      workers = every-append (IsByOne v) aware.after adds.added
          (every_one (IsOther trace_log v.low v.count) (IsByOne v)
          (λ e h. (h.0, h.1, λ has. absurd (h.2 has.0 has.1))) aware.after aware.others)
          (every_one (λ e. e.worker ≡ v.low) (IsByOne v)
          (λ e by. (subst (λ n. 1 ≤ n) (sym by) one, subst (λ n. n < NUMBERS + 1) (sym by) within, λ has. by))
          adds.added adds.by_worker);
      run = λ s subject run. subst (λ k. IsRun k y.entries)
          (adds.subject ∙ some_is x.subject s (sym aware.subject ∙ subject)) shared.run;
    })

-- what a claim tells a pass that has left the lock since. The trace was of the pass's scenario at the claim
pub claim_told : (v r : PassView) (x y : TraceModel) (claim : Claim) → v.subject ≡ Some x.subject
    → r.subject ≡ v.subject
    → r.low ≡ v.low → r.front ≡ y.entries → lowest_work r no_work ≡ work_by y v.low → Claims x y v.low claim
    → ClaimStands y v.low claim → HasClaimed r claim
claim_told v r x y (Got job) subject same low front work claims stands =
    let left : y.entries ≡ x.entries = ap (λ z. z.entries) claims.taken.left in (
      record {
        front = ([], front ∙ (left ∙ (sym claims.taken.front ∙ sym (append-nil job.front))));
        subject = same ∙ (subject ∙ ap Some (sym claims.taken.subject));
        worker = claims.taken.worker ∙ sym low;
        stands = subst (λ o. StandsIn o.out job) (sym work) stands;
      },
      claims.taken.entries,
      claims.taken.ready,
    )
claim_told v r x y Busy subject same low front work claims stands = tt
claim_told v r x y Done subject same low front work claims stands = λ s of.
    let left : x.entries ≡ r.front = sym (front ∙ ap (λ z. z.entries) claims.0.same) in
    let is : x.subject ≡ s = some_is x.subject s (sym subject ∙ (sym same ∙ of)) in
    subst (IsDone s) left (subst (λ k. IsDone k x.entries) is (record { complete = claims.1; ended = claims.2 }))
claim_told v r x y Stalled subject same low front work claims stands = λ s of.
    let left : x.entries ≡ r.front = sym (front ∙ ap (λ z. z.entries) claims.0.same) in
    let is : x.subject ≡ s = some_is x.subject s (sym subject ∙ (sym same ∙ of)) in
    subst (IsStalled s) left (subst (λ k. IsStalled k x.entries) is
    (record { complete = claims.1; device = claims.2.device; waits = claims.2.waits }))
claim_told v r x y Stopped subject same low front work claims stands = tt

-- where the pass has claimed from the trace as it found it
pub has_claimed : (v r inside : PassView) (t : ℕ) (x y : TraceModel) (claim : Claim) → IsAware trace_log x v
    → inside ≡ view_inside trace_log v t x → r ≡ view_after_give trace_log inside y
    → lowest_work r no_work ≡ work_by y v.low → Claims x y v.low claim → ClaimStands y v.low claim → HasClaimed r claim
has_claimed v r inside t x y claim aware entered is work claims stands =
    let there : r ≡ view_after_give trace_log (view_inside trace_log v t x) y =
    is ∙ ap (λ w. view_after_give trace_log w y) entered in
    claim_told v r x y claim aware.subject (ap (λ w. w.subject) there) (ap (λ w. w.low) there) (ap (λ w. w.front) there)
    work claims stands

-- where it has put a job before that
pub claimed_after : (v r inside : PassView) (t : ℕ) (x y : TraceModel) (job : Task) (claim : Claim)
    → IsAware trace_log x v
    → inside ≡ view_inside trace_log v t x → r ≡ view_after_give trace_log inside y
    → lowest_work r no_work ≡ work_by y v.low
    → Claims (with_block x job.device job.held job.entries) y v.low claim → ClaimStands y v.low claim
    → HasClaimed r claim
claimed_after v r inside t x y job claim aware entered is work claims stands =
    let there : r ≡ view_after_give trace_log (view_inside trace_log v t x) y =
    is ∙ ap (λ w. view_after_give trace_log w y) entered in
    claim_told v r (with_block x job.device job.held job.entries) y claim aware.subject (ap (λ w. w.subject) there)
    (ap (λ w. w.low) there) (ap (λ w. w.front) there) work claims stands

-- the trace that a worker finds takes the job that its pass knows
pub may_put : (v : PassView) (x : TraceModel) (job : Task) → IsAware trace_log x v → Knows v job
    → lowest_work v no_work ≡ work_by x v.low → job.spent ≡ false → MayPut x v.low job
may_put v x job aware knows work ready =
    let log : x.entries ≡ job.front ++ (knows.front.0 ++ aware.after) =
    aware.front ∙ (ap (λ l. l ++ aware.after) knows.front.1 ∙ append_assoc job.front knows.front.0 aware.after) in
    record {
      subject = some_is job.subject x.subject (sym knows.subject ∙ aware.subject);
      worker = knows.worker;
      stands = subst (λ o. StandsIn o.out job) work knows.stands;
      posts = λ g. subst (λ l. posts_of x.subject g job.front ≤ posts_of x.subject g l) (sym log)
          (posts_later x.subject g job.front (knows.front.0 ++ aware.after));
      ready = ready;
    }

-- after the job was put, and the entries were left so
pub is_put : (v r inside : PassView) (t : ℕ) (x y : TraceModel) (job : Task) → IsAware trace_log x v
    → inside ≡ view_inside trace_log v t x → r ≡ view_after_give trace_log inside y
    → own_entries v.low x.entries ≡ own_entries v.low v.front
    → y.entries ≡ x.entries ++ job.entries → IsPut v.low v.front job.entries r.front
is_put v r inside t x y job aware entered is own put =
    let there : r ≡ view_after_give trace_log (view_inside trace_log v t x) y =
    is ∙ ap (λ w. view_after_give trace_log w y) entered in
    record {
      before = x.entries;
      begins = (aware.after, aware.front);
      others = own;
      ends = ap (λ w. w.front) there ∙ put;
    }

-- the job has made steps
pub still_knows : (v : PassView) (old new : Task) → IsSameJob old new → Knows v old → Knows v new
still_knows v old new same knows = record {
  front = subst (λ l. Begins l v.front) (sym same.front) knows.front;
  subject = knows.subject ∙ ap Some (sym same.subject);
  worker = same.worker ∙ knows.worker;
  stands = subst (λ d. Contains (lowest_work v no_work).out (d, made_by d new.front)) (sym same.device)
      (subst (λ l. Contains (lowest_work v no_work).out (old.device, made_by old.device l))
      (sym same.front) knows.stands);
}
