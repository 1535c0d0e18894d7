-- One step of a job.
use Rattle.std.proofs.Common.{◌≡◌, ℕ, zero, suc, ◌+◌, ◌<◌, ◌≤◌, eqb, Bool, true, false, inl, inr, List, [], ◌∷◌}
use Rattle.std.proofs.Common.{◌++◌, length, Some, slice_index, refl, sym, ap, subst, ◌∙◌, arith, add-one}
use Rattle.std.specs.Prelude.{◌==◌, count_by}
use Rattle.std.specs.List.{AllByRecursion}
use Rattle.std.proofs.lemmas.List.{length-append, append-nil, append_assoc}
use Rattle.std.proofs.lemmas.List.Sums.{sum_by_push}
use Rattle.std.proofs.lemmas.Bool.{cases_eq, false≢true}
use Rattle.lemmas.proofs.Lists.{each_pushed, empty_from_length}
use Rattle.scenario_image.specs.declared.step.Step.{Step}
use Rattle.scenario_image.specs.declared.step.Step.TheVariants.{Event, Post, Need}
use Rattle.scenario_image.specs.Scenario.{Scenario}
use Rattle.trace_file.specs.declared.entry.Entry.{Entry}
use Rattle.fleet_core.specs.Run.{made_by, posts_of, posts_to, is_post, step_at, out_at, is_enabled, entry_of, IsRun}
use Rattle.fleet_core.specs.Board.{HoldsAfter, posts_after, Holding}
use Rattle.fleet_core.proofs.Posts.{one, run_push, enabled_fits, made_same, posts-push}
use Rattle.fleet_core.proofs.Valid.{posts_within}
use Rattle.fleet_core.proofs.Taken.{place_below}
use Rattle.fleet_core.proofs.Board.{noted, posts_length}
use Rattle.fleet_core.specs.declared.next.Next.{Next}
use Rattle.fleet_core.specs.Next.{next_of, may_pass}
use Rattle.shared_trace.specs.Job.{Task, IsOf, IsStepped, IsGrown, Advances, seen_by, can_step, entry_next}
use Rattle.shared_trace.specs.Kept.{IsTask, IsOnWay, IsJob, table_length, groups_in}
use Rattle.shared_trace.proofs.Nexts.{pass_enabled}
use Rattle.shared_trace.proofs.Lengths.{post_has_place}

abbrev pub tasked : Scenario → ℕ → ℕ → List Entry → List Entry → Holding → Bool → Task
tasked s w d front es x spent =
    record { subject = s; worker = w; device = d; front = front; entries = es; held = x; spent = spent }

-- a job that may go on
pub record IsGoing (s : Scenario) (w d : ℕ) (front es : List Entry) (x : Holding) (counts groups : List ℕ) (k : ℕ)
    (n : Next) : Type 0 where
  pub task : IsTask s w d front es
  pub way : IsOnWay s d (front ++ es) es x counts groups k n

pub going : (v : Task) (s : Scenario) (w d : ℕ) (front es : List Entry) (x : Holding) (spent : Bool)
    (counts groups : List ℕ) (k : ℕ) (n : Next) → tasked s w d front es x spent ≡ v
    → IsJob s w d front es x spent counts groups k n → v.spent ≡ false → IsGoing s w d front es x counts groups k n
going v s w d front es x spent counts groups k n view job ready =
    record { task = job.task; way = job.ready (ap (λ t. t.spent) view ∙ ready) }

-- whether it can step
pub goes : (v : Task) (s : Scenario) (w d : ℕ) (front es : List Entry) (x : Holding) (spent : Bool)
    (counts groups l : List ℕ) (k : ℕ) (n : Next) (b : Bool) → tasked s w d front es x spent ≡ v
    → IsGoing s w d front es x counts groups k n → l ≡ counts → b ≡ may_pass (λ g. slice_index l g) n → can_step v ≡ b
goes v s w d front es x spent counts groups l k n b view g same is =
    sym (is ∙ (ap (λ m. may_pass (λ i. slice_index m i) n) same
    ∙ (pass_enabled s (front ++ es) d (λ i. slice_index counts i) n g.way.known g.way.next ∙ ap can_step view)))

pub able_here : (s : Scenario) (w d : ℕ) (front es : List Entry) (x : Holding) (counts groups l : List ℕ) (k : ℕ)
    (n : Next) (b : Bool)
    → IsGoing s w d front es x counts groups k n → l ≡ counts → b ≡ may_pass (λ g. slice_index l g) n
    → is_enabled s (front ++ es) d ≡ b
able_here s w d front es x counts groups l k n b g same is =
    sym (is ∙ (ap (λ m. may_pass (λ i. slice_index m i) n) same
    ∙ pass_enabled s (front ++ es) d (λ i. slice_index counts i) n g.way.known g.way.next))

pub holds_here : (v : Task) (s : Scenario) (w d : ℕ) (front es : List Entry) (x : Holding) (spent : Bool)
    (counts groups : List ℕ) (k : ℕ) (n : Next) (scenario : Scenario) → tasked s w d front es x spent ≡ v
    → IsGoing s w d front es x counts groups k n → scenario ≡ v.subject → HoldsAfter scenario d k x
holds_here v s w d front es x spent counts groups k n scenario view g same =
    subst (λ t. HoldsAfter t d k x) (ap (λ t. t.subject) view ∙ sym same)
    (subst (λ m. HoldsAfter s d m x) (sym g.way.place) g.way.holds)

-- the step that comes next
pub step_here : (v : Task) (s : Scenario) (w d : ℕ) (front es : List Entry) (x : Holding) (spent : Bool)
    (scenario : Scenario) (k : ℕ) (step : Step) → tasked s w d front es x spent ≡ v
    → scenario ≡ v.subject → Some step ≡ step_at scenario d k → step_at s d k ≡ Some step
step_here v s w d front es x spent scenario k step view same at =
    subst (λ t. step_at t d k ≡ Some step) (same ∙ sym (ap (λ t. t.subject) view)) (sym at)

pub post_within : (s : Scenario) (w d : ℕ) (front es : List Entry) (x : Holding) (counts groups : List ℕ) (k : ℕ)
    (n : Next) (step : Step) → IsGoing s w d front es x counts groups k n
    → step_at s d k ≡ Some step → (group : ℕ) → step ≡ Post group → group < length counts
post_within s w d front es x counts groups k n step g at group is =
    omega (arith, post_has_place s d k group (at ∙ ap Some is), g.way.table)

pub table_room : (s : Scenario) (w d : ℕ) (front es : List Entry) (x : Holding) (counts groups : List ℕ) (k : ℕ)
    (n : Next) → IsGoing s w d front es x counts groups k n
    → (g : ℕ) → slice_index counts g + 1 < 4294967296
table_room s w d front es x counts groups k n job g =
    omega (arith, job.way.known g, posts_within s g (front ++ es) job.task.valid job.task.run)

pub place_room : (s : Scenario) (w d : ℕ) (front es : List Entry) (x : Holding) (counts groups : List ℕ) (k : ℕ)
    (n : Next) (step : Step) → IsGoing s w d front es x counts groups k n
    → step_at s d k ≡ Some step → k + 1 < 4294967296
place_room s w d front es x counts groups k n step g at = omega (arith, place_below s d k step g.task.valid at)

-- ---- the tables after a step

grouped : (groups : List ℕ) (step : Step) (g : ℕ)
    → count_by (λ h. h == g) (groups ++ groups_in step) ≡ count_by (λ h. h == g) groups + one (posts_to g step)
grouped groups (Event event) g = ap (count_by (λ h. h == g)) (append-nil groups) ∙ omega arith
grouped groups (Post group) g = sum_by_push (λ h. one (eqb h g)) groups group
grouped groups (Need group count) g = ap (count_by (λ h. h == g)) (append-nil groups) ∙ omega arith

grouped_within : (groups : List ℕ) (step : Step) (n : ℕ) → AllByRecursion (λ h. h < n) groups
    → ((group : ℕ) → step ≡ Post group → group < n)
    → AllByRecursion (λ h. h < n) (groups ++ groups_in step)
grouped_within groups (Event event) n all within = subst (AllByRecursion (λ h. h < n)) (sym (append-nil groups)) all
grouped_within groups (Post group) n all within = each_pushed (λ h. h < n) groups group all (within group refl)
grouped_within groups (Need group count) n all within =
    subst (AllByRecursion (λ h. h < n)) (sym (append-nil groups)) all

-- ---- the job after a step

-- a step of a job, and what came of it
pub record IsMade (s : Scenario) (w d : ℕ) (front es : List Entry) (counts groups : List ℕ) (k : ℕ) (step : Step)
    (e : Entry) (y : Holding) (after more : List ℕ) (m : Next) : Type 0 where
  pub at : step_at s d k ≡ Some step
  pub able : is_enabled s (front ++ es) d ≡ true
  pub entry : e ≡ record { worker = w; device = d; step = k; outputs = out_at s d k }
  pub holds : HoldsAfter s d (k + 1) y
  pub known : after ≡ posts_after counts step
  pub posted : more ≡ groups ++ groups_in step
  pub next : m ≡ next_of (step_at s d (k + 1))

-- a step that is made by the job's scenario, which is that of its subject
pub step_made : (v : Task) (s : Scenario) (w d : ℕ) (front es : List Entry) (x y : Holding) (spent : Bool)
    (counts groups l after more : List ℕ) (k : ℕ) (n m : Next) (scenario : Scenario) (step : Step) (e : Entry)
    → tasked s w d front es x spent ≡ v → IsGoing s w d front es x counts groups k n → scenario ≡ v.subject
    → Some step ≡ step_at scenario d k → l ≡ counts → true ≡ may_pass (λ g. slice_index l g) n
    → e ≡ record { worker = w; device = d; step = k; outputs = out_at scenario d k }
    → HoldsAfter scenario d (k + 1) y → after ≡ posts_after counts step → more ≡ groups ++ groups_in step
    → m ≡ next_of (step_at scenario d (k + 1)) → IsMade s w d front es counts groups k step e y after more m
step_made v s w d front es x y spent counts groups l after more k n m scenario step e view g subject at table goes entry
    holds known posted next =
    let same : scenario ≡ s = subject ∙ sym (ap (λ t. t.subject) view) in
    record {
      at = step_here v s w d front es x spent scenario k step view subject at;
      able = able_here s w d front es x counts groups l k n true g table goes;
      entry = entry ∙ ap (λ t. record { worker = w; device = d; step = k; outputs = out_at t d k }) same;
      holds = subst (λ t. HoldsAfter t d (k + 1) y) same holds;
      known = known;
      posted = posted;
      next = next ∙ ap (λ t. next_of (step_at t d (k + 1))) same;
    }

made_entry : (s : Scenario) (w d : ℕ) (front es : List Entry) (x y : Holding) (counts groups after more : List ℕ)
    (k : ℕ)
    (n m : Next) (step : Step) (e : Entry)
    → IsGoing s w d front es x counts groups k n → IsMade s w d front es counts groups k step e y after more m
    → e ≡ entry_of s w d (front ++ es)
made_entry s w d front es x y counts groups after more k n m step e g made =
    made.entry ∙ ap (λ i. record { worker = w; device = d; step = i; outputs = out_at s d i }) g.way.place

made_task : (s : Scenario) (w d : ℕ) (front es : List Entry) (e : Entry) → IsTask s w d front es
    → is_enabled s (front ++ es) d ≡ true → e ≡ entry_of s w d (front ++ es)
    → IsTask s w d front (es ++ e ∷ [])
made_task s w d front es e task able is =
    subst (λ y. IsTask s w d front (es ++ y ∷ [])) (sym is) (record {
      valid = task.valid;
      run = subst (IsRun s) (append_assoc front es (entry_of s w d (front ++ es) ∷ []))
          (run_push s (front ++ es) (entry_of s w d (front ++ es)) task.run (enabled_fits s (front ++ es) w d able));
      each = each_pushed (IsOf w d) es (entry_of s w d (front ++ es)) task.each (refl, refl);
      began = task.began;
    })

made_way : (s : Scenario) (w d : ℕ) (seen es : List Entry) (x y : Holding) (counts groups after more : List ℕ)
    (k : ℕ)
    (n m : Next) (step : Step) → IsOnWay s d seen es x counts groups k n
    → step_at s d k ≡ Some step → ((group : ℕ) → step ≡ Post group → group < table_length s) → HoldsAfter s d (k + 1) y
    → after ≡ posts_after counts step → more ≡ groups ++ groups_in step
    → m ≡ next_of (step_at s d (k + 1))
    → IsOnWay s d (seen ++ entry_of s w d seen ∷ []) (es ++ entry_of s w d seen ∷ []) y after more (k + 1) m
made_way s w d seen es x y counts groups after more k n m step way at within holds known posted next =
    let e = entry_of s w d seen in
    let count : k + 1 ≡ made_by d (seen ++ e ∷ []) = add-one k ∙ (ap suc way.place ∙ sym (made_same d seen e refl)) in
    let here : step_at s d (made_by d seen) ≡ Some step = subst (λ i. step_at s d i ≡ Some step) way.place at in
    record {
      holds = subst (λ i. HoldsAfter s d i y) count holds;
      known = λ g.
          ap (λ l. slice_index l g) known
          ∙ noted s seen e step counts (λ group is. omega (arith, within group is, way.table)) here g (way.known g);
      table = ap length known ∙ (posts_length counts step ∙ way.table);
      posted = λ g.
          ap (count_by (λ h. h == g)) posted
          ∙ (grouped groups step g
          ∙ (ap (λ i. i + one (posts_to g step)) (way.posted g)
          ∙ (ap (λ o. posts_of s g es + one (is_post g o)) (sym here) ∙ sym (posts-push s g es e))));
      within = subst (AllByRecursion (λ h. h < table_length s)) (sym posted)
          (grouped_within groups step (table_length s) way.within within);
      place = count;
      next = next ∙ ap (λ i. next_of (step_at s d i)) count;
    }

pub made_job : (s : Scenario) (w d : ℕ) (front es new : List Entry) (x y : Holding)
    (counts groups after more : List ℕ)
    (k : ℕ) (n m : Next) (step : Step) (e : Entry)
    → IsGoing s w d front es x counts groups k n → IsMade s w d front es counts groups k step e y after more m
    → new ≡ es ++ e ∷ []
    → IsJob s w d front new y false after more (k + 1) m
made_job s w d front es new x y counts groups after more k n m step e g made is =
    let entry : e ≡ entry_of s w d (front ++ es) =
    made_entry s w d front es x y counts groups after more k n m step e g made in
    subst (λ l. IsJob s w d front l y false after more (k + 1) m) (sym (is ∙ ap (λ z. es ++ z ∷ []) entry)) (record {
      task = made_task s w d front es (entry_of s w d (front ++ es)) g.task made.able refl;
      ready = λ r. subst (λ l. IsOnWay s d l (es ++ entry_of s w d (front ++ es) ∷ []) y after more (k + 1) m)
          (append_assoc front es (entry_of s w d (front ++ es) ∷ []))
          (made_way s w d (front ++ es) es x y counts groups after more k n m step g.way made.at
          (λ group at. post_has_place s d k group (made.at ∙ ap Some at)) made.holds made.known made.posted
          made.next);
    })

pub made_step : (v : Task) (s : Scenario) (w d : ℕ) (front es new : List Entry) (x y : Holding) (spent : Bool)
    (counts groups after more : List ℕ) (k : ℕ) (n m : Next) (step : Step) (e : Entry)
    → tasked s w d front es x spent ≡ v → IsGoing s w d front es x counts groups k n
    → IsMade s w d front es counts groups k step e y after more m → new ≡ es ++ e ∷ []
    → IsStepped v (tasked s w d front new y false)
made_step v s w d front es new x y spent counts groups after more k n m step e view g made is =
    let entry : e ≡ entry_of s w d (front ++ es) =
    made_entry s w d front es x y counts groups after more k n m step e g made in
    subst (λ u. IsStepped u (tasked s w d front new y false)) view (record {
      same = record { subject = refl; worker = refl; device = refl; front = refl };
      able = made.able;
      entries = is ∙ ap (λ z. es ++ z ∷ []) entry;
      ready = refl;
    })

-- ---- several steps

pub grown_none : (v : Task) → v.spent ≡ false → IsGrown v v 0
grown_none v ready = record {
  same = record { subject = refl; worker = refl; device = refl; front = refl };
  added = [];
  entries = sym (append-nil v.entries);
  exact = refl;
  ready = ready;
  first = λ e. refl;
}

pub grown_more : (a b c : Task) (n : ℕ) → IsGrown a b n → IsStepped b c → IsGrown a c (n + 1)
grown_more a b c n h step = record {
  same = record {
    subject = step.same.subject ∙ h.same.subject;
    worker = step.same.worker ∙ h.same.worker;
    device = step.same.device ∙ h.same.device;
    front = step.same.front ∙ h.same.front;
  };
  added = h.added ++ entry_next b ∷ [];
  entries = step.entries ∙ (ap (λ l. l ++ entry_next b ∷ []) h.entries
      ∙ append_assoc a.entries h.added (entry_next b ∷ []));
  exact = omega (arith, length-append h.added (entry_next b ∷ []), h.exact);
  ready = step.ready;
  first = λ e. absurd (omega (arith, e));
}

pub stopped_early : (a b c : Task) (n batch : ℕ) → IsGrown a b n → n < batch → (c ≡ b) × (can_step b ≡ false)
    → Advances a c batch
stopped_early a b c n batch h less end =
    subst (λ u. Advances a u batch) (sym end.0) (record {
      same = h.same;
      added = h.added;
      entries = h.entries;
      most = omega (arith, h.exact, less);
      stops = λ e. end.1;
      ready = h.ready;
    })

some_made : (a b : Task) (n : ℕ) → IsGrown a b n → 1 ≤ n → 1 ≤ length b.entries
some_made a b n h one_at_least = omega (arith, ap length h.entries, length-append a.entries h.added, h.exact)

not_first : (a b : Task) (n : ℕ) → IsGrown a b n → can_step b ≡ false → is_enabled b.subject b.front b.device ≡ true
    → a.entries ≡ [] → n ≡ 0 → ⊥
not_first a b n h end began none zero_made =
    let empty : length h.added ≡ 0 = h.exact ∙ zero_made in
    let nothing : b.entries ≡ [] = h.entries ∙ (ap (λ l. l ++ h.added) none ∙ empty_from_length h.added empty) in
    let seen : seen_by b ≡ b.front = ap (λ l. b.front ++ l) nothing ∙ append-nil b.front in
    false≢true (sym end ∙ (ap (λ l. is_enabled b.subject l b.device) seen ∙ began))

positive : (n : ℕ) → (n ≡ 0 → ⊥) → 1 ≤ n
positive zero h = absurd (h refl)
positive (suc n) h = omega arith

pub fresh_early : (a b c : Task) (n : ℕ) → IsGrown a b n → (c ≡ b) × (can_step b ≡ false)
    → is_enabled b.subject b.front b.device ≡ true → a.entries ≡ [] → 1 ≤ length c.entries
fresh_early a b c n h end began none =
    subst (λ u. 1 ≤ length u.entries) (sym end.0) (elim (cases_eq n 0) [
      | inl zero_made ↦ absurd (not_first a b n h end.1 began none zero_made)
      | inr more ↦ some_made a b n h (positive n more)
    ])

pub stopped_full : (a b : Task) (n batch : ℕ) → IsGrown a b n → batch ≤ n → n ≤ batch → Advances a b batch
stopped_full a b n batch h past within = record {
  same = h.same;
  added = h.added;
  entries = h.entries;
  most = omega (arith, h.exact, within);
  stops = λ e. absurd (omega (arith, e, h.exact, past));
  ready = h.ready;
}

pub fresh_full : (a b : Task) (n batch : ℕ) → IsGrown a b n → batch ≤ n → 1 ≤ batch → 1 ≤ length b.entries
fresh_full a b n batch h past some_batch = some_made a b n h (omega (arith, past, some_batch))

-- what several steps make of a job
pub ruleset steps_made = (grown_none, grown_more, stopped_early, fresh_early, stopped_full, fresh_full)
