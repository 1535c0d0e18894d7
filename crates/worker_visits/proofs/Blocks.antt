-- A worker's own entries, and the blocks that it puts.
use Rattle.std.proofs.Common.{◌≡◌, ℕ, ◌<◌, ◌≤◌, eqb, cond, false, List, [], ◌∷◌, ◌++◌, length, Some, refl, sym}
use Rattle.std.proofs.Common.{ap, subst, ◌∙◌, append_assoc, append-nil, arith}
use Rattle.std.specs.Prelude.{flat_map, Result, Ok, Err, IsOk, IsErr}
use Rattle.std.specs.List.{AllByRecursion}
use Rattle.std.proofs.lemmas.Bool.{eq-eqb}
use Rattle.std.proofs.lemmas.List.{append_cancel_left}
use Rattle.std.proofs.lemmas.List.Elements.{filter-append}
use Rattle.std.proofs.lemmas.Grind.{flat_map-append}
use Rattle.scenario_image.specs.Scenario.{Scenario}
use Rattle.trace_file.specs.declared.entry.Entry.{Entry}
use Rattle.fleet_core.specs.Run.{IsRun, is_enabled}
use Rattle.ticket_lock.specs.Log.{Adds, Begins}
use Rattle.ticket_lock.specs.Lock.{HasNumber}
use Rattle.ticket_lock.specs.Changes.{view_after_give, with_end_seen}
use Rattle.ticket_lock.proofs.Logs.{begins_both, every_one}
use Rattle.shared_trace.specs.declared.claims.Claim.{Claim}
use Rattle.shared_trace.specs.declared.claims.Claim.TheVariants.{Got, Busy, Done, Stalled, Stopped}
use Rattle.shared_trace.specs.Trace.{TraceModel, trace_log}
use Rattle.shared_trace.specs.Job.{Task, IsOf, Advances}
use Rattle.shared_trace.specs.Claims.{Claims}
use Rattle.worker_visits.specs.Blocks.{own_entries, IsBlock, IsPut, HasMade, AreMade, HasPut}
use Rattle.worker_visits.specs.Knowing.{PassView, Follows, Knows}
use Rattle.worker_visits.proofs.Following.{some_is}

pub own-append : (w : ℕ) (a b : List Entry) → own_entries w (a ++ b) ≡ own_entries w a ++ own_entries w b
own-append w a b = filter-append (λ e. eqb e.worker w) a b

-- of a worker's entries alone all are its own
pub own_all : (w : ℕ) (es : List Entry) → AllByRecursion (λ e. e.worker ≡ w) es → own_entries w es ≡ es
own_all w [] h = refl
own_all w (e ∷ es) h =
    ap (λ t. cond t (e ∷ own_entries w es) (own_entries w es)) (eq-eqb e.worker w h.0)
    ∙ ap (λ l. e ∷ l) (own_all w es h.1)

-- a claim leaves the entries
pub claim_leaves : (x y : TraceModel) (w : ℕ) (claim : Claim) → Claims x y w claim → y.entries ≡ x.entries
claim_leaves x y w (Got job) h = ap (λ t. t.entries) h.taken.left
claim_leaves x y w Busy h = ap (λ t. t.entries) h.0.same
claim_leaves x y w Done h = ap (λ t. t.entries) h.0.same
claim_leaves x y w Stalled h = ap (λ t. t.entries) h.0.same
claim_leaves x y w Stopped h = ap (λ t. t.entries) h.1

-- where a visit leaves the entries, the worker has the own entries that its pass had seen
pub own_left : (n : ℕ) (v r inside : PassView) (x y : TraceModel) → r ≡ view_after_give trace_log inside y
    → y.entries ≡ x.entries
    → own_entries n x.entries ≡ own_entries n v.front → own_entries n r.front ≡ own_entries n v.front
own_left n v r inside x y is left own = ap (λ u. own_entries n u.front) is ∙ (ap (own_entries n) left ∙ own)

-- a take that finds no ticket
pub own_ended : (n : ℕ) (v r : PassView) → r ≡ with_end_seen v → own_entries n r.front ≡ own_entries n v.front
own_ended n v r is = ap (λ u. own_entries n u.front) is

-- what is put are the worker's own entries
pub own_block : (w : ℕ) (x y : TraceModel) (job : Task) → Adds trace_log w x y
    → y.entries ≡ x.entries ++ job.entries → own_entries w job.entries ≡ job.entries
own_block w x y job adds put =
    let same : adds.added ≡ job.entries =
    append_cancel_left x.entries adds.added job.entries (sym adds.entries ∙ put) in
    own_all w job.entries (subst (AllByRecursion (λ e. e.worker ≡ w)) same adds.by_worker)

-- after a block the worker has it after its own entries
pub own_put : (w : ℕ) (old block new : List Entry) → IsPut w old block new → own_entries w block ≡ block
    → own_entries w new ≡ own_entries w old ++ block
own_put w old block new put all =
    ap (own_entries w) put.ends
    ∙ (own-append w put.before block
    ∙ (ap (λ l. l ++ own_entries w block) put.others ∙ ap (λ l. own_entries w old ++ l) all))

-- ---- blocks

-- nothing was put
pub put_nothing : (came : ℕ → ℕ → Type 0) (s : Scenario) (w batch : ℕ) (old new : List Entry) → Begins old new
    → own_entries w new ≡ own_entries w old → HasPut came s w batch old new
put_nothing came s w batch old new begins own = record {
  blocks = [];
  own = own ∙ sym (append-nil (own_entries w old));
  made = (begins, own);
}

block_own : (came : ℕ → ℕ → Type 0) (s : Scenario) (w batch : ℕ) (seen block : List Entry)
    → IsBlock came s w batch seen block
    → own_entries w block ≡ block
block_own came s w batch seen block is =
    own_all w block (every_one (IsOf w is.device) (λ e. e.worker ≡ w) (λ e h. h.0) block is.each)

-- a block was put
pub put_block : (came : ℕ → ℕ → Type 0) (s : Scenario) (w batch : ℕ) (old block new : List Entry)
    → HasMade came s w batch old block new
    → HasPut came s w batch old new
put_block came s w batch old block new made = record {
  blocks = block ∷ [];
  own = own_put w old block new made.put (block_own came s w batch made.seen block made.made)
      ∙ ap (λ l. own_entries w old ++ l) (sym (append-nil block));
  made = (new, made, (([], sym (append-nil new)), refl));
}

-- the worker's next block comes after more entries of others
made_later : (came : ℕ → ℕ → Type 0) (s : Scenario) (w batch : ℕ) (old mid block new : List Entry) → Begins old mid
    → own_entries w mid ≡ own_entries w old → HasMade came s w batch mid block new
    → HasMade came s w batch old block new
made_later came s w batch old mid block new begins own made = record {
  put = record {
    before = made.put.before;
    begins = begins_both old mid made.put.before begins made.put.begins;
    others = made.put.others ∙ own;
    ends = made.put.ends;
  };
  seen = made.seen;
  begins = made.begins;
  made = made.made;
}

are_later : (came : ℕ → ℕ → Type 0) (s : Scenario) (w batch : ℕ) (old mid : List Entry) (blocks : List (List Entry))
    (new : List Entry)
    → Begins old mid → own_entries w mid ≡ own_entries w old → AreMade came s w batch mid blocks new
    → AreMade came s w batch old blocks new
are_later came s w batch old mid [] new begins own made = (begins_both old mid new begins made.0, made.1 ∙ own)
are_later came s w batch old mid (block ∷ blocks) new begins own made =
    (made.0, made_later came s w batch old mid block made.0 begins own made.1, made.2)

are_both : (came : ℕ → ℕ → Type 0) (s : Scenario) (w batch : ℕ) (old : List Entry) (first : List (List Entry))
    (mid : List Entry)
    (second : List (List Entry)) (new : List Entry) → AreMade came s w batch old first mid
    → AreMade came s w batch mid second new → AreMade came s w batch old (first ++ second) new
are_both came s w batch old [] mid second new a b = are_later came s w batch old mid second new a.0 a.1 b
are_both came s w batch old (block ∷ first) mid second new a b =
    (a.0, a.1, are_both came s w batch a.0 first mid second new a.2 b)

-- first the one, then the other
pub put_both : (came : ℕ → ℕ → Type 0) (s : Scenario) (w batch : ℕ) (old mid new : List Entry)
    → HasPut came s w batch old mid
    → HasPut came s w batch mid new → HasPut came s w batch old new
put_both came s w batch old mid new a b = record {
  blocks = a.blocks ++ b.blocks;
  own = b.own
      ∙ (ap (λ l. l ++ flat_map (λ block. block) b.blocks) a.own
      ∙ (append_assoc (own_entries w old) (flat_map (λ block. block) a.blocks) (flat_map (λ block. block) b.blocks)
      ∙ ap (λ l. own_entries w old ++ l) (sym (flat_map-append (λ block. block) a.blocks b.blocks))));
  made = are_both came s w batch old a.blocks mid b.blocks new a.made b.made;
}

-- others have added to the log since
pub put_longer : (came : ℕ → ℕ → Type 0) (s : Scenario) (w batch : ℕ) (old mid new : List Entry)
    → HasPut came s w batch old mid → Begins mid new
    → own_entries w new ≡ own_entries w mid → HasPut came s w batch old new
put_longer came s w batch old mid new put begins own =
    put_both came s w batch old mid new put (put_nothing came s w batch mid new begins own)

-- ---- by passes

-- a visit that adds nothing
pub visit_puts : (came : ℕ → ℕ → Type 0) (s : Scenario) (batch : ℕ) (v r : PassView) → Follows v r
    → own_entries v.low r.front ≡ own_entries v.low v.front → HasPut came s v.low batch v.front r.front
visit_puts came s batch v r follows own =
    put_nothing came s v.low batch v.front r.front (follows.added, follows.front) own

-- a visit that puts a block, where it is answered so, and nothing otherwise
pub block_or_nothing : {A B : Type 0} (came : ℕ → ℕ → Type 0) (s : Scenario) (batch : ℕ) (v r : PassView)
    (block : List Entry)
    (answer : Result A B) → Follows v r → (IsOk answer → HasMade came s v.low batch v.front block r.front)
    → (IsErr answer → own_entries v.low r.front ≡ own_entries v.low v.front) → HasPut came s v.low batch v.front r.front
block_or_nothing came s batch v r block (Ok a) follows made kept =
    put_block came s v.low batch v.front block r.front (made refl)
block_or_nothing came s batch v r block (Err e) follows made kept = visit_puts came s batch v r follows (kept refl)

-- of a pass with numbers one is the lowest
pub has_low : (v : PassView) → 0 < v.count → HasNumber v v.low
has_low v some = (omega arith, omega arith)

-- one visit after another, by the same pass
pub puts_both : (came : ℕ → ℕ → Type 0) (s : Scenario) (batch : ℕ) (u v w : PassView)
    → HasPut came s u.low batch u.front v.front → v.low ≡ u.low
    → HasPut came s v.low batch v.front w.front → HasPut came s u.low batch u.front w.front
puts_both came s batch u v w a low b =
    put_both came s u.low batch u.front v.front w.front a (subst (λ n. HasPut came s n batch v.front w.front) low b)

-- what a job has made since its claim is a block
pub made_block : (came : ℕ → ℕ → Type 0) (s : Scenario) (batch : ℕ) (v r : PassView) (old new : Task)
    → v.subject ≡ Some s
    → Knows v old
    → old.entries ≡ [] → Advances old new batch → 1 ≤ length new.entries → IsRun new.subject (new.front ++ new.entries)
    → AllByRecursion (IsOf new.worker new.device) new.entries → came v.low old.device
    → IsPut v.low v.front new.entries r.front → HasMade came s v.low batch v.front new.entries r.front
made_block came s batch v r old new subject knows fresh advances least run each gate put =
    let made : new.entries ≡ advances.added = advances.entries ∙ ap (λ l. l ++ advances.added) fresh in
    let same : new.subject ≡ s = advances.same.subject ∙ some_is old.subject s (sym knows.subject ∙ subject) in
    let worker : new.worker ≡ v.low = advances.same.worker ∙ knows.worker in
    record {
      put = put;
      seen = new.front;
      begins = begins_both new.front v.front put.before
          (subst (λ l. Begins l v.front) (sym advances.same.front) knows.front) put.begins;
      made = record {
        run = subst (λ k. IsRun k (new.front ++ new.entries)) same run;
        least = least;
        most = subst (λ l. length l ≤ batch) (sym made) advances.most;
        device = new.device;
        each = subst (λ n. AllByRecursion (IsOf n new.device) new.entries) worker each;
        stops = λ less. subst (λ k. is_enabled k (new.front ++ new.entries) new.device ≡ false) same
            (advances.stops (subst (λ l. length l < batch) made less));
        gate = subst (came v.low) (sym advances.same.device) gate;
      };
    }
