-- A job that is put into its trace again.
use Rattle.std.proofs.Common.{◌≡◌, ℕ, ◌+◌, ◌<◌, ◌≤◌, nat_lt, ◌⊎◌, inl, inr, Bool, true, false, List, ◌++◌, length, set}
use Rattle.std.proofs.Common.{Some, slice_get, slice_index, refl, sym, ap, subst, ◌∙◌, arith}
use Rattle.std.specs.Prelude.{◌==◌, count_by}
use Rattle.std.specs.List.{AllByRecursion}
use Rattle.std.proofs.lemmas.List.{length-set}
use Rattle.std.proofs.lemmas.Option.{slice_get_within}
use Rattle.std.proofs.lemmas.Bool.{cases_eq, ne_eqb}
use Rattle.lemmas.proofs.Lists.{set_elsewhere, set_gives}
use Rattle.scenario_image.specs.Scenario.{Scenario}
use Rattle.trace_file.specs.declared.entry.Entry.{Entry}
use Rattle.fleet_core.specs.Run.{steps_in, made_by, posts_of, step_at, IsRun}
use Rattle.fleet_core.specs.Board.{HoldsAfter, Holding}
use Rattle.fleet_core.specs.Blocks.{AreOf}
use Rattle.fleet_core.proofs.Sums.{made-append, posts-append}
use Rattle.fleet_core.proofs.Valid.{posts_within}
use Rattle.fleet_core.proofs.Blocks.{block_follows, block_others}
use Rattle.ticket_lock.specs.Log.{Adds}
use Rattle.fleet_core.specs.declared.next.Next.{Next}
use Rattle.device_stations.specs.declared.station.Place.{Place}
use Rattle.device_stations.specs.declared.station.Place.TheVariants.{Parked, Out}
use Rattle.device_stations.specs.declared.station.Station.{Station}
use Rattle.fleet_core.specs.Next.{next_of}
use Rattle.shared_trace.specs.declared.stops.Stops.{Stops}
use Rattle.shared_trace.specs.Stops.{numbers_in, is_among}
use Rattle.shared_trace.specs.Trace.{TraceModel, IsPlaced, with_block, trace_log}
use Rattle.shared_trace.specs.Job.{Task, IsOf, MayPut}
use Rattle.shared_trace.specs.Kept.{IsTrace, IsStation, IsTask, IsOnWay, IsJob, places_of}
use Rattle.device_stations.specs.Stations.{AreEnded}
use Rattle.shared_trace.proofs.Lists.{from_map, map-set, all_weaker}
use Rattle.shared_trace.proofs.Open.{IsOpen, open_same, open_tells}
use Rattle.shared_trace.proofs.Stations.{traced}
use Rattle.shared_trace.proofs.Ended.{ended_set}
use Rattle.shared_trace.proofs.Stepping.{tasked}

-- a job that may be put into a trace
pub record IsFitting (s : Scenario) (es : List Entry) (stations : List Station) (counts : List ℕ) (w d : ℕ)
    (front block : List Entry) (x : Holding) (known groups : List ℕ) (k : ℕ) (n : Next) : Type 0 where
  pub trace : IsTrace s es stations counts
  pub task : IsTask s w d front block
  pub way : IsOnWay s d (front ++ block) block x known groups k n
  pub place : slice_get (places_of stations) d ≡ Some (Out w)
  pub count : made_by d front ≡ made_by d es
  pub posts : (g : ℕ) → posts_of s g front ≤ posts_of s g es

fits_here : (v : TraceModel) (job : Task) (es : List Entry) (stations : List Station) (counts : List ℕ) (stops : Stops)
    (s : Scenario) (w d : ℕ) (front block : List Entry) (x : Holding)
    (known groups : List ℕ) (k : ℕ) (n : Next) → traced s es stations stops ≡ v
    → tasked s w d front block x false ≡ job → IsTrace s es stations counts
    → IsTask s w d front block → IsOnWay s d (front ++ block) block x known groups k n → MayPut v w job
    → IsFitting s es stations counts w d front block x known groups k n
fits_here v job es stations counts stops s w d front block x known groups k n view is trace task way may =
    let plain : MayPut (traced s es stations stops) w (tasked s w d front block x false) =
    subst (λ u. MayPut u w (tasked s w d front block x false)) (sym view) (subst (MayPut v w) (sym is) may) in
    let found : IsOpen w (places_of stations) es 0 d (made_by d front) =
    open_tells w (places_of stations) es 0 d (made_by d front) plain.stands in
    let here : found.place ≡ d = omega (arith, found.device) in
    record {
      trace = trace;
      task = task;
      way = way;
      place = subst (λ i. slice_get (places_of stations) i ≡ Some (Out w)) here found.at;
      count = found.count;
      posts = plain.posts;
    }

pub fitting : (v : TraceModel) (job : Task) (t : Scenario) (es : List Entry) (stations : List Station) (counts : List ℕ)
    (stops : Stops) (s : Scenario) (u w d : ℕ) (front block : List Entry) (x : Holding)
    (spent : Bool) (known groups : List ℕ) (k : ℕ) (n : Next) → traced t es stations stops ≡ v
    → tasked s u d front block x spent ≡ job → IsTrace t es stations counts
    → IsJob s u d front block x spent known groups k n → MayPut v w job
    → IsFitting t es stations counts w d front block x known groups k n
fitting v job t es stations counts stops s u w d front block x spent known groups k n view is trace inside may =
    let subject : s ≡ t = ap (λ j. j.subject) is ∙ (may.subject ∙ sym (ap (λ i. i.subject) view)) in
    let worker : u ≡ w = ap (λ j. j.worker) is ∙ may.worker in
    let ready : spent ≡ false = ap (λ j. j.spent) is ∙ may.ready in
    let same : tasked t w d front block x false ≡ job =
    ap (λ i. tasked i w d front block x false) (sym subject)
    ∙ (ap (λ i. tasked s i d front block x false) (sym worker)
    ∙ (ap (λ b. tasked s u d front block x b) (sym ready) ∙ is)) in
    fits_here v job es stations counts stops t w d front block x known groups k n view same trace
    (subst (λ i. IsTask i w d front block) subject (subst (λ i. IsTask s i d front block) worker inside.task))
    (subst (λ i. IsOnWay i d (front ++ block) block x known groups k n) subject (inside.ready ready)) may

module _ {s : Scenario} {es : List Entry} {stations : List Station} {counts : List ℕ} {w d : ℕ}
    {front block : List Entry} {x : Holding} {known groups : List ℕ} {k : ℕ} {n : Next}
    (f : IsFitting s es stations counts w d front block x known groups k n) where
  pub own_block : AreOf d block
  own_block = all_weaker (IsOf w d) (λ e. e.device ≡ d) block (λ e h. h.1) f.task.each

  pub put_run : IsRun s (es ++ block)
  put_run = block_follows s d front es block f.task.run f.trace.run own_block f.count f.posts

  put_made : made_by d (front ++ block) ≡ made_by d (es ++ block)
  put_made = omega (arith, made-append d front block, made-append d es block, f.count)

  pub put_within : AllByRecursion (λ h. h < length counts) groups
  put_within = subst (λ i. AllByRecursion (λ h. h < i) groups) (sym f.trace.table) f.way.within

  pub put_room : (g : ℕ) → slice_index counts g + count_by (λ h. h == g) groups < 4294967296
  put_room g = omega (
    arith,
    f.trace.posts g,
    f.way.posted g,
    posts-append s g es block,
    posts_within s g (es ++ block) f.trace.valid put_run,
  )

  pub put_place : d < length stations
  put_place = let found =
      from_map (λ y. y.place) stations d (Out w) f.place in slice_get_within stations d found.0 found.1

  placed_same : (i : ℕ) (p : Place) → made_by i (es ++ block) ≡ made_by i es → IsPlaced s es i p
      → IsPlaced s (es ++ block) i p
  placed_same i (Parked y) same h = subst (λ m. HoldsAfter s i m y) (sym same) h
  placed_same i (Out v) same h = subst (λ m. nat_lt m (length (steps_in (slice_get s.rows i))) ≡ true) (sym same) h

  put_station : (y z : Station) (i : ℕ) → y.place ≡ Parked x → y.made ≡ k → y.next ≡ n → y.known.items ≡ known
      → slice_get (set stations d y) i ≡ Some z → (d ≡ i) ⊎ (d ≡ i → ⊥)
      → IsStation s (es ++ block) i z
  put_station y z i place made next table at (inl own) =
      subst (λ j. IsStation s (es ++ block) j z) own
      (subst (IsStation s (es ++ block) d) (set_gives stations d y z
      (subst (λ j. slice_get (set stations d y) j ≡ Some z) (sym own) at)) (record {
        placed = subst (IsPlaced s (es ++ block) d) (sym place) (subst (λ m. HoldsAfter s d m x) put_made f.way.holds);
        made = made ∙ (f.way.place ∙ put_made);
        next = next ∙ (f.way.next ∙ ap (λ m. next_of (step_at s d m)) put_made);
        known = λ parked. ap length table ∙ f.way.table;
      }))
  put_station y z i place made next table at (inr other) =
      let old : IsStation s es i z = f.trace.each i z (sym (set_elsewhere stations d i y other) ∙ at) in
      let same : made_by i (es ++ block) ≡ made_by i es = block_others d i es block own_block other in
      record {
        placed = placed_same i z.place same old.placed;
        made = old.made ∙ sym same;
        next = old.next ∙ ap (λ m. next_of (step_at s i m)) (sym same);
        known = old.known;
      }

  pub put_trace : (y : Station) (i : ℕ) (all : List Entry) (after : List ℕ) → i ≡ d → all ≡ es ++ block
      → y.place ≡ Parked x → y.made ≡ k → y.next ≡ n → y.known.items ≡ known
      → length after ≡ length counts
      → ((g : ℕ) → slice_index after g ≡ slice_index counts g + count_by (λ h. h == g) groups)
      → IsTrace s all (set stations i y) after
  put_trace y i all after from more place made next table count sums =
      subst (λ l. IsTrace s l (set stations i y) after) (sym more)
      (subst (λ j. IsTrace s (es ++ block) (set stations j y) after) (sym from) (record {
        valid = f.trace.valid;
        run = put_run;
        count = length-set stations d y ∙ f.trace.count;
        each = λ j z at. put_station y z j place made next table at (cases_eq d j);
        posts = λ g. omega (arith, sums g, f.trace.posts g, f.way.posted g, posts-append s g es block);
        table = count ∙ f.trace.table;
      }))

  pub put_ended : (y : Station) (i low : ℕ) → i ≡ d → AreEnded stations low → AreEnded (set stations i y) low
  put_ended y i low from ended =
      let found = from_map (λ z. z.place) stations d (Out w) f.place in
      ended_set s es stations counts low d i found.0 y f.trace found.1
      (subst (IsPlaced s es d) found.2 (f.trace.each d found.0 found.1).placed) from ended

  pub put_view : (v : TraceModel) (stops : Stops) (y : Station) (i : ℕ) (all : List Entry)
      → traced s es stations stops ≡ v → i ≡ d → all ≡ es ++ block → y.place ≡ Parked x
      → traced s all (set stations i y) stops ≡ with_block v d x block
  put_view v stops y i all view from more place =
      ap (λ l. traced s l (set stations i y) stops) more
      ∙ (ap (λ l. record { subject = s; entries = es ++ block; places = l; stopped_by = numbers_in stops })
      (map-set (λ z. z.place) stations i y ∙ (ap (λ j. set (places_of stations) j y.place) from
      ∙ ap (λ p. set (places_of stations) d p) place))
      ∙ ap (λ u. with_block u d x block) view)

  pub put_adds : (v new : TraceModel) (stops : Stops) → traced s es stations stops ≡ v → new ≡ with_block v d x block
      → Adds trace_log w v new
  put_adds v new stops view is =
      subst (Adds trace_log w v) (sym is)
      (subst (λ u. Adds trace_log w u (with_block u d x block)) view (record {
        added = block;
        entries = refl;
        by_worker = all_weaker (IsOf w d) (λ e. e.worker ≡ w) block (λ e h. h.0) f.task.each;
        subject = refl;
        others = λ m ne. ap (λ o. record { out = o; stopped = is_among m (numbers_in stops) })
            (open_same m (places_of stations) es (es ++ block) 0 d (Out w) (Parked x) f.place
            (ne_eqb w m (λ e. ne (sym e))) refl
            (λ j h. block_others d j es block own_block (λ e. h (omega (arith, e)))));
      }))
