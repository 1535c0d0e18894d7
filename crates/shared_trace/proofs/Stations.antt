-- What a trace keeps, and what contracts see of it.
use Rattle.std.proofs.Common.{◌≡◌, ℕ, ◌<◌, ◌≤◌, ◌⊎◌, inl, inr, Bool, true, false, not, List, length, get_or, Some}
use Rattle.std.proofs.Common.{slice_get, slice_index, refl, sym, ap, subst, ◌∙◌, arith}
use Rattle.std.proofs.lemmas.List.{length-map}
use Rattle.std.proofs.lemmas.Option.{slice_get_read}
use Rattle.std.proofs.lemmas.Bool.{cases_lt, false≢true, false_from_ne_true}
use Rattle.lemmas.proofs.Lists.{item_at, item_mapped}
use Rattle.fleet_core.specs.Board.{Holding}
use Rattle.scenario_image.specs.Scenario.{Scenario}
use Rattle.trace_file.specs.declared.entry.Entry.{Entry}
use Rattle.fleet_core.specs.Run.{is_enabled, IsComplete}
use Rattle.fleet_core.specs.Waiting.{is_waiting}
use Rattle.fleet_core.proofs.Posts.{past_rows}
use Rattle.fleet_core.proofs.Ends.{no_more}
use Rattle.fleet_core.specs.declared.next.Next.{Next}
use Rattle.device_stations.specs.declared.station.Place.{Place}
use Rattle.device_stations.specs.declared.station.Place.TheVariants.{Parked, Out}
use Rattle.device_stations.specs.declared.station.Station.{Station}
use Rattle.fleet_core.specs.Next.{may_pass}
use Rattle.shared_trace.specs.declared.stops.Stops.{Stops}
use Rattle.shared_trace.specs.Stops.{numbers_in}
use Rattle.shared_trace.specs.Trace.{TraceModel, IsPlaced, IsShared, IsReady, is_stopped}
use Rattle.shared_trace.specs.Claims.{IsAnyOut, IsAnyLeft, AreAllAtEnd, IsIdle}
use Rattle.shared_trace.specs.Kept.{IsTrace, places_of}
use Rattle.device_stations.specs.Stations.{is_end, is_parked, is_ready, is_ready_in}
use Rattle.shared_trace.proofs.Lists.{from_map}
use Rattle.shared_trace.proofs.Nexts.{pass_enabled, waiting_is, past_waiting}

abbrev pub traced : Scenario → List Entry → List Station → Stops → TraceModel
traced s es stations stops = record {
  subject = s;
  entries = es;
  places = places_of stations;
  stopped_by = numbers_in stops;
}

pub shared_is : (s : Scenario) (es : List Entry) (stations : List Station) (counts : List ℕ) (stops : Stops)
    → IsTrace s es stations counts → IsShared (traced s es stations stops)
shared_is s es stations counts stops t = record {
  valid = t.valid;
  run = t.run;
  count = length-map stations (λ x. x.place) ∙ t.count;
  placed = λ d p at.
      let found = from_map (λ x. x.place) stations d p at in
      subst (IsPlaced s es d) found.2 (t.each d found.0 found.1).placed;
}

pub shared_of : (v : TraceModel) (s : Scenario) (es : List Entry) (stations : List Station) (counts : List ℕ)
    (stops : Stops) → traced s es stations stops ≡ v
    → IsTrace s es stations counts → IsShared v
shared_of v s es stations counts stops view t = subst IsShared view (shared_is s es stations counts stops t)

-- ---- ready devices

ready_parked : (posts : ℕ → ℕ) (p : Place) (n : Next) → is_ready_in posts p n ≡ true → (x : Holding)
    × (p ≡ Parked x)
    × (may_pass posts n ≡ true)
ready_parked posts (Parked x) n h = (x, refl, h)
ready_parked posts (Out w) n h = absurd (false≢true h)

ready_is : (s : Scenario) (es : List Entry) (stations : List Station) (counts : List ℕ) (stops : Stops) (d : ℕ)
    (x : Station) → IsTrace s es stations counts
    → slice_get stations d ≡ Some x → is_ready (λ g. slice_index counts g) x ≡ true
    → IsReady (traced s es stations stops) d
ready_is s es stations counts stops d x t at ready =
    let found = ready_parked (λ g. slice_index counts g) x.place x.next ready in
    record {
      held = found.0;
      parked = item_mapped (λ y. y.place) stations d x at ∙ ap Some found.1;
      enabled = sym (pass_enabled s es d (λ g. slice_index counts g) x.next t.posts (t.each d x at).next) ∙ found.2;
    }

ready_at : (s : Scenario) (es : List Entry) (stations : List Station) (counts : List ℕ) (stops : Stops) (d : ℕ)
    → IsTrace s es stations counts
    → IsReady (traced s es stations stops) d → (x : Station) × (slice_get stations d ≡ Some x)
    × (is_ready (λ g. slice_index counts g) x ≡ true)
ready_at s es stations counts stops d t r =
    let found = from_map (λ y. y.place) stations d (Parked r.held) r.parked in (
      found.0,
      found.1,
      ap (λ p. is_ready_in (λ g. slice_index counts g) p found.0.next) found.2
          ∙ (pass_enabled s es d (λ g. slice_index counts g) found.0.next t.posts (t.each d found.0 found.1).next
          ∙ r.enabled),
    )

lowest_by : (s : Scenario) (es : List Entry) (stations : List Station) (counts : List ℕ) (stops : Stops) (d i : ℕ)
    → IsTrace s es stations counts
    → ((j : ℕ) (x : Station) → j < d → slice_get stations j ≡ Some x → is_ready (λ g. slice_index counts g) x ≡ false)
    → IsReady (traced s es stations stops) i → (i < d) ⊎ (d ≤ i) → d ≤ i
lowest_by s es stations counts stops d i t lower r (inl less) =
    let found = ready_at s es stations counts stops i t r in
    absurd (false≢true (sym (lower i found.0 less found.1) ∙ found.2))
lowest_by s es stations counts stops d i t lower r (inr more) = more

-- the lowest station that is ready is that of the lowest device that is
pub lowest_is : (v : TraceModel) (s : Scenario) (es : List Entry) (stations : List Station) (counts : List ℕ)
    (stops : Stops) (d : ℕ) → traced s es stations stops ≡ v
    → IsTrace s es stations counts
    → ((x : Station) × (slice_get stations d ≡ Some x) × (is_ready (λ g. slice_index counts g) x ≡ true))
    → ((j : ℕ) (x : Station) → j < d → slice_get stations j ≡ Some x → is_ready (λ g. slice_index counts g) x ≡ false)
    → IsReady v d × ((i : ℕ) → IsReady v i → d ≤ i)
lowest_is v s es stations counts stops d view t ready lower =
    subst (λ w. IsReady w d × ((i : ℕ) → IsReady w i → d ≤ i)) view (
      ready_is s es stations counts stops d ready.0 t ready.1 ready.2,
      λ i r. lowest_by s es stations counts stops d i t lower r (cases_lt i d),
    )

pub none_is : (v : TraceModel) (s : Scenario) (es : List Entry) (stations : List Station) (counts : List ℕ)
    (stops : Stops)
    → traced s es stations stops ≡ v
    → IsTrace s es stations counts
    → ((i : ℕ) (x : Station) → slice_get stations i ≡ Some x → is_ready (λ g. slice_index counts g) x ≡ false)
    → (i : ℕ) → IsReady v i → ⊥
none_is v s es stations counts stops view t none =
    subst (λ w. (i : ℕ) → IsReady w i → ⊥) view
    (λ i r. let found =
    ready_at s es stations counts stops i t r in false≢true (sym (none i found.0 found.1) ∙ found.2))

-- the same of lists that are the trace's
trace_at : (s : Scenario) (es : List Entry) (stations l : List Station) (counts m : List ℕ) → l ≡ stations → m ≡ counts
    → IsTrace s es stations counts → IsTrace s es l m
trace_at s es stations l counts m el em t =
    subst (λ k. IsTrace s es k m) (sym el) (subst (IsTrace s es stations) (sym em) t)

view_at : (v : TraceModel) (s : Scenario) (es : List Entry) (stations l : List Station) (stops : Stops) → l ≡ stations
    → traced s es stations stops ≡ v → traced s es l stops ≡ v
view_at v s es stations l stops el view = ap (λ k. traced s es k stops) el ∙ view

pub lowest_from : (v : TraceModel) (s : Scenario) (es : List Entry) (stations : List Station) (counts : List ℕ)
    (stops : Stops) (d : ℕ) (l : List Station) (m : List ℕ)
    → l ≡ stations → m ≡ counts → traced s es stations stops ≡ v
    → IsTrace s es stations counts
    → ((x : Station) × (slice_get l d ≡ Some x) × (is_ready (λ g. slice_index m g) x ≡ true))
    → ((j : ℕ) (x : Station) → j < d → slice_get l j ≡ Some x → is_ready (λ g. slice_index m g) x ≡ false)
    → IsReady v d × ((i : ℕ) → IsReady v i → d ≤ i)
lowest_from v s es stations counts stops d l m el em view t ready lower =
    lowest_is v s es l m stops d (view_at v s es stations l stops el view)
    (trace_at s es stations l counts m el em t) ready lower

pub none_from : (v : TraceModel) (s : Scenario) (es : List Entry) (stations : List Station) (counts : List ℕ)
    (stops : Stops) (l : List Station) (m : List ℕ)
    → l ≡ stations → m ≡ counts → traced s es stations stops ≡ v
    → IsTrace s es stations counts
    → ((i : ℕ) (x : Station) → slice_get l i ≡ Some x → is_ready (λ g. slice_index m g) x ≡ false)
    → (i : ℕ) → IsReady v i → ⊥
none_from v s es stations counts stops l m el em view t none =
    none_is v s es l m stops (view_at v s es stations l stops el view)
    (trace_at s es stations l counts m el em t) none

-- ---- where no device is ready

blocked_at : (v : TraceModel) (d : ℕ) (p : Place) → slice_get v.places d ≡ Some p → is_parked p ≡ true
    → ((i : ℕ) → IsReady v i → ⊥) → is_enabled v.subject v.entries d ≡ false
blocked_at v d (Parked x) at parked none =
    false_from_ne_true (is_enabled v.subject v.entries d)
    (λ go. none d (record { held = x; parked = at; enabled = go }))
blocked_at v d (Out w) at parked none = absurd (false≢true parked)

blocked_by : (v : TraceModel) (d : ℕ) → IsShared v → ((i : ℕ) → IsReady v i → ⊥)
    → ((i : ℕ) (p : Place) → slice_get v.places i ≡ Some p → is_parked p ≡ true)
    → (d < length v.subject.rows) ⊎ (length v.subject.rows ≤ d) → is_enabled v.subject v.entries d ≡ false
blocked_by v d shared none parked (inl less) =
    let found = item_at v.places d (omega (arith, less, shared.count)) in
    blocked_at v d found.0 found.1 (parked d found.0 found.1) none
blocked_by v d shared none parked (inr past) = past_rows v.subject v.entries d past

-- the run is complete where no device is out and none is ready
complete_of : (v : TraceModel) → IsShared v → ((i : ℕ) → IsReady v i → ⊥)
    → ((i : ℕ) (p : Place) → slice_get v.places i ≡ Some p → is_parked p ≡ true)
    → IsComplete v.subject v.entries
complete_of v shared none parked =
    no_more v.subject v.entries shared.run (λ d. blocked_by v d shared none parked (cases_lt d (length v.subject.rows)))

pub complete_is : (v : TraceModel) (s : Scenario) (es : List Entry) (stations : List Station) (counts : List ℕ)
    (stops : Stops) (l : List Station) → l ≡ stations → traced s es stations stops ≡ v
    → IsTrace s es stations counts → ((i : ℕ) → IsReady v i → ⊥)
    → ((i : ℕ) (x : Station) → slice_get l i ≡ Some x → is_parked x.place ≡ true)
    → IsComplete v.subject v.entries
complete_is v s es stations counts stops l el view t none parked =
    complete_of v (shared_of v s es stations counts stops view t) none
    (subst (λ w. (i : ℕ) (p : Place) → slice_get w.places i ≡ Some p → is_parked p ≡ true)
    (view_at v s es stations l stops el view)
    (λ i p at. let found =
    from_map (λ x. x.place) l i p at in subst (λ q. is_parked q ≡ true) found.2 (parked i found.0 found.1)))

-- whether the device of a station is not at the end of its row
pub left_is : (s : Scenario) (es : List Entry) (stations : List Station) (counts : List ℕ) (d : ℕ) (x : Station)
    → IsTrace s es stations counts → slice_get stations d ≡ Some x
    → is_waiting s es d ≡ not (is_end x.next)
left_is s es stations counts d x t at = waiting_is s es d ∙ ap (λ n. not (is_end n)) (sym (t.each d x at).next)

ended_by : (s : Scenario) (es : List Entry) (stations : List Station) (counts : List ℕ) (d : ℕ)
    → IsTrace s es stations counts
    → ((i : ℕ) (x : Station) → slice_get stations i ≡ Some x → is_end x.next ≡ true) → (d < length s.rows)
    ⊎ (length s.rows ≤ d) → is_waiting s es d ≡ false
ended_by s es stations counts d t ends (inl less) =
    let found = item_at stations d (omega (arith, less, t.count)) in
    left_is s es stations counts d found.0 t found.1 ∙ ap not (ends d found.0 found.1)
ended_by s es stations counts d t ends (inr past) = past_waiting s es d past

pub all_ended : (v : TraceModel) (s : Scenario) (es : List Entry) (stations : List Station) (counts : List ℕ)
    (stops : Stops) (l : List Station) → l ≡ stations → traced s es stations stops ≡ v
    → IsTrace s es stations counts → ((i : ℕ) (x : Station) → slice_get l i ≡ Some x → is_end x.next ≡ true)
    → AreAllAtEnd v
all_ended v s es stations counts stops l el view t ends =
    subst AreAllAtEnd (view_at v s es stations l stops el view)
    (λ d. ended_by s es l counts d (trace_at s es stations l counts counts el refl t) ends (cases_lt d (length s.rows)))

pub any_left : (v : TraceModel) (s : Scenario) (es : List Entry) (stations : List Station) (counts : List ℕ)
    (stops : Stops) (d : ℕ) (l : List Station) → l ≡ stations → traced s es stations stops ≡ v
    → IsTrace s es stations counts → ((x : Station) × (slice_get l d ≡ Some x) × (is_end x.next ≡ false)) → IsAnyLeft v
any_left v s es stations counts stops d l el view t found =
    subst IsAnyLeft (view_at v s es stations l stops el view)
    (record {
      device = d;
      waits =
          left_is s es l counts d found.0 (trace_at s es stations l counts counts el refl t) found.1 ∙ ap not found.2;
    })

pub any_out : (v : TraceModel) (s : Scenario) (es : List Entry) (stations : List Station) (counts : List ℕ)
    (stops : Stops)
    (d : ℕ) (l : List Station) → l ≡ stations → traced s es stations stops ≡ v
    → IsTrace s es stations counts → ((x : Station) × (w : ℕ) × (slice_get l d ≡ Some x) × (x.place ≡ Out w))
    → IsAnyOut v
any_out v s es stations counts stops d l el view t found =
    subst IsAnyOut (view_at v s es stations l stops el view) (record {
      device = d;
      worker = found.1;
      place = item_mapped (λ y. y.place) l d found.0 found.2 ∙ ap Some found.3;
      waits = subst (IsPlaced s es d) found.3 ((trace_at s es stations l counts counts el refl t).each d found.0
          found.2).placed;
    })

pub idle_now : (v : TraceModel) → is_stopped v ≡ false → ((d : ℕ) → IsReady v d → ⊥) → IsIdle v v
idle_now v going none = record { going = going; same = refl; none = none }

pub unfinished_is : (v : TraceModel) (s : Scenario) (es : List Entry) (stations : List Station) (counts : List ℕ)
    (stops : Stops) (d i : ℕ) (l : List Station) (x : Station) (b : Bool) → l ≡ stations
    → traced s es stations stops ≡ v → IsTrace s es stations counts → i ≡ d → i < length l → x ≡ get_or l i x
    → b ≡ is_end x.next → not b ≡ is_waiting v.subject v.entries d
unfinished_is v s es stations counts stops d i l x b el view t from within read is =
    let here : slice_get l d ≡ Some x =
    subst (λ j. slice_get l j ≡ Some x) from (slice_get_read l (length l) i x refl within read) in
    ap not is
    ∙ (sym (left_is s es l counts d x (trace_at s es stations l counts counts el refl t) here)
    ∙ ap (λ u. is_waiting u.subject u.entries d) view)
