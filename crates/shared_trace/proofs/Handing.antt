-- A device that is handed out.
use Rattle.std.proofs.Common.{◌≡◌, ℕ, ◌+◌, ◌<◌, ◌⊎◌, inl, inr, true, false, List, [], length, set, get_or, Some}
use Rattle.std.proofs.Common.{slice_get, slice_index, refl, sym, ap, subst, ◌∙◌, arith}
use Rattle.std.specs.Prelude.{◌==◌, count_by, Contains}
use Rattle.std.specs.List.{AllByRecursion}
use Rattle.std.proofs.lemmas.List.{length-set, append-nil}
use Rattle.std.proofs.lemmas.Option.{slice_get_read, slice_get_within}
use Rattle.std.proofs.lemmas.Bool.{cases_eq, ne_eqb, false≢true}
use Rattle.lemmas.proofs.Lists.{item_set, set_elsewhere, item_mapped, set_gives}
use Rattle.scenario_image.specs.Scenario.{Scenario}
use Rattle.trace_file.specs.declared.entry.Entry.{Entry}
use Rattle.fleet_core.specs.Run.{made_by, is_enabled, IsRun}
use Rattle.fleet_core.specs.Board.{HoldsAfter, Holding, ShowsAfter}
use Rattle.fleet_core.proofs.Ends.{goes_waits}
use Rattle.ticket_lock.specs.Log.{Adds}
use Rattle.device_stations.specs.declared.station.Place.TheVariants.{Parked, Out}
use Rattle.device_stations.specs.declared.station.Station.{Station}
use Rattle.shared_trace.specs.declared.stops.Stops.{Stops}
use Rattle.shared_trace.specs.Stops.{numbers_in}
use Rattle.shared_trace.specs.Trace.{TraceModel, IsPlaced, IsReady, with_out, has_stopped, open_by, trace_log}
use Rattle.shared_trace.specs.Kept.{IsTrace, IsStation, IsOnWay, IsJob, places_of}
use Rattle.device_stations.specs.Stations.{AreEnded, is_parked}
use Rattle.shared_trace.specs.Kept.{table_length}
use Rattle.shared_trace.proofs.Lists.{from_map, map-set}
use Rattle.device_stations.proofs.Scans.{same_some}
use Rattle.shared_trace.proofs.Open.{open_same, open_has}
use Rattle.shared_trace.proofs.Stations.{traced}
use Rattle.shared_trace.proofs.Ended.{ended_set}

-- the station of a device that is ready
pub record IsHanded (s : Scenario) (es : List Entry) (stations : List Station) (counts : List ℕ) (d : ℕ) (x : Station)
    (shown : Holding) : Type 0 where
  pub trace : IsTrace s es stations counts
  pub at : slice_get stations d ≡ Some x
  pub parked : x.place ≡ Parked shown
  pub enabled : is_enabled s es d ≡ true

pub handed : (v : TraceModel) (s : Scenario) (es : List Entry) (stations : List Station) (counts : List ℕ)
    (stops : Stops)
    (d i : ℕ) (x : Station) → traced s es stations stops ≡ v
    → IsTrace s es stations counts → (r : IsReady v d) → i ≡ d → x ≡ get_or stations i x
    → IsHanded s es stations counts d x r.held
handed v s es stations counts stops d i x view t r from read =
    let found = from_map (λ y. y.place) stations d (Parked r.held)
    (subst (λ w. slice_get w.places d ≡ Some (Parked r.held)) (sym view) r.parked) in
    let here : slice_get stations d ≡ Some x =
    slice_get_read stations (length stations) d x refl (slice_get_within stations d found.0 found.1)
    (read ∙ ap (λ j. get_or stations j x) from) in
    record {
      trace = t;
      at = here;
      parked = ap (λ y. y.place) (same_some (slice_get stations d) x found.0 here found.1) ∙ found.2;
      enabled = subst (λ w. is_enabled w.subject w.entries d ≡ true) (sym view) r.enabled;
    }

pub table_is : (s : Scenario) (es : List Entry) (stations : List Station) (counts : List ℕ) (d : ℕ) (x : Station)
    (shown : Holding) → IsHanded s es stations counts d x shown
    → length x.known.items ≡ length counts
table_is s es stations counts d x shown h = (h.trace.each d x h.at).known (ap is_parked h.parked) ∙ sym h.trace.table

-- ---- the trace

out_station : (s : Scenario) (es : List Entry) (stations : List Station) (counts : List ℕ) (d w i : ℕ) (x y z : Station)
    (shown : Holding) → IsHanded s es stations counts d x shown
    → y.place ≡ Out w → y.made ≡ x.made → y.next ≡ x.next → slice_get (set stations d y) i ≡ Some z → (d ≡ i)
    ⊎ (d ≡ i → ⊥) → IsStation s es i z
out_station s es stations counts d w i x y z shown h out made next at (inl own) =
    subst (λ j. IsStation s es j z) own
    (subst (IsStation s es d) (set_gives stations d y z
    (subst (λ j. slice_get (set stations d y) j ≡ Some z) (sym own) at)) (record {
      placed = subst (IsPlaced s es d) (sym out) (goes_waits s es d h.enabled);
      made = made ∙ (h.trace.each d x h.at).made;
      next = next ∙ (h.trace.each d x h.at).next;
      known = λ parked. absurd (false≢true (sym (ap is_parked out) ∙ parked));
    }))
out_station s es stations counts d w i x y z shown h out made next at (inr other) =
    h.trace.each i z (sym (set_elsewhere stations d i y other) ∙ at)

pub out_trace : (s : Scenario) (es : List Entry) (stations : List Station) (counts : List ℕ) (d w i : ℕ) (x y : Station)
    (shown : Holding) → IsHanded s es stations counts d x shown
    → i ≡ d → y.place ≡ Out w → y.made ≡ x.made → y.next ≡ x.next → IsTrace s es (set stations i y) counts
out_trace s es stations counts d w i x y shown h from out made next =
    subst (λ j. IsTrace s es (set stations j y) counts) (sym from) (record {
      valid = h.trace.valid;
      run = h.trace.run;
      count = length-set stations d y ∙ h.trace.count;
      each = λ j z at. out_station s es stations counts d w j x y z shown h out made next at (cases_eq d j);
      posts = h.trace.posts;
      table = h.trace.table;
    })

pub out_ended : (s : Scenario) (es : List Entry) (stations : List Station) (counts : List ℕ) (low d i : ℕ)
    (x y : Station)
    (shown : Holding) → IsHanded s es stations counts d x shown
    → i ≡ d → AreEnded stations low → AreEnded (set stations i y) low
out_ended s es stations counts low d i x y shown h from ended =
    ended_set s es stations counts low d i x y h.trace h.at (goes_waits s es d h.enabled) from ended

pub out_view : (v : TraceModel) (s : Scenario) (es : List Entry) (stations : List Station) (stops : Stops) (d w i : ℕ)
    (y : Station) → traced s es stations stops ≡ v
    → i ≡ d → y.place ≡ Out w → traced s es (set stations i y) stops ≡ with_out v d w
out_view v s es stations stops d w i y view from out =
    ap (λ l. record { subject = s; entries = es; places = l; stopped_by = numbers_in stops })
    (map-set (λ x. x.place) stations i y ∙ (ap (λ j. set (places_of stations) j y.place) from
    ∙ ap (λ p. set (places_of stations) d p) out))
    ∙ ap (λ u. with_out u d w) view

pub out_adds : (v new : TraceModel) (d w : ℕ) (x : Holding) → slice_get v.places d ≡ Some (Parked x)
    → new ≡ with_out v d w
    → Adds trace_log w v new
out_adds v new d w x at is =
    subst (Adds trace_log w v) (sym is) (record {
      added = [];
      entries = sym (append-nil v.entries);
      by_worker = tt;
      subject = refl;
      others = λ n ne. ap (λ o. record { out = o; stopped = has_stopped v n })
          (open_same n v.places v.entries v.entries 0 d (Parked x) (Out w) at refl
          (ne_eqb w n (λ e. ne (sym e))) (λ j h. refl));
    })

pub out_stands : (v new claimed : TraceModel) (d w : ℕ) (x : Holding) → slice_get v.places d ≡ Some (Parked x)
    → new ≡ with_out v d w → claimed ≡ v
    → Contains (open_by new w) (d, made_by d claimed.entries)
out_stands v new claimed d w x at is same =
    subst (λ u. Contains (open_by u w) (d, made_by d claimed.entries)) (sym is)
    (subst (λ u. Contains (open_by (with_out v d w) w) (d, made_by d u.entries)) (sym same)
    (let here : 0 + d ≡ d = omega arith in
    subst (λ j. Contains (open_by (with_out v d w) w) (j, made_by j v.entries)) here
    (open_has w (set v.places d (Out w)) v.entries 0 d
    (item_set v.places d (Out w) (slice_get_within v.places d (Parked x) at)))))

-- ---- the job

fresh_way : (s : Scenario) (es : List Entry) (stations : List Station) (counts known posted : List ℕ) (d : ℕ)
    (x : Station) (shown machine : Holding) → IsHanded s es stations counts d x shown
    → x.place ≡ Parked machine → known ≡ counts → posted ≡ [] → IsOnWay s d es [] machine known posted x.made x.next
fresh_way s es stations counts known posted d x shown machine h device table none = record {
  holds = subst (IsPlaced s es d) device (h.trace.each d x h.at).placed;
  known = λ g. ap (λ l. slice_index l g) table ∙ h.trace.posts g;
  table = ap length table ∙ h.trace.table;
  posted = λ g. ap (λ l. count_by (λ k. k == g) l) none;
  within = subst (AllByRecursion (λ k. k < table_length s)) (sym none) tt;
  place = (h.trace.each d x h.at).made;
  next = (h.trace.each d x h.at).next;
}

fresh_here : (s : Scenario) (es : List Entry) (stations : List Station) (counts known posted : List ℕ) (d w : ℕ)
    (x : Station) (shown machine : Holding) → IsHanded s es stations counts d x shown
    → x.place ≡ Parked machine → known ≡ counts → posted ≡ []
    → IsJob s w d es [] machine false known posted x.made x.next
fresh_here s es stations counts known posted d w x shown machine h device table none = record {
  task = record {
    valid = h.trace.valid;
    run = subst (IsRun s) (sym (append-nil es)) h.trace.run;
    each = tt;
    began =
        h.enabled;
  };
  ready = λ e. subst (λ l. IsOnWay s d l [] machine known posted x.made x.next) (sym (append-nil es))
      (fresh_way s es stations counts known posted d x shown machine h device table none);
}

pub fresh_job : (v claimed : TraceModel) (s : Scenario) (es entries : List Entry) (stations : List Station)
    (counts known posted : List ℕ) (stops : Stops) (d w : ℕ) (x : Station) (shown machine : Holding)
    → traced s es stations stops ≡ v → claimed ≡ v → IsHanded s es stations counts d x shown
    → x.place ≡ Parked machine → known ≡ counts → posted ≡ [] → entries ≡ []
    → IsJob claimed.subject w d claimed.entries entries machine false known posted x.made x.next
fresh_job v claimed s es entries stations counts known posted stops d w x shown machine view same h device table none
    empty =
    subst (λ u. IsJob u.subject w d u.entries entries machine false known posted x.made x.next) (view ∙ sym same)
    (subst (λ l. IsJob s w d es l machine false known posted x.made x.next) (sym empty)
    (fresh_here s es stations counts known posted d w x shown machine h device table none))

pub parked_now : (v : TraceModel) (s : Scenario) (es : List Entry) (stations : List Station) (counts : List ℕ)
    (stops : Stops) (d : ℕ) (x : Station) (shown machine : Holding)
    → traced s es stations stops ≡ v → IsHanded s es stations counts d x shown → x.place ≡ Parked machine
    → slice_get v.places d ≡ Some (Parked machine)
parked_now v s es stations counts stops d x shown machine view h device =
    subst (λ u. slice_get u.places d ≡ Some (Parked machine)) view
    (item_mapped (λ y. y.place) stations d x h.at ∙ ap Some device)

pub shows_now : (v : TraceModel) (s : Scenario) (es : List Entry) (stations : List Station) (counts : List ℕ)
    (stops : Stops) (d : ℕ) (x : Station) (shown machine : Holding)
    → traced s es stations stops ≡ v → IsHanded s es stations counts d x shown → x.place ≡ Parked machine
    → ShowsAfter v.subject d (made_by d v.entries) machine.shown
shows_now v s es stations counts stops d x shown machine view h device =
    let here : HoldsAfter s d (made_by d es) machine = subst (IsPlaced s es d) device (h.trace.each d x h.at).placed in
    subst (λ u. ShowsAfter u.subject d (made_by d u.entries) machine.shown) view here.shows
