-- The stations of a scenario at its start.
use Rattle.std.proofs.Common.{◌≡◌, ℕ, ◌⊎◌, inl, inr, true, List, [], ◌∷◌, ◌++◌, length, replicate, None}
use Rattle.std.proofs.Common.{Some, slice_get, sym, subst, ◌∙◌}
use Rattle.std.proofs.lemmas.List.{length-replicate}
use Rattle.lemmas.proofs.Lists.{pushed_cases}
use Rattle.scenario_image.specs.Scenario.{Scenario, IsValid}
use Rattle.trace_file.specs.declared.entry.Entry.{Entry}
use Rattle.fleet_core.proofs.Board.{zeros}
use Rattle.device_stations.specs.declared.station.Place.{Place}
use Rattle.device_stations.specs.declared.station.Station.{Station}
use Rattle.shared_trace.specs.Kept.{IsTrace, IsStation, AreParked, places_of, table_length}
use Rattle.device_stations.specs.Stations.{is_parked}
use Rattle.shared_trace.proofs.Lists.{from_map}

pub none_parked : (s : Scenario) (stations : List Station) → stations ≡ [] → AreParked s stations
none_parked s stations none =
    subst (AreParked s) (sym none) (record {
      each = λ d x at. let e : None ≡ Some x = at in absurd cc;
      parked = λ d x at. let e : None ≡ Some x = at in absurd cc;
    })

station_by : (s : Scenario) (stations : List Station) (y x : Station) (d n : ℕ) → AreParked s stations
    → IsStation s [] n y → n ≡ length stations
    → (slice_get stations d ≡ Some x) ⊎ ((d ≡ length stations) × (y ≡ x)) → IsStation s [] d x
station_by s stations y x d n all here count (inl h) = all.each d x h
station_by s stations y x d n all here count (inr h) =
    subst (IsStation s [] d) h.1 (subst (λ i. IsStation s [] i y) (count ∙ sym h.0) here)

parked_by : (s : Scenario) (stations : List Station) (y x : Station) (d : ℕ) → AreParked s stations
    → is_parked y.place ≡ true
    → (slice_get stations d ≡ Some x) ⊎ ((d ≡ length stations) × (y ≡ x)) → is_parked x.place ≡ true
parked_by s stations y x d all here (inl h) = all.parked d x h
parked_by s stations y x d all here (inr h) = subst (λ z. is_parked z.place ≡ true) h.1 here

-- with one station more
pub more_parked : (s : Scenario) (stations more : List Station) (y : Station) (n : ℕ) → AreParked s stations
    → more ≡ stations ++ y ∷ [] → n ≡ length stations
    → IsStation s [] n y → is_parked y.place ≡ true → AreParked s more
more_parked s stations more y n all is count here parked =
    subst (AreParked s) (sym is) (record {
      each = λ d x at. station_by s stations y x d n all here count (pushed_cases stations y d x at);
      parked = λ d x at. parked_by s stations y x d all parked (pushed_cases stations y d x at);
    })

pub all_parked : (s : Scenario) (stations : List Station) → AreParked s stations → (d : ℕ) (p : Place)
    → slice_get (places_of stations) d ≡ Some p → is_parked p ≡ true
all_parked s stations all d p at =
    let found = from_map (λ x. x.place) stations d p at in subst (λ q. is_parked q ≡ true) found.2
    (all.parked d found.0 found.1)

-- a trace at the start
pub start_trace : (s t : Scenario) (es : List Entry) (stations : List Station) (counts : List ℕ) (places : ℕ)
    → IsValid s → t ≡ s → es ≡ [] → length stations ≡ length s.rows → AreParked s stations → places ≡ table_length s
    → counts ≡ replicate places 0 → IsTrace t es stations counts
start_trace s t es stations counts places valid same none count all long zero_counts =
    subst (λ u. IsTrace u es stations counts) (sym same)
    (subst (λ l. IsTrace s l stations counts) (sym none)
    (subst (IsTrace s [] stations) (sym zero_counts) (record {
      valid = valid;
      run = record { along = tt };
      count = count;
      each = all.each;
      posts = λ g. zeros places g;
      table = length-replicate {A = ℕ} places 0 ∙ long;
    })))
