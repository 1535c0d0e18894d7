-- A roster, and the stations that it knows.
use Rattle.std.proofs.Common.{◌≡◌, ℕ, ◌+◌, ◌<◌, ◌≤◌, nat_le, ◌⊎◌, inl, inr, true, false, List, length, set, replicate}
use Rattle.std.proofs.Common.{Some, slice_get, slice_index, refl, sym, ap, subst, ◌∙◌, arith}
use Rattle.std.proofs.Common.{get_or-set_same, get_or-set_other}
use Rattle.std.proofs.lemmas.Bool.{cases_eq, cases_lt, false≢true, leb-true, leb-false, le-leb, lt-leb}
use Rattle.std.proofs.lemmas.List.{length-set, length-replicate, get_or_past}
use Rattle.lemmas.proofs.Lists.{set_elsewhere, set_gives}
use Rattle.fleet_core.specs.declared.next.Next.{Next}
use Rattle.fleet_core.specs.declared.next.Next.TheVariants.{End, Free, Waits}
use Rattle.fleet_core.specs.Next.{may_pass}
use Rattle.device_stations.specs.declared.station.Place.{Place}
use Rattle.device_stations.specs.declared.station.Place.TheVariants.{Parked, Out}
use Rattle.device_stations.specs.declared.station.Station.{Station}
use Rattle.shared_trace.specs.declared.roster.Roster.{Roster}
use Rattle.shared_trace.specs.Roster.{CandidatesModel, IsCandidate, IsListedFor}
use Rattle.shared_trace.specs.Kept.{AreCandidates, IsListedAt, IsRosterOf}
use Rattle.device_stations.specs.Stations.{is_parked, is_ready, is_ready_in}
use Rattle.shared_trace.specs.Kept.{KeepsLists, IsAdded, IsPosted}
use Rattle.shared_trace.proofs.Waits.{still_listed}

-- ---- at the start

pub start_roster : (stations : List Station) (r : Roster) (places : ℕ) → length r.waiting.items ≡ places
    → r.candidates.fresh ≡ 0
    → ((i : ℕ) (x : Station) → slice_get stations i ≡ Some x → IsListedAt r.waiting.items i x.next)
    → IsRosterOf (replicate places 0) stations r
start_roster stations r places count fresh listed = record {
  groups = count ∙ sym (length-replicate {A = ℕ} places 0);
  ready = λ i x at ready less. absurd (omega (arith, less, fresh));
  listed = λ i x at parked unmet. listed i x at;
}

-- ---- with more room

pub kept_roster : (counts : List ℕ) (stations : List Station) (old new : Roster) → IsRosterOf counts stations old
    → new.candidates ≡ old.candidates → KeepsLists old.waiting.items new.waiting.items → IsRosterOf counts stations new
kept_roster counts stations old new r same kept = record {
  groups = kept.groups ∙ r.groups;
  ready = λ i x at ready. subst (λ c. IsCandidate c i) (sym same) (r.ready i x at ready);
  listed = λ i x at parked unmet.
      still_listed old.waiting.items new.waiting.items i x.next kept (r.listed i x at parked unmet);
}

-- the same of lists that are the trace's
pub candidates_at : (stations l : List Station) (counts m : List ℕ) (k : CandidatesModel) → l ≡ stations → m ≡ counts
    → AreCandidates (λ g. slice_index counts g) stations k → AreCandidates (λ g. slice_index m g) l k
candidates_at stations l counts m k el em all =
    subst (λ j. AreCandidates (λ g. slice_index m g) j k) (sym el)
    (subst (λ j. AreCandidates (λ g. slice_index j g) stations k) (sym em) all)

-- ---- a device that is handed out

out_ready : (posts : ℕ → ℕ) (p : Place) (n : Next) (w : ℕ) → p ≡ Out w → is_ready_in posts p n ≡ true → ⊥
out_ready posts p n w out ready = false≢true (sym (ap (λ q. is_ready_in posts q n) out) ∙ ready)

module _ (counts : List ℕ) (stations : List Station) (d : ℕ) (y : Station) where
  own_is : (x : Station) (i : ℕ) → slice_get (set stations d y) i ≡ Some x → d ≡ i → y ≡ x
  own_is x i at own = set_gives stations d y x (subst (λ j. slice_get (set stations d y) j ≡ Some x) (sym own) at)

  other_is : (x : Station) (i : ℕ) → slice_get (set stations d y) i ≡ Some x → (d ≡ i → ⊥)
      → slice_get stations i ≡ Some x
  other_is x i at other = sym (set_elsewhere stations d i y other) ∙ at

  out_candidate : (old new : Roster) (w i : ℕ) (x : Station) → IsRosterOf counts stations old → y.place ≡ Out w
      → ((e : ℕ) → (e ≡ d → ⊥) → IsCandidate old.candidates e → IsCandidate new.candidates e)
      → slice_get (set stations d y) i ≡ Some x → is_ready (λ g. slice_index counts g) x ≡ true
      → (d ≡ i) ⊎ (d ≡ i → ⊥) → IsCandidate new.candidates i
  out_candidate old new w i x r out others at ready (inl own) =
      absurd (out_ready (λ g. slice_index counts g) x.place x.next w (ap (λ z. z.place) (sym (own_is x i at own)) ∙ out)
      ready)
  out_candidate old new w i x r out others at ready (inr other) =
      others i (λ e. other (sym e)) (r.ready i x (other_is x i at other) ready)

  out_listed : (old new : Roster) (w i : ℕ) (x : Station) → IsRosterOf counts stations old → y.place ≡ Out w
      → new.waiting ≡ old.waiting → slice_get (set stations d y) i ≡ Some x → is_parked x.place ≡ true
      → may_pass (λ g. slice_index counts g) x.next ≡ false → (d ≡ i) ⊎ (d ≡ i → ⊥)
      → IsListedAt new.waiting.items i x.next
  out_listed old new w i x r out same at parked unmet (inl own) =
      absurd (false≢true (sym (ap is_parked (ap (λ z. z.place) (sym (own_is x i at own)) ∙ out)) ∙ parked))
  out_listed old new w i x r out same at parked unmet (inr other) =
      subst (λ v. IsListedAt v.items i x.next) (sym same) (r.listed i x (other_is x i at other) parked unmet)

  pub out_roster : (old new : Roster) (w : ℕ) → IsRosterOf counts stations old → y.place ≡ Out w
      → new.waiting ≡ old.waiting
      → ((e : ℕ) → (e ≡ d → ⊥) → IsCandidate old.candidates e → IsCandidate new.candidates e)
      → IsRosterOf counts (set stations d y) new
  out_roster old new w r out same others = record {
    groups = ap (λ v. length v.items) same ∙ r.groups;
    ready = λ i x at ready. out_candidate old new w i x r out others at ready (cases_eq d i);
    listed = λ i x at parked unmet. out_listed old new w i x r out same at parked unmet (cases_eq d i);
  }

  -- ---- a device that is parked

  ready_passes : (posts : ℕ → ℕ) (p : Place) (n : Next) → is_ready_in posts p n ≡ true → may_pass posts n ≡ true
  ready_passes posts (Parked x) n h = h
  ready_passes posts (Out w) n h = absurd (false≢true h)

  put_candidate : (old new : Roster) (i : ℕ) (x : Station) → IsRosterOf counts stations old
      → IsAdded counts old new d y.next → slice_get (set stations d y) i ≡ Some x
      → is_ready (λ g. slice_index counts g) x ≡ true → (d ≡ i) ⊎ (d ≡ i → ⊥) → IsCandidate new.candidates i
  put_candidate old new i x r added at ready (inl own) =
      subst (IsCandidate new.candidates) own
      (added.ready (ap (λ z. may_pass (λ g. slice_index counts g) z.next) (own_is x i at own)
      ∙ ready_passes (λ g. slice_index counts g) x.place x.next ready))
  put_candidate old new i x r added at ready (inr other) =
      added.candidates i (r.ready i x (other_is x i at other) ready)

  put_listed : (old new : Roster) (i : ℕ) (x : Station) → IsRosterOf counts stations old
      → IsAdded counts old new d y.next → slice_get (set stations d y) i ≡ Some x → is_parked x.place ≡ true
      → may_pass (λ g. slice_index counts g) x.next ≡ false → (d ≡ i) ⊎ (d ≡ i → ⊥)
      → IsListedAt new.waiting.items i x.next
  put_listed old new i x r added at parked unmet (inl own) =
      let same : y.next ≡ x.next = ap (λ z. z.next) (own_is x i at own) in
      subst (λ j. IsListedAt new.waiting.items j x.next) own
      (subst (IsListedAt new.waiting.items d) same
      (added.listed (ap (may_pass (λ g. slice_index counts g)) same ∙ unmet)))
  put_listed old new i x r added at parked unmet (inr other) =
      still_listed old.waiting.items new.waiting.items i x.next added.kept
      (r.listed i x (other_is x i at other) parked unmet)

  pub put_roster : (old new : Roster) → IsRosterOf counts stations old → IsAdded counts old new d y.next
      → IsRosterOf counts (set stations d y) new
  put_roster old new r added = record {
    groups = added.kept.groups ∙ r.groups;
    ready = λ i x at ready. put_candidate old new i x r added at ready (cases_eq d i);
    listed = λ i x at parked unmet. put_listed old new i x r added at parked unmet (cases_eq d i);
  }

-- the same from before there was room for it, with the index and the table as the code has them
pub put_back : (counts table : List ℕ) (stations : List Station) (old mid new : Roster) (i d : ℕ) (y : Station)
    → IsRosterOf counts stations old → mid.candidates ≡ old.candidates
    → KeepsLists old.waiting.items mid.waiting.items → table ≡ counts → i ≡ d → IsAdded table mid new d y.next
    → IsRosterOf counts (set stations i y) new
put_back counts table stations old mid new i d y r same kept el from added =
    put_roster counts stations i y mid new (kept_roster counts stations old mid r same kept)
    (subst (λ j. IsAdded counts mid new j y.next) (sym from) (subst (λ l. IsAdded l mid new d y.next) el added))

-- ---- a post

module _ (counts : List ℕ) (old new : Roster) (g n : ℕ) (within : g < length counts)
    (more : n ≡ slice_index counts g + 1) (groups : length old.waiting.items ≡ length counts)
    (p : IsPosted old new g n) where
  abbrev after : ℕ → ℕ
  after h = slice_index (set counts g n) h

  here : (h : ℕ) → g ≡ h → after h ≡ n
  here h same = subst (λ j. slice_index (set counts g n) j ≡ n) same (get_or-set_same counts g n 0 within)

  there : (h : ℕ) → (g ≡ h → ⊥) → after h ≡ slice_index counts h
  there h other = get_or-set_other counts g h n 0 (λ q. other (sym q))

  no_fewer_by : (h : ℕ) → (g ≡ h) ⊎ (g ≡ h → ⊥) → slice_index counts h ≤ after h
  no_fewer_by h (inl same) =
      let was : slice_index counts h ≡ slice_index counts g = ap (slice_index counts) (sym same) in
      omega (arith, here h same, more, was)
  no_fewer_by h (inr other) = omega (arith, there h other)

  -- one that waits for more posts than there were, and no more than there are, waits for those to this group
  met_by : (i h m : ℕ) → IsListedFor old.waiting.items h i m → slice_index counts h < m → m ≤ after h
      → (g ≡ h) ⊎ (g ≡ h → ⊥) → IsCandidate new.candidates i
  met_by i h m listed unmet met (inl same) =
      p.woken i m (subst (λ j. IsListedFor old.waiting.items j i m) (sym same) listed) (omega (arith, met, here h same))
  met_by i h m listed unmet met (inr other) = absurd (omega (arith, unmet, met, there h other))

  waits_by : (h m i : ℕ) → m ≤ after h → (nat_le m (slice_index counts h) ≡ true → IsCandidate new.candidates i)
      → (nat_le m (slice_index counts h) ≡ false → h < length old.waiting.items
      → IsListedFor old.waiting.items h i m)
      → (slice_index counts h < m) ⊎ (m ≤ slice_index counts h) → (h < length counts) ⊎ (length counts ≤ h)
      → IsCandidate new.candidates i
  waits_by h m i met was listed (inr few) place = was (le-leb m (slice_index counts h) few)
  waits_by h m i met was listed (inl unmet) (inl less) =
      met_by i h m (listed (lt-leb m (slice_index counts h) unmet) (omega (arith, less, groups))) unmet met
      (cases_eq g h)
  waits_by h m i met was listed (inl unmet) (inr past) =
      absurd (omega (
        arith,
        unmet,
        met,
        get_or_past (set counts g n) h 0 (omega (arith, past, length-set counts g n)),
      ))

  ready_by : (place : Place) (next : Next) (i : ℕ) → is_ready_in after place next ≡ true
      → (is_ready_in (λ h. slice_index counts h) place next ≡ true → IsCandidate old.candidates i)
      → (is_parked place ≡ true → may_pass (λ h. slice_index counts h) next ≡ false
      → IsListedAt old.waiting.items i next)
      → IsCandidate new.candidates i
  ready_by (Parked y) End i ready was listed = absurd (false≢true ready)
  ready_by (Parked y) Free i ready was listed = p.candidates i (was refl)
  ready_by (Parked y) (Waits h m) i ready was listed =
      waits_by h m i (leb-true m (after h) ready) (λ e. p.candidates i (was e)) (listed refl)
      (cases_lt (slice_index counts h) m) (cases_lt h (length counts))
  ready_by (Out w) next i ready was listed = absurd (false≢true ready)

  listed_by : (next : Next) (i : ℕ) → may_pass after next ≡ false
      → (may_pass (λ h. slice_index counts h) next ≡ false → IsListedAt old.waiting.items i next)
      → IsListedAt new.waiting.items i next
  listed_by End i unmet was = tt
  listed_by Free i unmet was = tt
  listed_by (Waits h m) i unmet was =
      let few : after h < m = leb-false m (after h) unmet in
      let before : slice_index counts h < m = omega (arith, few, no_fewer_by h (cases_eq g h)) in
      λ less. p.waiting h i m (was (lt-leb m (slice_index counts h) before) (omega (arith, less, p.groups)))
      (λ same. omega (arith, few, here h same))

  pub post_roster : (stations : List Station) → IsRosterOf counts stations old
      → IsRosterOf (set counts g n) stations new
  post_roster stations r = record {
    groups = p.groups ∙ (groups ∙ sym (length-set counts g n));
    ready = λ i x at ready.
        ready_by x.place x.next i ready (λ was. r.ready i x at was) (λ parked unmet. r.listed i x at parked unmet);
    listed = λ i x at parked unmet. listed_by x.next i unmet (λ was. r.listed i x at parked was);
  }
