-- Where in the run a device has its entries.
use Rattle.std.proofs.Common.{◌≡◌, ℕ, suc, ◌+◌, ◌-◌, ◌<◌, ◌≤◌, ◌⊎◌, inl, inr, List, [], ◌∷◌, ◌++◌, length, map, replicate, take}
use Rattle.std.proofs.Common.{set, get_or, None, Some, slice_get, slice_index, refl, sym, ap, subst, ◌∙◌, arith}
use Rattle.std.proofs.Common.{cond, eqb}
use Rattle.std.proofs.lemmas.Bool.{cases_eq, cases_lt}
use Rattle.std.proofs.lemmas.List.{length-set, take-take, take_all}
use Rattle.std.proofs.lemmas.List.Sums.{sum_by-take-le}
use Rattle.std.proofs.lemmas.List.Sorted.{IsNonDecreasingBy-from_default}
use Rattle.std.specs.List.Sorted.{IsNonDecreasing}
use Rattle.std.proofs.lemmas.Option.{slice_get_within, slice_get_read, slice_get-get_or}
use Rattle.lemmas.proofs.Lists.{pushed_cases, set_gives, set_elsewhere, length_pushed, take_none}
use Rattle.scenario_image.specs.Scenario.{Scenario}
use Rattle.trace_file.specs.declared.entry.Entry.{Entry}
use Rattle.fleet_core.specs.Run.{made_by, IsRun}
use Rattle.device_entries.specs.declared.places.Places.{Places}
use Rattle.device_entries.specs.Places.{IsPlace, HasPlaces, ArePlaced}
use Rattle.device_entries.proofs.Counting.{entry_at, entry_row}
use Rattle.device_entries.proofs.Empties.{empty_at}
use Rattle.device_entries.proofs.Runs.{made_own, made_else}

-- before a place there are no more entries than there are in all
pub made_before : (es : List Entry) (d n : ℕ) → made_by d (take n es) ≤ made_by d es
made_before es d n = sum_by-take-le (λ e. cond (eqb e.device d) 1 0) es n

-- before a later place a device has no fewer entries
pub made_order : (es : List Entry) (d a b : ℕ) → a ≤ b → made_by d (take a es) ≤ made_by d (take b es)
made_order es d a b order =
    subst (λ l. made_by d l ≤ made_by d (take b es)) (take-take a b es order) (made_before (take b es) d a)

-- ---- the lists as they are made

no_entry : (es : List Entry) (d : ℕ) (indexes : List ℕ) → indexes ≡ [] → HasPlaces es 0 d indexes
no_entry es d indexes none =
    let count : length indexes ≡ 0 = ap length none in
    let made : made_by d (take 0 es) ≡ 0 = ap (made_by d) (take_none es) in
    record {
      each = λ k i h. let e : None ≡ Some i = ap (λ l. slice_get l k) (sym none) ∙ h in absurd cc;
      count = count ∙ sym made;
    }

pub none_placed : (es : List Entry) (n : ℕ) (places : List Places)
    → map (λ x. x.indexes.items) places ≡ replicate n [] → ArePlaced es 0 places
none_placed es n places are = record {
  each = λ d x h. no_entry es d x.indexes.items (empty_at (λ y. y.indexes.items) n places d x are h);
}

place_pushed : (es : List Entry) (i d : ℕ) (e : Entry) (indexes : List ℕ) (k j : ℕ) → slice_get es i ≡ Some e
    → e.device ≡ d → HasPlaces es i d indexes → (slice_get indexes k ≡ Some j) ⊎ ((k ≡ length indexes) × (i ≡ j))
    → IsPlace es d k j
place_pushed es i d e indexes k j at own has (inl h) = has.each k j h
place_pushed es i d e indexes k j at own has (inr h) = record {
  entry = e;
  stands = subst (λ n. slice_get es n ≡ Some e) h.1 at;
  own = own;
  before = subst (λ n. made_by d (take n es) ≡ k) h.1 (sym (h.0 ∙ has.count));
}

-- an entry of the device is one more
own_placed : (es : List Entry) (i d : ℕ) (e : Entry) (indexes more : List ℕ) → slice_get es i ≡ Some e → e.device ≡ d
    → HasPlaces es i d indexes → more ≡ indexes ++ i ∷ [] → HasPlaces es (i + 1) d more
own_placed es i d e indexes more at own has added =
    subst (HasPlaces es (i + 1) d) (sym added) (record {
      each = λ k j h. place_pushed es i d e indexes k j at own has (pushed_cases indexes i k j h);
      count = length_pushed indexes i ∙ ap suc has.count ∙ sym (made_own es d i e at own);
    })

-- another device's entry is none
else_placed : (es : List Entry) (i d : ℕ) (e : Entry) (indexes : List ℕ) → slice_get es i ≡ Some e
    → (e.device ≡ d → ⊥) → HasPlaces es i d indexes → HasPlaces es (i + 1) d indexes
else_placed es i d e indexes at other has =
    record { each = has.each; count = has.count ∙ sym (made_else es d i e at other) }

next_at : (es : List Entry) (i : ℕ) (e : Entry) (places : List Places) (own new : Places) (d : ℕ) (x : Places)
    → slice_get es i ≡ Some e → slice_get places e.device ≡ Some own
    → new.indexes.items ≡ own.indexes.items ++ i ∷ [] → ArePlaced es i places
    → slice_get (set places e.device new) d ≡ Some x → (e.device ≡ d) ⊎ (e.device ≡ d → ⊥)
    → HasPlaces es (i + 1) d x.indexes.items
next_at es i e places own new d x at stands added are h (inl same) =
    let there : slice_get (set places e.device new) e.device ≡ Some x =
    subst (λ j. slice_get (set places e.device new) j ≡ Some x) (sym same) h in
    let is : new ≡ x = set_gives places e.device new x there in
    subst (λ y. HasPlaces es (i + 1) d y.indexes.items) is
    (subst (λ j. HasPlaces es (i + 1) j new.indexes.items) same
    (own_placed es i e.device e own.indexes.items new.indexes.items at refl (are.each e.device own stands) added))
next_at es i e places own new d x at stands added are h (inr other) =
    let old : slice_get places d ≡ Some x = sym (set_elsewhere places e.device d new other) ∙ h in
    else_placed es i d e x.indexes.items at other (are.each d x old)

-- an entry of a run, with the places of those before it
pub record IsNext (s : Scenario) (es : List Entry) (i : ℕ) (e : Entry) (places : List Places) : Type 0 where
  pub stands : slice_get es i ≡ Some e
  pub row : e.device < length places
  pub count : length places ≡ length s.rows
  pub placed : ArePlaced es i places

pub next_is : (s : Scenario) (es : List Entry) (i : ℕ) (e : Entry) (places : List Places) → IsRun s es
    → i < length es → e ≡ get_or es i e → length places ≡ length s.rows → ArePlaced es i places
    → IsNext s es i e places
next_is s es i e places run within read count placed =
    let at : slice_get es i ≡ Some e = entry_at es i e within read in
    let row : e.device < length s.rows = entry_row s es i e run at in
    record { stands = at; row = omega (arith, row, count); count = count; placed = placed }

-- with it
pub next_placed : (s : Scenario) (es : List Entry) (i row : ℕ) (e : Entry) (places : List Places) (own new : Places)
    → IsNext s es i e places → row ≡ e.device → own ≡ get_or places row own
    → new.indexes.items ≡ own.indexes.items ++ i ∷ [] → ArePlaced es (i + 1) (set places row new)
next_placed s es i row e places own new next is read added =
    let here : own ≡ get_or places e.device own = subst (λ j. own ≡ get_or places j own) is read in
    let stands : slice_get places e.device ≡ Some own =
    slice_get_read places (length places) e.device own refl next.row here in
    subst (λ (j : ℕ). ArePlaced es (i + 1) (set places j new)) (sym is)
    (record {
      each = λ d x h. next_at es i e places own new d x next.stands stands added next.placed h (cases_eq e.device d);
    })

pub next_count : (s : Scenario) (es : List Entry) (i row : ℕ) (e : Entry) (places : List Places) (new : Places)
    → IsNext s es i e places → length (set places row new) ≡ length s.rows
next_count s es i row e places new next = length-set places row new ∙ next.count

-- with the last one
pub placed_end : (es : List Entry) (i : ℕ) (places : List Places) → ArePlaced es i places → length es ≤ i
    → ArePlaced es (length es) places
placed_end es i places are past =
    let same : take i es ≡ take (length es) es =
    take_all i es past ∙ sym (take_all (length es) es (omega arith)) in
    record {
      each = λ d x h.
          let has = are.each d x h in record { each = has.each; count = has.count ∙ ap (made_by d) same };
    }

-- ---- what they give

pub place_at : (es : List Entry) (n d k : ℕ) (indexes : List ℕ) → HasPlaces es n d indexes → k < length indexes
    → IsPlace es d k (slice_index indexes k)
place_at es n d k indexes has within = has.each k (slice_index indexes k) (slice_get-get_or indexes k 0 within)

pub place_within : (es : List Entry) (d k i : ℕ) → IsPlace es d k i → i < length es
place_within es d k i is = slice_get_within es i is.entry is.stands

-- an entry before a place is counted there, with those before it
pub place_before : (es : List Entry) (d k i place : ℕ) → IsPlace es d k i → i < place
    → k < made_by d (take place es)
place_before es d k i place is less =
    let own = made_own es d i is.entry is.stands is.own in
    let order = made_order es d (i + 1) place (omega (arith, less)) in
    omega (arith, own, order, is.before)

-- one that is not before it is not
pub place_after : (es : List Entry) (d k i place : ℕ) → IsPlace es d k i → place ≤ i → made_by d (take place es) ≤ k
place_after es d k i place is more = let order = made_order es d place i more in omega (arith, order, is.before)

-- ---- what is read of what is kept

pub places_read : (es : List Entry) (n d row : ℕ) (places : List Places) (x : Places) (indexes : List ℕ)
    → ArePlaced es n places → d < length places → row ≡ d → x ≡ get_or places row x → indexes ≡ x.indexes.items
    → HasPlaces es n d indexes
places_read es n d row places x indexes are within same read is =
    subst (HasPlaces es n d) (sym is)
    (are.each d x
    (slice_get_read places (length places) d x refl within (subst (λ j. x ≡ get_or places j x) same read)))

-- there are no more entries before a place than there are in all
pub count_within : (es : List Entry) (place d m : ℕ) (indexes : List ℕ) → HasPlaces es (length es) d indexes
    → place ≤ length es → m ≡ made_by d (take place es) → m ≤ length indexes
count_within es place d m indexes has within is =
    let order = made_order es d place (length es) within in omega (arith, order, has.count, is)

-- ---- before another place

rise : (es : List Entry) (d i j a b : ℕ) → IsPlace es d i a → IsPlace es d j b → i ≤ j → (b < a) ⊎ (a ≤ b) → a ≤ b
rise es d i j a b first second order (inr more) = more
rise es d i j a b first second order (inl less) =
    let before = place_before es d j b a second less in
    absurd (omega (arith, before, first.before, order))

-- the indexes rise
pub places_rise : (es : List Entry) (n d : ℕ) (indexes : List ℕ) → HasPlaces es n d indexes → IsNonDecreasing indexes
places_rise es n d indexes has =
    IsNonDecreasingBy-from_default (λ (x : ℕ). x) indexes 0
    (λ i j order within.
    rise es d i j (slice_index indexes i) (slice_index indexes j)
    (place_at es n d i indexes has (omega (arith, order, within))) (place_at es n d j indexes has within) order
    (cases_lt (slice_index indexes j) (slice_index indexes i)))

count_most : (es : List Entry) (n d to r m : ℕ) (indexes : List ℕ) → HasPlaces es n d indexes
    → m ≡ made_by d (take to es) → r ≤ length indexes → ((k : ℕ) → k < r → slice_index indexes k < to)
    → (m < r) ⊎ (r ≤ m) → r ≤ m
count_most es n d to r m indexes has is within before (inr less) = less
count_most es n d to r m indexes has is within before (inl more) =
    let place = place_at es n d m indexes has (omega (arith, more, within)) in
    let passed = place_before es d m (slice_index indexes m) to place (before m more) in
    absurd (omega (arith, passed, is))

count_least : (es : List Entry) (n d to r m : ℕ) (indexes : List ℕ) → HasPlaces es n d indexes
    → m ≡ made_by d (take to es) → m ≤ length indexes
    → ((k : ℕ) → r ≤ k → k < length indexes → to ≤ slice_index indexes k) → (r < m) ⊎ (m ≤ r) → m ≤ r
count_least es n d to r m indexes has is within after (inr more) = more
count_least es n d to r m indexes has is within after (inl less) =
    let room : r < length indexes = omega (arith, less, within) in
    let place = place_at es n d r indexes has room in
    let left = place_after es d r (slice_index indexes r) to place (after r (omega arith) room) in
    absurd (omega (arith, left, is, less))

-- as many indexes are before a place as the device has entries before it
pub count_is : (es : List Entry) (d to r : ℕ) (indexes : List ℕ) → HasPlaces es (length es) d indexes → to ≤ length es
    → r ≤ length indexes → ((k : ℕ) → k < r → slice_index indexes k < to)
    → ((k : ℕ) → r ≤ k → k < length indexes → to ≤ slice_index indexes k) → r ≡ made_by d (take to es)
count_is es d to r indexes has within room before after =
    let most = count_most es (length es) d to r (made_by d (take to es)) indexes has refl room before
    (cases_lt (made_by d (take to es)) r) in
    let least = count_least es (length es) d to r (made_by d (take to es)) indexes has refl
    (count_within es to d (made_by d (take to es)) indexes has within refl) after
    (cases_lt r (made_by d (take to es))) in
    omega (arith, most, least)

-- ---- from a place on

-- an entry at a place or after it has fewer of its device before that place than up to itself
pub counts_fewer : (es : List Entry) (n d step place : ℕ) (indexes : List ℕ) → HasPlaces es n d indexes
    → step ≤ length indexes → (step ≡ 0 → ⊥) → place ≤ slice_index indexes (step - 1)
    → made_by d (take place es) < step
counts_fewer es n d step place indexes has room some more =
    let at = place_at es n d (step - 1) indexes has (omega (arith, some, room)) in
    let most = place_after es d (step - 1) (slice_index indexes (step - 1)) place at more in
    omega (arith, most, some)

not_before : (es : List Entry) (n d step place : ℕ) (indexes : List ℕ) → HasPlaces es n d indexes
    → step ≤ length indexes → (step ≡ 0 → ⊥) → made_by d (take place es) < step
    → (slice_index indexes (step - 1) < place) ⊎ (place ≤ slice_index indexes (step - 1))
    → place ≤ slice_index indexes (step - 1)
not_before es n d step place indexes has room some fewer (inr more) = more
not_before es n d step place indexes has room some fewer (inl less) =
    let at = place_at es n d (step - 1) indexes has (omega (arith, some, room)) in
    let least = place_before es d (step - 1) (slice_index indexes (step - 1)) place at less in
    absurd (omega (arith, least, fewer, some))

-- and the other way round
pub is_from : (es : List Entry) (n d step place : ℕ) (indexes : List ℕ) → HasPlaces es n d indexes
    → step ≤ length indexes → (step ≡ 0 → ⊥) → made_by d (take place es) < step
    → place ≤ slice_index indexes (step - 1)
is_from es n d step place indexes has room some fewer =
    not_before es n d step place indexes has room some fewer (cases_lt (slice_index indexes (step - 1)) place)
