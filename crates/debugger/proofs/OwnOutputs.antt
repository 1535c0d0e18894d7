-- The latest entry of a device, and its count.
use Rattle.std.proofs.Common.{◌≡◌, ℕ, ◌+◌, ◌-◌, ◌<◌, ◌≤◌, List, length, take, get_or, Some, slice_get, slice_index}
use Rattle.std.proofs.Common.{sym, ap, subst, ◌∙◌, arith}
use Rattle.std.proofs.lemmas.List.{get_or_read}
use Rattle.std.proofs.lemmas.Option.{same_Some}
use Rattle.scenario_image.specs.Scenario.{Scenario}
use Rattle.trace_file.specs.declared.entry.Entry.{Entry}
use Rattle.fleet_core.specs.Run.{made_by, IsRun}
use Rattle.device_entries.specs.Places.{IsPlace, HasPlaces}
use Rattle.device_entries.proofs.Counting.{entry_at}
use Rattle.device_entries.proofs.Placing.{place_at, place_within}
use Rattle.device_entries.proofs.Runs.{made_own}
use Rattle.debugger.specs.Session.{AreCounted}
use Rattle.debugger.specs.Shown.{latest}
use Rattle.debugger.proofs.Runs.{own_outputs}

-- the outputs of the entry there
latest_at : (s : Scenario) (es : List Entry) (d k i : ℕ) (e : Entry) → IsRun s es → IsPlace es d k i
    → e ≡ get_or es i e → e.outputs ≡ latest s d (k + 1)
latest_at s es d k i e run is read =
    let at : slice_get es i ≡ Some e = entry_at es i e (place_within es d k i is) read in
    let same : is.entry ≡ e = same_Some is.entry e (sym is.stands ∙ at) in
    let own : e.device ≡ d = subst (λ x. x.device ≡ d) same is.own in
    let count : made_by d (take (i + 1) es) ≡ k + 1 = omega (arith, made_own es d i e at own, is.before) in
    own_outputs s es d i e run at own ∙ ap (latest s d) count

pub latest_read : (s : Scenario) (es : List Entry) (n d made : ℕ) (indexes : List ℕ) (e : Entry) → IsRun s es
    → HasPlaces es n d indexes → (made ≡ 0 → ⊥) → made ≤ length indexes
    → e ≡ get_or es (slice_index indexes (made - 1)) e → e.outputs ≡ latest s d made
latest_read s es n d made indexes e run has some within read =
    let less : made - 1 < length indexes = omega (arith, some, within) in
    let back : made - 1 + 1 ≡ made = omega (arith, some) in
    latest_at s es d (made - 1) (slice_index indexes (made - 1)) e run (place_at es n d (made - 1) indexes has less)
    read
    ∙ ap (latest s d) back

pub count_read : (s : Scenario) (es : List Entry) (place d row m : ℕ) (made : List ℕ)
    → AreCounted s (take place es) made → d < length s.rows → row ≡ d → m ≡ get_or made row m
    → m ≡ made_by d (take place es)
count_read s es place d row m made counted within same read =
    let less : d < length made = omega (arith, within, counted.rows) in
    get_or_read made d m less (subst (λ j. m ≡ get_or made j m) same read) 0 ∙ counted.is d within
