-- A clone of an observation is that observation, and a clone of a key is that key.
use Rattle.std.proofs.Common.{◌≡◌, List, [], ◌∷◌, Option, None, Some, refl, ap, rules}
use Rattle.std.specs.List.{AllZip}
use Rattle.notifier.specs.declared.observation.Observation.{Observation}
use Rattle.notifier.specs.declared.observation.Report.{Report}
use Rattle.notifier.specs.declared.observation.Timer.{Timer}
use Rattle.notifier.specs.declared.entries.Key.{Key}
use Rattle.notifier.specs.contracts.entries.KeyClone.TheImpl.{is_clone-value as key_clone}
use Rattle.notifier.specs.contracts.observation.ReportClone.TheImpl.{is_clone-value as report_clone}
use Rattle.notifier.specs.contracts.observation.TimerClone.TheImpl.{is_clone-value as timer_clone}
use Rattle.notifier.specs.contracts.observation.ObservationClone.TheImpl.{is_clone-value as observation_clone}

same_key : (k j : Key) → key_clone.it k j → j ≡ k
same_key k j h =
    let server : j.server ≡ k.server = search rules in
    let len : j.len ≡ k.len = search rules in
    let token : j.token ≡ k.token = search rules in
    λ i. record { server = server i; len = len i; token = token i }

same_report : (r s : Report) → report_clone.it r s → s ≡ r
same_report r s h =
    let payload : s.payload ≡ r.payload = h.0 in
    let number : s.number ≡ r.number = search rules in
    λ i. record { payload = payload i; number = number i }

same_timer : (t u : Timer) → timer_clone.it t u → u ≡ t
same_timer t u h =
    let bytes : u.bytes ≡ t.bytes = h.0 in
    let first : u.first ≡ t.first = search rules in
    λ i. record { bytes = bytes i; first = first i }

same_timers : (o w : Observation) (t u : Option Timer)
    → observation_clone.it (record o { timer = t }) (record w { timer = u }) → u ≡ t
same_timers o w None None h = refl
same_timers o w None (Some u) h = absurd h.1.1.1.1.1.1.1.1.1
same_timers o w (Some t) None h = absurd h.1.1.1.1.1.1.1.1.1
same_timers o w (Some t) (Some u) h = ap Some (same_timer t u h.1.1.1.1.1.1.1.1.1)

same_observation : (o w : Observation) → observation_clone.it o w → w ≡ o
same_observation o w h =
    let token : w.token ≡ o.token = h.1.0 in
    let report : w.report ≡ o.report = same_report o.report w.report h.1.1.1.1.0 in
    let path : w.path ≡ o.path = search rules in
    let accept : w.accept ≡ o.accept = search rules in
    let second : w.second ≡ o.second = search rules in
    let number : w.number ≡ o.number = search rules in
    let non : w.non ≡ o.non = search rules in
    let mid : w.mid ≡ o.mid = search rules in
    let timer : w.timer ≡ o.timer = same_timers o w o.timer w.timer h in
    λ i. record {
      server = h.0 i;
      token = token i;
      path = path i;
      accept = accept i;
      report = report i;
      second =
          second i;
      number = number i;
      non = non i;
      mid = mid i;
      timer = timer i;
    }

abbrev IsEntryClone : Key × Observation → Key × Observation → Type 0
IsEntryClone p q = key_clone.it p.0 q.0 × observation_clone.it p.1 q.1

-- the entries of a clone are those of its source
pub same_entries : (es fs : List (Key × Observation)) → AllZip IsEntryClone es fs → fs ≡ es
same_entries [] [] h = refl
same_entries [] (f ∷ fs) h = absurd h
same_entries (e ∷ es) [] h = absurd h
same_entries (e ∷ es) (f ∷ fs) h =
    λ i. (same_key e.0 f.0 h.0.0 i, same_observation e.1 f.1 h.0.1 i) ∷ same_entries es fs h.1 i
