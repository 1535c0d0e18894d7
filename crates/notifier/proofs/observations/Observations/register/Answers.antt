use Rattle.std.proofs.Common.{◌≡◌, ℕ, ◌≤◌, List, Option, None, Some, length, position, refl, sym, ap, true≢false, ◌++◌}
use Rattle.std.proofs.Common.{◌∷◌, [], ◌∙◌, arith, slice_set}
use Rattle.std.specs.Option.{is_some}
use Rattle.std.specs.Map.{values_of}
use Rattle.std.proofs.lemmas.Map.Entries.{length-values_of}
use Rattle.notifier.specs.declared.observation.Observation.{Observation}
use Rattle.notifier.specs.Observed.{is_named, has_name}
use Rattle.notifier.specs.Said.{Watch}
use Rattle.notifier.proofs.Places.{any_place, first_place}
use Rattle.notifier.proofs.SaidLaws.{said_first, said_last}
use Rattle.notifier.proofs.ObservedLaws.{with_registered-none, number_for-none}
use Rattle.notifier.proofs.observations.Observations.register.Goals as goal

known : (os all : List Observation) (server : ℕ) (t token : List ℕ) (r o : Option ℕ) → os ≡ all → t ≡ token
    → r ≡ position (is_named server t) os → r ≡ o → has_name all server token ≡ is_some o
known os all server t token r o same text h is =
    (λ i. has_name (sym same i) server (sym text i)) ∙ any_place (is_named server t) os ∙ ap is_some (sym h ∙ is)

pub add-requires-clause-absent : goal.add-requires-clause-absent
add-requires-clause-absent c =
    known (values_of c.self.inside.entries.entries)
    (values_of c.self.inside.entries.entries) c.args.server c.as_slice.result.now c.args.token c.place_of.result
    None refl c.as_slice.ensures c.place_of.ensures c.in-None.is

pub returns-then-len-ge-MOST-clause-full : goal.returns-then-len-ge-MOST-clause-full
returns-then-len-ge-MOST-clause-full c =
    let absent = known (values_of c.self.inside.entries.entries) c.args.self.now.list c.args.server
    c.as_slice.result.now
    c.args.token c.place_of.result None (ap (λ (w : Watch). w.list) c.self.view_is) c.as_slice.ensures
    c.place_of.ensures c.in-None.is in
    let count : 32 ≤ length c.args.self.now.list =
    omega (
      arith,
      c.if-len-ge-MOST.true,
      c.len.ensures.len,
      length-values_of c.self.inside.entries.entries,
      ap length (ap (λ (w : Watch). w.list) c.self.view_is),
    ) in
    (λ _. (absent, count), λ _. refl)

pub returns-in_err-push-in-None-clause-may_lack_memory : goal.returns-in_err-push-in-None-clause-may_lack_memory
returns-in_err-push-in-None-clause-may_lack_memory c =
    λ _. known (values_of c.self.inside.entries.entries) c.args.self.now.list c.args.server c.as_slice.result.now
    c.args.token c.place_of.result None (ap (λ (w : Watch). w.list) c.self.view_is) c.as_slice.ensures
    c.place_of.ensures c.in-None.is

pub returns-in-Some-clause-full : goal.returns-in-Some-clause-full
returns-in-Some-clause-full c =
    let held = known (values_of c.self.inside.entries.entries) c.args.self.now.list c.args.server c.as_slice.result.now
    c.args.token c.place_of.result (Some c.in-Some.place)
    (ap (λ (w : Watch). w.list) c.self.view_is) c.as_slice.ensures c.place_of.ensures
    c.in-Some.is in
    (λ h. cc, λ h. absurd (true≢false (sym held ∙ h.0)))

pub returns-in_default-clause-ok : goal.returns-in_default-clause-ok
returns-in_default-clause-ok c =
    let absent = known (values_of c.self.inside.entries.entries) c.args.self.now.list c.args.server
    c.as_slice.result.now
    c.args.token c.place_of.result None (ap (λ (w : Watch). w.list) c.self.view_is) c.as_slice.ensures
    c.place_of.ensures c.in-None.is in
    let new : Observation =
    record {
      server = c.args.server;
      token = c.args.token;
      path = c.args.path;
      accept = c.args.accept;
      report =
          c.args.report;
      second = c.args.now;
      number = 0;
      non = c.args.non;
      mid = c.args.mid;
      timer = None;
    } in
    c.in_default.ensures.ok ∙ ap (λ all. all ++ new ∷ []) (ap (λ (w : Watch). w.list) c.self.view_is)
    ∙ sym (with_registered-none c.args.self.now.list new absent)

pub returns-in_default-clause-number : goal.returns-in_default-clause-number
returns-in_default-clause-number c =
    let absent = known (values_of c.self.inside.entries.entries) c.args.self.now.list c.args.server
    c.as_slice.result.now
    c.args.token c.place_of.result None (ap (λ (w : Watch). w.list) c.self.view_is) c.as_slice.ensures
    c.place_of.ensures c.in-None.is in
    sym (number_for-none c.args.self.now.list c.args.server c.args.token absent)

pub returns-in-Err-clause-may_lack_memory : goal.returns-in-Err-clause-may_lack_memory
returns-in-Err-clause-may_lack_memory c =
    λ _. known (values_of c.self.inside.entries.entries) c.args.self.now.list c.args.server c.as_slice.result.now
    c.args.token c.place_of.result None (ap (λ (w : Watch). w.list) c.self.view_is) c.as_slice.ensures
    c.place_of.ensures c.in-None.is

pub returns-in-Some-clause-said : goal.returns-in-Some-clause-said
returns-in-Some-clause-said c =
    let os = c.args.self.now.list in
    let ss = c.args.self.now.said in
    let p = is_named c.args.server c.args.token in
    let at : position p os ≡ Some c.in-Some.place =
    sym (λ j. position (is_named c.args.server (c.as_slice.ensures j)) ((c.self.view_is j).list))
    ∙ sym c.place_of.ensures ∙ c.in-Some.is in
    let len : length ss ≡ length os =
    omega (
      arith,
      ap (λ (w : Watch). length w.list) c.self.view_is,
      ap (λ (w : Watch). length w.said) c.self.view_is,
      length-values_of c.self.inside.entries.entries,
      c.self.invariant.1.1,
    ) in
    (λ j. slice_set ((c.self.view_is j).said) c.in-Some.place (c.unsaid.ensures j))
    ∙ sym (said_first c.args.server c.args.token os ss c.in-Some.place len (first_place p os c.in-Some.place at))

pub returns-in_default-clause-said : goal.returns-in_default-clause-said
returns-in_default-clause-said c =
    let os = c.args.self.now.list in
    let ss = c.args.self.now.said in
    let absent = known (values_of c.self.inside.entries.entries) os c.args.server c.as_slice.result.now
    c.args.token c.place_of.result None (ap (λ (w : Watch). w.list) c.self.view_is) c.as_slice.ensures
    c.place_of.ensures c.in-None.is in
    let len : length ss ≡ length os =
    omega (
      arith,
      ap (λ (w : Watch). length w.list) c.self.view_is,
      ap (λ (w : Watch). length w.said) c.self.view_is,
      length-values_of c.self.inside.entries.entries,
      c.self.invariant.1.1,
    ) in
    c.in_ok-push-in-None.ensures.items ∙ (λ j. (c.self.view_is j).said ++ c.unsaid-in-None.ensures j ∷ [])
    ∙ sym (said_last c.args.server c.args.token os ss len absent)
