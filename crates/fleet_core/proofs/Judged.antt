-- What a checker knows of the entries that it has taken, one after another.
use Rattle.std.proofs.Common.{◌≡◌, ℕ, ◌+◌, ◌<◌, ◌≤◌, true, false, List, [], ◌∷◌, ◌++◌, length, take, refl, sym, ap}
use Rattle.std.proofs.Common.{subst, ◌∙◌, arith}
use Rattle.std.proofs.lemmas.List.{take-append-le, length-append}
use Rattle.std.proofs.Math.Seq.{take-append_seam, take-length}
use Rattle.scenario_image.specs.Scenario.{Scenario}
use Rattle.trace_file.specs.declared.entry.Entry.{Entry}
use Rattle.fleet_core.specs.declared.verdict.Verdict.{Verdict}
use Rattle.fleet_core.specs.declared.verdict.Verdict.TheVariants as verdicts
use Rattle.fleet_core.specs.Run.{Fits, IsRun}
use Rattle.fleet_core.specs.Board.{FleetModel, Replays}
use Rattle.fleet_core.specs.Inside.{IsChecking}
use Rattle.fleet_core.specs.Verdict.{BreaksAt, Judges}
use Rattle.fleet_core.proofs.Posts.{run_push, run_last}
use Rattle.byte_layout.proofs.Whole.{one_value}
use Rattle.trace_file.specs.Layout.{trace_file, IsTraceFile}
use Rattle.trace_file.proofs.Exact.{trace_file_exact}

one_longer : (es : List Entry) (e : Entry) (n : ℕ) → n ≡ length es → n + 1 ≡ length (es ++ e ∷ [])
one_longer es e n is = omega (arith, is, length-append es (e ∷ []))

-- nothing was taken
checks_none : (s : Scenario) → IsChecking (record { scenario = s; entries = []; spent = false }) [] 0 verdicts.Run
checks_none s = record {
  counted = refl;
  judged = record { along = tt };
  ready = λ k. refl;
  replayed = λ k. refl;
}

pub begins : (s : Scenario) (v : FleetModel) → v ≡ record { scenario = s; entries = []; spent = false }
    → IsChecking v [] 0 verdicts.Run
begins s v e = subst (λ w. IsChecking w [] 0 verdicts.Run) (sym e) (checks_none s)

-- an entry came next
pub goes_on : (v new : FleetModel) (es : List Entry) (n : ℕ) (e : Entry) → IsChecking v es n verdicts.Run
    → Replays v new e true → IsChecking new (es ++ e ∷ []) (n + 1) verdicts.Run
goes_on v new es n e so_far more =
    let same = so_far.replayed refl in
    let fits : Fits v.scenario es e = subst (λ l. Fits v.scenario l e) same more.fits in
    record {
      counted = one_longer es e n so_far.counted;
      judged = subst (λ t. IsRun t (es ++ e ∷ [])) (sym more.scenario) (run_push v.scenario es e so_far.judged fits);
      ready = λ k. more.ready;
      replayed = λ k. more.entries ∙ ap (λ l. l ++ e ∷ []) same;
    }

broke_off : (s : Scenario) (es : List Entry) (n : ℕ) (e : Entry) → n ≡ length es → IsRun s es → (Fits s es e → ⊥)
    → BreaksAt s (es ++ e ∷ []) n
broke_off s es n e is run other =
    let longer = one_longer es e n is in
    record {
      within = omega (arith, longer);
      before = subst (IsRun s) (sym (ap (λ k. take k (es ++ e ∷ [])) is ∙ take-append_seam es (e ∷ []))) run;
      broken = λ all. other (run_last s es e
          (subst (IsRun s) (ap (λ k. take k (es ++ e ∷ [])) longer ∙ take-length (es ++ e ∷ [])) all));
    }

-- an entry did not
pub breaks_off : (v new : FleetModel) (es : List Entry) (n : ℕ) (e : Entry) → IsChecking v es n verdicts.Run
    → Replays v new e false → new.scenario ≡ v.scenario → IsChecking new (es ++ e ∷ []) (n + 1) (verdicts.NotRun n)
breaks_off v new es n e so_far other same =
    let none : Fits v.scenario es e → ⊥ =
    subst (λ l. Fits v.scenario l e → ⊥) (so_far.replayed refl) other in
    record {
      counted = one_longer es e n so_far.counted;
      judged = subst (λ t. BreaksAt t (es ++ e ∷ []) n) (sym same)
          (broke_off v.scenario es n e so_far.counted so_far.judged none);
      ready = λ k. absurd cc;
      replayed = λ k. absurd cc;
    }

still_broken : (s : Scenario) (es : List Entry) (at : ℕ) (e : Entry) → BreaksAt s es at → BreaksAt s (es ++ e ∷ []) at
still_broken s es at e h =
    record {
      within = omega (arith, h.within, length-append es (e ∷ []));
      before = subst (IsRun s) (sym (take-append-le at es (e ∷ []) (omega (arith, h.within)))) h.before;
      broken = λ all. h.broken (subst (IsRun s) (take-append-le (at + 1) es (e ∷ []) (omega (arith, h.within))) all);
    }

-- after the first entry that does not come next, another changes nothing of the verdict
pub stays_broken : (v : FleetModel) (es : List Entry) (n at : ℕ) (e : Entry) → IsChecking v es n (verdicts.NotRun at)
    → IsChecking v (es ++ e ∷ []) (n + 1) (verdicts.NotRun at)
stays_broken v es n at e so_far = record {
  counted = one_longer es e n so_far.counted;
  judged = still_broken v.scenario es at e so_far.judged;
  ready = λ k. absurd cc;
  replayed = λ k. absurd cc;
}

-- the verdict on what was taken is one on the scenario that the replay began with
pub verdict_is : (s : Scenario) (v : FleetModel) (es : List Entry) (n : ℕ) (verdict : Verdict)
    → IsChecking v es n verdict → v.scenario ≡ s → Judges s es verdict
verdict_is s v es n verdict so_far same = subst (λ t. Judges t es verdict) same so_far.judged

-- and on any list that the bytes are a trace file of
pub verdict_on : (s : Scenario) (bytes : List ℕ) (taken es : List Entry) (verdict : Verdict) → IsTraceFile bytes taken
    → IsTraceFile bytes es → Judges s taken verdict → Judges s es verdict
verdict_on s bytes taken es verdict h k right =
    subst (λ l. Judges s l verdict) (one_value trace_file trace_file_exact bytes taken es h k) right

-- the same, of a verdict that is only known to say so
pub stays : (v : FleetModel) (es : List Entry) (n at : ℕ) (e : Entry) (verdict : Verdict)
    → verdict ≡ verdicts.NotRun at → IsChecking v es n verdict → IsChecking v (es ++ e ∷ []) (n + 1) verdict
stays v es n at e verdict is so_far =
    subst (λ x. IsChecking v (es ++ e ∷ []) (n + 1) x) (sym is)
    (stays_broken v es n at e (subst (λ x. IsChecking v es n x) is so_far))
