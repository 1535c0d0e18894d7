-- What is known of a recorded trace by what was read of its bytes.
use Rattle.std.proofs.Common.{◌≡◌, ℕ, ◌+◌, ◌<◌, ◌≤◌, ◌↔◌, ◌⊎◌, inl, inr, Bool, true, false, IsTrue, List, []}
use Rattle.std.proofs.Common.{take, drop, Some, Result, IfOk, MatchOption, sym, subst, arith}
use Rattle.std.specs.Prelude.{nat_eq}
use Rattle.std.proofs.lemmas.Bool.{cases_lt, eqb-true, eq-eqb}
use Rattle.std.proofs.lemmas.List.{take-append-drop, take-take}
use Rattle.std.proofs.lemmas.Result.{IfOk-weaker}
use Rattle.byte_layout.specs.declared.fault.LayoutFault.{LayoutFault}
use Rattle.byte_layout.specs.Whole.{HasFault}
use Rattle.scenario_image.specs.Scenario.{Scenario}
use Rattle.trace_file.specs.declared.entry.Entry.{Entry}
use Rattle.trace_file.specs.Layout.{trace_file, IsTraceFile}
use Rattle.fleet_core.specs.Along.{Along}
use Rattle.fleet_core.specs.Run.{Fits, IsRun}
use Rattle.fleet_core.specs.Verdict.{BreaksAt}
use Rattle.fleet_core.proofs.Along.{along-left}
use Rattle.case_text.specs.declared.answer.Answer.{Answer}
use Rattle.case_text.specs.declared.item.Part.{Part}
use Rattle.case_text.specs.declared.stated.Stated.{Stated}
use Rattle.case_play.specs.Ends.{StatesRefusal, IsEnd, IsOfEntries, IsOfRecorded, recorded_in, IsEndBelow}

-- ---- where entries break off

-- the first entries of a run are one
run_front : (s : Scenario) (es : List Entry) (n : ℕ) → IsRun s es → IsRun s (take n es)
run_front s es n run = record {
  along = along-left (Fits s) [] (take n es) (drop n es)
      (subst (Along (Fits s) []) (sym (take-append-drop n es)) run.along);
}

run_unbroken : (s : Scenario) (es : List Entry) (place : ℕ) → IsRun s es → BreaksAt s es place → ⊥
run_unbroken s es place run breaks = breaks.broken (run_front s es (place + 1) run)

pub broken_no_run : (s : Scenario) (es : List Entry) (place : ℕ) → BreaksAt s es place → IsTrue false ↔ IsRun s es
broken_no_run s es place breaks =
    (λ t. let e : false ≡ true = t in cc, λ run. absurd (run_unbroken s es place run breaks))

pub run_not_broken : (s : Scenario) (es : List Entry) (place : ℕ) → IsRun s es → IsTrue false ↔ BreaksAt s es place
run_not_broken s es place run =
    (λ t. let e : false ≡ true = t in cc, λ breaks. absurd (run_unbroken s es place run breaks))

breaks_first : (s : Scenario) (es : List Entry) (a b : ℕ) → a < b → BreaksAt s es a → BreaksAt s es b → ⊥
breaks_first s es a b less first other =
    first.broken (subst (IsRun s) (take-take (a + 1) b es (omega (arith, less)))
    (run_front s (take b es) (a + 1) other.before))

breaks_by : (s : Scenario) (es : List Entry) (a b : ℕ) → (a < b) ⊎ (b ≤ a) → (b < a) ⊎ (a ≤ b) → BreaksAt s es a
    → BreaksAt s es b → a ≡ b
breaks_by s es a b (inl less) order first other = absurd (breaks_first s es a b less first other)
breaks_by s es a b (inr le) (inl less) first other = absurd (breaks_first s es b a less other first)
breaks_by s es a b (inr le) (inr ge) first other = omega (arith, le, ge)

breaks_once : (s : Scenario) (es : List Entry) (a b : ℕ) → BreaksAt s es a → BreaksAt s es b → a ≡ b
breaks_once s es a b first other = breaks_by s es a b (cases_lt a b) (cases_lt b a) first other

pub breaks_there : (s : Scenario) (es : List Entry) (at place : ℕ) → BreaksAt s es at
    → IsTrue (nat_eq at place) ↔ BreaksAt s es place
breaks_there s es at place breaks = (
  λ t. subst (BreaksAt s es) (eqb-true at place t) breaks,
  λ other. eq-eqb at place (breaks_once s es at place breaks other),
)

-- ---- bytes that are read

entries_hold : (s : Scenario) (bytes : List ℕ) (answers : List Answer) (stated : Stated) (es : List Entry)
    → ((other : List Entry) → IsTraceFile bytes other → es ≡ other)
    → ((fault : LayoutFault) → HasFault trace_file bytes fault → ⊥)
    → IsOfRecorded s bytes answers stated → IsOfEntries s es answers stated
entries_hold s bytes answers stated es once good (inl w) = absurd (good w.0 w.1)
entries_hold s bytes answers stated es once good (inr w) =
    subst (λ l. IsOfEntries s l answers stated) (sym (once w.0 w.1)) w.2

pub read_holds : {E : Type 0} (r : Result Bool E) (s : Scenario) (bytes : List ℕ) (answers : List Answer)
    (stated : Stated) (es list : List Entry) → list ≡ es → IsTraceFile bytes es
    → ((other : List Entry) → IsTraceFile bytes other → es ≡ other)
    → ((fault : LayoutFault) → HasFault trace_file bytes fault → ⊥)
    → IfOk r (λ b. IsTrue b ↔ IsOfEntries s list answers stated)
    → IfOk r (λ b. IsTrue b ↔ IsOfRecorded s bytes answers stated)
read_holds r s bytes answers stated es list same file once good h =
    IfOk-weaker r (λ b. IsTrue b ↔ IsOfEntries s es answers stated)
    (λ b. IsTrue b ↔ IsOfRecorded s bytes answers stated)
    (λ b is.
    (λ t. inr (es, file, is.0 t), λ of. is.1 (entries_hold s bytes answers stated es once good of)))
    (subst (λ l. IfOk r (λ b. IsTrue b ↔ IsOfEntries s l answers stated)) same h)

-- ---- bytes that are refused

refusal_holds : (s : Scenario) (bytes : List ℕ) (answers : List Answer) (stated : Stated) (fault : LayoutFault)
    → ((other : LayoutFault) → HasFault trace_file bytes other → fault ≡ other)
    → ((es : List Entry) → IsTraceFile bytes es → ⊥)
    → IsOfRecorded s bytes answers stated → StatesRefusal fault stated
refusal_holds s bytes answers stated fault once none (inl w) =
    subst (λ f. StatesRefusal f stated) (sym (once w.0 w.1)) w.2
refusal_holds s bytes answers stated fault once none (inr w) = absurd (none w.0 w.1)

pub refused_holds : {E : Type 0} (r : Result Bool E) (s : Scenario) (bytes : List ℕ) (answers : List Answer)
    (stated : Stated) (fault : LayoutFault) → HasFault trace_file bytes fault
    → ((other : LayoutFault) → HasFault trace_file bytes other → fault ≡ other)
    → ((es : List Entry) → IsTraceFile bytes es → ⊥)
    → IfOk r (λ b. IsTrue b ↔ StatesRefusal fault stated)
    → IfOk r (λ b. IsTrue b ↔ IsOfRecorded s bytes answers stated)
refused_holds r s bytes answers stated fault has once none h =
    IfOk-weaker r (λ b. IsTrue b ↔ StatesRefusal fault stated)
    (λ b. IsTrue b ↔ IsOfRecorded s bytes answers stated)
    (λ b is.
    (λ t. inl (fault, has, is.0 t), λ of. is.1 (refusal_holds s bytes answers stated fault once none of)))
    h

-- ---- below an item

pub below_recorded : {E : Type 0} (r : Result Bool E) (s : Scenario) (es : List Entry) (part : Part)
    (answers : List Answer) (stated : Stated) (bytes list : List ℕ) → Some bytes ≡ recorded_in part → list ≡ bytes
    → IfOk r (λ b. IsTrue b ↔ IsOfRecorded s list answers stated)
    → IfOk r (λ b. IsTrue b ↔ IsEndBelow s es part answers stated)
below_recorded r s es part answers stated bytes list is same h =
    subst (λ o. IfOk r (λ b. IsTrue b
    ↔ MatchOption o (IsEnd s es answers stated) (λ bs. IsOfRecorded s bs answers stated))) is
    (subst (λ l. IfOk r (λ b. IsTrue b ↔ IsOfRecorded s l answers stated)) same h)
