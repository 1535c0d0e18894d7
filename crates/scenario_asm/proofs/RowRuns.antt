-- The statements of devices add their rows.
use Rattle.std.proofs.Common.{All, ◌≡◌, ℕ, suc, ◌+◌, ◌<◌, ◌≤◌, Bool, true, false, cond, eqb, List, [], ◌∷◌, ◌++◌}
use Rattle.std.proofs.Common.{map, length, Option, None, Some, Result, Ok, Err, option_map, refl, sym, ap, subst, ◌∙◌}
use Rattle.std.proofs.Common.{append_assoc, arith}
use Rattle.std.specs.Prelude.{not, nat_le, nat_lt}
use Rattle.std.specs.List.{AllByRecursion, flat_map, list_any, slice_get}
use Rattle.std.proofs.lemmas.Bool.Decides.{nat_tests}
use Rattle.std.proofs.lemmas.List.{append-nil}
use Rattle.std.proofs.lemmas.Option.{slice_get_within}
use Rattle.lemmas.proofs.Lists.{length_pushed}
use Rattle.lemmas.proofs.Numbers.{nat_le_below}
use Rattle.object_defs.specs.Lines.{first_line}
use Rattle.device_template.specs.Template.{Template}
use Rattle.device_machine.specs.declared.event.Event.TheVariants as event
use Rattle.scenario_image.specs.Scenario.{IsGoodRow, IsGoodStep, Row, Scenario, accounts_in, accounts_of, fault_in}
use Rattle.scenario_image.specs.Scenario.{is_known, is_within_limits, last_row, row_fault, step_fault}
use Rattle.scenario_image.specs.Scenario.{with_row, with_step}
use Rattle.scenario_image.specs.declared.fault.ScenarioFault.TheVariants as scenario
use Rattle.scenario_image.specs.declared.step.Step.{Step}
use Rattle.scenario_image.specs.declared.step.Step.TheVariants as step
use Rattle.scenario_image.proofs.RowLaws.{last_longer, last_is}
use Rattle.scenario_words.specs.declared.cause.Cause.{Cause}
use Rattle.scenario_words.specs.declared.cause.Cause.TheVariants.{Range}
use Rattle.scenario_mnemonics.specs.Denoting.{mnemonic_of}
use Rattle.scenario_mnemonics.specs.Messages.{datagram_of, IsGood}
use Rattle.scenario_mnemonics.specs.declared.mnemonic.Mnemonic.{Mnemonic}
use Rattle.scenario_mnemonics.specs.declared.mnemonic.Mnemonic.TheVariants as mnemonic
use Rattle.scenario_mnemonics.proofs.Candidates.{denotes, good_fits}
use Rattle.scenario_statements.specs.declared.statement.Statement.TheVariants as says
use Rattle.scenario_asm.specs.Canonical.{of_datagram, of_row, of_step}
use Rattle.scenario_asm.proofs.Numbers.{bytes_all}
use Rattle.scenario_asm.specs.Causes.{needs, scenario_cause, unless}
use Rattle.scenario_asm.specs.Draft.{Draft, closed_scenario}
use Rattle.scenario_asm.specs.Effect.{device_begun, effect, has_device, has_server, if_path_fits, knows, step_added}
use Rattle.scenario_asm.specs.Denotes.{Lead}
use Rattle.scenario_asm.proofs.Canonical.{lead_append}

abbrev script : List Template → List Row → Scenario
script cs rows = record { classes = cs; rows = rows }

abbrev row_with : ℕ → List Step → Row
row_with class steps = record { class = class; steps = steps }

-- a draft without an open class
abbrev pub shut : Scenario → Draft
shut s = record { begun = true; scenario = s; open_class = None; object = None }

-- ---- the last of some rows

above_none : (n : ℕ) → nat_lt 0 (suc n) ≡ true
above_none n = grind (arith, nat_tests)

some_row : (rows : List Row) (r : Row) → nat_lt 0 (length (rows ++ r ∷ [])) ≡ true
some_row rows r = ap (nat_lt 0) (length_pushed rows r) ∙ above_none (length rows)

-- ---- a step

free_lines : (a b c : Bool) → a ≡ true → b ≡ false → c ≡ true
    → first_line ((not a, scenario.Missing) ∷ (b, scenario.Limit) ∷ (not c, scenario.Limit) ∷ []) ≡ None
free_lines true false true h i j = refl
free_lines false b c h i j = absurd cc
free_lines true true c h i j = absurd cc
free_lines true false false h i j = absurd cc

is_free : (cs : List Template) (rows : List Row) (class : ℕ) (past : List Step) (x : Step) (t : Template)
    → slice_get cs class ≡ Some t → IsGoodStep t.accounts x → length past < 4096
    → step_fault (script cs (rows ++ row_with class past ∷ [])) x ≡ None
is_free cs rows class past x t at good short =
    ap (λ b. cond (not b) (Some scenario.Range) (fault_in cs (last_row (rows ++ row_with class past ∷ [])) x))
    good.range
    ∙ ap (λ o. fault_in cs o x) (last_is rows (row_with class past))
    ∙ free_lines (is_known (accounts_of cs class) x) (nat_le 4096 (length past)) (is_within_limits x)
    (ap (λ o. is_known (accounts_in o) x) at ∙ good.known) (nat_le_below (length past) 4096 short) good.within

added : (cs : List Template) (rows : List Row) (class : ℕ) (past : List Step) (x : Step) (t : Template)
    → slice_get cs class ≡ Some t → IsGoodStep t.accounts x → length past < 4096
    → step_added x (shut (script cs (rows ++ row_with class past ∷ [])))
    ≡ Ok (shut (script cs (rows ++ row_with class (past ++ x ∷ []) ∷ [])))
added cs rows class past x t at good short =
    ap (λ f. unless (option_map scenario_cause f) (shut (with_step (script cs (rows ++ row_with class past ∷ [])) x)))
    (is_free cs rows class past x t at good short)
    ∙ ap (λ rs. Ok (shut (script cs rs))) (last_longer rows (row_with class past) x)

known_server : (cs : List Template) (rows : List Row) (class : ℕ) (past : List Step) (server : ℕ) (t : Template)
    → slice_get cs class ≡ Some t → list_any (λ account. eqb account server) t.accounts ≡ true
    → has_server (shut (script cs (rows ++ row_with class past ∷ []))) server ≡ true
known_server cs rows class past server t at known =
    ap (λ o. knows (script cs (rows ++ row_with class past ∷ [])) server (option_map (λ (r : Row). r.class) o))
    (last_is rows (row_with class past))
    ∙ ap (λ o. list_any (λ account. eqb account server) (accounts_in o)) at
    ∙ known

-- what stands before a step, and after it
abbrev here : List Template → List Row → ℕ → List Step → Draft
here cs rows class past = shut (script cs (rows ++ row_with class past ∷ []))

of_device : (cs : List Template) (rows : List Row) (class : ℕ) (past : List Step) (x : Step) (e : Draft)
    → step_added x (here cs rows class past) ≡ Ok e
    → needs (has_device (here cs rows class past)) (step_added x (here cs rows class past)) ≡ Ok e
of_device cs rows class past x e h =
    ap (λ b. needs b (step_added x (here cs rows class past))) (some_row rows (row_with class past)) ∙ h

of_server : (d e : Draft) (server : ℕ) (x : Result Draft Cause) → has_server d server ≡ true → x ≡ Ok e
    → needs (has_server d server) x ≡ Ok e
of_server d e server x known h = ap (λ b. needs b x) known ∙ h

by_mnemonic : (d e : Draft) (server : ℕ) (bytes : List ℕ) (m : Mnemonic) → d.begun ≡ true → has_server d server ≡ true
    → IsGood m → datagram_of m ≡ bytes → step_added (step.Event (event.Recv server bytes)) d ≡ Ok e
    → effect (says.Request server m) d ≡ Ok e
by_mnemonic d e server bytes m begun known good same h =
    ap (λ b. needs b (needs (has_server d server)
    (if_path_fits m (step_added (step.Event (event.Recv server (datagram_of m))) d)))) begun
    ∙ of_server d e server _ known
    (ap (λ b. cond b (step_added (step.Event (event.Recv server (datagram_of m))) d) (Err Range)) (good_fits m good)
    ∙ ap (λ bs. step_added (step.Event (event.Recv server bs)) d) same
    ∙ h)

by_datagram : (d e : Draft) (server : ℕ) (bytes : List ℕ) (o : Option Mnemonic) → mnemonic_of bytes ≡ o
    → All (λ b. b < 256) bytes → d.begun ≡ true → has_server d server ≡ true
    → step_added (step.Event (event.Recv server bytes)) d ≡ Ok e
    → effect (of_datagram server bytes o) d ≡ Ok e
by_datagram d e server bytes None is fits begun known h =
    ap (λ b. needs b (needs (has_server d server) (step_added (step.Event (event.Recv server bytes)) d))) begun
    ∙ of_server d e server _ known h
by_datagram d e server bytes (Some m) is fits begun known h =
    let said = (denotes bytes m fits).0 is in
    by_mnemonic d e server bytes m begun known said.0 said.1 h

-- a step that needs a device alone
stepped : (cs : List Template) (rows : List Row) (class : ℕ) (past : List Step) (x : Step) (t : Template)
    → slice_get cs class ≡ Some t → IsGoodStep t.accounts x → length past < 4096
    → needs (has_device (here cs rows class past)) (step_added x (here cs rows class past))
    ≡ Ok (here cs rows class (past ++ x ∷ []))
stepped cs rows class past x t at good short =
    of_device cs rows class past x (here cs rows class (past ++ x ∷ [])) (added cs rows class past x t at good short)

-- a step's statement adds it
pub step_lead : (cs : List Template) (rows : List Row) (class : ℕ) (past : List Step) (x : Step) (t : Template)
    → slice_get cs class ≡ Some t → IsGoodStep t.accounts x → length past < 4096
    → effect (of_step x) (here cs rows class past) ≡ Ok (here cs rows class (past ++ x ∷ []))
step_lead cs rows class past (step.Event (event.Recv server bytes)) t at good short =
    let x = step.Event (event.Recv server bytes) in
    by_datagram (here cs rows class past) (here cs rows class (past ++ x ∷ [])) server bytes (mnemonic_of bytes) refl
    (bytes_all bytes good.fields.1) refl (known_server cs rows class past server t at good.known)
    (added cs rows class past x t at good short)
step_lead cs rows class past (step.Event (event.Put p v)) t at good short =
    stepped cs rows class past (step.Event (event.Put p v)) t at good short
step_lead cs rows class past (step.Event (event.Firmware code)) t at good short =
    stepped cs rows class past (step.Event (event.Firmware code)) t at good short
step_lead cs rows class past (step.Event (event.Tick seconds)) t at good short =
    stepped cs rows class past (step.Event (event.Tick seconds)) t at good short
step_lead cs rows class past (step.Post group) t at good short =
    stepped cs rows class past (step.Post group) t at good short
step_lead cs rows class past (step.Need group count) t at good short =
    stepped cs rows class past (step.Need group count) t at good short

pub from_none : (n k : ℕ) → n ≤ k → 0 + n ≤ k
from_none n k h = omega (arith, h)

one_less : (m n k : ℕ) → m + suc n ≤ k → suc m + n ≤ k
one_less m n k h = omega (arith, h)

has_one : (m n k : ℕ) → m + suc n ≤ k → m < k
has_one m n k h = omega (arith, h)

steps_lead : (cs : List Template) (rows : List Row) (class : ℕ) (past xs : List Step) (t : Template)
    → slice_get cs class ≡ Some t → AllByRecursion (IsGoodStep t.accounts) xs → length past + length xs ≤ 4096
    → Lead (here cs rows class past) (map of_step xs) (here cs rows class (past ++ xs))
steps_lead cs rows class past [] t at good short = ap (λ ys. here cs rows class ys) (sym (append-nil past))
steps_lead cs rows class past (x ∷ xs) t at good short = (
  here cs rows class (past ++ x ∷ []),
  step_lead cs rows class past x t at good.0 (has_one (length past) (length xs) 4096 short),
  subst (λ ys. Lead (here cs rows class (past ++ x ∷ [])) (map of_step xs) (here cs rows class ys))
      (append_assoc past (x ∷ []) xs)
      (steps_lead cs rows class (past ++ x ∷ []) xs t at good.1
      (subst (λ n. n + length xs ≤ 4096) (sym (length_pushed past x))
      (one_less (length past) (length xs) 4096 short))),
)

-- ---- a row

row_lines : (a b : Bool) → a ≡ false → b ≡ false → first_line ((a, scenario.Missing) ∷ (b, scenario.Limit) ∷ []) ≡ None
row_lines false false h i = refl
row_lines true b h i = absurd cc
row_lines false true h i = absurd cc

device_lead : (cs : List Template) (rows : List Row) (class : ℕ) (d : Draft) → d.begun ≡ true
    → closed_scenario d ≡ script cs rows → class < length cs → length rows < 16384
    → effect (says.Device class) d ≡ Ok (here cs rows class [])
device_lead cs rows class d begun same there short =
    ap (λ b. needs b (device_begun class d)) begun
    ∙ ap (λ s. unless (option_map scenario_cause (row_fault s class))
    (record { begun = d.begun; scenario = with_row s class; open_class = None; object = None })) same
    ∙ ap (λ f. unless (option_map scenario_cause f)
    (record { begun = d.begun; scenario = with_row (script cs rows) class; open_class = None; object = None }))
    (row_lines (nat_le (length cs) class) (nat_le 16384 (length rows)) (nat_le_below class (length cs) there)
    (nat_le_below (length rows) 16384 short))
    ∙ ap (λ b. Ok (record { begun = b; scenario = with_row (script cs rows) class; open_class = None; object = None }))
    begun

row_lead : (cs : List Template) (rows : List Row) (r : Row) (d : Draft) → d.begun ≡ true
    → closed_scenario d ≡ script cs rows
    → IsGoodRow cs r → length rows < 16384 → Lead d (of_row r) (shut (script cs (rows ++ r ∷ [])))
row_lead cs rows r d begun same good short = (
  here cs rows r.class [],
  device_lead cs rows r.class d begun same (slice_get_within cs r.class good.class good.stated) short,
  steps_lead cs rows r.class [] r.steps good.class good.stated good.each (from_none (length r.steps) 4096 good.count),
)

-- the statements of rows lead to the scenario that has them
pub rows_lead : (cs : List Template) (rows todo : List Row) (d : Draft) → d.begun ≡ true
    → closed_scenario d ≡ script cs rows
    → AllByRecursion (IsGoodRow cs) todo → length rows + length todo ≤ 16384
    → (e : Draft) × Lead d (flat_map of_row todo) e × (e.begun ≡ true) × (closed_scenario e ≡ script cs (rows ++ todo))
rows_lead cs rows [] d begun same good short = (d, refl, begun, same ∙ ap (script cs) (sym (append-nil rows)))
rows_lead cs rows (r ∷ todo) d begun same good short =
    let one = row_lead cs rows r d begun same good.0 (has_one (length rows) (length todo) 16384 short) in
    let rest = rows_lead cs (rows ++ r ∷ []) todo (shut (script cs (rows ++ r ∷ []))) refl refl good.1
    (subst (λ n. n + length todo ≤ 16384) (sym (length_pushed rows r))
    (one_less (length rows) (length todo) 16384 short)) in (
      rest.0,
      lead_append d (shut (script cs (rows ++ r ∷ []))) rest.0 (of_row r) (flat_map of_row todo) one rest.1,
      rest.2,
      rest.3 ∙ ap (script cs) (append_assoc rows (r ∷ []) todo),
    )
