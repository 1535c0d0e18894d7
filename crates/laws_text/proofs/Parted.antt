-- The classes and the devices of a text's scenario are what its parts say.
use Rattle.std.proofs.Common.{◌≡◌, ℕ, Bool, true, false, cond, List, []}
use Rattle.std.proofs.Common.{◌∷◌, ◌++◌, Option, None, Some}
use Rattle.std.proofs.Common.{Result, Ok, Err, refl, sym, ap, subst, ◌∙◌, append_assoc, append-nil}
use Rattle.device_template.specs.Template.{Template, empty_class}
use Rattle.device_machine.specs.declared.event.Event.TheVariants as event
use Rattle.scenario_image.specs.Scenario.{Row, Scenario, last_row, with_last, with_last_step}
use Rattle.scenario_image.specs.declared.step.Step.{Step}
use Rattle.scenario_image.specs.declared.step.Step.TheVariants as step
use Rattle.scenario_image.proofs.RowLaws.{last_longer}
use Rattle.scenario_words.specs.declared.cause.Cause.{Cause}
use Rattle.scenario_words.specs.Words.{lines, words}
use Rattle.scenario_words.specs.Reading.{◌>>=◌}
use Rattle.scenario_mnemonics.specs.Messages.{datagram_of}
use Rattle.scenario_mnemonics.specs.declared.mnemonic.Mnemonic.{Mnemonic}
use Rattle.scenario_statements.specs.declared.statement.Statement.{Statement}
use Rattle.scenario_statements.specs.declared.statement.Statement.TheVariants as says
use Rattle.scenario_statements.specs.Grammar.{statement_of}
use Rattle.scenario_asm.specs.Causes.{needs}
use Rattle.scenario_asm.specs.ClassLines.{account_added, definition_added, instance_added, notify_set}
use Rattle.scenario_asm.specs.ClassLines.{object_added, value_added}
use Rattle.scenario_asm.specs.Draft.{Draft, closed_scenario, nothing, with_open}
use Rattle.scenario_asm.specs.Denotes.{AreSaid, Lead}
use Rattle.scenario_asm.specs.Denotes.AreSaid.{done, blank, stated}
use Rattle.scenario_asm.specs.Effect.{effect, has_device, has_server, if_path_fits, in_class, in_object, step_added}
use Rattle.scenario_asm.specs.Effect.{reopened_with, with_open_class}
use Rattle.scenario_asm.specs.Reading.{said_in, statements_from}
use Rattle.scenario_asm.proofs.Denoting.{so_denotes}
use Rattle.laws_text.specs.Parts.{AreMatched, Adds, IsMadeBy, MakeOf, PartsAreSaid, class_parts, object_since}
use Rattle.laws_text.specs.Parts.{PartsSayOne, open_part, said_rows, said_steps}
use Rattle.laws_text.proofs.Begun.{IsAddition, addition, fitted, needed, unrefused}

-- ---- what is kept, and what is added

-- the classes from here on: those that are there, the open one, then those of the parts that follow
abbrev ClassesFrom : Option Template → Option ℕ → List Template → List Statement → List Template → Type 0
ClassesFrom None object there ss cs =
    (rest : List Template) × (cs ≡ there ++ rest) × AreMatched IsMadeBy (class_parts ss) rest
ClassesFrom (Some c) object there ss cs =
    (made : Template) × (rest : List Template) × (cs ≡ there ++ made ∷ rest) × MakeOf object c (open_part ss) made
    × AreMatched IsMadeBy (class_parts ss) rest

-- a statement that adds nothing to a class
kept : (s : Statement) (ss : List Statement) (o : Option Template) (object : Option ℕ) (there cs : List Template)
    → open_part (s ∷ ss) ≡ s ∷ open_part ss → class_parts (s ∷ ss) ≡ class_parts ss
    → ((c : Template) → Adds s object c c) → object_since s object ≡ object → ClassesFrom o object there ss cs
    → ClassesFrom o object there (s ∷ ss) cs
kept s ss None object there cs goes parts adds same h =
    (h.0, h.1, subst (λ ps. AreMatched IsMadeBy ps h.0) (sym parts) h.2)
kept s ss (Some c) object there cs goes parts adds same h = (
  h.0,
  h.1,
  h.2,
  subst (λ p. MakeOf object c p h.0) (sym goes)
      (c, adds c, subst (λ o. MakeOf o c (open_part ss) h.0) (sym same) h.3),
  subst (λ ps. AreMatched IsMadeBy ps h.1) (sym parts) h.4,
)

-- one that adds something to the open class
grown : (s : Statement) (ss : List Statement) (o : Option Template) (object later : Option ℕ) (there cs : List Template)
    (c next : Template) → o ≡ Some c → open_part (s ∷ ss) ≡ s ∷ open_part ss → class_parts (s ∷ ss) ≡ class_parts ss
    → Adds s object c next → object_since s object ≡ later → ClassesFrom (Some next) later there ss cs
    → ClassesFrom o object there (s ∷ ss) cs
grown s ss None object later there cs c next is goes parts adds same h = absurd cc
grown s ss (Some b) object later there cs c next is goes parts adds same h =
    let equal : c ≡ b = cc in (
      h.0,
      h.1,
      h.2,
      subst (λ p. MakeOf object b p h.0) (sym goes) (
        next,
        subst (λ x. Adds s object x next) equal adds,
        subst (λ o. MakeOf o next (open_part ss) h.0) (sym same) h.3,
      ),
      subst (λ ps. AreMatched IsMadeBy ps h.1) (sym parts) h.4,
    )

-- `class` begins a part, and closes the one before it
opened : (ss : List Statement) (o : Option Template) (object : Option ℕ) (s : Scenario) (cs : List Template)
    → ClassesFrom (Some empty_class) None (with_open s o).classes ss cs
    → ClassesFrom o object s.classes (says.Class ∷ ss) cs
opened ss None object s cs h = (h.0 ∷ h.1, h.2, (h.3, h.4))
opened ss (Some c) object s cs h =
    (c, h.0 ∷ h.1, h.2 ∙ append_assoc s.classes (c ∷ []) (h.0 ∷ h.1), refl, (h.3, h.4))

-- `device` closes one
shut_by : (class : ℕ) (ss : List Statement) (o : Option Template) (object later : Option ℕ) (s : Scenario)
    (cs : List Template) → ClassesFrom None later (with_open s o).classes ss cs
    → ClassesFrom o object s.classes (says.Device class ∷ ss) cs
shut_by class ss None object later s cs h = h
shut_by class ss (Some c) object later s cs h =
    (c, h.0, h.1 ∙ append_assoc s.classes (c ∷ []) h.0, refl, h.2)

-- ---- the classes

abbrev Classes : Draft → List Statement → Draft → Type 0
Classes d ss e = ClassesFrom d.open_class d.object d.scenario.classes ss (closed_scenario e).classes

-- what there is of a draft that its classes are made from
abbrev KeepsClass : Draft → Draft → Type 0
KeepsClass d f =
    (d.open_class ≡ f.open_class) × (d.object ≡ f.object) × (d.scenario.classes ≡ f.scenario.classes)

same_classes : (d f : Draft) (ss : List Statement) (cs : List Template) → KeepsClass d f
    → ClassesFrom f.open_class f.object f.scenario.classes ss cs
    → ClassesFrom d.open_class d.object d.scenario.classes ss cs
same_classes d f ss cs h k =
    subst (λ o. ClassesFrom o d.object d.scenario.classes ss cs) (sym h.0)
    (subst (λ o. ClassesFrom f.open_class o d.scenario.classes ss cs) (sym h.1)
    (subst (λ t. ClassesFrom f.open_class f.object t ss cs) (sym h.2) k))

same_as : (d f e : Draft) → f ≡ e → KeepsClass d f → KeepsClass d e
same_as d f e same h = subst (KeepsClass d) same h

step_keeps : (x : Step) (d e : Draft) → step_added x d ≡ Ok e → KeepsClass d e
step_keeps x d e h = same_as d _ e (unrefused _ _ e h).1 (refl, refl, refl)

device_keeps : (x : Step) (b : Bool) (d e : Draft) → needs d.begun (needs b (step_added x d)) ≡ Ok e → KeepsClass d e
device_keeps x b d e h =
    let p = needed d.begun (needs b (step_added x d)) e h in
    step_keeps x d e (needed b (step_added x d) e p.1).1

request_keeps : (x : Step) (m : Mnemonic) (b : Bool) (d e : Draft)
    → needs d.begun (needs b (if_path_fits m (step_added x d))) ≡ Ok e → KeepsClass d e
request_keeps x m b d e h =
    let p = needed d.begun (needs b (if_path_fits m (step_added x d))) e h in
    let q = needed b (if_path_fits m (step_added x d)) e p.1 in
    step_keeps x d e (fitted m (step_added x d) e q.1)

begun_keeps : (b : Bool) (cause : Cause) (d f e : Draft) → cond b (Err cause) (Ok f) ≡ Ok e → KeepsClass d f
    → KeepsClass d e
begun_keeps true cause d f e h k = absurd cc
begun_keeps false cause d f e h k = let same : f ≡ e = cc in same_as d f e same k

-- what was added to the open class, where a text has begun
added_to : (d : Draft) (add : Template → Result Template Cause) (make : Template → Draft) (e : Draft)
    → needs d.begun (in_class d add make d.open_class) ≡ Ok e → IsAddition d add make d.open_class e
added_to d add make e h =
    addition d add make d.open_class e (needed d.begun (in_class d add make d.open_class) e h).1

object_was : (o : Option ℕ) (add : ℕ → Template → Result Template Cause) (c e : Template) → in_object o add c ≡ Ok e
    → (id : ℕ) × (o ≡ Some id) × (add id c ≡ Ok e)
object_was None add c e h = absurd cc
object_was (Some id) add c e h = (id, refl, h)

-- the classes after a draft that an addition made
from_made : (f e : Draft) (ss : List Statement) (cs : List Template) → f ≡ e
    → ClassesFrom e.open_class e.object e.scenario.classes ss cs
    → ClassesFrom f.open_class f.object f.scenario.classes ss cs
from_made f e ss cs same h =
    subst (λ x. ClassesFrom x.open_class x.object x.scenario.classes ss cs) (sym same) h

classes_by : (s : Statement) (ss : List Statement) (d next : Draft) (cs : List Template) → effect s d ≡ Ok next
    → ClassesFrom next.open_class next.object next.scenario.classes ss cs
    → ClassesFrom d.open_class d.object d.scenario.classes (s ∷ ss) cs
classes_by says.Scenario ss d next cs h k =
    kept says.Scenario ss d.open_class d.object d.scenario.classes cs refl refl (λ c. refl) refl
    (same_classes d next ss cs (begun_keeps d.begun _ d _ next h (refl, refl, refl)) k)
classes_by says.Class ss d next cs h k =
    let p = needed d.begun _ next h in
    let q = unrefused _ _ next p.1 in
    opened ss d.open_class d.object d.scenario cs (from_made _ next ss cs q.1 k)
classes_by (says.Notify seconds) ss d next cs h k =
    let a = added_to d (notify_set seconds) (with_open_class d) next h in
    grown (says.Notify seconds) ss d.open_class d.object d.object d.scenario.classes cs a.class a.made a.class_is refl
    refl a.added refl (from_made (with_open_class d a.made) next ss cs a.is k)
classes_by (says.Account server) ss d next cs h k =
    let a = added_to d (account_added server) (with_open_class d) next h in
    grown (says.Account server) ss d.open_class d.object d.object d.scenario.classes cs a.class a.made a.class_is refl
    refl a.added refl (from_made (with_open_class d a.made) next ss cs a.is k)
classes_by (says.Object id) ss d next cs h k =
    let a = added_to d (object_added id) (reopened_with id d) next h in
    grown (says.Object id) ss d.open_class d.object (Some id) d.scenario.classes cs a.class a.made a.class_is refl
    refl a.added refl (from_made (reopened_with id d a.made) next ss cs a.is k)
classes_by (says.Def r) ss d next cs h k =
    let a = added_to d (in_object d.object (λ object. definition_added object r)) (with_open_class d) next h in
    grown (says.Def r) ss d.open_class d.object d.object d.scenario.classes cs a.class a.made a.class_is refl refl
    (object_was d.object (λ object. definition_added object r) a.class a.made a.added) refl
    (from_made (with_open_class d a.made) next ss cs a.is k)
classes_by (says.Instance place) ss d next cs h k =
    let a = added_to d (instance_added place) (with_open_class d) next h in
    grown (says.Instance place) ss d.open_class d.object d.object d.scenario.classes cs a.class a.made a.class_is refl
    refl a.added refl (from_made (with_open_class d a.made) next ss cs a.is k)
classes_by (says.Value p value) ss d next cs h k =
    let a = added_to d (value_added p value) (with_open_class d) next h in
    grown (says.Value p value) ss d.open_class d.object d.object d.scenario.classes cs a.class a.made a.class_is refl
    refl a.added refl (from_made (with_open_class d a.made) next ss cs a.is k)
classes_by (says.Device class) ss d next cs h k =
    let p = needed d.begun _ next h in
    let q = unrefused _ _ next p.1 in
    shut_by class ss d.open_class d.object None d.scenario cs (from_made _ next ss cs q.1 k)
classes_by (says.Recv server bytes) ss d next cs h k =
    kept (says.Recv server bytes) ss d.open_class d.object d.scenario.classes cs refl refl (λ c. refl) refl
    (same_classes d next ss cs (device_keeps (step.Event (event.Recv server bytes)) (has_server d server) d next h) k)
classes_by (says.Request server m) ss d next cs h k =
    kept (says.Request server m) ss d.open_class d.object d.scenario.classes cs refl refl (λ c. refl) refl
    (same_classes d next ss cs
    (request_keeps (step.Event (event.Recv server (datagram_of m))) m (has_server d server) d next h) k)
classes_by (says.Tick seconds) ss d next cs h k =
    kept (says.Tick seconds) ss d.open_class d.object d.scenario.classes cs refl refl (λ c. refl) refl
    (same_classes d next ss cs (device_keeps (step.Event (event.Tick seconds)) (has_device d) d next h) k)
classes_by (says.Put p value) ss d next cs h k =
    kept (says.Put p value) ss d.open_class d.object d.scenario.classes cs refl refl (λ c. refl) refl
    (same_classes d next ss cs (device_keeps (step.Event (event.Put p value)) (has_device d) d next h) k)
classes_by (says.Firmware code) ss d next cs h k =
    kept (says.Firmware code) ss d.open_class d.object d.scenario.classes cs refl refl (λ c. refl) refl
    (same_classes d next ss cs (device_keeps (step.Event (event.Firmware code)) (has_device d) d next h) k)
classes_by (says.Post group) ss d next cs h k =
    kept (says.Post group) ss d.open_class d.object d.scenario.classes cs refl refl (λ c. refl) refl
    (same_classes d next ss cs (device_keeps (step.Post group) (has_device d) d next h) k)
classes_by (says.Need group count) ss d next cs h k =
    kept (says.Need group count) ss d.open_class d.object d.scenario.classes cs refl refl (λ c. refl) refl
    (same_classes d next ss cs (device_keeps (step.Need group count) (has_device d) d next h) k)

none_left : (o : Option Template) (object : Option ℕ) (s : Scenario)
    → ClassesFrom o object s.classes [] (with_open s o).classes
none_left None object s = ([], sym (append-nil s.classes), tt)
none_left (Some c) object s = (c, [], refl, refl, tt)

classes_from : (ss : List Statement) (d e : Draft) → Lead d ss e
    → ClassesFrom d.open_class d.object d.scenario.classes ss (closed_scenario e).classes
classes_from [] d e h =
    subst (λ x. ClassesFrom d.open_class d.object d.scenario.classes [] (closed_scenario x).classes) h
    (none_left d.open_class d.object d.scenario)
classes_from (s ∷ ss) d e h =
    classes_by s ss d h.0 (closed_scenario e).classes h.1 (classes_from ss h.0 e h.2)

-- ---- the rows

-- the rows from here on: those that are there, to the last of which the steps up to the next `device` belong
abbrev RowsFrom : List Row → List Statement → List Row → Type 0
RowsFrom there ss rows =
    (there ≡ [] → rows ≡ said_rows ss)
    × ((front : List Row) (r : Row) → there ≡ front ++ r ∷ []
    → rows ≡ front ++ record { class = r.class; steps = r.steps ++ said_steps ss } ∷ said_rows ss)

-- a statement that is no step
rows_kept : (s : Statement) (ss : List Statement) (there new rows : List Row) → there ≡ new
    → said_steps (s ∷ ss) ≡ said_steps ss → said_rows (s ∷ ss) ≡ said_rows ss → RowsFrom new ss rows
    → RowsFrom there (s ∷ ss) rows
rows_kept s ss there new rows same steps others h = (
  (λ none. h.0 (sym same ∙ none) ∙ sym others),
  (λ front r is. h.1 front r (sym same ∙ is)
      ∙ ap (λ xs. front ++ record { class = r.class; steps = r.steps ++ xs } ∷ said_rows ss) (sym steps)
      ∙ ap (λ rs. front ++ record { class = r.class; steps = r.steps ++ said_steps (s ∷ ss) } ∷ rs) (sym others)),
)

-- a step
rows_longer : (s : Statement) (x : Step) (ss : List Statement) (there new rows : List Row)
    → with_last there (last_row there) x ≡ new → said_steps (s ∷ ss) ≡ x ∷ said_steps ss
    → said_rows (s ∷ ss) ≡ said_rows ss → RowsFrom new ss rows → RowsFrom there (s ∷ ss) rows
rows_longer s x ss there new rows same steps others h = (
  (λ none. h.0 (sym same ∙ ap (λ rs. with_last rs (last_row rs) x) none) ∙ sym others),
  (λ front r is. h.1 front (with_last_step r x)
      (sym same ∙ ap (λ rs. with_last rs (last_row rs) x) is ∙ last_longer front r x)
      ∙ ap (λ xs. front ++ record { class = r.class; steps = xs } ∷ said_rows ss)
      (append_assoc r.steps (x ∷ []) (said_steps ss) ∙ ap (λ xs. r.steps ++ xs) (sym steps))
      ∙ ap (λ rs. front ++ record { class = r.class; steps = r.steps ++ said_steps (s ∷ ss) } ∷ rs) (sym others)),
)

-- a device
row_more : (class : ℕ) (ss : List Statement) (there new rows : List Row)
    → there ++ record { class = class; steps = [] } ∷ [] ≡ new → RowsFrom new ss rows
    → RowsFrom there (says.Device class ∷ ss) rows
row_more class ss there new rows same h =
    let all = h.1 there (record { class = class; steps = [] }) (sym same) in (
      (λ none. all ∙ ap (λ rs. rs ++ record { class = class; steps = said_steps ss } ∷ said_rows ss) none),
      (λ front r is. all
          ∙ ap (λ rs. rs ++ record { class = class; steps = said_steps ss } ∷ said_rows ss) is
          ∙ append_assoc front (r ∷ []) (record { class = class; steps = said_steps ss } ∷ said_rows ss)
          ∙ ap (λ xs. front ++ record { class = r.class; steps = xs }
          ∷ record { class = class; steps = said_steps ss } ∷ said_rows ss) (sym (append-nil r.steps))),
    )

-- the rows of a draft whose open class is closed
closed_rows : (o : Option Template) (s : Scenario) → (with_open s o).rows ≡ s.rows
closed_rows None s = refl
closed_rows (Some c) s = refl

rows_same : (d e f : Draft) → f ≡ e → d.scenario.rows ≡ f.scenario.rows → d.scenario.rows ≡ e.scenario.rows
rows_same d e f same h = h ∙ ap (λ x. x.scenario.rows) same

begun_rows : (b : Bool) (cause : Cause) (d f e : Draft) → cond b (Err cause) (Ok f) ≡ Ok e
    → d.scenario.rows ≡ f.scenario.rows → d.scenario.rows ≡ e.scenario.rows
begun_rows true cause d f e h k = absurd cc
begun_rows false cause d f e h k = let same : f ≡ e = cc in rows_same d e f same k

-- a step stands at the end of the last row
abbrev HasStep : Step → Draft → Draft → Type 0
HasStep x d e = with_last d.scenario.rows (last_row d.scenario.rows) x ≡ e.scenario.rows

step_rows : (x : Step) (d e : Draft) → step_added x d ≡ Ok e → HasStep x d e
step_rows x d e h = ap (λ y. y.scenario.rows) (unrefused _ _ e h).1

device_rows : (x : Step) (b : Bool) (d e : Draft) → needs d.begun (needs b (step_added x d)) ≡ Ok e → HasStep x d e
device_rows x b d e h =
    let p = needed d.begun (needs b (step_added x d)) e h in step_rows x d e (needed b (step_added x d) e p.1).1

request_rows : (x : Step) (m : Mnemonic) (b : Bool) (d e : Draft)
    → needs d.begun (needs b (if_path_fits m (step_added x d))) ≡ Ok e → HasStep x d e
request_rows x m b d e h =
    let p = needed d.begun (needs b (if_path_fits m (step_added x d))) e h in
    let q = needed b (if_path_fits m (step_added x d)) e p.1 in
    step_rows x d e (fitted m (step_added x d) e q.1)

rows_by : (s : Statement) (ss : List Statement) (d next : Draft) (rows : List Row) → effect s d ≡ Ok next
    → RowsFrom next.scenario.rows ss rows → RowsFrom d.scenario.rows (s ∷ ss) rows
rows_by says.Scenario ss d next rows h k =
    rows_kept says.Scenario ss _ _ rows (begun_rows d.begun _ d _ next h refl) refl refl k
rows_by says.Class ss d next rows h k =
    let q = unrefused _ _ next (needed d.begun _ next h).1 in
    rows_kept says.Class ss _ _ rows
    (sym (closed_rows d.open_class d.scenario) ∙ ap (λ x. x.scenario.rows) q.1) refl refl k
rows_by (says.Notify seconds) ss d next rows h k =
    let a = added_to d (notify_set seconds) (with_open_class d) next h in
    rows_kept (says.Notify seconds) ss _ _ rows (ap (λ x. x.scenario.rows) a.is) refl refl k
rows_by (says.Account server) ss d next rows h k =
    let a = added_to d (account_added server) (with_open_class d) next h in
    rows_kept (says.Account server) ss _ _ rows (ap (λ x. x.scenario.rows) a.is) refl refl k
rows_by (says.Object id) ss d next rows h k =
    let a = added_to d (object_added id) (reopened_with id d) next h in
    rows_kept (says.Object id) ss _ _ rows (ap (λ x. x.scenario.rows) a.is) refl refl k
rows_by (says.Def r) ss d next rows h k =
    let a = added_to d (in_object d.object (λ object. definition_added object r)) (with_open_class d) next h in
    rows_kept (says.Def r) ss _ _ rows (ap (λ x. x.scenario.rows) a.is) refl refl k
rows_by (says.Instance place) ss d next rows h k =
    let a = added_to d (instance_added place) (with_open_class d) next h in
    rows_kept (says.Instance place) ss _ _ rows (ap (λ x. x.scenario.rows) a.is) refl refl k
rows_by (says.Value p value) ss d next rows h k =
    let a = added_to d (value_added p value) (with_open_class d) next h in
    rows_kept (says.Value p value) ss _ _ rows (ap (λ x. x.scenario.rows) a.is) refl refl k
rows_by (says.Device class) ss d next rows h k =
    let q = unrefused _ _ next (needed d.begun _ next h).1 in
    row_more class ss _ _ rows
    (ap (λ rs. rs ++ record { class = class; steps = [] } ∷ []) (sym (closed_rows d.open_class d.scenario))
    ∙ ap (λ x. x.scenario.rows) q.1) k
rows_by (says.Recv server bytes) ss d next rows h k =
    rows_longer (says.Recv server bytes) (step.Event (event.Recv server bytes)) ss _ _ rows
    (device_rows (step.Event (event.Recv server bytes)) (has_server d server) d next h) refl refl k
rows_by (says.Request server m) ss d next rows h k =
    rows_longer (says.Request server m) (step.Event (event.Recv server (datagram_of m))) ss _ _ rows
    (request_rows (step.Event (event.Recv server (datagram_of m))) m (has_server d server) d next h) refl refl k
rows_by (says.Tick seconds) ss d next rows h k =
    rows_longer (says.Tick seconds) (step.Event (event.Tick seconds)) ss _ _ rows
    (device_rows (step.Event (event.Tick seconds)) (has_device d) d next h) refl refl k
rows_by (says.Put p value) ss d next rows h k =
    rows_longer (says.Put p value) (step.Event (event.Put p value)) ss _ _ rows
    (device_rows (step.Event (event.Put p value)) (has_device d) d next h) refl refl k
rows_by (says.Firmware code) ss d next rows h k =
    rows_longer (says.Firmware code) (step.Event (event.Firmware code)) ss _ _ rows
    (device_rows (step.Event (event.Firmware code)) (has_device d) d next h) refl refl k
rows_by (says.Post group) ss d next rows h k =
    rows_longer (says.Post group) (step.Post group) ss _ _ rows
    (device_rows (step.Post group) (has_device d) d next h) refl refl k
rows_by (says.Need group count) ss d next rows h k =
    rows_longer (says.Need group count) (step.Need group count) ss _ _ rows
    (device_rows (step.Need group count) (has_device d) d next h) refl refl k

no_rows_left : (there rows : List Row) → rows ≡ there → RowsFrom there [] rows
no_rows_left there rows same = (
  (λ none. same ∙ none),
  (λ front r is. same ∙ is
      ∙ ap (λ xs. front ++ record { class = r.class; steps = xs } ∷ []) (sym (append-nil r.steps))),
)

rows_from : (ss : List Statement) (d e : Draft) → Lead d ss e → RowsFrom d.scenario.rows ss (closed_scenario e).rows
rows_from [] d e h =
    no_rows_left d.scenario.rows (closed_scenario e).rows
    (closed_rows e.open_class e.scenario ∙ sym (ap (λ x. x.scenario.rows) h))
rows_from (s ∷ ss) d e h = rows_by s ss d h.0 (closed_scenario e).rows h.1 (rows_from ss h.0 e h.2)

-- ---- the scenario of a text

said_blank : (ws : List (List ℕ)) (ls : List (List ℕ)) (ss : List Statement) → ws ≡ [] → said_in ls ≡ Ok ss
    → (statement_of ws >>= (λ o. said_in ls >>= (λ r. Ok (statements_from o r)))) ≡ Ok ss
said_blank ws ls ss none rest =
    ap (λ x. statement_of x >>= (λ o. said_in ls >>= (λ r. Ok (statements_from o r)))) none
    ∙ ap (λ q. q >>= (λ r. Ok (statements_from None r))) rest

said_so : (ls : List (List ℕ)) (ss : List Statement) → AreSaid ls ss → said_in ls ≡ Ok ss
said_so _ _ done = refl
said_so _ _ (blank {ls} {ss} line none rest) = said_blank (words line) ls ss none (said_so ls ss rest)
said_so _ _ (stated {ls} {ss} line s is rest) =
    ap (λ q. q >>= (λ o. said_in ls >>= (λ r. Ok (statements_from o r)))) is
    ∙ ap (λ q. q >>= (λ r. Ok (statements_from (Some s) r))) (said_so ls ss rest)

pub parts_are_said : PartsAreSaid
parts_are_said text s h =
    let d = so_denotes text s h in
    let classes = classes_from d.statements nothing d.draft d.lead in
    let rows = (rows_from d.statements nothing d.draft d.lead).0 refl in (
      d.statements,
      said_so (lines text) d.statements d.said,
      record {
        classes = subst (λ cs. AreMatched IsMadeBy (class_parts d.statements) cs)
            (sym (ap (λ x. x.classes) (sym d.scenario) ∙ classes.1)) classes.2;
        rows = ap (λ x. x.rows) (sym d.scenario) ∙ rows;
      },
    )

-- ---- the parts say one scenario

same_made : {X : Type 0} (r : Result X Cause) (x y : X) → r ≡ Ok x → r ≡ Ok y → x ≡ y
same_made r x y h k = cc

same_stated : (o : Option ℕ) (m n : ℕ) → o ≡ Some m → o ≡ Some n → n ≡ m
same_stated o m n h k = cc

one_addition : (s : Statement) (o : Option ℕ) (c e f : Template) → Adds s o c e → Adds s o c f → e ≡ f
one_addition says.Scenario o c e f h k = sym h ∙ k
one_addition says.Class o c e f h k = sym h ∙ k
one_addition (says.Notify seconds) o c e f h k = same_made (notify_set seconds c) e f h k
one_addition (says.Account server) o c e f h k = same_made (account_added server c) e f h k
one_addition (says.Object id) o c e f h k = same_made (object_added id c) e f h k
one_addition (says.Def d) o c e f h k =
    same_made (definition_added h.0 d c) e f h.2
    (subst (λ n. definition_added n d c ≡ Ok f) (same_stated o h.0 k.0 h.1 k.1) k.2)
one_addition (says.Instance place) o c e f h k = same_made (instance_added place c) e f h k
one_addition (says.Value p value) o c e f h k = same_made (value_added p value c) e f h k
one_addition (says.Device class) o c e f h k = sym h ∙ k
one_addition (says.Recv server bytes) o c e f h k = sym h ∙ k
one_addition (says.Request server m) o c e f h k = sym h ∙ k
one_addition (says.Tick seconds) o c e f h k = sym h ∙ k
one_addition (says.Put p value) o c e f h k = sym h ∙ k
one_addition (says.Firmware code) o c e f h k = sym h ∙ k
one_addition (says.Post group) o c e f h k = sym h ∙ k
one_addition (says.Need group count) o c e f h k = sym h ∙ k

one_class : (ss : List Statement) (o : Option ℕ) (c e f : Template) → MakeOf o c ss e → MakeOf o c ss f → e ≡ f
one_class [] o c e f h k = sym h ∙ k
one_class (s ∷ ss) o c e f h k =
    one_class ss (object_since s o) h.0 e f h.2
    (subst (λ x. MakeOf (object_since s o) x ss f) (one_addition s o c k.0 h.0 k.1 h.1) k.2)

one_each : (parts : List (List Statement)) (xs ys : List Template) → AreMatched IsMadeBy parts xs
    → AreMatched IsMadeBy parts ys → xs ≡ ys
one_each [] [] [] h k = refl
one_each [] [] (y ∷ ys) h k = absurd k
one_each [] (x ∷ xs) ys h k = absurd h
one_each (p ∷ parts) [] ys h k = absurd h
one_each (p ∷ parts) (x ∷ xs) [] h k = absurd k
one_each (p ∷ parts) (x ∷ xs) (y ∷ ys) h k =
    ap (λ c. c ∷ xs) (one_class p None empty_class x y h.0 k.0)
    ∙ ap (λ cs. y ∷ cs) (one_each parts xs ys h.1 k.1)

pub parts_say_one : PartsSayOne
parts_say_one ss s t h k =
    ap (λ cs. record { classes = cs; rows = s.rows })
    (one_each (class_parts ss) s.classes t.classes h.classes k.classes)
    ∙ ap (λ rs. record { classes = t.classes; rows = rs }) (h.rows ∙ sym k.rows)
