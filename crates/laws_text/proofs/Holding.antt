-- A class holds what its part states.
use Rattle.std.proofs.Common.{◌≡◌, ◌↔◌, ◌⊎◌, inl, inr, ℕ, ◌<◌, Bool, true, false, List, [], ◌∷◌, Option, None, Some, Ok}
use Rattle.std.proofs.Common.{eqb, eqb-true, refl, sym, ap, subst, ◌∙◌, arith}
use Rattle.std.specs.Prelude.{is_some, nat_le, not}
use Rattle.std.specs.FinMap.{get-empty}
use Rattle.std.specs.List.{list_any}
use Rattle.lemmas.proofs.Options.{option_map_none, none_from_test}
use Rattle.lwm2m_values.specs.declared.value.Value.{Value}
use Rattle.lwm2m_values.specs.Value.{has_good_length}
use Rattle.object_defs.specs.Catalog.{definition_of, object_of}
use Rattle.object_defs.specs.Lines.{first_line}
use Rattle.object_defs.specs.Path.{full_path, instance_cmp, path_cmp}
use Rattle.object_defs.specs.Vendor.{resource_fault, vendor_fault, with_object, with_resource}
use Rattle.object_defs.specs.declared.definition.ResourceDef.{ResourceDef}
use Rattle.object_defs.specs.declared.path.FullPath.{FullPath}
use Rattle.object_defs.specs.declared.path.InstancePath.{InstancePath}
use Rattle.object_defs.specs.declared.path.Path.{Path}
use Rattle.object_defs.proofs.LookUps.{same_number}
use Rattle.instance_store.specs.Stored.{has_instance, value_at, value_count, with_instance, with_value}
use Rattle.device_template.specs.Template.{Template, empty_class, fault_of, is_notify, with_account, with_catalog}
use Rattle.device_template.specs.Template.{with_notify, with_store}
use Rattle.device_template.specs.Values.{has_all_parts, with_value_at}
use Rattle.scenario_words.specs.declared.cause.Cause.TheVariants.{Duplicate, Limit, Range}
use Rattle.scenario_statements.specs.declared.statement.Statement.{Statement}
use Rattle.scenario_statements.specs.declared.statement.Statement.TheVariants as says
use Rattle.scenario_asm.specs.Causes.{template_cause, unless}
use Rattle.scenario_asm.specs.ClassLines.{value_cause}
use Rattle.laws_text.specs.Held.{ClassesHoldWhatIsStated, HoldsWhatIsStated, StatesOne}
use Rattle.laws_text.specs.Parts.{Adds, AreMatched, IsMadeBy, MakeOf, class_parts, object_since}
use Rattle.laws_text.proofs.Begun.{needed, unrefused}
use Rattle.laws_text.proofs.Contents.{Grows, account_grows, before_or, definition_grows, instance_grows, object_grows}
use Rattle.laws_text.proofs.Contents.{object_keeps, resource_keeps, value_grows}
use Rattle.laws_text.proofs.Parted.{parts_are_said}

-- ---- what a statement changes

-- a statement about a class
abbrev is_of_class : Statement → Bool
is_of_class (says.Notify seconds) = true
is_of_class (says.Account server) = true
is_of_class (says.Object id) = true
is_of_class (says.Def d) = true
is_of_class (says.Instance place) = true
is_of_class (says.Value path v) = true
is_of_class s = false

data IsChange : Statement → Option ℕ → Template → Template → Type 0 where
  none : (s : Statement) (o : Option ℕ) (c : Template) → is_of_class s ≡ false → IsChange s o c c
  notify : (seconds : ℕ) (o : Option ℕ) (c : Template) → c.notify ≡ 0
      → IsChange (says.Notify seconds) o c (with_notify c seconds)
  account : (server : ℕ) (o : Option ℕ) (c : Template) → IsChange (says.Account server) o c (with_account c server)
  object : (id : ℕ) (o : Option ℕ) (c : Template) → vendor_fault c.catalog id ≡ None
      → IsChange (says.Object id) o c (with_catalog c (with_object c.catalog id))
  resource : (d : ResourceDef) (id : ℕ) (c : Template) → resource_fault c.catalog id d ≡ None
      → IsChange (says.Def d) (Some id) c (with_catalog c (with_resource c.catalog id d))
  instance : (place : InstancePath) (o : Option ℕ) (c : Template)
      → IsChange (says.Instance place) o c (with_store c (with_instance c.store place))
  value : (path : Path) (p : FullPath) (v : Value) (o : Option ℕ) (c : Template) → full_path path ≡ Some p
      → value_at c.store p ≡ None → IsChange (says.Value path v) o c (with_store c (with_value c.store p v))

is_unset : (a b : Bool) → first_line ((a, Range) ∷ (not b, Duplicate) ∷ []) ≡ None → b ≡ true
is_unset true b h = absurd cc
is_unset false true h = refl
is_unset false false h = absurd cc

is_free : (a b c d e : Bool)
    → first_line ((a, Range) ∷ (b, Duplicate) ∷ (c, Limit) ∷ (d, Limit) ∷ (e, Limit) ∷ []) ≡ None → b ≡ false
is_free true b c d e h = absurd cc
is_free false true c d e h = absurd cc
is_free false false c d e h = refl

valued : (path : Path) (q : Option FullPath) (v : Value) (o : Option ℕ) (c e : Template) → full_path path ≡ q
    → unless (value_cause c q v) (with_store c (with_value_at c.store q v)) ≡ Ok e
    → IsChange (says.Value path v) o c e
valued path None v o c e is h = absurd cc
valued path (Some p) v o c e is h =
    let u = unrefused (value_cause c (Some p) v) (with_store c (with_value c.store p v)) e h in
    subst (IsChange (says.Value path v) o c) u.1
    (value path p v o c is (none_from_test (value_at c.store p)
    (is_free _ _ (not (has_good_length v)) (nat_le 65535 (value_count c.store)) (has_all_parts c.store p) u.0)))

no_change : (s : Statement) (o : Option ℕ) (c e : Template) → is_of_class s ≡ false → c ≡ e → IsChange s o c e
no_change s o c e is h = subst (IsChange s o c) h (none s o c is)

change : (s : Statement) (o : Option ℕ) (c e : Template) → Adds s o c e → IsChange s o c e
change says.Scenario o c e h = no_change says.Scenario o c e refl h
change says.Class o c e h = no_change says.Class o c e refl h
change (says.Notify seconds) o c e h =
    let u = unrefused _ _ e h in
    subst (IsChange (says.Notify seconds) o c) u.1
    (notify seconds o c (eqb-true c.notify 0 (is_unset (not (is_notify seconds)) (eqb c.notify 0) u.0)))
change (says.Account server) o c e h =
    subst (IsChange (says.Account server) o c) (unrefused _ _ e h).1 (account server o c)
change (says.Object id) o c e h =
    let u = unrefused _ _ e h in
    subst (IsChange (says.Object id) o c) u.1
    (object id o c (option_map_none fault_of _ (option_map_none template_cause _ u.0)))
change (says.Def d) o c e h =
    let u = unrefused _ _ e h.2 in
    subst (λ x. IsChange (says.Def d) x c e) (sym h.1)
    (subst (IsChange (says.Def d) (Some h.0) c) u.1
    (resource d h.0 c (option_map_none fault_of _ (option_map_none template_cause _ u.0))))
change (says.Instance place) o c e h =
    subst (IsChange (says.Instance place) o c) (unrefused _ _ e (needed _ _ e h).1).1 (instance place o c)
change (says.Value path v) o c e h = valued path (full_path path) v o c e refl (needed _ _ e h).1
change (says.Device class) o c e h = no_change (says.Device class) o c e refl h
change (says.Recv server bytes) o c e h = no_change (says.Recv server bytes) o c e refl h
change (says.Request server m) o c e h = no_change (says.Request server m) o c e refl h
change (says.Tick seconds) o c e h = no_change (says.Tick seconds) o c e refl h
change (says.Put p v) o c e h = no_change (says.Put p v) o c e refl h
change (says.Firmware code) o c e h = no_change (says.Firmware code) o c e refl h
change (says.Post group) o c e h = no_change (says.Post group) o c e refl h
change (says.Need group count) o c e h = no_change (says.Need group count) o c e refl h

-- ---- what is there after a statement

-- no statement about a class
apart : (s t : Statement) → is_of_class s ≡ false → is_of_class t ≡ true → s ≡ t → ⊥
apart s t p q h = let bad : false ≡ true = sym p ∙ (ap is_of_class h ∙ q) in cc

unmoved : {A B : Type 0} → (B → ⊥) → Grows A A B
unmoved never = ((λ h. inl h), (λ h. before_or never h))

moved : {X B : Type 0} (x y z : X) → x ≡ y → (B → ⊥) → Grows (y ≡ z) (x ≡ z) B
moved x y z same never = ((λ h. inl (same ∙ h)), (λ h. sym same ∙ before_or never h))

renamed : {A B C : Type 0} → (B → C) → A ⊎ B → A ⊎ C
renamed f (inl h) = inl h
renamed f (inr h) = inr (f h)

grows_so : {N A B C : Type 0} → (B → C) → (C → B) → Grows N A B → Grows N A C
grows_so to from g = ((λ h. renamed to (g.0 h)), (λ h. g.1 (renamed from h)))

-- statements of different kinds
abbrev kind : Statement → ℕ
kind (says.Notify seconds) = 6
kind (says.Account server) = 1
kind (says.Object id) = 2
kind (says.Def d) = 3
kind (says.Instance place) = 4
kind (says.Value path v) = 5
kind s = 0

other_kind : (s t : Statement) → eqb (kind s) (kind t) ≡ false → s ≡ t → ⊥
other_kind s t is h = let bad : true ≡ false = sym (same_number (kind s)) ∙ ap (λ x. eqb (kind s) (kind x)) h ∙ is in cc

notify_same : (m n : ℕ) → says.Notify m ≡ says.Notify n → m ≡ n
notify_same m n h = cc

account_same : (m n : ℕ) → says.Account m ≡ says.Account n → m ≡ n
account_same m n h = cc

object_same : (m n : ℕ) → says.Object m ≡ says.Object n → m ≡ n
object_same m n h = cc

some_same : (m n : ℕ) → Some m ≡ Some n → m ≡ n
some_same m n h = cc

def_same : (d e : ResourceDef) → says.Def d ≡ says.Def e → d ≡ e
def_same d e h = cc

instance_same : (p q : InstancePath) → says.Instance p ≡ says.Instance q → p ≡ q
instance_same p q h = cc

path_same : (p q : Path) (v w : Value) → says.Value p v ≡ says.Value q w → (p ≡ q) × (v ≡ w)
path_same p q v w h = let first : p ≡ q = cc in let second : v ≡ w = cc in (first, second)

full_same : (p q : FullPath) → Some p ≡ Some q → p ≡ q
full_same p q h = cc

value_same : (path other : Path) (q p : FullPath) (w v : Value) → full_path path ≡ Some q → full_path other ≡ Some p
    → says.Value path w ≡ says.Value other v → (q ≡ p) × (w ≡ v)
value_same path other q p w v is at h =
    let same = path_same path other w v h in
    (full_same q p (sym is ∙ ap full_path same.0 ∙ at), same.1)

added_or : {A B : Type 0} → (A → ⊥) → A ⊎ B → B
added_or never (inl h) = absurd (never h)
added_or never (inr h) = h

abbrev HasNotify : ℕ → Template → Type 0
HasNotify seconds c = c.notify ≡ seconds

not_before : (before seconds : ℕ) → before ≡ 0 → 0 < seconds → before ≡ seconds → ⊥
not_before before seconds free more h = omega (arith, free, more, h)

set_grows : (n before seconds : ℕ) → before ≡ 0 → 0 < seconds → Grows (n ≡ seconds) (before ≡ seconds) (n ≡ seconds)
set_grows n before seconds free more = ((λ h. inr h), (λ h. added_or (not_before before seconds free more) h))

notify_step : (seconds : ℕ) → 0 < seconds → (s : Statement) (o : Option ℕ) (c e : Template) → IsChange s o c e
    → Grows (HasNotify seconds e) (HasNotify seconds c) (s ≡ says.Notify seconds)
notify_step seconds more _ _ _ _ (none s o c is) = unmoved (apart s (says.Notify seconds) is refl)
notify_step seconds more _ _ _ _ (notify n o c free) =
    grows_so (λ h. ap (λ x. says.Notify x) h) (λ h. notify_same n seconds h) (set_grows n c.notify seconds free more)
notify_step seconds more _ _ _ _ (account n o c) = unmoved (other_kind (says.Account n) (says.Notify seconds) refl)
notify_step seconds more _ _ _ _ (object id o c free) =
    unmoved (other_kind (says.Object id) (says.Notify seconds) refl)
notify_step seconds more _ _ _ _ (resource d id c free) =
    unmoved (other_kind (says.Def d) (says.Notify seconds) refl)
notify_step seconds more _ _ _ _ (instance place o c) =
    unmoved (other_kind (says.Instance place) (says.Notify seconds) refl)
notify_step seconds more _ _ _ _ (value path p v o c is free) =
    unmoved (other_kind (says.Value path v) (says.Notify seconds) refl)

abbrev HasAccount : ℕ → Template → Type 0
HasAccount server c = list_any (λ a. eqb a server) c.accounts ≡ true

account_step : (server : ℕ) (s : Statement) (o : Option ℕ) (c e : Template) → IsChange s o c e
    → Grows (HasAccount server e) (HasAccount server c) (s ≡ says.Account server)
account_step server _ _ _ _ (none s o c is) = unmoved (apart s (says.Account server) is refl)
account_step server _ _ _ _ (notify n o c free) = unmoved (other_kind (says.Notify n) (says.Account server) refl)
account_step server _ _ _ _ (account n o c) =
    grows_so (λ h. ap (λ x. says.Account x) h) (λ h. account_same n server h) (account_grows c.accounts n server)
account_step server _ _ _ _ (object id o c free) = unmoved (other_kind (says.Object id) (says.Account server) refl)
account_step server _ _ _ _ (resource d id c free) = unmoved (other_kind (says.Def d) (says.Account server) refl)
account_step server _ _ _ _ (instance place o c) =
    unmoved (other_kind (says.Instance place) (says.Account server) refl)
account_step server _ _ _ _ (value path p v o c is free) =
    unmoved (other_kind (says.Value path v) (says.Account server) refl)

abbrev HasObject : ℕ → Template → Type 0
HasObject id c = is_some (object_of c.catalog id) ≡ true

object_step : (id : ℕ) (s : Statement) (o : Option ℕ) (c e : Template) → IsChange s o c e
    → Grows (HasObject id e) (HasObject id c) (s ≡ says.Object id)
object_step id _ _ _ _ (none s o c is) = unmoved (apart s (says.Object id) is refl)
object_step id _ _ _ _ (notify n o c free) = unmoved (other_kind (says.Notify n) (says.Object id) refl)
object_step id _ _ _ _ (account n o c) = unmoved (other_kind (says.Account n) (says.Object id) refl)
object_step id _ _ _ _ (object n o c free) =
    grows_so (λ h. ap (λ x. says.Object x) h) (λ h. object_same n id h) (object_grows c.catalog n id free)
object_step id _ _ _ _ (resource d n c free) =
    moved _ _ true (resource_keeps c.catalog n d id) (other_kind (says.Def d) (says.Object id) refl)
object_step id _ _ _ _ (instance place o c) = unmoved (other_kind (says.Instance place) (says.Object id) refl)
object_step id _ _ _ _ (value path p v o c is free) = unmoved (other_kind (says.Value path v) (says.Object id) refl)

abbrev HasDefinition : ℕ → ℕ → ResourceDef → Template → Type 0
HasDefinition id r d c = definition_of c.catalog id r ≡ Some d

abbrev StatesDefinition : ℕ → ℕ → ResourceDef → Option ℕ → Statement → Type 0
StatesDefinition id r d o s = (o ≡ Some id) × (s ≡ says.Def d) × (d.id ≡ r)

definition_step : (id r : ℕ) (d : ResourceDef) (s : Statement) (o : Option ℕ) (c e : Template) → IsChange s o c e
    → Grows (HasDefinition id r d e) (HasDefinition id r d c) (StatesDefinition id r d o s)
definition_step id r d _ _ _ _ (none s o c is) = unmoved (λ k. apart s (says.Def d) is refl k.1)
definition_step id r d _ _ _ _ (notify n o c free) = unmoved (λ k. other_kind (says.Notify n) (says.Def d) refl k.1)
definition_step id r d _ _ _ _ (account n o c) = unmoved (λ k. other_kind (says.Account n) (says.Def d) refl k.1)
definition_step id r d _ _ _ _ (object n o c free) =
    moved _ _ (Some d) (object_keeps c.catalog n id r free)
    (λ k. other_kind (says.Object n) (says.Def d) refl k.1)
definition_step id r d _ _ _ _ (resource f n c free) =
    grows_so (λ h. (ap (λ x. Some x) h.0, ap (λ x. says.Def x) h.1, h.2))
    (λ h. (some_same n id h.0, def_same f d h.1, h.2)) (definition_grows c.catalog n f id r d free)
definition_step id r d _ _ _ _ (instance place o c) =
    unmoved (λ k. other_kind (says.Instance place) (says.Def d) refl k.1)
definition_step id r d _ _ _ _ (value path p v o c is free) =
    unmoved (λ k. other_kind (says.Value path v) (says.Def d) refl k.1)

abbrev HasInstance : InstancePath → Template → Type 0
HasInstance place c = has_instance c.store place ≡ true

instance_step : (place : InstancePath) (s : Statement) (o : Option ℕ) (c e : Template) → IsChange s o c e
    → Grows (HasInstance place e) (HasInstance place c) (s ≡ says.Instance place)
instance_step place _ _ _ _ (none s o c is) = unmoved (apart s (says.Instance place) is refl)
instance_step place _ _ _ _ (notify n o c free) = unmoved (other_kind (says.Notify n) (says.Instance place) refl)
instance_step place _ _ _ _ (account n o c) = unmoved (other_kind (says.Account n) (says.Instance place) refl)
instance_step place _ _ _ _ (object n o c free) = unmoved (other_kind (says.Object n) (says.Instance place) refl)
instance_step place _ _ _ _ (resource f n c free) = unmoved (other_kind (says.Def f) (says.Instance place) refl)
instance_step place _ _ _ _ (instance p o c) =
    grows_so (λ h. ap (λ x. says.Instance x) h) (λ h. instance_same p place h) (instance_grows c.store p place)
instance_step place _ _ _ _ (value path p v o c is free) =
    unmoved (other_kind (says.Value path v) (says.Instance place) refl)

abbrev HasValue : FullPath → Value → Template → Type 0
HasValue p v c = value_at c.store p ≡ Some v

abbrev StatesValue : FullPath → Value → Option ℕ → Statement → Type 0
StatesValue p v o s = (path : Path) × (full_path path ≡ Some p) × (s ≡ says.Value path v)

value_step : (p : FullPath) (v : Value) (s : Statement) (o : Option ℕ) (c e : Template) → IsChange s o c e
    → Grows (HasValue p v e) (HasValue p v c) (StatesValue p v o s)
value_step p v _ _ _ _ (none s o c is) = unmoved (λ k. apart s (says.Value k.0 v) is refl k.2)
value_step p v _ _ _ _ (notify n o c free) =
    unmoved (λ k. other_kind (says.Notify n) (says.Value k.0 v) refl k.2)
value_step p v _ _ _ _ (account n o c) = unmoved (λ k. other_kind (says.Account n) (says.Value k.0 v) refl k.2)
value_step p v _ _ _ _ (object n o c free) = unmoved (λ k. other_kind (says.Object n) (says.Value k.0 v) refl k.2)
value_step p v _ _ _ _ (resource f n c free) = unmoved (λ k. other_kind (says.Def f) (says.Value k.0 v) refl k.2)
value_step p v _ _ _ _ (instance place o c) =
    unmoved (λ k. other_kind (says.Instance place) (says.Value k.0 v) refl k.2)
value_step p v _ _ _ _ (value path q w o c is free) =
    grows_so (λ h. (path, is ∙ ap (λ x. Some x) h.0, ap (λ x. says.Value path x) h.1))
    (λ h. value_same path h.0 q p w v is h.1 h.2) (value_grows c.store q w p v free)

-- ---- and after all of a part

sorted_in : {M A B C : Type 0} → Grows M A B → M ⊎ C → A ⊎ (B ⊎ C)
sorted_in first (inl h) = renamed (λ k. inl k) (first.0 h)
sorted_in first (inr h) = inr (inr h)

sorted_out : {M A B C : Type 0} → Grows M A B → A ⊎ (B ⊎ C) → M ⊎ C
sorted_out first (inl h) = inl (first.1 (inl h))
sorted_out first (inr (inl h)) = inl (first.1 (inr h))
sorted_out first (inr (inr h)) = inr h

then_grows : {N M A B C : Type 0} → Grows N M C → Grows M A B → Grows N A (B ⊎ C)
then_grows later first = ((λ h. sorted_in first (later.0 h)), (λ h. later.1 (sorted_out first h)))

all_grow : (A : Template → Type 0) (B : Option ℕ → Statement → Type 0)
    → ((s : Statement) (o : Option ℕ) (c e : Template) → IsChange s o c e → Grows (A e) (A c) (B o s))
    → (ss : List Statement) (o : Option ℕ) (c e : Template) → MakeOf o c ss e → Grows (A e) (A c) (StatesOne B o ss)
all_grow A B step [] o c e h =
    ((λ k. inl (subst A (sym h) k)), (λ k. subst A h (before_or (λ f. f) k)))
all_grow A B step (s ∷ ss) o c e h =
    then_grows (all_grow A B step ss (object_since s o) h.0 e h.2) (step s o c h.0 (change s o c h.0 h.1))

from_nothing : {N A B : Type 0} → (A → ⊥) → Grows N A B → N ↔ B
from_nothing never g = ((λ h. added_or never (g.0 h)), (λ h. g.1 (inr h)))

false_true : false ≡ true → ⊥
false_true h = cc

none_some : {X : Type 0} (x : X) → None ≡ Some x → ⊥
none_some x h = cc

no_instance : (place : InstancePath) → HasInstance place empty_class → ⊥
no_instance place h = false_true (sym (ap is_some (get-empty instance_cmp place)) ∙ h)

no_value : (p : FullPath) (v : Value) → HasValue p v empty_class → ⊥
no_value p v h = none_some v (sym (get-empty path_cmp p) ∙ h)

pub holds : (part : List Statement) (c : Template) → IsMadeBy part c → HoldsWhatIsStated part c
holds part c h = record {
  notify = λ seconds more. from_nothing (not_before 0 seconds refl more)
      (all_grow (HasNotify seconds) (λ o s. s ≡ says.Notify seconds) (notify_step seconds more) part None empty_class c
      h);
  accounts = λ server. from_nothing false_true
      (all_grow (HasAccount server) (λ o s. s ≡ says.Account server) (account_step server) part None empty_class c h);
  objects = λ id.
      all_grow (HasObject id) (λ o s. s ≡ says.Object id) (object_step id) part None empty_class c h;
  definitions = λ id r d.
      all_grow (HasDefinition id r d) (StatesDefinition id r d) (definition_step id r d) part None empty_class c h;
  instances = λ place. from_nothing (no_instance place)
      (all_grow (HasInstance place) (λ o s. s ≡ says.Instance place) (instance_step place) part None empty_class c h);
  values = λ p v. from_nothing (no_value p v)
      (all_grow (HasValue p v) (StatesValue p v) (value_step p v) part None empty_class c h);
}

matched_so : {A B : Type 0} (P Q : A → B → Type 0) (xs : List A) (ys : List B) → ((x : A) (y : B) → P x y → Q x y)
    → AreMatched P xs ys → AreMatched Q xs ys
matched_so P Q [] [] f h = tt
matched_so P Q [] (y ∷ ys) f h = h
matched_so P Q (x ∷ xs) [] f h = h
matched_so P Q (x ∷ xs) (y ∷ ys) f h = (f x y h.0, matched_so P Q xs ys f h.1)

pub classes_hold : ClassesHoldWhatIsStated
classes_hold text s h =
    let p = parts_are_said text s h in
    (p.0, p.1, matched_so IsMadeBy HoldsWhatIsStated (class_parts p.0) s.classes holds p.2.classes)
