-- A value that is added to a class, and one that is too nat_le_above.
use Rattle.std.proofs.Common.{◌≡◌, ◌≢◌, ℕ, ◌<◌, ◌≤◌, Bool, true, false, cond, ◌&&◌, [], ◌∷◌, length, Option, None, Some}
use Rattle.std.proofs.Common.{Result, Ok, Err, IfErr, OnOk, option_map, refl, sym, ap, subst, ◌∙◌, arith}
use Rattle.std.specs.Prelude.{not, nat_le, is_some}
use Rattle.std.proofs.lemmas.Bool.Decides.{nat_tests}
use Rattle.lemmas.proofs.Options.{not_refused}
use Rattle.lemmas.proofs.Numbers.{nat_le_above}
use Rattle.lwm2m_values.specs.declared.kind.ValueKind.{ValueKind}
use Rattle.lwm2m_values.specs.declared.kind.ValueKind.TheVariants as kind
use Rattle.lwm2m_values.specs.declared.value.Value.{Value}
use Rattle.lwm2m_values.specs.declared.value.Value.TheVariants as held
use Rattle.lwm2m_values.specs.Value.{kind_of}
use Rattle.object_defs.specs.Catalog.{object_of}
use Rattle.object_defs.specs.Lines.{first_line}
use Rattle.object_defs.specs.Path.{full_path}
use Rattle.object_defs.specs.declared.definition.ObjectDef.{ObjectDef}
use Rattle.object_defs.specs.declared.definition.ResourceDef.{ResourceDef}
use Rattle.object_defs.specs.Operations.{can_read}
use Rattle.object_defs.specs.Catalog.{resource_in}
use Rattle.object_defs.specs.declared.path.FullPath.{FullPath}
use Rattle.object_defs.specs.declared.path.Path.{Path}
use Rattle.object_defs.specs.declared.path.Path.TheVariants.{Object, Instance, Resource, Part}
use Rattle.instance_store.specs.Stored.{value_at, value_count}
use Rattle.device_template.specs.Template.{Template, plain, value_fault, value_fault_at, with_store}
use Rattle.device_template.specs.Values.{fits_object, fits_resource, has_all_parts, has_kind, has_place}
use Rattle.device_template.specs.Values.{is_set_at_start, with_value_at}
use Rattle.lwm2m_values.specs.Value.{has_good_length}
use Rattle.device_template.specs.declared.fault.TemplateFault.{TemplateFault}
use Rattle.device_template.specs.declared.fault.TemplateFault.TheVariants as template
use Rattle.scenario_layout.proofs.GoodEntries.{plain_short}
use Rattle.scenario_words.specs.ValueWords.{IsTooLong}
use Rattle.scenario_words.specs.declared.cause.Cause.{Cause}
use Rattle.scenario_words.specs.declared.cause.Cause.TheVariants.{Range, Duplicate, Limit, Memory}
use Rattle.scenario_asm.specs.Causes.{Makes, long_result, needs, template_cause, template_result, unless}
use Rattle.scenario_asm.specs.ClassLines.{is_stated, value_added, value_cause}

-- ---- lengths

short : (n m : ℕ) → (m < n → ⊥) → nat_le n m ≡ true
short n m h = let le : n ≤ m = omega (arith, h) in below n m le
  where
    below : (n m : ℕ) → n ≤ m → nat_le n m ≡ true
    below n m le = grind (arith, nat_tests)

pub too_long : (v : Value) → IsTooLong v → has_good_length v ≡ false
too_long (held.Text t) h = nat_le_above (length t) 255 h
too_long (held.Whole z) h = absurd h
too_long (held.Flag b) h = absurd h
too_long (held.Opaque b) h = nat_le_above (length b) 1024 h
too_long (held.Moment z) h = absurd h
too_long (held.Link o i) h = absurd h

not_long : (v : Value) → (IsTooLong v → ⊥) → has_good_length v ≡ true
not_long (held.Text t) h = short (length t) 255 h
not_long (held.Whole z) h = refl
not_long (held.Flag b) h = refl
not_long (held.Opaque b) h = short (length b) 1024 h
not_long (held.Moment z) h = refl
not_long (held.Link o i) h = refl

-- ---- the empty value of a kind fits where a value of the kind does

same_kind : (v : Value) (k : ValueKind) → has_kind (plain (kind_of v)) k ≡ has_kind v k
same_kind (held.Text t) kind.Text = refl
same_kind (held.Text t) kind.Whole = refl
same_kind (held.Text t) kind.Flag = refl
same_kind (held.Text t) kind.Opaque = refl
same_kind (held.Text t) kind.Moment = refl
same_kind (held.Text t) kind.Link = refl
same_kind (held.Whole z) kind.Text = refl
same_kind (held.Whole z) kind.Whole = refl
same_kind (held.Whole z) kind.Flag = refl
same_kind (held.Whole z) kind.Opaque = refl
same_kind (held.Whole z) kind.Moment = refl
same_kind (held.Whole z) kind.Link = refl
same_kind (held.Flag b) kind.Text = refl
same_kind (held.Flag b) kind.Whole = refl
same_kind (held.Flag b) kind.Flag = refl
same_kind (held.Flag b) kind.Opaque = refl
same_kind (held.Flag b) kind.Moment = refl
same_kind (held.Flag b) kind.Link = refl
same_kind (held.Opaque b) kind.Text = refl
same_kind (held.Opaque b) kind.Whole = refl
same_kind (held.Opaque b) kind.Flag = refl
same_kind (held.Opaque b) kind.Opaque = refl
same_kind (held.Opaque b) kind.Moment = refl
same_kind (held.Opaque b) kind.Link = refl
same_kind (held.Moment z) kind.Text = refl
same_kind (held.Moment z) kind.Whole = refl
same_kind (held.Moment z) kind.Flag = refl
same_kind (held.Moment z) kind.Opaque = refl
same_kind (held.Moment z) kind.Moment = refl
same_kind (held.Moment z) kind.Link = refl
same_kind (held.Link o i) kind.Text = refl
same_kind (held.Link o i) kind.Whole = refl
same_kind (held.Link o i) kind.Flag = refl
same_kind (held.Link o i) kind.Opaque = refl
same_kind (held.Link o i) kind.Moment = refl
same_kind (held.Link o i) kind.Link = refl

same_resource : (p : FullPath) (v : Value) (d : Option ResourceDef)
    → fits_resource p (plain (kind_of v)) d ≡ fits_resource p v d
same_resource p v None = refl
same_resource p v (Some d) =
    ap (λ b. can_read d.ops && (b && cond d.multiple (is_some p.part) (not (is_some p.part)))) (same_kind v d.kind)

pub same_fit : (p : FullPath) (v : Value) (o : Option ObjectDef)
    → fits_object p (plain (kind_of v)) o ≡ fits_object p v o
same_fit p v None = refl
same_fit p v (Some o) = ap (λ b. b && not (is_set_at_start p)) (same_resource p v (resource_in o.resources p.resource))

-- ---- the refusals of a class, and those of a line

-- within limits, fitting, in its place, there already, no room for a value, none for a part
abbrev built : Bool → Bool → Bool → Bool → Bool → Bool → Option TemplateFault
built w a b d e g =
    first_line ((not (w && a), template.Range) ∷ (not b, template.Missing) ∷ (d, template.Duplicate) ∷ (
      e,
      template.Full,
    ) ∷ (g, template.Full) ∷ [])

abbrev told : Bool → Bool → Bool → Bool → Bool → Option Cause
told a d s e g = first_line ((not a, Range) ∷ (d, Duplicate) ∷ (not s, Limit) ∷ (e, Limit) ∷ (g, Limit) ∷ [])

told_short : (w a b d e g : Bool) → w ≡ true → b ≡ true → told a d w e g ≡ option_map template_cause (built w a b d e g)
told_short true false true d e g hw hb = refl
told_short true true true true e g hw hb = refl
told_short true true true false true g hw hb = refl
told_short true true true false false true hw hb = refl
told_short true true true false false false hw hb = refl
told_short false a b d e g hw hb = absurd cc
told_short true a false d e g hw hb = absurd cc

-- what is left of a nat_le_above one's refusals
abbrev else_long : Option TemplateFault → Option Cause
else_long None = Some Limit
else_long (Some f) = Some (template_cause f)

told_long : (w a b d s e g : Bool) → w ≡ true → b ≡ true → s ≡ false → told a d s e g ≡ else_long (built w a b d e g)
told_long true false true d false e g hw hb hs = refl
told_long true true true true false e g hw hb hs = refl
told_long true true true false false true g hw hb hs = refl
told_long true true true false false false true hw hb hs = refl
told_long true true true false false false false hw hb hs = refl
told_long false a b d s e g hw hb hs = absurd cc
told_long true a false d s e g hw hb hs = absurd cc
told_long true a true d true e g hw hb hs = absurd cc

short_cause : (c : Template) (q : FullPath) (v : Value) → has_place c.catalog c.store q ≡ true → (IsTooLong v → ⊥)
    → value_cause c (Some q) v ≡ option_map template_cause (value_fault_at c q v)
short_cause c q v placed fits =
    told_short (has_good_length v) (fits_object q v (object_of c.catalog q.object)) (has_place c.catalog c.store q)
    (is_some (value_at c.store q)) (nat_le 65535 (value_count c.store)) (has_all_parts c.store q)
    (not_long v fits) placed

long_cause : (c : Template) (q : FullPath) (v : Value) → has_place c.catalog c.store q ≡ true → IsTooLong v
    → value_cause c (Some q) v ≡ else_long (value_fault_at c q (plain (kind_of v)))
long_cause c q v placed is_long =
    ap (λ a. told a (is_some (value_at c.store q)) (has_good_length v) (nat_le 65535 (value_count c.store))
    (has_all_parts c.store q)) (sym (same_fit q v (object_of c.catalog q.object)))
    ∙ told_long (has_good_length (plain (kind_of v)))
    (fits_object q (plain (kind_of v)) (object_of c.catalog q.object)) (has_place c.catalog c.store q)
    (is_some (value_at c.store q)) (has_good_length v) (nat_le 65535 (value_count c.store))
    (has_all_parts c.store q)
    (plain_short (kind_of v)) placed (too_long v is_long)

-- the same of a path of any count of numbers
pub short_told : (c : Template) (p : Path) (v : Value) → is_stated c p ≡ true → (IsTooLong v → ⊥)
    → value_cause c (full_path p) v ≡ option_map template_cause (value_fault c (full_path p) v)
short_told c (Object o) v stated fits = refl
short_told c (Instance o i) v stated fits = refl
short_told c (Resource o i r) v stated fits =
    short_cause c (record { object = o; instance = i; resource = r; part = None }) v stated fits
short_told c (Part o i r n) v stated fits =
    short_cause c (record { object = o; instance = i; resource = r; part = Some n }) v stated fits

long_told : (c : Template) (p : Path) (v : Value) → is_stated c p ≡ true → IsTooLong v
    → value_cause c (full_path p) v ≡ else_long (value_fault c (full_path p) (plain (kind_of v)))
long_told c (Object o) v stated is_long = refl
long_told c (Instance o i) v stated is_long = refl
long_told c (Resource o i r) v stated is_long =
    long_cause c (record { object = o; instance = i; resource = r; part = None }) v stated is_long
long_told c (Part o i r n) v stated is_long =
    long_cause c (record { object = o; instance = i; resource = r; part = Some n }) v stated is_long

-- ---- what the calls make

-- a cause is of memory only where the class's refusal is
not_memory : (f : TemplateFault) → template_cause f ≢ Memory → f ≢ template.Memory
not_memory f h e = h (ap template_cause e)

-- what a line adds, where what it needs was stated
stated_added : (c : Template) (p : Path) (v : Value) (cause : Option Cause) → is_stated c p ≡ true
    → value_cause c (full_path p) v ≡ cause
    → value_added p v c ≡ unless cause (with_store c (with_value_at c.store (full_path p) v))
stated_added c p v cause stated told =
    ap (λ b. needs b (unless (value_cause c (full_path p) v) (with_store c (with_value_at c.store (full_path p) v))))
    stated
    ∙ ap (λ o. unless o (with_store c (with_value_at c.store (full_path p) v))) told

short_at : (c : Template) (p : Path) (v : Value) (added : Result (Unit {0}) TemplateFault) (new : Template)
    → is_stated c p ≡ true → (IsTooLong v → ⊥) → OnOk added (new ≡ with_store c (with_value_at c.store (full_path p) v))
    → IfErr added (λ f. f ≢ template.Memory → value_fault c (full_path p) v ≡ Some f)
    → ((f : TemplateFault) → value_fault c (full_path p) v ≡ Some f → added ≡ Err f)
    → Makes (template_result added) new (value_added p v c)
short_at c p v (Ok u) new stated fits more refused refuses =
    stated_added c p v None stated (short_told c p v stated fits
    ∙ ap (option_map template_cause) (not_refused _ (Ok u) u refl refuses)) ∙ ap (λ k. Ok k) (sym more)
short_at c p v (Err f) new stated fits more refused refuses =
    λ no. stated_added c p v (Some (template_cause f)) stated
    (short_told c p v stated fits ∙ ap (option_map template_cause) (refused (not_memory f no)))

long_at : (c : Template) (p : Path) (v : Value) (added : Result (Unit {0}) TemplateFault) (new : Template)
    → is_stated c p ≡ true → IsTooLong v
    → IfErr added (λ f. f ≢ template.Memory → value_fault c (full_path p) (plain (kind_of v)) ≡ Some f)
    → ((f : TemplateFault) → value_fault c (full_path p) (plain (kind_of v)) ≡ Some f → added ≡ Err f)
    → Makes (long_result added) new (value_added p v c)
long_at c p v (Ok u) new stated is_long refused refuses =
    λ no. stated_added c p v (Some Limit) stated
    (long_told c p v stated is_long ∙ ap else_long (not_refused _ (Ok u) u refl refuses))
long_at c p v (Err f) new stated is_long refused refuses =
    λ no. stated_added c p v (Some (template_cause f)) stated
    (long_told c p v stated is_long ∙ ap else_long (refused (not_memory f no)))

-- a value of a length that it may have
pub short_made : (c : Template) (p : Path) (v : Value) (added : Result (Unit {0}) TemplateFault)
    (result : Result (Unit {0}) Cause) (new : Template) → is_stated c p ≡ true → (IsTooLong v → ⊥)
    → OnOk added (new ≡ with_store c (with_value_at c.store (full_path p) v))
    → IfErr added (λ f. f ≢ template.Memory → value_fault c (full_path p) v ≡ Some f)
    → ((f : TemplateFault) → value_fault c (full_path p) v ≡ Some f → added ≡ Err f)
    → result ≡ template_result added → Makes result new (value_added p v c)
short_made c p v added result new stated fits more refused refuses same =
    subst (λ r. Makes r new (value_added p v c)) (sym same) (short_at c p v added new stated fits more refused refuses)

-- one that is too nat_le_above
pub long_made : (c : Template) (p : Path) (v w : Value) (added : Result (Unit {0}) TemplateFault)
    (result : Result (Unit {0}) Cause) (new : Template) → w ≡ plain (kind_of v) → is_stated c p ≡ true → IsTooLong v
    → IfErr added (λ f. f ≢ template.Memory → value_fault c (full_path p) w ≡ Some f)
    → ((f : TemplateFault) → value_fault c (full_path p) w ≡ Some f → added ≡ Err f) → result ≡ long_result added
    → Makes result new (value_added p v c)
long_made c p v w added result new is stated is_long refused refuses same =
    subst (λ r. Makes r new (value_added p v c)) (sym same)
    (subst (λ x. IfErr added (λ f. f ≢ template.Memory → value_fault c (full_path p) x ≡ Some f)
    → ((f : TemplateFault) → value_fault c (full_path p) x ≡ Some f → added ≡ Err f)
    → Makes (long_result added) new (value_added p v c)) (sym is)
    (long_at c p v added new stated is_long) refused refuses)
