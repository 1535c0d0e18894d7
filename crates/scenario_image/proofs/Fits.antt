-- Good steps and rows are those that have bytes.
use Rattle.std.proofs.Common.{◌≡◌, ℕ, zero, suc, ◌<◌, ◌≤◌, true, List, [], ◌∷◌, ◌++◌, length, Option, None}
use Rattle.std.proofs.Common.{Some, refl, sym, ap, subst, arith}
use Rattle.std.specs.Prelude.{nat_le, ◌&&◌, IfSome, is_some}
use Rattle.std.specs.Int.{w8, w16, w32}
use Rattle.std.specs.List.{AllByRecursion}
use Rattle.std.proofs.lemmas.Bool.{leb-true, le-leb, lt-ltb, ltb-true, and_parts}
use Rattle.std.proofs.lemmas.Option.{slice_get_within}
use Rattle.byte_layout.specs.Exact.{IsBytes}
use Rattle.byte_layout.specs.Layout.{Layout, number, raw, each}
use Rattle.byte_layout.proofs.Fields.{number_good, number_below, raw_good}
use Rattle.byte_layout.proofs.Steps.{behind_front, front_bytes}
use Rattle.lwm2m_values.specs.declared.value.Value.{Value}
use Rattle.lwm2m_values.specs.declared.value.Value.TheVariants as values
use Rattle.lwm2m_values.specs.Value.{IsGood}
use Rattle.object_defs.specs.Path.{full_path}
use Rattle.object_defs.specs.declared.path.Path.{Path}
use Rattle.object_defs.specs.declared.path.Path.TheVariants.{Object, Instance, Resource, Part as ResourcePart}
use Rattle.object_defs.specs.declared.path.FullPath.{FullPath}
use Rattle.scenario_layout.specs.Value.{path, part_number, opaque, value}
use Rattle.lemmas.proofs.Lists.{item_at}
use Rattle.scenario_layout.proofs.GoodValue.{path_good, value_good, good_value, good_text}
use Rattle.device_template.specs.Template.{Template}
use Rattle.lwm2m_values.specs.Value.{has_good_length}
use Rattle.device_machine.specs.declared.event.Event.TheVariants.{Recv, Put, Firmware, Tick}
use Rattle.scenario_layout.proofs.Items.{within as short_value}
use Rattle.scenario_image.specs.declared.kind.StepKind.{StepKind}
use Rattle.scenario_image.specs.declared.kind.StepKind.TheVariants as kinds
use Rattle.scenario_image.specs.declared.step.Step.{Step}
use Rattle.scenario_image.specs.declared.step.Step.TheVariants.{Event, Post, Need}
use Rattle.scenario_image.specs.Scenario.{Row, HasShortNumbers, IsGoodStep, IsGoodRow, accounts_in, accounts_of}
use Rattle.scenario_image.specs.Scenario.{most_rows, most_steps}
use Rattle.scenario_image.specs.Layout.{kind, step_kind, datagram, recv, tick, put, firmware, post, need, of_kind, step}
use Rattle.scenario_image.specs.Layout.{steps, row, rows}

-- ---- lists of items that are laid out alike

pub each_all : {A : Type 0} (part : Layout A) (P : A → Type 0) → ((a : A) → P a → part.Good a) → (before xs : List A)
    → AllByRecursion P xs → (each (λ front. part) (length xs) before).Good xs
unfolding each
each_all part P f before [] all = refl
each_all part P f before (x ∷ xs) all = (f x all.0, each_all part P f (before ++ x ∷ []) xs all.1)

pub all_each : {A : Type 0} (part : Layout A) (P : A → Type 0) → ((a : A) → part.Good a → IsBytes (part.spell a) → P a)
    → (n : ℕ) (before xs : List A)
    → (each (λ front. part) n before).Good xs → IsBytes ((each (λ front. part) n before).spell xs) → AllByRecursion P xs
unfolding each
all_each part P f zero before [] good bytes = tt
all_each part P f zero before (x ∷ xs) good bytes = absurd cc
all_each part P f (suc n) before [] good bytes = absurd good
all_each part P f (suc n) before (x ∷ xs) good bytes = (
  f x good.0 (front_bytes (part.spell x) ((each (λ front. part) n (before ++ x ∷ [])).spell xs) bytes),
  all_each part P f n (before ++ x ∷ []) xs good.1
      (behind_front (part.spell x) ((each (λ front. part) n (before ++ x ∷ [])).spell xs) bytes),
)

-- ---- fields

kind_good : (k : StepKind) → kind.Good k
unfolding kind
kind_good kinds.Recv = ((number_good w8 1 (omega arith), refl), refl)
kind_good kinds.Tick = ((number_good w8 2 (omega arith), refl), refl)
kind_good kinds.Put = ((number_good w8 3 (omega arith), refl), refl)
kind_good kinds.Firmware = ((number_good w8 4 (omega arith), refl), refl)
kind_good kinds.Post = ((number_good w8 5 (omega arith), refl), refl)
kind_good kinds.Need = ((number_good w8 6 (omega arith), refl), refl)

-- a number of four bytes that is at most the limit
long_good : (n low limit : ℕ) → limit < 4294967296 → (nat_le low n && nat_le n limit) ≡ true → (number w32).Good n
long_good n low limit small e =
    let most : n ≤ limit = leb-true n limit (and_parts (nat_le low n) (nat_le n limit) e).1 in
    let lt : n < 4294967296 = omega (arith, most, small) in
    number_good w32 n lt

datagram_good : (b : List ℕ) → length b ≤ 1500 → datagram.Good b
unfolding datagram
datagram_good b short = (
  (number_good w16 (length b) (omega (arith, short)), lt-ltb (length b) 1501 (omega (arith, short))),
  raw_good (length b) b refl,
)

good_datagram : (b : List ℕ) → datagram.Good b → length b ≤ 1500
unfolding datagram
good_datagram b h = let below : length b < 1501 = ltb-true (length b) 1501 h.0.1 in omega arith

datagram_bytes : (b : List ℕ) → IsBytes (datagram.spell b) → IsBytes b
unfolding datagram raw
datagram_bytes b h = behind_front ((number w16).spell (length b)) b h

short_part : (n : Option ℕ) → part_number.Good n → IfSome n (λ m. m < 65536)
unfolding part_number
short_part None g = tt
short_part (Some n) g = number_below w16 n g.1.0

short_path : (p : FullPath) → path.Good p → HasShortNumbers p
unfolding path
short_path p h = record {
  object = number_below w16 p.object h.0;
  instance = number_below w16 p.instance h.1.0;
  resource = number_below w16 p.resource h.1.1.0;
  part = short_part p.part h.1.1.1.0;
}

good_opaque : (b : List ℕ) → opaque.Good b → length b ≤ 1024
unfolding opaque
good_opaque b h = let below : length b < 1025 = ltb-true (length b) 1025 h.0.1 in omega arith

-- a value that has a spelling is short
pub spelled_short : (v : Value) → (value None).Good v → has_good_length v ≡ true
unfolding value
spelled_short (values.Text t) h = le-leb (length t) 255 (good_text t h.1.0).1
spelled_short (values.Whole z) h = refl
spelled_short (values.Flag b) h = refl
spelled_short (values.Opaque b) h = le-leb (length b) 1024 (good_opaque b h.1.0)
spelled_short (values.Moment z) h = refl
spelled_short (values.Link o i) h = refl

-- ---- steps

put_good : (p : Path) (v : Value) → is_some (full_path p) ≡ true → IfSome (full_path p) HasShortNumbers → IsGood v
    → put.Good (Event (Put p v))
unfolding put
put_good (Object o) v full short good = absurd cc
put_good (Instance o i) v full short good = absurd cc
put_good (Resource o i r) v full short good = (
  path_good (record { object = o; instance = i; resource = r; part = None }) short.object short.instance
      short.resource short.part,
  (value_good None v good refl, refl),
)
put_good (ResourcePart o i r n) v full short good = (
  path_good (record { object = o; instance = i; resource = r; part = Some n }) short.object short.instance
      short.resource short.part,
  (value_good None v good refl, refl),
)

held_good : (accounts : List ℕ) (s : Step) → IsGoodStep accounts s → (of_kind accounts (step_kind s)).Good s
unfolding recv tick firmware post need
held_good accounts (Event (Recv server bytes)) g =
    ((number_good w16 server g.fields.0, g.known), (datagram_good bytes (leb-true (length bytes) 1500 g.within), refl))
held_good accounts (Event (Tick seconds)) g = ((long_good seconds 1 86400 (omega arith) g.range, g.range), refl)
held_good accounts (Event (Put p v)) g = put_good p v g.range g.fields.0 g.fields.1
held_good accounts (Event (Firmware code)) g =
    ((number_good w8 code (omega (arith, leb-true code 9 g.range)), g.range), refl)
held_good accounts (Post group) g = (number_good w8 group g.fields, refl)
held_good accounts (Need group count) g =
    (number_good w8 group g.fields, ((long_good count 1 1000000 (omega arith) g.range, g.range), refl))

pub step_good : (accounts : List ℕ) (s : Step) → IsGoodStep accounts s → (step accounts).Good s
unfolding step
step_good accounts s g = (kind_good (step_kind s), held_good accounts s g)

good_put : (accounts : List ℕ) (p : Path) (v : Value) → put.Good (Event (Put p v))
    → IsBytes (put.spell (Event (Put p v))) → IsGoodStep accounts (Event (Put p v))
unfolding put
good_put accounts (Object o) v h bytes =
    absurd (let e : Event (Put (Object o) v) ≡ Event (Put (Resource 0 0 0) v) = h.1.1 in cc)
good_put accounts (Instance o i) v h bytes =
    absurd (let e : Event (Put (Instance o i) v) ≡ Event (Put (Resource 0 0 0) v) = h.1.1 in cc)
good_put accounts (Resource o i r) v h bytes =
    let full : FullPath = record { object = o; instance = i; resource = r; part = None } in
    let good : IsGood v =
    (good_value None v h.1.0 (front_bytes ((value None).spell v) []
    (behind_front (path.spell full) ((value None).spell v ++ []) bytes))).0 in
    record { fields = (short_path full h.0, good); range = refl; known = refl; within = short_value v good }
good_put accounts (ResourcePart o i r n) v h bytes =
    let full : FullPath = record { object = o; instance = i; resource = r; part = Some n } in
    let good : IsGood v =
    (good_value None v h.1.0 (front_bytes ((value None).spell v) []
    (behind_front (path.spell full) ((value None).spell v ++ []) bytes))).0 in
    record { fields = (short_path full h.0, good); range = refl; known = refl; within = short_value v good }

good_held : (accounts : List ℕ) (s : Step) → (of_kind accounts (step_kind s)).Good s
    → IsBytes ((of_kind accounts (step_kind s)).spell s) → IsGoodStep accounts s
unfolding recv tick firmware post need
good_held accounts (Event (Recv server bytes)) h fits = record {
  fields = (
    number_below w16 server h.0.0,
    datagram_bytes bytes (front_bytes (datagram.spell bytes) []
        (behind_front ((number w16).spell server) (datagram.spell bytes ++ []) fits)),
  );
  range = refl;
  known = h.0.1;
  within = le-leb (length bytes) 1500 (good_datagram bytes h.1.0);
}
good_held accounts (Event (Tick seconds)) h fits = record { fields = tt; range = h.0.1; known = refl; within = refl }
good_held accounts (Event (Put p v)) h fits = good_put accounts p v h fits
good_held accounts (Event (Firmware code)) h fits = record { fields = tt; range = h.0.1; known = refl; within = refl }
good_held accounts (Post group) h fits =
    record { fields = number_below w8 group h.0; range = refl; known = refl; within = refl }
good_held accounts (Need group count) h fits =
    record { fields = number_below w8 group h.0; range = h.1.0.1; known = refl; within = refl }

pub good_step : (accounts : List ℕ) (s : Step) → (step accounts).Good s → IsBytes ((step accounts).spell s)
    → IsGoodStep accounts s
unfolding step
good_step accounts s h fits =
    good_held accounts s h.1 (behind_front (kind.spell (step_kind s)) ((of_kind accounts (step_kind s)).spell s) fits)

steps_good : (accounts : List ℕ) (xs : List Step) → length xs ≤ most_steps → AllByRecursion (IsGoodStep accounts) xs
    → (steps accounts).Good xs
unfolding steps
steps_good accounts xs few all = (
  (number_good w16 (length xs) (omega (arith, few)), lt-ltb (length xs) 4097 (omega (arith, few))),
  each_all (step accounts) (IsGoodStep accounts) (step_good accounts) [] xs all,
)

good_steps : (accounts : List ℕ) (xs : List Step) → (steps accounts).Good xs → IsBytes ((steps accounts).spell xs)
    → (length xs ≤ most_steps) × AllByRecursion (IsGoodStep accounts) xs
unfolding steps
good_steps accounts xs h fits = (
  (let below : length xs < 4097 = ltb-true (length xs) 4097 h.0.1 in omega arith),
  all_each (step accounts) (IsGoodStep accounts) (good_step accounts) (length xs) [] xs h.1
      (behind_front ((number w16).spell (length xs)) ((each (λ front. step accounts) (length xs) []).spell xs) fits),
)

-- ---- rows

row_good : (classes : List Template) → length classes ≤ 256 → (r : Row) → IsGoodRow classes r → (row classes).Good r
unfolding row
row_good classes few r g =
    let lt : r.class < length classes = slice_get_within classes r.class g.class g.stated in
    let same : accounts_of classes r.class ≡ g.class.accounts = ap accounts_in g.stated in (
      (number_good w16 r.class (omega (arith, lt, few)), lt-ltb r.class (length classes) lt),
      (subst (λ a. (steps a).Good r.steps) (sym same) (steps_good g.class.accounts r.steps g.count g.each), refl),
    )

good_row : (classes : List Template) (r : Row) → (row classes).Good r → IsBytes ((row classes).spell r)
    → IsGoodRow classes r
unfolding row
good_row classes r h fits =
    let found = item_at classes r.class (ltb-true r.class (length classes) h.0.1) in
    let same : accounts_of classes r.class ≡ found.0.accounts = ap accounts_in found.1 in
    let bytes : IsBytes ((steps (accounts_of classes r.class)).spell r.steps) =
    front_bytes ((steps (accounts_of classes r.class)).spell r.steps) []
    (behind_front ((number w16).spell r.class) ((steps (accounts_of classes r.class)).spell r.steps ++ []) fits)
    in
    let all = good_steps (accounts_of classes r.class) r.steps h.1.0 bytes in
    record {
      class = found.0;
      stated = found.1;
      count = all.0;
      each = subst (λ a. AllByRecursion (IsGoodStep a) r.steps) same all.1;
    }

pub rows_good : (classes : List Template) (rs : List Row) → length classes ≤ 256 → length rs ≤ most_rows
    → AllByRecursion (IsGoodRow classes) rs → (rows classes).Good rs
unfolding rows
rows_good classes rs few_classes few all = (
  (number_good w16 (length rs) (omega (arith, few)), lt-ltb (length rs) 16385 (omega (arith, few))),
  each_all (row classes) (IsGoodRow classes) (row_good classes few_classes) [] rs all,
)

pub good_rows : (classes : List Template) (rs : List Row) → (rows classes).Good rs → IsBytes ((rows classes).spell rs)
    → (length rs ≤ most_rows) × AllByRecursion (IsGoodRow classes) rs
unfolding rows
good_rows classes rs h fits = (
  (let below : length rs < 16385 = ltb-true (length rs) 16385 h.0.1 in omega arith),
  all_each (row classes) (IsGoodRow classes) (good_row classes) (length rs) [] rs h.1
      (behind_front ((number w16).spell (length rs)) ((each (λ front. row classes) (length rs) []).spell rs) fits),
)
