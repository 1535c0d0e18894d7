-- A clone of a value, and of what a store keeps, is that value.
use Rattle.std.proofs.Common.{◌≡◌, ℕ, List, ap, ◌∙◌, rules}
use Rattle.std.specs.List.{AllZip}
use Rattle.lemmas.proofs.Lists.{same_list}
use Rattle.lwm2m_values.specs.declared.value.Value.{Value}
use Rattle.lwm2m_values.specs.declared.value.Value.TheVariants.{Text, Whole, Flag, Opaque, Moment, Link}
use Rattle.lwm2m_values.specs.contracts.value.ValueClone.TheImpl.{by_variants}
use Rattle.instance_store.specs.Table.{table_of}

pub same_value : (v w : Value) → by_variants v w → w ≡ v
same_value (Text a) (Text b) h = search rules
same_value (Whole a) (Whole b) h = search rules
same_value (Flag a) (Flag b) h = search rules
same_value (Opaque a) (Opaque b) h = ap Opaque h
same_value (Moment a) (Moment b) h = search rules
same_value (Link a x) (Link b y) h = search rules
same_value v w h = absurd h

pub same_table : {X : Type 0} (C : X → X → Type 0) → ((x y : X) → C x y → y ≡ x) → (ns ms : List ℕ) (xs ys : List X)
    → ms ≡ ns → AllZip C xs ys → table_of ms ys ≡ table_of ns xs
same_table C same ns ms xs ys e h = ap (λ k. table_of k ys) e ∙ ap (table_of ns) (same_list C same xs ys h)
