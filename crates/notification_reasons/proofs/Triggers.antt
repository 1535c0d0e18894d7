-- Which of the conditions triggers, over plain values.
use Rattle.std.proofs.Common.{◌≡◌, ℕ, ℤ, Bool, true, false, not, cond, ◌⊎◌, inl, inr, List, [], ◌∷◌, Option}
use Rattle.std.proofs.Common.{None, Some, if◌then◌else◌, refl, sym, ap, subst, ◌∙◌}
use Rattle.std.specs.Str.{bytes_eq}
use Rattle.std.specs.Option.{option_map_or}
use Rattle.object_defs.specs.Lines.{first_line}
use Rattle.std.proofs.lemmas.Slice.Eq.{bytes_eq-Decides}
use Rattle.std.proofs.lemmas.Bool.{false_from_ne_true}
use Rattle.notifier.specs.Trigger.{crosses_gt, crosses_lt, has_condition, is_triggered, number_trigger, number_triggers}
use Rattle.notifier.specs.Trigger.{payload_trigger, steps_st}
use Rattle.notifier.specs.declared.trigger.Trigger.TheVariants as trigger
use Rattle.notification_reasons.specs.Finding.{by_trigger, due_by}
use Rattle.notification_reasons.specs.declared.reasons.DueBy.{DueBy}
use Rattle.notification_reasons.specs.declared.reasons.DueBy.TheVariants.{Gt, Lt, St, Payload}

pub choose : {X : Type 0} (b : Bool) (x y : X) (P : X → Type 0) → (b ≡ true → P x) → (b ≡ false → P y)
    → P (if b then x else y)
choose true x y P t f = t refl
choose false x y P t f = f refl

-- ---- the trigger that is named, with its numbers

-- no number triggers
no_number_named : (b : Bool) (a c : ℤ) (gt lt st : Option ℤ)
    → due_by (first_line ((b, trigger.Payload) ∷ [])) a c gt lt st ≡ Payload
no_number_named true a c gt lt st = refl
no_number_named false a c gt lt st = refl

abbrev named : Bool → Bool → Bool → ℤ → ℤ → Option ℤ → Option ℤ → Option ℤ → DueBy
named x y z a b gt lt st =
    due_by (first_line ((x, trigger.Gt) ∷ (y, trigger.Lt) ∷ (z, trigger.St) ∷ [])) a b gt lt st

-- a condition that holds is set
gt_set : (gt : Option ℤ) (a b : ℤ) → crosses_gt gt a b ≡ true → (g : ℤ) × (gt ≡ Some g)
gt_set None a b h = let e : false ≡ true = h in absurd cc
gt_set (Some g) a b h = (g, refl)

lt_set : (lt : Option ℤ) (a b : ℤ) → crosses_lt lt a b ≡ true → (l : ℤ) × (lt ≡ Some l)
lt_set None a b h = let e : false ≡ true = h in absurd cc
lt_set (Some l) a b h = (l, refl)

st_set : (st : Option ℤ) (a b : ℤ) → steps_st st a b ≡ true → (s : ℤ) × (st ≡ Some s)
st_set None a b h = let e : false ≡ true = h in absurd cc
st_set (Some s) a b h = (s, refl)

-- the first of them
conditions_found : (gt lt st : Option ℤ) (a b : ℤ) (Q : DueBy → Type 0) (x y z : Bool) → crosses_gt gt a b ≡ x
    → crosses_lt lt a b ≡ y → steps_st st a b ≡ z
    → ((g : ℤ) → gt ≡ Some g → crosses_gt (Some g) a b ≡ true → Q (Gt a b g))
    → ((l : ℤ) → lt ≡ Some l → crosses_lt (Some l) a b ≡ true → crosses_gt gt a b ≡ false → Q (Lt a b l))
    → ((s : ℤ) → st ≡ Some s → steps_st (Some s) a b ≡ true → crosses_gt gt a b ≡ false
    → crosses_lt lt a b ≡ false → Q (St a b s))
    → (number_triggers gt lt st a b ≡ false → Q Payload)
    → Q (named x y z a b gt lt st)
conditions_found gt lt st a b Q true y z hx hy hz g l s p =
    let set = gt_set gt a b hx in
    subst (λ o. Q (option_map_or (Gt a b) o Payload)) (sym set.1)
    (g set.0 set.1 (subst (λ o. crosses_gt o a b ≡ true) set.1 hx))
conditions_found gt lt st a b Q false true z hx hy hz g l s p =
    let set = lt_set lt a b hy in
    subst (λ o. Q (option_map_or (Lt a b) o Payload)) (sym set.1)
    (l set.0 set.1 (subst (λ o. crosses_lt o a b ≡ true) set.1 hy) hx)
conditions_found gt lt st a b Q false false true hx hy hz g l s p =
    let set = st_set st a b hz in
    subst (λ o. Q (option_map_or (St a b) o Payload)) (sym set.1)
    (s set.0 set.1 (subst (λ o. steps_st o a b ≡ true) set.1 hz) hx hy)
conditions_found gt lt st a b Q false false false hx hy hz g l s p = p (rw (hx, hy, hz) refl)

-- no condition is set
none_set : (gt lt st : Option ℤ) → has_condition gt lt st ≡ false → (gt ≡ None) × (lt ≡ None) × (st ≡ None)
none_set None None None h = (refl, refl, refl)
none_set None None (Some s) h = let e : true ≡ false = h in absurd cc
none_set None (Some l) st h = let e : true ≡ false = h in absurd cc
none_set (Some g) lt st h = let e : true ≡ false = h in absurd cc

no_condition : (gt lt st : Option ℤ) (a b : ℤ) → has_condition gt lt st ≡ false
    → number_triggers gt lt st a b ≡ false
no_condition gt lt st a b h =
    let none = none_set gt lt st h in (λ i. number_triggers (none.0 i) (none.1 i) (none.2 i) a b)

chosen_found : (c : Bool) (gt lt st : Option ℤ) (a b : ℤ) (op : List ℕ) (Q : DueBy → Type 0)
    → has_condition gt lt st ≡ c
    → ((g : ℤ) → gt ≡ Some g → crosses_gt (Some g) a b ≡ true → Q (Gt a b g))
    → ((l : ℤ) → lt ≡ Some l → crosses_lt (Some l) a b ≡ true → crosses_gt gt a b ≡ false → Q (Lt a b l))
    → ((s : ℤ) → st ≡ Some s → steps_st (Some s) a b ≡ true → crosses_gt gt a b ≡ false
    → crosses_lt lt a b ≡ false → Q (St a b s))
    → (number_triggers gt lt st a b ≡ false → Q Payload)
    → Q (due_by (cond c (number_trigger gt lt st a b) (payload_trigger op [])) a b gt lt st)
chosen_found true gt lt st a b op Q e g l s p =
    conditions_found gt lt st a b Q (crosses_gt gt a b) (crosses_lt lt a b) (steps_st st a b) refl refl refl g l s p
chosen_found false gt lt st a b op Q e g l s p =
    subst Q (sym (no_number_named (not (bytes_eq op [])) a b gt lt st)) (p (no_condition gt lt st a b e))

-- ---- what triggers

differs : (a b : List ℕ) → not (bytes_eq a b) ≡ true → a ≡ b → ⊥
differs a b h same = let is = (bytes_eq-Decides a b).1 same in let e : false ≡ true = sym (ap not is) ∙ h in cc

pub unlike : (a b : List ℕ) → (a ≡ b → ⊥) → not (bytes_eq a b) ≡ true
unlike a b h = ap not (false_from_ne_true (bytes_eq a b) (λ e. h ((bytes_eq-Decides a b).0 e)))

payload_alone : (h n d : Bool) → n ≡ false → cond h n d ≡ true → (h ≡ false) × (d ≡ true)
payload_alone true n d none is = let e : false ≡ true = sym none ∙ is in absurd cc
payload_alone false n d none is = (refl, is)

-- what triggers does so by the first condition that holds, or by its payload
pub trigger_found : (gt lt st old now : Option ℤ) (op p : List ℕ) (Q : DueBy → Type 0)
    → is_triggered gt lt st old now op p ≡ true
    → ((a b g : ℤ) → old ≡ Some a → now ≡ Some b → gt ≡ Some g → crosses_gt (Some g) a b ≡ true → Q (Gt a b g))
    → ((a b l : ℤ) → old ≡ Some a → now ≡ Some b → lt ≡ Some l → crosses_lt (Some l) a b ≡ true
    → crosses_gt gt a b ≡ false → Q (Lt a b l))
    → ((a b s : ℤ) → old ≡ Some a → now ≡ Some b → st ≡ Some s → steps_st (Some s) a b ≡ true
    → crosses_gt gt a b ≡ false → crosses_lt lt a b ≡ false → Q (St a b s))
    → ((old ≡ None) ⊎ ((now ≡ None) ⊎ (has_condition gt lt st ≡ false)) → (op ≡ p → ⊥) → Q Payload)
    → Q (by_trigger gt lt st old now op)
trigger_found gt lt st (Some a) (Some b) op p Q h g l s d =
    chosen_found (has_condition gt lt st) gt lt st a b op Q refl (λ n. g a b n refl refl) (λ n. l a b n refl refl)
    (λ n. s a b n refl refl)
    (λ none. let alone = payload_alone (has_condition gt lt st) (number_triggers gt lt st a b) (not (bytes_eq op p))
    none h in d (inr (inr alone.0)) (differs op p alone.1))
trigger_found gt lt st (Some a) None op p Q h g l s d = d (inr (inl refl)) (differs op p h)
trigger_found gt lt st None now op p Q h g l s d = d (inl refl) (differs op p h)

-- ---- and back

-- these values trigger, by this
pub record IsBy (gt lt st old now : Option ℤ) (op p : List ℕ) (by : DueBy) : Type 0 where
  pub triggers : is_triggered gt lt st old now op p ≡ true
  pub found : by_trigger gt lt st old now op ≡ by

has_gt : (gt lt st : Option ℤ) (g : ℤ) → gt ≡ Some g → has_condition gt lt st ≡ true
has_gt gt lt st g h = rw h refl

has_lt : (gt lt st : Option ℤ) (l : ℤ) → lt ≡ Some l → has_condition gt lt st ≡ true
has_lt None lt st l h = rw h refl
has_lt (Some g) lt st l h = refl

has_st : (gt lt st : Option ℤ) (s : ℤ) → st ≡ Some s → has_condition gt lt st ≡ true
has_st None None st s h = rw h refl
has_st None (Some l) st s h = refl
has_st (Some g) lt st s h = refl

-- the number that is named, where a condition is set
named_is : (gt lt st : Option ℤ) (a b : ℤ) (op : List ℕ) (x y z : Bool) → has_condition gt lt st ≡ true
    → crosses_gt gt a b ≡ x → crosses_lt lt a b ≡ y → steps_st st a b ≡ z
    → by_trigger gt lt st (Some a) (Some b) op ≡ named x y z a b gt lt st
named_is gt lt st a b op x y z set hx hy hz =
    ap (λ c. due_by (cond c (number_trigger gt lt st a b) (payload_trigger op [])) a b gt lt st) set
    ∙ (λ i. named (hx i) (hy i) (hz i) a b gt lt st)

gt_back : (lt st : Option ℤ) (op p : List ℕ) (a b g : ℤ) → crosses_gt (Some g) a b ≡ true
    → IsBy (Some g) lt st (Some a) (Some b) op p (Gt a b g)
gt_back lt st op p a b g h =
    record {
      triggers = rw h refl;
      found = named_is (Some g) lt st a b op true (crosses_lt lt a b) (steps_st st a b) refl h refl refl;
    }

lt_back : (gt st : Option ℤ) (op p : List ℕ) (a b l : ℤ) → crosses_lt (Some l) a b ≡ true → crosses_gt gt a b ≡ false
    → IsBy gt (Some l) st (Some a) (Some b) op p (Lt a b l)
lt_back gt st op p a b l h no_gt =
    record {
      triggers = rw (has_lt gt (Some l) st l refl, no_gt, h) refl;
      found = named_is gt (Some l) st a b op false true (steps_st st a b) (has_lt gt (Some l) st l refl) no_gt h refl;
    }

st_back : (gt lt : Option ℤ) (op p : List ℕ) (a b s : ℤ) → steps_st (Some s) a b ≡ true → crosses_gt gt a b ≡ false
    → crosses_lt lt a b ≡ false → IsBy gt lt (Some s) (Some a) (Some b) op p (St a b s)
st_back gt lt op p a b s h no_gt no_lt =
    record {
      triggers = rw (has_st gt lt (Some s) s refl, no_gt, no_lt, h) refl;
      found = named_is gt lt (Some s) a b op false false true (has_st gt lt (Some s) s refl) no_gt no_lt h;
    }

pub gt_is : (gt lt st old now : Option ℤ) (op p : List ℕ) (a b g : ℤ) → old ≡ Some a → now ≡ Some b → gt ≡ Some g
    → crosses_gt (Some g) a b ≡ true → IsBy gt lt st old now op p (Gt a b g)
gt_is gt lt st old now op p a b g o n is h = rw (o, n, is) (gt_back lt st op p a b g h)

pub lt_is : (gt lt st old now : Option ℤ) (op p : List ℕ) (a b l : ℤ) → old ≡ Some a → now ≡ Some b → lt ≡ Some l
    → crosses_lt (Some l) a b ≡ true → crosses_gt gt a b ≡ false → IsBy gt lt st old now op p (Lt a b l)
lt_is gt lt st old now op p a b l o n is h no_gt = rw (o, n, is) (lt_back gt st op p a b l h no_gt)

pub st_is : (gt lt st old now : Option ℤ) (op p : List ℕ) (a b s : ℤ) → old ≡ Some a → now ≡ Some b → st ≡ Some s
    → steps_st (Some s) a b ≡ true → crosses_gt gt a b ≡ false → crosses_lt lt a b ≡ false
    → IsBy gt lt st old now op p (St a b s)
st_is gt lt st old now op p a b s o n is h no_gt no_lt = rw (o, n, is) (st_back gt lt op p a b s h no_gt no_lt)

payload_back : (gt lt st old now : Option ℤ) (op p : List ℕ) → has_condition gt lt st ≡ false → (op ≡ p → ⊥)
    → IsBy gt lt st old now op p Payload
payload_back gt lt st (Some a) (Some b) op p h d =
    record {
      triggers = ap (λ c. cond c (number_triggers gt lt st a b) (not (bytes_eq op p))) h ∙ unlike op p d;
      found = ap (λ c. due_by (cond c (number_trigger gt lt st a b) (payload_trigger op [])) a b gt lt st) h
          ∙ no_number_named (not (bytes_eq op [])) a b gt lt st;
    }
payload_back gt lt st (Some a) None op p h d = record { triggers = unlike op p d; found = refl }
payload_back gt lt st None now op p h d = record { triggers = unlike op p d; found = refl }

no_number : (gt lt st old now : Option ℤ) (op p : List ℕ) → now ≡ None → (op ≡ p → ⊥)
    → IsBy gt lt st old now op p Payload
no_number gt lt st (Some a) (Some b) op p h d = absurd cc
no_number gt lt st (Some a) None op p h d = record { triggers = unlike op p d; found = refl }
no_number gt lt st None now op p h d = record { triggers = unlike op p d; found = refl }

pub payload_is : (gt lt st old now : Option ℤ) (op p : List ℕ)
    → (old ≡ None) ⊎ ((now ≡ None) ⊎ (has_condition gt lt st ≡ false)) → (op ≡ p → ⊥)
    → IsBy gt lt st old now op p Payload
payload_is gt lt st old now op p (inl h) d = rw h (record { triggers = unlike op p d; found = refl })
payload_is gt lt st old now op p (inr (inl h)) d = no_number gt lt st old now op p h d
payload_is gt lt st old now op p (inr (inr h)) d = payload_back gt lt st old now op p h d
