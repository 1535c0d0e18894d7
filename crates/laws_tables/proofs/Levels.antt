-- The first of the levels of a path, from the lowest, that has an attribute is the lowest that has it.
use Rattle.std.proofs.Common.{◌≡◌, ◌⊎◌, inl, inr, ◌↔◌, ℕ, ℤ, List, [], ◌∷◌, length, Option, None, Some, refl}
use Rattle.std.proofs.Common.{sym, ap, subst, ◌∙◌, arith}
use Rattle.std.specs.Option.{option_or}
use Rattle.object_defs.specs.declared.path.Path.{Path}
use Rattle.object_defs.specs.declared.path.Path.TheVariants.{Object, Instance, Resource, Part}
use Rattle.notifier.specs.Attributes.{Numbers, assigned_number, effective, first_assigned, levels_of}
use Rattle.notifier.specs.declared.attribute.Name.{Name}
use Rattle.laws_tables.specs.Levels.{HasEffectOn, IsLowest, LiesLower, numbers_of}

-- ---- any levels, from the lowest

abbrev Among : Path → List Path → Type 0
Among level [] = ⊥
Among level (p ∷ ps) = (level ≡ p) ⊎ Among level ps

-- each lies lower than those after it
abbrev Rise : List Path → Type 0
Rise [] = Unit {0}
Rise (p ∷ ps) = ((level : Path) → Among level ps → LiesLower p level) × Rise ps

module _ (m : Numbers) (server : ℕ) (n : Name) where
  record Lowest (ps : List Path) (level : Path) (z : ℤ) : Type 0 where
    among : Among level ps
    set : assigned_number m server level n ≡ Some z
    lowest : (lower : Path) → Among lower ps → LiesLower lower level → assigned_number m server lower n ≡ None

  here : (p : Path) (ps : List Path) (z : ℤ) → Rise (p ∷ ps) → assigned_number m server p n ≡ Some z
      → Lowest (p ∷ ps) p z
  here p ps z rise e =
      record {
        among = inl refl;
        set = e;
        lowest = none;
      }
    where
      none : (lower : Path) → Among lower (p ∷ ps) → LiesLower lower p → assigned_number m server lower n ≡ None
      none lower (inl same) l = absurd (below lower p same l)
        where
          below : (a b : Path) → a ≡ b → LiesLower a b → ⊥
          below a b e l = let k : length (numbers_of a) ≡ length (numbers_of b) = ap (λ q. length (numbers_of q)) e in
              omega (arith, k, l)
      none lower (inr later) l = let k = rise.0 lower later in absurd (omega (arith, k, l))

  there : (p : Path) (ps : List Path) (level : Path) (z : ℤ) → assigned_number m server p n ≡ None → Lowest ps level z
      → Lowest (p ∷ ps) level z
  there p ps level z e low =
      record {
        among = inr low.among;
        set = low.set;
        lowest = none;
      }
    where
      none : (lower : Path) → Among lower (p ∷ ps) → LiesLower lower level → assigned_number m server lower n ≡ None
      none lower (inl same) l = ap (λ q. assigned_number m server q n) same ∙ e
      none lower (inr later) l = low.lowest lower later l

  chosen : (p : Path) (ps : List Path) (a : Option ℤ) (z : ℤ) → Rise (p ∷ ps) → assigned_number m server p n ≡ a
      → option_or a (first_assigned m server ps n) ≡ Some z
      → (first_assigned m server ps n ≡ Some z → (level : Path) × Lowest ps level z)
      → (level : Path) × Lowest (p ∷ ps) level z
  chosen p ps (Some y) z rise e h rest = (p, here p ps z rise (e ∙ h))
  chosen p ps None z rise e h rest = let low = rest h in (low.0, there p ps low.0 z e low.1)

  found : (ps : List Path) (z : ℤ) → Rise ps → first_assigned m server ps n ≡ Some z
      → (level : Path) × Lowest ps level z
  found [] z rise h = cc
  found (p ∷ ps) z rise h = chosen p ps (assigned_number m server p n) z rise refl h (found ps z rise.1)

  first_by : (p : Path) (ps : List Path) (level : Path) (z : ℤ) → Rise (p ∷ ps) → Lowest (p ∷ ps) level z
      → Among level (p ∷ ps) → (Lowest ps level z → first_assigned m server ps n ≡ Some z)
      → first_assigned m server (p ∷ ps) n ≡ Some z
  first_by p ps level z rise low (inl same) rest =
      ap (λ a. option_or a (first_assigned m server ps n))
      (sym (ap (λ q. assigned_number m server q n) same) ∙ low.set)
  first_by p ps level z rise low (inr later) rest =
      ap (λ a. option_or a (first_assigned m server ps n)) (low.lowest p (inl refl) (rise.0 level later))
      ∙ rest (record {
        among = later;
        set = low.set;
        lowest = λ lower among l. low.lowest lower (inr among) l;
      })

  first : (ps : List Path) (level : Path) (z : ℤ) → Rise ps → Lowest ps level z
      → first_assigned m server ps n ≡ Some z
  first [] level z rise low = absurd low.among
  first (p ∷ ps) level z rise low = first_by p ps level z rise low low.among (first ps level z rise.1)

  both_none : (a b : Option ℤ) → option_or a b ≡ None → (a ≡ None) × (b ≡ None)
  both_none None b h = (refl, h)
  both_none (Some y) b h = cc

  none_set : (ps : List Path) → first_assigned m server ps n ≡ None → (level : Path) → Among level ps
      → assigned_number m server level n ≡ None
  none_set [] h level among = absurd among
  none_set (p ∷ ps) h level (inl same) =
      ap (λ q. assigned_number m server q n) same
      ∙ (both_none (assigned_number m server p n) (first_assigned m server ps n) h).0
  none_set (p ∷ ps) h level (inr later) =
      none_set ps (both_none (assigned_number m server p n) (first_assigned m server ps n) h).1 level later

  none_first : (ps : List Path) → ((level : Path) → Among level ps → assigned_number m server level n ≡ None)
      → first_assigned m server ps n ≡ None
  none_first [] h = refl
  none_first (p ∷ ps) h =
      ap (λ a. option_or a (first_assigned m server ps n)) (h p (inl refl))
      ∙ none_first ps (λ level among. h level (inr among))

-- ---- the levels of a path

rise_two : (o i : ℕ) → Rise (Instance o i ∷ Object o ∷ [])
rise_two o i = (above, ((λ level among. absurd among), tt))
  where
    above : (level : Path) → Among level (Object o ∷ []) → LiesLower (Instance o i) level
    above level (inl e) = subst (LiesLower (Instance o i)) (sym e) (omega arith)
    above level (inr x) = elim x [ ]

rise_three : (o i r : ℕ) → Rise (Resource o i r ∷ Instance o i ∷ Object o ∷ [])
rise_three o i r = (above, rise_two o i)
  where
    above : (level : Path) → Among level (Instance o i ∷ Object o ∷ []) → LiesLower (Resource o i r) level
    above level (inl e) = subst (LiesLower (Resource o i r)) (sym e) (omega arith)
    above level (inr (inl e)) = subst (LiesLower (Resource o i r)) (sym e) (omega arith)
    above level (inr (inr x)) = elim x [ ]

rising : (path : Path) → Rise (levels_of path)
rising (Object o) = ((λ level among. absurd among), tt)
rising (Instance o i) = rise_two o i
rising (Resource o i r) = rise_three o i r
rising (Part o i r p) = rise_three o i r

-- they are those whose attributes have effect
with_effect : (path level : Path) → Among level (levels_of path) → HasEffectOn path level
with_effect (Object o) level (inl e) =
    subst (HasEffectOn (Object o)) (sym e) (record { rest = []; begins = refl; at_most_three = omega arith })
with_effect (Object o) level (inr x) = elim x [ ]
with_effect (Instance o i) level (inl e) =
    subst (HasEffectOn (Instance o i)) (sym e) (record { rest = []; begins = refl; at_most_three = omega arith })
with_effect (Instance o i) level (inr (inl e)) =
    subst (HasEffectOn (Instance o i)) (sym e) (record { rest = i ∷ []; begins = refl; at_most_three = omega arith })
with_effect (Instance o i) level (inr (inr x)) = elim x [ ]
with_effect (Resource o i r) level (inl e) =
    subst (HasEffectOn (Resource o i r)) (sym e) (record { rest = []; begins = refl; at_most_three = omega arith })
with_effect (Resource o i r) level (inr (inl e)) =
    subst (HasEffectOn (Resource o i r)) (sym e) (record { rest = r ∷ []; begins = refl; at_most_three = omega arith })
with_effect (Resource o i r) level (inr (inr (inl e))) =
    subst (HasEffectOn (Resource o i r)) (sym e)
    (record { rest = i ∷ r ∷ []; begins = refl; at_most_three = omega arith })
with_effect (Resource o i r) level (inr (inr (inr x))) = elim x [ ]
with_effect (Part o i r p) level (inl e) =
    subst (HasEffectOn (Part o i r p)) (sym e) (record { rest = p ∷ []; begins = refl; at_most_three = omega arith })
with_effect (Part o i r p) level (inr (inl e)) =
    subst (HasEffectOn (Part o i r p)) (sym e)
    (record { rest = r ∷ p ∷ []; begins = refl; at_most_three = omega arith })
with_effect (Part o i r p) level (inr (inr (inl e))) =
    subst (HasEffectOn (Part o i r p)) (sym e)
    (record { rest = i ∷ r ∷ p ∷ []; begins = refl; at_most_three = omega arith })
with_effect (Part o i r p) level (inr (inr (inr x))) = elim x [ ]

of_effect : (path level : Path) → HasEffectOn path level → Among level (levels_of path)
of_effect (Object o) (Object x) e = inl (let k = e.begins in cc)
of_effect (Object o) (Instance x y) e = let k = e.begins in cc
of_effect (Object o) (Resource x y w) e = let k = e.begins in cc
of_effect (Object o) (Part x y w v) e = let k = e.begins in cc
of_effect (Instance o i) (Object x) e = inr (inl (let k = e.begins in cc))
of_effect (Instance o i) (Instance x y) e = inl (let k = e.begins in cc)
of_effect (Instance o i) (Resource x y w) e = let k = e.begins in cc
of_effect (Instance o i) (Part x y w v) e = let k = e.begins in cc
of_effect (Resource o i r) (Object x) e = inr (inr (inl (let k = e.begins in cc)))
of_effect (Resource o i r) (Instance x y) e = inr (inl (let k = e.begins in cc))
of_effect (Resource o i r) (Resource x y w) e = inl (let k = e.begins in cc)
of_effect (Resource o i r) (Part x y w v) e = let k = e.begins in cc
of_effect (Part o i r p) (Object x) e = inr (inr (inl (let k = e.begins in cc)))
of_effect (Part o i r p) (Instance x y) e = inr (inl (let k = e.begins in cc))
of_effect (Part o i r p) (Resource x y w) e = inl (let k = e.begins in cc)
of_effect (Part o i r p) (Part x y w v) e = let k = e.at_most_three in absurd (omega (arith, k))

-- ---- the laws

pub lowest_has_effect : (m : Numbers) (server : ℕ) (path : Path) (n : Name) (z : ℤ)
    → (effective m server path n ≡ Some z) ↔ ((level : Path) × IsLowest m server path n level z)
lowest_has_effect m server path n z = (
  (λ h. let low = found m server n (levels_of path) z (rising path) h in (
    low.0,
    record {
      effect = with_effect path low.0 low.1.among;
      set = low.1.set;
      lowest = λ lower e l. low.1.lowest lower (of_effect path lower e) l;
    },
  )),
  (λ p. first m server n (levels_of path) p.0 z (rising path) (record {
    among = of_effect path p.0 p.1.effect;
    set = p.1.set;
    lowest = λ lower among l. p.1.lowest lower (with_effect path lower among) l;
  })),
)

pub none_has_effect : (m : Numbers) (server : ℕ) (path : Path) (n : Name)
    → (effective m server path n ≡ None)
    ↔ ((level : Path) → HasEffectOn path level → assigned_number m server level n ≡ None)
none_has_effect m server path n = (
  (λ h level e. none_set m server n (levels_of path) h level (of_effect path level e)),
  (λ h. none_first m server n (levels_of path) (λ level among. h level (with_effect path level among))),
)
