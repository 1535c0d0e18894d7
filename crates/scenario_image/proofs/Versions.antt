-- What the two versions of the image have in common: version 1 says the scenarios whose classes send Non-confirmable
-- notifications.
use Rattle.std.proofs.Common.{◌≡◌, ◌⊎◌, ℕ, zero, suc, Bool, true, false, List, [], ◌∷◌, ◌++◌, refl, sym, subst, inl}
use Rattle.std.proofs.Common.{inr, ap, ◌∙◌, arith}
use Rattle.std.specs.Prelude.{◌==◌, ◌||◌}
use Rattle.std.specs.Int.{w8}
use Rattle.std.specs.List.{AllByRecursion}
use Rattle.std.proofs.lemmas.Bool.{cases_Bool, eqb-true}
use Rattle.byte_layout.specs.Layout.{each}
use Rattle.byte_layout.proofs.Fields.{number_good}
use Rattle.device_template.specs.Template.{Template}
use Rattle.scenario_layout.specs.Class.{class, notify, notify_in}
use Rattle.scenario_image.specs.Scenario.{Scenario}
use Rattle.scenario_image.specs.Image.{classes, lists, image, IsImageIn}

abbrev IsNon : Template → Type 0
IsNon c = c.notify ≡ 0

-- a class of version 1 is one of version 2 that sends Non-confirmable notifications
class_more : (c : Template) → (class 1).Good c → (class 2).Good c
unfolding class notify_in notify
class_more c h = (subst (λ n. notify.Good n) (sym h.0) (number_good w8 0 (omega arith), refl), h.1)

class_non : (c : Template) → (class 1).Good c → IsNon c
unfolding class notify_in
class_non c h = h.0

class_less : (c : Template) → (class 2).Good c → IsNon c → (class 1).Good c
unfolding class notify_in
class_less c h non = (non, h.1)

each_more : (n : ℕ) (before xs : List Template) → (each (λ b. class 1) n before).Good xs
    → (each (λ b. class 2) n before).Good xs × AllByRecursion IsNon xs
unfolding each
each_more zero before xs h = (h, subst (λ (ys : List Template). AllByRecursion IsNon ys) (sym h) tt)
each_more (suc n) before [] h = absurd h
each_more (suc n) before (c ∷ xs) h =
    let rest = each_more n (before ++ c ∷ []) xs h.1 in
    ((class_more c h.0, rest.0), (class_non c h.0, rest.1))

each_less : (n : ℕ) (before xs : List Template) → (each (λ b. class 2) n before).Good xs → AllByRecursion IsNon xs
    → (each (λ b. class 1) n before).Good xs
unfolding each
each_less zero before xs h non = h
each_less (suc n) before [] h non = absurd h
each_less (suc n) before (c ∷ xs) h non = (class_less c h.0 non.0, each_less n (before ++ c ∷ []) xs h.1 non.1)

pub first_is : (s : Scenario) → image.Good (1, s) → image.Good (2, s) × AllByRecursion IsNon s.classes
unfolding image lists classes
first_is s h =
    let more = each_more _ [] s.classes h.1.1.0.0.1 in (
      (h.0, ((number_good w8 2 (omega arith), refl), (((h.1.1.0.0.0, more.0), h.1.1.0.1), refl))),
      more.1,
    )

pub first_from : (s : Scenario) → image.Good (2, s) → AllByRecursion IsNon s.classes → image.Good (1, s)
unfolding image lists classes
first_from s h non = (
  h.0,
  (
    (number_good w8 1 (omega arith), refl),
    (
      (
        (h.1.1.0.0.0, each_less _ [] s.classes h.1.1.0.0.1 non),
        h.1.1.0.1,
      ),
      refl,
    ),
  ),
)

one_of_two : (n : ℕ) → (n == 1 || n == 2) ≡ true → (n ≡ 1) ⊎ (n ≡ 2)
one_of_two n h = elim (cases_Bool (n == 1)) [
  | inl first ↦ inl (eqb-true n 1 first)
  | inr other ↦ inr (eqb-true n 2 (ap (λ t. t || n == 2) (sym other) ∙ h))
]

pub versions : (v : ℕ) (bytes : List ℕ) (s : Scenario) → IsImageIn v bytes s → (v ≡ 1) ⊎ (v ≡ 2)
unfolding image
versions v bytes s h = one_of_two v h.0.1.0.1
