-- What is written of a scenario has an image.
use Rattle.std.proofs.Common.{◌≡◌, ℕ, ◌+◌, ◌<◌, ◌≤◌, List, [], ◌∷◌, ◌++◌, length, get_or, take, refl, sym, ap, subst}
use Rattle.std.proofs.Common.{◌∙◌, arith}
use Rattle.std.specs.Int.{w8, w16, w32}
use Rattle.std.specs.List.{AllByRecursion}
use Rattle.std.proofs.lemmas.Bool.{lt-ltb}
use Rattle.std.proofs.lemmas.List.{take_more, take_all}
use Rattle.lemmas.proofs.Lists.{each_pushed}
use Rattle.byte_layout.specs.Layout.{each}
use Rattle.byte_layout.proofs.Fields.{number_good}
use Rattle.device_template.specs.Template.{Template}
use Rattle.scenario_layout.specs.Class.{class}
use Rattle.scenario_image.specs.Scenario.{Scenario, IsValid}
use Rattle.scenario_image.specs.Layout.{rows}
use Rattle.scenario_image.specs.Image.{classes, lists, image}
use Rattle.scenario_image.proofs.Fits.{each_all, rows_good}

-- one more of the classes has bytes
pub one_more : (list : List Template) (i : ℕ) (x : Template) → i < length list → x ≡ get_or list i x → (class 2).Good x
    → AllByRecursion (class 2).Good (take i list) → AllByRecursion (class 2).Good (take (i + 1) list)
one_more list i x lt item good all =
    subst (λ (ys : List Template). AllByRecursion (class 2).Good ys)
    (sym (take_more list i x lt ∙ ap (λ y. take i list ++ y ∷ []) (sym item)))
    (each_pushed (class 2).Good (take i list) x all good)

-- all of them have
pub all_good : (list : List Template) (i : ℕ) → length list ≤ i → AllByRecursion (class 2).Good (take i list)
    → (each (λ before. class 2) (length list) []).Good list
all_good list i le all =
    each_all (class 2) (class 2).Good (λ a h. h) [] list
    (subst (λ (ys : List Template). AllByRecursion (class 2).Good ys) (take_all i list le) all)

pub few_good : (list : List Template) → length list ≤ 256 → (each (λ before. class 2) (length list) []).Good list
    → (classes 2).Good list
unfolding classes
few_good list few good =
    ((number_good w16 (length list) (omega (arith, few)), lt-ltb (length list) 257 (omega (arith, few))), good)

-- the rows of a valid scenario have bytes after its classes
pub valid_rows : (s : Scenario) → IsValid s → (rows s.classes).Good s.rows
valid_rows s valid = rows_good s.classes s.rows valid.classes valid.rows valid.each

pub lists_good : (s : Scenario) → (classes 2).Good s.classes → (rows s.classes).Good s.rows → (lists 2).Good s
unfolding lists
lists_good s first second = (first, (second, refl))

pub image_good : (s : Scenario) → (lists 2).Good s → image.Good (2, s)
unfolding image
image_good s good = (
  (number_good w32 0x4C575343 (omega arith), refl),
  ((number_good w8 2 (omega arith), refl), (good, refl)),
)
