-- The layout of the image is exact, what has an image is valid, and what the two versions have in common.
use Rattle.std.proofs.Common.{◌≡◌, ◌⊎◌, inl, inr, ℕ, ◌<◌, ◌≤◌, List, [], ◌++◌, length, Ok, refl, ap, subst, arith}
use Rattle.std.specs.Prelude.{◌==◌, ◌||◌}
use Rattle.std.specs.Int.{w8, w16, w32}
use Rattle.std.proofs.lemmas.Bool.{ltb-true}
use Rattle.byte_layout.specs.declared.fault.Break.TheVariants.{Magic, Version}
use Rattle.byte_layout.specs.Layout.{Layout, number, at_most, split}
use Rattle.byte_layout.specs.Exact.{IsBytes, IsExact}
use Rattle.byte_layout.proofs.Fields.{number_exact, wide32, byte_exact, short_exact}
use Rattle.byte_layout.proofs.Steps.{behind_front, front_bytes}
use Rattle.byte_layout.proofs.Layouts.{judged_exact, at_most_exact, split_exact, last_exact, marked_exact}
use Rattle.byte_layout.proofs.Lists.{counted_exact}
use Rattle.byte_layout.proofs.Whole.{either}
use Rattle.byte_layout.specs.declared.fault.LayoutFault.{LayoutFault}
use Rattle.device_template.specs.Template.{Template}
use Rattle.scenario_layout.specs.Class.{class}
use Rattle.scenario_layout.proofs.ExactClass.{class_exact}
use Rattle.scenario_image.specs.Scenario.{Row, Scenario, IsValid}
use Rattle.scenario_image.specs.Layout.{rows}
use Rattle.scenario_image.specs.Image.{classes, script_of, behind_classes, lists, version, in_version, after_header}
use Rattle.scenario_image.specs.Image.{image, IsImage, IsImageIn, HasImageFault}
use Rattle.scenario_image.proofs.Exact.{rows_exact}
use Rattle.scenario_image.proofs.Fits.{good_rows}

-- ---- the parts are exact

classes_exact : (v : ℕ) → IsExact (classes v)
unfolding classes
classes_exact v =
    counted_exact (at_most 256 (number w16)) (λ before. class v) (at_most_exact 256 (number w16) short_exact)
    (λ before. class_exact v)

behind_classes_exact : (known : List Template) → IsExact (behind_classes known)
behind_classes_exact known = last_exact (λ s. s.rows) (script_of known) (rows known) (rows_exact known) (λ rs ok. refl)

lists_exact : (v : ℕ) → IsExact (lists v)
unfolding lists
lists_exact v = split_exact (λ s. s.classes) (classes v) behind_classes (classes_exact v)
    (λ known good. behind_classes_exact known) (λ known good s h. ap (λ x. x.classes) h.1)

version_exact : IsExact version
version_exact = judged_exact (λ left. Version) (λ left. omega arith) (λ n. n == 1 || n == 2) (number w8) byte_exact

in_version_exact : {A : Type 0} (part : ℕ → Layout A) (v : ℕ) → IsExact (part v) → IsExact (in_version part v)
in_version_exact part v exact = last_exact (λ x. x.1) (λ a. (v, a)) (part v) exact (λ a ok. refl)

pub headed_exact : {A : Type 0} (part : ℕ → Layout A) → ((v : ℕ) → IsExact (part v)) → IsExact (after_header part)
headed_exact part exact =
    marked_exact Magic refl 0x4C575343 (number w32) (split (λ x. x.0) version (in_version part))
    (number_exact w32 wide32)
    (split_exact (λ x. x.0) version (in_version part) version_exact
    (λ v good. in_version_exact part v (exact v)) (λ v good x h. ap (λ y. y.0) h.1))

pub image_exact : IsExact image
unfolding image
image_exact = headed_exact lists lists_exact

-- ---- what has bytes is valid

pub rows_valid : (s : Scenario) → length s.classes ≤ 256 → (rows s.classes).Good s.rows
    → IsBytes ((rows s.classes).spell s.rows) → IsValid s
rows_valid s few good fits =
    let all = good_rows s.classes s.rows good fits in
    record { classes = few; rows = all.0; each = all.1 }

pub few_classes : (v : ℕ) (known : List Template) → (classes v).Good known → length known ≤ 256
unfolding classes
few_classes v known h = let below : length known < 257 = ltb-true (length known) 257 h.0.1 in omega arith

-- classes and rows that were read, one after the other
pub read_valid : (v : ℕ) (known lent : List Template) (rs : List Row) (bytes rest behind : List ℕ) → IsBytes bytes
    → lent ≡ known → (classes v).read bytes ≡ Ok (known, rest) → (rows lent).read rest ≡ Ok (rs, behind)
    → IsValid (script_of known rs)
read_valid v known lent rs bytes rest behind fits same first second =
    let f = (classes_exact v).taken bytes fits known rest first in
    let left = behind_front ((classes v).spell known) rest (subst (λ (b : List ℕ). IsBytes b) f.1 fits) in
    let t = (rows_exact known).taken rest left rs behind
    (subst (λ (k : List Template). (rows k).read rest ≡ Ok (rs, behind)) same second) in
    rows_valid (script_of known rs) (few_classes v known f.0) t.0
    (front_bytes ((rows known).spell rs) behind (subst (λ (b : List ℕ). IsBytes b) t.1 left))

lists_valid : (v : ℕ) (s : Scenario) → (lists v).Good s → IsBytes ((lists v).spell s) → IsValid s
unfolding lists
lists_valid v s h fits =
    rows_valid s (few_classes v s.classes h.0) h.1.0
    (front_bytes ((rows s.classes).spell s.rows) []
    (behind_front ((classes v).spell s.classes) ((rows s.classes).spell s.rows ++ []) fits))

in_version_valid : (v : ℕ) (bytes : List ℕ) (s : Scenario) → IsBytes bytes → IsImageIn v bytes s → IsValid s
unfolding image
in_version_valid v bytes s fits h =
    lists_valid v s h.0.1.1.0
    (front_bytes ((lists v).spell s) []
    (behind_front ((number w8).spell v) ((lists v).spell s ++ [])
    (behind_front ((number w32).spell 0x4C575343) ((number w8).spell v ++ ((lists v).spell s ++ []))
    (subst (λ (b : List ℕ). IsBytes b) h.1 fits))))

pub image_valid : (bytes : List ℕ) (s : Scenario) → IsBytes bytes → IsImage bytes s → IsValid s
image_valid bytes s fits h = in_version_valid h.0 bytes s fits h.1

pub image_or_fault : (bytes : List ℕ) → IsBytes bytes
    → ((s : Scenario) × IsImage bytes s) ⊎ ((f : LayoutFault) × HasImageFault bytes f)
image_or_fault bytes fits = elim (either image image_exact bytes fits) [
  | inl h ↦ inl (h.0.1, (h.0.0, h.1))
  | inr h ↦ inr h
]
