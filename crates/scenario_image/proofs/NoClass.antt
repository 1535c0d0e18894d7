-- The image of the scenario without a class: its front, and a count of no rows.
use Rattle.std.proofs.Common.{◌≡◌, ◌≢◌, ℕ, List, [], ◌∷◌, ◌++◌, length, Result, Ok, Err, refl, sym, ap}
use Rattle.std.proofs.Common.{eqb, if◌then◌else◌, ◌∙◌, append_assoc, arith}
use mathlib.Core.List.{append-nil}
use Rattle.std.specs.Int.{w16, w32}
use Rattle.byte_layout.specs.declared.fault.Break.{Break}
use Rattle.byte_layout.specs.declared.fault.Break.TheVariants.{Magic, Trailing}
use Rattle.byte_layout.specs.declared.fault.ReadError.{ReadError}
use Rattle.byte_layout.specs.declared.fault.ReadError.TheVariants as errors
use Rattle.byte_layout.specs.Layout.{Layout, ◌>>=◌, number, at_most, mark, each}
use Rattle.byte_layout.specs.Outcome.{Fails}
use Rattle.byte_layout.specs.Whole.{read_all}
use Rattle.byte_layout.specs.Exact.{IsBytes}
use Rattle.byte_layout.specs.declared.fault.LayoutFault.{LayoutFault}
use Rattle.byte_layout.proofs.Whole.{whole_taken, found_only, found_sound}
use Rattle.byte_layout.proofs.Steps.{bind_ok, ok_is, went_well}
use Rattle.scenario_layout.specs.Class.{class}
use Rattle.scenario_image.specs.Layout.{rows}
use Rattle.scenario_image.specs.Scenario.{Scenario, no_class}
use Rattle.scenario_image.specs.Image.{classes, lists, behind_classes, version, in_version, after_header, image, front}
use Rattle.scenario_image.specs.Image.{IsImage, IsImageIn, HasImageFault}
use Rattle.scenario_image.proofs.Imaged.{image_exact}
use Rattle.scenario_image.proofs.Fronts.{front_exact}

in_version_on : {A B : Type 0} (p : ℕ → Layout A) (q : ℕ → Layout B) (v w : ℕ) (bytes r s : List ℕ) (a : A) (b : B)
    → ((p v).read bytes ≡ Ok (a, r) → (q v).read bytes ≡ Ok (b, s))
    → (in_version p v).read bytes ≡ Ok ((w, a), r) → (in_version q v).read bytes ≡ Ok ((w, b), s)
in_version_on {A} {B} p q v w bytes r s a b within e =
    let u = bind_ok ((p v).read bytes) (λ (x : A × List ℕ). Ok ((v, x.0), x.1)) ((w, a), r) e in
    let same : ((v, u.0.0), u.0.1) ≡ ((w, a), r) = ok_is _ _ u.2 in
    let first : v ≡ w = ap (λ x. x.0.0) same in
    let value : u.0 ≡ (a, r) = ap (λ x. (x.0.1, x.1)) same in
    ap (λ y. y >>= (λ (x : B × List ℕ). Ok ((v, x.0), x.1))) (within (u.1 ∙ ap (λ x. Ok x) value))
    ∙ ap (λ n. Ok ((n, b), s)) first

headed_on : {A B : Type 0} (p : ℕ → Layout A) (q : ℕ → Layout B) (v : ℕ) (bytes r s : List ℕ) (a : A) (b : B)
    → ((w : ℕ) (t : List ℕ) → (p w).read t ≡ Ok (a, r) → (q w).read t ≡ Ok (b, s))
    → (after_header p).read bytes ≡ Ok ((v, a), r) → (after_header q).read bytes ≡ Ok ((v, b), s)
headed_on p q v bytes r s a b within e =
    let first = mark Magic 0x4C575343 (number w32) in
    let third = λ (y : ℕ × List ℕ). (in_version q y.0).read y.1 in
    let other = λ (x : ℕ × List ℕ). version.read x.1 >>= third in
    let m = bind_ok (first.read bytes) (λ x. version.read x.1 >>= (λ y. (in_version p y.0).read y.1)) ((v, a), r) e in
    let t = bind_ok (version.read m.0.1) (λ y. (in_version p y.0).read y.1) ((v, a), r) m.2 in
    ap (λ x. x >>= other) m.1 ∙ ap (λ x. x >>= third) t.1
    ∙ in_version_on p q t.0.0 v t.0.1 r s a b (within t.0.0 t.0.1) t.2

no_rows_read : (rows []).read (0 ∷ 0 ∷ []) ≡ Ok ([], [])
unfolding rows each number
no_rows_read = refl

lists_none : (v : ℕ) (t : List ℕ) → (at_most 256 (number w16)).read t ≡ Ok (0, 0 ∷ 0 ∷ [])
    → (lists v).read t ≡ Ok (no_class, [])
unfolding lists classes each
lists_none v t e =
    ap (λ r. r >>= (λ x. (each (λ before. class v) x.0 []).read x.1) >>= (λ x. (behind_classes x.0).read x.1)) e
    ∙ ap (λ r. r >>= (λ x. Ok (record { classes = []; rows = x.0 }, x.1))) no_rows_read

-- a front without a class, and a count of no rows after it, are all of that image
pub none_read : (v : ℕ) (bytes : List ℕ) → front.read bytes ≡ Ok ((v, 0), 0 ∷ 0 ∷ [])
    → read_all image bytes ≡ Ok (v, no_class)
unfolding image front
none_read v bytes e =
    let ended : (ℕ × Scenario) × List ℕ → Result (ℕ × Scenario) Break =
    λ x. if eqb (length x.1) 0 then Ok x.0 else Err Trailing in
    ap (λ r. r >>= ended)
    (headed_on (λ v. at_most 256 (number w16)) lists v bytes (0 ∷ 0 ∷ []) [] 0 no_class lists_none e)

none_good : (at_most 256 (number w16)).Good 0
unfolding number
none_good = (omega arith, refl)

headed_good : {A B : Type 0} (p : ℕ → Layout A) (q : ℕ → Layout B) (v : ℕ) (a : A) (b : B)
    → (after_header p).Good (v, a)
    → (q v).Good b → (after_header q).Good (v, b)
headed_good p q v a b g h = (g.0, (g.1.0, (h, refl)))

regrouped : (m v l c r : List ℕ) → l ≡ c ++ r → m ++ (v ++ (l ++ [])) ≡ (m ++ (v ++ (c ++ []))) ++ r
regrouped m v l c r e =
    ap (λ x. m ++ (v ++ x)) (append-nil l ∙ e ∙ ap (λ x. x ++ r) (sym (append-nil c)))
    ∙ ap (λ x. m ++ x) (sym (append_assoc v (c ++ []) r)) ∙ sym (append_assoc m (v ++ (c ++ [])) r)

lists_spelled : (v : ℕ) → (lists v).spell no_class ≡ (at_most 256 (number w16)).spell 0 ++ 0 ∷ 0 ∷ []
unfolding lists classes rows each number
lists_spelled v = refl

headed_spelled : {A B : Type 0} (p : ℕ → Layout A) (q : ℕ → Layout B) (v : ℕ) (a : A) (b : B) (r : List ℕ)
    → (p v).spell a ≡ (q v).spell b ++ r → (after_header p).spell (v, a) ≡ (after_header q).spell (v, b) ++ r
headed_spelled p q v a b r e =
    regrouped ((mark Magic 0x4C575343 (number w32)).spell 0x4C575343) (version.spell v) ((p v).spell a)
    ((q v).spell b) r e

-- and the other way round
pub front_of_none : (v : ℕ) (bytes : List ℕ) → IsImageIn v bytes no_class
    → front.read bytes ≡ Ok ((v, 0), 0 ∷ 0 ∷ [])
unfolding image front
front_of_none v bytes h =
    let part : ℕ → Layout ℕ = λ v. at_most 256 (number w16) in
    ap (after_header part).read (h.1 ∙ headed_spelled lists part v no_class 0 (0 ∷ 0 ∷ []) (lists_spelled v))
    ∙ front_exact.again (v, 0) (0 ∷ 0 ∷ []) (headed_good lists part v no_class 0 h.0 none_good)

-- ---- what was read of a front, and what stands after it

none_front : (bytes rest : List ℕ) (x : ℕ × ℕ) → front.read bytes ≡ Ok (x, rest) → x.1 ≡ 0 → rest ≡ 0 ∷ 0 ∷ []
    → read_all image bytes ≡ Ok (x.0, no_class)
none_front bytes rest x e none after =
    none_read x.0 bytes (e ∙ ap (λ n. Ok ((x.0, n), rest)) none ∙ ap (λ r. Ok ((x.0, 0), r)) after)

pub none_found : (bytes rest : List ℕ) (x : ℕ × ℕ) → IsBytes bytes → front.read bytes ≡ Ok (x, rest) → x.1 ≡ 0
    → rest ≡ 0 ∷ 0 ∷ [] → IsImage bytes no_class
none_found bytes rest x fits e none after =
    (x.0, whole_taken image image_exact bytes fits (x.0, no_class) (none_front bytes rest x e none after))

pub none_only : (bytes rest : List ℕ) (x : ℕ × ℕ) (s : Scenario) → front.read bytes ≡ Ok (x, rest) → x.1 ≡ 0
    → rest ≡ 0 ∷ 0 ∷ [] → IsImage bytes s → no_class ≡ s
none_only bytes rest x s e none after h =
    ap (λ (y : ℕ × Scenario). y.1)
    (found_only image image_exact bytes (x.0, no_class) (h.0, s) (none_front bytes rest x e none after) h.1)

pub none_sound : (bytes rest : List ℕ) (x : ℕ × ℕ) (f : LayoutFault) → front.read bytes ≡ Ok (x, rest) → x.1 ≡ 0
    → rest ≡ 0 ∷ 0 ∷ [] → HasImageFault bytes f → ⊥
none_sound bytes rest x f e none after h =
    found_sound image image_exact bytes (x.0, no_class) f (none_front bytes rest x e none after) h

pub none_fails : (bytes : List ℕ) (e : ReadError) → e ≢ errors.Memory → Fails e (front.read bytes)
    → IsImage bytes no_class → ⊥
none_fails bytes errors.Memory other h k = other refl
none_fails bytes (errors.Fault b) other h k =
    went_well ((k.0, 0), 0 ∷ 0 ∷ []) b (sym (front_of_none k.0 bytes k.1) ∙ h)

pub none_stands : (bytes rest : List ℕ) (x : ℕ × ℕ) → front.read bytes ≡ Ok (x, rest) → IsImage bytes no_class
    → (x.1 ≡ 0) × (rest ≡ 0 ∷ 0 ∷ [])
none_stands bytes rest x e k =
    let same : (x, rest) ≡ ((k.0, 0), 0 ∷ 0 ∷ []) = ok_is _ _ (sym e ∙ front_of_none k.0 bytes k.1) in
    (ap (λ y. y.0.1) same, ap (λ y. y.1) same)
