-- The front of an image: what breaks off there breaks off the image.
use Rattle.std.proofs.Common.{◌≡◌, ◌≢◌, ℕ, List, [], length, Result, Ok, Err, refl, sym, ap, ◌∙◌, eqb, inl, inr}
use Rattle.std.proofs.Common.{if◌then◌else◌}
use Rattle.std.specs.Int.{w16, w32}
use Rattle.byte_layout.specs.declared.fault.Break.{Break}
use Rattle.byte_layout.specs.declared.fault.Break.TheVariants.{Magic, Trailing}
use Rattle.byte_layout.specs.declared.fault.ReadError.{ReadError}
use Rattle.byte_layout.specs.declared.fault.ReadError.TheVariants as errors
use Rattle.byte_layout.specs.Layout.{Layout, ◌>>=◌, number, at_most, mark, each}
use Rattle.byte_layout.specs.Outcome.{Fails}
use Rattle.byte_layout.specs.Exact.{IsExact}
use Rattle.byte_layout.specs.Whole.{fault_of_break, fault_of, read_all}
use Rattle.byte_layout.proofs.Steps.{went_well, bind_err}
use Rattle.byte_layout.proofs.Layouts.{at_most_exact}
use Rattle.byte_layout.proofs.Fields.{short_exact}
use Rattle.scenario_layout.specs.Class.{class}
use Rattle.scenario_image.specs.Scenario.{Scenario}
use Rattle.scenario_image.proofs.Imaged.{headed_exact}
use Rattle.scenario_image.specs.Image.{classes, lists, behind_classes, version, in_version, after_header, image, front}

in_version_off : {A B : Type 0} (p : ℕ → Layout A) (q : ℕ → Layout B) (v : ℕ) (rest : List ℕ) (b : Break)
    → ((p v).read rest ≡ Err b → (q v).read rest ≡ Err b) → (in_version p v).read rest ≡ Err b
    → (in_version q v).read rest ≡ Err b
in_version_off {A} {B} p q v rest b within e =
    elim (bind_err ((p v).read rest) (λ (x : A × List ℕ). Ok ((v, x.0), x.1)) b e) [
      | inl h ↦ ap (λ r. r >>= (λ (x : B × List ℕ). Ok ((v, x.0), x.1))) (within h)
      | inr s ↦ absurd (went_well ((v, s.0.0), s.0.1) b s.2)
    ]

-- a break of the mark, of the version or of the part is one of each part that has its breaks
headed_off : {A B : Type 0} (p : ℕ → Layout A) (q : ℕ → Layout B) (bytes : List ℕ) (b : Break)
    → ((v : ℕ) (rest : List ℕ) → (p v).read rest ≡ Err b → (q v).read rest ≡ Err b)
    → (after_header p).read bytes ≡ Err b
    → (after_header q).read bytes ≡ Err b
headed_off p q bytes b within e =
    let first = mark Magic 0x4C575343 (number w32) in
    let third = λ (y : ℕ × List ℕ). (in_version q y.0).read y.1 in
    let other = λ (x : ℕ × List ℕ). version.read x.1 >>= third in
    elim (bind_err (first.read bytes) (λ x. version.read x.1 >>= (λ y. (in_version p y.0).read y.1)) b e) [
      | inl h ↦ ap (λ r. r >>= other) h
      | inr s ↦
          elim (bind_err (version.read s.0.1) (λ y. (in_version p y.0).read y.1) b s.2) [
            | inl h ↦ ap (λ r. r >>= other) s.1 ∙ ap (λ r. r >>= third) h
            | inr t ↦
                ap (λ r. r >>= other) s.1 ∙ ap (λ r. r >>= third) t.1
                ∙ in_version_off p q t.0.0 t.0.1 b (within t.0.0 t.0.1) t.2
          ]
    ]

lists_off : (v : ℕ) (rest : List ℕ) (b : Break) → (at_most 256 (number w16)).read rest ≡ Err b
    → (lists v).read rest ≡ Err b
unfolding lists classes
lists_off v rest b e =
    ap (λ r. r >>= (λ x. (each (λ before. class v) x.0 []).read x.1) >>= (λ x. (behind_classes x.0).read x.1)) e

image_off : (bytes : List ℕ) (b : Break) → front.read bytes ≡ Err b → image.read bytes ≡ Err b
unfolding image front
image_off bytes b e =
    headed_off (λ v. at_most 256 (number w16)) lists bytes b (λ v rest h. lists_off v rest b h) e

pub front_exact : IsExact front
unfolding front
front_exact =
    headed_exact (λ v. at_most 256 (number w16)) (λ v. at_most_exact 256 (number w16) short_exact)

-- what ends the reading of the front ends that of the image
pub front_fails : (bytes : List ℕ) (e : ReadError) → Fails e (front.read bytes) → Fails e (read_all image bytes)
front_fails bytes errors.Memory h = tt
front_fails bytes (errors.Fault b) h =
    let ended : (ℕ × Scenario) × List ℕ → Result (ℕ × Scenario) Break =
    λ x. if eqb (length x.1) 0 then Ok x.0 else Err Trailing in
    ap (λ r. r >>= ended) (image_off bytes b h)

-- it is the break of the front, unless memory ran out
pub front_broke : (bytes : List ℕ) (total : ℕ) (e : ReadError) (b : Break) → e ≢ errors.Memory
    → Fails e (front.read bytes) → front.Breaks bytes b → fault_of total e ≡ fault_of_break total b
front_broke bytes total errors.Memory b other h k = absurd (other refl)
front_broke bytes total (errors.Fault c) b other h k = let e =
    front_exact.refused bytes b k in ap (fault_of_break total) cc

-- a front that is read does not break off
pub front_whole : (bytes rest : List ℕ) (count : ℕ × ℕ) (b : Break) → front.read bytes ≡ Ok (count, rest)
    → front.Breaks bytes b → ⊥
front_whole bytes rest count b e k = went_well (count, rest) b (sym e ∙ front_exact.refused bytes b k)
