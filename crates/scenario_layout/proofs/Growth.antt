-- Items read one after another into what holds those before them.
use Rattle.std.proofs.Common.{◌≡◌, ℕ, ◌-◌, ◌+◌, ◌<◌, ◌≤◌, List, [], ◌∷◌, ◌++◌, Result, Ok, Err, refl, sym, ap, subst}
use Rattle.std.proofs.Common.{◌∙◌}
use Rattle.byte_layout.specs.declared.fault.Break.{Break}
use Rattle.byte_layout.specs.declared.fault.ReadError.{ReadError}
use Rattle.byte_layout.specs.declared.fault.ReadError.TheVariants as errors
use Rattle.byte_layout.specs.Layout.{Layout, each}
use Rattle.byte_layout.specs.Outcome.{Fails}
use Rattle.byte_layout.proofs.Loop.{IsLeft, starts, goes_on, ends, is_done}
use Rattle.device_template.specs.Template.{Template}
use Rattle.scenario_layout.specs.Growing.{items_with_next}

-- what was read after the others
grown_ok : {A : Type 0} (before : List A) (r : Result (A × List ℕ) Break) (after : List A) (rest : List ℕ)
    → items_with_next before r ≡ Ok (after, rest) → (a : A) × (r ≡ Ok (a, rest)) × (after ≡ before ++ a ∷ [])
grown_ok {A} before (Ok x) after rest e =
    let same : ◌≡◌ {A = List A × List ℕ} (before ++ x.0 ∷ [], x.1) (after, rest) = cc in
    (x.0, ap (λ (s : List A × List ℕ). Ok (x.0, s.1)) same, sym (ap (λ (s : List A × List ℕ). s.0) same))
grown_ok before (Err b) after rest e = absurd cc

grown_fails : {A : Type 0} (before : List A) (e : ReadError) (r : Result (A × List ℕ) Break)
    → Fails e (items_with_next before r)
    → Fails e r
grown_fails before errors.Memory r h = tt
grown_fails before (errors.Fault b) (Ok x) h = absurd cc
grown_fails before (errors.Fault b) (Err c) h = let same : b ≡ c = cc in ap (λ x. Err x) (sym same)

-- an item was read
pub grows_on : {A : Type 0} (part : List A → Layout A) (front after : List A) (count i : ℕ) (bytes rest : List ℕ)
    (total : Result (List A × List ℕ) Break) → i < count
    → items_with_next front ((part front).read bytes) ≡ Ok (after, rest)
    → IsLeft part front (count - i) bytes total → IsLeft part after (count - (i + 1)) rest total
grows_on {A} part front after count i bytes rest total lt h so_far =
    let g = grown_ok front ((part front).read bytes) after rest h in
    subst (λ (xs : List A). IsLeft part xs (count - (i + 1)) rest total) (sym g.2)
    (goes_on part front count i bytes g.0 rest total front refl lt g.1 so_far)

-- an item was not read
pub grows_no_more : {A : Type 0} (part : List A → Layout A) (e : ReadError) (front : List A) (count i : ℕ)
    (bytes : List ℕ) (total : Result (List A × List ℕ) Break) → i < count
    → Fails e (items_with_next front ((part front).read bytes))
    → IsLeft part front (count - i) bytes total → Fails e total
grows_no_more part e front count i bytes total lt h so_far =
    ends part e front count i bytes total front refl lt (grown_fails front e ((part front).read bytes) h) so_far

-- ---- a class into which items are read, in a loop

module _ {A : Type 0} (part : Template → List A → Layout A) (items : Template → List A)
    (put : Template → List A → Template) where
  -- after the items that the class t has more than c, this many are left
  abbrev pub IsFilled : Template → Template → ℕ → List ℕ → Result (List A × List ℕ) Break → Type 0
  IsFilled c t left bytes total = IsLeft (part c) (items t) left bytes total × (t ≡ put c (items t))

  pub filled_starts : (c : Template) (count : ℕ) (bytes : List ℕ) → items c ≡ [] → c ≡ put c (items c)
      → IsFilled c c (count - 0) bytes ((each (part c) count []).read bytes)
  filled_starts c count bytes none itself = (
    subst (λ (xs : List A). IsLeft (part c) xs (count - 0) bytes ((each (part c) count []).read bytes)) (sym none)
        (starts (part c) count bytes),
    itself,
  )

  pub filled_done : (c t : Template) (count i : ℕ) (bytes : List ℕ) (total : Result (List A × List ℕ) Break) → count ≤ i
      → IsFilled c t (count - i) bytes total → total ≡ Ok (items t, bytes)
  filled_done c t count i bytes total le h = is_done (part c) (items t) count i bytes total le h.0

  module _ (same : (c : Template) (xs before : List A) → part (put c xs) before ≡ part c before)
      (twice : (c : Template) (xs ys : List A) → put (put c xs) ys ≡ put c ys) where
    part_of : (c t : Template) → t ≡ put c (items t) → (before : List A) → part t before ≡ part c before
    part_of c t e before = ap (λ k. part k before) e ∙ same c (items t) before

    pub filled_on : (c t u : Template) (count i : ℕ) (bytes rest : List ℕ) (total : Result (List A × List ℕ) Break)
        → i < count → items_with_next (items t) ((part t (items t)).read bytes) ≡ Ok (items u, rest)
        → u ≡ put t (items u)
        → IsFilled c t (count - i) bytes total → IsFilled c u (count - (i + 1)) rest total
    filled_on c t u count i bytes rest total lt read made h = (
      grows_on (part c) (items t) (items u) count i bytes rest total lt
          (ap (λ (p : Layout A). items_with_next (items t) (p.read bytes)) (sym (part_of c t h.1 (items t))) ∙ read)
          h.0,
      made ∙ ap (λ k. put k (items u)) h.1 ∙ twice c (items t) (items u),
    )

    pub filled_no_more : (c t : Template) (e : ReadError) (count i : ℕ) (bytes : List ℕ)
        (total : Result (List A × List ℕ) Break) → i < count
        → Fails e (items_with_next (items t) ((part t (items t)).read bytes))
        → IsFilled c t (count - i) bytes total → Fails e total
    filled_no_more c t e count i bytes total lt read h =
        grows_no_more (part c) e (items t) count i bytes total lt
        (subst (λ (p : Layout A). Fails e (items_with_next (items t) (p.read bytes))) (part_of c t h.1 (items t)) read)
        h.0
