-- All of the bytes: what follows for a format from its exactness.
use Rattle.std.proofs.Common.{◌≡◌, ◌≢◌, ◌≤◌, ℕ, suc, ◌⊎◌, cond, eqb, List, [], ◌∷◌, ◌++◌, length, Result, Ok, Err, refl}
use Rattle.std.proofs.Common.{sym, ap, subst, ◌∙◌, inl, inr, arith}
use Rattle.std.proofs.lemmas.Bool.{eqb-true, ne_eqb}
use Rattle.std.proofs.lemmas.List.{append-nil, nil_from_length}
use Rattle.byte_layout.specs.declared.fault.Break.{Break}
use Rattle.byte_layout.specs.declared.fault.Break.TheVariants.{Trailing}
use Rattle.byte_layout.specs.declared.fault.LayoutFault.{LayoutFault}
use Rattle.byte_layout.specs.declared.fault.LayoutFault.TheVariants as faults
use Rattle.byte_layout.specs.declared.fault.ReadError.{ReadError}
use Rattle.byte_layout.specs.declared.fault.ReadError.TheVariants as errors
use Rattle.byte_layout.specs.Layout.{Layout, ◌>>=◌}
use Rattle.byte_layout.specs.Whole.{IsAll, BreaksOff, HasFault, fault_of_break, fault_of, read_all}
use Rattle.byte_layout.specs.Outcome.{Fails}
use Rattle.byte_layout.specs.Exact.{IsBytes, IsExact, left_of}
use Rattle.byte_layout.proofs.Steps.{ok_is, went_well, bind_ok, bind_err, guard_ok, guard_err}

-- a reading of this part that broke off
abbrev broke : {A : Type 0} → Layout A → Break → Result A Break
broke p b = Err b

err_is : {A : Type 0} (p : Layout A) (b c : Break) → broke p b ≡ broke p c → b ≡ c
err_is p b c e = cc

-- nothing may stand after the value
abbrev ended : {A : Type 0} → A × List ℕ → Result A Break
ended x = cond (eqb (length x.1) 0) (Ok x.0) (Err Trailing)

-- what is read is a valid value, and the bytes are its spelling
pub whole_taken : {A : Type 0} (p : Layout A) → IsExact p → (bytes : List ℕ) → IsBytes bytes → (a : A)
    → read_all p bytes ≡ Ok a → IsAll p bytes a
whole_taken {A = A} p exact bytes fits a e =
    let s = bind_ok (p.read bytes) ended a e in
    let g = guard_ok (eqb (length s.0.1) 0) Trailing s.0.0 a s.2 in
    let t = exact.taken bytes fits s.0.0 s.0.1 s.1 in
    let none : s.0.1 ≡ [] = nil_from_length s.0.1 (eqb-true (length s.0.1) 0 g.0) in
    subst (λ (x : A). IsAll p bytes x) g.1 (t.0, t.1 ∙ ap (λ r. p.spell s.0.0 ++ r) none ∙ append-nil (p.spell s.0.0))

-- the spelling of a valid value is read
pub whole_again : {A : Type 0} (p : Layout A) → IsExact p → (bytes : List ℕ) (a : A) → IsAll p bytes a
    → read_all p bytes ≡ Ok a
whole_again p exact bytes a h =
    ap (λ t. p.read t >>= ended) (h.1 ∙ sym (append-nil (p.spell a))) ∙ ap (λ r. r >>= ended) (exact.again a [] h.0)

-- a reading that ends with a break ends with that of the bytes
pub whole_broken : {A : Type 0} (p : Layout A) → IsExact p → (bytes : List ℕ) → IsBytes bytes → (b : Break)
    → read_all p bytes ≡ Err b → BreaksOff p bytes b
whole_broken {A = A} p exact bytes fits b e =
    elim (bind_err (p.read bytes) ended b e) [
      | inl h ↦ inl (exact.broken bytes fits b h)
      | inr s ↦ more s.0.1 s.0.0 (exact.taken bytes fits s.0.0 s.0.1 s.1) s.2
    ]
  where
    more : (rest : List ℕ) (a : A) → p.Good a × (bytes ≡ p.spell a ++ rest) → ended (a, rest) ≡ Err b
        → BreaksOff p bytes b
    more [] a t e = absurd cc
    more (first ∷ rest) a t e =
        inr (a, first, rest, t.0, t.1, (guard_err (eqb (length (first ∷ rest)) 0) Trailing b a e).1)

-- bytes that break off are read up to there
pub whole_refused : {A : Type 0} (p : Layout A) → IsExact p → (bytes : List ℕ) (b : Break) → BreaksOff p bytes b
    → read_all p bytes ≡ Err b
whole_refused p exact bytes b h =
    elim h [
      | inl k ↦ ap (λ r. r >>= ended) (exact.refused bytes b k)
      | inr k ↦ ap (λ t. p.read t >>= ended) k.4 ∙ ap (λ r. r >>= ended) (exact.again k.0 (k.1 ∷ k.2) k.3)
          ∙ ap (λ t. cond t (Ok k.0) (Err Trailing)) (ne_eqb (suc (length k.2)) 0 (omega arith))
          ∙ ap (λ c. Err c) (sym k.5)
    ]

pub one_value : {A : Type 0} (p : Layout A) → IsExact p → (bytes : List ℕ) (a b : A) → IsAll p bytes a → IsAll p bytes b
    → a ≡ b
one_value p exact bytes a b h k = ok_is a b (sym (whole_again p exact bytes a h) ∙ whole_again p exact bytes b k)

pub one_break : {A : Type 0} (p : Layout A) → IsExact p → (bytes : List ℕ) (b c : Break) → BreaksOff p bytes b
    → BreaksOff p bytes c → b ≡ c
one_break p exact bytes b c h k =
    let x = whole_refused p exact bytes b h in
    let y = whole_refused p exact bytes c k in
    cc

pub one_fault : {A : Type 0} (p : Layout A) → IsExact p → (bytes : List ℕ) (f g : LayoutFault) → HasFault p bytes f
    → HasFault p bytes g → f ≡ g
one_fault p exact bytes f g h k =
    h.2 ∙ ap (fault_of_break (length bytes)) (one_break p exact bytes h.0 k.0 h.1 k.1) ∙ sym k.2

pub never_both : {A : Type 0} (p : Layout A) → IsExact p → (bytes : List ℕ) (a : A) (f : LayoutFault) → IsAll p bytes a
    → HasFault p bytes f → ⊥
never_both p exact bytes a f h k =
    went_well a k.0 (sym (whole_again p exact bytes a h) ∙ whole_refused p exact bytes k.0 k.1)

-- what was read is the value whose bytes these are
pub found_only : {A : Type 0} (p : Layout A) → IsExact p → (bytes : List ℕ) (v a : A) → read_all p bytes ≡ Ok v
    → IsAll p bytes a → v ≡ a
found_only p exact bytes v a e h = ok_is v a (sym e ∙ whole_again p exact bytes a h)

pub found_sound : {A : Type 0} (p : Layout A) → IsExact p → (bytes : List ℕ) (v : A) (f : LayoutFault)
    → read_all p bytes ≡ Ok v → HasFault p bytes f → ⊥
found_sound p exact bytes v f e h = went_well v h.0 (sym e ∙ whole_refused p exact bytes h.0 h.1)

-- where bytes are a value's, an error is a lack of memory
pub failed_only : {A : Type 0} (p : Layout A) → IsExact p → (bytes : List ℕ) (total : ℕ) (e : ReadError) (a : A)
    → Fails e (read_all p bytes) → IsAll p bytes a → fault_of total e ≡ faults.Memory
failed_only p exact bytes total errors.Memory a h k = refl
failed_only p exact bytes total (errors.Fault b) a h k =
    absurd (went_well a b (sym (whole_again p exact bytes a k) ∙ h))

pub failed_fault : {A : Type 0} (p : Layout A) → IsExact p → (bytes : List ℕ) → IsBytes bytes → (e : ReadError)
    → Fails e (read_all p bytes) → fault_of (length bytes) e ≢ faults.Memory
    → HasFault p bytes (fault_of (length bytes) e)
failed_fault p exact bytes fits errors.Memory h other = absurd (other refl)
failed_fault p exact bytes fits (errors.Fault b) h other = (b, whole_broken p exact bytes fits b h, refl)

pub failed_refused : {A : Type 0} (p : Layout A) → IsExact p → (bytes : List ℕ) (e : ReadError) (f : LayoutFault)
    → Fails e (read_all p bytes) → HasFault p bytes f → fault_of (length bytes) e ≢ faults.Memory
    → fault_of (length bytes) e ≡ f
failed_refused p exact bytes errors.Memory f h k other = absurd (other refl)
failed_refused p exact bytes (errors.Fault b) f h k other =
    ap (fault_of_break (length bytes)) (err_is p b k.0 (sym h ∙ whole_refused p exact bytes k.0 k.1)) ∙ sym k.2

-- no break of all of the bytes says that more are left than there are
pub whole_within : {A : Type 0} (p : Layout A) → IsExact p → (bytes : List ℕ) (b : Break) → BreaksOff p bytes b
    → left_of b ≤ length bytes
whole_within p exact bytes b h =
    elim h [
      | inl k ↦ exact.within bytes b k
      | inr k ↦ rw k.5 (omega arith)
    ]

-- bytes are a value's or have a fault
pub either : {A : Type 0} (p : Layout A) → IsExact p → (bytes : List ℕ) → IsBytes bytes → ((a : A) × IsAll p bytes a)
    ⊎ ((f : LayoutFault) × HasFault p bytes f)
either {A = A} p exact bytes fits = told (read_all p bytes) refl
  where
    told : (r : Result A Break) → read_all p bytes ≡ r → ((a : A) × IsAll p bytes a)
        ⊎ ((f : LayoutFault) × HasFault p bytes f)
    told (Ok a) e = inl (a, whole_taken p exact bytes fits a e)
    told (Err b) e = inr (fault_of_break (length bytes) b, (b, whole_broken p exact bytes fits b e, refl))
