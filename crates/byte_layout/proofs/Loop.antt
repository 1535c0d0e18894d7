-- Items read one after another, as a loop does.
use Rattle.std.proofs.Common.{◌≡◌, ℕ, suc, ◌-◌, ◌+◌, ◌≤◌, ◌<◌, List, [], ◌∷◌, ◌++◌, Result, Ok, Err, refl, sym, ap, ◌∙◌}
use Rattle.std.proofs.Common.{append_assoc, arith}
use Rattle.std.proofs.lemmas.List.{append-nil}
use Rattle.byte_layout.specs.declared.fault.Break.{Break}
use Rattle.byte_layout.specs.declared.fault.ReadError.{ReadError}
use Rattle.byte_layout.specs.declared.fault.ReadError.TheVariants as errors
use Rattle.byte_layout.specs.Layout.{Layout, ◌>>=◌, each}
use Rattle.byte_layout.specs.Outcome.{Fails}

-- what was read before, and what is still read
abbrev pub with_front : {A : Type 0} → List A → Result (List A × List ℕ) Break → Result (List A × List ℕ) Break
with_front front r = r >>= λ x. Ok (front ++ x.0, x.1)

-- after the items of front, this many are left; the bytes are those of the rest, and total is what all of them give
abbrev pub IsLeft : {A : Type 0} → (List A → Layout A) → List A → ℕ → List ℕ → Result (List A × List ℕ) Break → Type 0
IsLeft part front left bytes total = with_front front ((each part left front).read bytes) ≡ total

regroup : {A : Type 0} (front : List A) (a : A) (r : Result (List A × List ℕ) Break)
    → with_front front (r >>= λ x. Ok (a ∷ x.0, x.1)) ≡ with_front (front ++ a ∷ []) r
regroup {A = A} front a (Ok x) = ap (λ (xs : List A). Ok (xs, x.1)) (sym (append_assoc front (a ∷ []) x.0))
regroup front a (Err b) = refl

no_front : {A : Type 0} (r : Result (List A × List ℕ) Break) → with_front [] r ≡ r
no_front (Ok x) = refl
no_front (Err b) = refl

-- at the loop's start
pub starts : {A : Type 0} (part : List A → Layout A) (count : ℕ) (bytes : List ℕ)
    → IsLeft part [] (count - 0) bytes ((each part count []).read bytes)
starts part count bytes = let k : count - 0 ≡ count =
    omega arith in ap (λ n. with_front [] ((each part n []).read bytes)) k ∙ no_front ((each part count []).read bytes)

-- an item was read
pub goes_on : {A : Type 0} (part : List A → Layout A) (front : List A) (count i : ℕ) (bytes : List ℕ) (a : A)
    (after : List ℕ) (total : Result (List A × List ℕ) Break) (before : List A) → before ≡ front → i < count
    → (part before).read bytes ≡ Ok (a, after)
    → IsLeft part front (count - i) bytes total → IsLeft part (front ++ a ∷ []) (count - (i + 1)) after total
unfolding each
goes_on part front count i bytes a after total before same lt h so_far =
    let k : count - i ≡ suc (count - (i + 1)) = omega arith in
    let here : (part front).read bytes ≡ Ok (a, after) = ap (λ xs. (part xs).read bytes) (sym same) ∙ h in
    let one : with_front front ((each part (count - i) front).read bytes)
    ≡ with_front (front ++ a ∷ []) ((each part (count - (i + 1)) (front ++ a ∷ [])).read after) =
    rw (k, here) (regroup front a ((each part (count - (i + 1)) (front ++ a ∷ [])).read after))
    in
    sym one ∙ so_far

-- an item was not read
pub ends : {A : Type 0} (part : List A → Layout A) (e : ReadError) (front : List A) (count i : ℕ) (bytes : List ℕ)
    (total : Result (List A × List ℕ) Break) (before : List A) → before ≡ front → i < count
    → Fails e ((part before).read bytes)
    → IsLeft part front (count - i) bytes total → Fails e total
unfolding each
ends part errors.Memory front count i bytes total before same lt h so_far = tt
ends part (errors.Fault b) front count i bytes total before same lt h so_far =
    let k : count - i ≡ suc (count - (i + 1)) = omega arith in
    let here : (part front).read bytes ≡ Err b = ap (λ xs. (part xs).read bytes) (sym same) ∙ h in
    let one : with_front front ((each part (count - i) front).read bytes) ≡ Err b = rw (k, here) refl in
    sym so_far ∙ one

-- none is left
pub is_done : {A : Type 0} (part : List A → Layout A) (front : List A) (count i : ℕ) (bytes : List ℕ)
    (total : Result (List A × List ℕ) Break) → count ≤ i → IsLeft part front (count - i) bytes total
    → total ≡ Ok (front, bytes)
unfolding each
is_done part front count i bytes total le so_far =
    let k : count - i ≡ 0 = omega arith in
    let one : with_front front ((each part (count - i) front).read bytes) ≡ Ok (front, bytes) =
    rw k (ap (λ xs. Ok (xs, bytes)) (append-nil front)) in
    sym so_far ∙ one
