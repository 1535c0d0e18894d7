-- One reading after another, taken apart; and lists of bytes.
use Rattle.std.proofs.Common.{◌≡◌, ℕ, zero, suc, ◌+◌, ◌⊎◌, Bool, true, false, cond, List, [], ◌∷◌, ◌++◌, take, drop}
use Rattle.std.proofs.Common.{Result, Ok, Err, refl, arith, inl, inr}
use Rattle.std.proofs.lemmas.Bool.{cases_lt}
use Rattle.std.proofs.lemmas.List.{get_or-drop, get_or-take, get_or_past, length-take}
use Rattle.byte_layout.specs.declared.fault.Break.{Break}
use Rattle.byte_layout.specs.Layout.{◌>>=◌}
use Rattle.byte_layout.specs.Exact.{IsBytes}

-- a reading that went well
abbrev went : {A : Type 0} → A → Result A Break
went x = Ok x

pub ok_is : {A : Type 0} (x y : A) → went x ≡ went y → x ≡ y
ok_is x y e = cc

pub went_well : {A : Type 0} (x : A) (b : Break) → went x ≡ Err b → ⊥
went_well x b e = cc

-- the value of a step that did not break off
pub bind_ok : {A B : Type 0} (r : Result A Break) (f : A → Result B Break) (y : B) → (r >>= f) ≡ Ok y → (x : A)
    × (r ≡ Ok x) × (f x ≡ Ok y)
bind_ok (Ok x) f y e = (x, refl, e)
bind_ok (Err b) f y e = absurd cc

-- the step that broke off
pub bind_err : {A B : Type 0} (r : Result A Break) (f : A → Result B Break) (b : Break) → (r >>= f) ≡ Err b
    → (r ≡ Err b) ⊎ ((x : A) × (r ≡ Ok x) × (f x ≡ Err b))
bind_err (Ok x) f b e = inr (x, refl, e)
bind_err (Err c) f b e = inl cc

-- a test that must fail for a reading to go on
pub barred_ok : {A : Type 0} (t : Bool) (b : Break) (x y : A) → cond t (Err b) (Ok x) ≡ Ok y → (t ≡ false) × (x ≡ y)
barred_ok true b x y e = absurd cc
barred_ok false b x y e = (refl, cc)

pub barred_err : {A : Type 0} (t : Bool) (b c : Break) (x : A) → cond t (Err b) (Ok x) ≡ Err c → (t ≡ true) × (c ≡ b)
barred_err true b c x e = (refl, cc)
barred_err false b c x e = absurd cc

-- a test that must hold for a reading to go on
pub guard_ok : {A : Type 0} (t : Bool) (b : Break) (x y : A) → cond t (Ok x) (Err b) ≡ Ok y → (t ≡ true) × (x ≡ y)
guard_ok true b x y e = (refl, cc)
guard_ok false b x y e = absurd cc

pub guard_err : {A : Type 0} (t : Bool) (b c : Break) (x : A) → cond t (Ok x) (Err b) ≡ Err c → (t ≡ false) × (c ≡ b)
guard_err true b c x e = absurd cc
guard_err false b c x e = (refl, cc)

-- what stands after a front of bytes is bytes
pub behind_front : (front rest : List ℕ) → IsBytes (front ++ rest) → IsBytes rest
behind_front [] rest fits = fits
behind_front (b ∷ front) rest fits = behind_front front rest (λ i. fits (suc i))

pub are_bytes-drop : (n : ℕ) (bytes : List ℕ) → IsBytes bytes → IsBytes (drop n bytes)
are_bytes-drop n bytes fits i = rw get_or-drop (fits (n + i))

pub are_bytes-take : (n : ℕ) (bytes : List ℕ) → IsBytes bytes → IsBytes (take n bytes)
are_bytes-take n bytes fits i =
    elim (cases_lt i n) [
      | inl lt ↦ rw (get_or-take n bytes i 0 lt) (fits i)
      | inr le ↦ rw (get_or_past (take n bytes) i 0 (omega (arith, length-take n bytes))) (omega arith)
    ]

-- a front of bytes is bytes
pub front_bytes : (front rest : List ℕ) → IsBytes (front ++ rest) → IsBytes front
front_bytes [] rest fits i = omega arith
front_bytes (b ∷ front) rest fits zero = fits 0
front_bytes (b ∷ front) rest fits (suc i) = front_bytes front rest (λ j. fits (suc j)) i
