-- The open work of a worker, and what changes it.
use Rattle.std.proofs.Common.{◌≡◌, ℕ, zero, suc, ◌+◌, ◌<◌, Bool, true, false, cond, ◌⊎◌, inl, inr, List, [], ◌∷◌}
use Rattle.std.proofs.Common.{length, get_or, set, None, Some, slice_get, refl, sym, ap, subst, ◌∙◌, arith}
use Rattle.std.specs.Prelude.{Contains}
use Rattle.std.proofs.lemmas.Bool.{eq-eqb, eqb-true, false≢true}
use Rattle.trace_file.specs.declared.entry.Entry.{Entry}
use Rattle.fleet_core.specs.Run.{made_by}
use Rattle.device_stations.specs.declared.station.Place.{Place}
use Rattle.device_stations.specs.declared.station.Place.TheVariants.{Parked, Out}
use Rattle.shared_trace.specs.Trace.{is_out, open_from}

-- with the same counts from here on
counts_same : (n : ℕ) (ps : List Place) (es fs : List Entry) (i : ℕ)
    → ((j : ℕ) → i < j + 1 → made_by j fs ≡ made_by j es) → open_from n ps fs i ≡ open_from n ps es i
counts_same n [] es fs i same = refl
counts_same n (p ∷ ps) es fs i same =
    ap (λ l. cond (is_out n p) ((i, made_by i fs) ∷ l) l)
    (counts_same n ps es fs (i + 1) (λ j h. same j (omega (arith, h))))
    ∙ ap (λ k. cond (is_out n p) ((i, k) ∷ open_from n ps es (i + 1)) (open_from n ps es (i + 1)))
    (same i (omega arith))

-- the device at a place that is not out under n, and isn't after the change, has no part in n's open work
pub open_same : (n : ℕ) (ps : List Place) (es fs : List Entry) (i k : ℕ) (p q : Place) → slice_get ps k ≡ Some p
    → is_out n p ≡ false → is_out n q ≡ false
    → ((j : ℕ) → (i + k ≡ j → ⊥) → made_by j fs ≡ made_by j es) → open_from n (set ps k q) fs i ≡ open_from n ps es i
open_same n [] es fs i k p q at h g same = let e : None ≡ Some p = at in absurd cc
open_same n (p0 ∷ ps) es fs i zero p q at h g same =
    let e : Some p0 ≡ Some p = at in let f : p0 ≡ p = cc in
    ap (λ b. cond b ((i, made_by i fs) ∷ open_from n ps fs (i + 1)) (open_from n ps fs (i + 1))) g
    ∙ (counts_same n ps es fs (i + 1) (λ j lt. same j (λ eq. omega (arith, eq, lt)))
    ∙ sym (ap (λ b. cond b ((i, made_by i es) ∷ open_from n ps es (i + 1)) (open_from n ps es (i + 1)))
    (ap (is_out n) f ∙ h)))
open_same n (p0 ∷ ps) es fs i (suc k) p q at h g same =
    ap (λ l. cond (is_out n p0) ((i, made_by i fs) ∷ l) l)
    (open_same n ps es fs (i + 1) k p q at h g (λ j ne. same j (λ eq. ne (omega (arith, eq)))))
    ∙ ap (λ m. cond (is_out n p0) ((i, m) ∷ open_from n ps es (i + 1)) (open_from n ps es (i + 1)))
    (same i (λ eq. omega (arith, eq)))

behind : (b : Bool) (k x : ℕ × ℕ) (xs : List (ℕ × ℕ)) → Contains xs x → Contains (cond b (k ∷ xs) xs) x
behind true k x xs h = let lt = h.1 in (suc h.0, omega arith, h.2)
behind false k x xs h = h

-- a device that is out under the worker is in the worker's open work
pub open_has : (w : ℕ) (ps : List Place) (es : List Entry) (i k : ℕ) → slice_get ps k ≡ Some (Out w)
    → Contains (open_from w ps es i) (i + k, made_by (i + k) es)
open_has w [] es i k at = let e : None ≡ Some (Out w) = at in absurd cc
open_has w (p ∷ ps) es i zero at =
    let e : Some p ≡ Some (Out w) = at in let f : p ≡ Out w = cc in
    let here : is_out w p ≡ true = ap (is_out w) f ∙ eq-eqb w w refl in
    let same : i ≡ i + zero = omega arith in
    subst (λ b. Contains (cond b ((i, made_by i es) ∷ open_from w ps es (i + 1)) (open_from w ps es (i + 1)))
    (i + zero, made_by (i + zero) es)) (sym here)
    (0, omega arith, ap (λ j. (j, made_by j es)) same)
open_has w (p ∷ ps) es i (suc k) at =
    let same : (i + 1) + k ≡ i + suc k = omega arith in
    behind (is_out w p) (i, made_by i es) (i + suc k, made_by (i + suc k) es) (open_from w ps es (i + 1))
    (subst (λ j. Contains (open_from w ps es (i + 1)) (j, made_by j es)) same (open_has w ps es (i + 1) k at))

first_or_later : (k x : ℕ × ℕ) (xs : List (ℕ × ℕ)) (n : ℕ) → n < length (k ∷ xs) → get_or (k ∷ xs) n x ≡ x → (k ≡ x)
    ⊎ Contains xs x
first_or_later k x xs zero lt e = inl e
first_or_later k x xs (suc n) lt e = inr (n, omega (arith, lt), e)

here_or_later : (b : Bool) (k x : ℕ × ℕ) (xs : List (ℕ × ℕ)) → Contains (cond b (k ∷ xs) xs) x → ((b ≡ true) × (k ≡ x))
    ⊎ Contains xs x
here_or_later true k x xs h = elim (first_or_later k x xs h.0 h.1 h.2) [ inl e ↦ inl (refl, e) | inr more ↦ inr more ]
here_or_later false k x xs h = inr h

out_is : (w : ℕ) (p : Place) → is_out w p ≡ true → p ≡ Out w
out_is w (Parked x) h = absurd (false≢true h)
out_is w (Out v) h = ap Out (eqb-true v w h)

-- what stands in the worker's open work is out under it, with its count
pub record IsOpen (w : ℕ) (ps : List Place) (es : List Entry) (i j m : ℕ) : Type 0 where
  pub place : ℕ
  pub at : slice_get ps place ≡ Some (Out w)
  pub device : j ≡ i + place
  pub count : m ≡ made_by j es

abbrev IsPair : ℕ → ℕ → ℕ → ℕ → Type 0
IsPair a b c d = (let x : ℕ × ℕ = (a, b) in let y : ℕ × ℕ = (c, d) in x ≡ y)

next_open : (w : ℕ) (p : Place) (ps : List Place) (es : List Entry) (i j m : ℕ)
    → ((is_out w p ≡ true) × IsPair i (made_by i es) j m) ⊎ IsOpen w ps es (i + 1) j m
    → IsOpen w (p ∷ ps) es i j m
next_open w p ps es i j m (inl h) = record {
  place = 0;
  at = ap Some (out_is w p h.0);
  device = omega (arith, ap (λ x. x.0) h.1);
  count = sym (ap (λ x. x.1) h.1) ∙ ap (λ k. made_by k es) (ap (λ x. x.0) h.1);
}
next_open w p ps es i j m (inr h) =
    record { place = suc h.place; at = h.at; device = omega (arith, h.device); count = h.count }

pub open_tells : (w : ℕ) (ps : List Place) (es : List Entry) (i j m : ℕ) → Contains (open_from w ps es i) (j, m)
    → IsOpen w ps es i j m
open_tells w [] es i j m h = absurd (omega (arith, h.1))
open_tells w (p ∷ ps) es i j m h =
    next_open w p ps es i j m
    (elim (here_or_later (is_out w p) (i, made_by i es) (j, m) (open_from w ps es (i + 1)) h)
    [ inl e ↦ inl e | inr more ↦ inr (open_tells w ps es (i + 1) j m more) ])
