-- What a claim does to the places that are out under each number.
use Rattle.std.proofs.Common.{◌≡◌, ◌≢◌, ℕ, zero, suc, ◌+◌, ◌<◌, Bool, not, true, false, cond, List, [], ◌∷◌, length}
use Rattle.std.proofs.Common.{set, refl, sym, ap, ◌∙◌, subst, arith, Option, Some, None, add-zero, length-set}
use Rattle.std.specs.Prelude.{◌==◌, All, slice_get, filter, Contains, IfSome, IfNone}
use Rattle.std.proofs.lemmas.Bool.{eq-eqb, ne_eqb}
use Rattle.ticket_lock_uses.specs.declared.board.Place.{Place}
use Rattle.ticket_lock_uses.specs.declared.board.Place.TheVariants.{Parked, Out}
use Rattle.ticket_lock_uses.specs.Board.{is_out, places_out, board_log}
use Rattle.ticket_lock.specs.Log.{Adds}

-- another's places stay
pub places_out-other : (ps : List Place) (i k w n : ℕ) → slice_get ps i ≡ Some Parked → (n ≡ w → ⊥)
    → places_out n (set ps i (Out w)) k ≡ places_out n ps k
places_out-other [] i k w n at ne = refl
places_out-other (p ∷ ps) zero k w n at ne = let is : p ≡ Parked = cc in
    ap (λ b. cond b (k ∷ places_out n ps (k + 1)) (places_out n ps (k + 1))) (ne_eqb w n (λ e. ne (sym e)))
    ∙ sym (ap (λ q. cond (is_out n q) (k ∷ places_out n ps (k + 1)) (places_out n ps (k + 1))) is)
places_out-other (p ∷ ps) (suc i) k w n at ne =
    ap (λ l. cond (is_out n p) (k ∷ l) l) (places_out-other ps i (k + 1) w n at ne)

behind : (b : Bool) (k x : ℕ) (xs : List ℕ) → Contains xs x → Contains (cond b (k ∷ xs) xs) x
behind true k x xs h = let lt = h.1 in (suc h.0, omega arith, h.2)
behind false k x xs h = h

-- the claimed place is one of the worker's
pub places_out-claimed : (ps : List Place) (i k w : ℕ) → slice_get ps i ≡ Some Parked
    → Contains (places_out w (set ps i (Out w)) k) (k + i)
places_out-claimed [] zero k w at = cc
places_out-claimed [] (suc i) k w at = cc
places_out-claimed (p ∷ ps) zero k w at =
    subst (λ b. Contains (cond b (k ∷ places_out w ps (k + 1)) (places_out w ps (k + 1))) (k + 0))
    (sym (eq-eqb w w refl)) (0, omega arith, sym (add-zero k))
places_out-claimed (p ∷ ps) (suc i) k w at =
    let rest = places_out w (set ps i (Out w)) (k + 1) in
    let same : (k + 1) + i ≡ k + suc i = omega arith in
    behind (is_out w p) k (k + suc i) rest (subst (Contains rest) same (places_out-claimed ps i (k + 1) w at))

kept : (b : Bool) (k m : ℕ) (xs ys : List ℕ) → (k ≡ m → ⊥) → filter (λ j. not (j == m)) xs ≡ ys
    → filter (λ j. not (j == m)) (cond b (k ∷ xs) xs) ≡ cond b (k ∷ ys) ys
kept true k m xs ys ne e = let f : ℕ → Bool = λ j. not (j == m) in
    ap (λ t. cond (not t) (k ∷ filter f xs) (filter f xs)) (ne_eqb k m ne) ∙ ap (λ l. k ∷ l) e
kept false k m xs ys ne e = e

-- places that are counted from k on are not below k
places_out-above : (ps : List Place) (k w m : ℕ) → m < k
    → filter (λ j. not (j == m)) (places_out w ps k) ≡ places_out w ps k
places_out-above [] k w m lt = refl
places_out-above (p ∷ ps) k w m lt =
    let rest = places_out w ps (k + 1) in
    kept (is_out w p) k m rest rest (λ e. absurd (omega arith)) (places_out-above ps (k + 1) w m (omega arith))

-- without the claimed place, the worker's are as before
places_out-others : (ps : List Place) (i k w : ℕ) → slice_get ps i ≡ Some Parked
    → filter (λ j. not (j == k + i)) (places_out w (set ps i (Out w)) k) ≡ places_out w ps k
places_out-others [] i k w at = refl
places_out-others (p ∷ ps) zero k w at =
    let is : p ≡ Parked = cc in
    let f : ℕ → Bool = λ j. not (j == k + 0) in
    let rest = places_out w ps (k + 1) in
    ap (λ b. filter f (cond b (k ∷ rest) rest)) (eq-eqb w w refl)
    ∙ (ap (λ t. cond (not t) (k ∷ filter f rest) (filter f rest)) (eq-eqb k (k + 0) (sym (add-zero k)))
    ∙ (places_out-above ps (k + 1) w (k + 0) (omega arith) ∙ sym (ap (λ q. cond (is_out w q) (k ∷ rest) rest) is)))
places_out-others (p ∷ ps) (suc i) k w at =
    let new = places_out w (set ps i (Out w)) (k + 1) in
    let old = places_out w ps (k + 1) in
    let same : (k + 1) + i ≡ k + suc i = omega arith in
    kept (is_out w p) k (k + suc i) new old (λ e. absurd (omega arith))
    (subst (λ n. filter (λ j. not (j == n)) new ≡ old) same (places_out-others ps i (k + 1) w at))

-- a claim changes the worker's open work alone
pub claim_adds : (old new : List Place) (w : ℕ) (r : Option ℕ)
    → IfSome r (λ i. (slice_get old i ≡ Some Parked) × (new ≡ set old i (Out w)))
    → IfNone r ((new ≡ old) × All (λ p. p ≢ Parked) old) → Adds board_log w old new
claim_adds old new w None some none =
    record {
      added = [];
      entries = refl;
      by_worker = tt;
      subject = ap length none.0;
      others =
          λ n ne. ap (λ b. places_out n b 0) none.0;
    }
claim_adds old new w (Some i) some none = record {
  added = [];
  entries = refl;
  by_worker = tt;
  subject = ap length some.1 ∙ length-set old i (Out w);
  others = λ n ne. ap (λ b. places_out n b 0) some.1 ∙ places_out-other old i 0 w n some.0 ne;
}

-- what was claimed is among the worker's places
pub claim_contains : (old new : List Place) (w : ℕ) (r : Option ℕ)
    → IfSome r (λ i. (slice_get old i ≡ Some Parked) × (new ≡ set old i (Out w)))
    → IfSome r (λ i. Contains (places_out w new 0) i)
claim_contains old new w None some = tt
claim_contains old new w (Some i) some =
    let zero_first : 0 + i ≡ i = omega arith in
    subst (λ b. Contains (places_out w b 0) i) (sym some.1)
    (subst (Contains (places_out w (set old i (Out w)) 0)) zero_first (places_out-claimed old i 0 w some.0))

-- nothing else was claimed
pub claim_others : (old new : List Place) (w : ℕ) (r : Option ℕ)
    → IfSome r (λ i. (slice_get old i ≡ Some Parked) × (new ≡ set old i (Out w)))
    → IfSome r (λ i. filter (λ j. not (j == i)) (places_out w new 0) ≡ places_out w old 0)
claim_others old new w None some = tt
claim_others old new w (Some i) some =
    let zero_first : 0 + i ≡ i = omega arith in
    subst (λ b. filter (λ j. not (j == i)) (places_out w b 0) ≡ places_out w old 0) (sym some.1)
    (subst (λ n. filter (λ j. not (j == n)) (places_out w (set old i (Out w)) 0) ≡ places_out w old 0) zero_first
    (places_out-others old i 0 w some.0))

pub claim_none : (old new : List Place) (w : ℕ) (r : Option ℕ) → IfNone r ((new ≡ old) × All (λ p. p ≢ Parked) old)
    → IfNone r (places_out w new 0 ≡ places_out w old 0)
claim_none old new w None none = ap (λ b. places_out w b 0) none.0
claim_none old new w (Some i) none = tt
