-- The devices that may be ready.
use Rattle.std.proofs.Common.{◌≡◌, ℕ, ◌<◌, ◌⊎◌, inl, inr, true, false, List, [], ◌∷◌, length, get_or}
use Rattle.std.proofs.Common.{Option, None, Some, slice_get, Contains, IsPermutation, IfNone, IfSome, sym, ap}
use Rattle.std.proofs.Common.{subst, ◌∙◌, arith}
use Rattle.std.proofs.lemmas.Bool.{false≢true}
use Rattle.std.proofs.lemmas.List.Sorted.{length_permutation}
use Rattle.std.specs.declared.cmp.Reverse.{Reverse}
use Rattle.fleet_core.specs.Queue.{numbers_of}
use Rattle.fleet_core.proofs.Queueing.{taken_or}
use Rattle.device_stations.specs.declared.station.Station.{Station}
use Rattle.shared_trace.specs.Roster.{CandidatesModel}
use Rattle.shared_trace.specs.Kept.{AreCandidates}
use Rattle.device_stations.specs.Stations.{is_ready}

-- ---- the lowest of the woken ones

-- what is taken out of a heap is its first
pub first_dropped : (items rest : List (Reverse ℕ)) (o : Option (Reverse ℕ)) (len d : ℕ)
    → IfSome o (λ x. x ≡ get_or items 0 x) → IfSome o (λ x. IsPermutation (numbers_of items) (x.0 ∷ numbers_of rest))
    → IfNone o (len ≡ 0) → len ≡ length items → slice_get (numbers_of items) 0 ≡ Some d
    → IsPermutation (numbers_of items) (d ∷ numbers_of rest)
first_dropped [] rest o len d top taken none count at = let e : None ≡ Some d = at in absurd cc
first_dropped (y ∷ ys) rest None len d top taken none count at = absurd (omega (arith, none, count))
first_dropped (y ∷ ys) rest (Some x) len d top taken none count at =
    let e : Some y.0 ≡ Some d = at in
    let f : y.0 ≡ d = cc in
    let first : x.0 ≡ d = ap (λ (r : Reverse ℕ). r.0) top ∙ f in
    subst (λ n. IsPermutation (numbers_of (y ∷ ys)) (n ∷ numbers_of rest)) first taken

pub one_fewer : (old new : List ℕ) (d : ℕ) → IsPermutation old (d ∷ new) → length new < length old
one_fewer old new d taken = omega (arith, length_permutation old (d ∷ new) taken)

-- ---- the lowest that is ready

module _ (posts : ℕ → ℕ) (stations : List Station) where
  kept_by : (old new : CandidatesModel) (d i : ℕ) (x : Station) → slice_get stations i ≡ Some x
      → is_ready posts x ≡ true → ((y : Station) → slice_get stations d ≡ Some y → is_ready posts y ≡ false)
      → (d ≡ i) ⊎ Contains new.woken i → Contains new.woken i
  kept_by old new d i x at ready not (inl same) =
      absurd (false≢true (sym (not x (subst (λ j. slice_get stations j ≡ Some x) (sym same) at)) ∙ ready))
  kept_by old new d i x at ready not (inr there) = there

  -- one that is not ready may be taken out
  pub kept_without : (old new : CandidatesModel) (d : ℕ) → AreCandidates posts stations old → new.fresh ≡ old.fresh
      → IsPermutation old.woken (d ∷ new.woken)
      → ((y : Station) → slice_get stations d ≡ Some y → is_ready posts y ≡ false)
      → AreCandidates posts stations new
  kept_without old new d all fresh taken not i x at ready less =
      kept_by old new d i x at ready not
      (taken_or old.woken new.woken d i taken (all i x at ready (omega (arith, less, fresh))))
