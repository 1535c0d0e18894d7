-- What a map's `retain` leaves, where the closure keeps no state and leaves each value as it was.
use Rattle.std.proofs.Common.{◌≡◌, Bool, cond, List, [], ◌∷◌, filter, subst, ◌∙◌}
use Rattle.std.specs.Map.Calls.{RetainsPairs}

module _ {K X F : Type 0} (T : F → K → X → Bool → X → F → Type 0) (test : K × X → Bool) (f : F)
    (says : (k : K) (v : X) (b : Bool) (w : X) (g : F) → T f k v b w g → (b ≡ test (k, v)) × (w ≡ v) × (g ≡ f)) where
  pub filter_retained : (es kept : List (K × X)) → RetainsPairs T f es kept → kept ≡ filter test es
  filter_retained [] kept h = h
  filter_retained (e ∷ es) kept h =
      let s = says e.0 e.1 h.0 h.1 h.2 h.4 in
      let rest = filter_retained es h.3 (subst (λ g. RetainsPairs T g es h.3) s.2 h.5) in
      h.6 ∙ (λ j. cond (s.0 j) ((e.0, s.1 j) ∷ rest j) (rest j))
