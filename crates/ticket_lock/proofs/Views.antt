-- What holds of each view, of each two and of some view, after one was changed or one came in.
use Rattle.std.proofs.Common.{◌≡◌, ◌≢◌, ℕ, zero, suc, ◌<◌, ◌⊎◌, inl, inr, ⊎_elim, List, [], ◌∷◌, ◌++◌, length, set, sym}
use Rattle.std.proofs.Common.{refl, ap, ◌∙◌, subst, arith}
use mathlib.Core.Option.{some-injective, some-ne-none}
use mathlib.Core.Logic.{dite}
use native.Mathlib.Decide.{ℕ_discrete}
use Rattle.atomic_table.proofs.Lists.{at_set, set_else, at_longer}
use Rattle.ticket_lock.specs.Lock.{IsAt}

module _ {V : Type 0} where
  -- the view at a place is one
  pub same_at : (vs : List V) (i : ℕ) (v w : V) → IsAt vs i v → IsAt vs i w → v ≡ w
  same_at vs i v w a b = some-injective v w (sym a ∙ b)

  -- where a view stands, another can be put
  pub set_at : (vs : List V) (i : ℕ) (v w : V) → IsAt vs i v → IsAt (set vs i w) i w
  set_at [] i v w a = absurd (some-ne-none v (sym a))
  set_at (x ∷ xs) zero v w a = refl
  set_at (x ∷ xs) (suc i) v w a = set_at xs i v w a

  pub at_last : (vs : List V) (w : V) → IsAt (vs ++ w ∷ []) (length vs) w
  at_last [] w = refl
  at_last (x ∷ xs) w = at_last xs w

  -- what stands after one more came in stood there before, or is the new one, at the end
  pub at_end : (vs : List V) (w u : V) (j : ℕ) → IsAt (vs ++ w ∷ []) j u → IsAt vs j u ⊎ ((j ≡ length vs) × (w ≡ u))
  at_end [] w u zero a = inr (refl, some-injective w u a)
  at_end [] w u (suc j) a = absurd (some-ne-none u (sym a))
  at_end (x ∷ xs) w u zero a = inl a
  at_end (x ∷ xs) w u (suc j) a = ⊎_elim (λ t. inl t) (λ t. inr (ap suc t.0, t.1)) (at_end xs w u j a)

  -- two places can be put in either order
  pub set_swap : (vs : List V) (i j : ℕ) (v w : V) → i ≢ j → set (set vs i v) j w ≡ set (set vs j w) i v
  set_swap [] i j v w ne = refl
  set_swap (x ∷ xs) zero zero v w ne = absurd (ne refl)
  set_swap (x ∷ xs) zero (suc j) v w ne = refl
  set_swap (x ∷ xs) (suc i) zero v w ne = refl
  set_swap (x ∷ xs) (suc i) (suc j) v w ne = ap (λ l. x ∷ l) (set_swap xs i j v w (λ e. ne (ap suc e)))

  pub at_below : (vs : List V) (j : ℕ) (u : V) → IsAt vs j u → j < length vs
  at_below [] j u a = absurd (some-ne-none u (sym a))
  at_below (x ∷ xs) zero u a = omega arith
  at_below (x ∷ xs) (suc j) u a = let h = at_below xs j u a in omega arith

  module _ (P : V → Type 0) (vs : List V) where
    pub each_set : (i : ℕ) (w : V) → P w → ((j : ℕ) (u : V) → j ≢ i → IsAt vs j u → P u) → (j : ℕ) (u : V)
        → IsAt (set vs i w) j u → P u
    each_set i w new old j u a =
        ⊎_elim (λ (t : (j ≡ i) × (w ≡ u)). subst P t.1 new) (λ (t : (j ≢ i) × IsAt vs j u). old j u t.0 t.1)
        (at_set vs i j w u a)

    pub each_end : (w : V) → P w → ((j : ℕ) (u : V) → IsAt vs j u → P u) → (j : ℕ) (u : V) → IsAt (vs ++ w ∷ []) j u
        → P u
    each_end w new old j u a =
        ⊎_elim (λ (t : IsAt vs j u). old j u t) (λ (t : (j ≡ length vs) × (w ≡ u)). subst P t.1 new) (at_end vs w u j a)

    -- where some view has it, and the one that was changed keeps it, some view has it
    pub some_set : (i : ℕ) (v w : V) → IsAt vs i v → (P v → P w) → (j : ℕ) × (u : V) × IsAt vs j u × P u → (j : ℕ)
        × (u : V) × IsAt (set vs i w) j u × P u
    some_set i v w a keeps h = dite (ℕ_discrete h.0 i)
        (λ e. (i, w, set_at vs i v w a, keeps (subst P (same_at vs i h.1 v (subst (λ k. IsAt vs k h.1) e h.2) a) h.3)))
        (λ ne. (h.0, h.1, set_else vs i h.0 w ne ∙ h.2, h.3))

    pub some_end : (w : V) → (j : ℕ) × (u : V) × IsAt vs j u × P u → (j : ℕ) × (u : V) × IsAt (vs ++ w ∷ []) j u × P u
    some_end w h = (h.0, h.1, at_longer vs (w ∷ []) h.0 h.1 h.2, h.3)

  module _ (P : V → V → Type 0) (flip : (u v : V) → P u v → P v u) (vs : List V)
      (pairs : (i j : ℕ) (u v : V) → IsAt vs i u → IsAt vs j v → i ≢ j → P u v) where
    pub pairs_set : (i : ℕ) (w : V) → ((j : ℕ) (u : V) → j ≢ i → IsAt vs j u → P w u) → (j k : ℕ) (u v : V)
        → IsAt (set vs i w) j u → IsAt (set vs i w) k v → j ≢ k → P u v
    pairs_set i w new j k u v a b ne = ⊎_elim
        (λ (s : (j ≡ i) × (w ≡ u)). ⊎_elim (λ (t : (k ≡ i) × (w ≡ v)). absurd (ne (s.0 ∙ sym t.0)))
        (λ (t : (k ≢ i) × IsAt vs k v). subst (λ x. P x v) s.1 (new k v t.0 t.1)) (at_set vs i k w v b))
        (λ (s : (j ≢ i) × IsAt vs j u). ⊎_elim (λ (t : (k ≡ i) × (w ≡ v)). subst (λ x. P u x) t.1
        (flip w u (new j u s.0 s.1))) (λ (t : (k ≢ i) × IsAt vs k v). pairs j k u v s.1 t.1 ne)
        (at_set vs i k w v b))
        (at_set vs i j w u a)

    pub pairs_end : (w : V) → ((j : ℕ) (u : V) → IsAt vs j u → P w u) → (j k : ℕ) (u v : V) → IsAt (vs ++ w ∷ []) j u
        → IsAt (vs ++ w ∷ []) k v → j ≢ k → P u v
    pairs_end w new j k u v a b ne = ⊎_elim
        (λ (s : IsAt vs j u). ⊎_elim (λ (t : IsAt vs k v). pairs j k u v s t ne)
        (λ (t : (k ≡ length vs) × (w ≡ v)). subst (λ x. P u x) t.1 (flip w u (new j u s))) (at_end vs w v k b))
        (λ (s : (j ≡ length vs) × (w ≡ u)). ⊎_elim (λ (t : IsAt vs k v). subst (λ x. P x v) s.1 (new k v t))
        (λ (t : (k ≡ length vs) × (w ≡ v)). absurd (ne (s.0 ∙ sym t.0))) (at_end vs w v k b))
        (at_end vs w u j a)
