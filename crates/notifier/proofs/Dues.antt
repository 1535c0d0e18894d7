-- The first second at which one of several observations is due.
use Rattle.std.proofs.Common.{◌≡◌, ℕ, zero, suc, ◌+◌, ◌∙◌, Bool, true, false, ◌||◌, List, [], ◌∷◌, take, slice_get}
use Rattle.std.proofs.Common.{Some, ap, arith, refl, sym}
use Rattle.notifier.specs.Due.{acts_at, is_one_due}
use Rattle.notifier.specs.declared.observation.Observation.{Observation}
use Rattle.notifier.specs.declared.pending.Outlook.{Outlook}

or_none : (b : Bool) → (b || false) ≡ (false || b)
or_none true = refl
or_none false = refl

or_in_turn : (a b c : Bool) → (a || (b || c)) ≡ ((a || b) || c)
or_in_turn true b c = refl
or_in_turn false b c = refl

takes_due : (os : List Observation) (ps : List Outlook) (i : ℕ) (o : Observation) (p : Outlook) (clock : ℕ)
    → slice_get os i ≡ Some o → slice_get ps i ≡ Some p
    → is_one_due (take (suc i) os) (take (suc i) ps) clock
    ≡ (is_one_due (take i os) (take i ps) clock || acts_at o p clock)
takes_due [] ps i o p clock at is = cc
takes_due (x ∷ os) [] i o p clock at is = cc
takes_due (x ∷ os) (y ∷ ps) zero o p clock at is =
    let same_o : x ≡ o = cc in
    let same_p : y ≡ p = cc in
    or_none (acts_at x y clock) ∙ (λ j. acts_at (same_o j) (same_p j) clock)
takes_due (x ∷ os) (y ∷ ps) (suc i) o p clock at is =
    ap (λ b. acts_at x y clock || b) (takes_due os ps i o p clock at is)
    ∙ or_in_turn (acts_at x y clock) (is_one_due (take i os) (take i ps) clock) (acts_at o p clock)

-- with one observation more, one is due where one of those before it is, or it is
pub one_more_due : (os : List Observation) (ps : List Outlook) (i : ℕ) (o : Observation) (p : Outlook) (clock : ℕ)
    → slice_get os i ≡ Some o → slice_get ps i ≡ Some p
    → (is_one_due (take i os) (take i ps) clock || acts_at o p clock)
    ≡ is_one_due (take (i + 1) os) (take (i + 1) ps) clock
one_more_due os ps i o p clock at is =
    let next : suc i ≡ i + 1 = omega arith in
    sym (takes_due os ps i o p clock at is) ∙ ap (λ n. is_one_due (take n os) (take n ps) clock) next
