-- What follows from the schedule.
use Rattle.std.proofs.Common.{◌≡◌, ℕ, ◌+◌, ◌*◌, ◌%◌, ◌^◌, ◌<◌, Bool, false, cond, refl, sym, ap, ◌∙◌, arith}
use Rattle.fleet_wire.specs.declared.choice.Choice.{Choice}
use Rattle.fleet_wire.specs.declared.choice.Choice.TheVariants.{Never}
use Rattle.fleet_wire.specs.declared.plan.Direction.{Direction}
use Rattle.fleet_wire.specs.declared.plan.Direction.TheVariants.{In, Out}
use Rattle.fleet_wire.specs.declared.plan.Fate.TheVariants.{Late as late_one, Lost, Passes, Swapped, Twice as twice_one}
use Rattle.fleet_wire.specs.declared.plan.Kind.{Kind}
use Rattle.fleet_wire.specs.declared.plan.Kind.TheVariants.{Late, Lose, Swap, Twice}
use Rattle.fleet_wire.specs.declared.plan.Plan.{Plan}
use Rattle.fleet_wire.specs.Schedule.{chooses, fate_of, lane_of, lost_by, place_of, stream_of}

-- ---- nothing is chosen

never : (seed : ℕ) (c : Choice) (direction : Direction) (kind : Kind) (device number : ℕ) → c ≡ Never
    → chooses seed c direction kind device number ≡ false
never seed c direction kind device number e = ap (λ x. chooses seed x direction kind device number) e

none_of : (a b c d : Bool) → a ≡ false → b ≡ false → c ≡ false → d ≡ false
    → cond a Lost (cond b twice_one (cond c Swapped (cond d late_one Passes))) ≡ Passes
none_of a b c d p q r s =
    ap (λ x. cond x Lost (cond b twice_one (cond c Swapped (cond d late_one Passes)))) p
    ∙ ap (λ x. cond x twice_one (cond c Swapped (cond d late_one Passes))) q
    ∙ ap (λ x. cond x Swapped (cond d late_one Passes)) r ∙ ap (λ x. cond x late_one Passes) s

none_lost : (plan : Plan) (direction : Direction) → plan.lose_in ≡ Never → plan.lose_out ≡ Never
    → lost_by plan direction ≡ Never
none_lost plan In a b = a
none_lost plan Out a b = b

pub passes_all : (plan : Plan) → plan.lose_in ≡ Never → plan.lose_out ≡ Never → plan.twice ≡ Never
    → plan.swap ≡ Never → plan.late ≡ Never → (direction : Direction) (device number : ℕ)
    → fate_of plan direction device number ≡ Passes
unfolding fate_of
passes_all plan lose_in lose_out twice swap late direction device number =
    none_of (chooses plan.seed (lost_by plan direction) direction Lose device number)
    (chooses plan.seed plan.twice direction Twice device number)
    (chooses plan.seed plan.swap direction Swap device number)
    (chooses plan.seed plan.late direction Late device number)
    (never plan.seed (lost_by plan direction) direction Lose device number (none_lost plan direction lose_in lose_out))
    (never plan.seed plan.twice direction Twice device number twice)
    (never plan.seed plan.swap direction Swap device number swap)
    (never plan.seed plan.late direction Late device number late)

-- ---- streams

same_kind : (k l : Kind) → place_of k ≡ place_of l → k ≡ l
same_kind Lose Lose h = refl
same_kind Lose Twice h = absurd (omega (arith, h))
same_kind Lose Swap h = absurd (omega (arith, h))
same_kind Lose Late h = absurd (omega (arith, h))
same_kind Twice Lose h = absurd (omega (arith, h))
same_kind Twice Twice h = refl
same_kind Twice Swap h = absurd (omega (arith, h))
same_kind Twice Late h = absurd (omega (arith, h))
same_kind Swap Lose h = absurd (omega (arith, h))
same_kind Swap Twice h = absurd (omega (arith, h))
same_kind Swap Swap h = refl
same_kind Swap Late h = absurd (omega (arith, h))
same_kind Late Lose h = absurd (omega (arith, h))
same_kind Late Twice h = absurd (omega (arith, h))
same_kind Late Swap h = absurd (omega (arith, h))
same_kind Late Late h = refl

few : (k : Kind) → place_of k < 4
few Lose = omega arith
few Twice = omega arith
few Swap = omega arith
few Late = omega arith

same_way : (d e : Direction) (p q : ℕ) → p < 4 → q < 4 → lane_of d + p ≡ lane_of e + q → (d ≡ e) × (p ≡ q)
same_way In In p q a b h = (refl, omega (arith, h))
same_way In Out p q a b h = absurd (omega (arith, a, b, h))
same_way Out In p q a b h = absurd (omega (arith, a, b, h))
same_way Out Out p q a b h = (refl, omega (arith, h))

below_eight : (d : Direction) (p : ℕ) → p < 4 → lane_of d + p < 8
below_eight In p h = omega (arith, h)
below_eight Out p h = omega (arith, h)

small : (device : ℕ) → device < 2 ^ 59 → device % 2 ^ 59 ≡ device
small device h = omega (arith, h)

apart : (a b i j : ℕ) → i < 8 → j < 8 → a * 8 + i ≡ b * 8 + j → (a ≡ b) × (i ≡ j)
apart a b i j l m h = (omega (arith, l, m, h), omega (arith, l, m, h))

pub own_streams : (d e : Direction) (k l : Kind) (device other : ℕ) → device < 2 ^ 59 → other < 2 ^ 59
    → stream_of d k device ≡ stream_of e l other → (device ≡ other) × (d ≡ e) × (k ≡ l)
own_streams d e k l device other a b h =
    let parts = apart (device % 2 ^ 59) (other % 2 ^ 59) (lane_of d + place_of k) (lane_of e + place_of l)
    (below_eight d (place_of k) (few k)) (below_eight e (place_of l) (few l)) h in
    let ways = same_way d e (place_of k) (place_of l) (few k) (few l) parts.1 in
    (sym (small device a) ∙ parts.0 ∙ small other b, ways.0, same_kind k l ways.1)
