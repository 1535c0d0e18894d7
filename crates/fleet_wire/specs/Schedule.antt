-- Which datagrams are lost, doubled, exchanged or delayed.
use Rattle.std.specs.Prelude.{ℕ, ◌+◌, ◌-◌, ◌*◌, ◌%◌, ◌^◌, Bool, true, false, ◌&&◌, nat_le, nat_lt, if◌then◌else◌}
use Rattle.std.specs.List.{list_any}
use Rattle.rand_pcg.specs.Lcg.{advance, increment_of, started}
use Rattle.rand_pcg.specs.Pcg.{multiplier_64, output_xsh_rr}
use Rattle.fleet_wire.specs.declared.choice.Choice.{Choice}
use Rattle.fleet_wire.specs.declared.choice.Choice.TheVariants.{Listed, Never, Share}
use Rattle.fleet_wire.specs.declared.choice.Span.{Span}
use Rattle.fleet_wire.specs.declared.plan.Direction.{Direction}
use Rattle.fleet_wire.specs.declared.plan.Direction.TheVariants.{In, Out}
use Rattle.fleet_wire.specs.declared.plan.Fate.{Fate}
use Rattle.fleet_wire.specs.declared.plan.Fate.TheVariants.{Late as late_one, Lost, Passes, Swapped, Twice as twice_one}
use Rattle.fleet_wire.specs.declared.plan.Kind.{Kind}
use Rattle.fleet_wire.specs.declared.plan.Kind.TheVariants.{Late, Lose, Swap, Twice}
use Rattle.fleet_wire.specs.declared.plan.Plan.{Plan}

-- ---- words

abbrev pub lane_of : Direction → ℕ
lane_of In = 0
lane_of Out = 4

abbrev pub place_of : Kind → ℕ
place_of Lose = 0
place_of Twice = 1
place_of Swap = 2
place_of Late = 3

-- each kind of each device and direction has a stream of its own, of the 2 ^ 63 of the generator
abbrev pub stream_of : Direction → Kind → ℕ → ℕ
stream_of direction kind device = device % 2 ^ 59 * 8 + (lane_of direction + place_of kind)

-- the word drawn for a datagram: of the words of its stream of Pcg32, the one with its number, the first being 1
unfoldable pub drawn_word : ℕ → Direction → Kind → ℕ → ℕ → ℕ
drawn_word seed direction kind device number =
    output_xsh_rr (advance 64 multiplier_64 (number - 1)
    (started 64 multiplier_64 seed (increment_of 64 (stream_of direction kind device)))).state

-- ---- choices

abbrev pub is_in : ℕ → Span → Bool
is_in number span = nat_le span.from number && nat_le number span.to

-- a share of n hundredths chooses where the word is below n hundredths of 2 ^ 32
abbrev pub is_drawn : ℕ → ℕ → Bool
is_drawn percent word = nat_lt (word * 100) (percent * 2 ^ 32)

-- whether a choice chooses the datagram of this number
abbrev pub chooses : ℕ → Choice → Direction → Kind → ℕ → ℕ → Bool
chooses seed Never direction kind device number = false
chooses seed (Share percent) direction kind device number =
    is_drawn percent (drawn_word seed direction kind device number)
chooses seed (Listed spans) direction kind device number = list_any (is_in number) spans.items

-- ---- fates

abbrev pub lost_by : Plan → Direction → Choice
lost_by plan In = plan.lose_in
lost_by plan Out = plan.lose_out

-- what happens to a datagram: the first that its plan chooses it for. Its number is its place among those of its device
-- that go its way, the first being 1
unfoldable pub fate_of : Plan → Direction → ℕ → ℕ → Fate
fate_of plan direction device number =
    if chooses plan.seed (lost_by plan direction) direction Lose device number then Lost
    else (if chooses plan.seed plan.twice direction Twice device number then twice_one
    else (if chooses plan.seed plan.swap direction Swap device number then Swapped
    else (if chooses plan.seed plan.late direction Late device number then late_one
    else Passes)))

-- it goes on as it comes
abbrev pub goes_at_once : Fate → Bool
goes_at_once Lost = false
goes_at_once twice_one = true
goes_at_once Swapped = false
goes_at_once late_one = false
goes_at_once Passes = true

-- how often it goes on
abbrev pub copies : Fate → ℕ
copies Lost = 0
copies twice_one = 2
copies Swapped = 1
copies late_one = 1
copies Passes = 1
