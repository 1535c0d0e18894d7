use Rattle.std.proofs.Common.{◌≡◌, ℕ, ◌+◌, ◌==◌, List, length, take, slice_index}
use Rattle.std.specs.Prelude.{count_by}
use Rattle.device_stations.specs.declared.station.Station.{Station}
use Rattle.shared_trace.specs.Kept.{IsRosterOf}
use Rattle.shared_trace.proofs.tables.add_posts.Given as goal

abbrev pub invariant-loop-group : goal.invariant-loop-group
invariant-loop-group l =
    (length l.posts.items ≡ length l.initial.posts.items)
    × ((g : ℕ) → slice_index l.posts.items g
    ≡ slice_index l.initial.posts.items g + count_by (λ h. h == g) (take l.group-index l.groups))
    × (length l.roster.waiting.items ≡ length l.initial.posts.items)
    × ((stations : List Station) → IsRosterOf l.initial.posts.items stations l.initial.roster
    → IsRosterOf l.posts.items stations l.roster)
