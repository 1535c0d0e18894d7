use Rattle.std.proofs.Common.{ap, ◌∙◌}
use Rattle.fleet_lines.specs.Counting.{shown_over}
use Rattle.fleet_lines.specs.Shown.{FixedShown, taken_shown}
use Rattle.fleet_lines.proofs.counted.ShownPortsCounted.watched_is_fixed.Goals as goal

pub returns : goal.returns
returns g c = λ a b same.
    ap (λ w. shown_over w (g.P.Ports.told a.began.value) (taken_shown a.tape.taken))
    (c.watched_is_fixed.ensures a.ports b.ports (ap (λ (f : FixedShown g.P.Ports.Fixed). f.ports) same))
    ∙ ap (λ (f : FixedShown g.P.Ports.Fixed). shown_over (g.P.Counted.watched b.ports) f.began f.taken) same
