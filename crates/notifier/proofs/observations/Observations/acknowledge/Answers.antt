use Rattle.std.proofs.Common.{sym, ap, subst, ◌∙◌, length, arith, if◌then◌else◌}
use Rattle.std.specs.List.{AllByRecursion}
use Rattle.std.specs.Map.{values_of}
use Rattle.notifier.specs.Observed.{IsKeyed, with_acknowledged, as_closed, is_awaited}
use Rattle.notifier.specs.Said.{Watch}
use Rattle.notifier.proofs.ObservedLaws.{keyed_closed, values-map, length-map}
use Rattle.notifier.proofs.observations.Observations.acknowledge.Goals as goal

pub invariant_of-self : goal.invariant_of-self
invariant_of-self c =
    let left = c.close_awaited.ensures in (
      subst (AllByRecursion IsKeyed) (sym left)
          (keyed_closed (is_awaited c.args.server c.args.mid) c.self.inside.entries.entries c.self.invariant.0),
      (
        omega (
          arith,
          ap length left,
          length-map (λ e. (e.0, if is_awaited c.args.server c.args.mid e.1 then as_closed e.1 else e.1))
              c.self.inside.entries.entries,
          c.self.invariant.1.0,
        ),
        omega (
          arith,
          ap length left,
          length-map (λ e. (e.0, if is_awaited c.args.server c.args.mid e.1 then as_closed e.1 else e.1))
              c.self.inside.entries.entries,
          c.self.invariant.1.1,
        ),
      ),
    )

pub returns-clause-left : goal.returns-clause-left
returns-clause-left c =
    ap values_of c.close_awaited.ensures
    ∙ values-map (λ o. if is_awaited c.args.server c.args.mid o then as_closed o else o) c.self.inside.entries.entries
    ∙ ap (λ (w : Watch). with_acknowledged w.list c.args.server c.args.mid) c.self.view_is
