use Rattle.std.proofs.Common.{◌≡◌, ◌∙◌, Some, inr, ap, sym, arith, rules}
use Rattle.scenario_image.specs.declared.step.Step.TheVariants.{Need}
use Rattle.fleet_link.proofs.Passing.{waits_at, waits_within}
use Rattle.fleet_link.proofs.row.PlayedRow.pass_need.Goals as goal

pub pass-requires-clause-within : goal.pass-requires-clause-within
pass-requires-clause-within c =
    waits_within c.args.self.now c.in-Waits.other c.in-Waits.count (sym c.state.ensures ∙ c.in-Waits.is)

pub returns-clause-passed : goal.returns-clause-passed
returns-clause-passed c =
    let same : c.in-Waits.other ≡ c.args.group = search rules in
    inr (record {
      count = c.in-Waits.count;
      need = waits_at c.args.self.now c.in-Waits.other c.in-Waits.count (sym c.state.ensures ∙ c.in-Waits.is)
          ∙ ap (λ g. Some (Need g c.in-Waits.count)) same;
      met = omega arith;
      second = c.in-Some.second;
      second_is = c.in-Some.is;
      reached = omega arith;
      advanced = c.pass.ensures.advanced;
      resumed = c.pass.ensures.second;
    })
