use Rattle.std.proofs.Common.{◌≡◌, ◌<◌, length, Some, rules, refl}
use Rattle.std.specs.String.{string_bytes}
use Rattle.device_machine.specs.declared.event.Event.TheVariants.{Recv}
use Rattle.scenario_image.specs.declared.step.Step.TheVariants.{Event}
use Rattle.debugger.specs.Shown.{step_shown}
use Rattle.debug_answers.proofs.Whys.{why_arrived}
use Rattle.debug_answers.proofs.why.show_why.Goals as goal

pub returns-in_ok-before-in-Ok-Some-Event-Recv : goal.returns-in_ok-before-in-Ok-Some-Event-Recv
returns-in_ok-before-in-Ok-Some-Event-Recv c =
    let v = c.args.debugger.now in
    let row : c.args.device < length v.scenario.rows = search rules in
    let is : Some (Event (Recv c.in-Ok-Some-Event-Recv.server c.as_slice.result.now))
    ≡ step_shown v.scenario v.entries v.place c.args.device = search rules in
    why_arrived string_bytes v c.args.device _ c.in-Ok-Some-Event-Recv.server c.as_slice.result.now
    c.in_ok-before-in-Ok-Some-Event-Recv.before c.why_line.result row is refl
    c.in_ok-before-in-Ok-Some-Event-Recv.ensures c.why_line.ensures
