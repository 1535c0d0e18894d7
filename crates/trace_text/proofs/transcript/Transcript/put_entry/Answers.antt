use Rattle.std.proofs.Common.{◌≡◌, ◌++◌, ap}
use Rattle.std.proofs.lemmas.Result.{IfOk-equal}
use Rattle.std.specs.Option.{option_copied}
use Rattle.std.specs.String.{string_bytes}
use Rattle.fleet_core.specs.Run.{step_at}
use Rattle.trace_text.specs.Lines.{all_output_lines}
use Rattle.trace_text.specs.Seconds.{second_at}
use Rattle.trace_text.proofs.Written.{written}
use Rattle.trace_text.proofs.transcript.Transcript.put_entry.Goals as goal

pub returns-clause-text : goal.returns-clause-text
returns-clause-text c =
    let s = c.args.self.now in
    let e = c.args.entry.now in
    let second : c.second_at-second.result ≡ second_at s e.device e.step = cc in
    let step : option_copied c.step_of-step.result ≡ step_at s e.device e.step = cc in
    let outputs = ap (λ o. string_bytes c.put_step.new.out ++ all_output_lines o) c.as_slice.ensures in
    IfOk-equal c.put_outputs.result _ _ _ c.put_outputs.ensures
    (written s c.args.number c.second_at-second.result e (option_copied c.step_of-step.result)
    (string_bytes c.args.out.now) (string_bytes c.put_entry_start.new.out) (string_bytes c.put_step.new.out) _
    second step c.in_ok-put_entry_start.ensures c.in_ok-put_step.ensures outputs)
