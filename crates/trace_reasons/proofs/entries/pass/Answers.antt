use Rattle.std.proofs.Common.{sym, ap, ◌∙◌}
use Rattle.std.specs.String.{string_bytes}
use Rattle.lemmas.proofs.Tests.{never_both}
use Rattle.fleet_core.proofs.Taken.{step_taken}
use Rattle.trace_reasons.specs.Text.{entry_with}
use Rattle.trace_reasons.proofs.Following.{reasons_at}
use Rattle.trace_reasons.proofs.entries.pass.Goals as goal
use Rattle.trace_reasons.proofs.entries.pass.Goals.{then-is_shown+in_ok-lines+in_ok-happenings+in_ok-text, else-is_shown}

pub step_happenings-requires : goal.step_happenings-requires
step_happenings-requires c =
    step_taken c.args.scenario.now c.args.entry.now.device c.args.entry.now.step c.in-Some.step.now c.args.device.now
    c.rows-known.ensures.valid (sym c.in-Some.ensures) c.requires.shows

pub returns-clause-shown : goal.returns-clause-shown
returns-clause-shown c = λ is.
    elim c.if-is_shown.branch [
      | then-is_shown+in_ok-lines+in_ok-happenings+in_ok-text w ↦ (
        string_bytes w.in_ok-lines.lines,
        w.in_ok-happenings.happenings.items,
        reasons_at c.args.scenario.now c.args.entry.now.device c.args.entry.now.step c.in-Some.step.now
            c.args.device.now (string_bytes w.in_ok-lines.lines) w.in_ok-happenings.happenings.items
            c.rows-known.ensures.valid (sym c.in-Some.ensures) c.requires.shows w.in_ok-lines.ensures
            w.in_ok-happenings.ensures,
        ap (λ t. string_bytes t) w.text-is ∙ w.in_ok-text.ensures.text
            ∙ (λ i. entry_with (c.requires.scenario i) c.args.number c.args.entry.now (w.as_str.ensures.value i)
            (w.as_slice-below.ensures.value i)),
      )
      | else-is_shown w ↦ absurd (never_both c.args.is_shown is w.if-is_shown.false)
    ]
