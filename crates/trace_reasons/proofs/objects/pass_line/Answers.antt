use Rattle.std.proofs.Common.{sym, ap, subst}
use Rattle.std.specs.String.{string_bytes}
use Rattle.lemmas.proofs.Tests.{never_both}
use Rattle.fleet_core.proofs.Taken.{step_taken}
use Rattle.trace_reasons.specs.Objects.{IsEntryLine, IsStepLine}
use Rattle.trace_reasons.proofs.Saying.{entry_line_is}
use Rattle.trace_reasons.proofs.objects.pass_line.Goals as goal
use Rattle.trace_reasons.proofs.objects.pass_line.Goals.{then-is_shown+in_ok-text, else-is_shown}

pub step_line-requires : goal.step_line-requires
step_line-requires c =
    step_taken c.args.scenario.now c.args.entry.now.device c.args.entry.now.step c.in-Some.step.now c.args.device.now
    c.rows-known.ensures.valid (sym c.in-Some.ensures) c.requires.shows

pub returns-clause-shown : goal.returns-clause-shown
returns-clause-shown c = λ is.
    elim c.if-is_shown.branch [
      | then-is_shown+in_ok-text w ↦
          let s = c.args.scenario.now in
          let e = c.args.entry.now in
          let step = c.in-Some.step.now in
          let text = string_bytes w.in_ok-text.text in
          subst (IsEntryLine s c.args.number e) (sym (ap (λ t. string_bytes t) w.text-is))
          (entry_line_is s c.args.number e step c.args.device.now text c.rows-known.ensures.valid
          (sym c.in-Some.ensures) c.requires.shows
          (λ f shows. subst (λ s. IsStepLine s c.args.number e f step text) c.requires.scenario
          (w.in_ok-text.ensures.line f shows)))
      | else-is_shown w ↦ absurd (never_both c.args.is_shown is w.if-is_shown.false)
    ]
