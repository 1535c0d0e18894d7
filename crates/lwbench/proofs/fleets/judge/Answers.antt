use Rattle.std.proofs.Common.{List, None, Option, Some, ap, inr, length, option_map, subst, sym, ◌≤◌, ◌∙◌, ℕ}
use Rattle.command_files.specs.World.{World}
use Rattle.command_expect.specs.Expect.{IsReportOn}
use Rattle.lwbench.specs.Judged.{IsJudgedBy, IsReported, IsUnjudgedBy, judged_status}
use Rattle.lwbench.proofs.Verdicts.{judged_by, undelivered_by}
use Rattle.lwbench.proofs.fleets.judge.Goals as goal

pub returns-in_ok-verdict-in-len1-up-Some-clause-judged : goal.returns-in_ok-verdict-in-len1-up-Some-clause-judged
returns-in_ok-verdict-in-len1-up-Some-clause-judged g c =
    let junit : Option (List ℕ) = option_map (λ p. p.now) c.args.junit in
    let before : World = g.W.World.seen c.args.world.now in
    let after : World = g.W.World.seen c.deliver.new.world in
    subst (λ s. IsJudgedBy c.args.goal.now c.args.json junit s before after c.args.held.status c.judged_status.result)
    (sym c.in-len1-up-Some.is-1)
    (judged_by c.args.goal.now c.args.json junit c.in-len1-up-Some.saved before after c.args.held.status
    c.judged_status.result c.in-len1-up-Some.len_at_least
    (record {
      answer = c.in_ok-answer-in-len1-up-Some.answer;
      report = subst
          (λ form. IsReportOn None form junit c.args.goal.now None c.in-len1-up-Some.saved
          c.in_ok-answer-in-len1-up-Some.answer)
          c.verdict_form.ensures c.in_ok-answer-in-len1-up-Some.ensures;
      made = c.in_ok-verdict-in-len1-up-Some.ensures.made;
      printed = c.in_ok-verdict-in-len1-up-Some.ensures.printed;
      quiet = c.deliver.ensures.aside.1;
      judged = c.judged_status.ensures
          ∙ ap (λ v. judged_status c.args.held.status v) c.in_ok-verdict-in-len1-up-Some.ensures.status;
    }))

pub returns-in_err-verdict-in-len1-up-Some-clause-unjudged :
    goal.returns-in_err-verdict-in-len1-up-Some-clause-unjudged
returns-in_err-verdict-in-len1-up-Some-clause-unjudged g c =
    let junit : Option (List ℕ) = option_map (λ p. p.now) c.args.junit in
    let refuses = g.W.Files.refuses in
    let faults = g.W.World.faults in
    let before : World = g.W.World.seen c.args.world.now in
    let after : World = g.W.World.seen c.deliver.new.world in
    undelivered_by refuses faults c.args.goal.now c.args.json junit c.args.held.saved c.in-len1-up-Some.saved before
    after
    c.in_ok-answer-in-len1-up-Some.answer c.from_residual-in_err-verdict-in-len1-up-Some.result
    c.in_err-verdict-in-len1-up-Some.field-0.0 c.in-len1-up-Some.is-1
    (subst
    (λ form. IsReportOn None form junit c.args.goal.now None c.in-len1-up-Some.saved
    c.in_ok-answer-in-len1-up-Some.answer)
    c.verdict_form.ensures c.in_ok-answer-in-len1-up-Some.ensures)
    c.from_residual-in_err-verdict-in-len1-up-Some.ensures.1 c.in_err-verdict-in-len1-up-Some.ensures.refused
    c.deliver.ensures.aside.1
