use Rattle.case_play.proofs.Tried.{right_of, wrong_of}
use Rattle.case_play.proofs.trying.wrong_in.Goals as goal

pub returns-then-branch : goal.returns-then-branch
returns-then-branch c =
    right_of c.args.kind c.args.file.now c.args.stated.now c.args.below.now c.in_ok-finding.finding
    c.in_ok-states_finding.field-0 c.in_ok-finding.ensures c.in_ok-states_finding.ensures c.if-branch.true

pub returns : goal.returns
returns c =
    wrong_of c.args.kind c.args.file.now c.args.stated.now c.args.below.now c.in_ok-finding.finding
    c.in_ok-states_finding.field-0 c.in_ok-finding.ensures c.in_ok-states_finding.ensures c.if-branch.false
