use Rattle.std.proofs.Common.{◌≡◌, ◌∙◌, ap, sym, true}
use Rattle.fleet_lines.specs.Shown.{while_whole}
use Rattle.fleet_lines.proofs.Counting.{account_if, all_taken, always_some}
use Rattle.fleet_lines.proofs.counted.ShownPortsCounted.account.Goals as goal

pub returns-then-is_whole-clause-account : goal.returns-then-is_whole-clause-account
returns-then-is_whole-clause-account g c =
    let s = c.args.self.now in
    let is = c.if-is_whole.true in
    let whole : s.tape.whole ≡ true = sym c.is_whole.ensures.whole ∙ is in
    λ none. account_if _ (g.P.Ports.told s.ports) _ _ c.account.result
    (λ e. ap (λ b. while_whole b (g.P.Ports.told s.ports e)) whole) (c.account.ensures.account none)

pub returns-then-is_whole-clause-shown : goal.returns-then-is_whole-clause-shown
returns-then-is_whole-clause-shown g c =
    let s = c.args.self.now in
    let is = c.if-is_whole.true in
    let whole : s.tape.whole ≡ true = sym c.is_whole.ensures.whole ∙ is in
    λ none. always_some c.account.result _
    (all_taken (g.P.Ports.told s.began.value) (g.P.Ports.told s.ports) s.tape whole none (c.is_whole.ensures.shown is))
