use Rattle.std.proofs.Common.{◌||◌, ◌&&◌, ◌==◌, ap, ◌∙◌}
use Rattle.std.specs.Option.{is_some}
use Rattle.std.proofs.Math.Bool.{or-false, and-false}
use Rattle.notifier.specs.Due.{acts_in}
use Rattle.notifier.specs.Resending.{turn_with}
use Rattle.notifier.proofs.laws.closed_is_evaluated.Goals as goal

pub returns : goal.returns
returns c =
    λ o is. record {
      turn = λ clock. ap (λ t. turn_with o.second t clock) is;
      acts = λ p clock. ap (λ t. acts_in (turn_with o.second t clock) o.second p clock) is;
      awaits = λ server mid. ap (λ t. server == o.server && (is_some t && o.mid == mid)) is
          ∙ and-false (server == o.server);
      rejected =
          λ server mid. ap (λ t. server == o.server && ((o.non || is_some t) && o.mid == mid)) is
          ∙ ap (λ b. server == o.server && (b && o.mid == mid)) (or-false o.non);
    }
