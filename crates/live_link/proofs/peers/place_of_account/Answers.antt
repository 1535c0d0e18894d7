use Rattle.std.proofs.Common.{◌≡◌, rules, tests}
use Rattle.std.proofs.lemmas.Iterator.{IsFirst-from_position, YieldsList-from_slice}
use Rattle.live_link.proofs.Known.{found_at, found_nowhere}
use Rattle.live_link.proofs.peers.place_of_account.Goals as goal

pub returns-clause-found : goal.returns-clause-found
returns-clause-found c =
    found_at c.args.accounts.now c.args.account c.position.result
    (IsFirst-from_position _ _ _ (λ x. x ≡ c.args.account) (λ x. x ≡ c.args.account → ⊥) c.position.ensures.ran
    (YieldsList-from_slice c.args.accounts.now cc) (λ x q k. search (rules, tests)) (λ x q k. search (rules, tests)))

pub returns-clause-absent : goal.returns-clause-absent
returns-clause-absent c =
    found_nowhere c.args.accounts.now c.args.account c.position.result
    (IsFirst-from_position _ _ _ (λ x. x ≡ c.args.account) (λ x. x ≡ c.args.account → ⊥) c.position.ensures.ran
    (YieldsList-from_slice c.args.accounts.now cc) (λ x q k. search (rules, tests)) (λ x q k. search (rules, tests)))
