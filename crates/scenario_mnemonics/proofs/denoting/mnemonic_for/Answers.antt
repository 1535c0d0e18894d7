use Rattle.std.proofs.Common.{◌<◌, All, ◌∙◌, arith}
use Rattle.std.proofs.lemmas.List.Elements.{All-from_get_or}
use Rattle.std.proofs.lemmas.Result.{IfOk-weaker}
use Rattle.scenario_mnemonics.proofs.Candidates.{found_is}
use Rattle.scenario_mnemonics.proofs.denoting.mnemonic_for.Goals as goal

pub returns : goal.returns
returns c =
    let bytes : All (λ b. b < 256) c.args.datagram.now =
    All-from_get_or (λ b. b < 256) c.args.datagram.now 0 (λ i h. omega (arith, c.type_inv.datagram i)) in
    IfOk-weaker c.found.result _ _ (λ m h. h ∙ found_is c.args.datagram.now bytes) c.found.ensures
