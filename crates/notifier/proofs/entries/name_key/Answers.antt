use Rattle.std.proofs.Common.{arith}
use Rattle.notifier.proofs.Tokens.{are_bytes}
use Rattle.notifier.proofs.entries.name_key.Goals as goal

pub returns-clause-bytes : goal.returns-clause-bytes
returns-clause-bytes c = are_bytes c.args.token.now (λ i. omega (arith, c.type_inv.token i))
