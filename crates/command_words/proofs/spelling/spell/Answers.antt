use Rattle.std.proofs.Common.{ℕ, List, map, Bor, rules, subst}
use Rattle.hex.specs.Hex.{IsBytes}
use Rattle.command_words.proofs.Spelled.{spelled}
use Rattle.command_words.proofs.spelling.spell.Goals as goal

pub returns-in-Ok-Some-clause-done : goal.returns-in-Ok-Some-clause-done
returns-in-Ok-Some-clause-done c =
    let octets : IsBytes c.in-Ok-Some.arrival.bytes =
    subst IsBytes c.as_slice.ensures c.hex_line.ensures.octets in
    spelled (map (λ (w : Bor (List ℕ)). w.now) c.args.given.now) c.in-Ok-Some.arrival c.printed.result (search rules)
    octets (search rules) (search rules) (search rules)
