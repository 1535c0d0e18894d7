use Rattle.std.proofs.Common.{Some, arith}
use Rattle.std.proofs.lemmas.Str.Pattern.{split_parts}
use Rattle.lemmas.proofs.Options.{if_none}
use Rattle.command_join.proofs.Words.{ranged, unranged}
use Rattle.command_join.proofs.slice.range_and_path.Goals as goal

pub returns-in_err-devices-clause-none : goal.returns-in_err-devices-clause-none
returns-in_err-devices-clause-none c =
    let parts = c.in_ok-range.ensures.byte (omega arith) (λ w o h. h) in
    if_none c.from_residual-in_err-devices.result _
    (unranged c.args.word.now c.in_ok-range.range.now parts.0 c.in_err-devices.ensures.none)

pub returns-clause-range : goal.returns-clause-range
returns-clause-range c =
    let parts = c.in_ok-range.ensures.byte (omega arith) (λ w o h. h) in
    let cut = (split_parts 61 c.args.word.now (Some (c.in_ok-range.range, c.in_ok-range.path))
    c.in_ok-range.ensures.cases (omega arith)).0 in
    ranged c.args.word.now c.in_ok-range.range.now c.in_ok-range.path.now c.in_ok-devices.devices parts.0 cut
    c.in_ok-devices.ensures.range
