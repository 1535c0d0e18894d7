use Rattle.std.proofs.Common.{arith}
use Rattle.scenario_image.proofs.Imaged.{read_valid}
use Rattle.scenario_image.proofs.image.lists_at.Goals as goal

pub of_parts-requires : goal.of_parts-requires
of_parts-requires c =
    read_valid c.args.version c.in_ok-classes.classes.items c.deref.result.now c.in_ok-rows.rows.items c.args.bytes.now
    c.in_ok-classes.rest.now c.in_ok-rows.rest.now
    (λ i. omega (arith, c.type_inv.bytes i)) c.deref.ensures.value c.in_ok-classes.ensures c.in_ok-rows.ensures
