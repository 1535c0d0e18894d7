use Rattle.std.proofs.Common.{◌≡◌, false, true}
use Rattle.lwm2m_values.specs.Tree.{trees_of}
use Rattle.lwm2m_payloads.proofs.Nesting.{too_long}
use Rattle.lwm2m_payloads.proofs.payloads.tlv_of.Goals as goal

pub returns-then-not-tlv_fits : goal.returns-then-not-tlv_fits
returns-then-not-tlv_fits c =
    too_long (trees_of c.args.nodes.now) c.requires
    (λ w. let e : false ≡ true = c.if-not-tlv_fits.ensures.1 w in absurd cc)
