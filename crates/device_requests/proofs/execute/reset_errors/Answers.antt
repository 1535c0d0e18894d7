use Rattle.std.proofs.Common.{ap, ◌∙◌}
use Rattle.instance_store.specs.Stored.{is_full}
use Rattle.device_requests.proofs.Present.{cleared_fits}
use Rattle.device_requests.proofs.execute.reset_errors.Goals as goal

pub put_zero-requires-clause-room : goal.put_zero-requires-clause-room
put_zero-requires-clause-room c =
    let codes = c.resource_place-codes.result in
    ap (λ s. is_full s codes 0) c.clear.ensures ∙ cleared_fits c.args.store.now codes 0
