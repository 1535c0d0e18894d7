use Rattle.std.proofs.Common.{◌≡◌, ◌==◌, true, false, rules}
use Rattle.object_defs.specs.Path.{object_in}
use Rattle.device_requests.specs.Access.{rights_on}
use Rattle.device_requests.specs.Refusals.{can_be_written, is_target}
use Rattle.device_requests.proofs.Growing.{of_error, write_takes_memory}
use Rattle.device_requests.proofs.client.Client.write.Goals as goal

pub returns-clause-may_lack_memory : goal.returns-clause-may_lack_memory
returns-clause-may_lack_memory c =
    let client = c.args.self.now in
    let no : (object_in c.args.path == 0) ≡ false = search rules in
    let target : is_target client.catalog client.store c.args.path ≡ true = search rules in
    let may : (rights_on client c.args.server c.args.path).write ≡ true = search rules in
    let can : can_be_written client.catalog c.args.path ≡ true = search rules in
    of_error c.write_payload.result _ _
    (write_takes_memory client c.args.server c.args.mode c.args.path c.args.number c.args.payload.now no target may can)
    c.write_payload.ensures.may_lack_memory
