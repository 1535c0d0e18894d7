use Rattle.std.proofs.Common.{◌∙◌}
use Rattle.request_reasons.proofs.Said.{accept_said, content_format_said, given_named, read_named}
use Rattle.request_reasons.proofs.format.format_named.Goals as goal

pub returns-in-Read : goal.returns-in-Read
returns-in-Read c =
    accept_said c.args._message.now c.args.request c.requires
    ∙ read_named c.args._message.now c.args.request.operation c.in-Read.is

pub returns-in-WriteReplace : goal.returns-in-WriteReplace
returns-in-WriteReplace c =
    content_format_said c.args._message.now c.args.request c.requires
    ∙ given_named c.args._message.now c.args.request.operation c.in-WriteReplace.is
