use Rattle.std.proofs.Common.{sym, ap, ◌∙◌}
use Rattle.std.specs.Map.{values_of}
use Rattle.std.specs.Option.{option_copied}
use Rattle.device_machine.specs.Records.{has_key, is_recalled}
use Rattle.device_machine.proofs.Recalled.{found-kept, found-lost, found-none}
use Rattle.device_machine.proofs.records.Index.find.Goals as goal

pub returns-in_err-request : goal.returns-in_err-request
returns-in_err-request c =
    ap option_copied c.from_residual.ensures
    ∙ sym (found-none (has_key c.args.server c.args.kind c.args.mid) (λ r. is_recalled c.args.self.now.ended r)
    (values_of c.args.self.now.entries.entries)
    (sym c.request_of.ensures ∙ ap option_copied c.in_err-request.was))

pub returns-then-is_recalled : goal.returns-then-is_recalled
returns-then-is_recalled c =
    sym (found-kept (has_key c.args.server c.args.kind c.args.mid) (λ r. is_recalled c.args.self.now.ended r)
    (values_of c.args.self.now.entries.entries) c.in_ok-request.request.now
    (sym c.request_of.ensures ∙ ap option_copied c.in_ok-request.was)
    (sym c.is_recalled.ensures ∙ c.if-is_recalled.true))

pub returns-else-is_recalled : goal.returns-else-is_recalled
returns-else-is_recalled c =
    sym (found-lost c.args.server c.args.kind c.args.mid (λ r. is_recalled c.args.self.now.ended r)
    c.args.self.now.entries.entries c.in_ok-request.request.now c.requires.0.0 c.requires.0.1
    (sym c.request_of.ensures ∙ ap option_copied c.in_ok-request.was)
    (sym c.is_recalled.ensures ∙ c.if-is_recalled.false))
