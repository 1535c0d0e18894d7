use Rattle.std.proofs.Common.{◌≡◌, ◌⊎◌, inr, rules, subst}
use Rattle.std.proofs.lemmas.Result.{err_from_is_err_and}
use Rattle.fleet_core.specs.Run.{IsRun}
use Rattle.debugger.specs.Session.{new_session}
use Rattle.command_debug.specs.Conversation.{IsConversation, IsCutShort, Terms}
use Rattle.command_files.specs.World.{IsIdle, Streams}
use Rattle.command_files.specs.declared.fault.Fault.TheVariants.{Memory}
use Rattle.command_files.proofs.Built.{judged_none}
use Rattle.command_debug.proofs.debugging.debug_run.Goals as goal

pub returns-in_ok-no_run-in-Err-NotRun-clause-verdict : goal.returns-in_ok-no_run-in-Err-NotRun-clause-verdict
returns-in_ok-no_run-in-Err-NotRun-clause-verdict g c =
    judged_none _ _ c.in-Err-NotRun.place _ (c.open.ensures.not_run c.in-Err-NotRun.place (search rules))
    (search rules) (search rules)

pub returns-in_err-converse-in-Ok-clause-refused : goal.returns-in_err-converse-in-Ok-clause-refused
returns-in_err-converse-in-Ok-clause-refused g c =
    let terms : Terms = record { faults = g.W.World.faults; reasons = c.args.reasons } in
    let before : Streams = (g.W.World.seen c.args.world.now).streams in
    let after : Streams = (g.W.World.seen c.converse.new.world).streams in
    let cut : IsCutShort terms before after (new_session c.args.scenario.now c.args.entries)
    c.in_err-converse-in-Ok.field-0.0.fault =
    subst (λ session. IsCutShort terms before after session c.in_err-converse-in-Ok.field-0.0.fault)
    c.in-Ok.ensures.opened c.in_err-converse-in-Ok.ensures.cut in
    let run : IsRun c.args.scenario.now c.args.entries = c.in-Ok.ensures.run in
    let right : ((c.in_err-converse-in-Ok.field-0.0.fault ≡ Memory) × IsIdle before after)
    ⊎ (IsRun c.args.scenario.now c.args.entries
    × IsCutShort terms before after (new_session c.args.scenario.now c.args.entries)
    c.in_err-converse-in-Ok.field-0.0.fault) =
    inr (run, cut) in
    let p = err_from_is_err_and c.from_residual.result c.from_residual.ensures.1 in
    rw (p.1, p.2) right

pub returns-in_ok-converse-in-Ok-clause-conversed : goal.returns-in_ok-converse-in-Ok-clause-conversed
returns-in_ok-converse-in-Ok-clause-conversed g c =
    let terms : Terms = record { faults = g.W.World.faults; reasons = c.args.reasons } in
    subst (IsConversation terms (g.W.World.seen c.args.world.now).streams (g.W.World.seen c.converse.new.world).streams)
    c.in-Ok.ensures.opened c.in_ok-converse-in-Ok.ensures.done
