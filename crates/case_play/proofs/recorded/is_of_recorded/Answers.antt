use Rattle.std.proofs.Common.{◌≡◌, rules}
use Rattle.byte_layout.specs.declared.fault.LayoutFault.TheVariants.{Memory}
use Rattle.case_play.proofs.Recording.{read_holds, refused_holds}
use Rattle.case_play.proofs.recorded.is_of_recorded.Goals as goal

pub returns-in-Ok : goal.returns-in-Ok
returns-in-Ok c =
    read_holds c.is_of_entries.result c.args.scenario.now c.args.bytes.now c.args.answers.now c.args.stated.now
    c.in-Ok.entries c.as_slice.result.now c.as_slice.ensures c.in-Ok.ensures.found c.in-Ok.ensures.only
    c.in-Ok.ensures.refused c.is_of_entries.ensures

pub returns-in-Err : goal.returns-in-Err
returns-in-Err c =
    let known : c.in-Err.fault ≡ Memory → ⊥ = search rules in
    refused_holds c.states_refusal.result c.args.scenario.now c.args.bytes.now c.args.answers.now c.args.stated.now
    c.in-Err.fault (c.in-Err.ensures.fault known) (λ other has. c.in-Err.ensures.refused other has known)
    (λ es file. known (c.in-Err.ensures.only es file)) c.states_refusal.ensures
