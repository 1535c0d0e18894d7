use Rattle.std.proofs.Common.{map, option_map, subst}
use Rattle.std.proofs.lemmas.Result.{err_from_is_err_and}
use Rattle.command_join.specs.Join.{IsJoinFault, IsWholeFault}
use Rattle.command_join.proofs.Answered.{whole_fault}
use Rattle.command_join.proofs.joining.join.Goals as goal

pub returns-in_err-whole-clause-refused : goal.returns-in_err-whole-clause-refused
returns-in_err-whole-clause-refused g c =
    let holds = g.F.Files.holds c.args.files.now in
    let fails = g.F.Files.fails c.args.files.now in
    let about = option_map (λ w. w.now) c.in_err-whole.field-0.0.about in
    let fault = c.in_err-whole.field-0.0.fault in
    let refused : IsJoinFault holds fails (map (λ w. w.now) c.args.images.now) about fault =
    whole_fault holds fails (map (λ w. w.now) c.args.images.now) c.in_ok-named.named.items c.in_ok-order.order.items
    about fault c.in_ok-named.ensures c.in_ok-order.ensures.order
    (subst (λ o. IsWholeFault holds fails o about fault) c.as_slice.ensures.value c.in_err-whole.ensures.refused) in
    let p = err_from_is_err_and c.from_residual-in_err-whole.result c.from_residual-in_err-whole.ensures.1 in
    rw (p.1, p.2) refused
