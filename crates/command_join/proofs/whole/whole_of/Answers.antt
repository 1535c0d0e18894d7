use Rattle.std.proofs.Common.{option_map}
use Rattle.std.proofs.lemmas.Result.{err_from_is_err_and}
use Rattle.command_join.specs.Join.{IsWholeFault}
use Rattle.command_join.proofs.Joined.{one_more, refused_at}
use Rattle.command_join.proofs.whole.whole_of.Goals as goal

pub loop-slice-preserved : goal.loop-slice-preserved
loop-slice-preserved g c =
    one_more (g.F.Files.holds c.args.files.now) c.args.slices.now c.loop-slice.slice-index _ c.loop-slice.so_far
    c.in_ok-with_slice.field-0 c.loop-slice.invariant c.loop-slice-test.true c.in_ok-with_slice.ensures.whole

pub returns-in_err-with_slice-clause-refused : goal.returns-in_err-with_slice-clause-refused
returns-in_err-with_slice-clause-refused g c =
    let refused : IsWholeFault (g.F.Files.holds c.args.files.now) (g.F.Files.fails c.args.files.now) c.args.slices.now
    (option_map (λ p. p.now) c.in_err-with_slice.field-0.0.about) c.in_err-with_slice.field-0.0.fault =
    refused_at (g.F.Files.holds c.args.files.now) (g.F.Files.fails c.args.files.now) c.args.slices.now
    c.loop-slice.slice-index _ c.loop-slice.so_far _ c.in_err-with_slice.field-0.0.fault c.loop-slice.invariant
    c.loop-slice-test.true c.in_err-with_slice.ensures.refused in
    let p = err_from_is_err_and c.from_residual.result c.from_residual.ensures.1 in
    rw (p.1, p.2) refused
