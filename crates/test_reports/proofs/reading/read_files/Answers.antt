use Rattle.std.proofs.Common.{option_map}
use Rattle.std.proofs.lemmas.Result.{err_from_is_err_and}
use Rattle.test_reports.specs.Reading.{IsRefusalOf}
use Rattle.test_reports.proofs.Files.{one_more, paths_in, refused_at, unheld}
use Rattle.test_reports.proofs.reading.read_files.Goals as goal

pub loop-path-preserved : goal.loop-path-preserved
loop-path-preserved g c =
    one_more g.C.TestCase.cases_in (g.F.Files.holds c.args.files.now) c.args.paths.now c.loop-path.path-index _
    c.loop-path.all.items c.add.new.all.items c.in_ok-file.file c.loop-path.invariant c.loop-path-test.true
    c.in_ok-file.ensures.path
    c.in_ok-file.ensures.found c.in_ok-add.ensures

pub returns-in_err-file-clause-refused : goal.returns-in_err-file-clause-refused
returns-in_err-file-clause-refused g c =
    let refused : IsRefusalOf g.C.TestCase.cases_in (g.F.Files.holds c.args.files.now)
    (g.F.Files.fails c.args.files.now)
    (paths_in c.args.paths.now) (option_map (λ p. p.now) c.in_err-file.field-0.0.about)
    c.in_err-file.field-0.0.fault =
    refused_at g.C.TestCase.cases_in (g.F.Files.holds c.args.files.now)
    (g.F.Files.fails c.args.files.now) c.args.paths.now
    c.loop-path.path-index _ c.loop-path.all.items _ c.in_err-file.field-0.0.fault c.loop-path.invariant
    c.loop-path-test.true c.in_err-file.ensures.names_path c.in_err-file.ensures.refused in
    let p = err_from_is_err_and c.from_residual.result c.from_residual.ensures.1 in
    rw (p.1, p.2) refused

pub returns-in_err-add-clause-refused : goal.returns-in_err-add-clause-refused
returns-in_err-add-clause-refused g c =
    let p = err_from_is_err_and c.from_residual-in_err-add.result c.from_residual-in_err-add.ensures.1 in
    rw (p.1)
    (unheld g.C.TestCase.cases_in (g.F.Files.holds c.args.files.now) (g.F.Files.fails c.args.files.now) c.args.paths.now
    (option_map (λ p. p.now) p.0.about) p.0.fault p.2)
