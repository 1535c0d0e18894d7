use Rattle.std.proofs.Common.{option_map}
use Rattle.std.proofs.lemmas.Result.{err_from_is_err_and}
use Rattle.command_fleet.specs.Servers.{IsServersFault}
use Rattle.command_fleet.proofs.Fixed.{servers_more, words_in, wrong_at}
use Rattle.command_fleet.proofs.servers.servers_of.Goals as goal

pub loop-word-preserved : goal.loop-word-preserved
loop-word-preserved c =
    servers_more c.args.scenario.now c.args.words.now c.loop-word.word-index _ c.loop-word.servers.items
    c.as_slice.result.now c.add.new.servers.items c.in_ok-server.server c.loop-word.invariant c.loop-word-test.true
    c.as_slice.ensures.value c.in_ok-server.ensures.server c.in_ok-add.ensures

pub returns-in_err-server-clause-refused : goal.returns-in_err-server-clause-refused
returns-in_err-server-clause-refused c =
    let refused : IsServersFault c.args.scenario.now (words_in c.args.words.now)
    (option_map (λ w. w.now) c.in_err-server.field-0.0.about) c.in_err-server.field-0.0.fault =
    wrong_at c.args.scenario.now c.args.words.now c.loop-word.word-index _ c.loop-word.servers.items
    c.as_slice.result.now _ _ c.loop-word.invariant c.loop-word-test.true c.as_slice.ensures.value
    c.in_err-server.ensures.wrong c.in_err-server.ensures.about c.in_err-server.ensures.fault in
    let p = err_from_is_err_and c.from_residual.result c.from_residual.ensures.1 in
    rw (p.1, p.2) refused
