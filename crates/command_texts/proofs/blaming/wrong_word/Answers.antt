use Rattle.std.proofs.Common.{rules}
use Rattle.scenario_words.specs.Words.{words}
use Rattle.command_texts.specs.Blamed.{AreRefusedFor}
use Rattle.command_texts.proofs.Searching.{wrong_here}
use Rattle.command_texts.proofs.blaming.wrong_word.Goals as goal

pub returns-then-branch : goal.returns-then-branch
returns-then-branch g c =
    let refused : AreRefusedFor g.L.LineReader.causes c.args.cause (words c.extend_from_slice.new.self.items) =
    search rules in
    wrong_here g.L.LineReader.causes c.args.cause c.args.line.now c.loop-word.so_far.items c.loop-word.left.now
    c.in-Some.word.now c.in-Some.behind.now c.extend_from_slice.new.self.items c.loop-word.invariant
    (search rules) (search rules) refused
