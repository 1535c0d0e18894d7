use Rattle.std.proofs.Common.{◌≡◌, vec_len}
use Rattle.command_files.proofs.Lines.{IsPart}
use Rattle.command_files.proofs.input.AnyInput.next_line.Given as goal

abbrev pub invariant-loop : goal.invariant-loop
invariant-loop g l = record {
  count : vec_len l.line ≡ l.counter;
  part : IsPart (g.B.Read.remaining l.initial.self) (g.B.Read.remaining l.self) l.line.items;
}
