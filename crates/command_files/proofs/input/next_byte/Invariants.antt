use Rattle.std.specs.Io.KnownBytes.{Keeps}
use Rattle.command_files.proofs.input.next_byte.Given as goal

abbrev pub invariant-loop : goal.invariant-loop
invariant-loop g l = Keeps (g.B.Read.remaining l.initial.reader) (g.B.Read.remaining l.reader)
