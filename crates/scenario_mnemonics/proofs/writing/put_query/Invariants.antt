use Rattle.std.proofs.Common.{◌≡◌, ◌++◌, drop, true}
use Rattle.std.specs.List.{list_all}
use Rattle.std.specs.Char.{is_ascii_graphic}
use Rattle.std.specs.String.{string_bytes}
use Rattle.scenario_mnemonics.proofs.writing.put_query.Given as goal

-- what is written, and what is still to come, which is graphic
abbrev pub invariant-loop-byte : goal.invariant-loop-byte
invariant-loop-byte l = record {
  so_far : string_bytes l.out ++ drop l.byte-index l.query ≡ string_bytes l.initial.out ++ l.query;
  graphic : list_all is_ascii_graphic (drop l.byte-index l.query) ≡ true;
}
