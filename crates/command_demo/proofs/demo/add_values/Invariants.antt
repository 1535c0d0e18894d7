use Rattle.std.proofs.Common.{◌≡◌, true, drop, map, take}
use Rattle.std.specs.List.{fold}
use Rattle.command_demo.specs.Demo.{row_of, takes_values, with_row}
use Rattle.command_demo.proofs.demo.add_values.Given as goal

abbrev pub invariant-loop-path : goal.invariant-loop-path
invariant-loop-path l = record {
  added : l.template ≡ fold with_row l.fn.template (map row_of (take l.path-index l.rows));
  taken : takes_values l.template (map row_of (drop l.path-index l.rows)) ≡ true;
}
