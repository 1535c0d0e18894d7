use Rattle.std.proofs.Common.{length}
use Rattle.object_defs.specs.declared.path.Path.{Path}
use Rattle.device_requests.specs.Inside.{SpellsPath}
use Rattle.device_requests.proofs.PlainPaths.{SpellsAfter, SpellsBefore}
use Rattle.device_requests.proofs.plain.plain_path.Given as goal

-- what was looked at names the path so far; if the bytes name a path, what is left completes it
abbrev pub invariant-loop-rest : goal.invariant-loop-rest
invariant-loop-rest l = record {
  before : SpellsBefore l.bytes l.rest l.delta l.path;
  after : (whole : Path) → SpellsPath l.bytes whole → SpellsAfter l.rest l.delta l.path whole;
}

abbrev pub decreases-loop-rest : goal.decreases-loop-rest
decreases-loop-rest l = length l.rest
