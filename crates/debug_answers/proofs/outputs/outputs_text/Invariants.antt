use Rattle.std.proofs.Common.{◌≡◌, take}
use Rattle.std.specs.List.{flat_map}
use Rattle.std.specs.String.{string_bytes}
use Rattle.debug_answers.specs.Outputs.{output_line}
use Rattle.debug_answers.proofs.outputs.outputs_text.Given as goal

abbrev pub invariant-loop-output : goal.invariant-loop-output
invariant-loop-output l = string_bytes l.text ≡ flat_map output_line (take l.output-index l.outputs)
