-- The lines of what a device outputs.
use Rattle.std.specs.Prelude.{ℕ, List, [], ◌∷◌, ◌++◌, codes}
use Rattle.std.specs.Fmt.{decimal}
use Rattle.std.specs.List.{flat_map}
use Rattle.hex.specs.Hex.{encode_upper}
use Rattle.device_machine.specs.Acts.{act_name}
use Rattle.device_machine.specs.declared.output.Output.{Output}
use Rattle.device_machine.specs.declared.output.Output.TheVariants.{Send, Act}
use Rattle.scenario_words.specs.Words.{ended_line}

-- the line of bytes that are sent: the server that they go to, and the bytes in hex
abbrev pub send_line : ℕ → List ℕ → List ℕ
send_line server hex = ended_line (codes "send " ++ decimal server ++ codes " " ++ hex)

abbrev pub act_line : List ℕ → List ℕ
act_line name = ended_line (codes "act " ++ name)

-- the line of an output
abbrev pub output_line : Output → List ℕ
output_line (Send server bytes) = send_line server (encode_upper bytes)
output_line (Act act) = act_line (act_name act)

-- the line of each output in turn, or a line that says that there is none
abbrev pub output_lines : List Output → List ℕ
output_lines [] = ended_line (codes "nothing")
output_lines (output ∷ outputs) = flat_map output_line (output ∷ outputs)
