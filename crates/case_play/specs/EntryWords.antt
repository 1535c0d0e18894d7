-- The entries of a run in words, a line each.
use Rattle.std.specs.Prelude.{ℕ, List, [], ◌∷◌, ◌++◌, codes}
use Rattle.std.specs.Fmt.{decimal}
use Rattle.std.specs.List.{flat_map}
use Rattle.device_machine.specs.Acts.{act_name}
use Rattle.device_machine.specs.declared.output.Output.{Output}
use Rattle.device_machine.specs.declared.output.Output.TheVariants.{Send, Act}
use Rattle.scenario_words.specs.HexWord.{hex_word}
use Rattle.scenario_words.specs.Words.{ended_line}
use Rattle.trace_file.specs.declared.entry.Entry.{Entry}

-- an output: a datagram by its server and its bytes in hex, or what is done
abbrev pub output_words : Output → List ℕ
output_words (Send server bytes) = codes "send " ++ decimal server ++ codes " " ++ hex_word bytes
output_words (Act act) = codes "act " ++ act_name act

-- an output after another one
abbrev pub further_words : Output → List ℕ
further_words output = codes ", " ++ output_words output

-- the outputs of a step, or a word that says that there is none
abbrev pub outputs_words : List Output → List ℕ
outputs_words [] = codes "nothing"
outputs_words (output ∷ others) = output_words output ++ flat_map further_words others

-- an entry: its worker, its device, the number of its step, and the outputs
abbrev pub entry_words : Entry → List ℕ
entry_words e =
    codes "worker " ++ decimal e.worker ++ codes " device " ++ decimal e.device ++ codes " step " ++ decimal e.step
    ++ codes ": " ++ outputs_words e.outputs

-- entries in their order, a line each
abbrev pub entries_in_words : List Entry → List ℕ
entries_in_words es = flat_map (λ e. ended_line (entry_words e)) es
