-- What a person gets who asks for help.
use Rattle.std.specs.Prelude.{ℕ, Bool, true, false, List, [], ◌∷◌, codes}
use Rattle.std.specs.List.{flat_map}
use Rattle.scenario_words.specs.Words.{ended_line}

-- what `why` does stands before the last line, where the debugger has it
abbrev pub and_why : Bool → List (List ℕ) → List (List ℕ)
and_why false last = last
and_why true last = codes "why D           why device D handled the datagram of its latest step so" ∷ last

-- the commands that a debugger has, which is asked for reasons or not, and what each answers or does
abbrev pub help_lines : Bool → List (List ℕ)
help_lines reasons =
    codes "at              the place: how many entries are before it"
    ∷ codes "forward N       N entries forward"
    ∷ codes "back N          N entries back"
    ∷ codes "break POINT     a breakpoint: at N, step D K, changed D PATH, code D C or notified D"
    ∷ codes "clear ID        removes a breakpoint"
    ∷ codes "resume          to the next place at which a breakpoint holds, or to the end"
    ∷ codes "value D PATH    the value of device D at a path"
    ∷ codes "obs D           the observations of device D"
    ∷ codes "out D           the latest outputs of device D"
    ∷ and_why reasons (codes "quit            the end" ∷ [])

abbrev pub help_text : Bool → List ℕ
help_text reasons = flat_map ended_line (help_lines reasons)
