-- What is known of the program where nothing is known of its words.
use Rattle.std.proofs.Common.{ℕ, ◌≡◌, Bool, List, Result, Ok, Err, IfErr, IfOk}
use Rattle.std.specs.declared.io.ErrorKind.{ErrorKind}
use Rattle.command_files.specs.Files.{most_bytes}
use Rattle.command_files.specs.Input.{IsWithin, WhereKnown}
use Rattle.command_files.specs.Status.{exit_code}
use Rattle.command_files.specs.World.{FilesKnown, StreamFaults, World}
use Rattle.command_files.specs.declared.status.Status.{Status}
use Rattle.lwbench.specs.Command.{Ends}
use Rattle.lwbench.specs.Unread.{EndsUnread}
use Rattle.lwbench.proofs.Ended.{unread}

pub ended : {T : Type 0} (words : Result T ErrorKind) (code : ℕ) (ran : T → Status → Type 0)
    (lost : ErrorKind → Status → Type 0)
    → IfOk words (λ w. (status : Status) × (code ≡ exit_code status) × ran w status)
    → IfErr words (λ why. (status : Status) × (code ≡ exit_code status) × lost why status)
    → (status : Status) × (code ≡ exit_code status)
ended (Ok w) code ran lost done undone = (done.0, done.1)
ended (Err why) code ran lost done undone = (undone.0, undone.1)

pub within : {T : Type 0} (texts : T → List (List ℕ)) (words : Result T ErrorKind) (code : ℕ) (files : FilesKnown)
    (faults : StreamFaults) (before after : World) (terminal : Bool) (text : List ℕ)
    → IfOk words (λ w. (status : Status) × (code ≡ exit_code status) × Ends files faults before after terminal (texts
    w) status)
    → IfErr words (λ why. (status : Status) × (code ≡ exit_code status)
    × EndsUnread faults before after text why status)
    → WhereKnown (IsWithin most_bytes) before.streams.input after.streams.input
within texts (Ok w) code files faults before after terminal text done undone = done.2.within
within texts (Err why) code files faults before after terminal text done undone =
    unread before.streams.input after.streams.input undone.2.none_read
