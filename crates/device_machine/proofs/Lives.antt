-- What holds of requests that all live.
use Rattle.std.proofs.Common.{◌≡◌, ℕ, Bool, ◌&&◌, List, ap, ◌∙◌}
use Rattle.std.specs.List.{filter, find}
use Rattle.device_machine.specs.State.{is_live}
use Rattle.device_machine.specs.Records.{AllLive}
use Rattle.device_machine.specs.declared.recorded.Recorded.{Recorded}
use Rattle.device_machine.proofs.Living.{among_living, filter-filter}

-- those that are kept live
pub kept_live : (clock : ℕ) (rs : List Recorded) → AllLive clock (filter (λ r. is_live clock r) rs)
kept_live clock rs = filter-filter (λ r. is_live clock r) (λ r. is_live clock r) (λ r e. e) rs

-- a search for a living one is a search
pub found_live : (clock : ℕ) (q : Recorded → Bool) (rs : List Recorded) → AllLive clock rs
    → find (λ r. is_live clock r && q r) rs ≡ find q rs
found_live clock q rs all = among_living (λ r. is_live clock r) q rs ∙ ap (λ xs. find q xs) all
