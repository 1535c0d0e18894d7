-- What is said of the observations: what their present answers are, and their periods. And the seconds at which one of
-- them sends or is removed.
use Rattle.std.specs.Prelude.{◌≡◌, ℕ, ◌<◌, ◌≤◌, false, List, map, if◌then◌else◌}
use Rattle.std.specs.List.{AllZip}
use Rattle.notifier.specs.Due.{is_one_due}
use Rattle.notifier.specs.Observed.{is_named}
use Rattle.notifier.specs.Said.{Watch}
use Rattle.notifier.specs.declared.observation.Observation.{Observation}
use Rattle.notifier.specs.declared.observation.Report.{Report}
use Rattle.notifier.specs.declared.pending.Outlook.{Outlook}
use Rattle.notifier.specs.declared.pending.Pending.{Pending}
use Rattle.notifier.specs.declared.pending.Pending.TheVariants.{Idle, Changed, Gone}
use Rattle.object_defs.specs.declared.path.Path.{Path}
use Rattle.device_requests.specs.Answer.{code_byte, is_content}
use Rattle.device_requests.specs.Client.{Client}
use Rattle.device_requests.specs.Ruling.{code_of}
use Rattle.device_requests.specs.declared.answer.Answer.{Answer}
use Rattle.device_notifications.specs.Period.{pmin_of, pmax_of}
use Rattle.device_notifications.specs.Second.{present_answer, triggers_on}

-- this is pending of a server's observation of a path, and these are the periods that have effect
abbrev pub outlook_with : Client → ℕ → Path → Pending → Outlook
outlook_with client server path pending =
    record { pending = pending; pmin = pmin_of client server path; pmax = pmax_of client server path }

-- an answer that is content, with this payload, beside this last report: whether it triggers
abbrev pub content_outlook : Client → ℕ → Path → Report → List ℕ → Outlook
content_outlook client server path report payload =
    outlook_with client server path (if triggers_on client server path report payload then Changed else Idle)

abbrev pub outlook_on : Client → Observation → Answer → Outlook
outlook_on client o answer =
    if is_content answer then content_outlook client o.server o.path o.report answer.payload
    else outlook_with client o.server o.path (Gone (code_byte (code_of answer.ruling)))

-- what an observation's present answer is, and its periods
abbrev pub outlook_of : Client → Observation → Outlook
outlook_of client o = outlook_on client o (present_answer client o)

-- and those of all of them, in their order
abbrev pub outlooks_of : Client → List Observation → List Outlook
outlooks_of client os = map (outlook_of client) os

-- what was last said of each observation is what its present answer is, and its periods
abbrev pub IsKnown : Client → Watch → Type 0
IsKnown client watch = watch.said ≡ outlooks_of client watch.list

-- so it is of each observation that does not have this name
abbrev pub IsKnownBut : ℕ → List ℕ → Client → Watch → Type 0
IsKnownBut server token client watch =
    AllZip (λ o s. is_named server token o ≡ false → s ≡ outlook_of client o) watch.list watch.said

-- none of them sends or is removed in these seconds
abbrev pub AreAtRest : List Observation → List Outlook → ℕ → ℕ → Type 0
AreAtRest os ss now end = (clock : ℕ) → now < clock → clock ≤ end → is_one_due os ss clock ≡ false
