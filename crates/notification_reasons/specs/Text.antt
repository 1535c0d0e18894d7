-- A happening in words.
use Rattle.std.specs.Prelude.{ℕ, List, ◌++◌, codes}
use Rattle.std.specs.Fmt.{decimal, signed_decimal}
use Rattle.object_defs.specs.Path.{path_text}
use Rattle.device_requests.specs.Discover.{thousandths_text}
use Rattle.message_words.specs.Names.{class_and_detail}
use Rattle.scenario_words.specs.Words.{ended_line}
use Rattle.notification_reasons.specs.declared.reasons.DueBy.{DueBy}
use Rattle.notification_reasons.specs.declared.reasons.DueBy.TheVariants.{Gt, Lt, St, Payload, Pmax}
use Rattle.notification_reasons.specs.declared.reasons.NotificationReason.{NotificationReason}
use Rattle.notification_reasons.specs.declared.reasons.NotificationReason.TheVariants.{Due, Resent, Ended, Unacknowledged}
use Rattle.notification_reasons.specs.declared.reasons.Happening.{Happening}

-- one number and then another, between which this bound lies; or so far apart
abbrev pub crossed_words : List ℕ → List ℕ → List ℕ → List ℕ → List ℕ
crossed_words old now name bound = old ++ codes " to " ++ now ++ codes " crosses " ++ name ++ codes " " ++ bound

abbrev pub stepped_words : List ℕ → List ℕ → List ℕ → List ℕ
stepped_words old now st = codes "|" ++ old ++ codes " - " ++ now ++ codes "| >= st " ++ st

abbrev pub elapsed_words : ℕ → List ℕ
elapsed_words pmax = codes "pmax " ++ decimal pmax ++ codes " is over, with no trigger"

-- what makes content due: the number that was last reported stands before the present one; gt, lt and st are written as
-- a Discover shows them
abbrev pub due_text : DueBy → List ℕ
due_text (Gt old now gt) =
    crossed_words (signed_decimal old) (signed_decimal now) (codes "gt") (thousandths_text gt)
due_text (Lt old now lt) =
    crossed_words (signed_decimal old) (signed_decimal now) (codes "lt") (thousandths_text lt)
due_text (St old now st) = stepped_words (signed_decimal old) (signed_decimal now) (thousandths_text st)
due_text Payload = codes "another payload"
due_text (Pmax pmax) = elapsed_words pmax

-- what happens, for what path and in what second
abbrev pub head_text : List ℕ → List ℕ → ℕ → List ℕ
head_text what path second = what ++ codes " of " ++ path ++ codes " in second " ++ decimal second

abbrev pub notification_text : List ℕ → ℕ → List ℕ
notification_text path second = head_text (codes "notification") path second

abbrev pub end_text : List ℕ → ℕ → List ℕ
end_text path second = head_text (codes "end of the observation") path second

abbrev pub due_words : List ℕ → List ℕ → ℕ → ℕ → List ℕ
due_words head why age pmin =
    head ++ codes ": " ++ why ++ codes ", " ++ decimal age ++ codes " s after the last message, pmin " ++ decimal pmin

abbrev pub resent_words : List ℕ → ℕ → ℕ → List ℕ
resent_words head times after =
    head ++ codes ": resending " ++ decimal times ++ codes " of 4, " ++ decimal after
    ++ codes " s after the first sending"

abbrev pub ended_words : List ℕ → List ℕ → List ℕ
ended_words head code = head ++ codes ": the present answer is " ++ code

abbrev pub given_up_words : List ℕ → ℕ → List ℕ
given_up_words head after =
    head ++ codes ": nobody acknowledged its notification, first sent " ++ decimal after ++ codes " s before"

abbrev pub reason_words : List ℕ → ℕ → NotificationReason → List ℕ
reason_words path second (Due by age pmin) = due_words (notification_text path second) (due_text by) age pmin
reason_words path second (Resent times after) = resent_words (notification_text path second) times after
reason_words path second (Ended code) = ended_words (end_text path second) (class_and_detail code)
reason_words path second (Unacknowledged after) = given_up_words (end_text path second) after

-- the words of a happening, in one line
abbrev pub happening_text : Happening → List ℕ
happening_text h = reason_words (path_text h.path) h.second h.reason

-- the line of a happening, which begins as a comment does
abbrev pub happening_line : Happening → List ℕ
happening_line h = ended_line (codes "    # " ++ happening_text h)
