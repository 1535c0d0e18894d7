-- The rule that decides an answer.
use Rattle.std.specs.Prelude.{ℕ, Option, None, Some}
use Rattle.request_reasons.specs.Words.{rule_number}
use Rattle.request_reasons.specs.declared.reasons.Reason.{Reason}
use Rattle.request_reasons.specs.declared.reasons.Reason.TheVariants.{Unrecognized, NoPath, NoOperation, Refused, Done}

-- its number; where no rule refuses the request its operation is done
abbrev pub reason_rule : Reason → Option ℕ
reason_rule (Unrecognized number fault) = Some 3
reason_rule (NoPath fault) = Some 4
reason_rule (NoOperation method path) = Some 5
reason_rule (Refused path operation rule) = Some (rule_number rule)
reason_rule (Done path operation) = None
