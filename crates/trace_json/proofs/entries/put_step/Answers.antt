use Rattle.std.proofs.Common.{◌^◌, ◌<◌, append_assoc, append-nil, subst}
use Rattle.trace_json.specs.Steps.{event_json}
use Rattle.trace_json.specs.Writing.{Has64Bits}
use Rattle.trace_json.proofs.entries.put_step.Goals as goal

pub returns-clause-adds : goal.returns-clause-adds
returns-clause-adds c =
    rw (
      c.in_ok-put_event.ensures.adds,
      c.in_ok-key.ensures.ok,
      c.in_ok-put_string.ensures.adds,
      c.in_ok-put_number-5.ensures.adds,
      c.in_ok-put_number-4.ensures.adds,
      c.in_ok-put_number-3.ensures.adds,
      c.in_ok-put_number-2.ensures.adds,
      c.in_ok-put_number.ensures.adds,
      c.as_str.ensures.value,
      c.in_ok-words.ensures,
      c.step_of-step.ensures,
      c.requires,
    ) (simp (append_assoc, append-nil))

pub returns-clause-exact : goal.returns-clause-exact
returns-clause-exact c = (
  c.in_ok-put_number.ensures.exact,
  (
    c.in_ok-put_number-2.ensures.exact,
    (
      c.in_ok-put_number-3.ensures.exact,
      (
        c.in_ok-put_number-4.ensures.exact,
        (
          subst (λ n. n < 2 ^ 64) c.requires c.in_ok-put_number-5.ensures.exact,
          (
            tt,
            (subst (λ o. Has64Bits (event_json o)) c.step_of-step.ensures c.in_ok-put_event.ensures.exact, tt),
          ),
        ),
      ),
    ),
  ),
)
