use Rattle.std.proofs.Common.{◌≡◌, Bool, IfOk, subst, sym}
use Rattle.std.specs.String.{string_bytes}
use Rattle.debug_answers.specs.Help.{help_text}
use Rattle.debug_answers.proofs.help.show_help.Goals as goal

pub returns-then-reasons : goal.returns-then-reasons
returns-then-reasons c =
    subst (λ (b : Bool). IfOk c.show_help_with_why.result (λ text. string_bytes text ≡ help_text b))
    (sym c.if-reasons.true) c.show_help_with_why.ensures

pub returns-else-reasons : goal.returns-else-reasons
returns-else-reasons c =
    subst (λ (b : Bool). IfOk c.show_plain_help.result (λ text. string_bytes text ≡ help_text b))
    (sym c.if-reasons.false) c.show_plain_help.ensures
