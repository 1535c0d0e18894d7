use Rattle.std.proofs.Common.{◌++◌, codes, ap}
use Rattle.std.proofs.lemmas.Result.{IfOk-equal}
use Rattle.std.specs.String.{string_bytes}
use Rattle.message_words.proofs.text.put_fault.Goals as goal

pub returns : goal.returns
returns c =
    IfOk-equal c.put_words.result _ _ _ c.put_words.ensures
    (ap (λ t. string_bytes c.args.out.now ++ (codes "no message: " ++ t)) c.fault_reason.ensures)
