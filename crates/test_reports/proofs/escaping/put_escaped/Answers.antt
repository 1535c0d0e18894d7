use Rattle.std.proofs.Common.{◌++◌, ap, sym, ◌∙◌}
use Rattle.std.proofs.lemmas.Iterator.{YieldsList-from_chars}
use Rattle.std.proofs.lemmas.Iterator.Consumers.{YieldsList-end}
use Rattle.std.proofs.lemmas.List.{map-id}
use Rattle.std.specs.List.{flat_map}
use Rattle.std.specs.String.{string_bytes}
use Rattle.test_reports.specs.Escaping.{escaped_char, escaped_text}
use Rattle.test_reports.proofs.escaping.put_escaped.Goals as goal

pub returns : goal.returns
unfolding escaped_text
returns c =
    let end = YieldsList-end (YieldsList-from_chars c.args.text.now c.utf8.text cc) c.loop-symbol.yielded _
    c.loop-symbol.yielded_by _ _ c.in-None.is c.next.ensures.steps in
    c.loop-symbol.invariant
    ∙ ap (λ cs. string_bytes c.args.out.now ++ flat_map (escaped_char c.args.escape) cs)
    (sym (map-id c.loop-symbol.yielded) ∙ end.0)
