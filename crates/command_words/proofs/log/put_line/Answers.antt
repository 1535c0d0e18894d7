use Rattle.std.proofs.Common.{◌≡◌, ◌<◌, length, reverse, rules, arith, ap, subst, sym, ◌∙◌}
use Rattle.std.specs.String.{string_bytes}
use Rattle.hex.specs.Hex.{decode_of}
use Rattle.command_words.specs.Logs.{after_spaces, trimmed_line}
use Rattle.command_words.proofs.Logged.{added_one}
use Rattle.command_words.proofs.log.put_line.Goals as goal

pub returns-clause-said : goal.returns-clause-said
returns-clause-said c =
    let same : c.before_spaces-hex.result.now ≡ trimmed_line c.args.line.now =
    c.before_spaces-hex.ensures ∙ ap (λ l. reverse (after_spaces (reverse l))) c.after_spaces.ensures in
    let some : 0 < length c.before_spaces-hex.result.now =
    grind (arith, c.is_empty.ensures, c.if-is_empty.false) in
    added_one c.args.server c.args.line.now c.in_ok-bytes.bytes (string_bytes c.args.out.now)
    (string_bytes c.push_str.new.self) (subst (λ l. 0 < length l) same some)
    (ap decode_of (sym same) ∙ c.in_ok-bytes.ensures.value) (search rules)
