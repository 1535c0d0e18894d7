use Rattle.std.proofs.Common.{◌∙◌, ap, position, refl, sym}
use Rattle.std.specs.Map.{keys_of}
use Rattle.notifier.specs.contracts.entries.KeyPartialEq.TheImpl.{eq-value}
use Rattle.notifier.proofs.ObservedLaws.{no_place, place_found}
use Rattle.notifier.proofs.entries.place_of.Goals as goal

pub returns-then-token-gt-LONGEST_TOKEN : goal.returns-then-token-gt-LONGEST_TOKEN
returns-then-token-gt-LONGEST_TOKEN c =
    sym (no_place c.args.server c.args.token.now c.args.entries.now.entries c.if-token-gt-LONGEST_TOKEN.true c.requires)

pub returns : goal.returns
returns c =
    c.get_index_of.ensures.index
    ∙ ap (λ k. position (eq-value.it k) (keys_of c.args.entries.now.entries)) c.name_key-key.ensures.key
    ∙ place_found eq-value.it (λ k j. refl) c.args.server c.args.token.now c.name_key-key.ensures.bytes
    c.args.entries.now.entries c.requires
