use Rattle.std.proofs.Common.{sym, subst, refl, ◌∷◌, ◌++◌, ◌≡◌, ap, ◌∙◌}
use Rattle.coap_codec.specs.Message.{MayFollow, option_bytes}
use Rattle.coap_codec.proofs.OptionLists.{list_goes_on, parts_go_on, last_goes_on}
use Rattle.coap_codec.proofs.reading.push_option.Goals as goal

pub returns-clause-last : goal.returns-clause-last
returns-clause-last c = last_goes_on _ _ _ c.in_ok-push.ensures.items

pub returns-clause-list : goal.returns-clause-list
returns-clause-list c =
    let follows : MayFollow c.args.number
    (record { number = c.in_ok-option.option.number; value = c.in_ok-value.value }) =
    subst (λ v. MayFollow c.args.number (record { number = c.in_ok-option.option.number; value = v }))
    (sym c.in_ok-value.ensures.copy) c.in_ok-option.ensures.follows in
    list_goes_on _ _ _ _ c.in_ok-push.ensures.items c.requires.last c.requires.list follows

pub returns-clause-parts : goal.returns-clause-parts
returns-clause-parts c =
    let rest = c.in_ok-option.option.rest.now in
    let here : c.args.first ∷ c.args.bytes.now
    ≡ option_bytes c.args.number
    (record { number = c.in_ok-option.option.number; value = c.in_ok-value.value }) ++ rest =
    c.in_ok-option.ensures.parts
    ∙ ap (λ v. option_bytes c.args.number (record { number = c.in_ok-option.option.number; value = v }) ++ rest)
    (sym c.in_ok-value.ensures.copy) in
    parts_go_on _ _ _ _ _ _ _ _ _ c.in_ok-push.ensures.items c.requires.last refl refl here
