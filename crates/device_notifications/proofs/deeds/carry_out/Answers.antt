use Rattle.std.proofs.Common.{◌≡◌, ◌<◌, ◌≤◌, ◌∙◌, ◌++◌, ◌∷◌, [], refl, Some, ap, arith, length, slice_get}
use Rattle.std.proofs.Common.{sym, take}
use Rattle.std.proofs.lemmas.List.{append-nil, append_assoc, take_all}
use Rattle.lemmas.proofs.Lists.{item_at, empty_from_length}
use Rattle.device_notifications.specs.Deeds.{left_by_all, said_by_all}
use Rattle.device_notifications.proofs.Planning.{carried_all, left_carried, length-push, more_left, place_within}
use Rattle.device_notifications.proofs.Planning.{said_carried, still_at}
use Rattle.device_notifications.proofs.deeds.carry_out.Goals as goal

pub carry_out_one-place-requires-clause-within : goal.carry_out_one-place-requires-clause-within
carry_out_one-place-requires-clause-within c =
    let old = c.args.observations.now.list in
    let ys = c.loop-deed.yielded in
    let n = length ys in
    let more = more_left c.args.deeds.items ys c.next.new.self.rest.items c.in-Some.deed
    (c.loop-deed.invariant.3 ∙ ap (λ t. ys ++ t) c.in-Some.ensures.steps.0) in
    let inside : n < length old = omega (arith, more, c.requires.each) in
    place_within old c.loop-deed.observations.list (left_by_all c.args.clock (take n old) ys) c.loop-deed.place n inside
    c.loop-deed.invariant.0

pub carry_out_one-place-requires-clause-few : goal.carry_out_one-place-requires-clause-few
carry_out_one-place-requires-clause-few c =
    let ys = c.loop-deed.yielded in
    let more = more_left c.args.deeds.items ys c.next.new.self.rest.items c.in-Some.deed
    (c.loop-deed.invariant.3 ∙ ap (λ t. ys ++ t) c.in-Some.ensures.steps.0) in
    omega (arith, more, c.requires.few, c.loop-deed.invariant.2)

pub loop-deed-preserved : goal.loop-deed-preserved
loop-deed-preserved c =
    let clock = c.args.clock in
    let old = c.args.observations.now.list in
    let ss = c.args.observations.now.said in
    let now = c.loop-deed.observations.list in
    let said_now = c.loop-deed.observations.said in
    let ys = c.loop-deed.yielded in
    let n = length ys in
    let i = c.loop-deed.place in
    let d = c.in-Some.deed in
    let is = c.loop-deed.invariant.3 ∙ ap (λ t. ys ++ t) c.in-Some.ensures.steps.0 in
    let more = more_left c.args.deeds.items ys c.next.new.self.rest.items d is in
    let inside : n < length old = omega (arith, more, c.requires.each) in
    let said_inside : n < length ss = omega (arith, inside, c.loop-deed.invariant.4) in
    let o = item_at old n inside in
    let s = item_at ss n said_inside in
    let o_now : slice_get now i ≡ Some o.0 =
    still_at old now (left_by_all clock (take n old) ys) i n c.loop-deed.invariant.0 ∙ o.1 in
    let s_now : slice_get said_now i ≡ Some s.0 =
    still_at ss said_now (said_by_all (take n ss) ys) i n c.loop-deed.invariant.1 ∙ s.1 in
    let next = c.carry_out_one-place.ensures in (
      left_carried clock old now c.carry_out_one-place.new.observations.list ys d o.0 i c.carry_out_one-place.result
          inside o.1 c.loop-deed.invariant.0 (next.list o.0 o_now),
      said_carried ss said_now c.carry_out_one-place.new.observations.said ys d s.0 i c.carry_out_one-place.result
          said_inside s.1 c.loop-deed.invariant.1 (next.said s.0 s_now),
      omega (arith, next.next, c.loop-deed.invariant.2, length-push ys d n refl),
      is ∙ sym (append_assoc ys (d ∷ []) c.next.new.self.rest.items),
      c.loop-deed.invariant.4,
    )

pub returns-clause-list : goal.returns-clause-list
returns-clause-list c =
    let old = c.args.observations.now.list in
    let ys = c.loop-deed.yielded in
    let none : c.loop-deed.deed-iterator.rest.items ≡ [] =
    empty_from_length c.loop-deed.deed-iterator.rest.items
    (sym c.loop-deed.deed-iterator.rest.ok.0 ∙ c.in-None.ensures.steps.0) in
    let all : c.args.deeds.items ≡ ys =
    c.loop-deed.invariant.3 ∙ ap (λ t. ys ++ t) none ∙ append-nil ys in
    let size : length old ≤ length ys = omega (arith, ap length all, c.requires.each) in
    carried_all old c.loop-deed.observations.list (left_by_all c.args.clock (take (length ys) old) ys) c.loop-deed.place
    (length ys) size c.loop-deed.invariant.0
    ∙ (λ j. left_by_all c.args.clock (take_all (length ys) old size j) (sym all j))

pub returns-clause-said : goal.returns-clause-said
returns-clause-said c =
    let ss = c.args.observations.now.said in
    let ys = c.loop-deed.yielded in
    let none : c.loop-deed.deed-iterator.rest.items ≡ [] =
    empty_from_length c.loop-deed.deed-iterator.rest.items
    (sym c.loop-deed.deed-iterator.rest.ok.0 ∙ c.in-None.ensures.steps.0) in
    let all : c.args.deeds.items ≡ ys =
    c.loop-deed.invariant.3 ∙ ap (λ t. ys ++ t) none ∙ append-nil ys in
    let size : length ss ≤ length ys = omega (arith, ap length all, c.requires.each, c.loop-deed.invariant.4) in
    carried_all ss c.loop-deed.observations.said (said_by_all (take (length ys) ss) ys) c.loop-deed.place
    (length ys) size c.loop-deed.invariant.1
    ∙ (λ j. said_by_all (take_all (length ys) ss size j) (sym all j))
