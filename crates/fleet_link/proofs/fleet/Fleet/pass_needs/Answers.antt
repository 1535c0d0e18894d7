use Rattle.std.proofs.Common.{◌∙◌, ap, refl, arith}
use Rattle.std.specs.List.{list_any}
use Rattle.fleet_link.specs.declared.slot.Slot.{Slot}
use Rattle.fleet_link.specs.Playing.{is_waiting, row_state}
use Rattle.fleet_link.proofs.Gone.{all_groups, gone_same, none_can, none_group, one_group_at}
use Rattle.fleet_link.proofs.fleet.Fleet.pass_needs.Goals as goal

pub loop-group-init : goal.loop-group-init
loop-group-init c = record {
  fleet = λ s played before told h. h;
  passed = none_group c.args.self.now.second c.args.self.now.slots.items;
  second = refl;
  began = refl;
  count = refl;
}

pub loop-group-preserved : goal.loop-group-preserved
loop-group-preserved c = record {
  fleet = λ s played before told h. c.pass_group.ensures.fleet s played before told
      (c.loop-group.invariant.fleet s played before told h);
  passed = one_group_at c.args.self.now.second c.loop-group.self.second c.args.self.now.slots.items
      c.loop-group.self.slots.items c.pass_group.new.self.slots.items c.loop-group.group
      c.loop-group.invariant.second c.loop-group.invariant.passed c.pass_group.ensures.passed
      c.pass_group.ensures.same c.pass_group.ensures.posts c.pass_group.ensures.went;
  second = c.pass_group.ensures.second ∙ c.loop-group.invariant.second;
  began = c.pass_group.ensures.began ∙ c.loop-group.invariant.began;
  count = c.pass_group.ensures.count ∙ c.loop-group.invariant.count;
}

pub returns-then-not-has_waiting-clause-passed : goal.returns-then-not-has_waiting-clause-passed
returns-then-not-has_waiting-clause-passed c =
    λ e group slot got on can. absurd (none_can c.args.self.now.slots.items e group _ _ slot c.has_waiting.result
    (c.has_waiting.ensures ∙ ap (list_any (λ (x : Slot). is_waiting (row_state x.row))) c.as_slice.ensures.value)
    c.if-not-has_waiting.true got can)

pub returns-then-not-has_waiting-clause-went : goal.returns-then-not-has_waiting-clause-went
returns-then-not-has_waiting-clause-went c = gone_same c.args.self.now.slots.items

pub returns-clause-passed : goal.returns-clause-passed
returns-clause-passed c =
    all_groups c.args.self.now.second c.args.self.now.slots.items c.loop-group.self.slots.items c.loop-group.group
    c.loop-group.invariant.passed (omega (arith, c.loop-group.auto.group-end))

pub returns-clause-went : goal.returns-clause-went
returns-clause-went c = c.loop-group.invariant.passed.went
