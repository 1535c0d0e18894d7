use Rattle.std.proofs.Common.{◌≡◌, ◌<◌, ◌-◌, ◌^◌, ap, inl, length, min, refl, sym, ◌∙◌, arith}
use Rattle.std.proofs.lemmas.Option.{slice_get_within}
use Rattle.std.proofs.Math.ListN.{length-set}
use Rattle.std.specs.List.{list_any}
use Rattle.fleet_link.specs.declared.slot.Slot.{Slot}
use Rattle.fleet_link.specs.Playing.{is_waiting_for, row_state}
use Rattle.fleet_link.specs.Serving.{all_posts}
use Rattle.fleet_link.proofs.Fleets.{all_stand, passed_at, read_at, stand_still}
use Rattle.fleet_link.proofs.Gone.{gone_same, none_can_for, none_tried, one_tried}
use Rattle.fleet_link.proofs.fleet.Fleet.pass_group.Goals as goal

pub loop-place-init : goal.loop-place-init
loop-place-init c = record {
  fleet = λ s played before told h. h;
  stand = λ s played before told h.
      let stand = all_stand s played before told c.args.self.now.slots.items c.args.self.now.second c.args.group h in
      omega (
        arith,
        c.all_posts-posts.ensures,
        ap (λ l. all_posts l c.args.group) c.as_slice-2.ensures.value,
        stand,
      );
  tried = none_tried c.args.group c.all_posts-posts.result c.args.self.now.second c.args.self.now.slots.items;
  second = refl;
  began = refl;
  count = refl;
}

pub loop-place-preserved : goal.loop-place-preserved
loop-place-preserved c =
    let at = c.loop-place in
    let slots = at.self.slots in
    let within : at.place < length slots.items =
    omega (arith, at.invariant.count, c.len-place-end.ensures, c.args.self.now.slots.ok.0) in
    let got = read_at slots.items at.place c.index_mut.result.now within c.index_mut.ensures.value in
    let now : c.args.self.now.second ≡ at.self.second = sym at.invariant.second in
    record {
      fleet = λ s played before told h.
          let so = at.invariant.fleet s played before told h in
          passed_at s played before told slots.items at.self.second c.args.self.now.second at.place c.args.group
          c.all_posts-posts.result c.index_mut.result.now c.pass_need.new.self now so got c.pass_need.ensures.served
          c.pass_need.ensures.passed c.pass_need.ensures.second (at.invariant.stand s played before told h);
      stand = λ s played before told h.
          (let grown = stand_still slots.items at.place c.args.group c.all_posts-posts.result
          c.args.self.now.second c.args.group c.args.self.now.second c.index_mut.result.now c.pass_need.new.self got
          c.pass_need.ensures.passed in
          let so = at.invariant.stand s played before told h in omega (arith, so, grown));
      tried = one_tried c.args.group c.all_posts-posts.result c.args.self.now.second c.args.self.now.slots.items
          slots.items at.place c.index_mut.result.now c.pass_need.new.self at.invariant.tried got (record {
            passed = c.pass_need.ensures.passed;
            kept = c.pass_need.ensures.kept;
            left = c.pass_need.ensures.left;
            share = c.pass_need.ensures.share;
          });
      second = at.invariant.second;
      began = at.invariant.began;
      count = length-set slots.items at.place c.pass_need.new.self ∙ at.invariant.count;
    }

pub returns-then-not-is_awaited-clause-passed : goal.returns-then-not-is_awaited-clause-passed
returns-then-not-is_awaited-clause-passed c =
    λ e slot got on can. absurd (none_can_for c.args.self.now.slots.items e c.args.group _ _ slot c.is_awaited.result
    (c.is_awaited.ensures ∙ ap (list_any (λ (x : Slot). is_waiting_for c.args.group (row_state x.row)))
    c.as_slice.ensures.value) c.if-not-is_awaited.true got can)

pub returns-then-not-is_awaited-clause-same : goal.returns-then-not-is_awaited-clause-same
returns-then-not-is_awaited-clause-same c = λ e slot got. inl got

pub returns-then-not-is_awaited-clause-posts : goal.returns-then-not-is_awaited-clause-posts
returns-then-not-is_awaited-clause-posts c = λ other. omega arith

pub returns-then-not-is_awaited-clause-went : goal.returns-then-not-is_awaited-clause-went
returns-then-not-is_awaited-clause-went c = gone_same c.args.self.now.slots.items

pub returns-clause-passed : goal.returns-clause-passed
returns-clause-passed c =
    let first = c.args.self.now.slots.items in
    let now = c.args.self.now.second in
    λ e slot got on can.
    let within : e < c.loop-place.place =
    omega (
      arith,
      slice_get_within first e slot got,
      c.loop-place.auto.place-end,
      c.len-place-end.ensures,
      c.args.self.now.slots.ok.0,
    ) in
    c.loop-place.invariant.tried.passed e slot within got on (all_posts first c.args.group)
    (c.all_posts-posts.ensures
    ∙ ap (λ l. min (all_posts l c.args.group) (2 ^ 64 - 1)) c.as_slice-2.ensures.value) can

pub returns-clause-same : goal.returns-clause-same
returns-clause-same c = c.loop-place.invariant.tried.same

pub returns-clause-posts : goal.returns-clause-posts
returns-clause-posts c = c.loop-place.invariant.tried.posts_are

pub returns-clause-went : goal.returns-clause-went
returns-clause-went c = c.loop-place.invariant.tried.went
