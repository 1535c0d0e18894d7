use Rattle.std.proofs.Common.{◌≡◌, ◌≤◌, ◌*◌, ◌+◌, min, length, true, ◌∙◌, refl, arith}
use Rattle.fleet_link.proofs.Fleets.{breaks, errs, swept_at}
use Rattle.fleet_link.proofs.Gone.{gone_both, gone_same}
use Rattle.fleet_link.proofs.Seconds.{asked_less, asked_on}
use Rattle.fleet_link.proofs.fleet.Fleet.sweep_slices.Goals as goal

pub returns-in_err-sweep-clause-fleet : goal.returns-in_err-sweep-clause-fleet
returns-in_err-sweep-clause-fleet g c =
    let at = c.loop-slice in
    λ s played before h.
    breaks s played before (g.P.Ports.told c.sweep.new.ports) c.sweep.new.self.slots.items c.sweep.new.self.second
    true _
    (errs c.from_residual.result c.from_residual.ensures.0)
    (c.in_err-sweep.ensures.fleet s played before at.invariant.later (at.invariant.fleet s played before h))

pub returns-in_err-sweep-clause-asked : goal.returns-in_err-sweep-clause-asked
returns-in_err-sweep-clause-asked g c =
    let at = c.loop-slice in
    λ read_before asked_before calls h. asked_less read_before _ asked_before _ _ _ _ calls
    (asked_on read_before _ asked_before _ _ _ _ _ _ _ (at.invariant.asked read_before asked_before calls h)
    c.sweep.ensures.asked c.sweep.ensures.began c.sweep.ensures.second) (omega arith)

pub returns-in_err-listen-clause-fleet : goal.returns-in_err-listen-clause-fleet
returns-in_err-listen-clause-fleet g c =
    let at = c.loop-slice in
    λ s played before h.
    breaks s played before (g.P.Ports.told c.listen.new.ports) c.listen.new.self.slots.items c.listen.new.self.second
    true _
    (errs c.from_residual-in_err-listen.result c.from_residual-in_err-listen.ensures.0)
    (c.in_err-listen.ensures.fleet s played before
    (c.in_ok-sweep.ensures.fleet s played before at.invariant.later (at.invariant.fleet s played before h)))

pub returns-in_err-listen-clause-asked : goal.returns-in_err-listen-clause-asked
returns-in_err-listen-clause-asked g c =
    let at = c.loop-slice in
    λ read_before asked_before calls h. asked_less read_before _ asked_before _ _ _ _ calls
    (c.listen.ensures.asked read_before asked_before (calls + at.slice)
    (asked_on read_before _ asked_before _ _ _ _ _ _ _ (at.invariant.asked read_before asked_before calls h)
    c.sweep.ensures.asked c.sweep.ensures.began c.sweep.ensures.second)) (omega arith)

pub loop-slice-preserved : goal.loop-slice-preserved
loop-slice-preserved g c =
    let at = c.loop-slice in
    let from : min c.len-devices.result (at.slice * 64) ≡ at.slice * 64 = omega arith in
    let to : c.min-to.result ≡ min c.len-devices.result ((at.slice + 1) * 64) = omega (arith, c.min-to.ensures) in
    let order : at.slice * 64 ≤ c.min-to.result = omega (arith, c.min-to.ensures) in
    let later : c.args.self.now.second ≤ c.sweep.new.self.second =
    omega (arith, at.invariant.later, c.sweep.ensures.second) in
    record {
      fleet = λ s played before h. c.in_ok-listen.ensures.fleet s played before
          (c.in_ok-sweep.ensures.fleet s played before at.invariant.later (at.invariant.fleet s played before h));
      swept = λ s played before h.
          swept_at _ c.min-to.result _ c.args.self.now.second to
          (c.in_ok-listen.ensures.swept s played before
          (c.in_ok-sweep.ensures.fleet s played before at.invariant.later (at.invariant.fleet s played before h))
          c.min-to.result
          c.args.self.now.second later
          (c.in_ok-sweep.ensures.swept s played before at.invariant.later (at.invariant.fleet s played before h) order
          (swept_at _ _ (at.slice * 64) c.args.self.now.second from (at.invariant.swept s played before h))));
      went = gone_both c.args.self.now.slots.items c.sweep.new.self.slots.items c.listen.new.self.slots.items
          (gone_both c.args.self.now.slots.items at.self.slots.items c.sweep.new.self.slots.items at.invariant.went
          c.sweep.ensures.went) c.listen.ensures.went;
      fixed = c.listen.ensures.fixed ∙ c.sweep.ensures.fixed ∙ at.invariant.fixed;
      asked = λ read_before asked_before calls h. asked_less read_before _ asked_before _ _ _ _
          (calls + (at.slice + 1))
          (c.in_ok-listen.ensures.heard read_before asked_before (calls + at.slice)
          (asked_on read_before _ asked_before _ _ _ _ _ _ _ (at.invariant.asked read_before asked_before calls h)
          c.sweep.ensures.asked c.sweep.ensures.began c.sweep.ensures.second)) (omega arith);
      later = omega (arith, later, c.listen.ensures.later);
      count = c.listen.ensures.count ∙ c.sweep.ensures.count ∙ at.invariant.count;
    }

pub returns-clause-swept : goal.returns-clause-swept
returns-clause-swept g c =
    let at = c.loop-slice in
    λ s played before h.
    let all : min c.len-devices.result (at.slice * 64) ≡ length at.self.slots.items =
    omega (arith, at.auto.slice-end, at.invariant.count, c.len-devices.ensures, c.args.self.now.slots.ok.0) in
    swept_at at.self.slots.items _ _ c.args.self.now.second all (at.invariant.swept s played before h)

pub loop-slice-init : goal.loop-slice-init
loop-slice-init g c = record {
  fleet = λ s played before h. h;
  swept = λ s played before h e slot l. absurd (omega (arith, l));
  went = gone_same c.args.self.now.slots.items;
  fixed = refl;
  asked = λ read_before asked_before calls h. asked_less read_before _ asked_before _ _ _ _ (calls + 0) h (omega arith);
  later = omega arith;
  count = refl;
}

pub returns-clause-asked : goal.returns-clause-asked
returns-clause-asked g c =
    λ read_before asked_before calls h. asked_less read_before _ asked_before _ _ _ _ calls
    (c.loop-slice.invariant.asked read_before asked_before calls h) (omega arith)

pub returns-clause-heard : goal.returns-clause-heard
returns-clause-heard g c =
    let at = c.loop-slice in
    λ read_before asked_before calls h. asked_less read_before _ asked_before _ _ _ _ (calls + 1)
    (at.invariant.asked read_before asked_before calls h) (omega (arith, at.auto.slice-end))

pub returns-in_err-sweep-clause-went : goal.returns-in_err-sweep-clause-went
returns-in_err-sweep-clause-went g c =
    let at = c.loop-slice in
    gone_both c.args.self.now.slots.items at.self.slots.items c.sweep.new.self.slots.items at.invariant.went
    c.sweep.ensures.went

pub returns-in_err-listen-clause-went : goal.returns-in_err-listen-clause-went
returns-in_err-listen-clause-went g c =
    let at = c.loop-slice in
    gone_both c.args.self.now.slots.items c.sweep.new.self.slots.items c.listen.new.self.slots.items
    (gone_both c.args.self.now.slots.items at.self.slots.items c.sweep.new.self.slots.items at.invariant.went
    c.sweep.ensures.went) c.listen.ensures.went
