use Rattle.std.proofs.Common.{sym, subst, arith, ap, Err}
use Rattle.device_machine.specs.Reactions.{flat_after_seconds}
use Rattle.device_machine.specs.State.{Shows}
use Rattle.notification_reasons.specs.Happenings.{AreTickHappenings}
use Rattle.notification_reasons.proofs.Spans.{all_told, before_end, fits_rest, goes_there, later_later, more_told}
use Rattle.notification_reasons.proofs.Spans.{quiet_tick}
use Rattle.notification_reasons.proofs.ticks.tick_happenings.Goals as goal

pub returns-in-None : goal.returns-in-None
returns-in-None c = λ f shows ends.
    let all = before_end f.kept.clock c.args.count ends in
    subst (AreTickHappenings f c.args.count) (sym c.new-told.ensures.items)
    (quiet_tick f c.args.count (c.in-None.ensures.quiet f shows (omega (arith, all))))

pub loop-wait-preserved : goal.loop-wait-preserved
loop-wait-preserved c =
    let n = c.args.count in
    let passed = c.loop-wait.passed in
    let wait = c.in-Some-next_wait.wait in
    let within = c.loop-wait.invariant.within in
    let less = c.in-Some-next_wait.ensures.within.1 in
    record {
      within = omega (arith, within, less);
      so_far = λ f shows ends.
          let h = c.loop-wait.invariant.so_far f shows ends in
          let there = flat_after_seconds f passed in
          let rest = c.in-Some-next_wait.ensures.quiet there h.0 (fits_rest f n passed within ends) in
          let goes = goes_there f n passed wait within less ends in (
            subst (Shows c.pass.new.device) (later_later f passed wait) (c.in-Ok.ensures.shows there h.0),
            more_told f passed wait c.loop-wait.told.items c.pass.new.told.items h.1
                (c.in-Ok.ensures.told there h.0 goes rest),
          );
    }

pub returns : goal.returns
returns c = λ f shows ends.
    let h = c.loop-wait.invariant.so_far f shows ends in
    let within = c.loop-wait.invariant.within in
    all_told f c.args.count c.loop-wait.passed c.loop-wait.told.items within h.1
    (c.in_default.ensures.quiet (flat_after_seconds f c.loop-wait.passed) h.0
    (fits_rest f c.args.count c.loop-wait.passed within ends))

pub returns-in-Err-Spent : goal.returns-in-Err-Spent
returns-in-Err-Spent c = λ f shows ends.
    let n = c.args.count in
    let passed = c.loop-wait.passed in
    let h = c.loop-wait.invariant.so_far f shows ends in
    let less = c.in-Some-next_wait.ensures.within.1 in
    let goes = goes_there f n passed c.in-Some-next_wait.wait c.loop-wait.invariant.within less ends in
    absurd (c.in-Err-Spent.ensures.goes (flat_after_seconds f passed) h.0 goes (ap Err c.in-Err-Spent.field-0-is))
