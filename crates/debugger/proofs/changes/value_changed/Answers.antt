use Rattle.std.proofs.Common.{refl}
use Rattle.std.proofs.lemmas.Bool.{false≢true}
use Rattle.std.proofs.lemmas.Option.{slice_get_within}
use Rattle.debugger.proofs.Changing.{no_device, said_differs, said_same, unchanged_at}
use Rattle.debugger.proofs.Keeping.{got_at, got_none}
use Rattle.debugger.proofs.Watching.{no_watch}
use Rattle.debugger.proofs.changes.value_changed.Goals as goal

pub returns-in_default : goal.returns-in_default
returns-in_default c = record {
  changed = λ so. absurd (false≢true so);
  still = λ not_so x at. no_device c.args.devices.now c.args.device x
      (got_none c.args.devices.now c.args.devices.now c.from.result c.args.device refl c.from.ensures
      c.in_default.ensures.lookup.0) at;
}

pub unreachable-requires : goal.unreachable-requires
unreachable-requires c =
    no_watch c.args.watched.now c.args.device c.in_default-watched_device.ensures.none
    (c.requires (slice_get_within c.args.devices.now c.args.device c.in-Some.before.now
    (got_at c.args.devices.now c.args.devices.now c.from.result c.args.device c.in-Some.before.now refl c.from.ensures
    c.in-Some.ensures.lookup.0 c.in-Some.ensures.lookup.1)))

pub returns : goal.returns
returns c =
    let stands = got_at c.args.devices.now c.args.devices.now c.from.result c.args.device c.in-Some.before.now refl
    c.from.ensures c.in-Some.ensures.lookup.0 c.in-Some.ensures.lookup.1 in
    record {
      changed = λ so. record {
        before = c.in-Some.before.now;
        after = c.in-Some-watched_device.after.now;
        stands = stands;
        watch = c.in-Some-watched_device.ensures.some;
        differs = said_differs c.is_same-same.result _ _ _ _ c.is_same-same.ensures c.value.ensures.held
            c.value-2.ensures.held so;
      };
      still = λ not_so x at.
          unchanged_at c.args.devices.now c.args.watched.now c.args.device c.args.path.now c.in-Some.before.now x
          stands at (record {
            after = c.in-Some-watched_device.after.now;
            watch = c.in-Some-watched_device.ensures.some;
            same = said_same c.is_same-same.result _ _ _ _ c.is_same-same.ensures c.value.ensures.held
                c.value-2.ensures.held not_so;
          });
    }
