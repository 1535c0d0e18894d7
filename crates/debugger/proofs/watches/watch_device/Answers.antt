use Rattle.std.proofs.Common.{refl, sym, ap, ◌∙◌, Some, arith}
use Rattle.debugger.proofs.Keeping.{got_at, got_none}
use Rattle.debugger.proofs.Watching.{copies_more, has_more, has_pushed, same_has}
use Rattle.debugger.proofs.watches.watch_device.Goals as goal

pub returns-then-has_watch : goal.returns-then-has_watch
returns-then-has_watch c =
    let same = c.as_slice.ensures.value in
    record {
      copies = c.requires;
      own = λ less. same_has c.as_slice.result.now c.args.watched.now.items c.args.device same
          (c.has_watch.ensures c.if-has_watch.true);
      others = λ d has. has;
    }

pub returns-in-None : goal.returns-in-None
returns-in-None c =
    let past = got_none c.args.devices.now c.args.devices.now c.from.result c.args.device refl c.from.ensures
    c.in-None.ensures.lookup.0 in
    record {
      copies = c.requires;
      own = λ less. absurd (omega (arith, less, past));
      others = λ d has. has;
    }

pub returns-in_ok-push-in-Some : goal.returns-in_ok-push-in-Some
returns-in_ok-push-in-Some c =
    let added = c.in_ok-push-in-Some.ensures.items in
    record {
      copies = copies_more c.args.devices.now c.args.watched.now.items c.push.new.self.items _ c.requires
          (got_at c.args.devices.now c.args.devices.now c.from.result c.args.device c.in-Some.kept.now refl
          c.from.ensures c.in-Some.ensures.lookup.0 c.in-Some.ensures.lookup.1
          ∙ ap Some (sym c.in_ok-machine-in-Some.ensures)) added;
      own = λ less. has_pushed c.args.watched.now.items c.push.new.self.items _ c.args.device added refl;
      others = λ d has. has_more c.args.watched.now.items c.push.new.self.items _ d added has;
    }
