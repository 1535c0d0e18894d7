use Rattle.std.proofs.Common.{◌<◌, length, ap, arith}
use Rattle.std.proofs.lemmas.List.Edits.{length-remove}
use Rattle.std.proofs.lemmas.Map.Entries.{length-values_of}
use Rattle.notifier.specs.Said.{Watch}
use Rattle.notifier.proofs.observations.Observations.remove.Goals as goal

pub invariant_of-self : goal.invariant_of-self
invariant_of-self c =
    let within : c.args.place < length c.self.inside.said.items =
    omega (
      arith,
      c.requires,
      ap (λ (w : Watch). length w.list) c.self.view_is,
      length-values_of c.self.inside.entries.entries,
      c.self.invariant.1.1,
    ) in (
      c.remove_at.ensures.keyed,
      (
        omega (arith, c.remove_at.ensures.len, c.self.invariant.1.0),
        omega (
          arith,
          c.remove_at.ensures.len,
          c.self.invariant.1.1,
          ap length c.remove.ensures.items,
          length-remove c.self.inside.said.items c.args.place within,
        ),
      ),
    )
