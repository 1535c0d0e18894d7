use Rattle.std.proofs.Common.{◌≡◌, length, arith}
use Rattle.std.proofs.lemmas.Bool.{le-leb, leb-true}
use Rattle.device_entries.proofs.Placing.{counts_fewer, is_from}
use Rattle.device_entries.proofs.places.has_earlier.Goals as goal

pub returns-then-step-gt0 : goal.returns-then-step-gt0
returns-then-step-gt0 c =
    let some : c.args.step ≡ 0 → ⊥ = λ none. omega (arith, none, c.if-step-gt0.true) in (
      λ more. counts_fewer c.args._entries.now (length c.args._entries.now) c.args._device c.args.step c.args.from
          c.args.indexes.now c.requires.places c.requires.step some (leb-true _ _ more),
      λ fewer. le-leb _ _ (is_from c.args._entries.now (length c.args._entries.now) c.args._device c.args.step
          c.args.from c.args.indexes.now c.requires.places c.requires.step some fewer),
    )
