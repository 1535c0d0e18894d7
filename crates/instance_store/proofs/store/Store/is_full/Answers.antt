use Rattle.std.proofs.Common.{◌≡◌, false, not, ◌&&◌, leb, length, ap, ◌∙◌}
use Rattle.std.specs.Option.{is_some}
use Rattle.object_defs.specs.Path.{part_of}
use Rattle.instance_store.specs.Stored.{value_at, has_instance, instance_of, parts_of}
use Rattle.instance_store.proofs.Answers.{true_if_many}
use Rattle.instance_store.proofs.store.Store.is_full.Goals as goal

pub returns-clause-full : goal.returns-clause-full
returns-clause-full c =
    let new : false ≡ is_some (value_at c.args.self.now (part_of c.args.path c.args.part)) =
    c.if-holds.ensures.value ∙ ap (λ p. is_some (value_at c.args.self.now p)) c.part.ensures in
    ap (λ ns. leb 32 (length ns)) c.part_numbers-parts.ensures.parts
    ∙ ap (λ b. not b && leb 32 (length (parts_of c.args.self.now c.args.path))) new

pub returns-clause-instance : goal.returns-clause-instance
returns-clause-instance c =
    true_if_many (has_instance c.args.self.now (instance_of c.args.path)) c.part_numbers-parts.result.now
    c.part_numbers-parts.ensures.absent
