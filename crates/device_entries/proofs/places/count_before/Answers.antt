use Rattle.std.proofs.Common.{ℕ, ltb, length, arith, rules}
use Rattle.std.proofs.lemmas.Bool.{ltb-true, ltb-false}
use Rattle.std.proofs.lemmas.List.Sorted.{IsPartitionPoint-from_clause, IsPartitionedBy-ltb}
use Rattle.device_entries.proofs.Placing.{count_is, places_rise}
use Rattle.device_entries.proofs.places.count_before.Goals as goal

pub returns : goal.returns
returns c =
    let rise = places_rise c.args._entries.now (length c.args._entries.now) c.args._device c.args.indexes.now
    c.requires.places in
    let parted = IsPartitionedBy-ltb (λ (x : ℕ). x) c.args.indexes.now c.args.to rise in
    let point = IsPartitionPoint-from_clause (λ x. ltb x c.args.to) _ _ c.partition_point.ensures.partitioned parted
    (λ a r q k. search rules) in
    count_is c.args._entries.now c.args._device c.args.to c.partition_point.result c.args.indexes.now c.requires.places
    c.requires.to c.partition_point.ensures.bound (λ k less. ltb-true _ _ (point.0 k 0 (omega arith) less))
    (λ k more less. ltb-false _ _ (point.1 k 0 more less))
