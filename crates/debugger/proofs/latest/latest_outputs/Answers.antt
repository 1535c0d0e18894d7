use Rattle.std.proofs.Common.{◌-◌, ◌<◌, length, slice_index, ◌∙◌, arith}
use Rattle.device_entries.proofs.Placing.{place_at, place_within}
use Rattle.debugger.proofs.OwnOutputs.{latest_read}
use Rattle.debugger.proofs.latest.latest_outputs.Goals as goal

pub bounds-entries-index : goal.bounds-entries-index
bounds-entries-index c =
    let less : c.args.made - 1 < length c.args.indexes.now =
    omega (arith, c.if-made-eq0.false, c.requires.made) in
    place_within c.args.entries.now c.args._device (c.args.made - 1) (slice_index c.args.indexes.now (c.args.made - 1))
    (place_at c.args.entries.now (length c.args.entries.now) c.args._device (c.args.made - 1) c.args.indexes.now
    c.requires.places less)

pub offset_bounds-entries-index : goal.offset_bounds-entries-index
offset_bounds-entries-index c =
    let less : c.args.made - 1 < length c.args.indexes.now =
    omega (arith, c.if-made-eq0.false, c.requires.made) in
    let within : slice_index c.args.indexes.now (c.args.made - 1) < length c.args.entries.now =
    place_within c.args.entries.now c.args._device (c.args.made - 1) (slice_index c.args.indexes.now (c.args.made - 1))
    (place_at c.args.entries.now (length c.args.entries.now) c.args._device (c.args.made - 1) c.args.indexes.now
    c.requires.places less) in
    omega (arith, within)

pub returns : goal.returns
returns c =
    c.as_slice.ensures
    ∙ latest_read c.args._scenario.now c.args.entries.now (length c.args.entries.now) c.args._device c.args.made
    c.args.indexes.now c.index-entries-index.result c.requires.run c.requires.places c.if-made-eq0.false
    c.requires.made c.index-entries-index.is
