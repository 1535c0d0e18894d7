-- The trace file is read.
use Rattle.std.proofs.Common.{◌≡◌, [], Ok, refl}
use Rattle.byte_layout.specs.Layout.{raw, number, each}
use Rattle.trace_file.specs.Layout.{IsTraceFile, act, datagram, entry, entry_list, output, output_list, trace_file}
use Rattle.trace_file.proofs.Exact.{trace_file_exact}
use Rattle.laws_image.specs.WorkedTrace.{entries, trace}
use Rattle.laws_image.proofs.Bytes.{whole}

read : trace_file.read trace ≡ Ok (entries, [])
unfolding trace_file entry_list entry output_list output datagram act raw number each
read = refl

pub spelled : IsTraceFile trace entries
spelled = whole trace_file trace entries trace_file_exact refl read
