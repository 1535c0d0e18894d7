use Rattle.std.proofs.Common.{◌≡◌, ◌+◌, ◌≤◌, length, vec_len, arith}
use Rattle.command_files.proofs.LimitedReading.{whole_within}
use Rattle.command_files.proofs.files.read_at_most.Goals as goal

pub returns-clause-whole : goal.returns-clause-whole
returns-clause-whole g c =
    let few : vec_len c.read_to_end.new.buf ≤ c.args.most = omega (arith, c.from-most.ensures) in
    let fits : length c.read_to_end.new.buf.items ≤ c.args.most = omega arith in
    let one_more : c.take.result.limit ≡ c.args.most + 1 = omega (arith, c.from-most.ensures, c.take.ensures.limit) in
    rw (← c.take.ensures.inner)
    (whole_within (g.R.Read.remaining c.take.result.inner) c.new-bytes.result.items c.read_to_end.new.buf.items
    c.take.result.limit c.args.most c.in_ok-read_to_end.ensures.bytes c.new-bytes.ensures.items one_more fits)
