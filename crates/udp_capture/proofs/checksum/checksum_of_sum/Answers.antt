use Rattle.std.proofs.Common.{◌-◌, ap, subst}
use Rattle.udp_capture.specs.Checksum.{ones_sum}
use Rattle.udp_capture.proofs.Sums.{Carries, carries_one, sums, twice}
use Rattle.udp_capture.proofs.checksum.checksum_of_sum.Goals as goal

pub returns : goal.returns
returns c = λ words fit is.
    ap (λ n. 65535 - n)
    (carries_one c.args.total _ (ones_sum words) (twice c.args.total c.ranges.total.fits)
    (subst (λ n. Carries n (ones_sum words)) is (sums words fit)))
