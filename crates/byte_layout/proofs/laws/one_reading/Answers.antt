use Rattle.byte_layout.proofs.Whole.{whole_taken, whole_again, whole_broken, whole_refused, one_value, one_fault}
use Rattle.byte_layout.proofs.Whole.{never_both, either, whole_within}
use Rattle.byte_layout.proofs.laws.one_reading.Goals as goal

pub returns-clause-value : goal.returns-clause-value
returns-clause-value g c = one_value g.F.Format.layout c.requires

pub returns-clause-fault : goal.returns-clause-fault
returns-clause-fault g c = one_fault g.F.Format.layout c.requires

pub returns-clause-never_both : goal.returns-clause-never_both
returns-clause-never_both g c = never_both g.F.Format.layout c.requires

pub returns-clause-either : goal.returns-clause-either
returns-clause-either g c = either g.F.Format.layout c.requires

pub returns-clause-within : goal.returns-clause-within
returns-clause-within g c = whole_within g.F.Format.layout c.requires

pub returns-clause-reads_value : goal.returns-clause-reads_value
returns-clause-reads_value g c =
    λ bytes fits a. (
      whole_taken g.F.Format.layout c.requires bytes fits a,
      whole_again g.F.Format.layout c.requires bytes a,
    )

pub returns-clause-reads_break : goal.returns-clause-reads_break
returns-clause-reads_break g c =
    λ bytes fits b. (
      whole_broken g.F.Format.layout c.requires bytes fits b,
      whole_refused g.F.Format.layout c.requires bytes b,
    )
