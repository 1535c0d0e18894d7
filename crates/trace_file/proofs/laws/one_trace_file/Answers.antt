use Rattle.std.proofs.Common.{refl}
use Rattle.byte_layout.proofs.Whole.{whole_again, one_value, one_fault, never_both, either}
use Rattle.trace_file.specs.Layout.{trace_file}
use Rattle.trace_file.proofs.Exact.{trace_file_exact}
use Rattle.trace_file.proofs.NoLimit.{no_limit}
use Rattle.trace_file.proofs.laws.one_trace_file.Goals as goal

pub returns-clause-exact : goal.returns-clause-exact
returns-clause-exact c = trace_file_exact

pub returns-clause-entries : goal.returns-clause-entries
returns-clause-entries c = one_value trace_file trace_file_exact

pub returns-clause-fault : goal.returns-clause-fault
returns-clause-fault c = one_fault trace_file trace_file_exact

pub returns-clause-never_both : goal.returns-clause-never_both
returns-clause-never_both c = never_both trace_file trace_file_exact

pub returns-clause-either : goal.returns-clause-either
returns-clause-either c = either trace_file trace_file_exact

pub returns-clause-again : goal.returns-clause-again
returns-clause-again c = λ es good. whole_again trace_file trace_file_exact (trace_file.spell es) es (good, refl)

pub returns-clause-no_limit : goal.returns-clause-no_limit
returns-clause-no_limit c = no_limit
