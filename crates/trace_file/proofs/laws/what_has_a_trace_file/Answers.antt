use Rattle.trace_file.proofs.Fitting.{good_fits, fits_good}
use Rattle.trace_file.proofs.laws.what_has_a_trace_file.Goals as goal

pub returns : goal.returns
returns c = λ es. (good_fits es, λ h. fits_good es h.0 h.1)
