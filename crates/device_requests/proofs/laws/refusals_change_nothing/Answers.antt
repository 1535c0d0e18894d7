use Rattle.device_requests.proofs.Keeping.{keeps}
use Rattle.device_requests.proofs.Unchanged.{unchanged}
use Rattle.device_requests.proofs.Refusing.{refused_alone, refused_keeps}
use Rattle.device_requests.proofs.laws.refusals_change_nothing.Goals as goal

pub returns-clause-nothing : goal.returns-clause-nothing
returns-clause-nothing c = refused_keeps

pub returns-clause-said : goal.returns-clause-said
returns-clause-said c = unchanged

pub returns-clause-alone : goal.returns-clause-alone
returns-clause-alone c = refused_alone

pub returns-clause-frame : goal.returns-clause-frame
returns-clause-frame c = keeps
