use Rattle.std.proofs.Common.{refl}
use Rattle.scenario_image.proofs.Versions.{first_is, first_from, versions}
use Rattle.scenario_image.proofs.laws.two_versions.Goals as goal

pub returns-clause-versions : goal.returns-clause-versions
returns-clause-versions c = versions

pub returns-clause-first : goal.returns-clause-first
returns-clause-first c = λ s. (first_is s, λ h. first_from s h.0 h.1)

pub returns-clause-saved : goal.returns-clause-saved
returns-clause-saved c = λ bytes s h. ((first_is s h.0).0, refl)
