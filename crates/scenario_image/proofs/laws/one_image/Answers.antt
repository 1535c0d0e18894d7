use Rattle.std.proofs.Common.{refl, sym, ap, ◌∙◌}
use Rattle.byte_layout.proofs.Whole.{whole_again, one_value, one_fault, never_both, either}
use Rattle.scenario_image.specs.Image.{image}
use Rattle.scenario_image.proofs.Imaged.{image_exact, image_valid, image_or_fault}
use Rattle.scenario_image.proofs.laws.one_image.Goals as goal

pub returns-clause-exact : goal.returns-clause-exact
returns-clause-exact c = image_exact

pub returns-clause-scenario : goal.returns-clause-scenario
returns-clause-scenario c = λ bytes a b h k.
    ap (λ x. x.1) (one_value image image_exact bytes (h.0, a) (k.0, b) h.1 k.1)

pub returns-clause-version : goal.returns-clause-version
returns-clause-version c = λ bytes v w a b h k. ap (λ x. x.0) (one_value image image_exact bytes (v, a) (w, b) h k)

pub returns-clause-bytes : goal.returns-clause-bytes
returns-clause-bytes c = λ v s a b h k. h.1 ∙ sym k.1

pub returns-clause-fault : goal.returns-clause-fault
returns-clause-fault c = one_fault image image_exact

pub returns-clause-never_both : goal.returns-clause-never_both
returns-clause-never_both c = λ bytes s f h k. never_both image image_exact bytes (h.0, s) f h.1 k

pub returns-clause-either : goal.returns-clause-either
returns-clause-either c = image_or_fault

pub returns-clause-again : goal.returns-clause-again
returns-clause-again c = λ v s good. whole_again image image_exact (image.spell (v, s)) (v, s) (good, refl)

pub returns-clause-valid : goal.returns-clause-valid
returns-clause-valid c = image_valid
