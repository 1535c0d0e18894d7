use Rattle.std.proofs.Common.{sym, ◌∙◌}
use Rattle.lwm2m_payloads.specs.declared.arguments.Place.TheVariants.{Start}
use Rattle.lwm2m_payloads.proofs.Reading.{are_read, completes}
use Rattle.lwm2m_payloads.proofs.arguments.are_arguments.Goals as goal

pub returns-clause-arguments : goal.returns-clause-arguments
returns-clause-arguments c = (
  λ h. completes c.args.payload.now Start (sym c.are_read.ensures ∙ h),
  λ h. c.are_read.ensures ∙ are_read c.args.payload.now h,
)
