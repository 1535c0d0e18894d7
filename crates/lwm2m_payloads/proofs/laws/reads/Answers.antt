use Rattle.lwm2m_payloads.proofs.ShownAgain.{shown_again}
use Rattle.lwm2m_payloads.proofs.laws.reads.Goals as goal

pub returns : goal.returns
returns c = record { shown = shown_again }
