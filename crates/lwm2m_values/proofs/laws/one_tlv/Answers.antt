use Rattle.lwm2m_values.specs.declared.level.Around.TheVariants.{Top}
use Rattle.lwm2m_values.proofs.OneTlv.{one_reading, one_fault, not_both}
use Rattle.lwm2m_values.proofs.Shortest.{nodes_written}
use Rattle.lwm2m_values.proofs.NoShorter.{no_shorter_nodes}
use Rattle.lwm2m_values.proofs.TlvReading.{nodes_of_bytes_exact, nodes_of_bytes_written}
use Rattle.lwm2m_values.proofs.EitherTlv.{either_tlv}
use Rattle.lwm2m_values.proofs.laws.one_tlv.Goals as goal

pub returns : goal.returns
returns c = record {
  nodes = λ bytes f g p q. one_reading f g Top bytes p q;
  fault = λ bytes d e p q. one_fault Top bytes d e p q;
  written = λ f p. nodes_written f Top p.0;
  shortest = λ f bytes below p. no_shorter_nodes f Top bytes p below;
  either = either_tlv;
  not_both = λ bytes f e p q. not_both Top bytes e q f p;
  reads = λ bytes f. nodes_of_bytes_exact f bytes;
  reads_written = nodes_of_bytes_written;
}
