use Rattle.lwm2m_values.proofs.OneBytes.{bytes_written, one_value_of_bytes, no_shorter_bytes}
use Rattle.lwm2m_values.proofs.BytesReading.{value_of_bytes_exact, value_of_bytes_written}
use Rattle.lwm2m_values.proofs.laws.one_value_of_bytes.Goals as goal

pub returns : goal.returns
returns c = record {
  written = bytes_written;
  one = one_value_of_bytes;
  shortest = no_shorter_bytes;
  reads =
      value_of_bytes_exact;
  reads_written = value_of_bytes_written;
}
