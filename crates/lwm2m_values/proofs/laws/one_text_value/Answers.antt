use Rattle.lwm2m_values.proofs.OneText.{text_written, one_value, no_shorter_text}
use Rattle.lwm2m_values.proofs.TextReading.{value_of_text_exact, value_of_text_written}
use Rattle.lwm2m_values.proofs.laws.one_text_value.Goals as goal

pub returns : goal.returns
returns c = record {
  written = text_written;
  shortest = no_shorter_text;
  one = one_value;
  reads = value_of_text_exact;
  reads_written =
      value_of_text_written;
}
