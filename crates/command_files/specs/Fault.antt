-- The faults of the program, and what they come from.
use Rattle.std.specs.Prelude.{⊤}
use Rattle.hex.specs.declared.error.FromHexError.{FromHexError}
use Rattle.hex.specs.declared.error.FromHexError.TheVariants.{InvalidHexCharacter, OddLength, InvalidStringLength}
use Rattle.hex.specs.declared.error.FromHexError.TheVariants.{OutOfMemory}
use Rattle.scenario_words.specs.declared.cause.Cause.{Cause}
use Rattle.scenario_words.specs.declared.cause.Cause.TheVariants as cause
use Rattle.scenario_asm.specs.declared.fault.TextFault.{TextFault}
use Rattle.case_text.specs.declared.fault.CaseFault.{CaseFault}
use Rattle.case_text.specs.declared.fault.Why.{Why}
use Rattle.case_text.specs.declared.fault.Why.TheVariants as why
use Rattle.byte_layout.specs.declared.fault.LayoutFault.{LayoutFault}
use Rattle.byte_layout.specs.declared.fault.LayoutFault.TheVariants as layout
use Rattle.trace_file.specs.declared.fault.WriteFault.{WriteFault}
use Rattle.trace_file.specs.declared.fault.WriteFault.TheVariants as trace
use Rattle.device_template.specs.declared.fault.TemplateFault.{TemplateFault}
use Rattle.device_template.specs.declared.fault.TemplateFault.TheVariants as template
use Rattle.scenario_image.specs.declared.fault.ScenarioFault.{ScenarioFault}
use Rattle.scenario_image.specs.declared.fault.ScenarioFault.TheVariants as session
use Rattle.command_files.specs.declared.fault.Fault.{Fault}
use Rattle.command_files.specs.declared.fault.Fault.TheVariants.{Hex, Memory, Read, Write, Layout, Text, TooLarge}
use Rattle.command_files.specs.declared.fault.Fault.TheVariants.{Template, Session, Cases}

-- the fault of a text that could not be read as hex: a lack of memory is not the text's fault
abbrev pub hex_fault : FromHexError → Fault
hex_fault OutOfMemory = Memory
hex_fault OddLength = Hex
hex_fault InvalidStringLength = Hex
hex_fault (InvalidHexCharacter c i) = Hex

-- the fault of bytes that are no file of their kind: a lack of memory is not the bytes' fault
abbrev pub layout_fault : LayoutFault → Fault
layout_fault layout.Magic = Layout layout.Magic
layout_fault layout.Version = Layout layout.Version
layout_fault layout.Cut = Layout layout.Cut
layout_fault layout.Trailing = Layout layout.Trailing
layout_fault (layout.BadField place) = Layout (layout.BadField place)
layout_fault (layout.Limit place) = Layout (layout.Limit place)
layout_fault layout.Memory = Memory

abbrev pub refused_text : Cause → TextFault → Fault
refused_text cause.Memory fault = Memory
refused_text _ fault = Text fault

-- the fault of a text that denotes no scenario: a lack of memory is not the text's fault
abbrev pub text_fault : TextFault → Fault
text_fault fault = refused_text fault.cause fault

-- the fault of entries that got no trace file
abbrev pub trace_fault : WriteFault → Fault
trace_fault trace.TooLarge = TooLarge
trace_fault trace.Memory = Memory

-- the fault of a template that refused a part: a lack of memory is not the part's fault
abbrev pub template_fault : TemplateFault → Fault
template_fault template.Range = Template template.Range
template_fault template.Missing = Template template.Missing
template_fault template.Duplicate = Template template.Duplicate
template_fault template.Full = Template template.Full
template_fault template.Memory = Memory

-- the fault of steps that are not the row of a scenario: a lack of memory is not theirs
abbrev pub session_fault : ScenarioFault → Fault
session_fault session.Range = Session session.Range
session_fault session.Missing = Session session.Missing
session_fault session.Limit = Session session.Limit
session_fault session.Memory = Memory

abbrev pub refused_cases : Why → CaseFault → Fault
refused_cases why.Memory fault = Memory
refused_cases _ fault = Cases fault

-- the fault of a file that is no file of cases: a lack of memory is not the file's fault
abbrev pub case_fault : CaseFault → Fault
case_fault fault = refused_cases fault.why fault

-- what may befall a text that is printed, or a file that is made: a lack of memory, or that it was not taken
abbrev pub IsWritingFault : Type 0 → Fault → Type 0
IsWritingFault refused Memory = ⊤
IsWritingFault refused Write = refused
IsWritingFault refused _ = ⊥

-- what may befall a file that is read: a lack of memory, or that it could not be read
abbrev pub IsReadingFault : Type 0 → Fault → Type 0
IsReadingFault fails Memory = ⊤
IsReadingFault fails Read = fails
IsReadingFault fails _ = ⊥
