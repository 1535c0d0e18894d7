-- The parts of an image and of a trace file, byte for byte: one of each kind.
use Rattle.std.specs.Prelude.{ℕ, pos, negsuc, true, false, List, [], ◌∷◌, None}
use Rattle.byte_layout.specs.Whole.{IsAll}
use Rattle.lwm2m_values.specs.declared.kind.ValueKind.TheVariants as kind
use Rattle.lwm2m_values.specs.declared.value.Value.{Value}
use Rattle.lwm2m_values.specs.declared.value.Value.TheVariants.{Text, Whole, Flag, Opaque, Moment, Link}
use Rattle.object_defs.specs.declared.definition.Ops.TheVariants.{R, W, RW, E}
use Rattle.object_defs.specs.declared.path.Path.TheVariants.{Resource, Part}
use Rattle.device_requests.specs.declared.answer.Act.TheVariants.{Reboot, FactoryReset, RegUpdate, Disable, Missed}
use Rattle.device_machine.specs.declared.event.Event.TheVariants.{Recv, Put, Firmware, Tick}
use Rattle.device_machine.specs.declared.output.Output.{Output}
use Rattle.device_machine.specs.declared.output.Output.TheVariants as output
use Rattle.scenario_layout.specs.Definition.{resources}
use Rattle.scenario_layout.specs.Value as layout
use Rattle.scenario_image.specs.Layout as layouts
use Rattle.scenario_image.specs.declared.step.Step.{Step}
use Rattle.scenario_image.specs.declared.step.Step.TheVariants.{Event, Post, Need}
use Rattle.trace_file.specs.Layout as trace
use Rattle.trace_file.specs.declared.entry.Entry.{Entry}

-- ---- values

-- the bytes are a value
abbrev pub SpellsValue : List ℕ → Value → Type 0
SpellsValue bytes v = IsAll (layout.value None) bytes v

-- the kind first; then the length of a Text in one byte, of an Opaque in two; numbers in 8 bytes of two's complement
pub record ValuesHaveBytes : Type 0 where
  pub text : SpellsValue (0x00 ∷ 0x03 ∷ 0x41 ∷ 0xC3 ∷ 0xA9 ∷ []) (Text (0x41 ∷ 0xC3 ∷ 0xA9 ∷ []))
  pub integer : SpellsValue (0x01 ∷ 0x00 ∷ 0x00 ∷ 0x00 ∷ 0x00 ∷ 0x00 ∷ 0x01 ∷ 0x00 ∷ 0x02 ∷ []) (Whole (pos 65538))
  pub negative : SpellsValue (0x01 ∷ 0xFF ∷ 0xFF ∷ 0xFF ∷ 0xFF ∷ 0xFF ∷ 0xFF ∷ 0xFF ∷ 0xFE ∷ []) (Whole (negsuc 1))
  pub yes : SpellsValue (0x02 ∷ 0x01 ∷ []) (Flag true)
  pub no_flag : SpellsValue (0x02 ∷ 0x00 ∷ []) (Flag false)
  pub bytes : SpellsValue (0x03 ∷ 0x00 ∷ 0x02 ∷ 0xC0 ∷ 0xFF ∷ []) (Opaque (0xC0 ∷ 0xFF ∷ []))
  pub moment : SpellsValue (0x04 ∷ 0x00 ∷ 0x00 ∷ 0x00 ∷ 0x00 ∷ 0x00 ∷ 0x00 ∷ 0x00 ∷ 0x0A ∷ []) (Moment (pos 10))
  pub link : SpellsValue (0x05 ∷ 0x00 ∷ 0x03 ∷ 0x01 ∷ 0x00 ∷ []) (Link 3 256)

-- ---- definitions of resources

-- how many; each its number, what it allows (1 R, 2 W, 3 RW, 4 E), flags (1 multiple, 2 mandatory), and its kind
abbrev pub DefinitionsHaveBytes : Type 0
DefinitionsHaveBytes =
    IsAll resources (
    0x04
    ∷ 0x00 ∷ 0x00 ∷ 0x01 ∷ 0x00 ∷ 0x01
    ∷ 0x00 ∷ 0x01 ∷ 0x02 ∷ 0x02 ∷ 0x03
    ∷ 0x00 ∷ 0x02 ∷ 0x03 ∷ 0x03 ∷ 0x05
    ∷ 0x01 ∷ 0x00 ∷ 0x04 ∷ 0x02 ∷ 0x00
    ∷ []
    ) (
    record { id = 0; ops = R; multiple = false; mandatory = false; kind = kind.Whole }
    ∷ record { id = 1; ops = W; multiple = false; mandatory = true; kind = kind.Opaque }
    ∷ record { id = 2; ops = RW; multiple = true; mandatory = true; kind = kind.Link }
    ∷ record { id = 256; ops = E; multiple = false; mandatory = true; kind = kind.Text }
    ∷ []
    )

-- ---- steps

-- the bytes are a step of a class whose account is server 300
abbrev pub SpellsStep : List ℕ → Step → Type 0
SpellsStep bytes s = IsAll (layouts.step (300 ∷ [])) bytes s

-- the kind first; a path is three numbers and 0, or 1 and the number of a part
pub record StepsHaveBytes : Type 0 where
  pub recv : SpellsStep (0x01 ∷ 0x01 ∷ 0x2C ∷ 0x00 ∷ 0x01 ∷ 0x40 ∷ []) (Event (Recv 300 (0x40 ∷ [])))
  pub tick : SpellsStep (0x02 ∷ 0x00 ∷ 0x01 ∷ 0x51 ∷ 0x80 ∷ []) (Event (Tick 86400))
  pub put : SpellsStep (0x03 ∷ 0x00 ∷ 0x03 ∷ 0x00 ∷ 0x00 ∷ 0x00 ∷ 0x10 ∷ 0x00 ∷ 0x00 ∷ 0x01 ∷ 0x55 ∷ [])
      (Event (Put (Resource 3 0 16) (Text (0x55 ∷ []))))
  pub put_part : SpellsStep
      (0x03 ∷ 0x00 ∷ 0x03 ∷ 0x00 ∷ 0x00 ∷ 0x00 ∷ 0x16 ∷ 0x01 ∷ 0x00 ∷ 0x07 ∷ 0x05 ∷ 0x00 ∷ 0x03 ∷ 0x00 ∷ 0x00 ∷ [])
      (Event (Put (Part 3 0 22 7) (Link 3 0)))
  pub firmware : SpellsStep (0x04 ∷ 0x09 ∷ []) (Event (Firmware 9))
  pub post : SpellsStep (0x05 ∷ 0xFF ∷ []) (Post 255)
  pub need : SpellsStep (0x06 ∷ 0x02 ∷ 0x00 ∷ 0x0F ∷ 0x42 ∷ 0x40 ∷ []) (Need 2 1000000)

-- ---- outputs

-- the bytes are an output
abbrev pub SpellsOutput : List ℕ → Output → Type 0
SpellsOutput bytes o = IsAll trace.output bytes o

-- 1 and a datagram, or 2 and an act
pub record OutputsHaveBytes : Type 0 where
  pub send : SpellsOutput (0x01 ∷ 0x01 ∷ 0x2C ∷ 0x00 ∷ 0x02 ∷ 0x60 ∷ 0x84 ∷ []) (output.Send 300 (0x60 ∷ 0x84 ∷ []))
  pub reboot : SpellsOutput (0x02 ∷ 0x00 ∷ []) (output.Act Reboot)
  pub factory_reset : SpellsOutput (0x02 ∷ 0x01 ∷ []) (output.Act FactoryReset)
  pub registration_update : SpellsOutput (0x02 ∷ 0x02 ∷ []) (output.Act RegUpdate)
  pub disable : SpellsOutput (0x02 ∷ 0x03 ∷ []) (output.Act Disable)
  pub missed : SpellsOutput (0x02 ∷ 0x04 ∷ []) (output.Act Missed)

-- ---- entries

-- the bytes are an entry
abbrev pub SpellsEntry : List ℕ → Entry → Type 0
SpellsEntry bytes e = IsAll trace.entry bytes e

-- the worker and the device in two bytes each, the step in four; then the count of the outputs in four, and these in
-- order
pub record EntriesHaveBytes : Type 0 where
  pub numbers : SpellsEntry
      (0x01 ∷ 0x02 ∷ 0x03 ∷ 0x04 ∷ 0x05 ∷ 0x06 ∷ 0x07 ∷ 0x08 ∷ 0x00 ∷ 0x00 ∷ 0x00 ∷ 0x00 ∷ [])
      (record { worker = 258; device = 772; step = 84281096; outputs = [] })
  pub outputs : SpellsEntry
      (
      0x00 ∷ 0x02 ∷ 0x00 ∷ 0x01 ∷ 0x00 ∷ 0x00 ∷ 0x00 ∷ 0x03
      ∷ 0x00 ∷ 0x00 ∷ 0x00 ∷ 0x02 ∷ 0x02 ∷ 0x00 ∷ 0x02 ∷ 0x03
      ∷ []
      ) (record { worker = 2; device = 1; step = 3; outputs = output.Act Reboot ∷ output.Act Disable ∷ [] })
