-- Each part is read.
use Rattle.std.proofs.Common.{◌≡◌, ℕ, true, List, [], ◌∷◌, None, Ok, refl}
use Rattle.std.specs.Prelude.{nat_lt}
use Rattle.std.specs.List.{list_all}
use Rattle.std.specs.Str.{is_utf8}
use lib.Utf8.{encode}
use Rattle.std.proofs.lemmas.Str.{is_utf8-from_IsUtf8}
use Rattle.byte_layout.specs.Exact.{IsExact}
use Rattle.byte_layout.specs.Layout.{raw, number, each}
use Rattle.lwm2m_values.specs.declared.value.Value.{Value}
use Rattle.lwm2m_values.specs.declared.value.Value.TheVariants.{Text}
use Rattle.object_defs.specs.declared.path.Path.TheVariants.{Resource}
use Rattle.device_machine.specs.declared.event.Event.TheVariants.{Put}
use Rattle.device_machine.specs.declared.output.Output.{Output}
use Rattle.scenario_layout.specs.Definition.{ops, resource, resources}
use Rattle.scenario_layout.specs.Value.{kind, opaque, part_number, path, text, value}
use Rattle.scenario_layout.proofs.ExactValue.{value_exact}
use Rattle.scenario_layout.proofs.Definitions.{resources_exact}
use Rattle.scenario_image.specs.Layout as steps_of
use Rattle.scenario_image.specs.Layout.{datagram, firmware, need, post, put, recv, step, tick}
use Rattle.scenario_image.specs.declared.step.Step.{Step}
use Rattle.scenario_image.specs.declared.step.Step.TheVariants.{Event}
use Rattle.trace_file.specs.Layout as trace
use Rattle.trace_file.specs.declared.entry.Entry.{Entry}
use Rattle.trace_file.proofs.Exact.{entry_exact, output_exact}
use Rattle.laws_image.specs.Parts.{DefinitionsHaveBytes, EntriesHaveBytes, OutputsHaveBytes, SpellsEntry, SpellsOutput}
use Rattle.laws_image.specs.Parts.{SpellsStep, SpellsValue, StepsHaveBytes, ValuesHaveBytes}
use Rattle.laws_image.proofs.Bytes.{whole}

accented : is_utf8 (0x41 ∷ 0xC3 ∷ 0xA9 ∷ []) ≡ true
unfolding encode
accented = is_utf8-from_IsUtf8 (0x41 ∷ 0xC3 ∷ 0xA9 ∷ []) (0x41 ∷ 0xE9 ∷ [], (refl, refl))

letter : is_utf8 (0x55 ∷ []) ≡ true
unfolding encode
letter = is_utf8-from_IsUtf8 (0x55 ∷ []) (0x55 ∷ [], (refl, refl))

a_value : (bytes : List ℕ) (v : Value) → list_all (λ b. nat_lt b 256) bytes ≡ true
    → (value None).read bytes ≡ Ok (v, []) → SpellsValue bytes v
a_value bytes v all h = whole (value None) bytes v (value_exact None) all h

pub values : ValuesHaveBytes
unfolding value kind text opaque raw number
values = record {
  text = a_value (0x00 ∷ 0x03 ∷ 0x41 ∷ 0xC3 ∷ 0xA9 ∷ []) (Text (0x41 ∷ 0xC3 ∷ 0xA9 ∷ [])) refl (simp accented refl);
  integer = a_value _ _ refl refl;
  negative = a_value _ _ refl refl;
  yes = a_value _ _ refl refl;
  no_flag = a_value _ _ refl refl;
  bytes = a_value _ _ refl refl;
  moment = a_value _ _ refl refl;
  link = a_value _ _ refl refl;
}

pub definitions : DefinitionsHaveBytes
unfolding resources resource ops kind raw number each
definitions = whole resources _ _ resources_exact refl refl

-- the layout of steps is exact
abbrev Exact : Type 0
Exact = (accounts : List ℕ) → IsExact (step accounts)

a_step : Exact → (bytes : List ℕ) (s : Step) → list_all (λ b. nat_lt b 256) bytes ≡ true
    → (step (300 ∷ [])).read bytes ≡ Ok (s, []) → SpellsStep bytes s
a_step exact bytes s all h = whole (step (300 ∷ [])) bytes s (exact (300 ∷ [])) all h

pub steps : Exact → StepsHaveBytes
unfolding step steps_of.kind recv tick put firmware post need datagram path part_number value kind text opaque raw
    number
steps exact = record {
  recv = a_step exact _ _ refl refl;
  tick = a_step exact _ _ refl refl;
  put = a_step exact (0x03 ∷ 0x00 ∷ 0x03 ∷ 0x00 ∷ 0x00 ∷ 0x00 ∷ 0x10 ∷ 0x00 ∷ 0x00 ∷ 0x01 ∷ 0x55 ∷ [])
      (Event (Put (Resource 3 0 16) (Text (0x55 ∷ [])))) refl (simp letter refl);
  put_part = a_step exact _ _ refl refl;
  firmware = a_step exact _ _ refl refl;
  post = a_step exact _ _ refl refl;
  need = a_step exact _ _ refl refl;
}

an_output : (bytes : List ℕ) (o : Output) → list_all (λ b. nat_lt b 256) bytes ≡ true
    → trace.output.read bytes ≡ Ok (o, []) → SpellsOutput bytes o
an_output bytes o all h = whole trace.output bytes o output_exact all h

pub outputs : OutputsHaveBytes
unfolding trace.output trace.datagram trace.act raw number
outputs = record {
  send = an_output _ _ refl refl;
  reboot = an_output _ _ refl refl;
  factory_reset = an_output _ _ refl refl;
  registration_update = an_output _ _ refl refl;
  disable = an_output _ _ refl refl;
  missed = an_output _ _ refl refl;
}

an_entry : (bytes : List ℕ) (e : Entry) → list_all (λ b. nat_lt b 256) bytes ≡ true
    → trace.entry.read bytes ≡ Ok (e, []) → SpellsEntry bytes e
an_entry bytes e all h = whole trace.entry bytes e entry_exact all h

pub entries : EntriesHaveBytes
unfolding trace.entry trace.output_list trace.output trace.act raw number each
entries = record {
  numbers = an_entry _ _ refl refl;
  outputs = an_entry _ _ refl refl;
}
