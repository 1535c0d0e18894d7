-- What clauses of private functions name. No promise rests on it.
use Rattle.std.specs.Prelude.{ℕ, ◌==◌, nat_le, Bool, true, ◌&&◌, not, List, [], ◌∷◌, length, Option, None, Some}
use Rattle.std.specs.Prelude.{is_some, take, ◌≡◌, All}
use Rattle.std.specs.List.{list_all}
use Rattle.coap_codec.specs.Message.{IsOptionList, options_bytes}
use Rattle.coap_codec.specs.OptionNumber.{uri_path_option}
use Rattle.coap_codec.specs.declared.option.Opt.{Opt}
use Rattle.object_defs.specs.Lines.{first_line}
use Rattle.object_defs.specs.declared.path.Path.{Path}
use Rattle.object_defs.specs.declared.path.Path.TheVariants.{Object, Instance, Resource, Part}
use Rattle.instance_store.specs.Stored.{Stored, has_instance}
use Rattle.lwm2m_payloads.specs.declared.given.Mode.{Mode}
use Rattle.device_requests.specs.declared.ruling.Ruling.{Ruling}
use Rattle.device_requests.specs.declared.ruling.Ruling.TheVariants.{Limit, Payload, State}
use Rattle.device_requests.specs.declared.write.NewValues.{NewValues}
use Rattle.device_requests.specs.Answer.{Outcome}
use Rattle.device_requests.specs.Client.{Client}
use Rattle.device_requests.specs.Options.{path_of, segments_of}
use Rattle.device_requests.specs.PlainRead.{IsSegment}
use Rattle.device_requests.specs.Refusals.{is_refused_now, unless_taken}
use Rattle.device_requests.specs.Targets.{place_of}
use Rattle.device_requests.specs.Write.{after_write_with_event, event_of, exceeds, mode_at, write_unless}

-- the option is a Uri-Path of a length that it may have
abbrev pub is_segment : Opt → Bool
is_segment o = o.number == uri_path_option && nat_le (length o.value) 255

-- the options name a path, and say nothing else
abbrev pub is_path_alone : List Opt → Bool
is_path_alone options = list_all (λ o. is_segment o) options

-- the bytes are options of Uri-Path alone, and these name the path
pub record SpellsPath (bytes : List ℕ) (path : Path) : Type 0 where
  pub options : List Opt
  pub spelled : bytes ≡ options_bytes 0 options
  pub is_list : IsOptionList 0 options
  pub segments : All IsSegment options
  pub named : path_of (segments_of options) ≡ Some path

-- the numbers of a path; none where there is no path yet
abbrev pub numbers_in : Option Path → List ℕ
numbers_in None = []
numbers_in (Some (Object o)) = o ∷ []
numbers_in (Some (Instance o i)) = o ∷ i ∷ []
numbers_in (Some (Resource o i r)) = o ∷ i ∷ r ∷ []
numbers_in (Some (Part o i r p)) = o ∷ i ∷ r ∷ p ∷ []

-- the instance that a path names, or in which it lies, is there
abbrev pub has_place : Stored → Path → Bool
has_place stored (Object o) = true
has_place stored (Instance o i) = has_instance stored (place_of o i)
has_place stored (Resource o i r) = has_instance stored (place_of o i)
has_place stored (Part o i r n) = has_instance stored (place_of o i)

-- the last rules of a Write, once the format of its payload is served
abbrev pub value_rules : Client → Mode → Path → Option NewValues → List (Bool × Ruling)
value_rules client mode path values =
    (not (is_some values), Payload)
    ∷ (is_refused_now client.store (event_of path values), State)
    ∷ (
      unless_taken (event_of path values) (exceeds (mode_at mode path) client.catalog client.store path values),
      Limit,
    )
    ∷ []

-- what is given is written, where none of these rules refuses it
abbrev pub give : List (Bool × Ruling) → Client → Mode → Path → Option NewValues → Outcome
give rules client mode path values =
    write_unless (first_line rules) client (after_write_with_event (mode_at mode path) client path values
    (event_of path values))

-- as much of a text as shows whether it is longer than a payload, and if not, which payload it is
unfoldable pub beginning : List ℕ → List ℕ
beginning text = take 1025 text
