-- A resource instance that was written is read (OMA LwM2M 1.1 Core, Write and Read).
use Rattle.std.specs.Prelude.{◌≡◌, ℕ, true, List, [], ◌∷◌, Option, Some, Ok}
use Rattle.lwm2m_values.specs.Tree.{part}
use Rattle.lwm2m_values.specs.declared.value.Value.{Value}
use Rattle.object_defs.specs.Catalog.{definition_of}
use Rattle.object_defs.specs.Operations.{can_read}
use Rattle.object_defs.specs.declared.definition.ResourceDef.{ResourceDef}
use Rattle.object_defs.specs.declared.path.Path.TheVariants.{Part}
use Rattle.lwm2m_payloads.specs.Given.{part_given}
use Rattle.lwm2m_payloads.specs.Nodes.{value_payload}
use Rattle.lwm2m_payloads.specs.declared.format.Format.{Format}
use Rattle.lwm2m_payloads.specs.declared.given.Given.TheVariants.{Parts}
use Rattle.lwm2m_payloads.specs.declared.given.Mode.{Mode}
use Rattle.device_requests.specs.declared.answer.Code.TheVariants.{Changed}
use Rattle.device_requests.specs.Access.{may_read}
use Rattle.device_requests.specs.Client.{Client}
use Rattle.device_requests.specs.Laws.{content_within}
use Rattle.device_requests.specs.Outcomes.{read_answer, write_outcome}
use Rattle.device_requests.specs.Read.{format_at}
use Rattle.device_requests.specs.Ruling.{code_of}

-- the payload gives this value to the part, and a Read of it then answers the value in each format that is served, to
-- each server that may read it
pub record IsPartReadBack (client : Client) (o i r n : ℕ) (d : ResourceDef) (number : Option ℕ) (payload : List ℕ)
    (new : Client) : Type 0 where
  pub format : Format
  pub served : format_at client.catalog (Part o i r n) number ≡ Some format
  pub value : Value
  pub given : part_given d n format payload ≡ Ok (Parts ((n, value) ∷ []))
  pub read : (server : ℕ) (accept : Option ℕ) (wanted : Format)
      → may_read new server (Part o i r n) ≡ true
      → format_at new.catalog (Part o i r n) accept ≡ Some wanted
      → read_answer new server (Part o i r n) accept
      ≡ content_within wanted (value_payload wanted (part n) value)

-- a Write of a part of a resource that can be read, answered by Changed
abbrev pub PartIsRead : Type 0
PartIsRead =
    (client : Client) (server : ℕ) (mode : Mode) (o i r n : ℕ) (d : ResourceDef) (number : Option ℕ)
    (payload : List ℕ)
    → definition_of client.catalog o r ≡ Some d → can_read d.ops ≡ true
    → code_of (write_outcome client server mode (Part o i r n) number payload).answer.ruling ≡ Changed
    → IsPartReadBack client o i r n d number payload
    (write_outcome client server mode (Part o i r n) number payload).client
