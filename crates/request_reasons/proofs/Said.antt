-- What a request has of the options of its message.
use Rattle.std.proofs.Common.{◌≡◌, ℕ, ◌∙◌, true, List, Option, None, Some, Ok, refl, sym}
use Rattle.std.proofs.Common.{ap, ◌⊎◌, inl, inr}
use Rattle.coap_codec.specs.Message.{Message}
use Rattle.object_defs.specs.declared.definition.ObjectDef.{ObjectDef}
use Rattle.object_defs.specs.declared.path.Path.{Path}
use Rattle.lwm2m_payloads.specs.declared.given.Mode.{Mode}
use Rattle.lwm2m_payloads.specs.declared.given.Mode.TheVariants.{Replace, Update}
use Rattle.device_requests.specs.declared.operation.Operation.{Operation}
use Rattle.device_requests.specs.declared.operation.Operation.TheVariants.{Read, WriteReplace, WritePartial, Create}
use Rattle.device_requests.specs.declared.operation.Operation.TheVariants.{Delete, Discover, Execute, WriteAttributes}
use Rattle.device_requests.specs.declared.request.Request.{Request}
use Rattle.device_requests.specs.Options.{accept_of, content_format_of, queries_of}
use Rattle.device_requests.specs.Refusals.{Purpose, is_invalid, lacks_format, to_delete, to_create, to_execute}
use Rattle.device_requests.specs.Refusals.{to_read, to_write, to_write_attributes}
use Rattle.device_requests.specs.Client.{Client}
use Rattle.device_requests.specs.Request.{purpose_of, request_of}
use Rattle.device_requests.proofs.Reading.{said}
use Rattle.request_reasons.specs.Formats.{format_named}

pub accept_said : (m : Message) (r : Request) → request_of m ≡ Ok r → r.accept ≡ accept_of m.options
accept_said m r e = sym ((said m r).0 e).accept

pub content_format_said : (m : Message) (r : Request) → request_of m ≡ Ok r
    → r.content_format ≡ content_format_of m.options
content_format_said m r e = sym ((said m r).0 e).content_format

-- a format that is not served is named
pub unserved_named : (catalog : List ObjectDef) (path : Path) (purpose : Purpose)
    → lacks_format catalog path purpose ≡ true → format_named purpose ≡ None → ⊥
unserved_named catalog path (to_read None) h e = cc
unserved_named catalog path (to_read (Some n)) h e = cc
unserved_named catalog path (to_write mode None payload) h e = cc
unserved_named catalog path (to_write mode (Some n) payload) h e = cc
unserved_named catalog path (to_create None payload) h e = cc
unserved_named catalog path (to_create (Some n) payload) h e = cc
unserved_named catalog path (to_execute None payload) h e = cc
unserved_named catalog path (to_execute (Some n) payload) h e = cc
unserved_named catalog path purpose h e = cc

-- what is read is named by Accept, what is given by Content-Format
pub read_named : (m : Message) (operation : Operation) → operation ≡ Read
    → accept_of m.options ≡ format_named (purpose_of m operation)
read_named m operation h = ap (λ o. format_named (purpose_of m o)) (sym h)

pub given_named : (m : Message) (operation : Operation)
    → (operation ≡ WriteReplace) ⊎ ((operation ≡ WritePartial) ⊎ ((operation ≡ Create) ⊎ (operation ≡ Execute)))
    → content_format_of m.options ≡ format_named (purpose_of m operation)
given_named m operation (inl h) = ap (λ o. format_named (purpose_of m o)) (sym h)
given_named m operation (inr (inl h)) = ap (λ o. format_named (purpose_of m o)) (sym h)
given_named m operation (inr (inr (inl h))) = ap (λ o. format_named (purpose_of m o)) (sym h)
given_named m operation (inr (inr (inr h))) = ap (λ o. format_named (purpose_of m o)) (sym h)

-- the purpose of a request that gives something, by what it has of its message
abbrev pub giving : Operation → Option ℕ → List ℕ → Purpose
giving WriteReplace format payload = to_write Replace format payload
giving WritePartial format payload = to_write Update format payload
giving Create format payload = to_create format payload
giving Execute format payload = to_execute format payload
giving operation format payload = to_delete

purpose_given : (m : Message) (r : Request) (operation : Operation) (payload : List ℕ) → request_of m ≡ Ok r
    → payload ≡ m.payload → r.operation ≡ operation
    → purpose_of m operation ≡ giving operation (content_format_of m.options) m.payload
    → purpose_of m r.operation ≡ giving operation r.content_format payload
purpose_given m r operation payload e h is same =
    ap (purpose_of m) is ∙ same
    ∙ ap (λ format. giving operation format m.payload) (sym (content_format_said m r e))
    ∙ ap (giving operation r.content_format) (sym h)

pub replacing : (m : Message) (r : Request) (payload : List ℕ) → request_of m ≡ Ok r → payload ≡ m.payload
    → r.operation ≡ WriteReplace → purpose_of m r.operation ≡ to_write Replace r.content_format payload
replacing m r payload e h is = purpose_given m r WriteReplace payload e h is refl

pub updating : (m : Message) (r : Request) (payload : List ℕ) → request_of m ≡ Ok r → payload ≡ m.payload
    → r.operation ≡ WritePartial → purpose_of m r.operation ≡ to_write Update r.content_format payload
updating m r payload e h is = purpose_given m r WritePartial payload e h is refl

-- in either mode
pub writing : (m : Message) (r : Request) (payload : List ℕ) → request_of m ≡ Ok r → payload ≡ m.payload
    → (r.operation ≡ WriteReplace) ⊎ (r.operation ≡ WritePartial)
    → (mode : Mode) × (purpose_of m r.operation ≡ to_write mode r.content_format payload)
writing m r payload e h (inl is) = (Replace, replacing m r payload e h is)
writing m r payload e h (inr is) = (Update, updating m r payload e h is)

pub creating : (m : Message) (r : Request) (payload : List ℕ) → request_of m ≡ Ok r → payload ≡ m.payload
    → r.operation ≡ Create → purpose_of m r.operation ≡ to_create r.content_format payload
creating m r payload e h is = purpose_given m r Create payload e h is refl

pub executing : (m : Message) (r : Request) (payload : List ℕ) → request_of m ≡ Ok r → payload ≡ m.payload
    → r.operation ≡ Execute → purpose_of m r.operation ≡ to_execute r.content_format payload
executing m r payload e h is = purpose_given m r Execute payload e h is refl

pub annotating : (m : Message) (operation : Operation) → operation ≡ WriteAttributes
    → purpose_of m operation ≡ to_write_attributes (queries_of m.options)
annotating m operation is = ap (purpose_of m) is

-- the other operations give nothing
pub never_invalid : (client : Client) (server : ℕ) (path : Path) (m : Message) (operation : Operation)
    → (operation ≡ Read) ⊎ ((operation ≡ Discover) ⊎ (operation ≡ Delete))
    → is_invalid client server path (purpose_of m operation) ≡ true → ⊥
never_invalid client server path m operation (inl is) h =
    let none = ap (λ o. is_invalid client server path (purpose_of m o)) (sym is) ∙ h in cc
never_invalid client server path m operation (inr (inl is)) h =
    let none = ap (λ o. is_invalid client server path (purpose_of m o)) (sym is) ∙ h in cc
never_invalid client server path m operation (inr (inr is)) h =
    let none = ap (λ o. is_invalid client server path (purpose_of m o)) (sym is) ∙ h in cc
