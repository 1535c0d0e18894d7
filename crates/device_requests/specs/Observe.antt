-- What a request asks of the observation of its server and token (RFC 7641 section 2).
use Rattle.std.specs.Prelude.{ℕ, ◌==◌, Bool, true, false, Option, None, Some, Result, Ok, Err, if◌then◌else◌}
use Rattle.coap_codec.specs.Message.{Message}
use Rattle.object_defs.specs.declared.path.Path.{Path}
use Rattle.device_requests.specs.declared.observe.Interest.{Interest}
use Rattle.device_requests.specs.declared.observe.Interest.TheVariants.{Register, Cancel}
use Rattle.device_requests.specs.declared.operation.Operation.{Operation}
use Rattle.device_requests.specs.declared.operation.Operation.TheVariants.{Read, Discover, WriteAttributes}
use Rattle.device_requests.specs.declared.operation.Operation.TheVariants.{WriteReplace, WritePartial, Create, Execute}
use Rattle.device_requests.specs.declared.operation.Operation.TheVariants.{Delete}
use Rattle.device_requests.specs.declared.request.Request.{Request}
use Rattle.device_requests.specs.declared.ruling.Ruling.{Ruling}
use Rattle.device_requests.specs.Request.{request_of}

abbrev pub is_read : Operation → Bool
is_read Read = true
is_read Discover = false
is_read WriteAttributes = false
is_read WriteReplace = false
is_read WritePartial = false
is_read Create = false
is_read Execute = false
is_read Delete = false

-- Observe 0 registers, 1 cancels; other numbers mean nothing
abbrev pub interest_in : Option ℕ → Path → Option ℕ → Option Interest
interest_in None path accept = None
interest_in (Some number) path accept =
    if number == 0 then Some (Register path accept) else if number == 1 then Some Cancel else None

-- Observe means something in a Read alone
abbrev pub interest_at : Request → Option Interest
interest_at r = if is_read r.operation then interest_in r.observe r.path r.accept else None

-- a message that is refused as it is read asks nothing
abbrev pub interest_for : Result Request Ruling → Option Interest
interest_for (Err ruling) = None
interest_for (Ok r) = interest_at r

-- what a request asks of the observation of its server and token
abbrev pub interest_of : Message → Option Interest
interest_of m = interest_for (request_of m)
