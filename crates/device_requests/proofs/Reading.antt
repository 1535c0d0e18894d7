-- A request is what the options of its message say.
use Rattle.std.proofs.Common.{◌≡◌, Bool, true, false, Option, None, Some, Result, Ok, Err, refl, ap, subst, ◌∙◌}
use Rattle.std.specs.Bool.{if◌then◌else◌}
use Rattle.std.specs.Result.{result_unwrap_or}
use Rattle.coap_codec.specs.Message.{Message}
use Rattle.object_defs.specs.declared.path.Path.{Path}
use Rattle.device_requests.specs.declared.operation.Operation.{Operation}
use Rattle.device_requests.specs.declared.request.Request.{Request}
use Rattle.device_requests.specs.declared.ruling.Ruling.{Ruling}
use Rattle.device_requests.specs.declared.ruling.Ruling.TheVariants as rule
use Rattle.device_requests.specs.Operation.{operation_of}
use Rattle.device_requests.specs.Options.{accept_of, has_query, has_unrecognized_critical, segments_of, path_of}
use Rattle.device_requests.specs.Request.{AsksFor, RequestsAreSaid, request_by, request_of, request_on, request_with}

asked_by : (m : Message) (r : Request) (path : Path) (operation : Option Operation)
    → has_unrecognized_critical m.options ≡ false → path_of (segments_of m.options) ≡ Some path
    → operation_of m.code (accept_of m.options) (has_query m.options) path ≡ operation
    → request_by m path operation ≡ Ok r → AsksFor m r
asked_by m r path None e f g h = cc
asked_by m r path (Some operation) e f g h =
    let same : request_with m path operation ≡ r = ap (λ (q : Result Request Ruling). result_unwrap_or q r) h in
    subst (AsksFor m) same (record {
      understood = e;
      path = f;
      operation = g;
      accept = refl;
      content_format = refl;
      observe = refl;
    })

asked_on : (m : Message) (r : Request) (b : Bool) (path : Option Path) → has_unrecognized_critical m.options ≡ b
    → path_of (segments_of m.options) ≡ path
    → (if b then Err rule.Options else request_on m path) ≡ Ok r → AsksFor m r
asked_on m r true path e f h = cc
asked_on m r false None e f h = cc
asked_on m r false (Some path) e f h =
    asked_by m r path (operation_of m.code (accept_of m.options) (has_query m.options) path) e f refl h

asked : (m : Message) (r : Request) → request_of m ≡ Ok r → AsksFor m r
asked m r h = asked_on m r (has_unrecognized_critical m.options) (path_of (segments_of m.options)) refl refl h

read_as : (m : Message) (r : Request) → AsksFor m r → request_of m ≡ Ok r
read_as m r a =
    ap (λ (b : Bool). if b then Err rule.Options else request_on m (path_of (segments_of m.options))) a.understood
    ∙ ap (request_on m) a.path
    ∙ ap (request_by m r.path) a.operation
    ∙ (λ i. Ok (record {
      path = r.path;
      operation = r.operation;
      accept = a.accept i;
      content_format = a.content_format i;
      observe = a.observe i;
    }))

pub said : RequestsAreSaid
said m r = (asked m r, read_as m r)
