-- Why a message is refused as it is read.
use Rattle.std.proofs.Common.{◌≡◌, ℕ, Bool, true, false, cond, Option, None, Some, Result, Ok, Err, refl, subst}
use Rattle.coap_codec.specs.Message.{Message}
use Rattle.object_defs.specs.declared.path.Path.{Path}
use Rattle.device_requests.specs.declared.operation.Operation.{Operation}
use Rattle.device_requests.specs.declared.request.Request.{Request}
use Rattle.device_requests.specs.declared.ruling.Ruling.{Ruling}
use Rattle.device_requests.specs.declared.ruling.Ruling.TheVariants.{Options, NoPath, Method}
use Rattle.device_requests.specs.Operation.{operation_of}
use Rattle.device_requests.specs.Options.{accept_of, has_query, has_unrecognized_critical, path_of, segments_of}
use Rattle.device_requests.specs.Order.{Asks}
use Rattle.device_requests.specs.Request.{request_by, request_of, request_on}
use Rattle.device_requests.proofs.Reading.{said}
use Rattle.request_reasons.specs.Reasons.{LacksOperation}

-- what each rule says of a message that is refused as it is read; the others refuse none
abbrev pub IsUnread : Message → Ruling → Type 0
IsUnread m Options = has_unrecognized_critical m.options ≡ true
IsUnread m NoPath = (has_unrecognized_critical m.options ≡ false) × (path_of (segments_of m.options) ≡ None)
IsUnread m Method =
    (path : Path) × (has_unrecognized_critical m.options ≡ false) × (path_of (segments_of m.options) ≡ Some path)
    × (operation_of m.code (accept_of m.options) (has_query m.options) path ≡ None)
IsUnread m _ = ⊥

ruled : (m : Message) (by is : Ruling) (x : Result Request Ruling) → x ≡ Err by → x ≡ Err is → IsUnread m by
    → IsUnread m is
ruled m by is x e k h = let same : by ≡ is = cc in subst (λ (r : Ruling). IsUnread m r) same h

unread_by : (m : Message) (path : Path) (operation : Option Operation) (is : Ruling)
    → has_unrecognized_critical m.options ≡ false → path_of (segments_of m.options) ≡ Some path
    → operation_of m.code (accept_of m.options) (has_query m.options) path ≡ operation
    → request_by m path operation ≡ Err is → IsUnread m is
unread_by m path None is h k o e = ruled m Method is _ refl e (path, h, k, o)
unread_by m path (Some operation) is h k o e = cc

unread_if : (m : Message) (critical : Bool) (path : Option Path) (is : Ruling)
    → has_unrecognized_critical m.options ≡ critical → path_of (segments_of m.options) ≡ path
    → cond critical (Err Options) (request_on m path) ≡ Err is → IsUnread m is
unread_if m true path is h k e = ruled m Options is _ refl e h
unread_if m false None is h k e = ruled m NoPath is _ refl e (h, k)
unread_if m false (Some path) is h k e =
    unread_by m path (operation_of m.code (accept_of m.options) (has_query m.options) path) is h k refl e

pub unread : (m : Message) (ruling is : Ruling) → request_of m ≡ Err ruling → ruling ≡ is → IsUnread m is
unread m ruling is e same =
    subst (λ (r : Ruling). IsUnread m r) same
    (unread_if m (has_unrecognized_critical m.options) (path_of (segments_of m.options)) ruling refl refl e)

never_by : (m : Message) (is : Ruling) → IsUnread m is → (is ≡ Options → ⊥) → (is ≡ NoPath → ⊥) → (is ≡ Method → ⊥) → ⊥
never_by m Options h a b d = a refl
never_by m NoPath h a b d = b refl
never_by m Method h a b d = d refl
never_by m _ h a b d = h

-- the other rules refuse no message as it is read
pub never : (m : Message) (is : Ruling) → request_of m ≡ Err is → (is ≡ Options → ⊥) → (is ≡ NoPath → ⊥)
    → (is ≡ Method → ⊥) → ⊥
never m is e = never_by m is (unread m is is e refl)

-- a request that was read asks for its operation
pub asks : (m : Message) (r : Request) → request_of m ≡ Ok r → Asks m r.path r.operation
asks m r e =
    let is = (said m r).0 e in
    record { understood = is.understood; goes_to = is.path; means = is.operation }

-- a method that has no operation at a path
pub lacking : (m : Message) (ruling : Ruling) (path : Path) (method : ℕ) → request_of m ≡ Err ruling → ruling ≡ Method
    → path_of (segments_of m.options) ≡ Some path → m.code ≡ method → LacksOperation m method path
lacking m ruling path method e k h is =
    let told : IsUnread m Method = unread m ruling Method e k in
    let same : told.0 ≡ path = cc in
    record {
      understood = told.1;
      goes_to = h;
      means =
          subst (λ (p : Path). operation_of m.code (accept_of m.options) (has_query m.options) p ≡ None) same told.3;
      method_is = is;
    }
