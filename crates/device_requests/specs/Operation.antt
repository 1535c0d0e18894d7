-- The operation that a request asks for, by its method and the kind of its path (OMA LwM2M 1.1 Core and Transport).
use Rattle.std.specs.Prelude.{ℕ, ◌==◌, Bool, false, ◌&&◌, Option, None, Some, if◌then◌else◌}
use Rattle.object_defs.specs.declared.path.Path.{Path}
use Rattle.object_defs.specs.declared.path.Path.TheVariants.{Object, Instance, Resource, Part}
use Rattle.device_requests.specs.declared.operation.Operation.{Operation}
use Rattle.device_requests.specs.declared.operation.Operation.TheVariants.{Read, Discover, WriteAttributes}
use Rattle.device_requests.specs.declared.operation.Operation.TheVariants.{WriteReplace, WritePartial, Create, Execute}
use Rattle.device_requests.specs.declared.operation.Operation.TheVariants.{Delete}

-- a row of the table: what stands for an object, an instance, a resource and a part
abbrev pub by_kind : Path → Option Operation → Option Operation → Option Operation → Option Operation → Option Operation
by_kind (Object _) object instance resource part = object
by_kind (Instance _ _) object instance resource part = instance
by_kind (Resource _ _ _) object instance resource part = resource
by_kind (Part _ _ _ _) object instance resource part = part

-- the methods (RFC 7252 section 12.1.1)
abbrev pub get : ℕ
get = 1

abbrev pub post : ℕ
post = 2

abbrev pub put : ℕ
put = 3

abbrev pub delete : ℕ
delete = 4

-- the number of application/link-format (RFC 7252 section 12.3)
abbrev pub link_format : ℕ
link_format = 40

-- Accept of application/link-format (RFC 6690) asks for Discover
abbrev pub asks_for_links : Option ℕ → Bool
asks_for_links None = false
asks_for_links (Some format) = format == link_format

-- the operation, if it is one; else it is Method Not Allowed
abbrev pub operation_of : ℕ → Option ℕ → Bool → Path → Option Operation
operation_of method accept query path =
    if method == get && asks_for_links accept then by_kind path (Some Discover) (Some Discover) (Some Discover) None
    else if method == get then by_kind path (Some Read) (Some Read) (Some Read) (Some Read)
    else if method == put && query
    then by_kind path (Some WriteAttributes) (Some WriteAttributes) (Some WriteAttributes) None
    else if method == put then by_kind path None (Some WriteReplace) (Some WriteReplace) (Some WriteReplace)
    else if method == post then by_kind path (Some Create) (Some WritePartial) (Some Execute) None
    else if method == delete then by_kind path None (Some Delete) None None
    else by_kind path None None None None
