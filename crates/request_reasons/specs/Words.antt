-- A reason in words.
use Rattle.std.specs.Prelude.{ℕ, ◌==◌, Bool, List, [], ◌∷◌, ◌++◌, Option, None, Some, codes, if◌then◌else◌}
use Rattle.std.specs.Prelude.{true, false, ℤ}
use Rattle.std.specs.Fmt.{decimal, signed_decimal}
use Rattle.object_defs.specs.Numbers.{firmware_update_object, package_uri, update_package}
use Rattle.object_defs.specs.Path.{object_in, path_text}
use Rattle.object_defs.specs.declared.definition.Ops.{Ops}
use Rattle.object_defs.specs.declared.path.Path.{Path}
use Rattle.object_defs.specs.declared.path.Path.TheVariants.{Object, Instance, Resource, Part}
use Rattle.access_control.specs.declared.letters.Rights.{Rights}
use Rattle.device_instances.specs.declared.room.NoRoom.{NoRoom}
use Rattle.device_instances.specs.declared.room.NoRoom.TheVariants.{Instances, Controls}
use Rattle.device_instances.specs.declared.room.NoRoom.TheVariants as no_room
use Rattle.device_requests.specs.declared.operation.Operation.{Operation}
use Rattle.device_requests.specs.declared.operation.Operation.TheVariants.{Read, Discover, WriteAttributes}
use Rattle.device_requests.specs.declared.operation.Operation.TheVariants.{WriteReplace, WritePartial, Create, Execute}
use Rattle.device_requests.specs.declared.operation.Operation.TheVariants.{Delete}
use Rattle.device_requests.specs.Targets.{is_resource}
use Rattle.message_words.specs.Names.{formats, name_in}
use Rattle.request_reasons.specs.PayloadWords.{bytes_text, ops_text, unfit_words}
use Rattle.request_reasons.specs.declared.format.Served.{Served}
use Rattle.request_reasons.specs.declared.format.Served.TheVariants.{TlvAlone, PlainTextAlone, PlainTextAndTlv, All}
use Rattle.request_reasons.specs.declared.limit.FirmwareState.{FirmwareState}
use Rattle.request_reasons.specs.declared.limit.FirmwareState.TheVariants as state
use Rattle.request_reasons.specs.declared.limit.Limit.{Limit}
use Rattle.request_reasons.specs.declared.limit.Limit.TheVariants.{Size, Parts, Room}
use Rattle.request_reasons.specs.declared.options.OptionFault.{OptionFault}
use Rattle.request_reasons.specs.declared.options.OptionFault.TheVariants.{Unknown, Length, Repeated}
use Rattle.request_reasons.specs.declared.reasons.Reason.{Reason}
use Rattle.request_reasons.specs.declared.reasons.Reason.TheVariants.{Unrecognized, NoPath, NoOperation, Refused, Done}
use Rattle.request_reasons.specs.declared.reasons.Rule.{Rule}
use Rattle.request_reasons.specs.declared.reasons.Rule.TheVariants as rule
use Rattle.request_reasons.specs.declared.right.Grant.{Grant}
use Rattle.request_reasons.specs.declared.right.Grant.TheVariants.{OfControl, Unreferred, Own, Owner, Default, NoEntry}
use Rattle.request_reasons.specs.declared.right.Letter.{Letter}
use Rattle.request_reasons.specs.declared.right.Letter.TheVariants as letter
use Rattle.request_reasons.specs.declared.target.Missing.{Missing}
use Rattle.request_reasons.specs.declared.target.Missing.TheVariants as missing
use Rattle.request_reasons.specs.declared.uri_path.PathFault.{PathFault}
use Rattle.request_reasons.specs.declared.uri_path.PathFault.TheVariants.{Segment, Count}

-- ---- operations and paths

abbrev pub operation_name : Operation → List ℕ
operation_name Read = codes "Read"
operation_name Discover = codes "Discover"
operation_name WriteReplace = codes "Write"
operation_name WritePartial = codes "Write"
operation_name WriteAttributes = codes "Write-Attributes"
operation_name Create = codes "Create"
operation_name Execute = codes "Execute"
operation_name Delete = codes "Delete"

abbrev pub kind_text : Path → List ℕ
kind_text (Object _) = codes "an object"
kind_text (Instance _ _) = codes "an instance"
kind_text (Resource _ _ _) = codes "a resource"
kind_text (Part _ _ _ _) = codes "a part"

-- the instance, and the resource, that a path begins with, where it is so long
abbrev pub instance_path : Path → Path
instance_path (Object o) = Object o
instance_path (Instance o i) = Instance o i
instance_path (Resource o i r) = Instance o i
instance_path (Part o i r n) = Instance o i

abbrev pub resource_path : Path → Path
resource_path (Object o) = Object o
resource_path (Instance o i) = Instance o i
resource_path (Resource o i r) = Resource o i r
resource_path (Part o i r n) = Resource o i r

-- ---- rule 3

abbrev pub option_text : ℕ → OptionFault → List ℕ
option_text number Unknown = codes "option " ++ (decimal number ++ codes " is critical and not recognized")
option_text number (Length length) =
    codes "option " ++ (decimal number ++ (codes " has " ++ (decimal length ++
    codes " bytes, and is not recognized so")))
option_text number Repeated = codes "a second option " ++ (decimal number ++ codes " is not recognized")

-- ---- rule 4

abbrev pub segment_text : ℕ → List ℕ → List ℕ
segment_text place bytes =
    codes "segment " ++ (decimal place ++ (codes " of the Uri-Path is not a number: " ++ bytes_text bytes))

abbrev pub path_fault_text : PathFault → List ℕ
path_fault_text (Segment place bytes) = segment_text place bytes
path_fault_text (Count count) = codes "the Uri-Path has " ++ (decimal count ++ codes " segments, not 1 to 4")

-- ---- rule 5

-- what a method has beside it where it has no operation
abbrev pub get_text : Path → List ℕ
get_text (Object _) = codes "GET"
get_text (Instance _ _) = codes "GET"
get_text (Resource _ _ _) = codes "GET"
get_text (Part _ _ _ _) = codes "GET with Accept 40"

abbrev pub put_text : Path → List ℕ
put_text (Object _) = codes "PUT without a Uri-Query"
put_text (Instance _ _) = codes "PUT"
put_text (Resource _ _ _) = codes "PUT"
put_text (Part _ _ _ _) = codes "PUT with a Uri-Query"

abbrev pub method_text : ℕ → Path → List ℕ
method_text method path =
    if method == 1 then get_text path
    else (if method == 2 then codes "POST"
    else (if method == 3 then put_text path
    else (if method == 4 then codes "DELETE" else codes "method " ++ decimal method)))

-- ---- rule 7

abbrev pub missing_text : Path → Missing → List ℕ
missing_text path missing.Object = codes "the device does not know object " ++ decimal (object_in path)
missing_text path missing.Instance = codes "there is no instance " ++ path_text (instance_path path)
missing_text path missing.Resource = path_text (resource_path path) ++ codes " is not defined"
missing_text path missing.Parts = path_text (resource_path path) ++ codes " is a single resource"
missing_text path missing.Value = path_text path ++ codes " holds no value"

abbrev pub target_words : Path → Missing → List ℕ
target_words path missing = path_text path ++ (codes " does not exist, " ++ missing_text path missing)

-- ---- rule 8

abbrev pub letter_text : Letter → List ℕ
letter_text letter.R = codes "R"
letter_text letter.W = codes "W"
letter_text letter.E = codes "E"
letter_text letter.D = codes "D"
letter_text letter.C = codes "C"

abbrev pub letter_if : Bool → Letter → List ℕ
letter_if true given = letter_text given
letter_if false given = []

abbrev pub or_none : List ℕ → List ℕ
or_none [] = codes "none"
or_none (c ∷ text) = c ∷ text

-- the letters of a right
abbrev pub letters_text : Rights → List ℕ
letters_text rights =
    letter_if rights.read letter.R ++ (letter_if rights.write letter.W ++ (letter_if rights.execute letter.E ++
    (letter_if rights.delete letter.D ++ letter_if rights.create letter.C)))

abbrev pub rights_text : Rights → List ℕ
rights_text rights = or_none (letters_text rights)

-- the path of an entry of the ACL of an instance of Access Control, and the entry, such as `/2/0/2/1 is 3 (RW)`
abbrev pub entry_path : ℕ → ℕ → Path
entry_path control server = Part 2 control 2 server

abbrev pub entry_text : Path → ℤ → Rights → List ℕ
entry_text path number rights =
    path_text path ++ (codes " is " ++ (signed_decimal number ++ (codes " (" ++ (rights_text rights ++ codes ")"))))

-- a server is the owner of an instance of Access Control, or is not
abbrev pub ownership_text : ℕ → Path → Bool → List ℕ
ownership_text server place true =
    codes "server " ++ (decimal server ++ (codes " owns " ++ (path_text place ++ codes ", and has RW there")))
ownership_text server place false =
    codes "server " ++ (decimal server ++ (codes " does not own " ++ (path_text place ++
    codes ", and has R there")))

-- there is neither the entry of a server nor entry 0
abbrev pub no_entry_text : ℕ → ℕ → List ℕ
no_entry_text server control =
    codes "there is neither " ++ (path_text (entry_path control server) ++ (codes " nor " ++ path_text (entry_path
    control 0)))

-- what decides the right of a server on an instance
abbrev pub grant_text : ℕ → Path → Grant → List ℕ
grant_text server place (OfControl is_owner) = ownership_text server place is_owner
grant_text server place Unreferred = codes "no instance of Access Control refers to " ++ path_text place
grant_text server place (Own control number rights) = entry_text (entry_path control server) number rights
grant_text server place (Owner control) =
    codes "server " ++ (decimal server ++ (codes " owns " ++ path_text (Instance 2 control)))
grant_text server place (Default control number rights) =
    entry_text (entry_path control 0) number rights ++ codes ", the default"
grant_text server place (NoEntry control) = no_entry_text server control

-- a server lacks a letter there, by what decides its right
abbrev pub right_words : ℕ → Letter → Path → Grant → List ℕ
right_words server given place grant =
    grant_text server place grant ++ (codes ": server " ++ (decimal server ++ (codes " lacks " ++ (letter_text given
    ++ (codes " on " ++ path_text place)))))

-- it lacks R there, and on all instances of an object, of which there are so many
abbrev pub on_all_words : ℕ → Path → ℕ → Path → Grant → List ℕ
on_all_words server path count first grant =
    right_words server letter.R first grant ++ (codes ", as on each instance of " ++ (path_text path ++ (codes " ("
    ++ (decimal count ++ codes " in all)"))))

-- ---- rule 9

-- the letter of an operation on a resource
abbrev pub needed_text : Operation → List ℕ
needed_text Read = codes "R"
needed_text Discover = codes "R"
needed_text WriteReplace = codes "W"
needed_text WritePartial = codes "W"
needed_text WriteAttributes = codes "W"
needed_text Create = codes "C"
needed_text Execute = codes "E"
needed_text Delete = codes "D"

-- an object or an instance that does not have an operation
abbrev pub fixed_text : Operation → Path → List ℕ
fixed_text Read path = path_text path ++ codes " cannot be read"
fixed_text Discover path = path_text path ++ codes " cannot be read"
fixed_text WriteReplace path = path_text path ++ codes " cannot be written as a whole"
fixed_text WritePartial path = path_text path ++ codes " cannot be written as a whole"
fixed_text WriteAttributes path = path_text path ++ codes " cannot be written as a whole"
fixed_text Create path = codes "servers create no instance of object " ++ decimal (object_in path)
fixed_text Execute path = path_text path ++ codes " cannot be executed"
fixed_text Delete path = codes "servers delete no instance of object " ++ decimal (object_in path)

abbrev pub operations_text : Operation → Path → Option Ops → List ℕ
operations_text operation path None = fixed_text operation path
operations_text operation path (Some operations) =
    path_text (resource_path path) ++ (codes " has the operations " ++ (ops_text operations ++ (codes ", not " ++
    needed_text operation)))

-- ---- rule 10

abbrev pub named_format : Option (List ℕ) → ℕ → List ℕ
named_format None number = codes "format " ++ decimal number
named_format (Some name) number = name ++ (codes " (" ++ (decimal number ++ codes ")"))

-- a Content-Format: its name and its number
abbrev pub format_words : ℕ → List ℕ
format_words number = if number == 11542 then codes "TLV (11542)" else named_format (name_in formats number) number

abbrev pub served_text : Served → List ℕ
served_text TlvAlone = codes "TLV (11542) is"
served_text PlainTextAlone = codes "text/plain (0) is"
served_text PlainTextAndTlv = codes "text/plain (0) and TLV (11542) are"
served_text All = codes "text/plain (0), octet-stream (42) and TLV (11542) are"

abbrev pub unserved_words : Path → ℕ → Served → List ℕ
unserved_words path number served =
    format_words number ++ (codes " is not served at " ++ (path_text path ++ (codes ", " ++ served_text served)))

-- ---- rule 12

abbrev pub state_text : FirmwareState → List ℕ
state_text state.NoInstance = codes "there is no instance /5/0"
state_text state.NoState = codes "/5/0/3 holds no State"
state_text state.Idle = codes "/5/0/3 is 0 (Idle)"
state_text state.Downloading = codes "/5/0/3 is 1 (Downloading)"
state_text state.Downloaded = codes "/5/0/3 is 2 (Downloaded)"
state_text state.Updating = codes "/5/0/3 is 3 (Updating)"

-- what a Write or an Execute at a path is for the firmware
abbrev pub event_text : Path → List ℕ
event_text path =
    if is_resource firmware_update_object update_package path then codes "a Package"
    else (if is_resource firmware_update_object package_uri path then codes "a Package URI" else codes "Update")

abbrev pub state_words : Path → FirmwareState → List ℕ
state_words path state = state_text state ++ (codes ", where " ++ (event_text path ++ codes " is not taken"))

abbrev pub parts_text : ℕ → ℕ → List ℕ
parts_text resource count =
    codes "resource " ++ (decimal resource ++ (codes " would have " ++ (decimal count ++ codes " parts, over 32")))

-- a new instance for which there is no room
abbrev pub room_text : Path → NoRoom → List ℕ
room_text path (Instances count) =
    codes "object " ++ (decimal (object_in path) ++ (codes " has " ++ (decimal count ++ codes " instances already")))
room_text path (no_room.Parts resource count) = parts_text resource count
room_text path (Controls count) = codes "Access Control has " ++ (decimal count ++ codes " instances already")

abbrev pub limit_text : Path → Limit → List ℕ
limit_text path Size = codes "the payload would have more than 1,024 bytes"
limit_text path (Parts excess) = parts_text excess.resource excess.count
limit_text path (Room lack) = room_text path lack

-- ---- all rules

abbrev pub rule_number : Rule → ℕ
rule_number rule.Security = 6
rule_number (rule.Target missing) = 7
rule_number (rule.Right server letter instance grant) = 8
rule_number (rule.RightOnAll server count instance grant) = 8
rule_number (rule.Operation operations) = 9
rule_number (rule.Format number served) = 10
rule_number (rule.Payload unfit) = 11
rule_number (rule.State state) = 12
rule_number (rule.Limit limit) = 12

abbrev pub rule_words : Operation → Path → Rule → List ℕ
rule_words operation path rule.Security = codes "object 0 is closed to servers"
rule_words operation path (rule.Target missing) = target_words path missing
rule_words operation path (rule.Right server given instance grant) =
    right_words server given (Instance (object_in path) instance) grant
rule_words operation path (rule.RightOnAll server count instance grant) =
    on_all_words server path count (Instance (object_in path) instance) grant
rule_words operation path (rule.Operation operations) = operations_text operation path operations
rule_words operation path (rule.Format number served) = unserved_words path number served
rule_words operation path (rule.Payload unfit) = unfit_words path unfit
rule_words operation path (rule.State state) = state_words path state
rule_words operation path (rule.Limit limit) = limit_text path limit

-- a path, and what it names
abbrev pub target_text : Path → List ℕ
target_text path = path_text path ++ (codes ", " ++ kind_text path)

-- a reason, in one line
abbrev pub reason_text : Reason → List ℕ
reason_text (Unrecognized number fault) = codes "rule 3: " ++ option_text number fault
reason_text (NoPath fault) = codes "rule 4: " ++ path_fault_text fault
reason_text (NoOperation method path) =
    codes "rule 5: " ++ (method_text method path ++ (codes " has no operation at " ++ target_text path))
reason_text (Refused path operation rule) =
    codes "rule " ++ (decimal (rule_number rule) ++ (codes " of " ++ (operation_name operation ++ (codes ": " ++
    rule_words operation path rule))))
reason_text (Done path operation) = operation_name operation ++ (codes " of " ++ target_text path)
