-- The rules that decide how requests are answered, with the codes that they answer (OMA LwM2M 1.1 Transport).
use Rattle.std.specs.Prelude.{Bool, true, false}
use Rattle.device_requests.specs.declared.answer.Code.{Code}
use Rattle.device_requests.specs.declared.answer.Code.TheVariants as code
use Rattle.device_requests.specs.declared.ruling.Ruling.{Ruling}
use Rattle.device_requests.specs.declared.ruling.Ruling.TheVariants.{Options, NoPath, Method, Security, Target, Right}
use Rattle.device_requests.specs.declared.ruling.Ruling.TheVariants.{Operation, Accept, ContentFormat, Payload, State}
use Rattle.device_requests.specs.declared.ruling.Ruling.TheVariants.{Limit, Created, Deleted, Changed, Content}

-- the code with which a rule answers
abbrev pub code_of : Ruling → Code
code_of Options = code.BadOption
code_of NoPath = code.NotFound
code_of Method = code.MethodNotAllowed
code_of Security = code.Unauthorized
code_of Target = code.NotFound
code_of Right = code.Unauthorized
code_of Operation = code.MethodNotAllowed
code_of Accept = code.NotAcceptable
code_of ContentFormat = code.UnsupportedContentFormat
code_of Payload = code.BadRequest
code_of State = code.MethodNotAllowed
code_of Limit = code.InternalServerError
code_of Created = code.Created
code_of Deleted = code.Deleted
code_of Changed = code.Changed
code_of Content = code.Content

-- the rule is that of the options, whose code is 4.02
abbrev pub is_of_options : Ruling → Bool
is_of_options Options = true
is_of_options _ = false

-- an answer by this rule may take memory; what refuses an option, a path, a method, a server, an operation that the
-- target does not have or a format takes none
abbrev pub takes_memory : Ruling → Bool
takes_memory Options = false
takes_memory NoPath = false
takes_memory Method = false
takes_memory Security = false
takes_memory Target = false
takes_memory Right = false
takes_memory Operation = false
takes_memory Accept = false
takes_memory ContentFormat = false
takes_memory Payload = true
takes_memory State = true
takes_memory Limit = true
takes_memory Created = true
takes_memory Deleted = true
takes_memory Changed = true
takes_memory Content = true
