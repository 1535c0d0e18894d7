-- Answers, and what a request leaves of the store.
use Rattle.std.specs.Prelude.{◌≡◌, ℕ, ◌+◌, ◌*◌, Bool, true, false, List, [], Option, None, Some}
use Rattle.object_defs.specs.declared.path.InstancePath.{InstancePath}
use Rattle.device_requests.specs.declared.answer.Act.{Act}
use Rattle.device_requests.specs.declared.answer.Answer.{Answer}
use Rattle.device_requests.specs.declared.answer.Code.{Code}
use Rattle.device_requests.specs.declared.answer.Code.TheVariants.{Created, Deleted, Changed, Content, BadRequest}
use Rattle.device_requests.specs.declared.answer.Code.TheVariants.{Unauthorized, BadOption, NotFound, MethodNotAllowed}
use Rattle.device_requests.specs.declared.answer.Code.TheVariants.{NotAcceptable, UnsupportedContentFormat}
use Rattle.device_requests.specs.declared.answer.Code.TheVariants.{InternalServerError}
use Rattle.device_requests.specs.declared.ruling.Ruling.{Ruling}
use Rattle.device_requests.specs.declared.ruling.Ruling.TheVariants as rule
use Rattle.device_requests.specs.Client.{Client}
use Rattle.device_requests.specs.Ruling.{code_of}

-- the code's class in the three high bits, its detail in the five low ones (RFC 7252 section 12.1.2)
abbrev pub code_byte : Code → ℕ
code_byte Created = 2 * 32 + 1
code_byte Deleted = 2 * 32 + 2
code_byte Changed = 2 * 32 + 4
code_byte Content = 2 * 32 + 5
code_byte BadRequest = 4 * 32
code_byte Unauthorized = 4 * 32 + 1
code_byte BadOption = 4 * 32 + 2
code_byte NotFound = 4 * 32 + 4
code_byte MethodNotAllowed = 4 * 32 + 5
code_byte NotAcceptable = 4 * 32 + 6
code_byte UnsupportedContentFormat = 4 * 32 + 15
code_byte InternalServerError = 5 * 32

-- the code reports a change (RFC 7252 section 5.9.1)
abbrev pub is_change : Code → Bool
is_change Created = true
is_change Deleted = true
is_change Changed = true
is_change Content = false
is_change BadRequest = false
is_change Unauthorized = false
is_change BadOption = false
is_change NotFound = false
is_change MethodNotAllowed = false
is_change NotAcceptable = false
is_change UnsupportedContentFormat = false
is_change InternalServerError = false

-- the code is 2.05
abbrev pub is_content_code : Code → Bool
is_content_code Content = true
is_content_code _ = false

-- an answer is the content of the target
abbrev pub is_content : Answer → Bool
is_content answer = is_content_code (code_of answer.ruling)

-- a code alone, with neither option nor payload: so is every refusal
abbrev pub bare : Ruling → Answer
bare ruling = record { ruling = ruling; location = None; format = None; payload = []; act = None }

-- Content with its format, and a payload that may be empty
abbrev pub content : ℕ → List ℕ → Answer
content format payload =
    record { ruling = rule.Content; location = None; format = Some format; payload = payload; act = None }

-- Changed, after which the device may act
abbrev pub done_answer : Option Act → Answer
done_answer act = record { ruling = rule.Changed; location = None; format = None; payload = []; act = act }

-- Created, with the place of the new instance
abbrev pub created_answer : InstancePath → Answer
created_answer place =
    record { ruling = rule.Created; location = Some place; format = None; payload = []; act = None }

-- the answer to a request, and what is managed then
pub record Outcome : Type 0 where
  pub answer : Answer
  pub client : Client

-- an answer alone: nothing changes
abbrev pub answer_alone : Client → Answer → Outcome
answer_alone client answer = record { answer = answer; client = client }

-- this answer is the outcome's, and so is what is managed now
pub record Leaves (answer : Answer) (new : Client) (outcome : Outcome) : Type 0 where
  pub says : answer ≡ outcome.answer
  pub then_client : new ≡ outcome.client

-- a refusal where there is one, else this
abbrev pub refused_or : Option Ruling → Answer → Answer
refused_or (Some ruling) answer = bare ruling
refused_or None answer = answer
