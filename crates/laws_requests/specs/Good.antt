-- Which requests are done (OMA LwM2M 1.1 Core and Transport).
use Rattle.std.specs.Prelude.{◌≡◌, ◌≢◌, ◌↔◌, ℕ, true, false}
use Rattle.coap_codec.specs.Message.{Message}
use Rattle.object_defs.specs.Path.{object_in}
use Rattle.object_defs.specs.declared.path.Path.{Path}
use Rattle.device_requests.specs.declared.operation.Operation.{Operation}
use Rattle.device_requests.specs.declared.ruling.Ruling.TheVariants as rule
use Rattle.device_requests.specs.Client.{Client}
use Rattle.device_requests.specs.Order.{Asks}
use Rattle.device_requests.specs.Refusals.{Purpose, done_ruling, is_invalid, is_out_of_turn, is_too_much, lacks_format}
use Rattle.device_requests.specs.Refusals.{lacks_operation, lacks_right, lacks_target}
use Rattle.device_requests.specs.Request.{outcome_of, purpose_of}

-- none of the rules before the limits refuses the operation
pub record IsGood (client : Client) (server : ℕ) (path : Path) (purpose : Purpose) : Type 0 where
  pub object : object_in path ≢ 0
  pub target : lacks_target client path purpose ≡ false
  pub right : lacks_right client server path purpose ≡ false
  pub served : lacks_operation client.catalog path purpose ≡ false
  pub format : lacks_format client.catalog path purpose ≡ false
  pub payload : is_invalid client server path purpose ≡ false
  pub state : is_out_of_turn client path purpose ≡ false

-- a request is done exactly where no rule refuses it
abbrev pub GoodIsDone : Type 0
GoodIsDone =
    (client : Client) (server : ℕ) (m : Message) (path : Path) (operation : Operation) → Asks m path operation
    → let purpose = purpose_of m operation in
    ((outcome_of client server m).answer.ruling ≡ done_ruling purpose)
    ↔ (IsGood client server path purpose × (is_too_much client server path purpose ≡ false))

-- the limits decide, with 5.00, exactly where no other rule refuses, and they do
abbrev pub LimitsComeLast : Type 0
LimitsComeLast =
    (client : Client) (server : ℕ) (m : Message) (path : Path) (operation : Operation) → Asks m path operation
    → let purpose = purpose_of m operation in
    ((outcome_of client server m).answer.ruling ≡ rule.Limit)
    ↔ (IsGood client server path purpose × (is_too_much client server path purpose ≡ true))
