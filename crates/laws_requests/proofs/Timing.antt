-- What the firmware refuses for its State.
use Rattle.std.proofs.Common.{◌≡◌, Bool, true, false, not, ◌==◌, [], ◌∷◌, Option, None, Some, inl, inr, sym}
use Rattle.std.proofs.Common.{ap, ◌∙◌}
use Rattle.std.specs.Option.{is_some}
use Rattle.std.proofs.lemmas.Bool.{ne_eqb}
use Rattle.std.proofs.lemmas.Option.{same_Some}
use Rattle.coap_codec.specs.Message.{Message}
use Rattle.object_defs.specs.Lines.{first_line}
use Rattle.object_defs.specs.Path.{object_in}
use Rattle.object_defs.specs.declared.path.Path.{Path}
use Rattle.device_firmware.specs.Firmware.{firmware_after}
use Rattle.device_firmware.specs.declared.event.FirmwareEvent.{FirmwareEvent}
use Rattle.device_requests.specs.declared.operation.Operation.{Operation}
use Rattle.device_requests.specs.declared.ruling.Ruling.{Ruling}
use Rattle.device_requests.specs.declared.ruling.Ruling.TheVariants as rule
use Rattle.device_requests.specs.Client.{Client}
use Rattle.device_requests.specs.Laws.{IsAmong}
use Rattle.device_requests.specs.Order.{OneTable}
use Rattle.device_requests.specs.Refusals.{done_ruling, format_ruling, is_invalid, is_out_of_turn, is_refused_now}
use Rattle.device_requests.specs.Refusals.{is_too_much, is_untimely, lacks_format, lacks_operation, lacks_right}
use Rattle.device_requests.specs.Refusals.{lacks_target}
use Rattle.device_requests.specs.Request.{outcome_of, purpose_of}
use Rattle.laws_requests.specs.Untimely.{IsUntimely, StatesDecide, StatesPrecedeLimits}
use Rattle.laws_requests.specs.Untimely.IsUntimely.{asks_for_update, replaces, updates_partially}

not_taken : (client : Client) (event : FirmwareEvent) (o : Option FirmwareEvent) → o ≡ Some event
    → firmware_after client.store event ≡ None → is_refused_now client.store o ≡ true
not_taken client event o is none = ap (is_refused_now client.store) is ∙ ap (λ after. not (is_some after)) none

out_of_turn : (client : Client) (m : Message) (path : Path) (operation : Operation)
    → IsUntimely client m path operation → is_out_of_turn client path (purpose_of m operation) ≡ true
out_of_turn client m path operation (replaces event is none) = not_taken client event _ is none
out_of_turn client m path operation (updates_partially event is none) = not_taken client event _ is none
out_of_turn client m path operation (asks_for_update i is none) =
    ap (is_untimely client.store) is ∙ ap (λ after. not (is_some after)) none

-- the rule of the firmware holds: which rule may decide
turned : (a b c d e f g h : Bool) (format done ruling : Ruling) → g ≡ true
    → first_line ((a, rule.Security) ∷ (b, rule.Target) ∷ (c, rule.Right) ∷ (d, rule.Operation) ∷ (e, format)
    ∷ (f, rule.Payload) ∷ (g, rule.State) ∷ (h, rule.Limit) ∷ (true, done) ∷ []) ≡ Some ruling
    → IsAmong ruling
    (rule.Security ∷ rule.Target ∷ rule.Right ∷ rule.Operation ∷ format ∷ rule.Payload ∷ rule.State ∷ [])
turned true b c d e f g h format done ruling late is =
    inl (same_Some rule.Security ruling is)
turned false true c d e f g h format done ruling late is =
    inr (inl (same_Some rule.Target ruling is))
turned false false true d e f g h format done ruling late is =
    inr (inr (inl (same_Some rule.Right ruling is)))
turned false false false true e f g h format done ruling late is =
    inr (inr (inr (inl (same_Some rule.Operation ruling is))))
turned false false false false true f g h format done ruling late is =
    inr (inr (inr (inr (inl (same_Some format ruling is)))))
turned false false false false false true g h format done ruling late is =
    inr (inr (inr (inr (inr (inl (same_Some rule.Payload ruling is))))))
turned false false false false false false true h format done ruling late is =
    inr (inr (inr (inr (inr (inr (inl (same_Some rule.State ruling is)))))))
turned false false false false false false false h format done ruling late is = cc late

-- and where no rule before it does
decided : (a b c d e f g h : Bool) (format done ruling : Ruling) → a ≡ false → b ≡ false → c ≡ false → d ≡ false
    → e ≡ false → f ≡ false → g ≡ true
    → first_line ((a, rule.Security) ∷ (b, rule.Target) ∷ (c, rule.Right) ∷ (d, rule.Operation) ∷ (e, format)
    ∷ (f, rule.Payload) ∷ (g, rule.State) ∷ (h, rule.Limit) ∷ (true, done) ∷ []) ≡ Some ruling
    → ruling ≡ rule.State
decided true b c d e f g h format done ruling p q r s t u late is = cc p
decided false true c d e f g h format done ruling p q r s t u late is = cc q
decided false false true d e f g h format done ruling p q r s t u late is = cc r
decided false false false true e f g h format done ruling p q r s t u late is = cc s
decided false false false false true f g h format done ruling p q r s t u late is = cc t
decided false false false false false true g h format done ruling p q r s t u late is = cc u
decided false false false false false false false h format done ruling p q r s t u late is = cc late
decided false false false false false false true h format done ruling p q r s t u late is =
    sym (same_Some rule.State ruling is)

pub states_precede : OneTable → StatesPrecedeLimits
states_precede table client server m path operation asks untimely =
    let purpose = purpose_of m operation in
    turned (object_in path == 0) (lacks_target client path purpose) (lacks_right client server path purpose)
    (lacks_operation client.catalog path purpose) (lacks_format client.catalog path purpose)
    (is_invalid client server path purpose) (is_out_of_turn client path purpose)
    (is_too_much client server path purpose) (format_ruling purpose) (done_ruling purpose)
    (outcome_of client server m).answer.ruling (out_of_turn client m path operation untimely)
    (table client server m path operation asks)

pub states_decide : OneTable → StatesDecide
states_decide table client server m path operation asks untimely reaches =
    let purpose = purpose_of m operation in
    decided (object_in path == 0) (lacks_target client path purpose) (lacks_right client server path purpose)
    (lacks_operation client.catalog path purpose) (lacks_format client.catalog path purpose)
    (is_invalid client server path purpose) (is_out_of_turn client path purpose)
    (is_too_much client server path purpose) (format_ruling purpose) (done_ruling purpose)
    (outcome_of client server m).answer.ruling (ne_eqb (object_in path) 0 reaches.object) reaches.target reaches.right
    reaches.served reaches.format reaches.payload (out_of_turn client m path operation untimely)
    (table client server m path operation asks)
