-- What a request that asks for an operation comes to, and that the rules that refuse give codes of refusals.
use Rattle.std.proofs.Common.{◌≡◌, ℕ, Bool, true, false, cond, List, [], ◌∷◌, Option, None, Some, Result, Ok, Err}
use Rattle.std.proofs.Common.{refl, sym, ap, ◌∙◌}
use Rattle.std.specs.Bool.{if◌then◌else◌}
use Rattle.std.proofs.lemmas.Option.{same_Some}
use Rattle.coap_codec.specs.Message.{Message}
use Rattle.object_defs.specs.Lines.{first_line}
use Rattle.object_defs.specs.declared.path.Path.{Path}
use Rattle.device_requests.specs.declared.operation.Operation.{Operation}
use Rattle.device_requests.specs.declared.request.Request.{Request}
use Rattle.device_requests.specs.declared.ruling.Ruling.{Ruling}
use Rattle.device_requests.specs.declared.ruling.Ruling.TheVariants as rule
use Rattle.device_requests.specs.Answer.{Outcome}
use Rattle.device_requests.specs.Client.{Client}
use Rattle.device_requests.specs.Laws.{is_refusal}
use Rattle.device_requests.specs.Options.{path_of, segments_of}
use Rattle.device_requests.specs.Order.{Asks}
use Rattle.device_requests.specs.Request.{outcome_at, outcome_for, outcome_of, request_by, request_of, request_on}
use Rattle.device_requests.specs.Request.{request_with}
use Rattle.device_requests.specs.Ruling.{code_of}

pub asked : (m : Message) (path : Path) (operation : Operation) → Asks m path operation
    → request_of m ≡ Ok (request_with m path operation)
asked m path operation asks =
    ap (λ (b : Bool). if b then Err rule.Options else request_on m (path_of (segments_of m.options))) asks.understood
    ∙ ap (λ (p : Option Path). request_on m p) asks.goes_to
    ∙ ap (λ (o : Option Operation). request_by m path o) asks.means

-- its outcome is that of the operation
pub comes_to : (client : Client) (server : ℕ) (m : Message) (path : Path) (operation : Operation)
    → Asks m path operation
    → outcome_of client server m ≡ outcome_at client server m (request_with m path operation)
comes_to client server m path operation asks =
    ap (λ (r : Result Request Ruling). outcome_for client server m r) (asked m path operation asks)

-- each of these lines refuses
abbrev pub AllRefuse : List (Bool × Ruling) → Type 0
AllRefuse [] = Unit {0}
AllRefuse (line ∷ lines) = (is_refusal (code_of line.1) ≡ true) × AllRefuse lines

pub refuses : (lines : List (Bool × Ruling)) → AllRefuse lines → (ruling : Ruling) → first_line lines ≡ Some ruling
    → is_refusal (code_of ruling) ≡ true
refuses [] all ruling h = cc
refuses (line ∷ lines) all ruling h =
    elim line.0 as (λ b. cond b (Some line.1) (first_line lines) ≡ Some ruling
    → is_refusal (code_of ruling) ≡ true) [
      | true ↦ λ said. sym (ap (λ (r : Ruling). is_refusal (code_of r)) (same_Some line.1 ruling said)) ∙ all.0
      | false ↦ λ said. refuses lines all.1 ruling said
    ] h

-- an answer that is no refusal comes where no line holds
pub passes : (lines : List (Bool × Ruling)) → AllRefuse lines → (by : Option Ruling → Outcome)
    → ((r : Ruling) → (by (Some r)).answer.ruling ≡ r)
    → is_refusal (code_of (by (first_line lines)).answer.ruling) ≡ false
    → first_line lines ≡ None
passes lines all by says h =
    elim (first_line lines) as (λ o. first_line lines ≡ o → is_refusal (code_of (by o).answer.ruling) ≡ false
    → o ≡ None) [
      | None ↦ λ is k. refl
      | Some r ↦ λ is k.
          let l : true ≡ false = sym (refuses lines all r is)
          ∙ (ap (λ (q : Ruling). is_refusal (code_of q)) (sym (says r)) ∙ k) in
          cc
    ] refl h

-- none of these lines holds
abbrev pub AllFail : List (Bool × Ruling) → Type 0
AllFail [] = Unit {0}
AllFail (line ∷ lines) = (line.0 ≡ false) × AllFail lines

pub fails : (lines : List (Bool × Ruling)) → first_line lines ≡ None → AllFail lines
fails [] h = tt
fails (line ∷ lines) h =
    elim line.0 as (λ b. cond b (Some line.1) (first_line lines) ≡ None → (b ≡ false) × AllFail lines) [
      | true ↦ λ k. cc
      | false ↦ λ k. (refl, fails lines k)
    ] h

pub chosen : {X : Type 0} (b c : Bool) (x y : X) → b ≡ c → (if b then x else y) ≡ (if c then x else y)
chosen b c x y h = ap (λ (a : Bool). if a then x else y) h
