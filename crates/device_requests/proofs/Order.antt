-- The first rule that holds decides.
use Rattle.std.proofs.Common.{◌≡◌, ℕ, Bool, true, false, cond, ◌==◌, List, [], ◌∷◌, Option, None, Some}
use Rattle.std.proofs.Common.{Err, inl, inr, refl, sym, ap, ◌∙◌}
use Rattle.std.specs.Bool.{if◌then◌else◌}
use Rattle.std.proofs.lemmas.Bool.{ne_eqb}
use Rattle.coap_codec.specs.Message.{Message}
use Rattle.object_defs.specs.Lines.{first_line}
use Rattle.object_defs.specs.Path.{object_in}
use Rattle.object_defs.specs.declared.path.Path.{Path}
use Rattle.device_requests.specs.declared.observe.Interest.{Interest}
use Rattle.device_requests.specs.declared.operation.Operation.{Operation}
use Rattle.device_requests.specs.declared.operation.Operation.TheVariants.{Read}
use Rattle.device_requests.specs.declared.ruling.Ruling.{Ruling}
use Rattle.device_requests.specs.declared.ruling.Ruling.TheVariants as rule
use Rattle.device_requests.specs.declared.answer.Code.TheVariants.{Unauthorized}
use Rattle.device_requests.specs.Client.{Client}
use Rattle.device_requests.specs.Laws.{IsAmong, lines_by, lines_on, request_lines}
use Rattle.device_requests.specs.Observe.{interest_for}
use Rattle.device_requests.specs.Operation.{operation_of}
use Rattle.device_requests.specs.Options.{accept_of, has_query, has_unrecognized_critical, path_of, segments_of}
use Rattle.device_requests.specs.Order.{Asks, AsksToRead, FormatsPrecedePayloads, MethodsPrecedeObjects, OneTable}
use Rattle.device_requests.specs.Order.{OnlyReadsObserve, OperationsPrecedeFormats, OptionsComeFirst}
use Rattle.device_requests.specs.Order.{PathsPrecedeMethods, PayloadsPrecedeStates, RefusalsHaveReasons}
use Rattle.device_requests.specs.Order.{RightsPrecedeOperations, SecurityPrecedesTargets, TargetsPrecedeRights}
use Rattle.device_requests.specs.Order.{has_reason}
use Rattle.device_requests.specs.Refusals.{Purpose, done_ruling, format_ruling, is_invalid, is_out_of_turn, is_too_much}
use Rattle.device_requests.specs.Refusals.{lacks_format, lacks_operation, lacks_right, lacks_target, rules_of}
use Rattle.device_requests.specs.Refusals.{to_create, to_delete, to_discover, to_read}
use Rattle.device_requests.specs.Request.{outcome_of, purpose_of, request_by, request_on}
use Rattle.device_requests.specs.Ruling.{code_of}
use Rattle.device_requests.proofs.Answering.{says}

-- the rules of a request whose options are understood
when_understood : (client : Client) (server : ℕ) (m : Message) → has_unrecognized_critical m.options ≡ false
    → first_line (request_lines client server m)
    ≡ first_line (lines_on client server m (path_of (segments_of m.options)))
when_understood client server m h =
    ap (λ (b : Bool). first_line ((b, rule.Options) ∷ lines_on client server m (path_of (segments_of m.options)))) h

-- those of one whose Uri-Path is this path
addressed : (client : Client) (server : ℕ) (m : Message) (path : Path) → has_unrecognized_critical m.options ≡ false
    → path_of (segments_of m.options) ≡ Some path
    → first_line (request_lines client server m)
    ≡ first_line (lines_by client server m path
    (operation_of m.code (accept_of m.options) (has_query m.options) path))
addressed client server m path h k =
    when_understood client server m h ∙ ap (λ (p : Option Path). first_line (lines_on client server m p)) k

pub one_table : OneTable
one_table client server m path operation asks =
    sym (addressed client server m path asks.understood asks.goes_to
    ∙ ap (λ (o : Option Operation). first_line (lines_by client server m path o)) asks.means)
    ∙ says client server m

told : (said ruling : Ruling) → Some said ≡ Some ruling → said ≡ ruling
told said ruling h = cc

pub options_first : OptionsComeFirst
options_first client server m h =
    sym (told rule.Options (outcome_of client server m).answer.ruling
    (sym (ap (λ (b : Bool). first_line ((b, rule.Options)
    ∷ lines_on client server m (path_of (segments_of m.options)))) h)
    ∙ says client server m))

pub paths_second : PathsPrecedeMethods
paths_second client server m h k =
    sym (told rule.NoPath (outcome_of client server m).answer.ruling
    (sym (when_understood client server m h ∙ ap (λ (p : Option Path). first_line (lines_on client server m p)) k)
    ∙ says client server m))

pub methods_third : MethodsPrecedeObjects
methods_third client server m path h k o =
    sym (told rule.Method (outcome_of client server m).answer.ruling
    (sym (addressed client server m path h k
    ∙ ap (λ (none : Option Operation). first_line (lines_by client server m path none)) o)
    ∙ says client server m))

-- what the rules from object 0 to the payload say of the rule of an answer
record IsOrdered (a b c d e f : Bool) (format ruling : Ruling) : Type 0 where
  security : a ≡ true → ruling ≡ rule.Security
  target : a ≡ false → b ≡ true → ruling ≡ rule.Target
  right : b ≡ false → c ≡ true → code_of ruling ≡ Unauthorized
  operation : d ≡ true → IsAmong ruling (rule.Security ∷ rule.Target ∷ rule.Right ∷ rule.Operation ∷ [])
  served : e ≡ true → IsAmong ruling (rule.Security ∷ rule.Target ∷ rule.Right ∷ rule.Operation ∷ format ∷ [])
  payload : d ≡ false → f ≡ true
      → IsAmong ruling (rule.Security ∷ rule.Target ∷ rule.Right ∷ format ∷ rule.Payload ∷ [])

ordered : (a b c d e f : Bool) (format ruling : Ruling) (lines : List (Bool × Ruling))
    → first_line ((a, rule.Security) ∷ (b, rule.Target) ∷ (c, rule.Right) ∷ (d, rule.Operation) ∷ (e, format)
    ∷ (f, rule.Payload) ∷ lines) ≡ Some ruling
    → IsOrdered a b c d e f format ruling
ordered true b c d e f format ruling lines h =
    let is = told rule.Security ruling h in
    record {
      security = λ p. sym is;
      target = λ p q. cc;
      right = λ p q. sym (ap code_of is);
      operation = λ p. inl is;
      served = λ p. inl is;
      payload = λ p q. inl is;
    }
ordered false true c d e f format ruling lines h =
    let is = told rule.Target ruling h in
    record {
      security = λ p. cc;
      target = λ p q. sym is;
      right = λ p q. cc;
      operation = λ p. inr (inl is);
      served = λ p. inr (inl is);
      payload = λ p q. inr (inl is);
    }
ordered false false true d e f format ruling lines h =
    let is = told rule.Right ruling h in
    record {
      security = λ p. cc;
      target = λ p q. cc;
      right = λ p q. sym (ap code_of is);
      operation = λ p. inr (inr (inl is));
      served = λ p. inr (inr (inl is));
      payload = λ p q. inr (inr (inl is));
    }
ordered false false false true e f format ruling lines h =
    let is = told rule.Operation ruling h in
    record {
      security = λ p. cc;
      target = λ p q. cc;
      right = λ p q. cc;
      operation = λ p. inr (inr (inr (inl is)));
      served = λ p. inr (inr (inr (inl is)));
      payload = λ p q. cc;
    }
ordered false false false false true f format ruling lines h =
    let is = told format ruling h in
    record {
      security = λ p. cc;
      target = λ p q. cc;
      right = λ p q. cc;
      operation = λ p. cc;
      served = λ p. inr (inr (inr (inr (inl is))));
      payload = λ p q. inr (inr (inr (inl is)));
    }
ordered false false false false false true format ruling lines h =
    let is = told rule.Payload ruling h in
    record {
      security = λ p. cc;
      target = λ p q. cc;
      right = λ p q. cc;
      operation = λ p. cc;
      served = λ p. cc;
      payload = λ p q. inr (inr (inr (inr (inl is))));
    }
ordered false false false false false false format ruling lines h =
    record {
      security = λ p. cc;
      target = λ p q. cc;
      right = λ p q. cc;
      operation = λ p. cc;
      served = λ p. cc;
      payload = λ p q. cc;
    }

order : (client : Client) (server : ℕ) (m : Message) (path : Path) (operation : Operation) → Asks m path operation
    → let purpose = purpose_of m operation in
    IsOrdered (object_in path == 0) (lacks_target client path purpose) (lacks_right client server path purpose)
    (lacks_operation client.catalog path purpose) (lacks_format client.catalog path purpose)
    (is_invalid client server path purpose) (format_ruling purpose) (outcome_of client server m).answer.ruling
order client server m path operation asks =
    let purpose = purpose_of m operation in
    ordered (object_in path == 0) (lacks_target client path purpose) (lacks_right client server path purpose)
    (lacks_operation client.catalog path purpose) (lacks_format client.catalog path purpose)
    (is_invalid client server path purpose) (format_ruling purpose) (outcome_of client server m).answer.ruling
    ((is_out_of_turn client path purpose, rule.State)
    ∷ (is_too_much client server path purpose, rule.Limit) ∷ (true, done_ruling purpose) ∷ [])
    (one_table client server m path operation asks)

pub security_fourth : SecurityPrecedesTargets
security_fourth client server m path operation asks h =
    (order client server m path operation asks).security (ap (λ (o : ℕ). o == 0) h)

pub targets_fifth : TargetsPrecedeRights
targets_fifth client server m path operation asks h k =
    (order client server m path operation asks).target (ne_eqb (object_in path) 0 h) k

pub rights_sixth : RightsPrecedeOperations
rights_sixth client server m path operation asks h k = (order client server m path operation asks).right h k

pub operations_seventh : OperationsPrecedeFormats
operations_seventh client server m path operation asks h = (order client server m path operation asks).operation h

pub formats_eighth : FormatsPrecedePayloads
formats_eighth client server m path operation asks h = (order client server m path operation asks).served h

pub payloads_ninth : PayloadsPrecedeStates
payloads_ninth client server m path operation asks h k = (order client server m path operation asks).payload h k

-- where a rule holds, it has this property
abbrev Each : (Ruling → Bool) → List (Bool × Ruling) → Type 0
Each p [] = Unit {0}
Each p (line ∷ lines) = (line.0 ≡ true → p line.1 ≡ true) × Each p lines

-- so has the first that holds
each_told : (p : Ruling → Bool) (lines : List (Bool × Ruling)) (ruling : Ruling) → Each p lines
    → first_line lines ≡ Some ruling → p ruling ≡ true
each_told p [] ruling e h = cc
each_told p (line ∷ lines) ruling e h =
    elim line.0 as (λ b. (b ≡ true → p line.1 ≡ true) → cond b (Some line.1) (first_line lines) ≡ Some ruling
    → p ruling ≡ true) [
      | true ↦ λ k said. sym (ap p (told line.1 ruling said)) ∙ k refl
      | false ↦ λ k said. each_told p lines ruling e.1 said
    ] e.0 h

format_reason : (client : Client) (server : ℕ) (path : Path) (purpose : Purpose)
    → lacks_format client.catalog path purpose ≡ true
    → has_reason client server path purpose (format_ruling purpose) ≡ true
format_reason client server path (to_read accept) h = h
format_reason client server path purpose h = h

done_reason : (client : Client) (server : ℕ) (path : Path) (purpose : Purpose)
    → has_reason client server path purpose (done_ruling purpose) ≡ true
done_reason client server path (to_read accept) = refl
done_reason client server path to_discover = refl
done_reason client server path (to_create format payload) = refl
done_reason client server path to_delete = refl
done_reason client server path purpose = refl

pub reasons : RefusalsHaveReasons
reasons client server m path operation asks =
    let purpose = purpose_of m operation in
    let format = format_reason client server path purpose in
    let done = done_reason client server path purpose in
    each_told (has_reason client server path purpose) (rules_of client server path purpose)
    (outcome_of client server m).answer.ruling
    ((λ h. h), ((λ h. h), ((λ h. h), ((λ h. h), (format, ((λ h. h), ((λ h. h), ((λ h. h), ((λ h. done), tt)))))))))
    (one_table client server m path operation asks)

reading : (m : Message) (path : Path) (interest : Interest) (operation : Option Operation)
    → has_unrecognized_critical m.options ≡ false → path_of (segments_of m.options) ≡ Some path
    → operation_of m.code (accept_of m.options) (has_query m.options) path ≡ operation
    → interest_for (request_by m path operation) ≡ Some interest
    → AsksToRead m
reading m path interest None e f g h = cc
reading m path interest (Some Read) e f g h =
    record { path = path; asks = record { understood = e; goes_to = f; means = g } }
reading m path interest (Some operation) e f g h = cc

observing : (m : Message) (interest : Interest) (b : Bool) (path : Option Path)
    → has_unrecognized_critical m.options ≡ b → path_of (segments_of m.options) ≡ path
    → interest_for (if b then Err rule.Options else request_on m path) ≡ Some interest
    → AsksToRead m
observing m interest true path e f h = cc
observing m interest false None e f h = cc
observing m interest false (Some path) e f h =
    reading m path interest (operation_of m.code (accept_of m.options) (has_query m.options) path) e f refl h

pub only_reads : OnlyReadsObserve
only_reads m interest h =
    observing m interest (has_unrecognized_critical m.options) (path_of (segments_of m.options)) refl refl h
