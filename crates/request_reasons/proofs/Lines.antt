-- What the rule that decides a request for an operation says of it.
use Rattle.std.proofs.Common.{◌≡◌, ℕ, Bool, true, false, ◌==◌, [], ◌∷◌, Option, Some, refl, sym, ap, subst, ◌∙◌}
use Rattle.std.proofs.Common.{◌⊎◌, inl, inr}
use Rattle.coap_codec.specs.Message.{Message}
use Rattle.object_defs.specs.Lines.{first_line}
use Rattle.object_defs.specs.Path.{object_in}
use Rattle.object_defs.specs.declared.path.Path.{Path}
use Rattle.device_requests.specs.declared.operation.Operation.{Operation}
use Rattle.device_requests.specs.declared.ruling.Ruling.{Ruling}
use Rattle.device_requests.specs.declared.ruling.Ruling.TheVariants as ruling
use Rattle.device_requests.specs.Client.{Client}
use Rattle.device_requests.specs.Laws.{lines_by, lines_on}
use Rattle.device_requests.specs.Options.{path_of, segments_of}
use Rattle.device_requests.specs.Order.{Asks}
use Rattle.device_requests.specs.Refusals.{Purpose, done_ruling, format_ruling, is_invalid, is_out_of_turn, is_too_much}
use Rattle.device_requests.specs.Refusals.{lacks_format, lacks_operation, lacks_right, lacks_target, rules_of}
use Rattle.device_requests.specs.Refusals.{to_create, to_delete, to_discover, to_read}
use Rattle.device_requests.specs.Request.{outcome_of, purpose_of}
use Rattle.device_requests.proofs.Answering.{says}

-- what a rule says, where it decides by a table of these conditions: of object 0, the right, the format, the payload
-- and the limits
abbrev pub IsRule : (a c e f h : Bool) (purpose : Purpose) → Ruling → Type 0
IsRule a c e f h purpose ruling.Security = a ≡ true
IsRule a c e f h purpose ruling.Right = c ≡ true
IsRule a c e f h purpose ruling.Accept = (e ≡ true) × (format_ruling purpose ≡ ruling.Accept)
IsRule a c e f h purpose ruling.ContentFormat = (e ≡ true) × (format_ruling purpose ≡ ruling.ContentFormat)
IsRule a c e f h purpose ruling.Payload = (e ≡ false) × (f ≡ true)
IsRule a c e f h purpose ruling.Limit = h ≡ true
IsRule a c e f h purpose ruling.Created = done_ruling purpose ≡ ruling.Created
IsRule a c e f h purpose ruling.Deleted = done_ruling purpose ≡ ruling.Deleted
IsRule a c e f h purpose ruling.Changed = done_ruling purpose ≡ ruling.Changed
IsRule a c e f h purpose ruling.Content = done_ruling purpose ≡ ruling.Content
IsRule a c e f h purpose ruling.Options = ⊥
IsRule a c e f h purpose ruling.NoPath = ⊥
IsRule a c e f h purpose ruling.Method = ⊥
IsRule a c e f h purpose _ = Unit {0}

unserved : (f h : Bool) (purpose : Purpose) → IsRule false false true f h purpose (format_ruling purpose)
unserved f h (to_read accept) = (refl, refl)
unserved f h purpose = (refl, refl)

done : (purpose : Purpose) → IsRule false false false false false purpose (done_ruling purpose)
done (to_read accept) = refl
done to_discover = refl
done (to_create format payload) = refl
done to_delete = refl
done purpose = refl

told : (P : Ruling → Type 0) (said is : Ruling) → P said → Some said ≡ Some is → P is
told P said is p h = let same : said ≡ is = cc in subst P same p

decided : (a b c d e f g h : Bool) (purpose : Purpose) (is : Ruling)
    → first_line ((a, ruling.Security) ∷ (b, ruling.Target) ∷ (c, ruling.Right) ∷ (d, ruling.Operation)
    ∷ (e, format_ruling purpose) ∷ (f, ruling.Payload) ∷ (g, ruling.State) ∷ (h, ruling.Limit)
    ∷ (true, done_ruling purpose) ∷ []) ≡ Some is → IsRule a c e f h purpose is
decided true b c d e f g h purpose is = told (IsRule true c e f h purpose) ruling.Security is refl
decided false true c d e f g h purpose is = told (IsRule false c e f h purpose) ruling.Target is tt
decided false false true d e f g h purpose is = told (IsRule false true e f h purpose) ruling.Right is refl
decided false false false true e f g h purpose is = told (IsRule false false e f h purpose) ruling.Operation is tt
decided false false false false true f g h purpose is =
    told (IsRule false false true f h purpose) (format_ruling purpose) is (unserved f h purpose)
decided false false false false false true g h purpose is =
    told (IsRule false false false true h purpose) ruling.Payload is (refl, refl)
decided false false false false false false true h purpose is =
    told (IsRule false false false false h purpose) ruling.State is tt
decided false false false false false false false true purpose is =
    told (IsRule false false false false true purpose) ruling.Limit is refl
decided false false false false false false false false purpose is =
    told (IsRule false false false false false purpose) (done_ruling purpose) is (done purpose)

-- what a rule says of a request
abbrev pub IsRuleOf : Client → ℕ → Path → Purpose → Ruling → Type 0
IsRuleOf client server path purpose =
    IsRule (object_in path == 0) (lacks_right client server path purpose) (lacks_format client.catalog path purpose)
    (is_invalid client server path purpose) (is_too_much client server path purpose) purpose

pub ruled : (client : Client) (server : ℕ) (path : Path) (purpose : Purpose) (ruling is : Ruling)
    → first_line (rules_of client server path purpose) ≡ Some ruling → ruling ≡ is
    → IsRuleOf client server path purpose is
ruled client server path purpose ruling is first same =
    subst (IsRuleOf client server path purpose) same
    (decided (object_in path == 0) (lacks_target client path purpose) (lacks_right client server path purpose)
    (lacks_operation client.catalog path purpose) (lacks_format client.catalog path purpose)
    (is_invalid client server path purpose) (is_out_of_turn client path purpose)
    (is_too_much client server path purpose) purpose ruling first)

-- a format that is not served, by the rule of Accept or that of Content-Format
pub unserved_by : (client : Client) (server : ℕ) (path : Path) (purpose : Purpose) (by : Ruling)
    → first_line (rules_of client server path purpose) ≡ Some by
    → (by ≡ ruling.Accept) ⊎ (by ≡ ruling.ContentFormat)
    → (lacks_format client.catalog path purpose ≡ true) × (format_ruling purpose ≡ by)
unserved_by client server path purpose by first (inl a) =
    let is = ruled client server path purpose by ruling.Accept first a in (is.0, is.1 ∙ sym a)
unserved_by client server path purpose by first (inr b) =
    let is = ruled client server path purpose by ruling.ContentFormat first b in (is.0, is.1 ∙ sym b)

-- success
pub done_by : (client : Client) (server : ℕ) (path : Path) (purpose : Purpose) (by : Ruling)
    → first_line (rules_of client server path purpose) ≡ Some by
    → (by ≡ ruling.Created) ⊎ ((by ≡ ruling.Deleted) ⊎ ((by ≡ ruling.Changed) ⊎ (by ≡ ruling.Content)))
    → done_ruling purpose ≡ by
done_by client server path purpose by first (inl a) =
    ruled client server path purpose by ruling.Created first a ∙ sym a
done_by client server path purpose by first (inr (inl b)) =
    ruled client server path purpose by ruling.Deleted first b ∙ sym b
done_by client server path purpose by first (inr (inr (inl d))) =
    ruled client server path purpose by ruling.Changed first d ∙ sym d
done_by client server path purpose by first (inr (inr (inr e))) =
    ruled client server path purpose by ruling.Content first e ∙ sym e

-- what refuses a message as it is read decides no request for an operation
pub never_by : (client : Client) (server : ℕ) (path : Path) (purpose : Purpose) (by : Ruling)
    → first_line (rules_of client server path purpose) ≡ Some by
    → (by ≡ ruling.Options) ⊎ ((by ≡ ruling.NoPath) ⊎ (by ≡ ruling.Method)) → ⊥
never_by client server path purpose by first (inl a) = ruled client server path purpose by ruling.Options first a
never_by client server path purpose by first (inr (inl b)) = ruled client server path purpose by ruling.NoPath first b
never_by client server path purpose by first (inr (inr d)) = ruled client server path purpose by ruling.Method first d

-- the first rule of a request that asks for an operation is the first of its table
pub first_asked : (client : Client) (server : ℕ) (m : Message) (path : Path) (operation : Operation)
    → Asks m path operation → first_line (rules_of client server path (purpose_of m operation))
    ≡ Some (outcome_of client server m).answer.ruling
first_asked client server m path operation asks =
    sym (ap first_line
    (ap (λ (b : Bool). (b, ruling.Options) ∷ lines_on client server m (path_of (segments_of m.options))) asks.understood
    ∙ ap (λ (p : Option Path). (false, ruling.Options) ∷ lines_on client server m p) asks.goes_to
    ∙ ap (λ (o : Option Operation). (false, ruling.Options) ∷ lines_by client server m path o) asks.means))
    ∙ says client server m
