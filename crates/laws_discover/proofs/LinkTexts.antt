-- The payload of a Discover says its links.
use Rattle.std.proofs.Common.{◌≡◌, ℕ, ◌<◌, ◌^◌, ◌==◌, ℤ, Bool, true, false, not, List, [], ◌∷◌, ◌++◌}
use Rattle.std.proofs.Common.{map, length, Option, None, Some, codes, if◌then◌else◌, refl, sym, ap, subst, ◌∙◌, arith}
use Rattle.std.proofs.Common.{append_assoc, append-nil, inl, inr, nat_lt, Err}
use Rattle.std.specs.Fmt.{decimal}
use Rattle.std.specs.Int.{IsInRange}
use Rattle.std.specs.List.{AllByRecursion}
use Rattle.std.proofs.lemmas.Bool.Decides.{nat_tests}
use Rattle.std.proofs.lemmas.Fmt.{decimal_is_IsNumeral}
use Rattle.coap_codec.specs.Message.{Message}
use Rattle.lwm2m_values.specs.Value.{IsDecimal}
use Rattle.object_defs.specs.declared.path.Path.{Path}
use Rattle.object_defs.specs.Lines.{first_line}
use Rattle.object_defs.specs.Numbers.{security_object}
use Rattle.object_defs.specs.Path.{object_in}
use Rattle.notifier.specs.declared.attribute.Name.{Name}
use Rattle.notifier.specs.declared.attribute.Name.TheVariants.{Pmin, Pmax, Gt, Lt, St}
use Rattle.scenario_words.specs.PathWord.{IsPath}
use Rattle.device_requests.specs.declared.operation.Operation.TheVariants.{Discover}
use Rattle.device_requests.specs.declared.ruling.Ruling.TheVariants as rule
use Rattle.device_requests.specs.declared.answer.Code.TheVariants.{Content}
use Rattle.device_requests.specs.Answer.{answer_alone, content, Outcome, refused_or}
use Rattle.device_requests.specs.Client.{Client}
use Rattle.device_requests.specs.Discover.{attribute_text, attributes_text, dimension, dimension_text, discover_payload}
use Rattle.device_requests.specs.Discover.{inherits_at, link, link_parameters, linked_paths, links_text, more_links}
use Rattle.device_requests.specs.Discover.{name_text, number_text, shown_attribute, shown_number}
use Rattle.device_requests.specs.Laws.{LinksWhatExists}
use Rattle.device_requests.specs.Operation.{link_format}
use Rattle.device_requests.specs.Options.{path_of, segments_of}
use Rattle.device_requests.specs.Order.{Asks}
use Rattle.device_requests.specs.Outcomes.{discover_answer}
use Rattle.device_requests.specs.Request.{outcome_for, outcome_of, request_by, request_on}
use Rattle.device_requests.specs.Ruling.{code_of}
use Rattle.device_requests.specs.Targets.{exists}
use Rattle.laws_reading.specs.Queries.{IsSignedThousandths, IsThousandths, SaysNumber}
use Rattle.laws_discover.specs.Links.{AreChars, AreLinks, AreMoreLinks, AreParameters, attribute_parameter}
use Rattle.laws_discover.specs.Links.{dimension_parameter, DiscoversAreRead, is_name_char, is_value_char, IsLink}
use Rattle.laws_discover.specs.Links.{IsWithinTypes, link_to, links_to}
use Rattle.laws_discover.specs.Links.{PathLink, PathsAreRead}
use Rattle.laws_discover.specs.Printed.{HasValidAttributes, IsAttributeNumber}
use Rattle.laws_discover.proofs.Fitting.{counts_fit, path_of_fits, paths_fit}
use Rattle.laws_discover.proofs.LinkReading.{joined_passes, digits_pass, one_reading}
use Rattle.laws_discover.proofs.PrintedNumbers.{number_text_says}
use Rattle.laws_discover.proofs.ShownNumbers.{shown_valid}

-- texts of numbers are values

digit_is_value : (c : ℕ) → IsInRange 48 57 c → is_value_char c ≡ true
digit_is_value c h = grind (arith, nat_tests)

decimal_chars : (n : ℕ) (t : List ℕ) → IsDecimal n t → AreChars is_value_char t
decimal_chars n t h = (h.0.0, digits_pass is_value_char digit_is_value t h.0.1)

some_joined : (a b : List ℕ) → 0 < length a → 0 < length (a ++ b)
some_joined [] b h = absurd (omega arith)
some_joined (x ∷ a) b h = omega arith

thousandths_chars : (n : ℕ) (t : List ℕ) → IsThousandths n t → AreChars is_value_char t
thousandths_chars n t (inl p) = decimal_chars p.0 t p.1
thousandths_chars n t (inr p) =
    let whole = decimal_chars p.0 p.2 p.5 in
    let part = decimal_chars p.1 p.3 p.7 in
    subst (AreChars is_value_char) (sym p.4)
    (some_joined p.2 (46 ∷ p.3) whole.0, joined_passes is_value_char p.2 (46 ∷ p.3) whole.1 part.1)

signed_chars : (z : ℤ) (t : List ℕ) → IsSignedThousandths z t → AreChars is_value_char t
signed_chars z t (inl p) = thousandths_chars p.0 t p.1
signed_chars z t (inr p) =
    subst (AreChars is_value_char) (sym p.2) (omega arith, (thousandths_chars p.0 p.1 p.3).1)

says_chars : (n : Name) (t : List ℕ) (z : ℤ) → SaysNumber n t z → AreChars is_value_char t
says_chars Pmin t z p = decimal_chars p.0 t p.1
says_chars Pmax t z p = decimal_chars p.0 t p.1
says_chars Gt t z p = signed_chars z t p
says_chars Lt t z p = signed_chars z t p
says_chars St t z p = thousandths_chars p.0 t p.1

name_chars : (n : Name) → AreChars is_name_char (name_text n)
name_chars Pmin = (omega arith, refl)
name_chars Pmax = (omega arith, refl)
name_chars Gt = (omega arith, refl)
name_chars Lt = (omega arith, refl)
name_chars St = (omega arith, refl)

-- parameters

parameters_joined : (a b : List ℕ) (ps qs : List (List ℕ × List ℕ)) → AreParameters a ps → AreParameters b qs
    → AreParameters (a ++ b) (ps ++ qs)
parameters_joined a b [] qs h k = subst (λ t. AreParameters (t ++ b) qs) (sym h) k
parameters_joined a b (p ∷ ps) qs h k = (
  h.0 ++ b,
  ap (λ t. t ++ b) h.1 ∙ ap (λ t. 59 ∷ t)
      (append_assoc p.0 (61 ∷ (p.1 ++ h.0)) b ∙ ap (λ t. p.0 ++ 61 ∷ t) (append_assoc p.1 h.0 b)),
  h.2,
  h.3,
  parameters_joined h.0 b ps qs h.4 k,
)

one_parameter : (name value : List ℕ) → AreChars is_name_char name → AreChars is_value_char value
    → AreParameters (59 ∷ name ++ 61 ∷ value) ((name, value) ∷ [])
one_parameter name value h k =
    ([], ap (λ t. 59 ∷ name ++ 61 ∷ t) (sym (append-nil value)), h, k, refl)

dimension_said : (n : ℕ) → n < 2 ^ 64 → AreParameters (dimension_text n) (dimension_parameter n)
dimension_said n small = by (n == 0)
  where
    by : (b : Bool) → AreParameters (if b then [] else codes ";dim=" ++ decimal n)
        (if b then [] else (codes "dim", decimal n) ∷ [])
    by true = refl
    by false =
        one_parameter (codes "dim") (decimal n) (omega arith, refl)
        (decimal_chars n (decimal n) (decimal_is_IsNumeral n small))

attribute_said : (n : Name) (o : Option ℤ) → ((z : ℤ) → o ≡ Some z → IsAttributeNumber n z)
    → AreParameters (attribute_text n o) (attribute_parameter n o)
attribute_said n None h = refl
attribute_said n (Some z) h =
    one_parameter (name_text n) (number_text n z) (name_chars n)
    (says_chars n (number_text n z) z (number_text_says n z (h z refl)))

-- links

shown_said : (client : Client) → HasValidAttributes client → (server : ℕ) (inherits : Bool) (path : Path) (n : Name)
    → AreParameters (shown_attribute client.attributes server inherits path n)
    (attribute_parameter n (shown_number client.attributes server inherits path n))
shown_said client h server inherits path n =
    attribute_said n (shown_number client.attributes server inherits path n)
    (λ z e. (shown_valid client h server inherits path n z e).0)

behind_said : (client : Client) → HasValidAttributes client → (server : ℕ) (inherits : Bool) (path : Path)
    → dimension client.catalog client.store path < 2 ^ 64
    → AreParameters (link_parameters client server inherits path) (link_to client server inherits path).parameters
behind_said client h server inherits path small =
    let shown = shown_attribute client.attributes server inherits path in
    let parameter = λ (n : Name). attribute_parameter n (shown_number client.attributes server inherits path n) in
    let said = shown_said client h server inherits path in
    let count = dimension client.catalog client.store path in
    let last = subst (AreParameters (shown St)) (sym (append-nil (parameter St))) (said St) in
    let from_lt = parameters_joined (shown Lt) (shown St) (parameter Lt) (parameter St ++ []) (said Lt) last in
    let from_gt = parameters_joined (shown Gt) (shown Lt ++ shown St) (parameter Gt)
    (parameter Lt ++ (parameter St ++ [])) (said Gt) from_lt in
    let from_pmax = parameters_joined (shown Pmax) (shown Gt ++ (shown Lt ++ shown St)) (parameter Pmax)
    (parameter Gt ++ (parameter Lt ++ (parameter St ++ []))) (said Pmax) from_gt in
    let from_pmin = parameters_joined (shown Pmin) (shown Pmax ++ (shown Gt ++ (shown Lt ++ shown St))) (parameter Pmin)
    (parameter Pmax ++ (parameter Gt ++ (parameter Lt ++ (parameter St ++ [])))) (said Pmin) from_pmax in
    parameters_joined (dimension_text count) (attributes_text client.attributes server inherits path)
    (dimension_parameter count)
    (parameter Pmin ++ (parameter Pmax ++ (parameter Gt ++ (parameter Lt ++ (parameter St ++ [])))))
    (dimension_said count small) from_pmin

link_said : (client : Client) → HasValidAttributes client → (server : ℕ) (inherits : Bool) (path : Path)
    → IsPath path → dimension client.catalog client.store path < 2 ^ 64
    → IsLink (link client server inherits path) (link_to client server inherits path)
link_said client h server inherits path is small =
    (link_parameters client server inherits path, refl, is, behind_said client h server inherits path small)

more_said : (client : Client) → HasValidAttributes client → (server : ℕ) (ps : List Path)
    → AllByRecursion IsPath ps → AllByRecursion (λ p. dimension client.catalog client.store p < 2 ^ 64) ps
    → AreMoreLinks (more_links client server ps) (map (link_to client server false) ps)
more_said client h server [] are small = refl
more_said client h server (p ∷ ps) are small = (
  link client server false p,
  more_links client server ps,
  refl,
  link_said client h server false p are.0 small.0,
  more_said client h server ps are.1 small.1,
)

links_said : (client : Client) → HasValidAttributes client → (server : ℕ) (ps : List Path)
    → AllByRecursion IsPath ps → AllByRecursion (λ p. dimension client.catalog client.store p < 2 ^ 64) ps
    → AreLinks (links_text client server ps) (links_to client server ps)
links_said client h server [] are small = refl
links_said client h server (p ∷ ps) are small = (
  link client server (inherits_at p) p,
  more_links client server ps,
  refl,
  link_said client h server (inherits_at p) p are.0 small.0,
  more_said client h server ps are.1 small.1,
)

-- the payload of an answer that is Content

payload_is : (client : Client) (server : ℕ) (path : Path)
    → code_of (discover_answer client server path).ruling ≡ Content
    → (discover_answer client server path).payload ≡ discover_payload client server path
payload_is client server path h =
    by (object_in path == security_object) (not (exists client.catalog client.store path))
    (nat_lt 1024 (length (discover_payload client server path))) h
  where
    by : (a b c : Bool)
        → code_of (refused_or (first_line ((a, rule.Security) ∷ (b, rule.Target) ∷ (c, rule.Limit) ∷ []))
        (content link_format (discover_payload client server path))).ruling ≡ Content
        → (refused_or (first_line ((a, rule.Security) ∷ (b, rule.Target) ∷ (c, rule.Limit) ∷ []))
        (content link_format (discover_payload client server path))).payload ≡ discover_payload client server path
    by true b c e = cc e
    by false true c e = cc e
    by false false true e = cc e
    by false false false e = refl

content_exists : (client : Client) (server : ℕ) (path : Path)
    → code_of (discover_answer client server path).ruling ≡ Content
    → exists client.catalog client.store path ≡ true
content_exists client server path h =
    by (object_in path == security_object) (exists client.catalog client.store path)
    (nat_lt 1024 (length (discover_payload client server path))) h
  where
    by : (a b c : Bool)
        → code_of (refused_or (first_line ((a, rule.Security) ∷ (not b, rule.Target) ∷ (c, rule.Limit) ∷ []))
        (content link_format (discover_payload client server path))).ruling ≡ Content
        → b ≡ true
    by true b c e = cc e
    by false true c e = refl
    by false false c e = cc e

payload_said : LinksWhatExists → (client : Client) (server : ℕ) (path : Path) → IsWithinTypes client → IsPath path
    → code_of (discover_answer client server path).ruling ≡ Content
    → AreLinks (discover_answer client server path).payload
    (links_to client server (linked_paths client.catalog client.store path))
payload_said law client server path within is h =
    subst (λ t. AreLinks t (links_to client server (linked_paths client.catalog client.store path)))
    (sym (payload_is client server path h))
    (links_said client within.attributes server (linked_paths client.catalog client.store path)
    (paths_fit law client within path is (content_exists client server path h))
    (counts_fit client within (linked_paths client.catalog client.store path)))

-- the answer to a request

comes_to : (client : Client) (server : ℕ) (m : Message) (path : Path) → Asks m path Discover
    → outcome_of client server m ≡ answer_alone client (discover_answer client server path)
comes_to client server m path asks =
    ap (outcome_for client server m)
    (ap (λ (b : Bool). if b then Err rule.Options else request_on m (path_of (segments_of m.options))) asks.understood
    ∙ ap (request_on m) asks.goes_to ∙ ap (request_by m path) asks.means)

answer_said : LinksWhatExists → (client : Client) (server : ℕ) (m : Message) (path : Path) → IsWithinTypes client
    → Asks m path Discover → code_of (outcome_of client server m).answer.ruling ≡ Content
    → AreLinks (outcome_of client server m).answer.payload
    (links_to client server (linked_paths client.catalog client.store path))
answer_said law client server m path within asks h =
    let same = comes_to client server m path asks in
    subst (λ (o : Outcome). AreLinks o.answer.payload
    (links_to client server (linked_paths client.catalog client.store path))) (sym same)
    (payload_said law client server path within (path_of_fits (segments_of m.options) path asks.goes_to)
    (subst (λ (o : Outcome). code_of o.answer.ruling ≡ Content) same h))

pub discovers_are_read : LinksWhatExists → DiscoversAreRead
discovers_are_read law client server m path within asks h ls =
    let text = (outcome_of client server m).answer.payload in
    let links = links_to client server (linked_paths client.catalog client.store path) in
    let here = answer_said law client server m path within asks h in (
      (λ said. one_reading text ls links said here),
      (λ same. subst (AreLinks text) (sym same) here),
    )

paths_mapped : (client : Client) (server : ℕ) (ps : List Path)
    → map (λ l. l.path) (map (link_to client server false) ps) ≡ ps
paths_mapped client server [] = refl
paths_mapped client server (p ∷ ps) = ap (λ qs. p ∷ qs) (paths_mapped client server ps)

paths_of : (client : Client) (server : ℕ) (ps : List Path) → map (λ l. l.path) (links_to client server ps) ≡ ps
paths_of client server [] = refl
paths_of client server (p ∷ ps) = ap (λ qs. p ∷ qs) (paths_mapped client server ps)

pub paths_are_read : LinksWhatExists → PathsAreRead
paths_are_read law client server m path within asks h ls said =
    ap (map (λ (l : PathLink). l.path)) ((discovers_are_read law client server m path within asks h ls).0 said)
    ∙ paths_of client server (linked_paths client.catalog client.store path)
