-- Links as text, and the links that the payload of a Discover says (RFC 6690 section 2; values stand without quotes).
-- Characters by their codes: 34 is `"`, 44 a comma, 59 `;`, 60 `<`, 61 `=`, 62 `>`, 92 a backslash.
use Rattle.std.specs.Prelude.{◌≡◌, ◌↔◌, ◌<◌, ◌^◌, ◌==◌, ◌&&◌, ◌||◌, ℕ, ℤ, Bool, true, false, not, nat_le, List}
use Rattle.std.specs.Prelude.{[], ◌∷◌, ◌++◌, map, length, Option, None, Some, Ok, codes, if◌then◌else◌}
use Rattle.std.specs.Fmt.{decimal}
use Rattle.std.specs.List.{flat_map, list_all, list_any}
use Rattle.coap_codec.specs.Message.{Message}
use Rattle.object_defs.specs.declared.definition.ResourceDef.{ResourceDef}
use Rattle.object_defs.specs.declared.path.InstancePath.{InstancePath}
use Rattle.object_defs.specs.declared.path.Path.{Path}
use Rattle.object_defs.specs.declared.path.ResourcePath.{ResourcePath}
use Rattle.object_defs.specs.Catalog.{definition_of}
use Rattle.object_defs.specs.Path.{path_text}
use Rattle.instance_store.specs.Stored.{has_instance, parts_of}
use Rattle.notifier.specs.declared.attribute.Change.{Change}
use Rattle.notifier.specs.declared.attribute.Name.{Name}
use Rattle.notifier.specs.declared.attribute.Name.TheVariants.{Pmin, Pmax, Gt, Lt, St}
use Rattle.notifier.specs.Query.{changes_of}
use Rattle.scenario_words.specs.PathWord.{IsPath}
use Rattle.device_requests.specs.declared.operation.Operation.TheVariants.{Discover}
use Rattle.device_requests.specs.declared.answer.Code.TheVariants.{Content}
use Rattle.device_requests.specs.Client.{Client}
use Rattle.device_requests.specs.Discover.{dimension, inherits_at, linked_paths, name_text, number_text, shown_number}
use Rattle.device_requests.specs.Order.{Asks}
use Rattle.device_requests.specs.Outcomes.{attributes_outcome}
use Rattle.device_requests.specs.Request.{outcome_of}
use Rattle.device_requests.specs.Ruling.{code_of}
use Rattle.device_requests.specs.WriteAttributes.{level_at}
use Rattle.laws_discover.specs.Printed.{HasValidAttributes, setting}

-- a character of a parameter's name: a digit, a letter or one of these marks (RFC 5987 section 3.2.1)
abbrev pub is_name_char : ℕ → Bool
is_name_char c =
    (nat_le 48 c && nat_le c 57) || ((nat_le 65 c && nat_le c 90) || ((nat_le 97 c && nat_le c 122)
    || list_any (λ d. d == c) (codes "!#$&+-.^_`|~")))

-- a character of a value without quotes: one that is printed, other than a space, `"`, a comma, `;` and a backslash
abbrev pub is_value_char : ℕ → Bool
is_value_char c =
    (nat_le 33 c && nat_le c 126) && not (list_any (λ d. d == c) (34 ∷ 44 ∷ 59 ∷ 92 ∷ []))

-- one character or more, and all are such
abbrev pub AreChars : (ℕ → Bool) → List ℕ → Type 0
AreChars test text = (0 < length text) × (list_all test text ≡ true)

-- parameters, each a name and its value: `;name=value` one after another
abbrev pub AreParameters : List ℕ → List (List ℕ × List ℕ) → Type 0
AreParameters text [] = text ≡ []
AreParameters text (p ∷ ps) =
    (rest : List ℕ) × (text ≡ 59 ∷ p.0 ++ 61 ∷ (p.1 ++ rest)) × AreChars is_name_char p.0 × AreChars is_value_char p.1
    × AreParameters rest ps

-- a path that a link refers to, and the link's parameters
pub record PathLink : Type 0 where
  pub path : Path
  pub parameters : List (List ℕ × List ℕ)

-- a link: its path between `<` and `>`, and its parameters after it
abbrev pub IsLink : List ℕ → PathLink → Type 0
IsLink text l =
    (behind : List ℕ) × (text ≡ 60 ∷ path_text l.path ++ 62 ∷ behind) × IsPath l.path
    × AreParameters behind l.parameters

-- further links, each after a comma
abbrev pub AreMoreLinks : List ℕ → List PathLink → Type 0
AreMoreLinks text [] = text ≡ []
AreMoreLinks text (l ∷ ls) =
    (first : List ℕ) × (rest : List ℕ) × (text ≡ 44 ∷ first ++ rest) × IsLink first l × AreMoreLinks rest ls

-- links with commas between them; an empty text has none
abbrev pub AreLinks : List ℕ → List PathLink → Type 0
AreLinks text [] = text ≡ []
AreLinks text (l ∷ ls) =
    (first : List ℕ) × (rest : List ℕ) × (text ≡ first ++ rest) × IsLink first l × AreMoreLinks rest ls

-- a text says one list of links at most
abbrev pub LinksHaveOneReading : Type 0
LinksHaveOneReading = (text : List ℕ) (ls ms : List PathLink) → AreLinks text ls → AreLinks text ms → ls ≡ ms

-- the names of attributes in the order in which links show them
abbrev pub attribute_names : List Name
attribute_names = Pmin ∷ Pmax ∷ Gt ∷ Lt ∷ St ∷ []

-- `dim` with the number of parts that a resource holds, if there are any
abbrev pub dimension_parameter : ℕ → List (List ℕ × List ℕ)
dimension_parameter n = if n == 0 then [] else (codes "dim", decimal n) ∷ []

-- an attribute with its number, if it has one
abbrev pub attribute_parameter : Name → Option ℤ → List (List ℕ × List ℕ)
attribute_parameter n None = []
attribute_parameter n (Some z) = (name_text n, number_text n z) ∷ []

-- the attributes of a server that the link of a path shows, in this order
abbrev pub attribute_parameters : Client → ℕ → Bool → Path → List (List ℕ × List ℕ)
attribute_parameters client server inherits path =
    flat_map (λ n. attribute_parameter n (shown_number client.attributes server inherits path n)) attribute_names

-- the link of a path: `dim`, and then the attributes
abbrev pub link_to : Client → ℕ → Bool → Path → PathLink
link_to client server inherits path =
    record {
      path = path;
      parameters =
          dimension_parameter (dimension client.catalog client.store path)
          ++ attribute_parameters client server inherits path;
    }

-- the links of paths, of which the first is the target of the Discover
abbrev pub links_to : Client → ℕ → List Path → List PathLink
links_to client server [] = []
links_to client server (p ∷ ps) = link_to client server (inherits_at p) p ∷ map (link_to client server false) ps

-- what the types of a device's numbers give: instances and resources have numbers of 16 bits, and parts can be counted
-- in 64 bits; and attributes are valid, as they are from the start whatever is requested (`attributes_stay_valid`)
pub record IsWithinTypes (client : Client) : Type 0 where
  pub instances : (p : InstancePath) → has_instance client.store p ≡ true → (p.object < 65536) × (p.instance < 65536)
  pub resources : (o r : ℕ) (d : ResourceDef) → definition_of client.catalog o r ≡ Some d → r < 65536
  pub parts : (r : ResourcePath) → length (parts_of client.store r) < 2 ^ 64
  pub attributes : HasValidAttributes client

-- the payload of a Discover that is answered Content says exactly these links, of exactly these paths, in their order
abbrev pub DiscoversAreRead : Type 0
DiscoversAreRead =
    (client : Client) (server : ℕ) (m : Message) (path : Path) → IsWithinTypes client → Asks m path Discover
    → code_of (outcome_of client server m).answer.ruling ≡ Content
    → (ls : List PathLink)
    → AreLinks (outcome_of client server m).answer.payload ls
    ↔ (ls ≡ links_to client server (linked_paths client.catalog client.store path))

-- so the paths that are read from it are those that the Discover shows
abbrev pub PathsAreRead : Type 0
PathsAreRead =
    (client : Client) (server : ℕ) (m : Message) (path : Path) → IsWithinTypes client → Asks m path Discover
    → code_of (outcome_of client server m).answer.ruling ≡ Content
    → (ls : List PathLink) → AreLinks (outcome_of client server m).answer.payload ls
    → map (λ l. l.path) ls ≡ linked_paths client.catalog client.store path

-- a parameter as a query: its name and its value with a `=` between them
abbrev pub query_of : List ℕ × List ℕ → List ℕ
query_of p = p.0 ++ 61 ∷ p.1

-- the changes that set the attributes that a link shows
abbrev pub settings : Name → Option ℤ → List Change
settings n None = []
settings n (Some z) = setting n z ∷ []

abbrev pub settings_shown : Client → ℕ → Bool → Path → List Change
settings_shown client server inherits path =
    flat_map (λ n. settings n (shown_number client.attributes server inherits path n)) attribute_names

-- the attributes that a link shows, sent back as the queries of a Write-Attributes at its path, set just these
abbrev pub ParametersAreQueries : Type 0
ParametersAreQueries =
    (client : Client) (server : ℕ) (inherits : Bool) (path : Path) → HasValidAttributes client
    → changes_of [] (level_at client.catalog path)
    (map query_of (attribute_parameters client server inherits path))
    ≡ Ok (settings_shown client server inherits path)

-- so a server that writes back what it is shown of its attributes at a path changes nothing
abbrev pub WrittenBackIsTheSame : Type 0
WrittenBackIsTheSame =
    (client : Client) (server : ℕ) (path : Path) → HasValidAttributes client
    → (attributes_outcome client server path
    (map query_of (attribute_parameters client server false path))).client ≡ client
