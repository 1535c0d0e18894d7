-- The attributes that a Discover prints, as queries of a Write-Attributes (OMA LwM2M 1.1 Core, attributes).
use Rattle.std.specs.Prelude.{◌≡◌, ◌↔◌, ◌<◌, ◌^◌, ℕ, ℤ, pos, unsigned_abs, true, List, [], Some, Ok, drop}
use Rattle.std.specs.FinMap as map
use Rattle.coap_codec.specs.Message.{Message}
use Rattle.notifier.specs.declared.attribute.AttributeKey.{AttributeKey}
use Rattle.notifier.specs.declared.attribute.Change.{Change}
use Rattle.notifier.specs.declared.attribute.Level.{Level}
use Rattle.notifier.specs.declared.attribute.Name.{Name}
use Rattle.notifier.specs.declared.attribute.Name.TheVariants.{Pmin, Pmax, Gt, Lt, St}
use Rattle.notifier.specs.Attributes.{path_of}
use Rattle.notifier.specs.Query.{reading_of, stands_at}
use Rattle.device_requests.specs.Client.{Client}
use Rattle.device_requests.specs.Discover.{attribute_text}
use Rattle.device_requests.specs.Request.{outcome_of}
use Rattle.device_requests.specs.WriteAttributes.{level_at}

-- the numbers that an attribute may have: pmin and pmax are seconds, at most 2,147,483,647; the others are thousandths,
-- with at most 15 digits before the point and 3 after it, and st is above 0
abbrev pub IsAttributeNumber : Name → ℤ → Type 0
IsAttributeNumber Pmin z = (n : ℕ) × (z ≡ pos n) × (n < 2147483648)
IsAttributeNumber Pmax z = (n : ℕ) × (z ≡ pos n) × (n < 2147483648)
IsAttributeNumber Gt z = unsigned_abs z < 10 ^ 18
IsAttributeNumber Lt z = unsigned_abs z < 10 ^ 18
IsAttributeNumber St z = (n : ℕ) × (z ≡ pos n) × (0 < n) × (n < 10 ^ 18)

-- an attribute as a Discover prints it, without the `;` before it
abbrev pub attribute_query : Name → ℤ → List ℕ
attribute_query n z = drop 1 (attribute_text n (Some z))

-- that an attribute has this number
abbrev pub setting : Name → ℤ → Change
setting n z = record { name = n; number = Some z }

-- what is printed of an attribute is read as the attribute and its number, exactly where it may have that number
abbrev pub PrintedIsRead : Type 0
PrintedIsRead =
    (level : Level) (n : Name) (z : ℤ)
    → (reading_of [] level (attribute_query n z) ≡ Ok (setting n z))
    ↔ (IsAttributeNumber n z × (stands_at n level ≡ true))

-- no query gives an attribute any other number
abbrev pub OnlyTheseAreRead : Type 0
OnlyTheseAreRead =
    (before : List Change) (level : Level) (query : List ℕ) (n : Name) (z : ℤ)
    → reading_of before level query ≡ Ok (setting n z) → IsAttributeNumber n z

-- so what a query says, the text that is printed of it says again
abbrev pub PrintedSaysAgain : Type 0
PrintedSaysAgain =
    (before : List Change) (level : Level) (query : List ℕ) (n : Name) (z : ℤ)
    → reading_of before level query ≡ Ok (setting n z)
    → reading_of before level (attribute_query n z) ≡ Ok (setting n z)

-- each attribute that is set has a number that it may have, and stands at the level of its path
abbrev pub HasValidAttributes : Client → Type 0
HasValidAttributes client =
    (k : AttributeKey) (z : ℤ) → map.get client.attributes k ≡ Some z
    → IsAttributeNumber k.name z × (stands_at k.name (level_at client.catalog (path_of k)) ≡ true)

-- it is so where none is set, as at the start
abbrev pub NoneIsValid : Type 0
NoneIsValid = (client : Client) → client.attributes ≡ map.empty → HasValidAttributes client

-- and stays so whatever is requested
abbrev pub RequestsKeepValid : Type 0
RequestsKeepValid =
    (client : Client) (server : ℕ) (m : Message) → HasValidAttributes client
    → HasValidAttributes (outcome_of client server m).client
