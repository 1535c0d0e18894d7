-- What the queries of a Write-Attributes say, by their grammar (OMA LwM2M 1.1 Core, attributes; the numbers' ranges are
-- this profile's). Characters by their codes: 45 is `-`, 46 a point, 61 `=`.
use Rattle.std.specs.Prelude.{◌≡◌, ◌≢◌, ◌↔◌, ◌⊎◌, ◌<◌, ◌≤◌, ◌+◌, ◌*◌, ◌-◌, ◌^◌, ℕ, ℤ, pos, neg_ℤ, true, false, List}
use Rattle.std.specs.Prelude.{[]}
use Rattle.std.specs.Prelude.{◌∷◌, ◌++◌, length, Option, None, Some, Ok, Err, codes}
use Rattle.std.specs.List.{AllByRecursion}
use Rattle.lwm2m_values.specs.Value.{IsDecimal}
use Rattle.notifier.specs.declared.attribute.Name.{Name}
use Rattle.notifier.specs.declared.attribute.Name.TheVariants.{Pmin, Pmax, Gt, Lt, St}
use Rattle.notifier.specs.declared.attribute.Change.{Change}
use Rattle.notifier.specs.declared.attribute.Level.{Level}
use Rattle.notifier.specs.declared.fault.QueryFault.{QueryFault}
use Rattle.notifier.specs.declared.fault.QueryFault.TheVariants as fault
use Rattle.notifier.specs.Query.{changes_of, reading_of, stands_at}

abbrev pub name_text : Name → List ℕ
name_text Pmin = codes "pmin"
name_text Pmax = codes "pmax"
name_text Gt = codes "gt"
name_text Lt = codes "lt"
name_text St = codes "st"

-- 1 to 15 digits that write whole thousands, and nothing more; or after them a point and 1 to 3 digits more
abbrev pub IsThousandths : ℕ → List ℕ → Type 0
IsThousandths n text =
    ((w : ℕ) × IsDecimal w text × (length text ≤ 15) × (n ≡ w * 1000))
    ⊎ ((w : ℕ) × (f : ℕ) × (whole : List ℕ) × (part : List ℕ) × (text ≡ whole ++ 46 ∷ part) × IsDecimal w whole
    × (length whole ≤ 15) × IsDecimal f part × (length part ≤ 3) × (n ≡ w * 1000 + f * 10 ^ (3 - length part)))

-- the same, after a minus sign or none
abbrev pub IsSignedThousandths : ℤ → List ℕ → Type 0
IsSignedThousandths z text =
    ((n : ℕ) × IsThousandths n text × (z ≡ pos n))
    ⊎ ((n : ℕ) × (digits : List ℕ) × (text ≡ 45 ∷ digits) × IsThousandths n digits × (z ≡ neg_ℤ (pos n)))

-- this text says this number of an attribute: pmin and pmax are digits and at most 2,147,483,647; st is above 0
abbrev pub SaysNumber : Name → List ℕ → ℤ → Type 0
SaysNumber Pmin text z = (n : ℕ) × IsDecimal n text × (n < 2147483648) × (z ≡ pos n)
SaysNumber Pmax text z = (n : ℕ) × IsDecimal n text × (n < 2147483648) × (z ≡ pos n)
SaysNumber Gt text z = IsSignedThousandths z text
SaysNumber Lt text z = IsSignedThousandths z text
SaysNumber St text z = (n : ℕ) × IsThousandths n text × (0 < n) × (z ≡ pos n)

-- the name alone says that the attribute is unset; the name, `=` and a number's text that it is set to the number
abbrev pub SaysTarget : Name → List ℕ → Option ℤ → Type 0
SaysTarget n query None = query ≡ name_text n
SaysTarget n query (Some z) = (text : List ℕ) × (query ≡ name_text n ++ 61 ∷ text) × SaysNumber n text z

-- a query says a change, of a name that stands at the level
abbrev pub Says : Level → List ℕ → Change → Type 0
Says level query c = SaysTarget c.name query c.number × (stands_at c.name level ≡ true)

abbrev pub QueriesAreSaid : Type 0
QueriesAreSaid = (level : Level) (query : List ℕ) (c : Change) → (reading_of [] level query ≡ Ok c) ↔ Says level query c

-- no change before is of this name
abbrev pub IsNew : Name → List Change → Type 0
IsNew n before = AllByRecursion (λ d. d.name ≢ n) before

-- after those changes each query says one of these, and its name is not there before
abbrev pub AreSaid : List Change → Level → List (List ℕ) → List Change → Type 0
AreSaid before level [] cs = cs ≡ []
AreSaid before level (q ∷ qs) [] = ⊥
AreSaid before level (q ∷ qs) (c ∷ cs) = Says level q c × IsNew c.name before × AreSaid (before ++ c ∷ []) level qs cs

abbrev pub ChangesAreSaid : Type 0
ChangesAreSaid =
    (level : Level) (qs : List (List ℕ)) (cs : List Change) → (changes_of [] level qs ≡ Ok cs) ↔ AreSaid [] level qs cs

-- the query up to its first `=` is this name
abbrev pub Names : Name → List ℕ → Type 0
Names n query = (query ≡ name_text n) ⊎ ((text : List ℕ) × (query ≡ name_text n ++ 61 ∷ text))

-- what is wrong with a query after those changes: no known name; or a name that is there before; or a number that is
-- not one of its name; or a level at which the name does not stand
abbrev pub IsFault : List Change → Level → List ℕ → QueryFault → Type 0
IsFault before level q fault.UnknownName = (n : Name) → Names n q → ⊥
IsFault before level q fault.Repeated = (n : Name) × Names n q × (IsNew n before → ⊥)
IsFault before level q fault.BadNumber =
    (n : Name) × (text : List ℕ) × (q ≡ name_text n ++ 61 ∷ text) × IsNew n before
    × ((z : ℤ) → SaysNumber n text z → ⊥)
IsFault before level q fault.Level =
    (n : Name) × (target : Option ℤ) × SaysTarget n q target × IsNew n before × (stands_at n level ≡ false)
IsFault before level q fault.Memory = ⊥

-- the first query from the left that has a fault decides: those before it say changes
pub record IsFirstFault (level : Level) (qs : List (List ℕ)) (e : QueryFault) : Type 0 where
  pub before : List (List ℕ)
  pub query : List ℕ
  pub behind : List (List ℕ)
  pub changes : List Change
  pub are : qs ≡ before ++ query ∷ behind
  pub said : AreSaid [] level before changes
  pub fault_is : IsFault changes level query e

abbrev pub FirstFaultDecides : Type 0
FirstFaultDecides =
    (level : Level) (qs : List (List ℕ)) (e : QueryFault) → (changes_of [] level qs ≡ Err e) ↔ IsFirstFault level qs e
