-- Changes of attributes as the Uri-Query options of a Write-Attributes request spell them: `name=number`, or `name`
-- alone, which unsets it (OMA LwM2M 1.1 Core, attributes; the numbers' ranges are this profile's).
use Rattle.std.specs.Prelude.{ℕ, ◌+◌, ◌-◌, ◌*◌, ◌^◌, ◌==◌, ℤ, pos, neg_ℤ, int_lt, nat_lt, nat_le, Bool, true, false}
use Rattle.std.specs.Prelude.{cond, ◌&&◌, if◌then◌else◌, List, [], ◌∷◌, ◌++◌, length, take, drop, position, slice_index}
use Rattle.std.specs.Prelude.{Option, None, Some, option_map, option_and_then, Result, Ok, Err, IsOk, codes, bytes_eq}
use Rattle.std.specs.List.{list_all, list_any}
use Rattle.std.specs.Option.{option_map_or}
use Rattle.std.specs.Map.{lookup}
use Rattle.std.specs.Str.Parse.{digits_value}
use Rattle.notifier.specs.declared.attribute.Name.{Name}
use Rattle.notifier.specs.declared.attribute.Name.TheVariants.{Pmin, Pmax, Gt, Lt, St}
use Rattle.notifier.specs.declared.attribute.Name.TheVariants as name
use Rattle.notifier.specs.declared.attribute.Change.{Change}
use Rattle.notifier.specs.declared.attribute.Level.{Level}
use Rattle.notifier.specs.declared.attribute.Level.TheVariants.{Object, Instance, Resource, Number}
use Rattle.notifier.specs.declared.fault.QueryFault.{QueryFault}
use Rattle.notifier.specs.declared.fault.QueryFault.TheVariants as fault
use Rattle.notifier.specs.Attributes.{rank}

-- the name that a text spells
abbrev pub spellings : List (List ℕ × Name)
spellings =
    (codes "pmin", name.Pmin) ∷ (codes "pmax", name.Pmax) ∷ (codes "gt", name.Gt) ∷ (codes "lt", name.Lt) ∷ (
      codes "st",
      name.St,
    ) ∷ []

abbrev pub name_of : List ℕ → Option Name
name_of text = lookup (bytes_eq text) spellings

-- the texts before and after the first `=`; with none, all of it and nothing
abbrev pub equals_sign : List ℕ → Option ℕ
equals_sign query = position (λ c. c == 61) query

abbrev pub name_part : List ℕ → List ℕ
name_part query = option_map_or (λ i. take i query) (equals_sign query) query

abbrev pub number_part : List ℕ → Option (List ℕ)
number_part query = option_map (λ i. drop (i + 1) query) (equals_sign query)

-- whether a text is one decimal digit or more, and no other
abbrev pub is_digit : ℕ → Bool
is_digit c = nat_le 48 c && nat_le c 57

abbrev pub are_digits : List ℕ → Bool
are_digits text = nat_lt 0 (length text) && list_all is_digit text

-- the number of this many digits at most
abbrev pub digits_of : ℕ → List ℕ → Option ℕ
digits_of most text = cond (are_digits text && nat_le (length text) most) (Some (digits_value 10 text)) None

-- seconds: digits, at most 2,147,483,647
abbrev pub seconds_of : List ℕ → Option ℕ
seconds_of text = cond (are_digits text && nat_lt (digits_value 10 text) 2147483648) (Some (digits_value 10 text)) None

-- the thousandths that 1 to 3 digits after a point are
abbrev pub fraction_of : List ℕ → Option ℕ
fraction_of text = option_map (λ n. n * 10 ^ (3 - length text)) (digits_of 3 text)

-- the thousandths that 1 to 15 digits are, with a fraction after a point or none
abbrev pub unsigned_from : List ℕ → Option ℕ → Option ℕ
unsigned_from text None = option_map (λ n. n * 1000) (digits_of 15 text)
unsigned_from text (Some point) =
    option_and_then (λ n. option_map (λ f. n * 1000 + f) (fraction_of (drop (point + 1) text)))
    (digits_of 15 (take point text))

abbrev pub unsigned_of : List ℕ → Option ℕ
unsigned_of text = unsigned_from text (position (λ c. c == 46) text)

-- the same after a minus sign or none
abbrev pub thousandths_of : List ℕ → Option ℤ
thousandths_of text =
    cond (slice_index text 0 == 45) (option_map (λ n. neg_ℤ (pos n)) (unsigned_of (drop 1 text)))
    (option_map pos (unsigned_of text))

-- a number above 0
abbrev pub above_zero : ℤ → Option ℤ
above_zero z = cond (int_lt (pos 0) z) (Some z) None

-- the number of an attribute that a text spells
abbrev pub attribute_number : Name → List ℕ → Option ℤ
attribute_number Pmin text = option_map pos (seconds_of text)
attribute_number Pmax text = option_map pos (seconds_of text)
attribute_number Gt text = thousandths_of text
attribute_number Lt text = thousandths_of text
attribute_number St text = option_and_then above_zero (thousandths_of text)

-- what an attribute is changed to, if that is spelled: a number, or none where there is no text
abbrev pub target_of : Name → Option (List ℕ) → Option (Option ℤ)
target_of n None = Some None
target_of n (Some text) = option_map Some (attribute_number n text)

-- whether a level is that of a number
abbrev pub is_number_level : Level → Bool
is_number_level Object = false
is_number_level Instance = false
is_number_level Resource = false
is_number_level Number = true

-- pmin and pmax stand at every level, gt, lt and st at a single resource of a number alone
abbrev pub stands_at : Name → Level → Bool
stands_at Pmin level = true
stands_at Pmax level = true
stands_at Gt level = is_number_level level
stands_at Lt level = is_number_level level
stands_at St level = is_number_level level

-- whether a change is of this name
abbrev pub is_of : Name → Change → Bool
is_of n c = rank c.name == rank n

-- the change, or its fault: a number that is not spelled before a level at which the name does not stand
abbrev pub change_to : Level → Name → Option (Option ℤ) → Result Change QueryFault
change_to level n None = Err fault.BadNumber
change_to level n (Some z) = if stands_at n level then Ok (record { name = n; number = z }) else Err fault.Level

-- a name that is not known comes first, then one that is there already
abbrev pub change_of : List Change → Level → Option Name → Option (List ℕ) → Result Change QueryFault
change_of before level None text = Err fault.UnknownName
change_of before level (Some n) text =
    if list_any (is_of n) before then Err fault.Repeated else change_to level n (target_of n text)

-- the change that a query spells after these changes, or its fault
abbrev pub reading_of : List Change → Level → List ℕ → Result Change QueryFault
reading_of before level query = change_of before level (name_of (name_part query)) (number_part query)

-- the changes that queries spell after these, from the left, or the first fault
abbrev pub changes_of : List Change → Level → List (List ℕ) → Result (List Change) QueryFault
changes_of before level [] = Ok before
changes_of before level (q ∷ qs) =
    elim (reading_of before level q) [ Ok c ↦ changes_of (before ++ c ∷ []) level qs | Err e ↦ Err e ]

-- there is a first query, and it spells a change
abbrev pub BeginsWithChange : Level → List (List ℕ) → Type 0
BeginsWithChange level [] = ⊥
BeginsWithChange level (q ∷ qs) = IsOk (reading_of [] level q)
