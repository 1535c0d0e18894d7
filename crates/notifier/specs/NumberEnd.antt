-- Where a text stops being a number of an attribute.
use Rattle.std.specs.Prelude.{◌≡◌, ℕ, zero, suc, ◌+◌, ◌-◌, ◌*◌, ◌≤◌, ◌==◌, ◌⊎◌, nat_lt, nat_le, Bool, false}
use Rattle.std.specs.Prelude.{cond, ◌&&◌, List, [], ◌∷◌, ◌++◌, length, take, drop, slice_index, Option, None, Some}
use Rattle.std.specs.Prelude.{IsSome}
use Rattle.std.specs.Char.{digit_value}
use Rattle.std.specs.Option.{option_map_or}
use Rattle.notifier.specs.declared.attribute.Name.{Name}
use Rattle.notifier.specs.declared.attribute.Name.TheVariants.{Pmin, Pmax, Gt, Lt, St}
use Rattle.notifier.specs.Query.{attribute_number, is_digit, name_of, name_part, number_part, unsigned_of}

-- some number of this attribute begins with a text
abbrev pub BeginsNumber : Name → List ℕ → Type 0
BeginsNumber n text = (more : List ℕ) × IsSome (attribute_number n (text ++ more))

-- a text is no number of this attribute, and here is its fault: the place of the first byte with which no number goes
-- on, or the length of the text, where it ends too early
pub record IsNumberFault (n : Name) (text : List ℕ) (at : ℕ) : Type 0 where
  pub refused : attribute_number n text ≡ None
  pub within : at ≤ length text
  pub begins : BeginsNumber n (take at text)
  pub ends : (at ≡ length text) ⊎ (BeginsNumber n (take (at + 1) text) → ⊥)

-- the same of a query, `name=number`, all of whose bytes count
pub record IsQueryFault (query : List ℕ) (at : ℕ) : Type 0 where
  pub name : Name
  pub number : List ℕ
  pub place : ℕ
  pub named : name_of (name_part query) ≡ Some name
  pub valued : number_part query ≡ Some number
  pub fault : IsNumberFault name number place
  pub at_is : at ≡ length (name_part query) + 1 + place

-- ---- how it is found, as a function of the bytes; no promise rests on it

-- how many of the first bytes are digits, this many at most
abbrev pub digits_in : ℕ → List ℕ → ℕ
digits_in zero text = 0
digits_in (suc most) [] = 0
digits_in (suc most) (c ∷ cs) = cond (is_digit c) (1 + digits_in most cs) 0

-- how many of the first bytes are digits that go on from a number with at most 2,147,483,647
abbrev pub seconds_in : ℕ → List ℕ → ℕ
seconds_in number [] = 0
seconds_in number (c ∷ cs) =
    cond (is_digit c && nat_lt (number * 10 + digit_value c) 2147483648)
    (1 + seconds_in (number * 10 + digit_value c) cs) 0

-- the end of the longest beginning of a text with which thousandths begin: without a sign, with one or none, and above
-- 0
abbrev pub has_point : ℕ → List ℕ → Bool
has_point whole text = nat_lt 0 whole && (nat_lt whole (length text) && slice_index text whole == 46)

abbrev pub unsigned_end_at : ℕ → List ℕ → ℕ
unsigned_end_at whole text = cond (has_point whole text) (whole + 1 + digits_in 3 (drop (whole + 1) text)) whole

abbrev pub unsigned_end : List ℕ → ℕ
unsigned_end text = unsigned_end_at (digits_in 15 text) text

abbrev pub signed_end : List ℕ → ℕ
signed_end text = cond (slice_index text 0 == 45) (1 + unsigned_end (drop 1 text)) (unsigned_end text)

-- three digits follow a point, and the number is 0
abbrev pub is_zero : ℕ → List ℕ → Bool
is_zero end text =
    nat_le 5 end && (slice_index text (end - 4) == 46
    && option_map_or (λ n. n == 0) (unsigned_of (take end text)) false)

abbrev pub step_end_at : ℕ → List ℕ → ℕ
step_end_at end text = cond (is_zero end text) (end - 1) end

abbrev pub step_end : List ℕ → ℕ
step_end text = cond (slice_index text 0 == 45) 0 (step_end_at (unsigned_end text) text)

abbrev pub number_end : Name → List ℕ → ℕ
number_end Pmin text = seconds_in 0 text
number_end Pmax text = seconds_in 0 text
number_end Gt text = signed_end text
number_end Lt text = signed_end text
number_end St text = step_end text

abbrev pub query_fault_in : Option Name → Option (List ℕ) → List ℕ → ℕ
query_fault_in (Some n) (Some number) query = length (name_part query) + 1 + number_end n number
query_fault_in (Some n) None query = length query
query_fault_in None number query = length query

abbrev pub query_fault_at : List ℕ → ℕ
query_fault_at query = query_fault_in (name_of (name_part query)) (number_part query) query
