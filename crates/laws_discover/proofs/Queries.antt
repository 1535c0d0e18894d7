-- What is printed of an attribute is a query that says it.
use Rattle.std.proofs.Common.{◌≡◌, ℤ, ◌∷◌, ◌++◌, true, refl, ap}
use Rattle.notifier.specs.declared.attribute.Level.{Level}
use Rattle.notifier.specs.declared.attribute.Name.{Name}
use Rattle.notifier.specs.declared.attribute.Name.TheVariants.{Pmin, Pmax, Gt, Lt, St}
use Rattle.notifier.specs.Query.{stands_at}
use Rattle.device_requests.specs.Discover.{name_text, number_text}
use Rattle.laws_reading.specs.Queries as queries
use Rattle.laws_reading.specs.Queries.{Says}
use Rattle.laws_reading.proofs.Saying.{queries_are_said, read, said}
use Rattle.laws_discover.specs.Printed.{attribute_query, IsAttributeNumber, OnlyTheseAreRead, PrintedIsRead}
use Rattle.laws_discover.specs.Printed.{PrintedSaysAgain, setting}
use Rattle.laws_discover.proofs.PrintedNumbers.{number_text_says, said_in_range}

same_name : (n : Name) → name_text n ≡ queries.name_text n
same_name Pmin = refl
same_name Pmax = refl
same_name Gt = refl
same_name Lt = refl
same_name St = refl

pub printed_says : (level : Level) (n : Name) (z : ℤ) → IsAttributeNumber n z → stands_at n level ≡ true
    → Says level (attribute_query n z) (setting n z)
printed_says level n z h stands =
    ((number_text n z, ap (λ t. t ++ 61 ∷ number_text n z) (same_name n), number_text_says n z h), stands)

pub printed_is_read : PrintedIsRead
printed_is_read level n z =
    let law = queries_are_said level (attribute_query n z) (setting n z) in (
      (λ h. let s = law.0 h in (said_in_range n s.0.0 z s.0.2, s.1)),
      (λ p. law.1 (printed_says level n z p.0 p.1)),
    )

pub only_these : OnlyTheseAreRead
only_these before level query n z h =
    let s = said before level query (setting n z) h in
    said_in_range n s.0.0.0 z s.0.0.2

pub printed_again : PrintedSaysAgain
printed_again before level query n z h =
    let s = said before level query (setting n z) h in
    read before level (attribute_query n z) (setting n z)
    (printed_says level n z (said_in_range n s.0.0.0 z s.0.0.2) s.0.1) s.1
