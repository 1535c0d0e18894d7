-- The attributes that a link shows are queries that set just these.
use Rattle.std.proofs.Common.{◌≡◌, ◌≢◌, ℤ, true, List, [], ◌∷◌, ◌++◌, map, Option, None, Some, refl}
use Rattle.std.specs.List.{AllByRecursion, flat_map}
use Rattle.lemmas.proofs.Lists.{each_appended}
use Rattle.notifier.specs.declared.attribute.Change.{Change}
use Rattle.notifier.specs.declared.attribute.Level.{Level}
use Rattle.notifier.specs.declared.attribute.Name.{Name}
use Rattle.notifier.specs.Query.{stands_at}
use Rattle.device_requests.specs.Discover.{shown_number}
use Rattle.device_requests.specs.WriteAttributes.{level_at}
use Rattle.laws_reading.specs.Queries.{AreSaid, IsNew}
use Rattle.laws_reading.proofs.Saying.{changes_are_said}
use Rattle.laws_discover.specs.Links.{attribute_parameter, attribute_names}
use Rattle.laws_discover.specs.Links.{attribute_parameters, ParametersAreQueries, query_of}
use Rattle.laws_discover.specs.Links.{settings, settings_shown}
use Rattle.laws_discover.specs.Printed.{IsAttributeNumber, setting}
use Rattle.laws_discover.proofs.Lists.{Ordered}
use Rattle.laws_discover.proofs.Queries.{printed_says}
use Rattle.laws_discover.proofs.ShownNumbers.{shown_valid}

still_new : (before : List Change) (n : Name) (z : ℤ) (ns : List Name) → AllByRecursion (λ m. IsNew m before) ns
    → AllByRecursion (λ m. n ≢ m) ns → AllByRecursion (λ m. IsNew m (before ++ setting n z ∷ [])) ns
still_new before n z [] new other = tt
still_new before n z (m ∷ ns) new other = (
  each_appended (λ (d : Change). d.name ≢ m) before (setting n z ∷ []) new.0 (other.0, tt),
  still_new before n z ns new.1 other.1,
)

all_said : (before : List Change) (level : Level) (numbers : Name → Option ℤ)
    → ((n : Name) (z : ℤ) → numbers n ≡ Some z → IsAttributeNumber n z × (stands_at n level ≡ true))
    → (ns : List Name) → Ordered (λ m n. m ≢ n) ns → AllByRecursion (λ n. IsNew n before) ns
    → AreSaid before level (map query_of (flat_map (λ n. attribute_parameter n (numbers n)) ns))
    (flat_map (λ n. settings n (numbers n)) ns)
all_said before level numbers valid [] differ new = refl
all_said before level numbers valid (n ∷ ns) differ new =
    by (numbers n) (valid n) (λ b. all_said b level numbers valid ns differ.1)
  where
    by : (o : Option ℤ) → ((z : ℤ) → o ≡ Some z → IsAttributeNumber n z × (stands_at n level ≡ true))
        → ((b : List Change) → AllByRecursion (λ m. IsNew m b) ns
        → AreSaid b level (map query_of (flat_map (λ n. attribute_parameter n (numbers n)) ns))
        (flat_map (λ n. settings n (numbers n)) ns))
        → AreSaid before level
        (map query_of (attribute_parameter n o ++ flat_map (λ n. attribute_parameter n (numbers n)) ns))
        (settings n o ++ flat_map (λ n. settings n (numbers n)) ns)
    by None here later = later before new.1
    by (Some z) here later =
        let v = here z refl in (
          printed_says level n z v.0 v.1,
          new.0,
          later (before ++ setting n z ∷ []) (still_new before n z ns new.1 differ.0),
        )

names_differ : Ordered (λ m n. m ≢ n) attribute_names
names_differ = (
  ((λ e. cc e), ((λ e. cc e), ((λ e. cc e), ((λ e. cc e), tt)))),
  (((λ e. cc e), ((λ e. cc e), ((λ e. cc e), tt))), (((λ e. cc e), ((λ e. cc e), tt)), (((λ e. cc e), tt), (tt, tt)))),
)

pub parameters_are_queries : ParametersAreQueries
parameters_are_queries client server inherits path h =
    let level = level_at client.catalog path in
    (changes_are_said level (map query_of (attribute_parameters client server inherits path))
    (settings_shown client server inherits path)).1
    (all_said [] level (shown_number client.attributes server inherits path) (shown_valid client h server inherits path)
    attribute_names names_differ (tt, (tt, (tt, (tt, (tt, tt))))))
