-- The accounts of a class have bytes.
use Rattle.std.proofs.Common.{◌≡◌, ℕ, ◌<◌, ◌≤◌, false, not, ◌&&◌, eqb, List, [], ◌∷◌, ◌++◌, length, refl, sym, subst}
use Rattle.std.proofs.Common.{arith}
use Rattle.std.specs.Prelude.{nat_le}
use Rattle.std.specs.List.{AllByRecursion, list_any}
use Rattle.std.specs.Int.{w8, w16}
use Rattle.std.proofs.lemmas.Bool.{lt-ltb, and_from}
use Rattle.std.proofs.lemmas.Bool.Decides.{nat_tests}
use Rattle.lemmas.proofs.Lists.{each_here}
use Rattle.lemmas.proofs.Numbers.{nat_le_below}
use Rattle.byte_layout.proofs.Fields.{number_good}
use Rattle.device_template.specs.Template.{Template}
use Rattle.device_template.specs.Built.{IsBuilt}
use Rattle.device_template.specs.Built.IsBuilt.{nothing, account, object, resource, instance, value, notify}
use Rattle.device_template.proofs.Ascending.{Rises, rises}
use Rattle.scenario_layout.specs.Class.{accounts}
use Rattle.scenario_layout.specs.Class as layout
use Rattle.scenario_layout.proofs.Between.{all_more, length_more, inserted_more, shorter, each_good}
use Rattle.scenario_layout.proofs.Between.{rising_front, all_below, none_there, three_lines, no_three, below}
use Rattle.scenario_layout.proofs.Filling.{taken_none}
use Rattle.scenario_layout.proofs.Ordered.{map_same}

abbrev IsServer : ℕ → Type 0
IsServer n = not (nat_le 1 n && nat_le n 65534) ≡ false

record HasAccounts (xs : List ℕ) : Type 0 where
  each : AllByRecursion IsServer xs
  few : length xs ≤ 4

has_accounts : (class : Template) → IsBuilt class → HasAccounts class.accounts
has_accounts _ nothing = record { each = tt; few = omega arith }
has_accounts _ (account {class} server built free) =
    let before = has_accounts class built in
    let lines = three_lines (not (nat_le 1 server && nat_le server 65534)) (list_any (λ n. eqb n server) class.accounts)
    (nat_le 4 (length class.accounts)) _ _ _ free in
    let more = inserted_more (λ a. a) server class.accounts in
    record {
      each = all_more IsServer server class.accounts _ more lines.0 before.each;
      few = omega (arith, length_more server class.accounts _ more, below (length class.accounts) 4 lines.2);
    }
has_accounts _ (object {class} id built free) = has_accounts class built
has_accounts _ (resource {class} id d short built free) = has_accounts class built
has_accounts _ (instance {class} place short built free) = has_accounts class built
has_accounts _ (value {class} p v short good built free) = has_accounts class built
has_accounts _ (notify {class} seconds built fits) = has_accounts class built

small : (n : ℕ) → IsServer n → n < 65536
small n h = grind (arith, nat_tests)

account_good : (front : List ℕ) (n : ℕ) (back : List ℕ) → HasAccounts (front ++ n ∷ back) → Rises (front ++ n ∷ back)
    → (layout.account front).Good n
unfolding layout.account
account_good front n back h rising =
    let low = rising_front front n back rising in
    let server = each_here IsServer front n back h.each in (
      number_good w16 n (small n server),
      and_from _ _ (all_below (λ m. m) n front (subst (AllByRecursion (λ m. m < n)) (sym (map_same front)) low))
          (taken_none _ (no_three _ _ _ _ _ _ server (none_there n front low)
          (nat_le_below (length front) 4 (omega (arith, shorter (front ++ n ∷ back) front n back refl, h.few))))),
    )

pub accounts_good : (class : Template) → IsBuilt class → accounts.Good class.accounts
unfolding accounts
accounts_good class built =
    let xs = class.accounts in
    let h = has_accounts class built in (
      (number_good w8 (length xs) (omega (arith, h.few)), lt-ltb (length xs) 5 (omega (arith, h.few))),
      each_good layout.account xs [] xs refl (λ front n back e. account_good front n back (subst HasAccounts e h)
          (subst Rises e (rises class built))),
    )
