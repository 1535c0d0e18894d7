-- Each class that there is has bytes, those of version 2 a byte more than those of version 1.
use Rattle.std.proofs.Common.{◌≡◌, ℕ, ◌<◌, Bool, true, false, not, ◌∷◌, ◌++◌, [], None, Some, sym, ap, ◌∙◌, refl}
use Rattle.std.proofs.Common.{arith}
use Rattle.std.specs.Int.{w8}
use Rattle.std.proofs.lemmas.Bool.Decides.{nat_tests}
use Rattle.byte_layout.specs.Layout.{number}
use Rattle.byte_layout.proofs.Fields.{number_good}
use Rattle.object_defs.specs.Lines.{first_line}
use Rattle.device_template.specs.declared.fault.TemplateFault.TheVariants.{Range}
use Rattle.device_template.proofs.Building.{notify_fits}
use Rattle.device_template.specs.Template.{Template, empty_class, is_notify, with_catalog, with_notify}
use Rattle.device_template.specs.Built.{IsBuilt}
use Rattle.scenario_layout.specs.Class.{objects_in, instances_in, values_in, with_accounts, with_objects}
use Rattle.scenario_layout.specs.Class.{with_instances, with_values, class, behind_notify, behind_accounts}
use Rattle.scenario_layout.specs.Class.{behind_objects, behind_instances, notify, notify_in}
use Rattle.scenario_layout.proofs.Filling.{instances_itself, values_itself}
use Rattle.scenario_layout.proofs.GoodAccounts.{accounts_good}
use Rattle.scenario_layout.proofs.GoodObjects.{has_objects, objects_good, catalog_is, few_objects}
use Rattle.scenario_layout.proofs.GoodInstances.{instances_good}
use Rattle.scenario_layout.proofs.GoodEntries.{values_good}

abbrev bare : Template → Template
bare c = with_accounts (with_notify empty_class c.notify) c.accounts

abbrev behind : Template → Template
behind c = with_objects (bare c) (objects_in c)

-- a class is what its parts make
all_of_it : (c : Template) → IsBuilt c → c ≡ with_values (with_instances (behind c) (instances_in c)) (values_in c)
all_of_it c built =
    values_itself c
    ∙ ap (λ (k : Template). with_values k (values_in c)) (instances_itself c)
    ∙ ap (λ t. with_values (with_instances (with_catalog c t) (instances_in c)) (values_in c))
    (sym (catalog_is c (has_objects c built)))

accounts_on : (c : Template) → IsBuilt c → (behind_notify (with_notify empty_class c.notify)).Good c
unfolding behind_notify behind_accounts behind_objects behind_instances
accounts_on c built =
    let own = has_objects c built in
    let same = catalog_is c own in (
      accounts_good c built,
      (
        objects_good c (bare c) own,
        (
          instances_good c (behind c) built (few_objects c own) same,
          (
            values_good c (with_instances (behind c) (instances_in c)) built same
                (sym (ap (λ (k : Template). k.store.instances) (instances_itself c))),
            all_of_it c built,
          ),
        ),
      ),
    )

no_fault : (b : Bool) → first_line ((not b, Range) ∷ []) ≡ None → b ≡ true
no_fault true h = refl
no_fault false h = let e : Some Range ≡ None = h in cc

small : (seconds : ℕ) → is_notify seconds ≡ true → seconds < 256
small seconds h = grind (arith, nat_tests)

pub is_one_of : (c : Template) → IsBuilt c → is_notify c.notify ≡ true
is_one_of c built = no_fault (is_notify c.notify) (notify_fits c built)

pub class_good : (c : Template) → IsBuilt c → (class 2).Good c
unfolding class notify_in notify
class_good c built =
    let fits = is_one_of c built in ((number_good w8 c.notify (small c.notify fits), fits), accounts_on c built)

pub first_good : (c : Template) → IsBuilt c → c.notify ≡ 0 → (class 1).Good c
unfolding class notify_in
first_good c built none = (none, accounts_on c built)

-- a number below 256 is its byte
one_byte : (n : ℕ) → n < 256 → (number w8).spell n ≡ n ∷ []
unfolding number
one_byte n lt = ap (λ b. b ∷ []) (omega (arith, lt))

pub one_longer : (c : Template) → IsBuilt c → (class 2).spell c ≡ c.notify ∷ (class 1).spell c
unfolding class notify_in notify
one_longer c built =
    ap (λ front. front ++ (behind_notify (with_notify empty_class c.notify)).spell c)
    (one_byte c.notify (small c.notify (is_one_of c built)))
