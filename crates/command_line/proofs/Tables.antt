-- The loops over tables: with each line the fold goes one further.
use Rattle.std.proofs.Common.{ℕ, ◌≡◌, ◌<◌, ◌+◌, ◌∙◌, List, [], ◌∷◌, true, ap, arith, get_or, length, map, refl, take}
use Rattle.std.proofs.lemmas.Grind.{common_steps}
use Rattle.std.specs.List.{fold}
use Rattle.clap.specs.Words.{App, Rule, new_app, with_rule}
use Rattle.command_line.specs.declared.argument.Subcommand.{Subcommand}
use Rattle.command_line.specs.Inside.{app_for, rule_for, with_app}

-- the list is gone through to its next element
pub one_further : {A R S : Type 0} (step : S → R → S) (said : A → R) (first now next : S) (xs : List A) (i : ℕ) (d : A)
    → i < length xs → now ≡ fold step first (map said (take i xs)) → next ≡ step now (said (get_or xs i d))
    → next ≡ fold step first (map said (take (i + 1) xs))
one_further step said first now next xs i d within sofar more = grind (arith, common_steps)

-- arguments leave a command plain
stays_plain : (rules : List Rule) (app : App) → (fold with_rule app rules).top.is_plain ≡ app.top.is_plain
stays_plain [] app = refl
stays_plain (rule ∷ rules) app = stays_plain rules (with_rule app rule)

-- the same of a program's commands, of which each is plain
pub one_command_further : (first now next added : App) (tables : List Subcommand) (i : ℕ) (d : Subcommand)
    → i < length tables → now ≡ fold with_app first (map app_for (take i tables)) → added ≡ app_for (get_or tables i d)
    → (added.top.is_plain ≡ true → next ≡ with_app now added)
    → next ≡ fold with_app first (map app_for (take (i + 1) tables))
one_command_further first now next added tables i d within sofar same more =
    let table : Subcommand = get_or tables i d in
    let plain =
    ap (λ app. app.top.is_plain) same
    ∙ stays_plain (map rule_for table.arguments.now) (new_app table.name.now) in
    one_further with_app app_for first now next tables i d within sofar (more plain ∙ ap (λ app. with_app now app) same)
