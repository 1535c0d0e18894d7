-- A draft whose class is open: its accounts, and how it notifies.
use Rattle.std.proofs.Common.{◌≡◌, ℕ, zero, suc, ◌+◌, Bool, true, false, cond, not, eqb, List, []}
use Rattle.std.proofs.Common.{◌∷◌, ◌++◌, map, length, Option, None, Some, Ok, option_map, refl, sym, ap, subst, ◌∙◌}
use Rattle.std.proofs.Common.{append_assoc}
use Rattle.std.specs.Prelude.{nat_lt}
use Rattle.std.specs.List.{list_all}
use Rattle.std.proofs.lemmas.Bool.{eqb-true, and_parts}
use Rattle.std.proofs.lemmas.List.{append-nil}
use Rattle.byte_layout.specs.Layout.{Layout, each}
use Rattle.object_defs.specs.Lines.{first_line}
use Rattle.device_template.specs.Template.{Template, account_fault, empty_class, is_notify, with_account, with_notify}
use Rattle.device_template.specs.declared.fault.TemplateFault.{TemplateFault}
use Rattle.scenario_layout.specs.Class.{account, accounts, is_taken, with_accounts}
use Rattle.scenario_layout.proofs.Ordered.{inserted_end}
use Rattle.scenario_image.specs.Scenario.{Scenario}
use Rattle.scenario_words.specs.Reading.{◌>>=◌}
use Rattle.scenario_words.specs.declared.cause.Cause.TheVariants.{Range, Duplicate}
use Rattle.scenario_statements.specs.declared.statement.Statement.{Statement}
use Rattle.scenario_statements.specs.declared.statement.Statement.TheVariants as says
use Rattle.scenario_asm.specs.Canonical.{of_notify}
use Rattle.scenario_asm.specs.Causes.{template_cause, unless}
use Rattle.scenario_asm.specs.Draft.{Draft}
use Rattle.scenario_asm.specs.Effect.{effect}
use Rattle.scenario_asm.specs.Denotes.{Lead}

-- a draft whose open class is this one, and whose object was stated last
abbrev pub opened : Scenario → Template → Option ℕ → Draft
opened s c o = record { begun = true; scenario = s; open_class = Some c; object = o }

pub taken_is : (o : Option TemplateFault) → is_taken o ≡ true → o ≡ None
taken_is None h = refl
taken_is (Some f) h = absurd cc

-- items that are added one after another, each after those before it
pub items_lead : {A : Type 0} (say : A → Statement) (part : List A → Layout A) (state : List A → Template)
    (P : List A → Type 0) (s : Scenario) (o : Option ℕ)
    → ((before : List A) (a : A) → P before → (part before).Good a
    → (effect (say a) (opened s (state before) o) ≡ Ok (opened s (state (before ++ a ∷ [])) o))
    × P (before ++ a ∷ []))
    → (n : ℕ) (before xs : List A) → P before → (each part n before).Good xs
    → Lead (opened s (state before) o) (map say xs) (opened s (state (before ++ xs)) o)
unfolding each
items_lead say part state P s o item zero before xs p good =
    subst (λ ys. Lead (opened s (state before) o) (map say ys) (opened s (state (before ++ ys)) o)) (sym good)
    (ap (λ ys. opened s (state ys) o) (sym (append-nil before)))
items_lead say part state P s o item (suc n) before [] p good = absurd good
items_lead say part state P s o item (suc n) before (x ∷ xs) p good =
    let one = item before x p good.0 in (
      opened s (state (before ++ x ∷ [])) o,
      one.0,
      subst (λ ys. Lead (opened s (state (before ++ x ∷ [])) o) (map say xs) (opened s (state ys) o))
          (append_assoc before (x ∷ []) xs)
          (items_lead say part state P s o item n (before ++ x ∷ []) xs one.1 good.1),
    )

-- ---- accounts

account_lead : (s : Scenario) (o : Option ℕ) (k : Template) (before : List ℕ) (n : ℕ) → (account before).Good n
    → effect (says.Account n) (opened s (with_accounts k before) o)
    ≡ Ok (opened s (with_accounts k (before ++ n ∷ [])) o)
unfolding account
account_lead s o k before n good =
    let both = and_parts (list_all (λ m. nat_lt m n) before)
    (is_taken (account_fault (with_accounts empty_class before) n)) good.1 in
    ap (λ f. unless (option_map template_cause f) (with_account (with_accounts k before) n)
    >>= (λ e. Ok (opened s e o)))
    (taken_is _ both.1)
    ∙ ap (λ xs. Ok (opened s (with_accounts k xs) o)) (inserted_end (λ a. a) n before both.0)

pub accounts_lead : (s : Scenario) (k : Template) (xs : List ℕ) → k.accounts ≡ [] → accounts.Good xs
    → Lead (opened s k None) (map (λ n. says.Account n) xs) (opened s (with_accounts k xs) None)
unfolding accounts
accounts_lead s k xs none good =
    subst (λ before. Lead (opened s (with_accounts k before) None) (map (λ n. says.Account n) xs)
    (opened s (with_accounts k xs) None)) (sym none)
    (items_lead (λ n. says.Account n) account (with_accounts k) (λ before. Unit {0}) s None
    (λ before n p good. (account_lead s None k before n good, tt)) (length xs) [] xs tt good.1)

-- ---- how it notifies

pub notify_lead : (s : Scenario) (seconds : ℕ) → is_notify seconds ≡ true
    → Lead (opened s empty_class None) (of_notify seconds) (opened s (with_notify empty_class seconds) None)
notify_lead s seconds h = by (eqb seconds 0) refl
  where
    by : (b : Bool) → eqb seconds 0 ≡ b
        → Lead (opened s empty_class None) (cond b [] (says.Notify seconds ∷ []))
        (opened s (with_notify empty_class seconds) None)
    by true e = ap (λ n. opened s (with_notify empty_class n) None) (sym (eqb-true seconds 0 e))
    by false e = (
      opened s (with_notify empty_class seconds) None,
      ap (λ b. unless (first_line ((not b, Range) ∷ (false, Duplicate) ∷ [])) (with_notify empty_class seconds)
          >>= (λ e. Ok (opened s e None))) h,
      refl,
    )
