-- Which rules words choose.
use Rattle.std.specs.Prelude.{ℕ, ◌==◌, Bool, not, ◌&&◌, ◌||◌, List, filter, length}
use Rattle.std.specs.Cmp.Lexicographic.{pointwise}
use Rattle.std.specs.List.{list_any}
use Rattle.server_lint.specs.declared.rule.Rule.{Rule}
use Rattle.server_lint.specs.Findings.{all_rules}
use Rattle.server_lint.specs.Names.{rule_name}

-- the word is the name of the rule
abbrev pub names : Rule → List ℕ → Bool
names rule word = pointwise ◌==◌ word (rule_name rule)

-- one of the words is the name of the rule
abbrev pub is_named : List (List ℕ) → Rule → Bool
is_named words rule = list_any (names rule) words

-- it is one of those after `--only`, where there are such, and none of those after `--not`
abbrev pub is_chosen : List (List ℕ) → List (List ℕ) → Rule → Bool
is_chosen only excluded rule = (length only == 0 || is_named only rule) && not (is_named excluded rule)

-- the rules that are chosen, in their order
abbrev pub chosen_rules : List (List ℕ) → List (List ℕ) → List Rule
chosen_rules only excluded = filter (is_chosen only excluded) all_rules

-- the word is the name of no rule
abbrev pub is_unknown : List ℕ → Bool
is_unknown word = not (list_any (λ rule. names rule word) all_rules)
