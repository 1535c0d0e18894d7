use Rattle.std.proofs.Common.{◌≡◌, ◌++◌, ◌∷◌, [], length, refl, sym, ap, subst, ◌∙◌, arith}
use Rattle.std.specs.Int.Digits.{AllBelowBase}
use Rattle.std.specs.List.{AllByRecursion}
use Rattle.std.specs.Map.{lookup, values_of}
use Rattle.indexmap.proofs.CallerLemmas.{insert_entry-new}
use Rattle.lemmas.proofs.Lists.{each_pushed}
use Rattle.notifier.specs.Inside.{name_key}
use Rattle.notifier.specs.Observed.{IsKeyed}
use Rattle.notifier.specs.contracts.entries.KeyPartialEq.TheImpl.{eq-value}
use Rattle.notifier.proofs.ObservedLaws.{values-append, no_key}
use Rattle.notifier.proofs.entries.add.Goals as goal

own : (c : goal.Joined-branch-2) → c.name_key-key.result ≡ name_key c.args.observation.server c.args.observation.token
own c = c.name_key-key.ensures.key ∙ ap (name_key c.args.observation.server) c.as_slice.ensures

bytes : (c : goal.Joined-branch-2) → AllBelowBase 256 c.args.observation.token
bytes c = subst (AllBelowBase 256) c.as_slice.ensures c.name_key-key.ensures.bytes

last : (c : goal.Joined-branch-2) → c.insert.new.self.entries
    ≡ c.args.entries.now.entries ++ (c.name_key-key.result, c.args.observation) ∷ []
last c =
    let es = c.args.entries.now.entries in
    let none = no_key eq-value.it (λ k j. refl) c.args.observation.server c.args.observation.token (bytes c) es
    c.requires.keyed c.requires.absent in
    c.in_ok-insert.ensures.entries
    ∙ insert_entry-new eq-value.it c.args.entries.now c.name_key-key.result c.args.observation
    (ap (λ k. lookup (eq-value.it k) es) (own c) ∙ none)

pub name_key-key-requires : goal.name_key-key-requires
name_key-key-requires c = omega (arith, c.requires.short, ap length c.as_slice.ensures)

pub returns-clause-ok : goal.returns-clause-ok
returns-clause-ok c =
    ap values_of (last c) ∙ values-append c.args.entries.now.entries (c.name_key-key.result, c.args.observation)

pub returns-clause-keyed : goal.returns-clause-keyed
returns-clause-keyed c =
    subst (AllByRecursion IsKeyed) (sym (last c))
    (each_pushed IsKeyed c.args.entries.now.entries (c.name_key-key.result, c.args.observation) c.requires.keyed
    (record { key = own c; short = c.requires.short; bytes = bytes c; number = c.requires.number }))
