use Rattle.std.proofs.Common.{◌≡◌, ◌++◌, ◌∷◌, [], refl, sym, ap, subst, ◌∙◌, arith}
use Rattle.std.specs.List.{AllByRecursion}
use Rattle.std.specs.Map.{values_of}
use Rattle.indexmap.proofs.CallerLemmas.{insert_entry-new}
use Rattle.lemmas.proofs.Lists.{each_pushed}
use Rattle.notifier.proofs.ObservedLaws.{values-append}
use Rattle.device_machine.specs.Records.{HasOwnKey}
use Rattle.device_machine.specs.declared.recorded.Recorded.{Recorded}
use Rattle.device_machine.specs.declared.records.RecordKey.{RecordKey}
use Rattle.device_machine.specs.contracts.records.RecordKeyPartialEq.TheImpl.{eq-value}
use Rattle.device_machine.proofs.Keyed.{found}
use Rattle.device_machine.proofs.records.add.Goals as goal

abbrev key_of : Recorded → RecordKey
key_of r = record { server = r.server; kind = r.kind; mid = r.mid }

last : (c : goal.Joined-branch-2)
    → c.insert.new.self.entries ≡ c.args.entries.now.entries ++ (key_of c.args.request, c.args.request) ∷ []
last c =
    c.in_ok-insert.ensures.entries
    ∙ insert_entry-new eq-value.it c.args.entries.now (key_of c.args.request) c.args.request
    (found eq-value.it (λ k j. refl) c.args.request.server c.args.request.mid c.args.request.kind
    (key_of c.args.request) (omega arith) (omega arith) refl c.args.entries.now.entries c.requires.keyed.0
    ∙ c.requires.new)

pub returns-clause-ok : goal.returns-clause-ok
returns-clause-ok c =
    ap values_of (last c)
    ∙ values-append c.args.entries.now.entries (key_of c.args.request, c.args.request)

pub returns-clause-keyed : goal.returns-clause-keyed
returns-clause-keyed c = (
  subst (AllByRecursion HasOwnKey) (sym (last c))
      (each_pushed HasOwnKey c.args.entries.now.entries (key_of c.args.request, c.args.request) c.requires.keyed.0
      (record { number = refl; server = omega arith; mid = omega arith })),
  c.insert.ensures.unique,
)
