use Rattle.std.proofs.Common.{eq-eqb, ◌==◌, ◌++◌, map, filter, sym, ap, ◌∙◌, append-nil}
use Rattle.lemmas.proofs.Results.{on_err}
use Rattle.object_defs.proofs.MapLaws.{entries-from_entries}
use Rattle.notifier.specs.Attributes.{path_of}
use Rattle.notifier.proofs.Answers.{one_found}
use Rattle.notifier.proofs.Keys.{key_total, key_exact}
use Rattle.notifier.proofs.attributes.list_of.Goals as goal

pub returns-clause-listed : goal.returns-clause-listed
returns-clause-listed c =
    sym (append-nil _)
    ∙ ap (λ t. c.loop-key.found.items ++ map (λ e. (path_of e.0, e.0.name, e.1))
    (filter (λ e. e.0.server == c.args.server) t)) (sym c.in-None.ensures.steps.0)
    ∙ c.loop-key.invariant
    ∙ ap (λ es. map (λ e. (path_of e.0, e.0.name, e.1)) (filter (λ e. e.0.server == c.args.server) es))
    (sym (entries-from_entries key_total key_exact c.args.numbers.now.entries
    c.into_iter-key-iterator.ensures.into_iter_gives.5))

pub returns-in_err-push-clause-may_lack_memory : goal.returns-in_err-push-clause-may_lack_memory
returns-in_err-push-clause-may_lack_memory c =
    on_err c.from_residual.result _
    (λ none. one_found c.loop-key.found.items (λ e. (path_of e.0, e.0.name, e.1))
    (λ e. e.0.server == c.args.server) c.loop-key.key-iterator
    c.next.new.self (c.in-Some.key.now, c.in-Some.number.now) c.in-Some.ensures.steps
    (eq-eqb c.in-Some.key.now.server c.args.server c.if-key-server.true)
    (c.loop-key.invariant
    ∙ sym (ap (λ es. map (λ e. (path_of e.0, e.0.name, e.1)) (filter (λ e. e.0.server == c.args.server) es))
    (entries-from_entries key_total key_exact c.args.numbers.now.entries
    c.into_iter-key-iterator.ensures.into_iter_gives.5))
    ∙ none))
