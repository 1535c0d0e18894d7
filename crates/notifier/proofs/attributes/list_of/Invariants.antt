use Rattle.std.proofs.Common.{◌≡◌, ◌==◌, ◌++◌, map}
use Rattle.std.specs.List.{filter}
use Rattle.notifier.specs.Attributes.{path_of}
use Rattle.notifier.proofs.attributes.list_of.Given as goal

-- what was found and what is left are all of the server
abbrev pub invariant-loop-key : goal.invariant-loop-key
invariant-loop-key l =
    l.found.items ++ map (λ e. (path_of e.0, e.0.name, e.1)) (filter (λ e. e.0.server == l.server) l.key-iterator)
    ≡ map (λ e. (path_of e.0, e.0.name, e.1)) (filter (λ e. e.0.server == l.server) l.fn.numbers.entries)
