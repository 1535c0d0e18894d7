use Rattle.std.proofs.Common.{◌≡◌, ◌++◌, drop, true}
use Rattle.std.specs.List.{list_all}
use Rattle.std.specs.String.{string_bytes}
use Rattle.scenario_mnemonics.specs.Queries.{is_query}
use Rattle.scenario_mnemonics.specs.MnemonicWords.{spaced_words}
use Rattle.scenario_mnemonics.proofs.writing.put_queries.Given as goal

-- what is written, and what is still to come, which are queries
abbrev pub invariant-loop-query : goal.invariant-loop-query
invariant-loop-query l = record {
  so_far : string_bytes l.out ++ spaced_words (drop l.query-index l.queries) ≡ string_bytes l.initial.out
      ++ spaced_words l.queries;
  formed : list_all is_query (drop l.query-index l.queries) ≡ true;
}
