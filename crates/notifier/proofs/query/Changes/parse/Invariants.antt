use Rattle.std.proofs.Common.{◌≡◌, ◌⊎◌, [], drop, map}
use Rattle.notifier.specs.Query.{BeginsWithChange, changes_of}
use Rattle.notifier.proofs.query.Changes.parse.Given as goal

-- the queries that are left lead to what all lead to, and none was read or the first spelled a change
abbrev pub invariant-loop-query : goal.invariant-loop-query
invariant-loop-query l =
    (changes_of l.changes l.level (map (λ q. q.now) (drop l.query-index l.queries))
    ≡ changes_of [] l.level (map (λ q. q.now) l.queries))
    × (((l.query-index ≡ 0) × (l.changes ≡ [])) ⊎ BeginsWithChange l.level (map (λ q. q.now) l.queries))
