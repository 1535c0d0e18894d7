-- Counts over two lists of entries, one after the other.
use Rattle.std.proofs.Common.{◌≡◌, ℕ, ◌+◌, ◌≤◌, eqb, List, ◌++◌, arith}
use Rattle.std.proofs.lemmas.List.Sums.{sum_by-append}
use Rattle.scenario_image.specs.Scenario.{Scenario}
use Rattle.trace_file.specs.declared.entry.Entry.{Entry}
use Rattle.fleet_core.specs.Run.{step_at, made_by, is_post, posts_of}
use Rattle.fleet_core.proofs.Posts.{one}

pub made-append : (d : ℕ) (a b : List Entry) → made_by d (a ++ b) ≡ made_by d a + made_by d b
made-append d a b = sum_by-append (λ x. one (eqb x.device d)) a b

pub posts-append : (s : Scenario) (g : ℕ) (a b : List Entry) → posts_of s g (a ++ b) ≡ posts_of s g a + posts_of s g b
posts-append s g a b = sum_by-append (λ x. one (is_post g (step_at s x.device x.step))) a b

pub posts_later : (s : Scenario) (g : ℕ) (a b : List Entry) → posts_of s g a ≤ posts_of s g (a ++ b)
posts_later s g a b = omega (arith, posts-append s g a b)
