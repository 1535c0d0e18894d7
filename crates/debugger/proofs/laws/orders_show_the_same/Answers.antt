use Rattle.std.proofs.Common.{ap}
use Rattle.debugger.specs.Shown.{state_before, state_of, value_of, observations_of, latest, latest_step}
use Rattle.debugger.proofs.laws.orders_show_the_same.Goals as goal

pub returns-clause-value : goal.returns-clause-value
returns-clause-value c = λ s a b n m d path same. ap (λ k. value_of (state_of s d k) path) same

pub returns-clause-observations : goal.returns-clause-observations
returns-clause-observations c = λ s a b n m d same. ap (λ k. observations_of (state_of s d k)) same

pub returns-clause-outputs : goal.returns-clause-outputs
returns-clause-outputs c = λ s a b n m d same. ap (latest s d) same

pub returns-clause-step : goal.returns-clause-step
returns-clause-step c = λ s a b n m d same. ap (latest_step s d) same

pub returns-clause-before : goal.returns-clause-before
returns-clause-before c = λ s a b n m d same. ap (state_before s d) same
