use Rattle.fleet_workers.proofs.crew.+run_in_scope.Given as goal

abbrev pub decreases-run_in_scope : goal.decreases-run_in_scope
decreases-run_in_scope g l = l.workers
