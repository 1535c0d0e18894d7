use Rattle.device_requests.proofs.Order.{formats_eighth, methods_third, operations_seventh, options_first, paths_second}
use Rattle.device_requests.proofs.Order.{payloads_ninth, rights_sixth, security_fourth, targets_fifth}
use Rattle.device_requests.proofs.laws.refusals_come_in_order.Goals as goal

pub returns-clause-options : goal.returns-clause-options
returns-clause-options c = options_first

pub returns-clause-paths : goal.returns-clause-paths
returns-clause-paths c = paths_second

pub returns-clause-methods : goal.returns-clause-methods
returns-clause-methods c = methods_third

pub returns-clause-security : goal.returns-clause-security
returns-clause-security c = security_fourth

pub returns-clause-targets : goal.returns-clause-targets
returns-clause-targets c = targets_fifth

pub returns-clause-rights : goal.returns-clause-rights
returns-clause-rights c = rights_sixth

pub returns-clause-operations : goal.returns-clause-operations
returns-clause-operations c = operations_seventh

pub returns-clause-formats : goal.returns-clause-formats
returns-clause-formats c = formats_eighth

pub returns-clause-payloads : goal.returns-clause-payloads
returns-clause-payloads c = payloads_ninth
