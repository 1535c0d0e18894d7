use Rattle.std.proofs.Common.{◌≡◌, ◌+◌, ◌-◌, ap, arith, add_assoc}
use Rattle.debugger.specs.Session.{at_place}
use Rattle.debugger.proofs.laws.moves_add_up.Goals as goal

pub returns-clause-forward : goal.returns-clause-forward
returns-clause-forward c = λ v a b. ap (at_place v) (add_assoc v.place a b)

pub returns-clause-back : goal.returns-clause-back
returns-clause-back c = λ v n. let e : v.place + n - n ≡ v.place = omega arith in ap (at_place v) e
