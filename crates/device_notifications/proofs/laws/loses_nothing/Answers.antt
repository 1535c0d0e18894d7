use Rattle.std.proofs.Common.{refl}
use Rattle.device_notifications.proofs.laws.loses_nothing.Goals as goal

pub returns : goal.returns
returns c = λ client clock next_id o. record { turn = refl; report = refl }
