use Rattle.fleet_link.proofs.Played.{plays_back}
use Rattle.fleet_link.proofs.laws.saved_rows_play_back.Goals as goal

pub returns-clause-complete : goal.returns-clause-complete
returns-clause-complete c = plays_back

pub returns-clause-serial : goal.returns-clause-serial
returns-clause-serial c =
    λ s played before after slots now broken saved h is es serial.
    plays_back s played before after slots now broken saved h is es serial.complete
