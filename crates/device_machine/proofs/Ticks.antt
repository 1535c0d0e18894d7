-- What holds of seconds holds of ticks.
use Rattle.std.proofs.Common.{◌≡◌, ℕ, zero, suc, [], ◌+◌, ◌++◌, map, refl, sym, ap, subst, ◌∙◌, arith}
use Rattle.std.proofs.lemmas.List.{map-append}
use Rattle.device_notifications.specs.Laws.{RisesByOne}
use Rattle.device_notifications.specs.Second.{seconds}
use Rattle.device_notifications.proofs.Numbers.{seconds_count}
use Rattle.device_notifications.proofs.Spans.{seconds_add, seconds_send_after_pmin}
use Rattle.device_notifications.proofs.Turns.{seconds_send_before_pmax}
use Rattle.device_requests.specs.Client.{Client}
use Rattle.device_machine.specs.Laws.{TicksAdd, TicksCount, TicksSendAfterPmin, TicksSendBeforePmax}
use Rattle.device_machine.specs.Reactions.{flat_after_seconds, send_of, sweep_in}

pub add : TicksAdd
add f a b =
    let all = seconds_add f.kept.client f.kept.clock a b f.kept.next_id f.kept.observations in
    let at : f.kept.clock + (a + b) ≡ f.kept.clock + a + b = omega arith in
    record {
      sent = ap (λ t. map send_of t.sent) all ∙ map-append send_of (sweep_in f.kept a).sent
          (sweep_in (flat_after_seconds f a).kept b).sent;
      then_flat = λ j. record {
        kept = record { client = f.kept.client; observations = (all j).left; clock = at j; next_id = (all j).next_id };
        recorded = f.recorded;
      };
    }

pub after_pmin : TicksSendAfterPmin
after_pmin f n =
    record {
      datagrams = (sweep_in f.kept n).sent;
      sent = refl;
      each = seconds_send_after_pmin f.kept.client f.kept.clock n f.kept.next_id f.kept.observations;
    }

pub before_pmax : TicksSendBeforePmax
before_pmax f n = seconds_send_before_pmax f.kept.client f.kept.clock n f.kept.next_id f.kept.observations

pub count : TicksCount
count f n before after o is =
    record {
      datagrams = (sweep_in f.kept n).sent;
      sent = refl;
      rises = subst (λ os. RisesByOne o (before ++ after) (seconds f.kept.client f.kept.clock n f.kept.next_id os).sent
          (seconds f.kept.client f.kept.clock n f.kept.next_id os).left)
          (sym is) (seconds_count f.kept.client f.kept.clock n f.kept.next_id before after o);
    }

-- without observations nothing is sent
pub none_sent : (client : Client) (clock n next_id : ℕ) → (seconds client clock n next_id []).sent ≡ []
none_sent client clock zero next_id = refl
none_sent client clock (suc n) next_id = none_sent client (clock + 1) n next_id
