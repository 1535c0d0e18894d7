-- The objects of a session are read again.
use Rattle.std.proofs.Common.{ℕ, ◌≡◌, ◌≤◌, ◌++◌, List, Option, None, Some, append-nil, arith, sym}
use Rattle.std.specs.declared.net.socket_addr.SocketAddr.{SocketAddr}
use Rattle.json.specs.Token.{Token}
use Rattle.serde_json.specs.Data.{depth}
use Rattle.serde_json.specs.Read.{max_depth}
use Rattle.fleet_link.specs.declared.udp.Counts.{Counts}
use Rattle.fleet_wire.specs.declared.happened.Happened.{Happened}
use Rattle.fleet_lines.specs.declared.counted.Account.{Account}
use Rattle.command_fleet.specs.declared.shortfall.Shortfall.{Shortfall}
use Rattle.trace_json.specs.Writing.{Has64Bits, IsReadAgain, fields_tokens}
use Rattle.trace_json.proofs.ReadAgain.{read_again}
use Rattle.command_fleet.specs.InJson.{done_json, happened_fields, port_json, ready_json, second_json}

second_depth : (second : ℕ) (counts : Counts) → depth (second_json second counts) ≤ max_depth
unfolding second_json
second_depth second counts = omega arith

pub second_again : (second : ℕ) (counts : Counts) → Has64Bits (second_json second counts)
    → IsReadAgain (second_json second counts)
second_again second counts exact = read_again (second_json second counts) exact (second_depth second counts)

done_depth : (seconds devices : ℕ) (short : Shortfall) (counts : Counts) (happened : Option Happened)
    → depth (done_json seconds devices (record { counts = counts; happened = happened }) short) ≤ max_depth
unfolding done_json
done_depth seconds devices short counts None = omega arith
done_depth seconds devices short counts (Some happened) = omega arith

pub done_again : (seconds devices : ℕ) (short : Shortfall) (account : Account)
    → Has64Bits (done_json seconds devices account short) → IsReadAgain (done_json seconds devices account short)
done_again seconds devices short account exact =
    read_again (done_json seconds devices account short) exact
    (done_depth seconds devices short account.counts account.happened)

ready_depth : (devices : ℕ) (place : SocketAddr) → depth (ready_json devices place) ≤ max_depth
unfolding ready_json
ready_depth devices place = omega arith

pub ready_again : (devices : ℕ) (place : SocketAddr) → Has64Bits (ready_json devices place)
    → IsReadAgain (ready_json devices place)
ready_again devices place exact = read_again (ready_json devices place) exact (ready_depth devices place)

port_depth : (device port : ℕ) → depth (port_json device port) ≤ max_depth
unfolding port_json
port_depth device port = omega arith

pub port_again : (device port : ℕ) → Has64Bits (port_json device port) → IsReadAgain (port_json device port)
port_again device port exact = read_again (port_json device port) exact (port_depth device port)

-- nothing is written of a wire that is not there
pub no_wire : (tokens : List Token) → tokens ≡ tokens ++ fields_tokens (happened_fields None)
no_wire tokens = sym (append-nil tokens)
