-- What comes of asking a socket, and of a datagram that it gives.
use Rattle.std.specs.Prelude.{◌≡◌, ℕ, ◌<◌, ◌⊎◌, List, length}
use Rattle.std.specs.declared.net.SocketAddr.{SocketAddr}
use Rattle.live_link.specs.declared.udp.Came.{Came}
use Rattle.live_link.specs.declared.udp.Came.TheVariants.{Arrived, Dropped, Nothing}
use Rattle.live_link.specs.Peers.{KnownPeers, IsReceipt, IsTurnedAway}

-- these bytes came from the address: they are a receipt, or they were dropped, being too long or of no account
abbrev pub ComesOf : KnownPeers → KnownPeers → SocketAddr → List ℕ → Came → Type 0
ComesOf before after address bytes (Arrived packet) = IsReceipt before after address packet × (packet.bytes ≡ bytes)
ComesOf before after address bytes Dropped =
    (after ≡ before) × ((1500 < length bytes) ⊎ IsTurnedAway before address)
ComesOf before after address bytes Nothing = ⊥

-- what the socket gave is a receipt, or it changed nothing
abbrev pub HasCome : KnownPeers → KnownPeers → Came → Type 0
HasCome before after (Arrived packet) = (address : SocketAddr) × IsReceipt before after address packet
HasCome before after Dropped = after ≡ before
HasCome before after Nothing = after ≡ before
