-- Which address is which account's on a wire over UDP, and what a datagram changes of that.
use Rattle.std.specs.Prelude.{◌≡◌, ◌≢◌, ℕ, ◌≤◌, ◌<◌, ◌⊎◌, List, [], ◌∷◌, ◌++◌, length, slice_get, Option, None, Some}
use Rattle.std.specs.declared.net.SocketAddr.{SocketAddr}
use Rattle.live_link.specs.declared.packet.Packet.{Packet}

-- the item is at no place
abbrev pub IsNowhere : {X : Type 0} → List X → X → Type 0
IsNowhere xs x = (k : ℕ) → slice_get xs k ≢ Some x

-- this is the first place of the item
pub record IsFirstPlace {X : Type 0} (xs : List X) (x : X) (place : ℕ) : Type 0 where
  pub here : slice_get xs place ≡ Some x
  pub first : (k : ℕ) → k < place → slice_get xs k ≢ Some x

-- the accounts of a wire, in order, and the addresses that are known: each is that of the account at its place
pub record KnownPeers : Type 0 where
  pub accounts : List ℕ
  pub addresses : List SocketAddr

-- there are no more addresses than accounts, and none is there twice
pub record ArePaired (peers : KnownPeers) : Type 0 where
  pub few : length peers.addresses ≤ length peers.accounts
  pub once : (i k : ℕ) (address : SocketAddr) → slice_get peers.addresses i ≡ Some address
      → slice_get peers.addresses k ≡ Some address → i ≡ k

-- this is the address of the account
abbrev pub IsAddressOf : KnownPeers → ℕ → SocketAddr → Type 0
IsAddressOf peers account address =
    (place : ℕ) × (slice_get peers.accounts place ≡ Some account) × (slice_get peers.addresses place ≡ Some address)

-- the address of the account is known
abbrev pub HasAddress : KnownPeers → ℕ → Type 0
HasAddress peers account = (address : SocketAddr) × IsAddressOf peers account address

-- the address is that of no account
abbrev pub IsUnknown : KnownPeers → SocketAddr → Type 0
IsUnknown peers address = IsNowhere peers.addresses address

-- the address is that of no account, and there is no account left for it
abbrev pub IsTurnedAway : KnownPeers → SocketAddr → Type 0
IsTurnedAway peers address = IsUnknown peers address × (length peers.accounts ≤ length peers.addresses)

-- the address was not known, and has become that of the first account that had none
pub record HasJoined (before after : KnownPeers) (account : ℕ) (address : SocketAddr) : Type 0 where
  pub unknown : IsUnknown before address
  pub next : slice_get before.accounts (length before.addresses) ≡ Some account
  pub accounts : after.accounts ≡ before.accounts
  pub addresses : after.addresses ≡ before.addresses ++ address ∷ []

-- the account of the address: it was that before, or has become it
abbrev pub IsAccountOf : KnownPeers → KnownPeers → SocketAddr → ℕ → Type 0
IsAccountOf before after address account =
    (IsAddressOf before account address × (after ≡ before)) ⊎ HasJoined before after account address

-- the account of the address, if it has one
abbrev pub IsAccountIf : KnownPeers → KnownPeers → SocketAddr → Option ℕ → Type 0
IsAccountIf before after address None = IsTurnedAway before address × (after ≡ before)
IsAccountIf before after address (Some account) = IsAccountOf before after address account

-- each account is at its place and each address that was known is that of its account still; further ones may be known
pub record AreKept (before after : KnownPeers) : Type 0 where
  pub accounts : after.accounts ≡ before.accounts
  pub more : List SocketAddr
  pub addresses : after.addresses ≡ before.addresses ++ more

-- nothing is changed, or one address has become that of an account
abbrev pub HasOneMore : KnownPeers → KnownPeers → Type 0
HasOneMore before after =
    (after ≡ before) ⊎ ((account : ℕ) × (address : SocketAddr) × HasJoined before after account address)

-- a datagram was received from the address: its account can be answered now
pub record IsReceipt (before after : KnownPeers) (address : SocketAddr) (packet : Packet) : Type 0 where
  pub sender : IsAccountOf before after address packet.server
  pub answerable : IsAddressOf after packet.server address
  pub short : length packet.bytes ≤ 1500

-- a datagram was received from some address; or none was, and then nothing is changed
abbrev pub IsReceiptIf : KnownPeers → KnownPeers → Option Packet → Type 0
IsReceiptIf before after None = after ≡ before
IsReceiptIf before after (Some packet) = (address : SocketAddr) × IsReceipt before after address packet
