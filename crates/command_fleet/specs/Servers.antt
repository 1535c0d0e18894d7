-- Where servers are fixed, as words say it.
use Rattle.std.specs.Prelude.{ℕ, ◌≡◌, ◌⊎◌, ◌<◌, ◌≤◌, ◌==◌, Bool, true, false, List, [], ◌∷◌, ◌++◌, length, take}
use Rattle.std.specs.Prelude.{slice_get, Option, None, Some}
use Rattle.std.specs.List.{after_first, before_first, list_any, position_or_len}
use Rattle.std.specs.Net.Grammar.{IsIpText, IsSocketText}
use Rattle.std.specs.Net.Socket.{IsPlainSocket, socket_ip}
use Rattle.std.specs.declared.net.ip_addr.IpAddr.{IpAddr}
use Rattle.std.specs.declared.net.socket_addr.SocketAddr.{SocketAddr}
use Rattle.command_files.specs.Devices.{IsShortNumber}
use Rattle.device_template.specs.Template.{Template}
use Rattle.scenario_image.specs.Scenario.{Row, Scenario}
use Rattle.fleet_link.specs.declared.directory.FixedServer.{FixedServer}
use Rattle.command_files.specs.declared.fault.Fault.{Fault}
use Rattle.command_files.specs.declared.fault.Fault.TheVariants as faults

-- `ADDRESS`; or, with a port from 1 on, `ADDRESS:PORT`, where one of IPv6 stands in brackets
abbrev pub IsServerPlace : List ℕ → IpAddr → Option ℕ → Type 0
IsServerPlace text ip None = IsIpText text ip
IsServerPlace text ip (Some port) =
    (place : SocketAddr) × IsSocketText text place × (socket_ip place ≡ ip) × IsPlainSocket place port × (1 ≤ port)

-- `S=PLACE`: what is before and behind the first `=`
pub record IsServer (word : List ℕ) (server : FixedServer) : Type 0 where
  pub parts : position_or_len (λ b. b == 61) word < length word
  pub account : IsShortNumber (before_first (λ b. b == 61) word) server.account
  pub place : IsServerPlace (after_first (λ b. b == 61) word) server.ip server.port

-- the accounts of a class, if there is one
abbrev pub accounts_in : Option Template → List ℕ
accounts_in None = []
accounts_in (Some class) = class.accounts

-- the class of a row has this account
abbrev pub row_has : Scenario → ℕ → Row → Bool
row_has s account row = list_any (λ a. a == account) (accounts_in (slice_get s.classes row.class))

-- a device of the scenario has it
abbrev pub has_account : Scenario → ℕ → Bool
has_account s account = list_any (row_has s account) s.rows

-- one of these servers is it
abbrev pub is_fixed : List FixedServer → ℕ → Bool
is_fixed servers account = list_any (λ server. server.account == account) servers

-- the word is this server, of which a device has an account, and it is none of those before it
pub record IsNewServer (s : Scenario) (before : List FixedServer) (word : List ℕ) (server : FixedServer) : Type 0 where
  pub is : IsServer word server
  pub known : has_account s server.account ≡ true
  pub new : is_fixed before server.account ≡ false

-- the words are these servers, in their order
pub record AreServers (s : Scenario) (words : List (List ℕ)) (servers : List FixedServer) : Type 0 where
  pub count : length servers ≡ length words
  pub each : (k : ℕ) (word : List ℕ) (server : FixedServer) → slice_get words k ≡ Some word
      → slice_get servers k ≡ Some server → IsNewServer s (take k servers) word server

-- the first word that is no such server is this one
pub record IsWrongServer (s : Scenario) (words : List (List ℕ)) (about : Option (List ℕ)) : Type 0 where
  pub first : List (List ℕ)
  pub word : List ℕ
  pub others : List (List ℕ)
  pub stands : words ≡ first ++ word ∷ others
  pub before : List FixedServer
  pub right : AreServers s first before
  pub wrong : (server : FixedServer) → IsNewServer s before word server → ⊥
  pub named : about ≡ Some word

-- no memory was left for the servers, or a word is wrong, and named
abbrev pub IsServersFault : Scenario → List (List ℕ) → Option (List ℕ) → Fault → Type 0
IsServersFault s words about fault =
    (fault ≡ faults.Memory) ⊎ ((fault ≡ faults.Bind) × IsWrongServer s words about)
