-- The recorded requests that a device keeps: how one is found, and when the first of them no longer lives.
use Rattle.std.specs.Prelude.{◌≡◌, ℕ, ◌+◌, ◌*◌, ◌<◌, ◌==◌, min, Bool, true, ◌&&◌, if◌then◌else◌, List, [], ◌∷◌, filter, find, fold}
use Rattle.std.specs.Prelude.{Option, None, Some}
use Rattle.std.specs.List.{AllByRecursion}
use Rattle.indexmap.specs.IndexMap.{IndexMap, IsUnique, values}
use Rattle.coap_codec.specs.Message.{kind_number}
use Rattle.coap_codec.specs.declared.kind.Kind.{Kind}
use Rattle.device_machine.specs.Memory.{remembered_flat}
use Rattle.device_machine.specs.Reactions.{Reaction, flat_after, outputs_of}
use Rattle.device_machine.specs.State.{Machine, is_live, lifetime}
use Rattle.device_machine.specs.declared.event.Event.{Event}
use Rattle.device_machine.specs.declared.recorded.Recorded.{Recorded}
use Rattle.device_machine.specs.declared.records.Index.{Index}
use Rattle.device_machine.specs.declared.records.RecordKey.{RecordKey}

-- the request is of this server, type and message ID
abbrev pub has_key : ℕ → Kind → ℕ → Recorded → Bool
has_key server kind mid r = r.server == server && (r.mid == mid && kind_number r.kind == kind_number kind)

-- the number of a type, and a server and a message ID of 16 bits, as one number
abbrev pub key_number : ℕ → ℕ → ℕ → ℕ
key_number kind server mid = 4294967296 * kind + (65536 * server + mid)

-- a key as one number
abbrev pub number_of : RecordKey → ℕ
number_of k = key_number (kind_number k.kind) k.server k.mid

-- a key has the type, the server and the message ID of its request, and these have 16 bits
pub record HasOwnKey (e : RecordKey × Recorded) : Type 0 where
  pub number : number_of e.0 ≡ key_number (kind_number e.1.kind) e.1.server e.1.mid
  pub server : e.1.server < 65536
  pub mid : e.1.mid < 65536

-- the second, of 64 bits, from which on the request no longer lives
abbrev pub end_of_life : Recorded → ℕ
end_of_life r =
    if lifetime r.kind == 0 then 0 else min (r.second + lifetime r.kind) 18446744073709551615

-- the first second, of 64 bits, in which one of the requests no longer lives
abbrev pub first_end : List Recorded → ℕ
first_end rs = fold (λ first r. min first (end_of_life r)) 18446744073709551615 rs

-- each of the requests lives in this second
abbrev pub AllLive : ℕ → List Recorded → Type 0
AllLive clock rs = filter (λ r. is_live clock r) rs ≡ rs

-- no request of the list is of this one's server, type and message ID
abbrev pub IsNewIn : List Recorded → Recorded → Type 0
IsNewIn rs r = find (has_key r.server r.kind r.mid) rs ≡ None

-- no two of the requests are of one server, type and message ID
abbrev pub HaveOwnKeys : List Recorded → Type 0
HaveOwnKeys [] = Unit {0}
HaveOwnKeys (r ∷ rs) = IsNewIn rs r × HaveOwnKeys rs

-- the request is recalled: where there is a second, those that do not live in it are forgotten
abbrev pub is_recalled : Option ℕ → Recorded → Bool
is_recalled None r = true
is_recalled (Some second) r = is_live second r

-- the requests of an index that are recalled
abbrev pub recalled_requests : Index → List Recorded
recalled_requests i = filter (λ r. is_recalled i.ended r) (values i.entries)

-- two keys are equal
abbrev pub is_same_key : RecordKey → RecordKey → Bool
is_same_key k j = number_of k == number_of j

-- each key is that of its request, and no two are equal
abbrev pub IsKeyed : {S : Type 0} → IndexMap RecordKey Recorded S → Type 0
IsKeyed m = AllByRecursion HasOwnKey m.entries × IsUnique is_same_key m

-- the entries have their keys, and the index knows the first second in which one of them no longer lives
abbrev pub IsIndexed : Index → Type 0
IsIndexed i = IsKeyed i.entries × (i.due ≡ first_end (values i.entries))

-- what a device outputs on an event, and what it keeps of the flat state then
abbrev pub reaction_of_device : Machine → Event → Reaction
reaction_of_device f event = record { outputs = outputs_of f event; flat = remembered_flat (flat_after f event) event }
