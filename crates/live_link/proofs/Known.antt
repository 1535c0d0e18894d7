-- What stays so when one more address is known.
use Rattle.std.proofs.Common.{◌≡◌, ℕ, suc, ◌+◌, ◌<◌, ◌≤◌, ◌⊎◌, List, [], ◌∷◌, ◌++◌, length, Option, None, Some}
use Rattle.std.proofs.Common.{Result, Ok, Err, IfOk, OnErr}
use Rattle.std.proofs.Common.{inl, inr, refl, sym, ap, subst, ◌∙◌, append-nil, get_or, arith}
use Rattle.std.proofs.lemmas.Bool.{cases_lt}
use Rattle.std.proofs.lemmas.Option.{get_or_from_slice_get, slice_get-get_or, slice_get_within}
use Rattle.std.specs.List.{slice_get, AllWithin, HoldsAt}
use Rattle.std.specs.Option.{IfNone, IfSome, MatchOption}
use Rattle.std.specs.declared.net.SocketAddr.{SocketAddr}
use Rattle.lemmas.proofs.Lists.{item_pushed, length_pushed, pushed_cases}
use Rattle.live_link.specs.declared.packet.Packet.{Packet}
use Rattle.live_link.specs.Peers.{KnownPeers, AreKept, ArePaired, HasAddress, HasJoined, HasOneMore}
use Rattle.live_link.specs.Peers.{IsAccountIf, IsAccountOf, IsAddressOf, IsFirstPlace, IsNowhere, IsReceipt}
use Rattle.live_link.specs.Peers.{IsReceiptIf, IsTurnedAway}
use Rattle.live_link.specs.Asked.{ComesOf, HasCome}
use Rattle.live_link.specs.declared.wire.WireFault.{WireFault}
use Rattle.live_link.specs.declared.udp.Came.{Came}
use Rattle.live_link.specs.declared.udp.Came.TheVariants.{Arrived, Dropped, Nothing}

-- ---- the first place of an item, as a search finds it

absent_within : {X : Type 0} (xs : List X) (x : X) (n : ℕ) → AllWithin (λ y. y ≡ x → ⊥) xs 0 n → (k : ℕ) → k < n
    → slice_get xs k ≡ Some x → ⊥
absent_within xs x n h k l e = h k x (omega arith) l (get_or_from_slice_get xs k x x e)

abbrev pub IsFound : {X : Type 0} → List X → X → Option ℕ → Type 0
IsFound xs x r =
    MatchOption r (AllWithin (λ y. y ≡ x → ⊥) xs 0 (length xs))
    (λ i. (i < length xs) × HoldsAt (λ y. y ≡ x) xs i × AllWithin (λ y. y ≡ x → ⊥) xs 0 i)

pub found_at : {X : Type 0} (xs : List X) (x : X) (r : Option ℕ) → IsFound xs x r → IfSome r (IsFirstPlace xs x)
found_at xs x None h = tt
found_at xs x (Some i) (l, at, before) =
    record { here = slice_get-get_or xs i x l ∙ ap Some (at x); first = absent_within xs x i before }

pub found_nowhere : {X : Type 0} (xs : List X) (x : X) (r : Option ℕ) → IsFound xs x r → IfNone r (IsNowhere xs x)
found_nowhere xs x None h = λ k e. absent_within xs x (length xs) h k (slice_get_within xs k x e) e
found_nowhere xs x (Some i) h = tt

-- ---- one more address

-- an item that was not there is at no two places
once_more : {X : Type 0} (xs : List X) (y : X) → ((k : ℕ) → slice_get xs k ≡ Some y → ⊥)
    → ((i k : ℕ) (x : X) → slice_get xs i ≡ Some x → slice_get xs k ≡ Some x → i ≡ k) → (i k : ℕ) (x : X)
    → (slice_get xs i ≡ Some x) ⊎ ((i ≡ length xs) × (y ≡ x))
    → (slice_get xs k ≡ Some x) ⊎ ((k ≡ length xs) × (y ≡ x)) → i ≡ k
once_more xs y new once i k x (inl h) (inl j) = once i k x h j
once_more xs y new once i k x (inl h) (inr j) = absurd (new i (h ∙ ap Some (sym j.1)))
once_more xs y new once i k x (inr h) (inl j) = absurd (new k (j ∙ ap Some (sym h.1)))
once_more xs y new once i k x (inr h) (inr j) = h.0 ∙ sym j.0

abbrev pub peers_of : List ℕ → List SocketAddr → KnownPeers
peers_of accounts addresses = record { accounts = accounts; addresses = addresses }

-- a place of an address is a place of an account
pub has_account : (accounts : List ℕ) (addresses : List SocketAddr) (address : SocketAddr) (place : ℕ)
    → ArePaired (peers_of accounts addresses) → IsFirstPlace addresses address place → place < length accounts
has_account accounts addresses address place paired found =
    let few : length addresses ≤ length accounts = paired.few in
    let within = slice_get_within addresses place address found.here in
    omega arith

pub known_account : (before after : KnownPeers) (accounts : List ℕ) (addresses : List SocketAddr)
    (address : SocketAddr) (place : ℕ) → peers_of accounts addresses ≡ before → after ≡ before
    → ArePaired (peers_of accounts addresses) → IsFirstPlace addresses address place
    → IsAccountOf before after address (get_or accounts place 0)
known_account before after accounts addresses address place view same paired found =
    let here : slice_get accounts place ≡ Some (get_or accounts place 0) =
    slice_get-get_or accounts place 0 (has_account accounts addresses address place paired found) in
    let h : IsAddressOf (peers_of accounts addresses) (get_or accounts place 0) address = (place, here, found.here) in
    inl (subst (λ peers. IsAddressOf peers (get_or accounts place 0) address) view h, same)

pub turned_away : (before after : KnownPeers) (accounts : List ℕ) (addresses : List SocketAddr)
    (address : SocketAddr) → peers_of accounts addresses ≡ before → after ≡ before → IsNowhere addresses address
    → length accounts ≤ length addresses → IsAccountIf before after address None
turned_away before after accounts addresses address view same new full =
    let h : IsTurnedAway (peers_of accounts addresses) address = (new, full) in
    (subst (λ peers. IsTurnedAway peers address) view h, same)

pub new_account : (before after : KnownPeers) (accounts : List ℕ) (addresses grown : List SocketAddr)
    (address : SocketAddr) → peers_of accounts addresses ≡ before → after ≡ peers_of accounts grown
    → IsNowhere addresses address → length addresses < length accounts → grown ≡ addresses ++ address ∷ []
    → IsAccountOf before after address (get_or accounts (length addresses) 0)
new_account before after accounts addresses grown address view new_view new left pushed =
    let next : slice_get accounts (length addresses) ≡ Some (get_or accounts (length addresses) 0) =
    slice_get-get_or accounts (length addresses) 0 left in
    let h : HasJoined (peers_of accounts addresses) after (get_or accounts (length addresses) 0) address = record {
      unknown = new;
      next = next;
      accounts = ap (λ p. p.accounts) new_view;
      addresses = ap (λ p. p.addresses) new_view ∙ pushed;
    } in
    inr (subst (λ peers. HasJoined peers after (get_or accounts (length addresses) 0) address) view h)

pub paired_push : (accounts : List ℕ) (addresses grown : List SocketAddr) (address : SocketAddr)
    → ArePaired (peers_of accounts addresses) → IsNowhere addresses address → length addresses < length accounts
    → grown ≡ addresses ++ address ∷ [] → ArePaired (peers_of accounts grown)
paired_push accounts addresses grown address paired new left pushed =
    let len : length grown ≡ suc (length addresses) = ap length pushed ∙ length_pushed addresses address in
    record {
      few = omega arith;
      once = λ i k x h j.
          once_more addresses address new paired.once i k x
          (pushed_cases addresses address i x (subst (λ xs. slice_get xs i ≡ Some x) pushed h))
          (pushed_cases addresses address k x (subst (λ xs. slice_get xs k ≡ Some x) pushed j));
    }

pub are_paired : (peers : KnownPeers) (accounts : List ℕ) (addresses : List SocketAddr)
    → peers_of accounts addresses ≡ peers → ArePaired (peers_of accounts addresses) → ArePaired peers
are_paired peers accounts addresses view paired = subst ArePaired view paired

-- ---- the address of an account

pub address_known : (peers : KnownPeers) (accounts : List ℕ) (addresses : List SocketAddr) (account place : ℕ)
    (r : Option SocketAddr) → peers_of accounts addresses ≡ peers → IsFirstPlace accounts account place
    → r ≡ slice_get addresses place → IfSome r (IsAddressOf peers account)
address_known peers accounts addresses account place None view found e = tt
address_known peers accounts addresses account place (Some address) view found e =
    let h : IsAddressOf (peers_of accounts addresses) account address = (place, found.here, sym e) in
    subst (λ p. IsAddressOf p account address) view h

not_before : (accounts : List ℕ) (addresses : List SocketAddr) (account place k : ℕ) (address : SocketAddr)
    → IsFirstPlace accounts account place → None ≡ slice_get addresses place → slice_get accounts k ≡ Some account
    → slice_get addresses k ≡ Some address → (k < place) ⊎ (place ≤ k) → ⊥
not_before accounts addresses account place k address found none here there (inl l) = found.first k l here
not_before accounts addresses account place k address found none here there (inr l) =
    let within = slice_get_within addresses k address there in
    let at : place < length addresses = omega arith in
    let known = slice_get-get_or addresses place address at in
    let f : None ≡ Some (get_or addresses place address) = none ∙ known in
    cc

pub address_unknown : (peers : KnownPeers) (accounts : List ℕ) (addresses : List SocketAddr) (account place : ℕ)
    (r : Option SocketAddr) → peers_of accounts addresses ≡ peers → IsFirstPlace accounts account place
    → r ≡ slice_get addresses place → IfNone r (HasAddress peers account → ⊥)
address_unknown peers accounts addresses account place (Some address) view found e = tt
address_unknown peers accounts addresses account place None view found e =
    subst (λ p. HasAddress p account → ⊥) view (λ (address, at).
    not_before accounts addresses account place at.0 address found e at.1 at.2 (cases_lt at.0 place))

-- ---- a datagram

-- an account that has become that of an address is its account
pub joined_address : (before after : KnownPeers) (account : ℕ) (address : SocketAddr)
    → HasJoined before after account address → IsAddressOf after account address
joined_address before after account address joined = (
  length before.addresses,
  subst (λ xs. slice_get xs (length before.addresses) ≡ Some account) (sym joined.accounts) joined.next,
  subst (λ xs. slice_get xs (length before.addresses) ≡ Some address) (sym joined.addresses)
      (item_pushed before.addresses address),
)

pub account_address : (before after : KnownPeers) (address : SocketAddr) (account : ℕ)
    → IsAccountOf before after address account → IsAddressOf after account address
account_address before after address account (inl (h, e)) =
    subst (λ peers. IsAddressOf peers account address) (sym e) h
account_address before after address account (inr joined) = joined_address before after account address joined

pub account_more : (before after : KnownPeers) (address : SocketAddr) (account : ℕ)
    → IsAccountOf before after address account → HasOneMore before after
account_more before after address account (inl (h, e)) = inl e
account_more before after address account (inr joined) = inr (account, address, joined)

pub receipt_more : (before after : KnownPeers) (address : SocketAddr) (packet : Packet)
    → IsReceipt before after address packet → HasOneMore before after
receipt_more before after address packet receipt = account_more before after address packet.server receipt.sender

-- a known address keeps its account
pub more_kept : (before after : KnownPeers) → HasOneMore before after → AreKept before after
more_kept before after (inl e) =
    record {
      accounts = ap (λ p. p.accounts) e;
      more = [];
      addresses = ap (λ p. p.addresses) e ∙ sym (append-nil before.addresses);
    }
more_kept before after (inr (account, address, joined)) =
    record { accounts = joined.accounts; more = address ∷ []; addresses = joined.addresses }

pub arrived_more : (before after : KnownPeers) (packet : Packet)
    → ((address : SocketAddr) × IsReceipt before after address packet) → HasOneMore before after
arrived_more before after packet (address, receipt) = receipt_more before after address packet receipt

pub receipt_if_more : (before after : KnownPeers) (r : Option Packet) → IsReceiptIf before after r
    → HasOneMore before after
receipt_if_more before after None h = inl h
receipt_if_more before after (Some packet) (address, receipt) = receipt_more before after address packet receipt

pub taken : (before after : KnownPeers) (address : SocketAddr) (bytes : List ℕ) (packet : Packet)
    → IsAccountOf before after address packet.server → length bytes ≤ 1500 → packet.bytes ≡ bytes
    → ComesOf before after address bytes (Arrived packet)
taken before after address bytes packet sender short same = (
  record {
    sender = sender;
    answerable = account_address before after address packet.server sender;
    short = subst (λ n. n ≤ 1500) (ap length (sym same)) short;
  },
  same,
)

pub has_come : (before after : KnownPeers) (address : SocketAddr) (bytes : List ℕ) (came : Came)
    → ComesOf before after address bytes came → HasCome before after came
has_come before after address bytes (Arrived packet) h = (address, h.0)
has_come before after address bytes Dropped h = h.0
has_come before after address bytes Nothing h = absurd h

-- ---- asking again after a datagram that was dropped

pub again_received : (before between after : KnownPeers) (r : Result (Option Packet) WireFault) → between ≡ before
    → IfOk r (IsReceiptIf between after) → IfOk r (IsReceiptIf before after)
again_received before between after r same h = subst (λ p. IfOk r (IsReceiptIf p after)) same h

pub again_failed : (before between after : KnownPeers) (r : Result (Option Packet) WireFault) → between ≡ before
    → OnErr r (HasOneMore between after) → OnErr r (HasOneMore before after)
again_failed before between after r same h = subst (λ p. OnErr r (HasOneMore p after)) same h

asked_more : (before after : KnownPeers) (r : Result (Option Packet) WireFault) → IfOk r (IsReceiptIf before after)
    → OnErr r (HasOneMore before after) → HasOneMore before after
asked_more before after (Ok received) h k = receipt_if_more before after received h
asked_more before after (Err e) h k = k

pub again_more : (before between after : KnownPeers) (r : Result (Option Packet) WireFault) → between ≡ before
    → IfOk r (IsReceiptIf between after) → OnErr r (HasOneMore between after) → HasOneMore before after
again_more before between after r same h k =
    subst (λ p. HasOneMore p after) same (asked_more between after r h k)
