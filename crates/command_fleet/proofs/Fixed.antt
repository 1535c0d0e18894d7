-- Servers of words, one after another.
use Rattle.std.proofs.Common.{ℕ, ◌≡◌, ◌+◌, ◌≤◌, ◌<◌, ◌==◌, ◌||◌, ◌⊎◌, inl, inr, Bor, Bool, true, false, List, [], ◌∷◌}
use Rattle.std.proofs.Common.{◌++◌}
use Rattle.std.proofs.Common.{Option, None, Some, length, take, drop, slice_get, zero, suc, arith, get_or, map, refl}
use Rattle.std.proofs.Common.{sym}
use Rattle.std.proofs.Common.{ap, subst, ◌∙◌, IfNone}
use Rattle.std.proofs.lemmas.List.Folds.{list_any-append}
use Rattle.std.proofs.lemmas.List.{drop_more, map-append, take-append-drop, take_all, take_more, take-append-le}
use Rattle.std.proofs.NetLemmas.Theorems.{IsSocketText_unique}
use Rattle.std.specs.List.{after_first, before_first, list_any}
use Rattle.std.specs.Net.Grammar.{IsIpText, IsSocketText}
use Rattle.std.specs.Net.Socket.{IsPlainSocket}
use Rattle.std.specs.declared.net.ip_addr.IpAddr.{IpAddr}
use Rattle.std.specs.declared.net.socket_addr.SocketAddr.{SocketAddr}
use Rattle.std.proofs.Math.Seq.{take-length}
use Rattle.lemmas.proofs.Lists.{item_at, length_pushed, pushed_cases, take_one_more}
use Rattle.fleet_link.specs.declared.directory.FixedServer.{FixedServer}
use Rattle.scenario_image.specs.Scenario.{Row, Scenario}
use Rattle.command_files.specs.Devices.{IsShortNumber}
use Rattle.command_files.specs.declared.fault.Fault.{Fault}
use Rattle.command_files.specs.declared.fault.Fault.TheVariants as faults
use Rattle.command_fleet.specs.Servers.{AreServers, IsNewServer, IsServer, IsServerPlace, IsServersFault, has_account}
use Rattle.command_fleet.specs.Servers.{is_fixed, row_has}

-- ---- the place of a word

-- a place without a port from 1 on, or with a scope, is none of a server
pub no_port : (text : List ℕ) (place : SocketAddr) → IsSocketText text place
    → ((port : ℕ) → IsPlainSocket place port → 1 ≤ port → ⊥) → (ip : IpAddr) (port : ℕ)
    → IsServerPlace text ip (Some port) → ⊥
no_port text place spelled none ip port (other, spells, same, plain, some) =
    let is : other ≡ place = IsSocketText_unique text other place spells spelled in
    none port (subst (λ p. IsPlainSocket p port) is plain) some

-- neither an address nor an address with a port
pub no_place : (text : List ℕ) → ((ip : IpAddr) → IsIpText text ip → ⊥)
    → ((ip : IpAddr) (port : ℕ) → IsServerPlace text ip (Some port) → ⊥) → (server : FixedServer)
    → IsServerPlace text server.ip server.port → ⊥
no_place text address socket server is = of server.ip server.port is
  where
    of : (ip : IpAddr) (port : Option ℕ) → IsServerPlace text ip port → ⊥
    of ip None h = address ip h
    of ip (Some port) h = socket ip port h

-- what is before the first `=` is no number
pub no_account : (word account : List ℕ) → account ≡ before_first (λ b. b == 61) word
    → ((n : ℕ) → IsShortNumber account n → ⊥) → (server : FixedServer) → IsServer word server → ⊥
no_account word account same none server is =
    none server.account (subst (λ t. IsShortNumber t server.account) (sym same) is.account)

-- what is behind it is no place
pub nowhere : (word place : List ℕ) (r : Option FixedServer) → place ≡ after_first (λ b. b == 61) word
    → IfNone r ((server : FixedServer) → IsServerPlace place server.ip server.port → ⊥)
    → IfNone r ((server : FixedServer) → IsServer word server → ⊥)
nowhere word place (Some server) same none = tt
nowhere word place None same none =
    λ server is. none server (subst (λ t. IsServerPlace t server.ip server.port) (sym same) is.place)

-- ---- an account

-- a word has one account
pub same_account : (word : List ℕ) (a b : FixedServer) → IsServer word a → IsServer word b → a.account ≡ b.account
same_account word a b h k = h.account.value ∙ sym k.account.value

pub unknown : (s : Scenario) (before : List FixedServer) (word : List ℕ) (server : FixedServer) → IsServer word server
    → has_account s server.account ≡ false → (other : FixedServer) → IsNewServer s before word other → ⊥
unknown s before word server is none other h =
    let same = same_account word server other is h.is in
    let has : has_account s server.account ≡ true = subst (λ n. has_account s n ≡ true) (sym same) h.known in
    cc

pub repeated : (s : Scenario) (before : List FixedServer) (word : List ℕ) (server : FixedServer) → IsServer word server
    → is_fixed before server.account ≡ true → (other : FixedServer) → IsNewServer s before word other → ⊥
repeated s before word server is there other h =
    let same = same_account word server other is h.is in
    let new : is_fixed before server.account ≡ false = subst (λ n. is_fixed before n ≡ false) (sym same) h.new in
    cc

-- ---- rows

pub any_found : {X : Type 0} (f : X → Bool) (xs : List X) (k : ℕ) (x : X) → slice_get xs k ≡ Some x → f x ≡ true
    → list_any f xs ≡ true
any_found f [] k x at holds = let e : None ≡ Some x = at in absurd cc
any_found f (y ∷ ys) zero x at holds = let e : Some y ≡ Some x = at in let same : y ≡ x = cc in
    ap (λ b. b || list_any f ys) (ap f same ∙ holds)
any_found f (y ∷ ys) (suc k) x at holds = ap (λ b. f y || b) (any_found f ys k x at holds) ∙ or_true (f y)
  where
    or_true : (b : Bool) → (b || true) ≡ true
    or_true true = refl
    or_true false = refl

pub none_more : {X : Type 0} (f : X → Bool) (xs : List X) (k : ℕ) (x : X) → slice_get xs k ≡ Some x
    → list_any f (take k xs) ≡ false → f x ≡ false → list_any f (take (k + 1) xs) ≡ false
none_more f xs k x at none fails =
    ap (list_any f) (take_one_more xs k x at) ∙ list_any-append f (take k xs) (x ∷ [])
    ∙ ap (λ b. b || (f x || false)) none ∙ ap (λ b. false || (b || false)) fails

-- a device that has the account, or not
pub found_at : (s : Scenario) (account k n : ℕ) (r : Bool) → k < n → n ≡ length s.rows
    → ((row : Row) → slice_get s.rows k ≡ Some row → r ≡ row_has s account row) → r ≡ true
    → true ≡ has_account s account
found_at s account k n r below count is holds =
    let row = item_at s.rows k (omega (arith, below, count)) in
    sym (any_found (row_has s account) s.rows k row.0 row.1 (sym (is row.0 row.1) ∙ holds))

pub none_at : (s : Scenario) (account k n : ℕ) (r : Bool) → k < n → n ≡ length s.rows
    → ((row : Row) → slice_get s.rows k ≡ Some row → r ≡ row_has s account row) → r ≡ false
    → list_any (row_has s account) (take k s.rows) ≡ false
    → list_any (row_has s account) (take (k + 1) s.rows) ≡ false
none_at s account k n r below count is fails none =
    let row = item_at s.rows k (omega (arith, below, count)) in
    none_more (row_has s account) s.rows k row.0 row.1 none (sym (is row.0 row.1) ∙ fails)

-- ---- words

-- the texts of words
abbrev pub words_in : List (Bor (List ℕ)) → List (List ℕ)
words_in words = map (λ w. w.now) words

within : {X : Type 0} (xs : List X) (k : ℕ) (x : X) → slice_get xs k ≡ Some x → k < length xs
within [] k x at = let e : None ≡ Some x = at in absurd cc
within (y ∷ ys) zero x at = omega arith
within (y ∷ ys) (suc k) x at = omega (arith, within ys k x at)

pub none_yet : (s : Scenario) (words : List (Bor (List ℕ))) (servers : List FixedServer) → servers ≡ []
    → AreServers s (words_in (take 0 words)) servers
none_yet s words servers none =
    subst (AreServers s []) (sym none) (record {
      count = refl;
      each = λ k word server at here. let e : None ≡ Some word = at in absurd cc;
    })

-- a word and a server more
one_more : (s : Scenario) (words : List (List ℕ)) (servers : List FixedServer) (w : List ℕ) (x : FixedServer)
    → AreServers s words servers → IsNewServer s servers w x → AreServers s (words ++ w ∷ []) (servers ++ x ∷ [])
one_more s words servers w x are new =
    record {
      count = length_pushed servers x ∙ ap suc are.count ∙ sym (length_pushed words w);
      each = λ k word server at here. of k word server (pushed_cases words w k word at)
          (pushed_cases servers x k server here);
    }
  where
    of : (k : ℕ) (word : List ℕ) (server : FixedServer)
        → (slice_get words k ≡ Some word) ⊎ ((k ≡ length words) × (w ≡ word))
        → (slice_get servers k ≡ Some server) ⊎ ((k ≡ length servers) × (x ≡ server))
        → IsNewServer s (take k (servers ++ x ∷ [])) word server
    of k word server (inl at) (inl here) =
        let below = within servers k server here in
        subst (λ l. IsNewServer s l word server)
        (sym (take-append-le k servers (x ∷ []) (omega (arith, below)))) (are.each k word server at here)
    of k word server (inl at) (inr here) = absurd (omega (arith, within words k word at, here.0, are.count))
    of k word server (inr at) (inl here) = absurd (omega (arith, within servers k server here, at.0, are.count))
    of k word server (inr at) (inr here) =
        let whole : take k (servers ++ x ∷ []) ≡ servers =
        take-append-le k servers (x ∷ []) (omega (arith, here.0)) ∙ ap (λ n. take n servers) here.0
        ∙ take-length servers in
        subst (λ l. IsNewServer s l word server) (sym whole)
        (subst (λ v. IsNewServer s servers v server) at.1 (subst (IsNewServer s servers w) here.1 new))

pub servers_more : (s : Scenario) (words : List (Bor (List ℕ))) (i : ℕ) (d : Bor (List ℕ))
    (old given new : List FixedServer) (server : FixedServer) → AreServers s (words_in (take i words)) old
    → i < length words → given ≡ old → IsNewServer s given (get_or words i d).now server → new ≡ old ++ server ∷ []
    → AreServers s (words_in (take (i + 1) words)) new
servers_more s words i d old given new server are below those next same =
    let up_to : words_in (take (i + 1) words) ≡ words_in (take i words) ++ (get_or words i d).now ∷ [] =
    ap words_in (take_more words i d below) ∙ map-append (λ w. w.now) (take i words) (get_or words i d ∷ []) in
    subst (AreServers s (words_in (take (i + 1) words))) (sym same)
    (subst (λ ws. AreServers s ws (old ++ server ∷ [])) (sym up_to)
    (one_more s (words_in (take i words)) old (get_or words i d).now server are
    (subst (λ l. IsNewServer s l (get_or words i d).now server) those next)))

pub all_servers : (s : Scenario) (words : List (Bor (List ℕ))) (i : ℕ) (servers : List FixedServer)
    → AreServers s (words_in (take i words)) servers → length words ≤ i → AreServers s (words_in words) servers
all_servers s words i servers are end = subst (λ ws. AreServers s (words_in ws) servers) (take_all i words end) are

-- the words before a place, that at the place, and those behind it
cut_at : (words : List (Bor (List ℕ))) (i : ℕ) (d : Bor (List ℕ)) → i < length words
    → words_in words ≡ words_in (take i words) ++ (get_or words i d).now ∷ words_in (drop (i + 1) words)
cut_at words i d below =
    let rest : take i words ++ get_or words i d ∷ drop (i + 1) words ≡ words =
    ap (λ r. take i words ++ r) (sym (drop_more words i d below)) ∙ take-append-drop i words in
    sym (ap words_in rest) ∙ map-append (λ w. w.now) (take i words) (get_or words i d ∷ drop (i + 1) words)

pub wrong_at : (s : Scenario) (words : List (Bor (List ℕ))) (i : ℕ) (d : Bor (List ℕ))
    (before given : List FixedServer) (about : Option (List ℕ)) (fault : Fault)
    → AreServers s (words_in (take i words)) before → i < length words → given ≡ before
    → ((server : FixedServer) → IsNewServer s given (get_or words i d).now server → ⊥)
    → about ≡ Some (get_or words i d).now → fault ≡ faults.Bind → IsServersFault s (words_in words) about fault
wrong_at s words i d before given about fault are below those wrong named bind =
    inr (
      bind,
      record {
        first = words_in (take i words);
        word = (get_or words i d).now;
        others = words_in (drop (i + 1) words);
        stands = cut_at words i d below;
        before = before;
        right = are;
        wrong = λ server is. wrong server (subst (λ l. IsNewServer s l (get_or words i d).now server) (sym those) is);
        named = named;
      },
    )
