-- A request that comes again within its lifetime is found among the recorded ones.
use Rattle.std.proofs.Common.{◌≡◌, ℕ, ◌+◌, ◌-◌, ◌<◌, nat_lt, ◌==◌, Bool, true, false, ◌&&◌, cond, List, [], ◌∷◌, ◌++◌}
use Rattle.std.proofs.Common.{Option, None, Some, option_map, Ok, refl, sym, ap, subst, ◌∙◌, arith}
use Rattle.std.specs.List.{filter, find, list_any}
use Rattle.std.proofs.lemmas.Bool.Decides.{nat_tests}
use Rattle.std.proofs.lemmas.Bool.{and_from}
use Rattle.coap_codec.specs.Message.{Message, spelling, kind_number}
use Rattle.coap_codec.specs.Reading.{reading_of}
use Rattle.coap_codec.specs.declared.kind.Kind.{Kind}
use Rattle.coap_codec.specs.declared.kind.Kind.TheVariants.{Con, Non, Ack, Rst}
use Rattle.device_machine.specs.declared.event.Event.TheVariants.{Recv}
use Rattle.device_machine.specs.declared.recorded.Recorded.{Recorded}
use Rattle.device_requests.specs.declared.answer.Act.{Act as Deed}
use Rattle.device_machine.specs.State.{DeviceState, Machine, lifetime, is_live, with_client, with_observations}
use Rattle.notifier.specs.declared.observation.Observation.{Observation}
use Rattle.device_machine.specs.Observing.{ObserveResult, observe_result}
use Rattle.device_requests.specs.Answer.{Outcome}
use Rattle.device_requests.specs.Client.{Client, has_account}
use Rattle.device_requests.proofs.Keeping.{keeps}
use Rattle.device_requests.specs.Request.{outcome_of}
use Rattle.device_machine.specs.Reactions.{outputs_of_act, sent_to, again, is_request, is_same, kept_after}
use Rattle.device_machine.specs.Reactions.{flat_after_seconds, on_fresh, on_message, on_outcome, on_request}
use Rattle.device_machine.specs.Reactions.{reaction_to, record_of, repeat_of, reply_to}
use Rattle.device_machine.specs.Laws.{IsFresh, IsAgain, is_sent}
use Rattle.device_machine.proofs.Living.{clock_after, live_later}

-- what a stronger test does not find either
find_none : {X : Type 0} (p q : X → Bool) → ((x : X) → q x ≡ true → p x ≡ true) → (xs : List X) → find p xs ≡ None
    → find q xs ≡ None
find_none p q h [] e = refl
find_none p q h (x ∷ xs) e =
    elim (p x) as (λ b. (q x ≡ true → b ≡ true) → cond b (Some x) (find p xs) ≡ None
    → cond (q x) (Some x) (find q xs) ≡ None) [
      | true ↦ λ k n. cc
      | false ↦ λ k n. elim (q x) as (λ c. (c ≡ true → false ≡ true) → cond c (Some x) (find q xs) ≡ None) [
        | true ↦ λ j. let f : false ≡ true = j refl in cc
        | false ↦ λ j. find_none p q h xs n
      ] k
    ] (h x) e

-- the last element, where it is the first that passes
find_last : {X : Type 0} (q : X → Bool) (xs : List X) (x : X) → find q xs ≡ None → q x ≡ true
    → find q (xs ++ x ∷ []) ≡ Some x
find_last q [] x n h = rw h refl
find_last q (y ∷ xs) x n h =
    elim (q y) as (λ b. cond b (Some y) (find q xs) ≡ None → cond b (Some y) (find q (xs ++ x ∷ [])) ≡ Some x) [
      | true ↦ λ k. cc
      | false ↦ λ k. find_last q xs x k h
    ] n

both : (a b c d : Bool) → (a ≡ true → c ≡ true) → b ≡ d → (a && b) ≡ true → (c && d) ≡ true
both true b c d h e k = rw (h refl, ← e) k
both false b c d h e k = cc

fresh_lives : (clock seconds life : ℕ) → seconds < life → nat_lt (clock + seconds - clock) life ≡ true
fresh_lives clock seconds life h = grind (arith, nat_tests)

same_id : (server a b : ℕ) (k l : Kind) → a ≡ b → k ≡ l
    → (server == server && (b == a && kind_number l == kind_number k)) ≡ true
same_id server a b k l e f = rw (e, f) (grind (arith, nat_tests))

pub client_after : (k : DeviceState) (kind : Kind) (reply : Option Message)
    → (kept_after k kind reply).client ≡ k.client
client_after k Con reply = refl
client_after k Non None = refl
client_after k Non (Some reply) = refl
client_after k Ack reply = refl
client_after k Rst reply = refl

-- a fresh request is answered
pub asked_con : (f : Machine) (server : ℕ) (m : Message) (o : Option Recorded) → is_request m.code ≡ true
    → repeat_of f server m ≡ o → on_message f server m Con ≡ on_request f server m o
asked_con f server m o r e = rw r (ap (on_request f server m) e)

pub asked_non : (f : Machine) (server : ℕ) (m : Message) (o : Option Recorded) → is_request m.code ≡ true
    → repeat_of f server m ≡ o → on_message f server m Non ≡ on_request f server m o
asked_non f server m o r e = rw r (ap (on_request f server m) e)

-- a request of an account
pub reached : (f : Machine) (server : ℕ) (bytes : List ℕ) (m : Message) → has_account f.kept.client server ≡ true
    → reading_of bytes ≡ Ok m → reaction_to f (Recv server bytes) ≡ on_message f server m m.kind
reached f server bytes m a r = rw (a, r) refl

same_test : (server : ℕ) (m n : Message) (r : Recorded) → n.kind ≡ m.kind → n.mid ≡ m.mid
    → is_same server n r ≡ is_same server m r
same_test server m n r k i =
    ap (λ (t : ℕ × Kind). r.server == server && (r.mid == t.0 && kind_number r.kind == kind_number t.1))
    (λ j. (i j, k j))

-- the record of a request is the first that its repeat finds
found_at : (clock server seconds : ℕ) (m n : Message) (xs : List Recorded) (e : Recorded)
    → e.server ≡ server → e.kind ≡ m.kind → e.mid ≡ m.mid → e.second ≡ clock
    → find (λ r. is_live clock r && is_same server m r) xs ≡ None → seconds < lifetime m.kind → n.kind ≡ m.kind
    → n.mid ≡ m.mid
    → find (λ r. is_live (clock + seconds) r && is_same server n r) (xs ++ e ∷ []) ≡ Some e
found_at clock server seconds m n xs e es ek ei et first short k i =
    let weaker : (r : Recorded) → (is_live (clock + seconds) r && is_same server n r) ≡ true
    → (is_live clock r && is_same server m r) ≡ true =
    λ r. both _ _ _ _ (live_later clock seconds r.second (lifetime r.kind)) (same_test server m n r k i) in
    let lives : is_live (clock + seconds) e ≡ true = rw (et, ek) (fresh_lives clock seconds (lifetime m.kind) short) in
    let same : is_same server n e ≡ true = rw (es, ek, ei, k, i) (same_id server m.mid m.mid m.kind m.kind refl refl) in
    find_last _ xs e (find_none _ _ weaker xs first) (and_from _ _ lives same)

-- what a repeat finds after a fresh request and some seconds
pub found : (f : Machine) (server seconds : ℕ) (m n : Message) (client : Client) (left : List Observation)
    (reply : Option Message) (act : Option Deed)
    → repeat_of f server m ≡ None → seconds < lifetime m.kind → n.kind ≡ m.kind → n.mid ≡ m.mid
    → repeat_of (flat_after_seconds (on_fresh f server m
    (with_observations (with_client f.kept client) left) reply act).flat
    seconds) server n
    ≡ Some (record_of f.kept server m (option_map spelling reply))
found f server seconds m n client left reply act first short k i =
    subst (λ c. find (λ r. is_live (c + seconds) r && is_same server n r)
    (f.recorded ++ record_of f.kept server m (option_map spelling reply) ∷ [])
    ≡ Some (record_of f.kept server m (option_map spelling reply)))
    (sym (clock_after (with_observations (with_client f.kept client) left) m.kind reply))
    (found_at f.kept.clock server seconds m n f.recorded
    (record_of f.kept server m (option_map spelling reply)) refl refl refl refl first short k i)

account_stays : (f : Machine) (server seconds : ℕ) (m : Message) (client : Client) (left : List Observation)
    (reply : Option Message) (act : Option Deed)
    → client.accounts ≡ f.kept.client.accounts → has_account f.kept.client server ≡ true
    → has_account (flat_after_seconds (on_fresh f server m
    (with_observations (with_client f.kept client) left) reply act).flat
    seconds).kept.client server ≡ true
account_stays f server seconds m client left reply act same a =
    subst (λ accounts. list_any (λ account. account == server) accounts ≡ true)
    (sym (ap (λ c. c.accounts) (client_after (with_observations (with_client f.kept client) left) m.kind reply) ∙ same))
    a

-- the reaction to a fresh confirmable request, and to its repeat
pub first_con : (f : Machine) (server : ℕ) (bytes : List ℕ) (m : Message) → IsFresh f server bytes m → m.kind ≡ Con
    → reaction_to f (Recv server bytes) ≡ on_outcome f server m (outcome_of f.kept.client server m)
first_con f server bytes m fresh k =
    reached f server bytes m fresh.account fresh.reading ∙ ap (on_message f server m) k
    ∙ asked_con f server m None fresh.request fresh.first

pub first_non : (f : Machine) (server : ℕ) (bytes : List ℕ) (m : Message) → IsFresh f server bytes m → m.kind ≡ Non
    → reaction_to f (Recv server bytes) ≡ on_outcome f server m (outcome_of f.kept.client server m)
first_non f server bytes m fresh k =
    reached f server bytes m fresh.account fresh.reading ∙ ap (on_message f server m) k
    ∙ asked_non f server m None fresh.request fresh.first

-- a repeat of a recorded request
pub again_con : (g : Machine) (server : ℕ) (bytes : List ℕ) (n : Message) (r : Recorded)
    → has_account g.kept.client server ≡ true → reading_of bytes ≡ Ok n → is_request n.code ≡ true → n.kind ≡ Con
    → repeat_of g server n ≡ Some r
    → reaction_to g (Recv server bytes) ≡ record { outputs = again server Con r.reply; flat = g }
again_con g server bytes n r a reading request k e =
    reached g server bytes n a reading ∙ ap (on_message g server n) k ∙ asked_con g server n (Some r) request e
    ∙ ap (λ kind. record { outputs = again server kind r.reply; flat = g }) k

pub again_non : (g : Machine) (server : ℕ) (bytes : List ℕ) (n : Message) (r : Recorded)
    → has_account g.kept.client server ≡ true → reading_of bytes ≡ Ok n → is_request n.code ≡ true → n.kind ≡ Non
    → repeat_of g server n ≡ Some r
    → reaction_to g (Recv server bytes) ≡ record { outputs = again server Non r.reply; flat = g }
again_non g server bytes n r a reading request k e =
    reached g server bytes n a reading ∙ ap (on_message g server n) k ∙ asked_non g server n (Some r) request e
    ∙ ap (λ kind. record { outputs = again server kind r.reply; flat = g }) k

-- of a reply and an act the reply is sent
only_sent : (server : ℕ) (reply : Option (List ℕ)) (act : Option Deed)
    → filter is_sent (sent_to server reply ++ outputs_of_act act) ≡ sent_to server reply
only_sent server None None = refl
only_sent server None (Some act) = refl
only_sent server (Some bytes) None = refl
only_sent server (Some bytes) (Some act) = refl

-- what is kept after a request with this outcome
abbrev noted_with : Machine → ℕ → Message → Outcome → ObserveResult
noted_with f server m outcome = observe_result (with_client f.kept outcome.client) server m outcome.answer

-- a fresh confirmable request and its repeat
pub confirmable : (f : Machine) (server seconds : ℕ) (bytes more : List ℕ) (m n : Message) → IsFresh f server bytes m
    → m.kind ≡ Con → seconds < lifetime Con → IsAgain m more n
    → reaction_to (flat_after_seconds (reaction_to f (Recv server bytes)).flat seconds) (Recv server more)
    ≡ record {
      outputs = filter is_sent (reaction_to f (Recv server bytes)).outputs;
      flat =
          flat_after_seconds (reaction_to f (Recv server bytes)).flat seconds;
    }
confirmable f server seconds bytes more m n fresh k short h =
    let outcome = outcome_of f.kept.client server m in
    let told = noted_with f server m outcome in
    let reply = reply_to f.kept.next_id m m.kind told.number outcome.answer in
    let act = outcome.answer.act in
    let then = (on_fresh f server m (with_observations (with_client f.kept outcome.client) told.left) reply act).flat in
    let here : seconds < lifetime m.kind = subst (λ kind. seconds < lifetime kind) (sym k) short in
    subst (λ r. reaction_to (flat_after_seconds r.flat seconds) (Recv server more)
    ≡ record { outputs = filter is_sent r.outputs; flat = flat_after_seconds r.flat seconds })
    (sym (first_con f server bytes m fresh k))
    ((again_con (flat_after_seconds then seconds) server more n (record_of f.kept server m (option_map spelling reply))
    (account_stays f server seconds m outcome.client told.left reply act
    (keeps f.kept.client server m).accounts fresh.account) h.reading h.request (h.kind ∙ k)
    (found f server seconds m n outcome.client told.left reply act fresh.first here h.kind h.mid))
    ∙ ap (λ o. record { outputs = o; flat = flat_after_seconds then seconds })
    (sym (only_sent server (option_map spelling reply) act)))

-- a fresh non-confirmable request and its repeat
pub non_confirmable : (f : Machine) (server seconds : ℕ) (bytes more : List ℕ) (m n : Message)
    → IsFresh f server bytes m → m.kind ≡ Non → seconds < lifetime Non → IsAgain m more n
    → reaction_to (flat_after_seconds (reaction_to f (Recv server bytes)).flat seconds) (Recv server more)
    ≡ record { outputs = []; flat = flat_after_seconds (reaction_to f (Recv server bytes)).flat seconds }
non_confirmable f server seconds bytes more m n fresh k short h =
    let outcome = outcome_of f.kept.client server m in
    let told = noted_with f server m outcome in
    let reply = reply_to f.kept.next_id m m.kind told.number outcome.answer in
    let act = outcome.answer.act in
    let then = (on_fresh f server m (with_observations (with_client f.kept outcome.client) told.left) reply act).flat in
    let here : seconds < lifetime m.kind = subst (λ kind. seconds < lifetime kind) (sym k) short in
    subst (λ r. reaction_to (flat_after_seconds r.flat seconds) (Recv server more)
    ≡ record { outputs = []; flat = flat_after_seconds r.flat seconds })
    (sym (first_non f server bytes m fresh k))
    (again_non (flat_after_seconds then seconds) server more n (record_of f.kept server m (option_map spelling reply))
    (account_stays f server seconds m outcome.client told.left reply act
    (keeps f.kept.client server m).accounts fresh.account) h.reading h.request (h.kind ∙ k)
    (found f server seconds m n outcome.client told.left reply act fresh.first here h.kind h.mid))
