-- The Observe numbers of an observation rise by one through many seconds.
use Rattle.std.proofs.Common.{◌≡◌, ◌≢◌, ℕ, zero, suc, ◌+◌, ◌%◌, List, [], ◌∷◌, ◌++◌, Option, None, Some, refl, sym, ap}
use Rattle.std.proofs.Common.{subst, ◌∙◌}
use Rattle.std.specs.List.{AllByRecursion}
use Rattle.std.specs.Option.{option_to_list}
use Rattle.std.proofs.lemmas.List.{append_assoc}
use Rattle.std.proofs.lemmas.List.Elements.{Contains-append_right}
use Rattle.std.proofs.Math.Logic.{inl, inr}
use Rattle.lemmas.proofs.Lists.{each_appended, each_weaker}
use Rattle.coap_codec.specs.declared.kind.Kind.TheVariants.{Non}
use Rattle.notifier.specs.declared.observation.Observation.{Observation}
use Rattle.device_requests.specs.Client.{Client}
use Rattle.device_notifications.specs.declared.datagram.Datagram.{Datagram}
use Rattle.device_notifications.specs.Laws.{Counts, IsEnd, IsLater, IsLaterOneOf, IsLeft, IsNumbered, IsOfOneOf}
use Rattle.device_notifications.specs.Laws.{RisesByOne, SecondsCountObserveNumbers}
use Rattle.device_notifications.specs.Message.{datagram_of, open_notification}
use Rattle.device_notifications.specs.Outbox.{id_after}
use Rattle.device_notifications.specs.Second.{Sweep, after_next_notification, and_then, next_notification}
use Rattle.device_notifications.specs.Second.{notified_kind, present_answer, quiet_sweep, second, seconds}
use Rattle.device_notifications.specs.Second.{sweep_of_both, turn_of}
use Rattle.device_notifications.proofs.Turns.{by_all, ends_one, first_of, resends_one}
use Rattle.device_notifications.proofs.LaterOnes.{same_message, later_than, itself, told_later, opens_it, later_in}
use Rattle.device_notifications.proofs.LaterOnes.{later_left, later_right, of_left, message_left, message_right}
use Rattle.device_notifications.proofs.LaterOnes.{second_left, seconds_left, second_sent, seconds_sent}

-- ---- a second of some observations and then others

together : (a b c : Sweep) → sweep_of_both a (sweep_of_both b c) ≡ sweep_of_both (sweep_of_both a b) c
together a b c =
    λ i. record {
      sent = sym (append_assoc a.sent b.sent c.sent) i;
      left =
          sym (append_assoc a.left b.left c.left) i;
      next_id = c.next_id;
    }

parts : (client : Client) (clock next_id : ℕ) (before rest : List Observation)
    → second client clock next_id (before ++ rest)
    ≡ sweep_of_both (second client clock next_id before)
    (second client clock (second client clock next_id before).next_id rest)
parts client clock next_id [] rest = refl
parts client clock next_id (o ∷ before) rest =
    let t = turn_of client clock next_id o in
    let u = second client clock t.next_id before in
    ap (λ r. sweep_of_both t r) (parts client clock t.next_id before rest)
    ∙ together t u (second client clock u.next_id rest)

-- ---- the numbers of one observation among the others

of_others : (o : Observation) (others : List Observation) (n : ℕ) (is_open : Option Datagram) (xs ys : List Datagram)
    (last : Option ℕ)
    → AllByRecursion (IsOfOneOf others) xs
    → Counts o others n is_open ys last → Counts o others n is_open (xs ++ ys) last
of_others o others n is_open [] ys last all h = h
of_others o others n is_open (x ∷ xs) ys last all h =
    inl (all.0, of_others o others n is_open xs ys last all.1 h)

-- it ends with no message
silent : (o : Observation) (others : List Observation) (n : ℕ) (is_open : Option Datagram) (ds : List Datagram)
    → is_open ≢ None → AllByRecursion (IsOfOneOf others) ds → Counts o others n is_open ds None
silent o others n is_open [] some all = inr (some, refl)
silent o others n is_open (d ∷ ds) some all = inl (all.0, silent o others n is_open ds some all.1)

renumbered : (o p : Observation) (n : ℕ) (d : Datagram) (opens : Option Datagram) → IsLater o p
    → IsNumbered p n d opens → IsNumbered o n d opens
renumbered o p n d opens later h =
    record {
      kind = h.kind;
      mid = h.mid;
      answer = h.answer;
      message = h.message ∙ same_message h.kind o p h.mid (Some n) h.answer later.server later.token;
      content = h.content;
      open_with = h.open_with;
    }

ended_by : (o p : Observation) (d : Datagram) → IsLater o p → IsEnd p d → IsEnd o d
ended_by o p d later h = (h.0, h.1, h.2 ∙ same_message Non o p h.0 None h.1 later.server later.token, h.3)

carried : (o p : Observation) (others left : List Observation) → IsLater o p
    → AllByRecursion (IsLaterOneOf others) left
    → (n : ℕ) (is_open : Option Datagram) (ds : List Datagram) (last : Option ℕ) → Counts p left n is_open ds last
    → Counts o others n is_open ds last
carried o p others left same all n is_open [] last h = h
carried o p others left same all n is_open (d ∷ ds) last (inl h) =
    inl (of_left others left all d h.0, carried o p others left same all n is_open ds last h.1)
carried o p others left same all n is_open (d ∷ ds) last (inr (inl h)) =
    inr (inl (h.0, carried o p others left same all n is_open ds last h.1))
carried o p others left same all n is_open (d ∷ ds) last (inr (inr (inl h))) =
    inr (inr (inl (
      h.0,
      renumbered o p ((n + 1) % 16777216) d h.0 same h.1,
      carried o p others left same all ((n + 1) % 16777216) h.0 ds last h.2,
    )))
carried o p others left same all n is_open (d ∷ ds) last (inr (inr (inr h))) =
    inr (inr (inr (
      ended_by o p d same h.0,
      each_weaker (IsOfOneOf left) (IsOfOneOf others) (of_left others left all) ds h.1,
      h.2,
    )))

left_carried : (o p : Observation) (others rest : List Observation) → IsLater o p
    → AllByRecursion (IsLaterOneOf others) rest
    → (last : Option ℕ) (left : List Observation) → IsLeft p rest last left → IsLeft o others last left
left_carried o p others rest same all None left h =
    each_weaker (IsLaterOneOf rest) (IsLaterOneOf others) (later_in others rest all) left h
left_carried o p others rest same all (Some n) left h = (h.0, h.1, later_than o p h.0 same h.2, h.3)

-- before and after it, in this second and after that, the others send
regrouped : (b a r : List Datagram) (ds : List Datagram) → (b ++ (ds ++ a)) ++ r ≡ b ++ (ds ++ (a ++ r))
regrouped b a r ds = append_assoc b (ds ++ a) r ∙ ap (λ x. b ++ x) (append_assoc ds a r)

-- it is quiet in this second
quiet_then : (o : Observation) (others rest : List Observation) (b a r : List Datagram) (left : List Observation)
    → AllByRecursion (IsOfOneOf others) b → AllByRecursion (IsOfOneOf others) a
    → AllByRecursion (IsLaterOneOf others) rest
    → RisesByOne o rest r left → RisesByOne o others ((b ++ ([] ++ a)) ++ r) left
quiet_then o others rest b a r left before after all h =
    let is_open = open_notification o in
    record {
      last = h.last;
      counts = subst (λ ds. Counts o others o.number is_open ds h.last) (sym (regrouped b a r []))
          (of_others o others o.number is_open b (a ++ r) h.last before
          (of_others o others o.number is_open a r h.last after
          (carried o o others rest (itself o) all o.number is_open r h.last h.counts)));
      is_left = left_carried o o others rest (itself o) all h.last left h.is_left;
    }

-- it sends its open notification again
resent_then : (o : Observation) (others rest : List Observation) (b a r : List Datagram) (d : Datagram)
    (left : List Observation)
    → AllByRecursion (IsOfOneOf others) b → AllByRecursion (IsOfOneOf others) a
    → AllByRecursion (IsLaterOneOf others) rest → open_notification o ≡ Some d
    → RisesByOne o rest r left → RisesByOne o others ((b ++ ((d ∷ []) ++ a)) ++ r) left
resent_then o others rest b a r d left before after all is h =
    let is_open = open_notification o in
    record {
      last = h.last;
      counts = subst (λ ds. Counts o others o.number is_open ds h.last) (sym (regrouped b a r (d ∷ [])))
          (of_others o others o.number is_open b (d ∷ (a ++ r)) h.last before
          (inr (inl (
            is,
            of_others o others o.number is_open a r h.last after
                (carried o o others rest (itself o) all o.number is_open r h.last h.counts),
          ))));
      is_left = left_carried o o others rest (itself o) all h.last left h.is_left;
    }

-- it notifies
told_then : (o p : Observation) (others rest : List Observation) (b a r : List Datagram) (d : Datagram)
    (left : List Observation)
    → AllByRecursion (IsOfOneOf others) b → AllByRecursion (IsOfOneOf others) a
    → AllByRecursion (IsLaterOneOf others) rest
    → IsLater o p → p.number ≡ (o.number + 1) % 16777216
    → IsNumbered o ((o.number + 1) % 16777216) d (open_notification p)
    → RisesByOne p rest r left → RisesByOne o others ((b ++ ((d ∷ []) ++ a)) ++ r) left
told_then o p others rest b a r d left before after all same number numbered h =
    let is_open = open_notification p in
    record {
      last = h.last;
      counts = subst (λ ds. Counts o others o.number (open_notification o) ds h.last) (sym (regrouped b a r (d ∷ [])))
          (of_others o others o.number (open_notification o) b (d ∷ (a ++ r)) h.last before
          (inr (inr (inl (
            is_open,
            numbered,
            of_others o others ((o.number + 1) % 16777216) is_open a r h.last after
                (subst (λ n. Counts o others n is_open r h.last) number
                (carried o p others rest same all p.number is_open r h.last h.counts)),
          )))));
      is_left = left_carried o p others rest same all h.last left h.is_left;
    }

-- it ends
ended_then : (o : Observation) (others : List Observation) (b a r : List Datagram) (d : Datagram)
    (left : List Observation)
    → AllByRecursion (IsOfOneOf others) b → AllByRecursion (IsOfOneOf others) a → AllByRecursion (IsOfOneOf others) r
    → IsEnd o d → AllByRecursion (IsLaterOneOf others) left → RisesByOne o others ((b ++ ((d ∷ []) ++ a)) ++ r) left
ended_then o others b a r d left before after behind end gone =
    let is_open = open_notification o in
    record {
      last = None;
      counts = subst (λ ds. Counts o others o.number is_open ds None) (sym (regrouped b a r (d ∷ [])))
          (of_others o others o.number is_open b (d ∷ (a ++ r)) None before
          (inr (inr (inr (end, each_appended (IsOfOneOf others) a r after behind, refl)))));
      is_left = gone;
    }

-- it ends with no message
expired_then : (o : Observation) (others : List Observation) (b a r : List Datagram) (left : List Observation)
    → AllByRecursion (IsOfOneOf others) b → AllByRecursion (IsOfOneOf others) a → AllByRecursion (IsOfOneOf others) r
    → open_notification o ≢ None → AllByRecursion (IsLaterOneOf others) left
    → RisesByOne o others ((b ++ ([] ++ a)) ++ r) left
expired_then o others b a r left before after behind some gone =
    let is_open = open_notification o in
    record {
      last = None;
      counts = subst (λ ds. Counts o others o.number is_open ds None) (sym (regrouped b a r []))
          (silent o others o.number is_open (b ++ (a ++ r)) some
          (each_appended (IsOfOneOf others) b (a ++ r) before (each_appended (IsOfOneOf others) a r after behind)));
      is_left = gone;
    }

not_none : (x : Option Datagram) (d : Datagram) → x ≡ Some d → x ≢ None
not_none x d is none = let e : Some d ≡ None = sym is ∙ none in cc

-- what a second and those after it do: the observations before this one, its own turn, and those after it
abbrev whole : Client → ℕ → ℕ → Sweep → Sweep → List Observation → Sweep
whole client clock n b t after =
    and_then (sweep_of_both b (sweep_of_both t (second client clock t.next_id after)))
    (seconds client clock n (second client clock t.next_id after).next_id
    (b.left ++ (t.left ++ (second client clock t.next_id after).left)))

-- it is so of n seconds
abbrev Rise : Client → ℕ → ℕ → Type 0
Rise client clock n =
    (next_id : ℕ) (before after : List Observation) (o : Observation)
    → RisesByOne o (before ++ after) (seconds client clock n next_id (before ++ o ∷ after)).sent
    (seconds client clock n next_id (before ++ o ∷ after)).left

-- a second in which it does nothing
quiet_one : (client : Client) (clock n : ℕ) (others : List Observation) (b : Sweep) (after : List Observation)
    (o : Observation)
    → AllByRecursion (IsOfOneOf others) b.sent
    → AllByRecursion (IsOfOneOf others) (second client clock b.next_id after).sent
    → AllByRecursion (IsLaterOneOf others) (b.left ++ (second client clock b.next_id after).left) → Rise client clock n
    → RisesByOne o others (whole client clock n b (quiet_sweep b.next_id (o ∷ [])) after).sent
    (whole client clock n b (quiet_sweep b.next_id (o ∷ [])) after).left
quiet_one client clock n others b after o front back all rise =
    let a = second client clock b.next_id after in
    let r = seconds client clock n a.next_id (b.left ++ o ∷ a.left) in
    quiet_then o others (b.left ++ a.left) b.sent a.sent r.sent r.left front back all (rise a.next_id b.left a.left o)

-- so it is of one more
one_more : (client : Client) (clock n next_id : ℕ) (before after : List Observation) (o : Observation)
    → Rise client clock n
    → RisesByOne o (before ++ after) (whole client clock n (second client clock next_id before)
    (turn_of client clock (second client clock next_id before).next_id o) after).sent
    (whole client clock n (second client clock next_id before)
    (turn_of client clock (second client clock next_id before).next_id o) after).left
one_more client clock n next_id before after o rise =
    let others = before ++ after in
    let b = second client clock next_id before in
    let front : AllByRecursion (IsOfOneOf others) b.sent =
    each_weaker (IsOfOneOf before) (IsOfOneOf others) (message_left before after) b.sent
    (second_sent client clock next_id before) in
    let front_left : AllByRecursion (IsLaterOneOf others) b.left =
    each_weaker (IsLaterOneOf before) (IsLaterOneOf others) (later_left before after) b.left
    (second_left client clock next_id before) in
    let back : (i : ℕ) → AllByRecursion (IsOfOneOf others) (second client clock i after).sent =
    λ i. each_weaker (IsOfOneOf after) (IsOfOneOf others) (message_right before after)
    (second client clock i after).sent
    (second_sent client clock i after) in
    let all : (i : ℕ) → AllByRecursion (IsLaterOneOf others) (b.left ++ (second client clock i after).left) =
    λ i. each_appended (IsLaterOneOf others) b.left (second client clock i after).left front_left
    (each_weaker (IsLaterOneOf after) (IsLaterOneOf others) (later_right before after)
    (second client clock i after).left
    (second_left client clock i after)) in
    by_all client clock b.next_id o (λ t. RisesByOne o others
    (whole client clock n b t after).sent (whole client clock n b t after).left)
    (λ is content due.
    let i = id_after b.next_id in
    let a = second client clock i after in
    let p = after_next_notification client clock b.next_id o (present_answer client o) in
    let r = seconds client clock n a.next_id (b.left ++ p ∷ a.left) in
    told_then o p others (b.left ++ a.left) b.sent a.sent r.sent
    (next_notification client b.next_id o (present_answer client o)) r.left
    front (back i) (all i) (told_later client clock b.next_id o (present_answer client o)) refl
    (record {
      kind = notified_kind client;
      mid = b.next_id;
      answer = present_answer client o;
      message = refl;
      content = content;
      open_with = opens_it client clock b.next_id o (present_answer client o);
    })
    (rise a.next_id b.left a.left p))
    (λ is content rests. quiet_one client clock n others b after o front (back b.next_id) (all b.next_id) rise)
    (λ is no_content.
    let i = id_after b.next_id in
    let a = second client clock i after in
    let r = seconds client clock n a.next_id (b.left ++ a.left) in
    ended_then o others b.sent a.sent r.sent (datagram_of Non o b.next_id None (present_answer client o)) r.left front
    (back i)
    (each_weaker (IsOfOneOf (b.left ++ a.left)) (IsOfOneOf others) (of_left others (b.left ++ a.left) (all i)) r.sent
    (seconds_sent client clock n a.next_id (b.left ++ a.left)))
    (b.next_id, present_answer client o, refl, no_content)
    (each_weaker (IsLaterOneOf (b.left ++ a.left)) (IsLaterOneOf others)
    (later_in others (b.left ++ a.left) (all i)) r.left
    (seconds_left client clock n a.next_id (b.left ++ a.left))))
    (λ is. quiet_one client clock n others b after o front (back b.next_id) (all b.next_id) rise)
    (λ is.
    let a = second client clock b.next_id after in
    let r = seconds client clock n a.next_id (b.left ++ o ∷ a.left) in
    let there = resends_one o clock is in
    subst (λ ds. RisesByOne o others ((b.sent ++ (ds ++ a.sent)) ++ r.sent) r.left) (sym (ap option_to_list there.1))
    (resent_then o others (b.left ++ a.left) b.sent a.sent r.sent there.0 r.left front (back b.next_id)
    (all b.next_id) there.1 (rise a.next_id b.left a.left o)))
    (λ is.
    let a = second client clock b.next_id after in
    let r = seconds client clock n a.next_id (b.left ++ a.left) in
    let there = ends_one o clock is in
    expired_then o others b.sent a.sent r.sent r.left front (back b.next_id)
    (each_weaker (IsOfOneOf (b.left ++ a.left)) (IsOfOneOf others)
    (of_left others (b.left ++ a.left) (all b.next_id)) r.sent
    (seconds_sent client clock n a.next_id (b.left ++ a.left)))
    (not_none (open_notification o) there.0 there.1)
    (each_weaker (IsLaterOneOf (b.left ++ a.left)) (IsLaterOneOf others)
    (later_in others (b.left ++ a.left) (all b.next_id)) r.left
    (seconds_left client clock n a.next_id (b.left ++ a.left))))

pub seconds_count : SecondsCountObserveNumbers
seconds_count client clock zero next_id before after o =
    record {
      last = Some o.number;
      counts = inl refl;
      is_left =
          (o, Contains-append_right before (o ∷ after) o (first_of o after), itself o, refl);
    }
seconds_count client clock (suc n) next_id before after o =
    subst (λ s. RisesByOne o (before ++ after) (and_then s (seconds client (clock + 1) n s.next_id s.left)).sent
    (and_then s (seconds client (clock + 1) n s.next_id s.left)).left)
    (sym (parts client (clock + 1) next_id before (o ∷ after)))
    (one_more client (clock + 1) n next_id before after o (λ i b a p. seconds_count client (clock + 1) n i b a p))
