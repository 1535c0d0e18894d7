-- All devices on a lane, where a datagram of one of them comes or goes on.
use Rattle.std.proofs.Common.{◌≡◌, ◌⊎◌, inl, inr, ℕ, ◌+◌, ◌≤◌, ◌<◌, ◌==◌, Bool, true, false, cond, List, [], ◌∷◌, ◌++◌}
use Rattle.std.proofs.Common.{length, get_or, set, nat_lt, Option, None, Some, refl, sym, ap, subst, ◌∙◌, arith}
use Rattle.std.proofs.Common.{get_or-set_other, get_or-set_same}
use Rattle.std.specs.List.{AllByRecursion}
use Rattle.std.proofs.Math.ListN.{length-set}
use Rattle.std.proofs.lemmas.Bool.{cases_eq, eq-eqb, ne_eqb}
use Rattle.std.proofs.lemmas.Bool.Decides.{nat_tests}
use Rattle.live_link.specs.declared.packet.Packet.{Packet}
use Rattle.fleet_link.specs.Traffic.{ReceivedPacket}
use Rattle.lemmas.proofs.Lists.{length_pushed}
use Rattle.fleet_wire.specs.declared.lane.Held.{Held}
use Rattle.fleet_wire.specs.declared.lane.Lane.{Lane}
use Rattle.fleet_wire.specs.declared.lane.Log.{Log}
use Rattle.fleet_wire.specs.declared.plan.Direction.{Direction}
use Rattle.fleet_wire.specs.declared.plan.Fate.{Fate}
use Rattle.fleet_wire.specs.declared.plan.Fate.TheVariants.{Lost}
use Rattle.fleet_wire.specs.declared.plan.Plan.{Plan}
use Rattle.fleet_wire.specs.Schedule.{fate_of, goes_at_once}
use Rattle.fleet_wire.specs.Lane.{came_by, fate_at, held_by, held_with, is_due, is_freed, is_over, is_wanted, of_device}
use Rattle.fleet_wire.specs.Lane.{went_by, AreInOrder, AreLanes, ForwardedPacket, IsFirst, IsIdle, IsLane}
use Rattle.fleet_wire.proofs.Held.{all_wait, by_append, order_with, order_without, other_around, other_one, other_with}
use Rattle.fleet_wire.proofs.Held.{own_around, own_one, own_with, Waits}
use Rattle.fleet_wire.proofs.OneLane.{gone_of, lane_comes, lane_elsewhere, lane_goes, lane_later, quiet, IsNew, IsQuiet}

lane_is : (fate : ℕ → Fate) (late_by now : ℕ) (came a : List ReceivedPacket) (went b : List ForwardedPacket)
    (held c : List Held)
    (freed d : Bool) → a ≡ came → b ≡ went → c ≡ held → d ≡ freed → IsLane fate late_by now came went held freed
    → IsLane fate late_by now a b c d
lane_is fate late_by now came a went b held c freed d e_a e_b e_c e_d l =
    subst (λ x. IsLane fate late_by now x b c d) (sym e_a)
    (subst (λ x. IsLane fate late_by now came x c d) (sym e_b)
    (subst (λ x. IsLane fate late_by now came went x d) (sym e_c)
    (subst (IsLane fate late_by now came went held) (sym e_d) l)))

of_own : {X : Type 0} (d e : ℕ) (x : X) → d ≡ e → of_device d e x ≡ x ∷ []
of_own d e x is = ap (λ b. cond b (x ∷ []) []) (eq-eqb d e is)

of_other : {X : Type 0} (d e : ℕ) (x : X) → (d ≡ e → ⊥) → of_device d e x ≡ []
of_other d e x is = ap (λ b. cond b (x ∷ []) []) (ne_eqb d e is)

nil_right : {X : Type 0} (xs : List X) → xs ++ [] ≡ xs
nil_right [] = refl
nil_right (x ∷ xs) = ap (λ t. x ∷ t) (nil_right xs)

with_other : {X : Type 0} (xs ys : List X) (d e : ℕ) (x : X) → (d ≡ e → ⊥) → ys ≡ xs ++ of_device d e x → ys ≡ xs
with_other xs ys d e x is h = h ∙ ap (λ t. xs ++ t) (of_other d e x is) ∙ nil_right xs

with_own : {X : Type 0} (xs ys : List X) (d e : ℕ) (x : X) → d ≡ e → ys ≡ xs ++ of_device d e x → ys ≡ xs ++ x ∷ []
with_own xs ys d e x is h = h ∙ ap (λ t. xs ++ t) (of_own d e x is)

-- ---- what waits

-- what is not to go on now, of one device
quiet_of : (free : Option ℕ) (late_by second e : ℕ) (held : List Held)
    → AllByRecursion (λ h. is_wanted free late_by second h ≡ false) held
    → AllByRecursion (IsQuiet (is_freed free e)) (held_by e held)
quiet_of free late_by second e [] w = tt
quiet_of free late_by second e (h ∷ held) w =
    at (cases_eq h.device e) (quiet_of free late_by second e held w.1)
  where
    at : (h.device ≡ e) ⊎ (h.device ≡ e → ⊥) → AllByRecursion (IsQuiet (is_freed free e)) (held_by e held)
        → AllByRecursion (IsQuiet (is_freed free e)) (held_by e (h ∷ held))
    at (inl same) rest =
        subst (AllByRecursion (IsQuiet (is_freed free e))) (sym (own_one e h held same)) (
          subst (λ i. IsQuiet (is_freed free i) h) same
              (quiet h.fate (is_freed free h.device) (is_over late_by h.second second) w.0),
          rest,
        )
    at (inr other) rest =
        subst (AllByRecursion (IsQuiet (is_freed free e))) (sym (other_one e h held other)) rest

all_quiet : (free : Option ℕ) (late_by second : ℕ) (held : List Held)
    → AllByRecursion (λ h. is_wanted free late_by second h ≡ false) held → AllByRecursion Waits held
all_quiet free late_by second [] w = tt
all_quiet free late_by second (h ∷ held) w =
    let q = quiet h.fate (is_freed free h.device) (is_over late_by h.second second) w.0 in
    (q.0, all_quiet free late_by second held w.1)

-- ---- one goes on

waits_unless : (f : Fate) (freed over : Bool) → is_due f freed over ≡ false → goes_at_once f ≡ false
waits_unless f freed over h = let q = quiet f freed over h in q.0

pub lanes_later : (plan : Plan) (direction : Direction) (devices now second : ℕ) (lane new : Lane)
    → AreLanes plan direction devices now lane → now ≤ second → new.direction ≡ lane.direction
    → new.counts.items ≡ lane.counts.items → new.held.items ≡ lane.held.items → new.free ≡ lane.free
    → new.log ≡ lane.log → AreLanes plan direction devices second new
lanes_later plan direction devices now second lane new l later dir counts held free log =
    record {
      direction_is = dir ∙ l.direction_is;
      count = ap length counts ∙ l.count;
      counts = λ e below. ap (λ c. get_or c e 0) counts ∙ l.counts e below ∙ ap (λ g. length (came_by g e)) (sym log);
      each = λ e.
          lane_is (fate_at plan direction devices e) plan.late_by second (came_by lane.log e) (came_by new.log e)
          (went_by lane.log e) (went_by new.log e) (held_by e lane.held.items) (held_by e new.held.items)
          (is_freed lane.free e) (is_freed new.free e) (ap (λ g. came_by g e) log) (ap (λ g. went_by g e) log)
          (ap (held_by e) held) (ap (λ b. is_freed b e) free)
          (lane_later (fate_at plan direction devices e) plan.late_by now second (came_by lane.log e)
          (went_by lane.log e) (held_by e lane.held.items) (is_freed lane.free e) later (l.each e));
      in_order = subst AreInOrder (sym held) l.in_order;
    }

pub lanes_gone : (plan : Plan) (direction : Direction) (devices now second : ℕ) (lane new : Lane) (h : Held)
    → AreLanes plan direction devices now lane → now ≤ second
    → IsFirst (is_wanted lane.free plan.late_by second) lane.held.items h new.held.items
    → new.direction ≡ lane.direction → new.counts.items ≡ lane.counts.items → new.free ≡ lane.free
    → ((e : ℕ) → came_by new.log e ≡ came_by lane.log e)
    → ((e : ℕ) → went_by new.log e ≡ went_by lane.log e ++ of_device h.device e (gone_of second h))
    → AreLanes plan direction devices second new
lanes_gone plan direction devices now second lane new h l later first dir counts free came went =
    record {
      direction_is = dir ∙ l.direction_is;
      count = ap length counts ∙ l.count;
      counts = λ e below. ap (λ c. get_or c e 0) counts ∙ l.counts e below ∙ ap length (sym (came e));
      each = λ e. at e (cases_eq h.device e);
      in_order = subst AreInOrder (sym first.others_is) (order_without first.front h first.back order);
    }
  where
    order : AreInOrder (first.front ++ h ∷ first.back)
    order = subst AreInOrder first.all_is l.in_order

    all_of : (e : ℕ) → AllByRecursion Waits (first.front ++ h ∷ first.back)
        → AllByRecursion Waits (held_by e first.front ++ held_by e (h ∷ first.back))
    all_of e w =
        subst (AllByRecursion Waits) (by_append e first.front (h ∷ first.back))
        (of_all (first.front ++ h ∷ first.back) w)
      where
        of_one : (x : Held) (xs : List Held) (b : Bool) → Waits x → AllByRecursion Waits xs
            → AllByRecursion Waits (cond b (x ∷ xs) xs)
        of_one x xs true p all = (p, all)
        of_one x xs false p all = all

        of_all : (xs : List Held) → AllByRecursion Waits xs → AllByRecursion Waits (held_by e xs)
        of_all [] w = tt
        of_all (x ∷ xs) w = of_one x (held_by e xs) (x.device == e) w.0 (of_all xs w.1)

    front_waits : (front : List Held) → AllByRecursion (λ x. is_wanted lane.free plan.late_by second x ≡ false) front
        → AllByRecursion Waits front
    front_waits front w = all_quiet lane.free plan.late_by second front w

    at : (e : ℕ) → (h.device ≡ e) ⊎ (h.device ≡ e → ⊥)
        → IsLane (fate_at plan direction devices e) plan.late_by second (came_by new.log e) (went_by new.log e)
        (held_by e new.held.items) (is_freed new.free e)
    at e (inl same) =
        let own : held_by e lane.held.items ≡ held_by e first.front ++ h ∷ held_by e first.back =
        ap (held_by e) first.all_is ∙ own_around e first.front h first.back same in
        let left : held_by e new.held.items ≡ held_by e first.front ++ held_by e first.back =
        ap (held_by e) first.others_is ∙ by_append e first.front first.back in
        let before = subst (λ x. IsLane (fate_at plan direction devices e) plan.late_by now (came_by lane.log e)
        (went_by lane.log e) x (is_freed lane.free e)) own (l.each e) in
        let due = subst (λ i. is_due h.fate (is_freed lane.free i) (is_over plan.late_by h.second second) ≡ true) same
        first.passes in
        lane_is (fate_at plan direction devices e) plan.late_by second (came_by lane.log e) (came_by new.log e)
        (went_by lane.log e ++ gone_of second h ∷ []) (went_by new.log e)
        (held_by e first.front ++ held_by e first.back) (held_by e new.held.items) (is_freed lane.free e)
        (is_freed new.free e) (came e)
        (with_own (went_by lane.log e) (went_by new.log e) h.device e (gone_of second h) same (went e)) left
        (ap (λ b. is_freed b e) free)
        (lane_goes (fate_at plan direction devices e) plan.late_by now second (came_by lane.log e) (went_by lane.log e)
        (held_by e first.front) h (held_by e first.back) (is_freed lane.free e) later before due
        (λ waits.
        let all = all_wait first.front h first.back order (front_waits first.front first.none) waits in
        subst (λ t. AllByRecursion Waits (held_by e first.front ++ t)) (own_one e h first.back same) (all_of e all)))
    at e (inr other) =
        let left : held_by e new.held.items ≡ held_by e lane.held.items =
        ap (held_by e) first.others_is ∙ sym (other_around e first.front h first.back other)
        ∙ ap (held_by e) (sym first.all_is) in
        lane_is (fate_at plan direction devices e) plan.late_by second (came_by lane.log e) (came_by new.log e)
        (went_by lane.log e) (went_by new.log e) (held_by e lane.held.items) (held_by e new.held.items)
        (is_freed lane.free e) (is_freed new.free e) (came e)
        (with_other (went_by lane.log e) (went_by new.log e) h.device e (gone_of second h) other (went e)) left
        (ap (λ b. is_freed b e) free)
        (lane_later (fate_at plan direction devices e) plan.late_by now second (came_by lane.log e)
        (went_by lane.log e) (held_by e lane.held.items) (is_freed lane.free e) later (l.each e))

-- ---- one comes

-- what is held after a datagram of a device has come, for each device
came_each : (plan : Plan) (direction : Direction) (devices now second : ℕ) (lane new : Lane) (h : Held)
    (x : ReceivedPacket)
    → AreLanes plan direction devices now lane → now ≤ second → IsIdle plan.late_by second lane
    → IsNew (fate_at plan direction devices h.device) second (came_by lane.log h.device) x h
    → new.held.items ≡ held_with h.fate h lane.held.items
    → is_freed new.free h.device ≡ goes_at_once h.fate
    → ((e : ℕ) → (h.device ≡ e → ⊥) → is_freed new.free e ≡ false)
    → ((e : ℕ) → came_by new.log e ≡ came_by lane.log e ++ of_device h.device e x)
    → ((e : ℕ) → went_by new.log e ≡ went_by lane.log e) → (e : ℕ)
    → IsLane (fate_at plan direction devices e) plan.late_by second (came_by new.log e) (went_by new.log e)
    (held_by e new.held.items) (is_freed new.free e)
came_each plan direction devices now second lane new h x l later idle is held freed others came went e =
    at (cases_eq h.device e)
  where
    waits : AllByRecursion (IsQuiet (is_freed lane.free e)) (held_by e lane.held.items)
    waits = quiet_of lane.free plan.late_by second e lane.held.items idle

    at : (h.device ≡ e) ⊎ (h.device ≡ e → ⊥)
        → IsLane (fate_at plan direction devices e) plan.late_by second (came_by new.log e) (went_by new.log e)
        (held_by e new.held.items) (is_freed new.free e)
    at (inl same) =
        lane_is (fate_at plan direction devices e) plan.late_by second (came_by lane.log e ++ x ∷ [])
        (came_by new.log e) (went_by lane.log e) (went_by new.log e)
        (held_with h.fate h (held_by e lane.held.items)) (held_by e new.held.items) (goes_at_once h.fate)
        (is_freed new.free e)
        (with_own (came_by lane.log e) (came_by new.log e) h.device e x same (came e)) (went e)
        (ap (held_by e) held ∙ own_with h.fate e h lane.held.items same)
        (ap (is_freed new.free) (sym same) ∙ freed)
        (lane_comes (fate_at plan direction devices e) plan.late_by now second (came_by lane.log e)
        (went_by lane.log e) (held_by e lane.held.items) (is_freed lane.free e) x h later (l.each e) waits
        (subst (λ i. IsNew (fate_at plan direction devices i) second (came_by lane.log i) x h) same is))
    at (inr other) =
        lane_is (fate_at plan direction devices e) plan.late_by second (came_by lane.log e) (came_by new.log e)
        (went_by lane.log e) (went_by new.log e) (held_by e lane.held.items) (held_by e new.held.items) false
        (is_freed new.free e)
        (with_other (came_by lane.log e) (came_by new.log e) h.device e x other (came e)) (went e)
        (ap (held_by e) held ∙ other_with h.fate e h lane.held.items other) (others e other)
        (lane_elsewhere (fate_at plan direction devices e) plan.late_by now second (came_by lane.log e)
        (went_by lane.log e) (held_by e lane.held.items) (is_freed lane.free e) later (l.each e) waits)

abbrev freed_after : Fate → ℕ → Option ℕ
freed_after fate device = cond (goes_at_once fate) (Some device) None

freed_own : (b : Bool) (device : ℕ) → is_freed (cond b (Some device) None) device ≡ b
freed_own true device = eq-eqb device device refl
freed_own false device = refl

freed_other : (b : Bool) (device e : ℕ) → (device ≡ e → ⊥) → is_freed (cond b (Some device) None) e ≡ false
freed_other true device e other = ne_eqb device e other
freed_other false device e other = refl

pub lanes_came : (plan : Plan) (direction : Direction) (devices now second : ℕ) (lane new : Lane) (h : Held)
    → AreLanes plan direction devices now lane → now ≤ second → IsIdle plan.late_by second lane
    → h.device < length lane.counts.items → h.place ≡ get_or lane.counts.items h.device 0 → h.second ≡ second
    → h.fate ≡ fate_of plan lane.direction h.device (h.place + 1) → new.direction ≡ lane.direction
    → new.counts.items ≡ set lane.counts.items h.device (h.place + 1)
    → new.held.items ≡ held_with h.fate h lane.held.items → new.free ≡ freed_after h.fate h.device
    → ((e : ℕ) → came_by new.log e
    ≡ came_by lane.log e ++ of_device h.device e (record { second = second; packet = h.packet }))
    → ((e : ℕ) → went_by new.log e ≡ went_by lane.log e) → AreLanes plan direction devices second new
lanes_came plan direction devices now second lane new h l later idle known place when fate dir counts held free came
    went =
    record {
      direction_is = dir ∙ l.direction_is;
      count = ap length counts ∙ length-set lane.counts.items h.device (h.place + 1) ∙ l.count;
      counts = λ e below. counted e below (cases_eq h.device e);
      each = came_each plan direction devices now second lane new h x l later idle is held
          (ap (λ b. is_freed b h.device) free ∙ freed_own (goes_at_once h.fate) h.device)
          (λ e other. ap (λ b. is_freed b e) free ∙ freed_other (goes_at_once h.fate) h.device e other) came went;
      in_order = subst AreInOrder (sym held)
          (order_with h.fate h lane.held.items refl (all_quiet lane.free plan.late_by second lane.held.items idle));
    }
  where
    x : ReceivedPacket
    x = record { second = second; packet = h.packet }

    below : h.device < devices
    below = subst (λ n. h.device < n) l.count known

    at : h.place ≡ length (came_by lane.log h.device)
    at = place ∙ l.counts h.device below

    is : IsNew (fate_at plan direction devices h.device) second (came_by lane.log h.device) x h
    is =
        let test : nat_lt h.device devices ≡ true = grind (arith, nat_tests, below) in
        record {
          place = at;
          same = refl;
          when = when;
          until = omega arith;
          fate_is = fate ∙ ap (λ d. fate_of plan d h.device (h.place + 1)) l.direction_is
              ∙ ap (λ n. fate_of plan direction h.device (n + 1)) at
              ∙ sym (ap (λ b. cond b (fate_of plan direction h.device (length (came_by lane.log h.device) + 1)) Lost)
              test);
        }

    counted : (e : ℕ) → e < devices → (h.device ≡ e) ⊎ (h.device ≡ e → ⊥)
        → get_or new.counts.items e 0 ≡ length (came_by new.log e)
    counted e lt (inl same) =
        let got : came_by new.log e ≡ came_by lane.log e ++ x ∷ [] =
        with_own (came_by lane.log e) (came_by new.log e) h.device e x same (came e) in
        let n : length (came_by new.log e) ≡ h.place + 1 =
        ap length got
        ∙ omega (arith, length_pushed (came_by lane.log e) x, at, ap (λ i. length (came_by lane.log i)) same) in
        ap (λ c. get_or c e 0) counts ∙ ap (λ i. get_or (set lane.counts.items h.device (h.place + 1)) i 0) (sym same)
        ∙ get_or-set_same lane.counts.items h.device (h.place + 1) 0 known ∙ sym n
    counted e lt (inr other) =
        let got : came_by new.log e ≡ came_by lane.log e =
        with_other (came_by lane.log e) (came_by new.log e) h.device e x other (came e) in
        ap (λ c. get_or c e 0) counts
        ∙ get_or-set_other lane.counts.items h.device e (h.place + 1) 0 (λ q. other (sym q)) ∙ l.counts e lt
        ∙ ap length (sym got)

pub lanes_unknown : (plan : Plan) (direction : Direction) (devices now second device : ℕ) (packet : Packet)
    (lane new : Lane) → AreLanes plan direction devices now lane → now ≤ second → IsIdle plan.late_by second lane
    → length lane.counts.items ≤ device → new.direction ≡ lane.direction → new.counts.items ≡ lane.counts.items
    → new.held.items ≡ lane.held.items → new.free ≡ None
    → ((e : ℕ) → came_by new.log e
    ≡ came_by lane.log e ++ of_device device e (record { second = second; packet = packet }))
    → ((e : ℕ) → went_by new.log e ≡ went_by lane.log e) → AreLanes plan direction devices second new
lanes_unknown plan direction devices now second device packet lane new l later idle unknown dir counts held free came
    went =
    record {
      direction_is = dir ∙ l.direction_is;
      count = ap length counts ∙ l.count;
      counts = λ e below.
          let other : device ≡ e → ⊥ = λ q. omega (arith, q, below, unknown, l.count) in
          ap (λ c. get_or c e 0) counts ∙ l.counts e below
          ∙ ap length (sym (with_other (came_by lane.log e) (came_by new.log e) device e x other (came e)));
      each = came_each plan direction devices now second lane new h x l later idle is held
          (ap (λ b. is_freed b device) free) (λ e other. ap (λ b. is_freed b e) free) came went;
      in_order = subst AreInOrder (sym held) l.in_order;
    }
  where
    x : ReceivedPacket
    x = record { second = second; packet = packet }

    h : Held
    h =
        record {
          device = device;
          place = length (came_by lane.log device);
          second = second;
          fate = Lost;
          packet = packet;
        }

    is : IsNew (fate_at plan direction devices device) second (came_by lane.log device) x h
    is =
        let far : devices ≤ device = subst (λ n. n ≤ device) l.count unknown in
        let test : nat_lt device devices ≡ false = grind (arith, nat_tests, far) in
        record {
          place = refl;
          same = refl;
          when = refl;
          until = omega arith;
          fate_is = sym
              (ap (λ b. cond b (fate_of plan direction device (length (came_by lane.log device) + 1)) Lost) test);
        }

-- ---- what is noted of it

pub noted_came : (a b : Log) (d d2 s s2 : ℕ) (p p2 : Packet) → a ≡ b → d ≡ d2 → s ≡ s2 → p ≡ p2 → (e : ℕ)
    → came_by a e ++ of_device d e (record { second = s; packet = p })
    ≡ came_by b e ++ of_device d2 e (record { second = s2; packet = p2 })
noted_came a b d d2 s s2 p p2 h_a h_d h_s h_p e = cc

pub noted_gone : (a b : Log) (d d2 place place2 s s2 : ℕ) (p p2 : Packet) → a ≡ b → d ≡ d2 → place ≡ place2 → s ≡ s2
    → p ≡ p2 → (e : ℕ)
    → went_by a e ++ of_device d e (record { place = place; second = s; packet = p })
    ≡ went_by b e ++ of_device d2 e (record { place = place2; second = s2; packet = p2 })
noted_gone a b d d2 place place2 s s2 p p2 h_a h_d h_place h_s h_p e = cc
