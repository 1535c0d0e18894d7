-- What went through ports, and what is shown of it.
use Rattle.std.proofs.Common.{◌≡◌, ℕ, ◌==◌, Bool, true, false, ◌&&◌, cond, List, [], ◌∷◌, ◌++◌, filter, map, Option, None}
use Rattle.std.proofs.Common.{Some, Result, Ok, Err, refl, sym, ap, subst, ◌∙◌, append_assoc, append-nil}
use Rattle.std.proofs.Math.Logic.{∥∥₁_map}
use Rattle.live_link.specs.Wire.{WhereTold}
use Rattle.live_link.specs.declared.packet.Packet.{Packet}
use Rattle.std.specs.Prelude.{IfErr, OnOk}
use Rattle.std.proofs.Math.Bool.{and-false}
use Rattle.fleet_link.specs.Traffic.{Carries, Traffic, at_port, failed_once, handed_at, no_traffic, sent_all}
use Rattle.fleet_link.specs.Traffic.{traffic_of_receipt}
use Rattle.fleet_link.specs.declared.ports.PortsFault.{PortsFault}
use Rattle.fleet_link.specs.declared.ports.Receipt.{Receipt}
use Rattle.fleet_link.specs.declared.ports.Receipt.TheVariants as receipts
use Rattle.fleet_wire.specs.declared.plan.Direction.TheVariants.{In, Out}
use Rattle.fleet_lines.specs.declared.shown.Shown.{Shown}
use Rattle.fleet_lines.specs.declared.tape.Tape.{Tape}
use Rattle.fleet_lines.specs.Shown.{AreShown, AreShownOf, all_shown, heard_as, is_way_of, packet_as, received_shown}
use Rattle.fleet_lines.specs.Shown.{sent_shown, shown_with, taken_shown}

-- ---- lists

both_kept : {A B : Type 0} (f : A → B) (p : A → Bool) (xs ys : List A)
    → map f (filter p (xs ++ ys)) ≡ map f (filter p xs) ++ map f (filter p ys)
both_kept f p [] ys = refl
both_kept f p (x ∷ xs) ys = one (p x) (both_kept f p xs ys)
  where
    one : (b : Bool) → map f (filter p (xs ++ ys)) ≡ map f (filter p xs) ++ map f (filter p ys)
        → map f (cond b (x ∷ filter p (xs ++ ys)) (filter p (xs ++ ys)))
        ≡ map f (cond b (x ∷ filter p xs) (filter p xs)) ++ map f (filter p ys)
    one true e = ap (λ l. f x ∷ l) e
    one false e = e

-- ---- what is shown

-- this is shown of so much more
pub record IsPartOf (e : ℕ) (ys : List Shown) (more : Traffic) : Type 0 where
  pub received : more.handed ≡ received_shown e ys
  pub sent : more.sent ≡ sent_shown e ys

one_later : (e : ℕ) (xs ys : List Shown) (more : Traffic) (before between after : Option Traffic)
    → IsPartOf e ys more → WhereTold (AreShownOf e xs) before between → Carries between after more
    → WhereTold (AreShownOf e (xs ++ ys)) before after
one_later e xs ys more before between None part h k = tt
one_later e xs ys more before None (Some z) part h k = absurd k
one_later e xs ys more None (Some y) (Some z) part h k = absurd h
one_later e xs ys more (Some x) (Some y) (Some z) part h k = record {
  received = ap (λ (t : Traffic). t.handed) k ∙ ap (λ l. l ++ more.handed) h.received
      ∙ append_assoc x.handed (received_shown e xs) more.handed
      ∙ ap (λ l. x.handed ++ (received_shown e xs ++ l)) part.received
      ∙ ap (λ l. x.handed ++ l) (sym (both_kept heard_as (is_way_of In e) xs ys));
  sent = ap (λ (t : Traffic). t.sent) k ∙ ap (λ l. l ++ more.sent) h.sent
      ∙ append_assoc x.sent (sent_shown e xs) more.sent
      ∙ ap (λ l. x.sent ++ (sent_shown e xs ++ l)) part.sent
      ∙ ap (λ l. x.sent ++ l) (sym (both_kept packet_as (is_way_of Out e) xs ys));
}

pub shown_later : (xs ys : List Shown) (more : ℕ → Traffic) (before between after : ℕ → Option Traffic)
    → ((e : ℕ) → IsPartOf e ys (more e)) → AreShown before between xs
    → ((e : ℕ) → Carries (between e) (after e) (more e)) → AreShown before after (xs ++ ys)
shown_later xs ys more before between after part h k e =
    one_later e xs ys (more e) (before e) (between e) (after e) (part e) (h e) (k e)

-- nothing has gone through yet
none_shown : (e : ℕ) (told : Option Traffic) → WhereTold (AreShownOf e []) told told
none_shown e None = tt
none_shown e (Some t) = record { received = sym (append-nil t.handed); sent = sym (append-nil t.sent) }

pub none_shown_yet : (told : ℕ → Option Traffic) → AreShown told told []
none_shown_yet told e = none_shown e (told e)

false_is_not_true : false ≡ true → ⊥
false_is_not_true h = cc

-- ---- what is shown of a call

and_true : (b : Bool) → (b && true) ≡ b
and_true true = refl
and_true false = refl

received_part : (b : Bool) (e : ℕ) (x : Shown) → is_way_of In e x ≡ b → is_way_of Out e x ≡ false
    → IsPartOf e (x ∷ []) (cond b (handed_at x.second x.packet) no_traffic)
received_part true e x h k = record {
  received = ap (λ c. map heard_as (cond c (x ∷ []) [])) (sym h);
  sent = ap (λ c. map packet_as (cond c (x ∷ []) [])) (sym k);
}
received_part false e x h k = record {
  received = ap (λ c. map heard_as (cond c (x ∷ []) [])) (sym h);
  sent = ap (λ c. map packet_as (cond c (x ∷ []) [])) (sym k);
}

sent_part_if : (b : Bool) (e : ℕ) (x : Shown) → is_way_of Out e x ≡ b → is_way_of In e x ≡ false
    → IsPartOf e (x ∷ []) (cond b (sent_all (x.packet ∷ [])) no_traffic)
sent_part_if true e x h k = record {
  received = ap (λ c. map heard_as (cond c (x ∷ []) [])) (sym k);
  sent = ap (λ c. map packet_as (cond c (x ∷ []) [])) (sym h);
}
sent_part_if false e x h k = record {
  received = ap (λ c. map heard_as (cond c (x ∷ []) [])) (sym k);
  sent = ap (λ c. map packet_as (cond c (x ∷ []) [])) (sym h);
}

failed_part : (b : Bool) (e : ℕ) → IsPartOf e [] (cond b failed_once no_traffic)
failed_part true e = record { received = refl; sent = refl }
failed_part false e = record { received = refl; sent = refl }

receipt_part : (second : ℕ) (receipt : Receipt) (e : ℕ)
    → IsPartOf e (shown_with second receipt) (traffic_of_receipt second (Ok receipt) e)
receipt_part second receipts.Nothing e = record { received = refl; sent = refl }
receipt_part second (receipts.Arrived arrival) e =
    received_part (arrival.device == e) e _ (and_true (arrival.device == e)) (and-false (arrival.device == e))
receipt_part second receipts.Dropped e = record { received = refl; sent = refl }
receipt_part second (receipts.Failed device) e = failed_part (device == e) e

abbrev sent_one : ℕ → ℕ → Packet → Shown
sent_one second device packet = record { second = second; device = device; direction = Out; packet = packet }

sent_part : (second device : ℕ) (packet : Packet) (e : ℕ)
    → IsPartOf e (sent_one second device packet ∷ []) (at_port device e (sent_all (packet ∷ [])))
sent_part second device packet e =
    sent_part_if (device == e) e (sent_one second device packet) (and_true (device == e)) (and-false (device == e))

-- ---- what is so of ports after a call

abbrev Shows : (ℕ → Option Traffic) → (ℕ → Option Traffic) → Tape → Type 0
Shows began told tape = ∥ (tape.whole ≡ true → AreShown began told (all_shown tape)) ∥₁

shows_on : (began before after : ℕ → Option Traffic) (old new : Tape) → (new.whole ≡ true → old.whole ≡ true)
    → (new.whole ≡ true → AreShown began before (all_shown old) → AreShown began after (all_shown new))
    → Shows began before old → Shows began after new
shows_on began before after old new kept on shows =
    ∥∥₁_map shows (λ h whole. on whole (h (kept whole)))

-- more has gone through, and is kept
more_shown : (began before after : ℕ → Option Traffic) (old new : Tape) (ys : List Shown) (more : ℕ → Traffic)
    → new.taken ≡ old.taken → new.shown.items ≡ old.shown.items ++ ys → ((e : ℕ) → IsPartOf e ys (more e))
    → ((e : ℕ) → Carries (before e) (after e) (more e)) → AreShown began before (all_shown old)
    → AreShown began after (all_shown new)
more_shown began before after old new ys more same added part carried h =
    let all : all_shown old ++ ys ≡ all_shown new =
    append_assoc (taken_shown old.taken) old.shown.items ys
    ∙ ap (λ l. taken_shown old.taken ++ l) (sym added)
    ∙ ap (λ t. taken_shown t ++ new.shown.items) (sym same) in
    subst (AreShown began after) all (shown_later (all_shown old) ys more began before after part h carried)

-- nothing has gone through
pub shows_silent : (began before after : ℕ → Option Traffic) (tape : Tape)
    → ((e : ℕ) → Carries (before e) (after e) no_traffic) → Shows began before tape → Shows began after tape
shows_silent began before after tape carried shows =
    ∥∥₁_map shows (λ h whole. more_shown began before after tape tape [] (λ e. no_traffic) refl
    (sym (append-nil tape.shown.items)) (λ e. record { received = refl; sent = refl }) carried (h whole))

pub shows_heard : (began before after : ℕ → Option Traffic) (old new : Tape) (second : ℕ) (receipt : Receipt)
    (result : Result Receipt PortsFault) → new.taken ≡ old.taken
    → OnOk result (new.shown.items ≡ old.shown.items ++ shown_with second receipt)
    → OnOk result (new.whole ≡ old.whole) → IfErr result (λ _. new.whole ≡ false)
    → ((e : ℕ) → Carries (before e) (after e) (traffic_of_receipt second (Ok receipt) e))
    → Shows began before old → Shows began after new
shows_heard began before after old new second receipt (Ok given) same added whole broken carried shows =
    shows_on began before after old new (λ w. sym whole ∙ w)
    (λ w. more_shown began before after old new (shown_with second receipt) (traffic_of_receipt second (Ok receipt))
    same added (receipt_part second receipt) carried) shows
shows_heard began before after old new second receipt (Err fault) same added whole broken carried shows =
    ∣ (λ w. absurd (false_is_not_true (sym broken ∙ w))) ∣₁

pub shows_sent : (began before after : ℕ → Option Traffic) (old new : Tape) (second device : ℕ) (packet : Packet)
    → new.taken ≡ old.taken → (new.whole ≡ true → new.shown.items ≡ old.shown.items
    ++ (record { second = second; device = device; direction = Out; packet = packet }) ∷ [])
    → (new.whole ≡ true → old.whole ≡ true)
    → ((e : ℕ) → Carries (before e) (after e) (at_port device e (sent_all (packet ∷ []))))
    → Shows began before old → Shows began after new
shows_sent began before after old new second device packet same added kept carried shows =
    shows_on began before after old new kept
    (λ w. more_shown began before after old new (sent_one second device packet ∷ [])
    (λ e. at_port device e (sent_all (packet ∷ []))) same (added w) (sent_part second device packet) carried) shows

-- what was kept is taken
pub shows_taken : (began told : ℕ → Option Traffic) (old new : Tape) (items : List Shown) → items ≡ old.shown.items
    → new.shown.items ≡ [] → taken_shown new.taken ≡ taken_shown old.taken ++ items → new.whole ≡ old.whole
    → Shows began told old → Shows began told new
shows_taken began told old new items are left taken same shows =
    let all : all_shown old ≡ all_shown new =
    ap (λ l. taken_shown old.taken ++ l) (sym are) ∙ sym taken ∙ sym (append-nil (taken_shown new.taken))
    ∙ ap (λ l. taken_shown new.taken ++ l) (sym left) in
    shows_on began told told old new (λ w. sym same ∙ w) (λ w h. subst (AreShown began told) all h) shows

pub shows_new : (told : ℕ → Option Traffic) (tape : Tape) → taken_shown tape.taken ≡ [] → tape.shown.items ≡ []
    → Shows told told tape
shows_new told tape taken shown =
    let all : [] ≡ all_shown tape =
    sym (ap (λ l. taken_shown tape.taken ++ l) shown ∙ append-nil (taken_shown tape.taken) ∙ taken) in
    ∣ (λ w. subst (AreShown told told) all (none_shown_yet told)) ∣₁

-- the ports tell the same
pub shows_same : (began before after : ℕ → Option Traffic) (tape : Tape) → ((e : ℕ) → after e ≡ before e)
    → Shows began before tape → Shows began after tape
shows_same began before after tape same shows =
    ∥∥₁_map shows (λ h whole e. subst (λ t. WhereTold (AreShownOf e (all_shown tape)) (began e) t) (sym (same e))
    (h whole e))

-- there was memory for each datagram
pub shows_whole : (began told : ℕ → Option Traffic) (tape : Tape) → tape.whole ≡ true → Shows began told tape
    → ∥ AreShown began told (all_shown tape) ∥₁
shows_whole began told tape whole shows = ∥∥₁_map shows (λ h. h whole)
