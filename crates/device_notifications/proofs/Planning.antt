-- What a second does to the observations, as far as it is worked out, and as far as it is done.
use Rattle.std.proofs.Common.{◌≡◌, ℕ, zero, suc, ◌+◌, ◌<◌, ◌≤◌, List, [], ◌∷◌, ◌++◌, length, take, drop, slice_get}
use Rattle.std.proofs.Common.{slice_set}
use Rattle.std.proofs.Common.{Some, refl, sym, ap, subst, ◌∙◌, arith}
use Rattle.std.proofs.lemmas.List.{append-nil, append_assoc, drop_all, length-append, length-drop, map-append, take_all}
use Rattle.std.proofs.lemmas.List.{length-map}
use Rattle.lemmas.proofs.Lists.{take_one_more}
use Rattle.notifier.specs.declared.observation.Observation.{Observation}
use Rattle.notifier.specs.declared.pending.Outlook.{Outlook}
use Rattle.device_requests.specs.Client.{Client}
use Rattle.device_notifications.specs.Deeds.{Does, Plans, Replaces, left_by, left_by_all, said_by, said_by_all}
use Rattle.device_notifications.specs.declared.deeds.Deed.{Deed}
use Rattle.device_notifications.specs.Outbox.{Outbox}
use Rattle.device_notifications.specs.Outlooks.{outlook_of, outlooks_of}
use Rattle.device_notifications.specs.Second.{Sweep, second, sweep_of_both, turn_of}
use Rattle.device_notifications.proofs.Places.{opened, taken_set}

-- ---- one deed more

pub left_push : (clock : ℕ) (xs : List Observation) (ds : List Deed) (x : Observation) (d : Deed)
    → length xs ≡ length ds
    → left_by_all clock (xs ++ x ∷ []) (ds ++ d ∷ []) ≡ left_by_all clock xs ds ++ left_by clock x d
left_push clock [] [] x d h = append-nil (left_by clock x d)
left_push clock [] (e ∷ ds) x d h = absurd (let none : 0 ≡ suc (length ds) = h in cc)
left_push clock (y ∷ xs) [] x d h = absurd (let none : suc (length xs) ≡ 0 = h in cc)
left_push clock (y ∷ xs) (e ∷ ds) x d h =
    ap (λ t. left_by clock y e ++ t) (left_push clock xs ds x d (omega (arith, h)))
    ∙ sym (append_assoc (left_by clock y e) (left_by_all clock xs ds) (left_by clock x d))

pub said_push : (ss : List Outlook) (ds : List Deed) (s : Outlook) (d : Deed) → length ss ≡ length ds
    → said_by_all (ss ++ s ∷ []) (ds ++ d ∷ []) ≡ said_by_all ss ds ++ said_by s d
said_push [] [] s d h = append-nil (said_by s d)
said_push [] (e ∷ ds) s d h = absurd (let none : 0 ≡ suc (length ds) = h in cc)
said_push (r ∷ ss) [] s d h = absurd (let none : suc (length ss) ≡ 0 = h in cc)
said_push (r ∷ ss) (e ∷ ds) s d h =
    ap (λ t. said_by r e ++ t) (said_push ss ds s d (omega (arith, h)))
    ∙ sym (append_assoc (said_by r e) (said_by_all ss ds) (said_by s d))

length-taken : {X : Type 0} (xs : List X) (n : ℕ) → n ≤ length xs → length (take n xs) ≡ n
length-taken xs zero h = refl
length-taken [] (suc n) h = absurd (let f : ⊥ = omega (arith, h) in f)
length-taken (x ∷ xs) (suc n) h = ap suc (length-taken xs n (omega (arith, h)))

pub length-push : {X : Type 0} (xs : List X) (x : X) (n : ℕ) → length xs ≡ n → length (xs ++ x ∷ []) ≡ n + 1
length-push [] x n h = omega (arith, h)
length-push (y ∷ xs) x zero h = absurd (let none : suc (length xs) ≡ 0 = h in cc)
length-push (y ∷ xs) x (suc n) h =
    let rest = length-push xs x n (omega (arith, h)) in
    omega (arith, rest)

-- ---- working it out

-- the deeds of the first n are there: with what has been sent and what still will be stands what the whole second
-- sends, and so with what is left and what is said of it
pub record Planned (client : Client) (clock : ℕ) (os : List Observation) (deeds : List Deed) (before now : Outbox)
    (n : ℕ)
    : Type 0 where
  pub each : length deeds ≡ n
  pub sent : now.sent ++ (second client clock now.next_id (drop n os)).sent
      ≡ before.sent ++ (second client clock before.next_id os).sent
  pub next_id : (second client clock now.next_id (drop n os)).next_id ≡ (second client clock before.next_id os).next_id
  pub left : left_by_all clock (take n os) deeds ++ (second client clock now.next_id (drop n os)).left
      ≡ (second client clock before.next_id os).left
  pub said : said_by_all (outlooks_of client (take n os)) deeds
      ++ outlooks_of client (second client clock now.next_id (drop n os)).left
      ≡ outlooks_of client (second client clock before.next_id os).left

pub none_planned : (client : Client) (clock : ℕ) (os : List Observation) (deeds : List Deed) (before : Outbox)
    → deeds ≡ [] → Planned client clock os deeds before before 0
none_planned client clock os deeds before none =
    record {
      each = ap length none;
      sent = refl;
      next_id = refl;
      left = refl;
      said = refl;
    }

pub one_planned : (client : Client) (clock : ℕ) (os : List Observation) (deeds : List Deed) (before now after : Outbox)
    (n : ℕ) (o : Observation) (deed : Deed)
    → n < length os → slice_get os n ≡ Some o
    → Does client clock o (turn_of client clock now.next_id o) deed now after
    → Planned client clock os deeds before now n
    → Planned client clock os (deeds ++ deed ∷ []) before after (n + 1)
one_planned client clock os deeds before now after n o deed within at does h =
    let turn = turn_of client clock now.next_id o in
    let rest = second client clock turn.next_id (drop (n + 1) os) in
    let whole : second client clock now.next_id (drop n os) ≡ sweep_of_both turn rest =
    ap (λ xs. second client clock now.next_id xs) (opened os n o at) in
    let coming : second client clock after.next_id (drop (n + 1) os) ≡ rest =
    ap (λ id. second client clock id (drop (n + 1) os)) does.next_id in
    let first : take (n + 1) os ≡ take n os ++ o ∷ [] = take_one_more os n o at in
    let count : length (take n os) ≡ length deeds = length-taken os n (omega (arith, within)) ∙ sym h.each in
    let lefts : left_by_all clock (take (n + 1) os) (deeds ++ deed ∷ [])
    ≡ left_by_all clock (take n os) deeds ++ turn.left =
    ap (λ xs. left_by_all clock xs (deeds ++ deed ∷ [])) first ∙ left_push clock (take n os) deeds o deed count
    ∙ ap (λ t. left_by_all clock (take n os) deeds ++ t) does.left in
    let saids : said_by_all (outlooks_of client (take (n + 1) os)) (deeds ++ deed ∷ [])
    ≡ said_by_all (outlooks_of client (take n os)) deeds ++ outlooks_of client turn.left =
    ap (λ xs. said_by_all (outlooks_of client xs) (deeds ++ deed ∷ [])) first
    ∙ ap (λ ss. said_by_all ss (deeds ++ deed ∷ [])) (map-append (outlook_of client) (take n os) (o ∷ []))
    ∙ said_push (outlooks_of client (take n os)) deeds (outlook_of client o) deed
    (length-map (take n os) (outlook_of client) ∙ count)
    ∙ ap (λ t. said_by_all (outlooks_of client (take n os)) deeds ++ t) does.said in
    record {
      each = length-push deeds deed n h.each;
      sent = (λ j. does.sent j ++ (coming j).sent) ∙ append_assoc now.sent turn.sent rest.sent
          ∙ ap (λ (r : Sweep). now.sent ++ r.sent) (sym whole) ∙ h.sent;
      next_id = ap (λ (r : Sweep). r.next_id) coming ∙ ap (λ (r : Sweep). r.next_id) (sym whole) ∙ h.next_id;
      left = (λ j. lefts j ++ (coming j).left)
          ∙ append_assoc (left_by_all clock (take n os) deeds) turn.left rest.left
          ∙ ap (λ (r : Sweep). left_by_all clock (take n os) deeds ++ r.left) (sym whole) ∙ h.left;
      said = (λ j. saids j ++ outlooks_of client (coming j).left)
          ∙ append_assoc (said_by_all (outlooks_of client (take n os)) deeds) (outlooks_of client turn.left)
          (outlooks_of client rest.left)
          ∙ ap (λ t. said_by_all (outlooks_of client (take n os)) deeds ++ t)
          (sym (map-append (outlook_of client) turn.left rest.left))
          ∙ ap (λ (r : Sweep). said_by_all (outlooks_of client (take n os)) deeds ++ outlooks_of client r.left)
          (sym whole) ∙ h.said;
    }

pub all_planned : (client : Client) (clock : ℕ) (os : List Observation) (deeds : List Deed) (before now : Outbox)
    (n : ℕ)
    → n ≡ length os → length os ≤ 32 → Planned client clock os deeds before now n
    → Plans client clock os deeds before now
all_planned client clock os deeds before now n all few h =
    let none : drop n os ≡ [] = drop_all n os (omega (arith, all)) in
    let whole : take n os ≡ os = take_all n os (omega (arith, all)) in
    record {
      each = h.each ∙ all;
      few = omega (arith, h.each, all, few);
      sent = sym (append-nil now.sent) ∙ ap (λ xs. now.sent ++ (second client clock now.next_id xs).sent) (sym none)
          ∙ h.sent;
      next_id = ap (λ xs. (second client clock now.next_id xs).next_id) (sym none) ∙ h.next_id;
      left = ap (λ xs. left_by_all clock xs deeds) (sym whole)
          ∙ sym (append-nil (left_by_all clock (take n os) deeds))
          ∙ ap (λ xs. left_by_all clock (take n os) deeds ++ (second client clock now.next_id xs).left) (sym none)
          ∙ h.left;
      said = ap (λ xs. said_by_all (outlooks_of client xs) deeds) (sym whole)
          ∙ sym (append-nil (said_by_all (outlooks_of client (take n os)) deeds))
          ∙ ap (λ xs. said_by_all (outlooks_of client (take n os)) deeds
          ++ outlooks_of client (second client clock now.next_id xs).left) (sym none)
          ∙ h.said;
    }

-- ---- doing it

-- the first n deeds are done: before the place stands what they leave, and from it on what still stands
pub record Carried {X : Type 0} (old now here : List X) (place n : ℕ) : Type 0 where
  pub done : take place now ≡ here
  pub coming : drop place now ≡ drop n old

first_of : {X : Type 0} (xs : List X) (i : ℕ) → slice_get xs i ≡ slice_get (drop i xs) 0
first_of [] zero = refl
first_of [] (suc i) = refl
first_of (x ∷ xs) zero = refl
first_of (x ∷ xs) (suc i) = first_of xs i

next_of : {X : Type 0} (xs : List X) (i : ℕ) → drop 1 (drop i xs) ≡ drop (suc i) xs
next_of [] zero = refl
next_of [] (suc i) = refl
next_of (x ∷ xs) zero = refl
next_of (x ∷ xs) (suc i) = next_of xs i

next_is : (i : ℕ) → suc i ≡ i + 1
next_is i = omega arith

-- what stands at the place is what stood at n
pub still_at : {X : Type 0} (old now here : List X) (place n : ℕ) → Carried old now here place n
    → slice_get now place ≡ slice_get old n
still_at old now here place n h =
    first_of now place ∙ ap (λ xs. slice_get xs 0) h.coming ∙ sym (first_of old n)

pub carried_on : {X : Type 0} (old now next_now here more : List X) (place next n : ℕ)
    → Carried old now here place n → Replaces now next_now more place next
    → Carried old next_now (here ++ more) next (n + 1)
carried_on old now next_now here more place next n h puts =
    record {
      done = puts.passed ∙ ap (λ xs. xs ++ more) h.done;
      coming = puts.coming ∙ ap (λ m. drop m now) (sym (next_is place)) ∙ sym (next_of now place)
          ∙ ap (λ xs. drop 1 xs) h.coming ∙ next_of old n ∙ ap (λ m. drop m old) (next_is n);
    }

-- there is one at the place while there is one at n
pub place_within : {X : Type 0} (old now here : List X) (place n : ℕ) → n < length old → Carried old now here place n
    → place < length now
place_within old now here place n within h =
    let a = length-drop place now in
    let b = length-drop n old in
    omega (arith, a, b, within, ap length h.coming)

pub carried_all : {X : Type 0} (old now here : List X) (place n : ℕ) → length old ≤ n → Carried old now here place n
    → now ≡ here
carried_all old now here place n all h =
    let none : drop place now ≡ [] = h.coming ∙ drop_all n old all in
    let size = length-drop place now in
    let past : length now ≤ place = omega (arith, size, ap length none) in
    sym (take_all place now past) ∙ h.done

pub more_left : {X : Type 0} (all ys zs : List X) (x : X) → all ≡ ys ++ x ∷ zs → length ys < length all
more_left all ys zs x is =
    let size = length-append ys (x ∷ zs) in
    omega (arith, ap length is, size)

pub left_carried : (clock : ℕ) (old now next_now : List Observation) (ys : List Deed) (deed : Deed) (o : Observation)
    (place next : ℕ)
    → length ys < length old → slice_get old (length ys) ≡ Some o
    → Carried old now (left_by_all clock (take (length ys) old) ys) place (length ys)
    → Replaces now next_now (left_by clock o deed) place next
    → Carried old next_now (left_by_all clock (take (length (ys ++ deed ∷ [])) old) (ys ++ deed ∷ [])) next
    (length (ys ++ deed ∷ []))
left_carried clock old now next_now ys deed o place next within at h puts =
    let n = length ys in
    let count : length (ys ++ deed ∷ []) ≡ n + 1 = length-push ys deed n refl in
    let here : left_by_all clock (take n old) ys ++ left_by clock o deed
    ≡ left_by_all clock (take (length (ys ++ deed ∷ [])) old) (ys ++ deed ∷ []) =
    sym (left_push clock (take n old) ys o deed (length-taken old n (omega (arith, within))))
    ∙ ap (λ xs. left_by_all clock xs (ys ++ deed ∷ []))
    (sym (take_one_more old n o at) ∙ ap (λ m. take m old) (sym count)) in
    subst (λ m. Carried old next_now (left_by_all clock (take (length (ys ++ deed ∷ [])) old) (ys ++ deed ∷ [])) next m)
    (sym count)
    (subst (λ xs. Carried old next_now xs next (n + 1)) here
    (carried_on old now next_now (left_by_all clock (take n old) ys) (left_by clock o deed) place next n h puts))

pub said_carried : (old now next_now : List Outlook) (ys : List Deed) (deed : Deed) (s : Outlook) (place next : ℕ)
    → length ys < length old → slice_get old (length ys) ≡ Some s
    → Carried old now (said_by_all (take (length ys) old) ys) place (length ys)
    → Replaces now next_now (said_by s deed) place next
    → Carried old next_now (said_by_all (take (length (ys ++ deed ∷ [])) old) (ys ++ deed ∷ [])) next
    (length (ys ++ deed ∷ []))
said_carried old now next_now ys deed s place next within at h puts =
    let n = length ys in
    let count : length (ys ++ deed ∷ []) ≡ n + 1 = length-push ys deed n refl in
    let here : said_by_all (take n old) ys ++ said_by s deed
    ≡ said_by_all (take (length (ys ++ deed ∷ [])) old) (ys ++ deed ∷ []) =
    sym (said_push (take n old) ys s deed (length-taken old n (omega (arith, within))))
    ∙ ap (λ xs. said_by_all xs (ys ++ deed ∷ [])) (sym (take_one_more old n s at) ∙ ap (λ m. take m old) (sym count)) in
    subst (λ m. Carried old next_now (said_by_all (take (length (ys ++ deed ∷ [])) old) (ys ++ deed ∷ [])) next m)
    (sym count)
    (subst (λ xs. Carried old next_now xs next (n + 1)) here
    (carried_on old now next_now (said_by_all (take n old) ys) (said_by s deed) place next n h puts))

-- ---- saying it

pub said_more : (client : Client) (os : List Observation) (ss next : List Outlook) (n : ℕ) (o : Observation)
    (s : Outlook)
    → slice_get os n ≡ Some o → slice_get ss n ≡ Some s
    → take n ss ≡ outlooks_of client (take n os) → next ≡ slice_set ss n (outlook_of client o)
    → take (n + 1) next ≡ outlooks_of client (take (n + 1) os)
said_more client os ss next n o s at there_too known is =
    ap (λ xs. take (n + 1) xs) is ∙ taken_set ss n s (outlook_of client o) there_too
    ∙ ap (λ xs. xs ++ outlook_of client o ∷ []) known
    ∙ sym (map-append (outlook_of client) (take n os) (o ∷ []))
    ∙ ap (λ xs. outlooks_of client xs) (sym (take_one_more os n o at))
