-- What is said of an observation depends on the values that reach it alone.
use Rattle.std.proofs.Common.{◌≡◌, ◌≢◌, ℕ, zero, suc, ◌+◌, ◌<◌, ℤ, Bool, true, false, ◌||◌, List, [], ◌∷◌, ◌++◌}
use Rattle.std.proofs.Common.{length, take, drop, slice_get, slice_set, Option, Some, refl, sym, ap, subst, ◌∙◌}
use Rattle.std.specs.Bool.{if◌then◌else◌}
use Rattle.std.proofs.lemmas.Bool.{or_left, or_parts, or_right}
use Rattle.std.proofs.lemmas.List.{length-map, map-append}
use Rattle.std.specs.List.{AllByRecursion, find}
use Rattle.std.specs.Option.{option_and_then, option_or, unwrap_or}
use Rattle.lemmas.proofs.Lists.{item_at, take_one_more}
use Rattle.lwm2m_values.specs.Value.{is_integer}
use Rattle.object_defs.specs.Catalog.{definition_of}
use Rattle.object_defs.specs.Path.{single_of}
use Rattle.object_defs.specs.declared.path.FullPath.{FullPath}
use Rattle.object_defs.specs.declared.path.Path.{Path}
use Rattle.object_defs.specs.declared.path.Path.TheVariants.{Object, Instance, Resource, Part}
use Rattle.instance_store.specs.Stored.{Stored, lies_in, value_at}
use Rattle.notifier.specs.Attributes.{effective}
use Rattle.notifier.specs.declared.attribute.Name.TheVariants as name
use Rattle.notifier.specs.Trigger.{is_triggered}
use Rattle.notifier.specs.Attributes.{assigned_number}
use Rattle.notifier.specs.declared.observation.Observation.{Observation}
use Rattle.notifier.specs.declared.pending.Outlook.{Outlook}
use Rattle.notifier.specs.declared.pending.Pending.TheVariants.{Idle, Changed, Gone}
use Rattle.device_requests.specs.Answer.{code_byte, is_content}
use Rattle.device_requests.specs.Client.{Client, with_stored}
use Rattle.device_requests.specs.Depending.{AgreeWhere, is_of_rights, is_read_by}
use Rattle.device_requests.specs.Ruling.{code_of}
use Rattle.device_requests.specs.Targets.{is_multiple, resource_place}
use Rattle.device_requests.specs.declared.answer.Answer.{Answer}
use Rattle.device_requests.proofs.Depending.{SameIn, same_answer, same_list, single_in}
use Rattle.device_notifications.specs.Outlooks.{outlook_of, outlooks_of}
use Rattle.device_notifications.specs.Period.{account_of, account_path, default_period, pmax_of}
use Rattle.device_notifications.specs.Period.{pmin_of, seconds_in}
use Rattle.device_notifications.specs.Reach.{DifferAt, OthersDoNotReach, is_of_periods, is_one_reached}
use Rattle.device_notifications.specs.Reach.{is_reached, reaches}
use Rattle.device_notifications.specs.Report.{number_at, number_in, single_number}
use Rattle.device_notifications.specs.Second.{present_answer}
use Rattle.device_notifications.proofs.Deeding.{outlook_is}
use Rattle.device_notifications.proofs.Places.{dropped_set, length-placed, opened}
use Rattle.device_notifications.proofs.Planning.{said_more}

-- ---- periods

-- two stores have the same instances, and the same values by which periods are found
record SamePeriods (s t : Stored) : Type 0 where
  instances : s.instances ≡ t.instances
  values : (q : FullPath) → is_of_periods q ≡ true → value_at s q ≡ value_at t q

same_account : (s t : Stored) (server : ℕ) → SamePeriods s t → account_of s server ≡ account_of t server
same_account s t server h =
    λ j. find (λ i. is_integer server (number_in (h.values (account_path i 0) refl j))) (same_list s t 1 h.instances j)

same_default : (s t : Stored) (server resource : ℕ) → SamePeriods s t
    → ((i : ℕ) → is_of_periods (account_path i resource) ≡ true)
    → default_period s server resource ≡ default_period t server resource
same_default s t server resource h is =
    λ j. option_and_then (λ i. option_and_then seconds_in (number_in (h.values (account_path i resource) (is i) j)))
    (same_account s t server h j)

same_pmin : (client : Client) (stored : Stored) (server : ℕ) (path : Path) → SamePeriods stored client.store
    → pmin_of (with_stored client stored) server path ≡ pmin_of client server path
same_pmin client stored server path h =
    ap (λ (n : Option ℕ). unwrap_or
    (option_or (option_and_then seconds_in (effective client.attributes server path name.Pmin)) n) 0)
    (same_default stored client.store server 2 h (λ i. refl))

same_pmax : (client : Client) (stored : Stored) (server : ℕ) (path : Path) → SamePeriods stored client.store
    → pmax_of (with_stored client stored) server path ≡ pmax_of client server path
same_pmax client stored server path h =
    ap (λ (n : Option ℕ).
    option_or (option_and_then seconds_in (effective client.attributes server path name.Pmax)) n)
    (same_default stored client.store server 3 h (λ i. refl))

-- ---- the trigger

same_number : (client : Client) (stored : Stored) (path : Path) → SameIn path stored client.store
    → number_at (with_stored client stored) path ≡ number_at client path
same_number client stored (Object o) h = refl
same_number client stored (Instance o i) h = refl
same_number client stored (Resource o i r) h =
    ap (single_number (is_multiple (definition_of client.catalog o r)))
    (h (single_of (resource_place o i r)) (single_in o i r))
same_number client stored (Part o i r n) h = refl

-- what is said of an observation, by its present answer, its periods and the number at its path
abbrev outlook_by : Client → Observation → Answer → ℕ → Option ℕ → Option ℤ → Outlook
outlook_by client o answer pmin pmax number =
    if is_content answer then record {
      pending = if is_triggered
          (assigned_number client.attributes o.server o.path name.Gt)
          (assigned_number client.attributes o.server o.path name.Lt)
          (assigned_number client.attributes o.server o.path name.St)
          o.report.number number
          o.report.payload answer.payload then Changed else Idle;
      pmin = pmin;
      pmax = pmax;
    } else record { pending = Gone (code_byte (code_of answer.ruling)); pmin = pmin; pmax = pmax }

pub stays_said : OthersDoNotReach
stays_said client stored o h =
    let agree : AgreeWhere (is_read_by o.path) client.store stored = record {
      instances = h.instances;
      values = λ q is. h.values q (or_left (is_read_by o.path q) (is_of_periods q) is);
    } in
    let there_too : SameIn o.path stored client.store =
    λ q lies. agree.values q (or_left (lies_in o.path q) (is_of_rights q) lies) in
    let periods : SamePeriods stored client.store = record {
      instances = h.instances;
      values = λ q is. h.values q (or_right (is_read_by o.path q) (is_of_periods q) is);
    } in
    let answer = same_answer client stored o.server o.path o.accept agree in
    let pmin = same_pmin client stored o.server o.path periods in
    let pmax = same_pmax client stored o.server o.path periods in
    record {
      answer = answer;
      pmin = pmin;
      pmax = pmax;
      outlook = λ j. outlook_by client o (answer j) (pmin j) (pmax j)
          (same_number client stored o.path there_too j);
    }

-- ---- observations that no value of some reaches

-- a value that reaches an observation is none of those of which none does
none_of : (qs : List FullPath) (o : Observation) (q : FullPath) → is_reached qs o ≡ false → reaches q o ≡ true
    → AllByRecursion (λ p. q ≢ p) qs
none_of [] o q none reached = tt
none_of (p ∷ ps) o q none reached =
    let parts = or_parts (reaches p o) (is_reached ps o) none in (
      λ (same : q ≡ p). let bad : true ≡ false = sym reached ∙ ap (λ x. reaches x o) same ∙ parts.0 in cc,
      none_of ps o q parts.1 reached,
    )

-- what was said of an observation that none of the values reaches is so still, where only these have changed
unreached : (client : Client) (before : Stored) (qs : List FullPath) (o : Observation)
    → DifferAt qs before client.store → is_reached qs o ≡ false
    → outlook_of (with_stored client before) o ≡ outlook_of client o
unreached client before qs o differ none =
    (stays_said client before o (record {
      instances = sym differ.instances;
      values = λ q reached. sym (differ.others q (none_of qs o q none reached));
    })).outlook

-- ---- saying it anew

-- what was said before the place is so of these observations now, and the rest is as it was said before
pub record SaidBefore (client : Client) (os : List Observation) (old said : List Outlook) (n : ℕ) : Type 0 where
  pub passed : take n said ≡ outlooks_of client (take n os)
  pub coming : drop n said ≡ drop n old
  pub count : length said ≡ length os

same_head : (x y : Outlook) (xs ys : List Outlook) → x ∷ xs ≡ y ∷ ys → x ≡ y
same_head x y xs ys h = cc

same_tail : (x y : Outlook) (xs ys : List Outlook) → x ∷ xs ≡ y ∷ ys → xs ≡ ys
same_tail x y xs ys h = cc

-- one more, of which it is so still
kept_said : (client before : Client) (os : List Observation) (old said : List Outlook) (n : ℕ) (o : Observation)
    → slice_get os n ≡ Some o → n < length os → old ≡ outlooks_of before os
    → outlook_of before o ≡ outlook_of client o → SaidBefore client os old said n
    → SaidBefore client os old said (n + 1)
kept_said client before os old said n o at within known same h =
    let here = item_at said n (subst (λ m. n < m) (sym h.count) within) in
    let was = item_at old n
    (subst (λ m. n < m) (sym (ap length known ∙ length-map os (outlook_of before))) within) in
    let rests : here.0 ∷ drop (n + 1) said ≡ was.0 ∷ drop (n + 1) old =
    sym (opened said n here.0 here.1) ∙ h.coming ∙ opened old n was.0 was.1 in
    let is : here.0 ≡ outlook_of client o =
    same_head here.0 was.0 (drop (n + 1) said) (drop (n + 1) old) rests
    ∙ outlook_is before os old n o was.0 known at was.1 ∙ same in
    record {
      passed = take_one_more said n here.0 here.1 ∙ (λ j. h.passed j ++ is j ∷ [])
          ∙ sym (map-append (outlook_of client) (take n os) (o ∷ []))
          ∙ ap (λ xs. outlooks_of client xs) (sym (take_one_more os n o at));
      coming = same_tail here.0 was.0 (drop (n + 1) said) (drop (n + 1) old) rests;
      count = h.count;
    }

-- one more, of which it is said anew
anew_said : (client : Client) (os : List Observation) (old said next : List Outlook) (n : ℕ) (o : Observation)
    → slice_get os n ≡ Some o → n < length os → length old ≡ length os
    → next ≡ slice_set said n (outlook_of client o) → SaidBefore client os old said n
    → SaidBefore client os old next (n + 1)
anew_said client os old said next n o at within pairs is h =
    let here = item_at said n (subst (λ m. n < m) (sym h.count) within) in
    let was = item_at old n (subst (λ m. n < m) (sym pairs) within) in
    let rests : here.0 ∷ drop (n + 1) said ≡ was.0 ∷ drop (n + 1) old =
    sym (opened said n here.0 here.1) ∙ h.coming ∙ opened old n was.0 was.1 in
    record {
      passed = said_more client os said next n o here.0 at here.1 h.passed is;
      coming = ap (λ xs. drop (n + 1) xs) is ∙ dropped_set said n (outlook_of client o)
          ∙ same_tail here.0 was.0 (drop (n + 1) said) (drop (n + 1) old) rests;
      count = ap length is ∙ length-placed said n (outlook_of client o) ∙ h.count;
    }

-- one more, which is said anew where one of these values reaches it
pub more_said : (client : Client) (before : Stored) (qs : List FullPath) (os : List Observation)
    (old said next : List Outlook) (n : ℕ) (o : Observation)
    → slice_get os n ≡ Some o → n < length os
    → next ≡ (if is_reached qs o then slice_set said n (outlook_of client o) else said)
    → DifferAt qs before client.store → old ≡ outlooks_of (with_stored client before) os
    → SaidBefore client os old said n → SaidBefore client os old next (n + 1)
more_said client before qs os old said next n o at within is differ known h =
    elim (is_reached qs o) as (λ b. is_reached qs o ≡ b
    → next ≡ (if b then slice_set said n (outlook_of client o) else said) → SaidBefore client os old next (n + 1)) [
      | true ↦ λ reached set. anew_said client os old said next n o at within
          (ap length known ∙ length-map os (outlook_of (with_stored client before))) set h
      | false ↦ λ none kept. subst (λ ss. SaidBefore client os old ss (n + 1)) (sym kept)
          (kept_said client (with_stored client before) os old said n o at within known
          (unreached client before qs o differ none) h)
    ] refl is

-- one of the observations that is reached
pub one_of : (qs : List FullPath) (os : List Observation) (n : ℕ) (o : Observation) → slice_get os n ≡ Some o
    → is_reached qs o ≡ true → is_one_reached qs os ≡ true
one_of qs [] n o at h = cc
one_of qs (p ∷ ps) zero o at h =
    let same : p ≡ o = cc in or_left (is_reached qs p) (is_one_reached qs ps) (ap (is_reached qs) same ∙ h)
one_of qs (p ∷ ps) (suc n) o at h = or_right (is_reached qs p) (is_one_reached qs ps) (one_of qs ps n o at h)
