-- The numbers that a server set at a path agree, whatever is requested.
use Rattle.std.proofs.Common.{◌≡◌, ◌≢◌, ℕ, ℤ, pos, ◌+ℤ◌, ◌*ℤ◌, int_lt, Bool, true, false, cond, not, ◌&&◌, List, []}
use Rattle.std.proofs.Common.{◌∷◌, Option, None, Some, Result, Ok, Err, refl, sym, ap, subst, ◌∙◌}
use Rattle.std.specs.Bool.{if◌then◌else◌}
use Rattle.std.specs.Cmp.{eq_by_cmp_equiv, Equal-is}
use Rattle.std.specs.FinMap as map
use Rattle.std.specs.Option.{option_and_then}
use Rattle.std.specs.Ordering.{eq_by_cmp}
use Rattle.std.proofs.lemmas.Bool.{false≢true, and_from}
use Rattle.coap_codec.specs.Message.{Message}
use Rattle.object_defs.specs.Numbers.{access_control_object}
use Rattle.object_defs.specs.declared.path.Path.{Path}
use Rattle.object_defs.specs.declared.path.Path.TheVariants.{Instance, Object, Part, Resource}
use Rattle.notifier.specs.declared.attribute.AttributeKey.{AttributeKey}
use Rattle.notifier.specs.declared.attribute.Change.{Change}
use Rattle.notifier.specs.declared.attribute.Name.{Name}
use Rattle.notifier.specs.declared.attribute.Name.TheVariants.{Gt, Lt, St}
use Rattle.notifier.specs.declared.fault.QueryFault.{QueryFault}
use Rattle.notifier.specs.Attributes.{Numbers, agree, assigned_number, is_consistent, key_cmp, key_of, lies_under}
use Rattle.notifier.specs.Attributes.{path_of, with_changes, without_under}
use Rattle.notifier.specs.Query.{changes_of}
use Rattle.notifier.proofs.Keys.{key_exact, key_total}
use Rattle.notifier.proofs.AttributeLaws.{others_kept}
use Rattle.device_requests.specs.Client.{Client}
use Rattle.device_requests.specs.Delete.{after_delete, taken_away, without_controls}
use Rattle.device_requests.specs.Request.{outcome_of}
use Rattle.device_requests.specs.WriteAttributes.{new_numbers, level_at, changes_or_none}
use Rattle.laws_discover.specs.Reached.{NumbersAgree}
use Rattle.laws_discover.proofs.Becoming.{Becomes, becomes}
use Rattle.laws_discover.proofs.Becoming.Becomes.{goes, is_set, stays}

-- ---- what the test of it says

below_by : (g l s : Option ℤ) → agree g l s ≡ true → (lt gt : ℤ) → l ≡ Some lt → g ≡ Some gt → int_lt lt gt ≡ true
below_by None l s h lt gt e k = cc
below_by (Some x) None s h lt gt e k = cc
below_by (Some x) (Some y) None h lt gt e k =
    let low : y ≡ lt = cc in
    let high : x ≡ gt = cc in
    sym (ap (λ z. int_lt z x) low ∙ ap (int_lt lt) high) ∙ h
below_by (Some x) (Some y) (Some z) h lt gt e k =
    let low : y ≡ lt = cc in
    let high : x ≡ gt = cc in
    sym (ap (λ z. int_lt z x) low ∙ ap (int_lt lt) high) ∙ first_of_both (int_lt y x) _ h
  where
    first_of_both : (a b : Bool) → (a && b) ≡ true → a ≡ true
    first_of_both true b h = refl
    first_of_both false b h = cc

apart_by : (g l s : Option ℤ) → agree g l s ≡ true → (lt gt st : ℤ) → l ≡ Some lt → g ≡ Some gt → s ≡ Some st
    → int_lt (lt +ℤ (pos 2 *ℤ st)) gt ≡ true
apart_by None l s h lt gt st e k i = cc
apart_by (Some x) None s h lt gt st e k i = cc
apart_by (Some x) (Some y) None h lt gt st e k i = cc
apart_by (Some x) (Some y) (Some z) h lt gt st e k i =
    let low : y ≡ lt = cc in
    let high : x ≡ gt = cc in
    let step : z ≡ st = cc in
    sym (ap (λ a. int_lt (a +ℤ (pos 2 *ℤ z)) x) low ∙ ap (λ a. int_lt (lt +ℤ (pos 2 *ℤ a)) x) step
    ∙ ap (int_lt (lt +ℤ (pos 2 *ℤ st))) high) ∙ second_of_both (int_lt y x) _ h
  where
    second_of_both : (a b : Bool) → (a && b) ≡ true → b ≡ true
    second_of_both true b h = h
    second_of_both false b h = cc

pub they_agree : (m : Numbers) (server : ℕ) (path : Path) → is_consistent m server path ≡ true
    → NumbersAgree m server path
they_agree m server path h =
    record {
      below = below_by (assigned_number m server path Gt) (assigned_number m server path Lt)
          (assigned_number m server path St) h;
      apart = apart_by (assigned_number m server path Gt) (assigned_number m server path Lt)
          (assigned_number m server path St) h;
    }

test_by : (g l s : Option ℤ) → ((lt gt : ℤ) → l ≡ Some lt → g ≡ Some gt → int_lt lt gt ≡ true)
    → ((lt gt st : ℤ) → l ≡ Some lt → g ≡ Some gt → s ≡ Some st → int_lt (lt +ℤ (pos 2 *ℤ st)) gt ≡ true)
    → agree g l s ≡ true
test_by None l s h k = refl
test_by (Some gt) None s h k = refl
test_by (Some gt) (Some lt) None h k = h lt gt refl refl
test_by (Some gt) (Some lt) (Some st) h k =
    and_from (int_lt lt gt) (int_lt (lt +ℤ (pos 2 *ℤ st)) gt) (h lt gt refl refl) (k lt gt st refl refl refl)

pub they_pass : (m : Numbers) (server : ℕ) (path : Path) → NumbersAgree m server path
    → is_consistent m server path ≡ true
they_pass m server path h =
    test_by (assigned_number m server path Gt) (assigned_number m server path Lt)
    (assigned_number m server path St) h.below h.apart

abbrev pub AllAgree : Numbers → Type 0
AllAgree m = (server : ℕ) (path : Path) → is_consistent m server path ≡ true

-- ---- none is set

pub none_agree : AllAgree map.empty
none_agree server path =
    let none : (n : Name) → assigned_number map.empty server path n ≡ None =
    λ n. map.get-empty key_cmp (key_of server path n)
    in
    ap (λ g. agree g (assigned_number map.empty server path Lt) (assigned_number map.empty server path St)) (none Gt)

-- ---- changes at one path leave all others

path_in_key : (s : ℕ) (p : Path) (n : Name) → path_of (key_of s p n) ≡ p
path_in_key s (Object o) n = refl
path_in_key s (Instance o i) n = refl
path_in_key s (Resource o i r) n = refl
path_in_key s (Part o i r q) n = refl

server_in_key : (s : ℕ) (p : Path) (n : Name) → (key_of s p n).server ≡ s
server_in_key s (Object o) n = refl
server_in_key s (Instance o i) n = refl
server_in_key s (Resource o i r) n = refl
server_in_key s (Part o i r q) n = refl

same_server : (s t : ℕ) (p q : Path) (a b : Name) → key_of s p a ≡ key_of t q b → s ≡ t
same_server s t p q a b e = sym (server_in_key s p a) ∙ ap (λ (k : AttributeKey). k.server) e ∙ server_in_key t q b

same_path : (s t : ℕ) (p q : Path) (a b : Name) → key_of s p a ≡ key_of t q b → p ≡ q
same_path s t p q a b e = sym (path_in_key s p a) ∙ ap path_of e ∙ path_in_key t q b

-- three numbers that are as they were agree as they did
as_before : (old new : Numbers) (s : ℕ) (p : Path)
    → ((n : Name) → assigned_number new s p n ≡ assigned_number old s p n)
    → is_consistent old s p ≡ true → is_consistent new s p ≡ true
as_before old new s p same h =
    ap (λ g. agree g (assigned_number new s p Lt) (assigned_number new s p St)) (same Gt)
    ∙ ap (λ l. agree (assigned_number old s p Gt) l (assigned_number new s p St)) (same Lt)
    ∙ ap (agree (assigned_number old s p Gt) (assigned_number old s p Lt)) (same St) ∙ h

written_agree : (m : Numbers) (server : ℕ) (path : Path) (cs : List Change) → AllAgree m
    → is_consistent (with_changes m server path cs) server path ≡ true → AllAgree (with_changes m server path cs)
written_agree m server path cs h own = λ s p.
    by s p (eq_by_cmp key_cmp (key_of s p Gt) (key_of server path Gt)) refl
  where
    by : (s : ℕ) (p : Path) (b : Bool) → eq_by_cmp key_cmp (key_of s p Gt) (key_of server path Gt) ≡ b
        → is_consistent (with_changes m server path cs) s p ≡ true
    by s p true e =
        let keys = key_exact (key_of s p Gt) (key_of server path Gt) ((Equal-is _).0 e) in
        ap (λ t. is_consistent (with_changes m server path cs) t p) (same_server s server p path Gt Gt keys)
        ∙ ap (is_consistent (with_changes m server path cs) server) (same_path s server p path Gt Gt keys) ∙ own
    by s p false e =
        let apart : (n c : Name) → key_of s p n ≢ key_of server path c = λ n c same.
        false≢true (sym e
        ∙ ap (λ t. eq_by_cmp key_cmp (key_of t p Gt) (key_of server path Gt)) (same_server s server p path n c same)
        ∙ ap (λ q. eq_by_cmp key_cmp (key_of server q Gt) (key_of server path Gt)) (same_path s server p path n c same)
        ∙ (eq_by_cmp_equiv key_total).refl (key_of server path Gt)) in
        as_before m (with_changes m server path cs) s p (λ n. others_kept m server path cs (key_of s p n) (apart n))
        (h s p)

given_agree : (m : Numbers) (server : ℕ) (path : Path) (r : Result (List Change) QueryFault) (new : Numbers)
    → AllAgree m → option_and_then (new_numbers m server path) (changes_or_none r) ≡ Some new → AllAgree new
given_agree m server path (Err fault) new h e = cc
given_agree m server path (Ok cs) new h e = by (is_consistent (with_changes m server path cs) server path) refl e
  where
    by : (b : Bool) → is_consistent (with_changes m server path cs) server path ≡ b
        → (if b then Some (with_changes m server path cs) else None) ≡ Some new → AllAgree new
    by true own k =
        let same : with_changes m server path cs ≡ new = cc in
        subst AllAgree same (written_agree m server path cs h own)
    by false own k = cc

-- ---- what goes at a path goes with all its numbers

under_alike : (place p : Path) (s : ℕ) (a b : Name) → lies_under place (key_of s p a) ≡ lies_under place (key_of s p b)
under_alike (Object o) (Object q) s a b = refl
under_alike (Object o) (Instance q j) s a b = refl
under_alike (Object o) (Resource q j t) s a b = refl
under_alike (Object o) (Part q j t u) s a b = refl
under_alike (Instance o i) (Object q) s a b = refl
under_alike (Instance o i) (Instance q j) s a b = refl
under_alike (Instance o i) (Resource q j t) s a b = refl
under_alike (Instance o i) (Part q j t u) s a b = refl
under_alike (Resource o i r) (Object q) s a b = refl
under_alike (Resource o i r) (Instance q j) s a b = refl
under_alike (Resource o i r) (Resource q j t) s a b = refl
under_alike (Resource o i r) (Part q j t u) s a b = refl
under_alike (Part o i r n) (Object q) s a b = refl
under_alike (Part o i r n) (Instance q j) s a b = refl
under_alike (Part o i r n) (Resource q j t) s a b = refl
under_alike (Part o i r n) (Part q j t u) s a b = refl

left_at : (m : Numbers) (place : Path) (s : ℕ) (p : Path) (n : Name)
    → assigned_number (without_under m place) s p n
    ≡ cond (not (lies_under place (key_of s p Gt))) (assigned_number m s p n) None
left_at m place s p n =
    map.get-retain_keys m (λ i. not (lies_under place i)) (key_of s p n)
    (λ x same. ap (λ i. not (lies_under place i)) (sym (key_exact (key_of s p n) x same)))
    ∙ ap (λ b. cond (not b) (assigned_number m s p n) None) (under_alike place p s n Gt)

without_agree : (m : Numbers) (place : Path) → AllAgree m → AllAgree (without_under m place)
without_agree m place h = λ s p. by s p (lies_under place (key_of s p Gt)) refl
  where
    by : (s : ℕ) (p : Path) (b : Bool) → lies_under place (key_of s p Gt) ≡ b
        → is_consistent (without_under m place) s p ≡ true
    by s p true e =
        ap (λ g. agree g (assigned_number (without_under m place) s p Lt)
        (assigned_number (without_under m place) s p St))
        (left_at m place s p Gt ∙ ap (λ b. cond (not b) (assigned_number m s p Gt) None) e)
    by s p false e =
        as_before m (without_under m place) s p
        (λ n. left_at m place s p n ∙ ap (λ b. cond (not b) (assigned_number m s p n) None) e) (h s p)

controls_agree : (m : Numbers) (js : List ℕ) → AllAgree m → AllAgree (without_controls m js)
controls_agree m [] h = h
controls_agree m (j ∷ js) h =
    controls_agree (without_under m (Instance access_control_object j)) js
    (without_agree m (Instance access_control_object j) h)

-- ---- a request

became_agreeing : (client : Client) (server : ℕ) (m : Numbers) → AllAgree client.attributes → Becomes client server m
    → AllAgree m
became_agreeing client server m h stays = h
became_agreeing client server m h (is_set path queries new e) =
    given_agree client.attributes server path (changes_of [] (level_at client.catalog path) queries) new h e
became_agreeing client server m h (goes path) =
    controls_agree (without_under client.attributes path) (taken_away client.store (after_delete client.store path))
    (without_agree client.attributes path h)

pub requests_agree : (client : Client) (server : ℕ) (m : Message) → AllAgree client.attributes
    → AllAgree (outcome_of client server m).client.attributes
requests_agree client server m h = became_agreeing client server _ h (becomes client server m)
