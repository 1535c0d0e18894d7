-- Changes of attributes, one after another.
use Rattle.std.proofs.Common.{◌≡◌, ℕ, ℤ, true, false, cond, List, [], ◌∷◌, Option, None, Some, refl, sym, ap, ◌∙◌, ◌≤◌}
use Rattle.std.proofs.Common.{◌≢◌, ◌==◌, ◌||◌, ◌&&◌, Bool, IsSome, is_none, is_some, eq-eqb, length, drop, rules}
use Rattle.std.proofs.Common.{map as map_list, subst, true≢false}
use Rattle.std.proofs.lemmas.List.{drop_all}
use Rattle.std.specs.List.{list_any}
use Rattle.std.specs.Ordering.{eq_by_cmp}
use Rattle.std.specs.Cmp.{eq_by_cmp_equiv, Equal-is}
use Rattle.std.proofs.lemmas.Bool.{and_from, cond_both, false≢true, false_from_ne_true, or_parts, or_right}
use Rattle.std.proofs.lemmas.Bool.{true_from_ne_false}
use denote.Enum.Bare.{same_true}
use Rattle.std.specs.FinMap as map
use Rattle.std.specs.FinMap.{same_map}
use Rattle.object_defs.specs.declared.path.Path.{Path}
use Rattle.notifier.specs.declared.attribute.Name.{Name}
use Rattle.notifier.specs.declared.attribute.Change.{Change}
use Rattle.notifier.specs.declared.attribute.AttributeKey.{AttributeKey}
use Rattle.object_defs.specs.declared.path.Path.TheVariants.{Object, Instance, Resource, Part}
use Rattle.notifier.specs.declared.attribute.Name.TheVariants.{Pmin, Pmax, Gt, Lt, St}
use Rattle.notifier.specs.contracts.attribute.Name.{the_type}
use Rattle.notifier.specs.contracts.attribute.NamePartialEq.TheImpl.{eq-value}
use Rattle.notifier.specs.Attributes.{Numbers, key_cmp, key_of, assigned_number, rank, with_number, with_changes}
use Rattle.notifier.specs.Attributes.{sets_new}
use Rattle.notifier.specs.Inside.{AreOfDistinctNames, all_names, change_as_in, changes_as_in}
use Rattle.notifier.specs.Query.{is_of}
use Rattle.notifier.proofs.Keys.{key_total, key_exact}

-- the last of some changes of a name, or a number
abbrev pub last_of : Option ℤ → List Change → Name → Option ℤ
last_of z [] n = z
last_of z (c ∷ cs) n = last_of (cond (eq-value.it c.name n) c.number z) cs n

pub nothing_left : (z : Option ℤ) (cs : List Change) (n : Name) (i : ℕ) → length cs ≤ i → z ≡ last_of z (drop i cs) n
nothing_left z cs n i end = ap (λ t. last_of z t n) (sym (drop_all i cs end))

pub name_of_key : (s : ℕ) (p : Path) (n : Name) → (key_of s p n).name ≡ n
name_of_key s (Object o) n = refl
name_of_key s (Instance o i) n = refl
name_of_key s (Resource o i r) n = refl
name_of_key s (Part o i r q) n = refl

same_name : (a b : Name) → eq-value.it a b ≡ true → a ≡ b
same_name a b h = same_true the_type (search rules) a b h

own_name : (n : Name) → eq-value.it n n ≡ true
own_name Pmin = refl
own_name Pmax = refl
own_name Gt = refl
own_name Lt = refl
own_name St = refl

-- the keys of two names on one path are told apart as the names are
key_test : (s : ℕ) (p : Path) (a b : Name) → eq_by_cmp key_cmp (key_of s p a) (key_of s p b) ≡ eq-value.it b a
key_test s p a b =
    elim (eq-value.it b a) as (λ t. eq-value.it b a ≡ t → eq_by_cmp key_cmp (key_of s p a) (key_of s p b) ≡ t) [
      | true ↦ λ h. ap (λ n. eq_by_cmp key_cmp (key_of s p a) (key_of s p n)) (same_name b a h)
          ∙ (eq_by_cmp_equiv key_total).refl (key_of s p a)
      | false ↦ λ h. false_from_ne_true _ (λ k.
          let keys = key_exact (key_of s p a) (key_of s p b) ((Equal-is _).0 k) in
          let names = sym (name_of_key s p a) ∙ ap (λ q. q.name) keys ∙ name_of_key s p b in
          false≢true (sym h ∙ ap (λ n. eq-value.it n a) (sym names) ∙ own_name a))
    ] refl

-- what there is at a key after one key was set or unset
get_with : (m : Numbers) (j : AttributeKey) (z : Option ℤ) (k : AttributeKey)
    → map.get (with_number m j z) k ≡ cond (eq_by_cmp key_cmp k j) z (map.get m k)
get_with m j None k = map.get-remove key_total m j k
get_with m j (Some z) k = map.get-insert key_total m j z k

changed_number : (m : Numbers) (s : ℕ) (p : Path) (c : Name) (z : Option ℤ) (n : Name)
    → assigned_number (with_number m (key_of s p c) z) s p n ≡ cond (eq-value.it c n) z (assigned_number m s p n)
changed_number m s p c z n =
    get_with m (key_of s p c) z (key_of s p n) ∙ ap (λ b. cond b z (assigned_number m s p n)) (key_test s p n c)

-- the number after some changes is that of the last of its name
pub after_written : (m : Numbers) (s : ℕ) (p : Path) (cs : List Change) (n : Name)
    → assigned_number (with_changes m s p cs) s p n ≡ last_of (assigned_number m s p n) cs n
after_written m s p [] n = refl
after_written m s p (c ∷ cs) n =
    after_written (with_number m (key_of s p c.name) c.number) s p cs n
    ∙ ap (λ z. last_of z cs n) (changed_number m s p c.name c.number n)

-- entries that make no map are none
pub none_left : (es : List (AttributeKey × ℤ)) → map.from_entries {R = key_cmp} es ≡ map.empty → es ≡ []
none_left [] h = refl
none_left (e ∷ es) h =
    let there : map.get (map.from_entries {R = key_cmp} (e ∷ es)) e.0 ≡ Some e.1 =
    map.get-from_entries key_total (e ∷ es) e.0
    ∙ ap (λ b. cond b (Some e.1) (map.find key_cmp e.0 es)) ((eq_by_cmp_equiv key_total).refl e.0)
    in
    let gone : Some e.1 ≡ None = sym there ∙ ap (λ m. map.get m e.0) h ∙ map.get-empty key_cmp e.0 in
    cc

-- ---- other keys

differs : (j k : AttributeKey) → k ≢ j → eq_by_cmp key_cmp k j ≡ false
differs j k other = false_from_ne_true _ (λ e. other (key_exact k j ((Equal-is _).0 e)))

kept_at : (m : Numbers) (j : AttributeKey) (z : Option ℤ) (k : AttributeKey) → k ≢ j
    → map.get (with_number m j z) k ≡ map.get m k
kept_at m j z k other = get_with m j z k ∙ ap (λ b. cond b z (map.get m k)) (differs j k other)

pub others_kept : (m : Numbers) (s : ℕ) (p : Path) (cs : List Change) (k : AttributeKey)
    → ((n : Name) → k ≢ key_of s p n) → map.get (with_changes m s p cs) k ≡ map.get m k
others_kept m s p [] k other = refl
others_kept m s p (c ∷ cs) k other =
    others_kept (with_number m (key_of s p c.name) c.number) s p cs k other
    ∙ kept_at m (key_of s p c.name) c.number k (other c.name)

-- ---- changes in place

same_key : (q k : AttributeKey) → eq_by_cmp key_cmp q k ≡ true → q ≡ k
same_key q k tie = key_exact q k ((Equal-is _).0 tie)

-- the keys of two names on one path
apart_keys : (s : ℕ) (p : Path) (n a : Name) → (rank a == rank n) ≡ false → key_of s p n ≢ key_of s p a
apart_keys s p n a h = λ e.
    let names : n ≡ a = sym (name_of_key s p n) ∙ ap (λ q. q.name) e ∙ name_of_key s p a in
    true≢false (sym (eq-eqb (rank a) (rank n) (ap rank (sym names))) ∙ h)

-- a number that was new is unset again
out_again : (b : Bool) (z o : Option ℤ) → (b ≡ true → o ≡ None) → cond b None (cond b z o) ≡ o
out_again true z o h = sym (h refl)
out_again false z o h = refl

pub undone : (m n : Numbers) (k : AttributeKey) (z : Option ℤ) → map.get m k ≡ None → n ≡ with_number m k z
    → map.remove n k ≡ m
undone m n k z none put = same_map key_total key_exact _ _ (λ q.
    get_with n k None q
    ∙ ap (cond (eq_by_cmp key_cmp q k) None) (ap (λ x. map.get x q) put ∙ get_with m k z q)
    ∙ out_again (eq_by_cmp key_cmp q k) z (map.get m q) (λ tie. ap (map.get m) (same_key q k tie) ∙ none))

-- two keys are set in either order
either_first : (b c : Bool) (x y z : Option ℤ) → (b ≡ true → c ≡ true → ⊥)
    → cond b z (cond c y x) ≡ cond c y (cond b z x)
either_first true true x y z h = absurd (h refl refl)
either_first true false x y z h = refl
either_first false true x y z h = refl
either_first false false x y z h = refl

turned : (m : Numbers) (j k : AttributeKey) (y z : Option ℤ) → k ≢ j
    → with_number (with_number m j y) k z ≡ with_number (with_number m k z) j y
turned m j k y z other = same_map key_total key_exact _ _ (λ q.
    get_with (with_number m j y) k z q ∙ ap (cond (eq_by_cmp key_cmp q k) z) (get_with m j y q)
    ∙ either_first (eq_by_cmp key_cmp q k) (eq_by_cmp key_cmp q j) (map.get m q) y z
    (λ a b. other (sym (same_key q k a) ∙ same_key q j b))
    ∙ sym (get_with (with_number m k z) j y q ∙ ap (cond (eq_by_cmp key_cmp q j) y) (get_with m k z q)))

-- a change of a name comes before or after changes of others
set_later : (m : Numbers) (s : ℕ) (p : Path) (n : Name) (z : Option ℤ) (cs : List Change)
    → list_any (is_of n) cs ≡ false
    → with_number (with_changes m s p cs) (key_of s p n) z ≡ with_changes (with_number m (key_of s p n) z) s p cs
set_later m s p n z [] none = refl
set_later m s p n z (c ∷ cs) none =
    let parts = or_parts (is_of n c) (list_any (is_of n) cs) none in
    set_later (with_number m (key_of s p c.name) c.number) s p n z cs parts.1
    ∙ ap (λ x. with_changes x s p cs)
    (turned m (key_of s p c.name) (key_of s p n) c.number z (apart_keys s p n c.name parts.0))

number_kept : (m : Numbers) (s : ℕ) (p : Path) (n : Name) (cs : List Change) → list_any (is_of n) cs ≡ false
    → map.get (with_changes m s p cs) (key_of s p n) ≡ map.get m (key_of s p n)
number_kept m s p n [] none = refl
number_kept m s p n (c ∷ cs) none =
    let parts = or_parts (is_of n c) (list_any (is_of n) cs) none in
    number_kept (with_number m (key_of s p c.name) c.number) s p n cs parts.1
    ∙ kept_at m (key_of s p c.name) c.number (key_of s p n) (apart_keys s p n c.name parts.0)

-- the first of some changes is made before the later ones
pub made_first : (m n r : Numbers) (s : ℕ) (p : Path) (c : Change) (cs all : List Change) (k : AttributeKey)
    → all ≡ c ∷ cs → k ≡ key_of s p c.name → n ≡ with_number m k c.number → r ≡ with_changes n s p cs
    → r ≡ with_changes m s p all
made_first m n r s p c cs all k list key one rest =
    rest ∙ ap (λ x. with_changes x s p cs) (one ∙ ap (λ j. with_number m j c.number) key)
    ∙ sym (ap (with_changes m s p) list)

-- or after them
module _ (m n r : Numbers) (s : ℕ) (p : Path) (c : Change) (cs all : List Change) (k : AttributeKey)
    (list : all ≡ c ∷ cs) (distinct : AreOfDistinctNames all) (key : k ≡ key_of s p c.name) (same : n ≡ m)
    (rest : r ≡ with_changes n s p cs) where
  others : list_any (is_of c.name) cs ≡ false
  others = (subst AreOfDistinctNames list distinct).0

  changed : r ≡ with_changes m s p cs
  changed = rest ∙ ap (λ x. with_changes x s p cs) same

  pub made_last : (t : Numbers) → t ≡ with_number r k c.number → t ≡ with_changes m s p all
  made_last t one =
      one ∙ (λ j. with_number (changed j) (key j) c.number) ∙ set_later m s p c.name c.number cs others
      ∙ sym (ap (with_changes m s p) list)

  pub still_there : (IsSome c.number → IsSome (map.get m k)) → IsSome c.number → IsSome (map.get r k)
  still_there there some =
      subst (λ (o : Option ℤ). IsSome o) (sym ((λ j. map.get (changed j) (key j))
      ∙ number_kept m s p c.name cs others ∙ sym (ap (map.get m) key))) (there some)

-- ---- one change for each name

one_more : (b a : Bool) (x y z : Option ℤ) → (b ≡ true → y ≡ x) → cond a x (cond b y z) ≡ cond (b || a) x z
one_more true true x y z h = refl
one_more true false x y z h = h refl
one_more false true x y z h = refl
one_more false false x y z h = refl

-- what there is at a key after some names have come to their numbers in another map
reached : (m t : Numbers) (s : ℕ) (p : Path) (ns : List Name) (q : AttributeKey)
    → map.get (with_changes m s p (changes_as_in t s p ns)) q
    ≡ cond (list_any (λ n. eq_by_cmp key_cmp q (key_of s p n)) ns) (map.get t q) (map.get m q)
reached m t s p [] q = refl
reached m t s p (n ∷ ns) q =
    let before = list_any (λ a. eq_by_cmp key_cmp q (key_of s p a)) ns in
    reached (with_number m (key_of s p n) (map.get t (key_of s p n))) t s p ns q
    ∙ ap (cond before (map.get t q)) (get_with m (key_of s p n) (map.get t (key_of s p n)) q)
    ∙ one_more (eq_by_cmp key_cmp q (key_of s p n)) before (map.get t q) (map.get t (key_of s p n)) (map.get m q)
    (λ tie. ap (map.get t) (sym (same_key q (key_of s p n) tie)))

each_name : (test : Name → Bool) → list_any test all_names ≡ false → (n : Name) → test n ≡ false
each_name test h Pmin = (or_parts (test Pmin) _ h).0
each_name test h Pmax = (or_parts (test Pmax) _ (or_parts (test Pmin) _ h).1).0
each_name test h Gt = (or_parts (test Gt) _ (or_parts (test Pmax) _ (or_parts (test Pmin) _ h).1).1).0
each_name test h Lt =
    (or_parts (test Lt) _ (or_parts (test Gt) _ (or_parts (test Pmax) _ (or_parts (test Pmin) _ h).1).1).1).0
each_name test h St =
    (or_parts (test St) _ (or_parts (test Lt) _ (or_parts (test Gt) _
    (or_parts (test Pmax) _ (or_parts (test Pmin) _ h).1).1).1).1).0

no_key_of : (s : ℕ) (p : Path) (q : AttributeKey)
    → list_any (λ n. eq_by_cmp key_cmp q (key_of s p n)) all_names ≡ false → (n : Name) → q ≢ key_of s p n
no_key_of s p q none n = λ e.
    true≢false (sym (ap (eq_by_cmp key_cmp q) (sym e) ∙ (eq_by_cmp_equiv key_total).refl q)
    ∙ each_name (λ a. eq_by_cmp key_cmp q (key_of s p a)) none n)

-- changes, one after another, come to what the changes of the five names to the numbers after them come to
pub by_name : (m : Numbers) (s : ℕ) (p : Path) (cs : List Change)
    → with_changes m s p (changes_as_in (with_changes m s p cs) s p all_names) ≡ with_changes m s p cs
by_name m s p cs = same_map key_total key_exact _ _ (λ q.
    let t = with_changes m s p cs in
    let any = list_any (λ n. eq_by_cmp key_cmp q (key_of s p n)) all_names in
    reached m t s p all_names q
    ∙ cond_both any (map.get t q) (map.get m q) (λ o. o ≡ map.get t q) (λ _. refl)
    (λ none. sym (others_kept m s p cs q (no_key_of s p q none))))

pub distinct_names : (m : Numbers) (s : ℕ) (p : Path) → AreOfDistinctNames (changes_as_in m s p all_names)
distinct_names m s p = (refl, (refl, (refl, (refl, (refl, tt)))))

-- ---- attributes that had no number

left_false : (a b : Bool) → (a && b) ≡ false → b ≡ true → a ≡ false
left_false true true h k = h
left_false true false h k = cc
left_false false b h k = refl

-- a change that is made first, or one of those after it
module _ (m n : Numbers) (s : ℕ) (p : Path) (c : Change) (cs all : List Change) (k : AttributeKey)
    (list : all ≡ c ∷ cs) where
  pub first_is_new : k ≡ key_of s p c.name → IsSome c.number → map.get m k ≡ None
      → list_any (sets_new m s p) all ≡ true
  first_is_new key some none =
      ap (list_any (sets_new m s p)) list
      ∙ ap (λ b. b || list_any (sets_new m s p) cs)
      (and_from _ _ some (ap is_none (ap (map.get m) (sym key) ∙ none)))

  pub later_is_new : n ≡ m → list_any (sets_new n s p) cs ≡ true → list_any (sets_new m s p) all ≡ true
  later_is_new same new =
      ap (list_any (sets_new m s p)) list
      ∙ or_right (sets_new m s p c) _ (ap (λ x. list_any (sets_new x s p) cs) (sym same) ∙ new)

still_none : (b : Bool) (y z : Option ℤ) → (b ≡ true → is_some y ≡ false) → is_some z ≡ false
    → is_some (cond b y z) ≡ false
still_none true y z h k = h refl
still_none false y z h k = k

-- an attribute has no number after changes of which none sets a new one, where it had none
none_after : (m : Numbers) (s : ℕ) (p : Path) (n : Name) → assigned_number m s p n ≡ None
    → (z : Option ℤ) (cs : List Change) → list_any (sets_new m s p) cs ≡ false → is_some z ≡ false
    → is_some (last_of z cs n) ≡ false
none_after m s p n none z [] old unset = unset
none_after m s p n none z (c ∷ cs) old unset =
    let parts = or_parts (sets_new m s p c) (list_any (sets_new m s p) cs) old in
    none_after m s p n none (cond (eq-value.it c.name n) c.number z) cs parts.1
    (still_none (eq-value.it c.name n) c.number z
    (λ named. left_false _ _ parts.0 (ap is_none (ap (assigned_number m s p) (same_name c.name n named) ∙ none))) unset)

not_new : (o z : Option ℤ) → (o ≡ None → is_some z ≡ false) → (is_some z && is_none o) ≡ false
not_new None None h = refl
not_new None (Some y) h = h refl
not_new (Some x) None h = refl
not_new (Some x) (Some y) h = refl

none_of_all : (f : Change → Bool) (g : Name → Change) → ((n : Name) → f (g n) ≡ false) → (ns : List Name)
    → list_any f (map_list g ns) ≡ false
none_of_all f g h [] = refl
none_of_all f g h (n ∷ ns) = ap (λ b. b || list_any f (map_list g ns)) (h n) ∙ none_of_all f g h ns

-- where the change of a name to the number that it comes to is new, one of the changes is
pub new_by_name : (m : Numbers) (s : ℕ) (p : Path) (cs : List Change)
    → list_any (sets_new m s p) (changes_as_in (with_changes m s p cs) s p all_names) ≡ true
    → list_any (sets_new m s p) cs ≡ true
new_by_name m s p cs new =
    true_from_ne_false _ (λ old. true≢false (sym new
    ∙ none_of_all (sets_new m s p) (change_as_in (with_changes m s p cs) s p)
    (λ n. not_new (assigned_number m s p n) (assigned_number (with_changes m s p cs) s p n)
    (λ none. ap is_some (after_written m s p cs n)
    ∙ none_after m s p n none (assigned_number m s p n) cs old (ap is_some none))) all_names))
