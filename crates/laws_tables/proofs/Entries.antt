-- Which server has which rights, by the values of Access Control.
use Rattle.std.proofs.Common.{◌≡◌, ◌≢◌, ◌⊎◌, inl, inr, ℕ, ◌≤◌, ℤ, pos, negsuc, ◌==◌, not, ◌&&◌, Bool, true, false}
use Rattle.std.proofs.Common.{List, [], ◌∷◌, Option, None, Some, refl, sym, ap, subst, ◌∙◌, eq-eqb, ne_eqb}
use Rattle.std.proofs.lemmas.Bool.{and_from, and_parts, cases_eq, eqb-true, lt-leb, le-leb}
use Rattle.std.specs.List.{find}
use Rattle.std.specs.Prelude.{nat_le, if◌then◌else◌, map, filter}
use Rattle.std.specs.FinMap as finite
use Rattle.lwm2m_values.specs.Value.{is_integer}
use Rattle.lwm2m_values.specs.declared.value.Value.{Value}
use Rattle.lwm2m_values.specs.declared.value.Value.TheVariants.{Text, Whole, Flag, Opaque, Moment, Link}
use Rattle.object_defs.specs.declared.path.FullPath.{FullPath}
use Rattle.instance_store.specs.Stored.{Stored, instances_of, value_at}
use Rattle.access_control.specs.Laws.{IsLowest, is_there}
use Rattle.access_control.specs.Rights.{control_of, entry_of, every_right, integer_in, names}
use Rattle.access_control.specs.Rights.{owns, read_alone, read_and_write, right_by, right_by_default, right_by_entry}
use Rattle.access_control.specs.Rights.{right_of, right_on_control, speaks_of}
use Rattle.access_control.specs.declared.letters.Rights.{Rights}
use Rattle.access_control.proofs.Lowest.{lowest_decides, none_decides}
use Rattle.laws_tables.specs.Entries.{control_path, Decides, DiffersAt, GrantsTo, HasEntry, HasRights, IsOwner}
use Rattle.laws_tables.specs.Entries.{RefersTo}

-- ---- values that are Integers

holds : (n : ℕ) (v : Option Value) → is_integer n (integer_in v) ≡ true → v ≡ Some (Whole (pos n))
holds n None h = cc
holds n (Some (Text t)) h = cc
holds n (Some (Whole (pos m))) h = ap (λ k. Some (Whole (pos k))) (eqb-true m n h)
holds n (Some (Whole (negsuc m))) h = cc
holds n (Some (Flag b)) h = cc
holds n (Some (Opaque b)) h = cc
holds n (Some (Moment z)) h = cc
holds n (Some (Link o i)) h = cc

held : (n : ℕ) (v : Option Value) → v ≡ Some (Whole (pos n)) → is_integer n (integer_in v) ≡ true
held n v h = ap (λ x. is_integer n (integer_in x)) h ∙ eq-eqb n n refl

entry_holds : (z : ℤ) (v : Option Value) → integer_in v ≡ Some z → v ≡ Some (Whole z)
entry_holds z None h = cc
entry_holds z (Some (Text t)) h = cc
entry_holds z (Some (Whole y)) h = ap (λ o. integer_back o) h
  where
    integer_back : Option ℤ → Option Value
    integer_back None = None
    integer_back (Some x) = Some (Whole x)
entry_holds z (Some (Flag b)) h = cc
entry_holds z (Some (Opaque b)) h = cc
entry_holds z (Some (Moment y)) h = cc
entry_holds z (Some (Link o i)) h = cc

no_entry : (stored : Stored) (j server : ℕ) (r : Option ℤ) → entry_of stored j server ≡ r
    → ¬ (HasEntry stored j server) → r ≡ None
no_entry stored j server None e h = refl
no_entry stored j server (Some z) e h =
    absurd (h (z, entry_holds z (value_at stored (control_path j 2 (Some server))) e))

not_owner : (stored : Stored) (j server : ℕ) (b : Bool) → owns stored j server ≡ b → ¬ (IsOwner stored j server)
    → b ≡ false
not_owner stored j server false e h = refl
not_owner stored j server true e h = absurd (h (holds server (value_at stored (control_path j 3 None)) e))

-- ---- which instance decides

refers : (stored : Stored) (object instance j : ℕ) → is_there stored j ≡ true
    → speaks_of stored j object instance ≡ true → RefersTo stored object instance j
refers stored object instance j there h =
    let p = and_parts (names stored j 0 object) (names stored j 1 instance) h in
    record {
      there = there;
      object_id = holds object (value_at stored (control_path j 0 None)) p.0;
      instance_id = holds instance (value_at stored (control_path j 1 None)) p.1;
    }

speaks : (stored : Stored) (object instance j : ℕ) → RefersTo stored object instance j
    → speaks_of stored j object instance ≡ true
speaks stored object instance j r =
    and_from (names stored j 0 object) (names stored j 1 instance)
    (held object (value_at stored (control_path j 0 None)) r.object_id)
    (held instance (value_at stored (control_path j 1 None)) r.instance_id)

silent : (stored : Stored) (object instance k : ℕ) (b : Bool) → is_there stored k ≡ true
    → speaks_of stored k object instance ≡ b → ¬ (RefersTo stored object instance k) → b ≡ false
silent stored object instance k false there e h = refl
silent stored object instance k true there e h = absurd (h (refers stored object instance k there e))

found : (stored : Stored) (object instance j : ℕ) → Decides stored object instance j
    → control_of stored object instance ≡ Some j
found stored object instance j d =
    let lowest : IsLowest stored object instance j = record {
      there = d.refers.there;
      speaks = speaks stored object instance j d.refers;
      lowest = λ k l there. silent stored object instance k _ there refl (d.lowest k l);
    } in
    (lowest_decides stored object instance j).1 lowest

missing : (stored : Stored) (object instance : ℕ) → ((j : ℕ) → ¬ (RefersTo stored object instance j))
    → control_of stored object instance ≡ None
missing stored object instance h =
    (none_decides stored object instance).1 (λ k there. silent stored object instance k _ there refl (h k))

-- ---- rights

grants : (stored : Stored) (j server : ℕ) → GrantsTo stored j server (right_by stored server (Some j))
grants stored j server =
    record {
      own = λ z says. ap (right_by_entry stored j server) (ap integer_in says);
      owner = λ none is. without none ∙ ap (λ b. if b then every_right else right_by_default (entry_of stored j 0))
          (held server (value_at stored (control_path j 3 None)) is);
      others = λ z none not says. without none ∙ unowned not ∙ ap right_by_default (ap integer_in says);
      none = λ none not last. without none ∙ unowned not ∙ ap right_by_default (no_entry stored j 0 _ refl last);
    }
  where
    without : ¬ (HasEntry stored j server) → right_by stored server (Some j)
        ≡ (if owns stored j server then every_right else right_by_default (entry_of stored j 0))
    without none = ap (right_by_entry stored j server) (no_entry stored j server _ refl none)

    unowned : ¬ (IsOwner stored j server)
        → (if owns stored j server then every_right else right_by_default (entry_of stored j 0))
        ≡ right_by_default (entry_of stored j 0)
    unowned not =
        ap (λ b. if b then every_right else right_by_default (entry_of stored j 0))
        (not_owner stored j server _ refl not)

-- with two accounts or more
abbrev beside : Stored → ℕ → ℕ → ℕ → Bool → Rights
beside stored server object instance control =
    if control then right_on_control stored server instance
    else right_by stored server (control_of stored object instance)

several : (stored : Stored) (accounts server object instance : ℕ) → 2 ≤ accounts
    → right_of stored accounts server object instance ≡ beside stored server object instance (object == 2)
several stored accounts server object instance h =
    ap (λ b. if b then every_right else beside stored server object instance (object == 2)) (lt-leb accounts 1 h)

on_control : (stored : Stored) (accounts server object instance : ℕ) → 2 ≤ accounts → object ≡ 2
    → right_of stored accounts server object instance ≡ right_on_control stored server instance
on_control stored accounts server object instance h e =
    several stored accounts server object instance h
    ∙ ap (beside stored server object instance) (eq-eqb object 2 e)

on_other : (stored : Stored) (accounts server object instance : ℕ) → 2 ≤ accounts → object ≢ 2
    → right_of stored accounts server object instance ≡ right_by stored server (control_of stored object instance)
on_other stored accounts server object instance h e =
    several stored accounts server object instance h
    ∙ ap (beside stored server object instance) (ne_eqb object 2 e)

pub rights_granted : (stored : Stored) (accounts server object instance : ℕ)
    → HasRights stored accounts server object instance (right_of stored accounts server object instance)
rights_granted stored accounts server object instance =
    record {
      alone = λ h. ap (λ b. if b then every_right else beside stored server object instance (object == 2))
          (le-leb accounts 1 h);
      owned = λ h e is. on_control stored accounts server object instance h e
          ∙ ap (λ b. if b then read_and_write else read_alone)
          (held server (value_at stored (control_path instance 3 None)) is);
      not_owned = λ h e not. on_control stored accounts server object instance h e
          ∙ ap (λ b. if b then read_and_write else read_alone) (not_owner stored instance server _ refl not);
      decided = λ j h e d. subst (GrantsTo stored j server)
          (sym (on_other stored accounts server object instance h e
          ∙ ap (right_by stored server) (found stored object instance j d))) (grants stored j server);
      undecided = λ h e none. on_other stored accounts server object instance h e
          ∙ ap (right_by stored server) (missing stored object instance none);
    }

-- ---- stores that differ in one entry

find_same : (p q : ℕ → Bool) → ((n : ℕ) → p n ≡ q n) → (ns : List ℕ) → find p ns ≡ find q ns
find_same p q h [] = refl
find_same p q h (n ∷ ns) =
    ap (λ b. if b then Some n else find p ns) (h n) ∙ ap (λ r. if q n then Some n else r) (find_same p q h ns)

module _ (old new : Stored) (j t : ℕ) (d : DiffersAt old new (control_path j 2 (Some t))) where
  single : (k resource : ℕ) → value_at new (control_path k resource None) ≡ value_at old (control_path k resource None)
  single k resource = d.others (control_path k resource None) (λ e. apart (ap (λ (p : FullPath). p.part) e))
    where
      apart : None ≡ Some t → ⊥
      apart h = cc

  part : (k server : ℕ) → server ≢ t
      → value_at new (control_path k 2 (Some server)) ≡ value_at old (control_path k 2 (Some server))
  part k server h = d.others (control_path k 2 (Some server)) (λ e. h (number (ap (λ (p : FullPath). p.part) e)))
    where
      number : Some server ≡ Some t → server ≡ t
      number h = cc

  part_elsewhere : (k server : ℕ) → k ≢ j
      → value_at new (control_path k 2 (Some server)) ≡ value_at old (control_path k 2 (Some server))
  part_elsewhere k server h =
      d.others (control_path k 2 (Some server)) (λ e. h (ap (λ (p : FullPath). p.instance) e))

  same_names : (k resource n : ℕ) → names new k resource n ≡ names old k resource n
  same_names k resource n = ap (λ v. is_integer n (integer_in v)) (single k resource)

  same_control : (object instance : ℕ) → control_of new object instance ≡ control_of old object instance
  same_control object instance =
      find_same (λ k. speaks_of new k object instance) (λ k. speaks_of old k object instance)
      (λ k. ap (λ b. b && names new k 1 instance) (same_names k 0 object)
      ∙ ap (λ b. names old k 0 object && b) (same_names k 1 instance)) (instances_of new 2)
      ∙ ap (λ m. find (λ k. speaks_of old k object instance)
      (map (λ p. p.instance) (filter (λ p. p.object == 2) (finite.keys m)))) d.instances

  same_by : (server k : ℕ) → entry_of new k server ≡ entry_of old k server → entry_of new k 0 ≡ entry_of old k 0
      → right_by new server (Some k) ≡ right_by old server (Some k)
  same_by server k own rest =
      ap (right_by_entry new k server) own ∙ by_entry (entry_of old k server)
    where
      by_entry : (e : Option ℤ) → right_by_entry new k server e ≡ right_by_entry old k server e
      by_entry (Some z) = refl
      by_entry None =
          ap (λ b. if b then every_right else right_by_default (entry_of new k 0)) (same_names k 3 server)
          ∙ ap (λ e. if owns old k server then every_right else right_by_default e) rest

  same_right : (accounts server object instance : ℕ)
      → ((k : ℕ) → right_by new server (Some k) ≡ right_by old server (Some k))
      → right_of new accounts server object instance ≡ right_of old accounts server object instance
  same_right accounts server object instance h =
      ap (λ r. if nat_le accounts 1 then every_right else (if object == 2 then r
      else right_by new server (control_of new object instance)))
      (ap (λ b. if b then read_and_write else read_alone) (same_names instance 3 server))
      ∙ ap (λ r. if nat_le accounts 1 then every_right else (if object == 2 then right_on_control old server instance
      else r)) (ap (right_by new server) (same_control object instance) ∙ by (control_of old object instance))
    where
      by : (r : Option ℕ) → right_by new server r ≡ right_by old server r
      by None = refl
      by (Some k) = h k

pub entries_for_one : (old new : Stored) (accounts server t object instance j : ℕ) → t ≢ 0 → server ≢ t
    → DiffersAt old new (control_path j 2 (Some t))
    → right_of new accounts server object instance ≡ right_of old accounts server object instance
entries_for_one old new accounts server t object instance j positive other d =
    same_right old new j t d accounts server object instance
    (λ k. same_by old new j t d server k (ap integer_in (part old new j t d k server other))
    (ap integer_in (part old new j t d k 0 (λ e. positive (sym e)))))

-- entry 0 decides nothing where there is an entry, or the owner asks
whole_by : (old new : Stored) (j server : ℕ) → server ≢ 0 → (HasEntry old j server) ⊎ (IsOwner old j server)
    → DiffersAt old new (control_path j 2 (Some 0)) → right_by new server (Some j) ≡ right_by old server (Some j)
whole_by old new j server other (inl p) d =
    let there : entry_of old j server ≡ Some p.0 = ap integer_in p.1 in
    let later : entry_of new j server ≡ Some p.0 = ap integer_in (part old new j 0 d j server other) ∙ there in
    ap (right_by_entry new j server) later ∙ sym (ap (right_by_entry old j server) there)
whole_by old new j server other (inr is) d =
    ap (right_by_entry new j server) (ap integer_in (part old new j 0 d j server other))
    ∙ by_entry (entry_of old j server)
  where
    owned_old : owns old j server ≡ true
    owned_old = held server (value_at old (control_path j 3 None)) is

    by_entry : (e : Option ℤ) → right_by_entry new j server e ≡ right_by_entry old j server e
    by_entry (Some z) = refl
    by_entry None =
        ap (λ b. if b then every_right else right_by_default (entry_of new j 0))
        (same_names old new j 0 d j 3 server ∙ owned_old)
        ∙ sym (ap (λ b. if b then every_right else right_by_default (entry_of old j 0)) owned_old)

pub default_for_rest : (old new : Stored) (accounts server object instance j : ℕ) → server ≢ 0
    → (HasEntry old j server) ⊎ (IsOwner old j server) → DiffersAt old new (control_path j 2 (Some 0))
    → right_of new accounts server object instance ≡ right_of old accounts server object instance
default_for_rest old new accounts server object instance j other has d =
    same_right old new j 0 d accounts server object instance (λ k. at k (cases_eq k j))
  where
    at : (k : ℕ) → (k ≡ j) ⊎ (k ≡ j → ⊥) → right_by new server (Some k) ≡ right_by old server (Some k)
    at k (inl e) =
        subst (λ n. right_by new server (Some n) ≡ right_by old server (Some n)) (sym e)
        (whole_by old new j server other has d)
    at k (inr apart) =
        same_by old new j 0 d server k (ap integer_in (part_elsewhere old new j 0 d k server apart))
        (ap integer_in (part_elsewhere old new j 0 d k 0 apart))
