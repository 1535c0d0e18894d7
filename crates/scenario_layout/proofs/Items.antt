-- An item that is read and added to a class, or not.
use Rattle.std.proofs.Common.{◌≡◌, ℕ, Bool, true, false, ◌&&◌, List, [], ◌∷◌, ◌++◌, Option, None, Some, Ok, Err}
use Rattle.std.proofs.Common.{option_map, refl, sym, ap, subst, ◌∙◌, append_assoc}
use Rattle.std.specs.Prelude.{not, nat_lt, nat_le, length, is_some}
use Rattle.std.specs.List.{list_all}
use Rattle.std.specs.Ordering.{is_lt}
use Rattle.std.specs.Int.{w16}
use Rattle.std.proofs.lemmas.Bool.{eqb-true, le-leb}
use Rattle.byte_layout.specs.declared.fault.Break.TheVariants.{BadField}
use Rattle.byte_layout.specs.declared.fault.ReadError.{ReadError}
use Rattle.byte_layout.specs.declared.fault.ReadError.TheVariants as errors
use Rattle.byte_layout.specs.Layout.{Layout, number, layout_with_test}
use Rattle.byte_layout.specs.Exact.{IsBytes}
use Rattle.byte_layout.specs.Outcome.{Fails}
use Rattle.lwm2m_values.specs.declared.kind.ValueKind.{ValueKind}
use Rattle.lwm2m_values.specs.declared.kind.ValueKind.TheVariants as kinds
use Rattle.lwm2m_values.specs.declared.value.Value.{Value}
use Rattle.lwm2m_values.specs.declared.value.Value.TheVariants as held
use Rattle.lwm2m_values.specs.Value.{kind_of, IsGood}
use Rattle.object_defs.specs.Base.{base}
use Rattle.object_defs.specs.Catalog.{object_of}
use Rattle.object_defs.specs.Lines.{first_line}
use Rattle.object_defs.specs.Path.{path_cmp, instance_cmp}
use Rattle.object_defs.specs.Vendor.{is_vendor, new_object, with_inserted, with_object}
use Rattle.object_defs.specs.declared.fault.CatalogFault.{CatalogFault}
use Rattle.object_defs.specs.declared.fault.CatalogFault.TheVariants as catalog_faults
use Rattle.object_defs.specs.declared.path.FullPath.{FullPath}
use Rattle.object_defs.specs.declared.path.InstancePath.{InstancePath}
use Rattle.object_defs.proofs.PathOrder.{path_total, instance_total}
use Rattle.scenario_layout.specs.Value.{place, path, value, kind_number, kind_numbered, fits}
use Rattle.scenario_layout.proofs.ExactValue.{value_exact}
use Rattle.device_template.specs.Template.{Template, with_catalog, with_store, account_fault, object_fault, fault_of}
use Rattle.device_template.specs.Template.{empty_class, kind_taken, value_fault, value_fault_at, with_account}
use Rattle.device_template.specs.Values.{has_kind, with_value_at}
use Rattle.lwm2m_values.specs.Value.{has_good_length}
use Rattle.device_template.specs.declared.fault.TemplateFault.{TemplateFault}
use Rattle.instance_store.specs.Stored.{with_instance, with_value}
use Rattle.scenario_layout.specs.Growing.{items_with_next, IsLast}
use Rattle.scenario_layout.specs.Class.{objects_in, instances_in, values_in, with_accounts, with_objects}
use Rattle.scenario_layout.specs.Class.{with_instances, with_values, is_taken, account, instance, entry, value_path}
use Rattle.byte_layout.proofs.Layouts.{bytes_behind}
use Rattle.device_template.proofs.OwnKinds.{own_kind}
use Rattle.scenario_layout.proofs.ExactClass.{value_path_exact}
use Rattle.scenario_layout.proofs.Ordered.{inserted_end, last_push}
use Rattle.scenario_layout.proofs.Filling.{passed, failed, taken_none, instance_test, instances_itself, values_itself}

-- ---- accounts

abbrev account_test : List ℕ → ℕ → Bool
account_test before n =
    list_all (λ m. nat_lt m n) before && is_taken (account_fault (with_accounts empty_class before) n)

pub account_low : (before : List ℕ) (bytes : List ℕ) (n : ℕ) (rest : List ℕ) → (number w16).read bytes ≡ Ok (n, rest)
    → list_all (λ m. nat_lt m n) before ≡ false
    → items_with_next before ((account before).read bytes) ≡ Err (BadField (length bytes))
unfolding account
account_low before bytes n rest read low =
    failed (account_test before) (number w16) before bytes n rest read
    (ap (λ b. b && is_taken (account_fault (with_accounts empty_class before) n)) low)

pub account_fits : (before : List ℕ) (u : Template) (bytes : List ℕ) (n : ℕ) (rest : List ℕ)
    → (number w16).read bytes ≡ Ok (n, rest) → list_all (λ m. nat_lt m n) before ≡ true
    → account_fault (with_accounts empty_class before) n ≡ None → u.accounts ≡ with_inserted (λ a. a) n before
    → items_with_next before ((account before).read bytes) ≡ Ok (u.accounts, rest)
unfolding account
account_fits before u bytes n rest read above free more =
    passed (account_test before) (number w16) before bytes n rest read
    (ap (λ b. b && is_taken (account_fault (with_accounts empty_class before) n)) above ∙ taken_none _ free)
    ∙ ap (λ xs. Ok (xs, rest)) (sym (more ∙ inserted_end (λ a. a) n before above))

pub account_made : (c u : Template) (n : ℕ) → u ≡ with_account c n → u ≡ with_accounts c u.accounts
account_made c u n e = e ∙ ap (with_accounts c) (sym (ap (λ k. k.accounts) e))

-- ---- objects

pub object_made : (c u : Template) (id : ℕ) → c ≡ with_objects c (objects_in c)
    → list_all (λ o. nat_lt o.id id) c.catalog ≡ true → u ≡ with_catalog c (with_object c.catalog id)
    → u ≡ with_objects c (objects_in c ++ new_object id ∷ [])
object_made c u id itself above made =
    made
    ∙ ap (with_catalog c)
    (inserted_end (λ o. o.id) (new_object id) c.catalog above
    ∙ ap (λ (k : Template). k.catalog ++ new_object id ∷ []) itself
    ∙ append_assoc base (objects_in c) (new_object id ∷ []))

vendor_line : (b : Bool) (lines : List (Bool × CatalogFault))
    → option_map fault_of (first_line ((not b, catalog_faults.IdRange) ∷ lines)) ≡ None → b ≡ true
vendor_line true lines h = refl
vendor_line false lines h = absurd cc

pub object_vendor : (c : Template) (id : ℕ) → object_fault c id ≡ None → is_vendor id ≡ true
object_vendor c id h =
    vendor_line (is_vendor id) ((
      is_some (object_of c.catalog id),
      catalog_faults.Duplicate,
    ) ∷ (nat_le 16 (length c.catalog), catalog_faults.TooMany) ∷ []) h

-- ---- instances

pub instance_bad : (c : Template) (bytes : List ℕ) (p : InstancePath) (rest : List ℕ) → place.read bytes ≡ Ok (p, rest)
    → instance_test c p ≡ false
    → items_with_next (instances_in c) ((instance c (instances_in c)).read bytes) ≡ Err (BadField (length bytes))
unfolding instance
instance_bad c bytes p rest read bad = failed (instance_test c) place (instances_in c) bytes p rest read bad

pub instance_good : (c u : Template) (bytes : List ℕ) (p : InstancePath) (rest : List ℕ)
    → place.read bytes ≡ Ok (p, rest) → instance_test c p ≡ true → instances_in u ≡ instances_in c ++ p ∷ []
    → items_with_next (instances_in c) ((instance c (instances_in c)).read bytes) ≡ Ok (instances_in u, rest)
unfolding instance
instance_good c u bytes p rest read good more =
    passed (instance_test c) place (instances_in c) bytes p rest read good ∙ ap (λ xs. Ok (xs, rest)) (sym more)

-- ---- values

abbrev path_test : Template → FullPath → Bool
path_test c p = list_all (λ e. is_lt (path_cmp e.0 p)) (values_in c)
    && is_some (kind_taken (with_values c (values_in c)) p)

same_kind : (c : Template) (p : FullPath) → kind_taken (with_values c (values_in c)) p ≡ kind_taken c p
same_kind c p = ap (λ k. kind_taken k p) (sym (values_itself c))

judged_ok : {A : Type 0} (test : A → Bool) (p : Layout A) (bytes : List ℕ) (a : A) (rest : List ℕ)
    → p.read bytes ≡ Ok (a, rest) → test a ≡ true → (layout_with_test BadField test p).read bytes ≡ Ok (a, rest)
judged_ok test p bytes a rest read good = rw (read, good) refl

judged_bad : {A : Type 0} (test : A → Bool) (p : Layout A) (bytes : List ℕ) (a : A) (rest : List ℕ)
    → p.read bytes ≡ Ok (a, rest) → test a ≡ false
    → (layout_with_test BadField test p).read bytes ≡ Err (BadField (length bytes))
judged_bad test p bytes a rest read bad = rw (read, bad) refl

and_false : (b c : Bool) → c ≡ false → (b && c) ≡ false
and_false true c h = h
and_false false c h = refl

pub path_low : (c : Template) (bytes : List ℕ) (p : FullPath) (rest : List ℕ) → path.read bytes ≡ Ok (p, rest)
    → list_all (λ e. is_lt (path_cmp e.0 p)) (values_in c) ≡ false
    → (value_path c (values_in c)).read bytes ≡ Err (BadField (length bytes))
unfolding value_path
path_low c bytes p rest read low =
    judged_bad (path_test c) path bytes p rest read
    (ap (λ b. b && is_some (kind_taken (with_values c (values_in c)) p)) low)

pub path_refused : (c : Template) (bytes : List ℕ) (p : FullPath) (rest : List ℕ) → path.read bytes ≡ Ok (p, rest)
    → kind_taken c p ≡ None → (value_path c (values_in c)).read bytes ≡ Err (BadField (length bytes))
unfolding value_path
path_refused c bytes p rest read none =
    judged_bad (path_test c) path bytes p rest read
    (and_false (list_all (λ e. is_lt (path_cmp e.0 p)) (values_in c)) _ (ap is_some (same_kind c p ∙ none)))

pub path_fits : (c : Template) (bytes : List ℕ) (p : FullPath) (rest : List ℕ) (k : ValueKind)
    → path.read bytes ≡ Ok (p, rest) → list_all (λ e. is_lt (path_cmp e.0 p)) (values_in c) ≡ true
    → kind_taken c p ≡ Some k → (value_path c (values_in c)).read bytes ≡ Ok (p, rest)
unfolding value_path
path_fits c bytes p rest k read above some =
    judged_ok (path_test c) path bytes p rest read
    (ap (λ b. b && is_some (kind_taken (with_values c (values_in c)) p)) above ∙ ap is_some (same_kind c p ∙ some))

pub entry_cut : (c : Template) (bytes : List ℕ) (p : FullPath) (rest : List ℕ) (k : ValueKind) (e : ReadError)
    → (value_path c (values_in c)).read bytes ≡ Ok (p, rest) → kind_taken c p ≡ Some k
    → Fails e ((value (Some k)).read rest)
    → Fails e (items_with_next (values_in c) ((entry c (values_in c)).read bytes))
unfolding entry
entry_cut c bytes p rest k errors.Memory read some cut = tt
entry_cut c bytes p rest k (errors.Fault b) read some cut = rw (read, same_kind c p, some, cut) refl

pub entry_read : (c u : Template) (bytes : List ℕ) (p : FullPath) (rest : List ℕ) (k : ValueKind) (v : Value)
    (after : List ℕ) → (value_path c (values_in c)).read bytes ≡ Ok (p, rest) → kind_taken c p ≡ Some k
    → (value (Some k)).read rest ≡ Ok (v, after)
    → values_in u ≡ values_in c ++ (p, v) ∷ []
    → items_with_next (values_in c) ((entry c (values_in c)).read bytes) ≡ Ok (values_in u, after)
unfolding entry
entry_read c u bytes p rest k v after read some held more = rw (read, same_kind c p, some, held, more) refl

-- a value that was read for a kind is of that kind, and within its limits
pub number_again : (k : ValueKind) → kind_numbered (kind_number k) ≡ k
number_again kinds.Text = refl
number_again kinds.Whole = refl
number_again kinds.Flag = refl
number_again kinds.Opaque = refl
number_again kinds.Moment = refl
number_again kinds.Link = refl

pub is_of_kind : (k : ValueKind) (v : Value) (bytes after : List ℕ) → IsBytes bytes
    → (value (Some k)).read bytes ≡ Ok (v, after) → has_kind v k ≡ true
unfolding value
is_of_kind k v bytes after fits read =
    let good = ((value_exact (Some k)).taken bytes fits v after read).0 in
    let same : kind_number (kind_of v) ≡ kind_number k = eqb-true (kind_number (kind_of v)) (kind_number k) good.0.1 in
    ap (has_kind v) (sym (number_again k) ∙ ap kind_numbered (sym same) ∙ number_again (kind_of v)) ∙ own_kind v

pub within : (v : Value) → IsGood v → has_good_length v ≡ true
within (held.Text t) good = le-leb (length t) 255 good.1
within (held.Whole z) good = refl
within (held.Flag b) good = refl
within (held.Opaque b) good = le-leb (length b) 1024 good.1
within (held.Moment z) good = refl
within (held.Link o i) good = refl

-- ---- what was added is all that is new

pub instance_made : (c u : Template) (p : InstancePath) → u ≡ with_store c (with_instance c.store p)
    → u ≡ with_instances c (instances_in u)
instance_made c u p made =
    subst (λ (k : Template). k ≡ with_instances c (instances_in k)) (sym made)
    (instances_itself (with_store c (with_instance c.store p)))

pub last_in : (c u : Template) (p : InstancePath) → list_all (λ q. is_lt (instance_cmp q p)) (instances_in c) ≡ true
    → instances_in u ≡ instances_in c ++ p ∷ [] → IsLast instance_cmp (λ q. q) (instances_in u) (Some p)
last_in c u p above more =
    subst (λ (xs : List InstancePath). IsLast instance_cmp (λ q. q) xs (Some p)) (sym more)
    (last_push instance_total (λ q. q) (instances_in c) p above)

pub value_made : (c u : Template) (p : FullPath) (v : Value) → u ≡ with_store c (with_value c.store p v)
    → u ≡ with_values c (values_in u)
value_made c u p v made =
    subst (λ (k : Template). k ≡ with_values c (values_in k)) (sym made)
    (values_itself (with_store c (with_value c.store p v)))

pub last_value : (c u : Template) (p : FullPath) (v : Value)
    → list_all (λ e. is_lt (path_cmp e.0 p)) (values_in c) ≡ true → values_in u ≡ values_in c ++ (p, v) ∷ []
    → IsLast path_cmp (λ e. e.0) (values_in u) (Some p)
last_value c u p v above more =
    subst (λ (xs : List (FullPath × Value)). IsLast path_cmp (λ e. e.0) xs (Some p)) (sym more)
    (last_push path_total (λ e. e.0) (values_in c) (p, v) above)

-- ---- a value whose path was judged is not refused

pub value_bytes : (c : Template) (bytes : List ℕ) (p : FullPath) (rest : List ℕ) → IsBytes bytes
    → (value_path c (values_in c)).read bytes ≡ Ok (p, rest) → IsBytes rest
value_bytes c bytes p rest fits read =
    bytes_behind bytes _ rest fits ((value_path_exact c (values_in c)).taken bytes fits p rest read).1

pub not_both : (c : Template) (o : Option FullPath) (p : FullPath) (v : Value) (f : TemplateFault) → o ≡ Some p
    → value_fault_at c p v ≡ None → value_fault c o v ≡ Some f → ⊥
not_both c o p v f is free bad =
    let clash : None ≡ Some f = sym free ∙ ap (λ q. value_fault c q v) (sym is) ∙ bad in
    cc

pub value_stored : (c u : Template) (o : Option FullPath) (p : FullPath) (v : Value) → o ≡ Some p
    → u ≡ with_store c (with_value_at c.store o v) → u ≡ with_store c (with_value c.store p v)
value_stored c u o p v is made = made ∙ ap (λ q. with_store c (with_value_at c.store q v)) is
