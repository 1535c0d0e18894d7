-- What a Write-Attributes changes.
use Rattle.std.proofs.Common.{◌≡◌, ℕ, ℤ, Bool, true, false, cond, not, ◌==◌, List, [], ◌∷◌, Option, None, Some}
use Rattle.std.proofs.Common.{Result, Ok, Err, refl, sym, ap, ◌∙◌}
use Rattle.std.specs.Bool.{if◌then◌else◌}
use Rattle.std.specs.Cmp.{eq_by_cmp_equiv, Equal-is}
use Rattle.std.specs.FinMap as map
use Rattle.std.specs.Option.{is_some, option_and_then}
use Rattle.std.specs.Ordering.{eq_by_cmp}
use Rattle.std.proofs.lemmas.Bool.{eq-eqb, eqb-true, false≢true, false_from_ne_true}
use Rattle.object_defs.specs.declared.path.Path.{Path}
use Rattle.notifier.specs.declared.attribute.AttributeKey.{AttributeKey}
use Rattle.notifier.specs.declared.attribute.Change.{Change}
use Rattle.notifier.specs.declared.attribute.Name.{Name}
use Rattle.notifier.specs.declared.fault.QueryFault.{QueryFault}
use Rattle.notifier.specs.Attributes.{Numbers, assigned_number, is_consistent, key_cmp, key_of, name_at, name_at-rank}
use Rattle.notifier.specs.Attributes.{rank, with_changes, with_number}
use Rattle.notifier.specs.Query.{changes_of}
use Rattle.notifier.proofs.Keys.{key_exact, key_total}
use Rattle.notifier.proofs.AttributeLaws.{name_of_key, others_kept}
use Rattle.device_requests.specs.declared.ruling.Ruling.{Ruling}
use Rattle.device_requests.specs.Laws.{is_refusal}
use Rattle.device_requests.specs.Outcomes.{attributes_outcome}
use Rattle.device_requests.specs.Refusals.{refusals_of, to_write_attributes}
use Rattle.device_requests.specs.WriteAttributes.{new_numbers, annotate_unless, attributes_given, changes_or_none}
use Rattle.device_requests.specs.WriteAttributes.{level_at}
use Rattle.laws_requests.specs.Annotations.{AttributesAreSet, changed_by}
use Rattle.laws_requests.proofs.Asking.{fails, passes}

-- the keys of two names on one path are told apart as the names are
name_test : (s : ℕ) (p : Path) (c n : Name) → eq_by_cmp key_cmp (key_of s p n) (key_of s p c) ≡ (rank c == rank n)
name_test s p c n =
    elim (rank c == rank n) as (λ t. (rank c == rank n) ≡ t → eq_by_cmp key_cmp (key_of s p n) (key_of s p c) ≡ t) [
      | true ↦ λ h. ap (λ (x : Name). eq_by_cmp key_cmp (key_of s p n) (key_of s p x))
          (sym (name_at-rank c) ∙ ap name_at (eqb-true (rank c) (rank n) h) ∙ name_at-rank n)
          ∙ (eq_by_cmp_equiv key_total).refl (key_of s p n)
      | false ↦ λ h. false_from_ne_true _ (λ k.
          let keys = key_exact (key_of s p n) (key_of s p c) ((Equal-is _).0 k) in
          let names = sym (name_of_key s p n) ∙ ap (λ (q : AttributeKey). q.name) keys ∙ name_of_key s p c in
          false≢true (sym h ∙ ap (λ (x : Name). rank c == rank x) names ∙ eq-eqb (rank c) (rank c) refl))
    ] refl

changed_at : (m : Numbers) (s : ℕ) (p : Path) (c : Name) (z : Option ℤ) (n : Name)
    → assigned_number (with_number m (key_of s p c) z) s p n ≡ (if rank c == rank n then z else assigned_number m s p n)
changed_at m s p c None n =
    map.get-remove key_total m (key_of s p c) (key_of s p n)
    ∙ ap (λ (b : Bool). cond b None (assigned_number m s p n)) (name_test s p c n)
changed_at m s p c (Some z) n =
    map.get-insert key_total m (key_of s p c) z (key_of s p n)
    ∙ ap (λ (b : Bool). cond b (Some z) (assigned_number m s p n)) (name_test s p c n)

own_changed : (m : Numbers) (s : ℕ) (p : Path) (cs : List Change) (n : Name)
    → assigned_number (with_changes m s p cs) s p n ≡ changed_by cs n (assigned_number m s p n)
own_changed m s p [] n = refl
own_changed m s p (c ∷ cs) n =
    own_changed (with_number m (key_of s p c.name) c.number) s p cs n
    ∙ ap (λ (z : Option ℤ). changed_by cs n z) (changed_at m s p c.name c.number n)

-- ---- the request

agreed_by : (b : Bool) (w : Numbers) → not (is_some (if b then Some w else None)) ≡ false
    → (if b then Some w else None) ≡ Some w
agreed_by true w h = refl
agreed_by false w h = cc

spelled_by : (m : Numbers) (s : ℕ) (p : Path) (r : Result (List Change) QueryFault)
    → not (is_some (option_and_then (new_numbers m s p) (changes_or_none r))) ≡ false
    → (cs : List Change) × (r ≡ Ok cs)
    × (option_and_then (new_numbers m s p) (changes_or_none r) ≡ Some (with_changes m s p cs))
spelled_by m s p (Err e) h = cc
spelled_by m s p (Ok cs) h = (cs, refl, agreed_by (is_consistent (with_changes m s p cs) s p) (with_changes m s p cs) h)

pub attributes_set : AttributesAreSet
attributes_set client server path queries h =
    let given = attributes_given client server path queries in
    let rules = refusals_of client server path (to_write_attributes queries) in
    let none = passes rules (refl, (refl, (refl, (refl, (refl, (refl, (refl, (refl, tt))))))))
    (λ (ruling : Option Ruling). annotate_unless ruling client given)
    (λ c. refl) (ap is_refusal h) in
    let all = fails rules none in
    let cs = spelled_by client.attributes server path (changes_of [] (level_at client.catalog path) queries)
    all.1.1.1.1.1.0 in
    let is : (attributes_outcome client server path queries).client.attributes
    ≡ with_changes client.attributes server path cs.0 =
    ap (λ (ruling : Option Ruling). (annotate_unless ruling client given).client.attributes) none
    ∙ ap (λ (g : Option Numbers). (annotate_unless None client g).client.attributes) cs.2 in
    record {
      changes = cs.0;
      spells = cs.1;
      own = λ n. ap (λ (m : Numbers). assigned_number m server path n) is
          ∙ own_changed client.attributes server path cs.0 n;
      others = λ k other. ap (λ (m : Numbers). map.get m k) is
          ∙ others_kept client.attributes server path cs.0 k other;
    }
