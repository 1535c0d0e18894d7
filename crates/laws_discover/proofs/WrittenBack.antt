-- A server that writes back what it is shown of its attributes at a path changes nothing.
use Rattle.std.proofs.Common.{◌≡◌, ℕ, ℤ, Bool, true, false, cond, List, [], ◌∷◌, ◌++◌, map as map_list, Option, None}
use Rattle.std.proofs.Common.{Some, Result, Ok, Err, refl, sym, ap, ◌∙◌}
use Rattle.std.specs.Bool.{if◌then◌else◌}
use Rattle.std.specs.Cmp.{Equal-is}
use Rattle.std.specs.FinMap as map
use Rattle.std.specs.List.{flat_map}
use Rattle.std.specs.Option.{option_and_then}
use Rattle.std.specs.Ordering.{eq_by_cmp}
use Rattle.object_defs.specs.declared.path.Path.{Path}
use Rattle.notifier.specs.declared.attribute.AttributeKey.{AttributeKey}
use Rattle.notifier.specs.declared.attribute.Change.{Change}
use Rattle.notifier.specs.declared.attribute.Name.{Name}
use Rattle.notifier.specs.declared.fault.QueryFault.{QueryFault}
use Rattle.notifier.specs.Attributes.{assigned_number, is_consistent, key_cmp, key_of, Numbers, with_changes}
use Rattle.notifier.specs.Query.{changes_of}
use Rattle.notifier.proofs.Keys.{key_exact, key_total}
use Rattle.device_requests.specs.declared.ruling.Ruling.{Ruling}
use Rattle.device_requests.specs.Client.{Client}
use Rattle.device_requests.specs.Refusals.{refusal_of, to_write_attributes}
use Rattle.device_requests.specs.WriteAttributes.{new_numbers, annotate_unless, attributes_given, level_at}
use Rattle.device_requests.specs.WriteAttributes.{changes_or_none}
use Rattle.laws_discover.specs.Links.{attribute_names, attribute_parameters, query_of, settings, settings_shown}
use Rattle.laws_discover.specs.Links.{WrittenBackIsTheSame}
use Rattle.laws_discover.proofs.LinkQueries.{parameters_are_queries}

inserted_again : (m : Numbers) (k : AttributeKey) (z : ℤ) → map.get m k ≡ Some z → map.insert m k z ≡ m
inserted_again m k z h =
    map.same_map key_total key_exact (map.insert m k z) m
    (λ q. map.get-insert key_total m k z q ∙ by q (eq_by_cmp key_cmp q k) refl)
  where
    by : (q : AttributeKey) (b : Bool) → eq_by_cmp key_cmp q k ≡ b → cond b (Some z) (map.get m q) ≡ map.get m q
    by q true is = sym h ∙ ap (map.get m) (sym (key_exact q k ((Equal-is _).0 is)))
    by q false is = refl

written_again : (m : Numbers) (server : ℕ) (path : Path) (numbers : Name → Option ℤ)
    → ((n : Name) (z : ℤ) → numbers n ≡ Some z → assigned_number m server path n ≡ Some z) → (ns : List Name)
    → with_changes m server path (flat_map (λ n. settings n (numbers n)) ns) ≡ m
written_again m server path numbers same [] = refl
written_again m server path numbers same (n ∷ ns) =
    by (numbers n) (same n) (written_again m server path numbers same ns)
  where
    by : (o : Option ℤ) → ((z : ℤ) → o ≡ Some z → assigned_number m server path n ≡ Some z)
        → with_changes m server path (flat_map (λ n. settings n (numbers n)) ns) ≡ m
        → with_changes m server path (settings n o ++ flat_map (λ n. settings n (numbers n)) ns) ≡ m
    by None here later = later
    by (Some z) here later =
        ap (λ w. with_changes w server path (flat_map (λ n. settings n (numbers n)) ns))
        (inserted_again m (key_of server path n) z (here z refl)) ∙ later

given_again : (m : Numbers) (server : ℕ) (path : Path) (cs : List Change) (r : Result (List Change) QueryFault)
    → r ≡ Ok cs → with_changes m server path cs ≡ m → (w : Numbers)
    → option_and_then (new_numbers m server path) (changes_or_none r) ≡ Some w → w ≡ m
given_again m server path cs (Err f) is same w e = cc is
given_again m server path cs (Ok ds) is same w e =
    by (is_consistent (with_changes m server path ds) server path) e
  where
    by : (b : Bool) → (if b then Some (with_changes m server path ds) else None) ≡ Some w → w ≡ m
    by true e =
        let found : with_changes m server path ds ≡ w = cc e in
        let changes : ds ≡ cs = cc is in
        sym found ∙ ap (with_changes m server path) changes ∙ same
    by false e = cc e

left_alone : (ruling : Option Ruling) (client : Client) (given : Option Numbers)
    → ((w : Numbers) → given ≡ Some w → w ≡ client.attributes) → (annotate_unless ruling client given).client ≡ client
left_alone (Some ruling) client given same = refl
left_alone None client None same = refl
left_alone None client (Some w) same = λ i. record {
  accounts = client.accounts;
  catalog = client.catalog;
  store = client.store;
  attributes = same w refl i;
  notify = client.notify;
}

pub written_back : WrittenBackIsTheSame
written_back client server path h =
    let qs = map_list query_of (attribute_parameters client server false path) in
    let given = attributes_given client server path qs in
    left_alone (refusal_of client server path (to_write_attributes qs)) client given
    (given_again client.attributes server path (settings_shown client server false path)
    (changes_of [] (level_at client.catalog path) qs) (parameters_are_queries client server false path h)
    (written_again client.attributes server path (assigned_number client.attributes server path) (λ n z e. e)
    attribute_names))
