-- What a server may not read does not show.
use Rattle.std.proofs.Common.{◌≡◌, ℕ, Bool, true, false, not, ◌||◌, ◌==◌, cond, List, [], ◌∷◌, map, length, ◌⊎◌, inl}
use Rattle.std.proofs.Common.{inr, Option, is_some, refl, ap, ◌∙◌}
use Rattle.std.specs.List.{filter, list_any}
use Rattle.std.specs.Option.{option_map, unwrap_or}
use Rattle.lwm2m_values.specs.Tlv.{shortest_tlv}
use Rattle.lwm2m_values.specs.Tree.{Tree, trees_of_list}
use Rattle.object_defs.specs.Catalog.{object_of}
use Rattle.object_defs.specs.Lines.{first_line}
use Rattle.object_defs.specs.Path.{object_in}
use Rattle.object_defs.specs.declared.path.Path.TheVariants.{Object}
use Rattle.instance_store.specs.Stored.{instances_of}
use Rattle.lwm2m_payloads.specs.Nodes.{instance_node, nodes_of}
use Rattle.lwm2m_values.specs.Tree.{instance}
use Rattle.device_requests.specs.declared.answer.Answer.{Answer}
use Rattle.device_requests.specs.declared.ruling.Ruling.{Ruling}
use Rattle.device_requests.specs.declared.ruling.Ruling.TheVariants as rule
use Rattle.device_requests.specs.Access.{may_read, reads}
use Rattle.device_requests.specs.Answer.{bare, refused_or}
use Rattle.device_requests.specs.Hiding.{UnreadableIsHidden, UnreadableIsRefused}
use Rattle.device_requests.specs.Client.{Client, with_stored}
use Rattle.device_requests.specs.Read.{content_in, format_at, read_payload}
use Rattle.device_requests.specs.Refusals.{can_be_read, is_oversized}
use Rattle.device_requests.specs.Targets.{exists, resources_defined}

stopped : (a b s : Bool) (lines : List (Bool × Ruling)) (answer : Answer) → s ≡ false
    → let said = refused_or (first_line ((a, rule.Security) ∷ (b, rule.Target) ∷ (not s, rule.Right) ∷ lines)) answer in
    (said ≡ bare rule.Security) ⊎ ((said ≡ bare rule.Target) ⊎ (said ≡ bare rule.Right))
stopped true b s lines answer h = inl refl
stopped false true s lines answer h = inr (inl refl)
stopped false false true lines answer h = cc
stopped false false false lines answer h = inr (inr refl)

pub refused : UnreadableIsRefused
refused client server path accept h =
    stopped (object_in path == 0) (not (exists client.catalog client.store path)) (may_read client server path)
    ((not (can_be_read client.catalog path), rule.Operation)
    ∷ (not (is_some (format_at client.catalog path accept)), rule.Accept)
    ∷ (is_oversized (read_payload client server path accept), rule.Limit) ∷ [])
    (content_in (format_at client.catalog path accept) (read_payload client server path accept)) h

-- maps that agree on what passes
pub same_map : (p : ℕ → Bool) (f g : ℕ → Tree) → ((i : ℕ) → p i ≡ true → f i ≡ g i) → (ns : List ℕ)
    → map f (filter p ns)
    ≡ map g (filter p ns)
same_map p f g h [] = refl
same_map p f g h (n ∷ ns) =
    elim (p n) as (λ b. (b ≡ true → f n ≡ g n) → map f (cond b (n ∷ filter p ns) (filter p ns))
    ≡ map g (cond b (n ∷ filter p ns) (filter p ns))) [
      | true ↦ λ k. λ j. k refl j ∷ same_map p f g h ns j
      | false ↦ λ k. same_map p f g h ns
    ] (h n)

-- the answer to a Read of an object, by whether it may be read and by its payload
abbrev answer_with : Client → ℕ → Option ℕ → Bool → List ℕ → Answer
answer_with client o accept may payload =
    let format = format_at client.catalog (Object o) accept in
    let shown = unwrap_or (option_map (λ f. payload) format) [] in
    refused_or (first_line (
    (o == 0, rule.Security) ∷ (not (is_some (object_of client.catalog o)), rule.Target) ∷ (not may, rule.Right)
    ∷ (false, rule.Operation)
    ∷ (not (is_some format), rule.Accept) ∷ (is_oversized shown, rule.Limit) ∷ []))
    (content_in format shown)

abbrev payload_with : ℕ → List ℕ → (ℕ → Bool) → (ℕ → Tree) → List ℕ
payload_with o instances p node = shortest_tlv (trees_of_list (map node (filter p instances)))

pub hidden : UnreadableIsHidden
hidden client stored server o accept h =
    let p = reads client.store (length client.accounts) server o in
    let new = instance_node stored (resources_defined client.catalog o) o in
    let old = instance_node client.store (resources_defined client.catalog o) o in
    let tests : reads stored (length client.accounts) server o ≡ p = λ j i. h.rights i j in
    let may : may_read (with_stored client stored) server (Object o) ≡ may_read client server (Object o) =
    ap (λ (t : (ℕ → Bool) × List ℕ). length t.1 == 0 || list_any t.0 t.1) (λ j. (tests j, h.instances j)) in
    let lists : payload_with o (instances_of stored o) (reads stored (length client.accounts) server o) new
    ≡ payload_with o (instances_of client.store o) p new =
    ap (λ (t : (ℕ → Bool) × List ℕ). payload_with o t.1 t.0 new) (λ j. (tests j, h.instances j)) in
    let nodes : payload_with o (instances_of client.store o) p new
    ≡ payload_with o (instances_of client.store o) p old =
    ap (λ ts. shortest_tlv (trees_of_list ts))
    (same_map p new old (λ i r. ap (λ pairs. instance i (nodes_of pairs)) (h.values i r))
    (instances_of client.store o)) in
    ap (λ (t : Bool × List ℕ). answer_with client o accept t.0 t.1) (λ j. (may j, (lists ∙ nodes) j))
