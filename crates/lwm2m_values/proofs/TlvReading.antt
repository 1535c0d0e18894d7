-- The trees that are read of bytes are those whose TLV they are.
use Rattle.std.proofs.Common.{◌≡◌, ℕ, zero, suc, ◌+◌, ◌/◌, ◌%◌, ◌<◌, ◌≤◌, nat_le, List, [], ◌∷◌, ◌++◌, length, take}
use Rattle.std.proofs.Common.{drop, Bool, true, false, cond, if◌then◌else◌, ◌==◌, Option, Some, None, option_map}
use Rattle.std.proofs.Common.{Result, Ok, Err, ◌≢◌, refl, sym, ap, subst, ◌∙◌, ◌↔◌, arith, eqb-true, le-leb, leb-true}
use Rattle.std.proofs.Common.{length-append, length-drop, take-append-drop, length-take-le}
use mathlib.Core.List.{append_assoc}
use Rattle.std.proofs.Math.Seq.{take-append_seam, drop-append_seam}
use Rattle.std.specs.Int.Digits.{number_from_digits}
use Rattle.std.specs.Result.{IfOk, IfErr, MatchResult}
use Rattle.lemmas.proofs.Options.{option_map_parts}
use Rattle.lwm2m_values.specs.declared.fault.TlvFault.{TlvFault}
use Rattle.lwm2m_values.specs.declared.fault.TlvFault.TheVariants.{Memory}
use Rattle.lwm2m_values.specs.declared.level.RecordType.{RecordType}
use Rattle.lwm2m_values.specs.declared.level.RecordType.TheVariants.{Instance, Part, Multi, Single}
use Rattle.lwm2m_values.specs.declared.level.Around.{Around}
use Rattle.lwm2m_values.specs.declared.level.Around.TheVariants.{Top, InInstance, InMulti}
use Rattle.lwm2m_values.specs.Tree.{Tree, Trees, instance, multi, part, single, none, more}
use Rattle.lwm2m_values.specs.Tlv.{type_bits, is_allowed, IsHead, Holds, IsNodes, IsTlv, HasFault, IsWritable}
use Rattle.lwm2m_values.specs.Tlv.{shortest_tlv}
use Rattle.lwm2m_values.specs.Reading.{type_of_bits, id_width, size_width, size_of, Record, record_of, is_whole}
use Rattle.lwm2m_values.specs.Reading.{record_at, tree_of_record, with_tree, nodes_from, read_nodes, nodes_of_bytes}
use Rattle.lwm2m_values.proofs.Choices.{kept_if}
use Rattle.lwm2m_values.proofs.OneRecord.{regroup}
use Rattle.lwm2m_values.proofs.OneTlv.{not_both}
use Rattle.lwm2m_values.proofs.Shortest.{nodes_written}

-- the type

type_case : (n : ℕ) (k : RecordType) (a b c d : Bool) → (n == 0) ≡ a → (n == 1) ≡ b → (n == 2) ≡ c → (n == 3) ≡ d
    → (if a then Some Instance else (if b then Some Part
    else (if c then Some Multi else (if d then Some Single else None)))) ≡ Some k → type_bits k ≡ n
type_case n k true b c d p q r s e = let same : Instance ≡ k = cc e in sym (ap type_bits same) ∙ sym (eqb-true n 0 p)
type_case n k false true c d p q r s e = let same : Part ≡ k = cc e in sym (ap type_bits same) ∙ sym (eqb-true n 1 q)
type_case n k false false true d p q r s e = let same : Multi ≡ k =
    cc e in sym (ap type_bits same) ∙ sym (eqb-true n 2 r)
type_case n k false false false true p q r s e = let same : Single ≡ k =
    cc e in sym (ap type_bits same) ∙ sym (eqb-true n 3 s)
type_case n k false false false false p q r s e = cc e

type_from : (n : ℕ) (k : RecordType) → type_of_bits n ≡ Some k → type_bits k ≡ n
type_from n k e = type_case n k _ _ _ _ refl refl refl refl e

type_to : (k : RecordType) → type_of_bits (type_bits k) ≡ Some k
type_to Instance = refl
type_to Part = refl
type_to Multi = refl
type_to Single = refl

-- a record

abbrev pub IsRecordOf : List ℕ → Record → Type 0
IsRecordOf bytes r =
    (head : List ℕ) × IsHead head r.kind r.id (length r.content) × (bytes ≡ head ++ (r.content ++ r.rest))

whole_from : (first : ℕ) (rest : List ℕ) (kind : RecordType) → is_whole first rest ≡ true → type_bits kind ≡ first / 64
    → IsRecordOf (first ∷ rest) (record_of first rest kind)
whole_from first rest kind whole is_kind =
    let w : ℕ = id_width first in
    let u : ℕ = size_width first in
    let behind : List ℕ = drop w rest in
    let inside : List ℕ = drop u behind in
    let n : ℕ = size_of first behind in
    let ids : List ℕ = take w rest in
    let sizes : List ℕ = take u behind in
    let fits : w + u + n ≤ length rest = leb-true _ _ whole in
    let behind_len = length-drop w rest in
    let inside_len = length-drop u behind in
    let content_size : length (take n inside) ≡ n = length-take-le n inside (omega arith) in
    let parts : rest ≡ (ids ++ sizes) ++ (take n inside ++ drop n inside) =
    sym (take-append-drop w rest) ∙ ap (λ x. ids ++ x) (sym (take-append-drop u behind))
    ∙ ap (λ x. ids ++ (sizes ++ x)) (sym (take-append-drop n inside)) ∙ sym (append_assoc ids sizes _) in (
      first ∷ (ids ++ sizes),
      record {
        first = first;
        id_bytes = ids;
        size_bytes = sizes;
        parts = refl;
        kind_is = is_kind;
        id_width = length-take-le w rest (omega arith);
        id_is = refl;
        size_width = length-take-le u behind (omega arith);
        size_is = content_size;
      },
      ap (λ x. first ∷ x) parts,
    )

pub record_from : (bytes : List ℕ) (r : Record) → record_at bytes ≡ Some r → IsRecordOf bytes r
record_from [] r e = cc e
record_from (first ∷ rest) r e =
    let h = kept_if (is_whole first rest) (option_map (record_of first rest) (type_of_bits (first / 64))) r e in
    let m = option_map_parts (record_of first rest) (type_of_bits (first / 64)) r h.1 in
    subst (IsRecordOf (first ∷ rest)) m.2 (whole_from first rest m.0 h.0 (type_from (first / 64) m.0 m.1))

pub record_to : (bytes head content rest : List ℕ) (kind : RecordType) (id : ℕ) → IsHead head kind id (length content)
    → bytes ≡ head ++ (content ++ rest)
    → record_at bytes ≡ Some (record { kind = kind; id = id; content = content; rest = rest })
record_to bytes head content rest kind id h e =
    let f : ℕ = h.first in
    let w : ℕ = id_width f in
    let u : ℕ = size_width f in
    let held : List ℕ = content ++ rest in
    let behind : List ℕ = h.size_bytes ++ held in
    let tail : List ℕ = h.id_bytes ++ behind in
    let ids : take w tail ≡ h.id_bytes = ap (λ n. take n tail) (sym h.id_width) ∙ take-append_seam h.id_bytes behind in
    let after : drop w tail ≡ behind = ap (λ n. drop n tail) (sym h.id_width) ∙ drop-append_seam h.id_bytes behind in
    let sizes : take u behind ≡ h.size_bytes =
    ap (λ n. take n behind) (sym h.size_width) ∙ take-append_seam h.size_bytes held in
    let inside : drop u behind ≡ held =
    ap (λ n. drop n behind) (sym h.size_width) ∙ drop-append_seam h.size_bytes held in
    let size : size_of f behind ≡ length content =
    ap (λ x. cond (u == 0) (f % 8) (number_from_digits 256 x)) sizes ∙ sym h.size_is in
    let ends : w + u + size_of f behind ≤ length tail =
    omega (
      arith,
      h.id_width,
      h.size_width,
      size,
      length-append h.id_bytes behind,
      length-append h.size_bytes held,
      length-append content rest,
    ) in
    let whole : is_whole f tail ≡ true =
    ap (λ b. nat_le (w + u + size_of f b) (length tail)) after
    ∙ le-leb (w + u + size_of f behind) (length tail) ends in
    let make : ℕ → List ℕ → List ℕ → Record = λ i c r. record { kind = kind; id = i; content = c; rest = r } in
    let cut : ℕ → List ℕ → Record = λ n x. make id (take n x) (drop n x) in
    let found : record_of f tail kind ≡ make id content rest =
    ap (λ i. make i (take (size_of f (drop w tail)) (drop u (drop w tail)))
    (drop (size_of f (drop w tail)) (drop u (drop w tail)))) (ap (number_from_digits 256) ids ∙ sym h.id_is)
    ∙ ap (λ b. cut (size_of f b) (drop u b)) after
    ∙ ap (cut (size_of f behind)) inside
    ∙ ap (λ n. cut n held) size
    ∙ ap (λ c. make id c (drop (length content) held)) (take-append_seam content rest)
    ∙ ap (make id content) (drop-append_seam content rest) in
    ap record_at (e ∙ regroup head f h.id_bytes h.size_bytes held h.parts)
    ∙ ap (λ b. if b then option_map (record_of f tail) (type_of_bits (f / 64)) else None) whole
    ∙ ap (option_map (record_of f tail)) (ap type_of_bits (sym h.kind_is) ∙ type_to kind)
    ∙ ap (λ r. Some r) found

-- a tree, by readings of what it holds

abbrev IsSound : (Around → List ℕ → Option Trees) → Type 0
IsSound within = (level : Around) (bytes : List ℕ) (f : Trees) → within level bytes ≡ Some f → IsNodes f level bytes

tree_from : (within : Around → List ℕ → Option Trees) → IsSound within
    → (kind : RecordType) (id : ℕ) (content : List ℕ) (t : Tree) → tree_of_record within kind id content ≡ Some t
    → Holds t kind id content
tree_from within sound Instance id content t e =
    let h = option_map_parts (instance id) (within InInstance content) t e in
    subst (λ (x : Tree). Holds x Instance id content) h.2 (refl, refl, sound InInstance content h.0 h.1)
tree_from within sound Multi id content t e =
    let h = option_map_parts (multi id) (within InMulti content) t e in
    subst (λ (x : Tree). Holds x Multi id content) h.2 (refl, refl, sound InMulti content h.0 h.1)
tree_from within sound Part id content t e =
    let same : part id content ≡ t = cc e in
    subst (λ (x : Tree). Holds x Part id content) same (refl, refl, refl)
tree_from within sound Single id content t e =
    let same : single id content ≡ t = cc e in
    subst (λ (x : Tree). Holds x Single id content) same (refl, refl, refl)

tree_to : (within : Around → List ℕ → Option Trees) (kind : RecordType) (id : ℕ) (content : List ℕ) (t : Tree)
    → ((level : Around) (f : Trees) → IsNodes f level content → within level content ≡ Some f) → Holds t kind id content
    → tree_of_record within kind id content ≡ Some t
tree_to within kind id content (instance i inner) complete p =
    ap (λ k. tree_of_record within k id content) p.0 ∙ ap (option_map (instance id)) (complete InInstance inner p.2)
    ∙ ap (λ x. Some (instance x inner)) (sym p.1)
tree_to within kind id content (multi i inner) complete p =
    ap (λ k. tree_of_record within k id content) p.0 ∙ ap (option_map (multi id)) (complete InMulti inner p.2)
    ∙ ap (λ x. Some (multi x inner)) (sym p.1)
tree_to within kind id content (part i bytes) complete p =
    ap (λ k. tree_of_record within k id content) p.0 ∙ ap (λ x. Some (part x content)) (sym p.1)
    ∙ ap (λ x. Some (part i x)) (sym p.2)
tree_to within kind id content (single i bytes) complete p =
    ap (λ k. tree_of_record within k id content) p.0 ∙ ap (λ x. Some (single x content)) (sym p.1)
    ∙ ap (λ x. Some (single i x)) (sym p.2)

-- trees

joined : (o : Option Tree) (p : Option Trees) (f : Trees) → with_tree o p ≡ Some f → (t : Tree) × (nodes : Trees)
    × (o ≡ Some t) × (p ≡ Some nodes) × (more t nodes ≡ f)
joined (Some t) (Some nodes) f e = (t, nodes, refl, refl, cc e)
joined (Some t) None f e = cc e
joined None p f e = cc e

nodes_case : (within : Around → List ℕ → Option Trees) → IsSound within
    → (level : Around) (bytes : List ℕ) (o : Option Record) → record_at bytes ≡ o → (f : Trees)
    → nodes_from within level o ≡ Some f → IsNodes f level bytes
nodes_case within sound level bytes None q f e = cc e
nodes_case within sound level bytes (Some r) q f e =
    let tree : Option Tree = tree_of_record within r.kind r.id r.content in
    let h = kept_if (is_allowed level r.kind) (with_tree tree (within level r.rest)) f e in
    let j = joined tree (within level r.rest) f h.1 in
    let is = record_from bytes r q in
    let holds = tree_from within sound r.kind r.id r.content j.0 j.2 in
    let made : IsNodes (more j.0 j.1) level bytes =
    (r.kind, r.id, is.0, r.content, r.rest, is.1, is.2, h.0, holds, sound level r.rest j.1 j.3) in
    subst (λ (x : Trees). IsNodes x level bytes) j.4 made

nodes_sound : (steps : ℕ) → IsSound (read_nodes steps)
unfolding read_nodes
nodes_sound zero level [] f e = let same : none ≡ f = cc e in subst (λ (x : Trees). IsNodes x level []) same refl
nodes_sound zero level (b ∷ bytes) f e = cc e
nodes_sound (suc steps) level [] f e = let same : none ≡ f = cc e in subst (λ (x : Trees). IsNodes x level []) same refl
nodes_sound (suc steps) level (b ∷ bytes) f e =
    nodes_case (read_nodes steps) (nodes_sound steps) level (b ∷ bytes) (record_at (b ∷ bytes)) refl f e

read_nil : (steps : ℕ) (level : Around) → read_nodes steps level [] ≡ Some none
unfolding read_nodes
read_nil zero level = refl
read_nil (suc steps) level = refl

read_step : (steps : ℕ) (level : Around) (bytes : List ℕ) → 0 < length bytes
    → read_nodes (suc steps) level bytes ≡ nodes_from (read_nodes steps) level (record_at bytes)
unfolding read_nodes
read_step steps level [] long = absurd (omega arith)
read_step steps level (b ∷ bytes) long = refl

pub head_long : (head : List ℕ) (kind : RecordType) (id size : ℕ) → IsHead head kind id size → 0 < length head
head_long head kind id size h = subst (λ (x : List ℕ). 0 < length x) (sym h.parts) (omega arith)

nodes_complete : (steps : ℕ) (level : Around) (bytes : List ℕ) (f : Trees) → length bytes ≤ steps
    → IsNodes f level bytes
    → read_nodes steps level bytes ≡ Some f
nodes_complete steps level bytes none enough p = ap (read_nodes steps level) p ∙ read_nil steps level
nodes_complete zero level bytes (more t nodes) enough p =
    let long = head_long p.2 p.0 p.1 (length p.3) p.5 in
    absurd (omega (arith, long, enough, ap length p.6, length-append p.2 (p.3 ++ p.4)))
nodes_complete (suc steps) level bytes (more t nodes) enough p =
    let within : Around → List ℕ → Option Trees = read_nodes steps in
    let long : 0 < length p.2 = head_long p.2 p.0 p.1 (length p.3) p.5 in
    let size : length bytes ≡ length p.2 + (length p.3 + length p.4) =
    ap length p.6 ∙ length-append p.2 (p.3 ++ p.4) ∙ ap (λ n. length p.2 + n) (length-append p.3 p.4) in
    let inner : (l : Around) (g : Trees) → IsNodes g l p.3 → within l p.3 ≡ Some g =
    λ l g. nodes_complete steps l p.3 g (omega arith) in
    let tree : tree_of_record within p.0 p.1 p.3 ≡ Some t = tree_to within p.0 p.1 p.3 t inner p.8 in
    let later : within level p.4 ≡ Some nodes = nodes_complete steps level p.4 nodes (omega arith) p.9 in
    read_step steps level bytes (omega arith)
    ∙ ap (nodes_from within level) (record_to bytes p.2 p.3 p.4 p.0 p.1 p.5 p.6)
    ∙ ap (λ b. if b then with_tree (tree_of_record within p.0 p.1 p.3) (within level p.4) else None) p.7
    ∙ ap (λ x. with_tree x (within level p.4)) tree
    ∙ ap (with_tree (Some t)) later

tlv_from : (f : Trees) (bytes : List ℕ) → nodes_of_bytes bytes ≡ Some f → IsTlv f bytes
unfolding nodes_of_bytes
tlv_from f bytes e = nodes_sound (length bytes) Top bytes f e

tlv_to : (f : Trees) (bytes : List ℕ) → IsTlv f bytes → nodes_of_bytes bytes ≡ Some f
unfolding nodes_of_bytes
tlv_to f bytes p = nodes_complete (length bytes) Top bytes f (omega arith) p

pub nodes_of_bytes_exact : (f : Trees) (bytes : List ℕ) → (nodes_of_bytes bytes ≡ Some f) ↔ IsTlv f bytes
nodes_of_bytes_exact f bytes = (tlv_from f bytes, tlv_to f bytes)

pub nodes_of_bytes_written : (f : Trees) → IsWritable f → nodes_of_bytes (shortest_tlv f) ≡ Some f
nodes_of_bytes_written f p = tlv_to f (shortest_tlv f) (nodes_written f Top p.0)

-- what a reader owes

pub none_case : (bytes : List ℕ) (e : TlvFault) (o : Option Trees) → nodes_of_bytes bytes ≡ o → HasFault Top bytes e
    → nodes_of_bytes bytes ≡ None
none_case bytes e None q h = q
none_case bytes e (Some f) q h = absurd (not_both Top bytes e h f (tlv_from f bytes q))

pub is_reading : {T : Type 0} (view : T → Trees) (bytes : List ℕ) (r : Result T TlvFault)
    → IfOk r (λ v. IsTlv (view v) bytes) → IfErr r (λ f. f ≢ Memory → HasFault Top bytes f)
    → MatchResult r (λ v. nodes_of_bytes bytes ≡ Some (view v)) (λ f. f ≢ Memory → nodes_of_bytes bytes ≡ None)
is_reading view bytes (Ok v) p q = tlv_to (view v) bytes p
is_reading view bytes (Err f) p q = λ other. none_case bytes f (nodes_of_bytes bytes) refl (q other)
