-- Where bytes stop being TLV: what the first record at fault lacks, and that there is one such place or none.
use Rattle.std.proofs.Common.{◌≡◌, ℕ, ◌+◌, ◌<◌, ◌≤◌, List, [], ◌∷◌, ◌++◌, length, take, drop, true, false}
use Rattle.std.proofs.Common.{Bool, Option, Some, None, nat_lt, refl, sym, ap, subst, ◌∙◌, arith, length-append}
use Rattle.std.proofs.Common.{take-append-drop, length-take-le, ltb-true, ltb-false}
use mathlib.Core.List.{append_assoc, append-nil}
use Rattle.std.specs.Option.{IfSome, IfNone, is_some, is_none}
use Rattle.lwm2m_values.specs.declared.fault.TlvFault.TheVariants.{Cut}
use Rattle.lwm2m_values.specs.declared.level.RecordType.{RecordType}
use Rattle.lwm2m_values.specs.declared.level.RecordType.TheVariants.{Instance, Part, Multi, Single}
use Rattle.lwm2m_values.specs.declared.level.Around.{Around}
use Rattle.lwm2m_values.specs.declared.level.Around.TheVariants.{Top, InInstance, InMulti}
use Rattle.lwm2m_values.specs.declared.place.TlvLack.{TlvLack}
use Rattle.lwm2m_values.specs.declared.place.TlvLack.TheVariants.{Head, Content, Nesting}
use Rattle.lwm2m_values.specs.declared.place.TlvPlace.{TlvPlace}
use Rattle.lwm2m_values.specs.Tree.{Tree, Trees, instance, multi, part, single, none, more}
use Rattle.lwm2m_values.specs.Tlv.{IsHead, IsCut, IsNodes, IsTlv, Holds, HasFault, is_allowed, level_within, cut}
use Rattle.lwm2m_values.specs.Tlv.{nesting, within}
use Rattle.lwm2m_values.specs.TlvPlace.{header_size, IsLack, in_header, in_content, IsAfter, HasFaultAt, at_cut}
use Rattle.lwm2m_values.specs.TlvPlace.{at_nesting, at_within, tlv_fault}
use Rattle.lwm2m_values.specs.Reading.{nodes_of_bytes}
use Rattle.lwm2m_values.proofs.OneRecord.{one_head, one_record, IsCut-from_size}
use Rattle.lwm2m_values.proofs.OneTlv.{IsEnd, end_cut, end_nesting, end_within, not_both, one_place}
use Rattle.lwm2m_values.proofs.TlvReading.{nodes_of_bytes_exact, none_case}

-- what a cut record lacks

head_size : (bytes head rest : List ℕ) (kind : RecordType) (id size : ℕ) → IsHead head kind id size
    → bytes ≡ head ++ rest → header_size bytes ≡ length head
head_size bytes head rest kind id size h e =
    let all : bytes ≡ h.first ∷ ((h.id_bytes ++ h.size_bytes) ++ rest) = e ∙ ap (λ x. x ++ rest) h.parts in
    ap header_size all
    ∙ omega (arith, h.id_width, h.size_width, ap length h.parts, length-append h.id_bytes h.size_bytes)

pub in_header_here : (bytes : List ℕ) → length bytes < header_size bytes
    → IsLack bytes (Head (header_size bytes) (length bytes))
in_header_here bytes short = in_header bytes short

in_content_case : (bytes head rest : List ℕ) (kind : RecordType) (id size : ℕ) (b : Bool)
    → nat_lt (length rest) size ≡ b → IsHead head kind id size → bytes ≡ head ++ rest → IsCut bytes → length rest < size
in_content_case bytes head rest kind id size true q h e off = ltb-true _ _ q
in_content_case bytes head rest kind id size false q h e off =
    let fits : size ≤ length rest = ltb-false _ _ q in
    let whole : length (take size rest) ≡ size = length-take-le size rest fits in
    absurd (off head (take size rest) (drop size rest) kind id (subst (IsHead head kind id) (sym whole) h)
    (e ∙ ap (λ x. head ++ x) (sym (take-append-drop size rest))))

pub in_content_here : (bytes rest : List ℕ) (kind : RecordType) (id size : ℕ)
    → (head : List ℕ) × IsHead head kind id size × (bytes ≡ head ++ rest) → IsCut bytes
    → IsLack bytes (Content size (length rest))
in_content_here bytes rest kind id size found off =
    in_content bytes found.0 rest kind id size found.1 found.2
    (in_content_case bytes found.0 rest kind id size _ refl found.1 found.2 off)

lack_is_cut : (bytes : List ℕ) (lack : TlvLack) → IsLack bytes lack → IsCut bytes
lack_is_cut _ _ (in_header bytes short) = λ head content rest kind id h e.
    let size = head_size bytes head (content ++ rest) kind id (length content) h e in
    absurd (omega (arith, short, size, ap length e, length-append head (content ++ rest)))
lack_is_cut _ _ (in_content bytes head rest kind id size h e short) =
    IsCut-from_size bytes head rest kind id size h e short

one_lack : (bytes : List ℕ) (a b : TlvLack) → IsLack bytes a → IsLack bytes b → a ≡ b
one_lack _ _ _ (in_header bytes short) (in_header _ few) = refl
one_lack _ _ _ (in_header bytes short) (in_content _ head rest kind id size h e few) =
    let size_is = head_size bytes head rest kind id size h e in
    absurd (omega (arith, short, size_is, ap length e, length-append head rest))
one_lack _ _ _ (in_content bytes head rest kind id size h e few) (in_header _ short) =
    let size_is = head_size bytes head rest kind id size h e in
    absurd (omega (arith, short, size_is, ap length e, length-append head rest))
one_lack _ _ _ (in_content bytes head rest kind id size h e few) (in_content _ g s k i n q d less) =
    let same = one_head head g kind k id i size n rest s h q (sym e ∙ d) in
    ap (λ x. Content x (length rest)) same.size ∙ ap (λ x. Content n (length x)) same.rest

-- a walk over records

appended : Trees → Trees → Trees
appended none g = g
appended (more t f) g = more t (appended f g)

nodes_appended : (f g : Trees) (level : Around) (a b : List ℕ) → IsNodes f level a → IsNodes g level b
    → IsNodes (appended f g) level (a ++ b)
unfolding appended
nodes_appended none g level a b p q =
    subst (λ (x : List ℕ). IsNodes g level (x ++ b)) (sym p) q
nodes_appended (more t f) g level a b p q =
    let all : a ++ b ≡ p.2 ++ (p.3 ++ (p.4 ++ b)) =
    ap (λ x. x ++ b) p.6 ∙ append_assoc p.2 (p.3 ++ p.4) b ∙ ap (λ x. p.2 ++ x) (append_assoc p.3 p.4 b) in
    (p.0, p.1, p.2, p.3, p.4 ++ b, p.5, all, p.7, p.8, nodes_appended f g level p.4 b p.9 q)

-- what is read within, where it has to be read
abbrev pub IsReadable : RecordType → List ℕ → Type 0
IsReadable kind content =
    (inner : Around) → level_within kind ≡ Some inner → (nodes : Trees) × IsNodes nodes inner content

held : (kind : RecordType) (id : ℕ) (content : List ℕ) → IsReadable kind content → (t : Tree) × Holds t kind id content
held Instance id content each = let p = each InInstance refl in (instance id p.0, (refl, refl, p.1))
held Multi id content each = let p = each InMulti refl in (multi id p.0, (refl, refl, p.1))
held Part id content each = (part id content, (refl, refl, refl))
held Single id content each = (single id content, (refl, refl, refl))

pub after_none : (level : Around) (bytes : List ℕ) → IsAfter level bytes 0 bytes
after_none level bytes = (none, [], refl, refl, refl)

pub after_all : (level : Around) (bytes rest : List ℕ) (n : ℕ) → IsAfter level bytes n rest → length rest ≡ 0
    → (nodes : Trees) × IsNodes nodes level bytes
after_all level bytes [] n p end =
    (p.0, subst (λ (x : List ℕ). IsNodes p.0 level x) (sym (p.4 ∙ append-nil p.1)) p.2)
after_all level bytes (b ∷ rest) n p end = absurd (omega (arith, end))

pub after_more : (level : Around) (bytes at head content rest : List ℕ) (kind : RecordType) (id n : ℕ)
    → IsAfter level bytes n at → IsHead head kind id (length content) → at ≡ head ++ (content ++ rest)
    → is_allowed level kind ≡ true → IsReadable kind content
    → IsAfter level bytes (n + (length head + length content)) rest
after_more level bytes at head content rest kind id n p h e allowed each =
    let t = held kind id content each in
    let one : IsNodes (more t.0 none) level (head ++ content) =
    (kind, id, head, content, [], h, ap (λ x. head ++ x) (sym (append-nil content)), allowed, t.1, refl) in
    let size : n + (length head + length content) ≡ length (p.1 ++ (head ++ content)) =
    omega (arith, p.3, length-append p.1 (head ++ content), length-append head content) in
    let all : bytes ≡ (p.1 ++ (head ++ content)) ++ rest =
    p.4 ∙ ap (λ x. p.1 ++ x) (e ∙ sym (append_assoc head content rest))
    ∙ sym (append_assoc p.1 (head ++ content) rest) in (
      appended p.0 (more t.0 none),
      p.1 ++ (head ++ content),
      nodes_appended p.0 (more t.0 none) level p.1 (head ++ content) p.2 one,
      size,
      all,
    )

pub after_size : (level : Around) (bytes rest : List ℕ) (n : ℕ) → IsAfter level bytes n rest
    → n + length rest ≡ length bytes
after_size level bytes rest n p = omega (arith, p.3, ap length p.4, length-append p.1 rest)

pub record_size : (at head content rest : List ℕ) → at ≡ head ++ (content ++ rest)
    → length at ≡ length head + (length content + length rest)
record_size at head content rest e =
    omega (arith, ap length e, length-append head (content ++ rest), length-append content rest)

after_at : (level : Around) (bytes at here : List ℕ) (n : ℕ) → IsAfter level bytes n at → at ≡ here
    → IsAfter level bytes n here
after_at level bytes at here n p e = subst (IsAfter level bytes n) e p

-- where it ends in a fault

pub cut_at : (level : Around) (bytes rest : List ℕ) (start n at : ℕ) (lack : TlvLack) → IsAfter level bytes n rest
    → 0 < length rest → IsLack rest lack → start + n ≡ at
    → HasFaultAt level start bytes (record { at = at; lack = lack })
cut_at level bytes rest start n at lack p long q e =
    subst (λ (x : ℕ). HasFaultAt level start bytes (record { at = x; lack = lack })) e
    (at_cut level start n bytes rest lack p long q)

pub nesting_at : (level : Around) (bytes behind head content rest : List ℕ) (kind : RecordType) (id start n at : ℕ)
    → IsAfter level bytes n behind → IsHead head kind id (length content) → behind ≡ head ++ (content ++ rest)
    → is_allowed level kind ≡ false → start + n ≡ at
    → HasFaultAt level start bytes (record { at = at; lack = Nesting kind level })
nesting_at level bytes behind head content rest kind id start n at p h w allowed e =
    subst (λ (x : ℕ). HasFaultAt level start bytes (record { at = x; lack = Nesting kind level })) e
    (at_nesting level start n bytes kind id head content rest (after_at level bytes behind _ n p w) h allowed)

pub within_at : (level : Around) (bytes behind head content rest : List ℕ) (kind : RecordType) (id start n : ℕ)
    (place : TlvPlace) → IsAfter level bytes n behind → IsHead head kind id (length content)
    → behind ≡ head ++ (content ++ rest) → is_allowed level kind ≡ true
    → (inner : Around) × (level_within kind ≡ Some inner) × HasFaultAt inner (start + n + length head) content place
    → HasFaultAt level start bytes place
within_at level bytes behind head content rest kind id start n place p h w allowed q =
    at_within level q.0 start n bytes kind id head content rest place
    (after_at level bytes behind _ n p w) h allowed q.1 q.2

-- the same fault, without its place

lack_cut : (bytes : List ℕ) (lack : TlvLack) → IsLack bytes lack → tlv_fault lack ≡ Cut
lack_cut _ _ (in_header bytes short) = refl
lack_cut _ _ (in_content bytes head rest kind id size h e short) = refl

pub fault_at : (level : Around) (start : ℕ) (bytes : List ℕ) (p : TlvPlace) → HasFaultAt level start bytes p
    → HasFault level bytes (tlv_fault p.lack)
fault_at _ _ _ _ (at_cut level start n bytes rest lack p long q) =
    let is_cut : tlv_fault lack ≡ Cut = lack_cut rest lack q in
    subst (HasFault level bytes) (sym is_cut) (cut level bytes p.0 rest (p.1, p.2, p.4) long (lack_is_cut rest lack q))
fault_at _ _ _ _ (at_nesting level start n bytes kind id head content rest p h allowed) =
    nesting level bytes p.0 kind id head content rest (p.1, p.2, p.4) h allowed
fault_at _ _ _ _ (at_within level inner start n bytes kind id head content rest place p h allowed is_inner q) =
    within level inner bytes p.0 kind id head content rest (tlv_fault place.lack) (p.1, p.2, p.4) h allowed is_inner
    (fault_at inner _ content place q)

-- there is one place

one_after : (level : Around) (bytes r s : List ℕ) (n m : ℕ) → IsAfter level bytes n r → IsAfter level bytes m s
    → IsEnd level r → IsEnd level s → (n ≡ m) × (r ≡ s)
one_after level bytes r s n m p q u v =
    let same = one_place p.0 q.0 level bytes r s (p.1, p.2, p.4) (q.1, q.2, q.4) u v in
    (omega (arith, after_size level bytes r n p, after_size level bytes s m q, ap length same), same)

end_inside : (level inner : Around) (start : ℕ) (kind : RecordType) (id : ℕ) (head content rest : List ℕ)
    (place : TlvPlace) → IsHead head kind id (length content) → level_within kind ≡ Some inner
    → HasFaultAt inner start content place → IsEnd level (head ++ (content ++ rest))
end_inside level inner start kind id head content rest place h is_inner q =
    end_within level inner kind id head content rest h is_inner
    (not_both inner content (tlv_fault place.lack) (fault_at inner start content place q))

pub one_fault_at : (level : Around) (start : ℕ) (bytes : List ℕ) (a b : TlvPlace) → HasFaultAt level start bytes a
    → HasFaultAt level start bytes b → a ≡ b
one_fault_at _ _ _ _ _ (at_cut level start n bytes rest lack p long q) (at_cut _ _ m _ s lack2 u wide v) =
    let same = one_after level bytes rest s n m p u (end_cut level rest (lack_is_cut rest lack q))
    (end_cut level s (lack_is_cut s lack2 v)) in
    let lacks = one_lack rest lack lack2 q (subst (λ (x : List ℕ). IsLack x lack2) (sym same.1) v) in
    ap (λ x. record { at = start + x; lack = lack }) same.0 ∙ ap (λ x. record { at = start + m; lack = x }) lacks
one_fault_at _ _ _ _ _ (at_cut level start n bytes rest lack p long q)
    (at_nesting _ _ m _ kind id head content s u h allowed) =
    let same = one_after level bytes rest _ n m p u (end_cut level rest (lack_is_cut rest lack q))
    (end_nesting level kind id head content s h allowed) in
    absurd (lack_is_cut rest lack q head content s kind id h same.1)
one_fault_at _ _ _ _ _ (at_cut level start n bytes rest lack p long q)
    (at_within _ inner _ m _ kind id head content s place u h allowed is_inner w) =
    let same = one_after level bytes rest _ n m p u (end_cut level rest (lack_is_cut rest lack q))
    (end_inside level inner _ kind id head content s place h is_inner w) in
    absurd (lack_is_cut rest lack q head content s kind id h same.1)
one_fault_at _ _ _ _ _ (at_nesting level start n bytes kind id head content rest p h allowed)
    (at_cut _ _ m _ s lack u wide v) =
    let same = one_after level bytes s _ m n u p (end_cut level s (lack_is_cut s lack v))
    (end_nesting level kind id head content rest h allowed) in
    absurd (lack_is_cut s lack v head content rest kind id h same.1)
one_fault_at _ _ _ _ _ (at_nesting level start n bytes kind id head content rest p h allowed)
    (at_nesting _ _ m _ k i g c r u d fine) =
    let same = one_after level bytes _ _ n m p u (end_nesting level kind id head content rest h allowed)
    (end_nesting level k i g c r d fine) in
    let record_same = one_record head g kind k id i content c rest r h d same.1 in
    ap (λ x. record { at = start + x; lack = Nesting kind level }) same.0
    ∙ ap (λ x. record { at = start + m; lack = Nesting x level }) record_same.kind
one_fault_at _ _ _ _ _ (at_nesting level start n bytes kind id head content rest p h allowed)
    (at_within _ inner _ m _ k i g c r place u d fine is_inner w) =
    let same = one_after level bytes _ _ n m p u (end_nesting level kind id head content rest h allowed)
    (end_inside level inner _ k i g c r place d is_inner w) in
    let record_same = one_record head g kind k id i content c rest r h d same.1 in
    let both : false ≡ true = sym allowed ∙ ap (is_allowed level) record_same.kind ∙ fine in
    cc
one_fault_at _ _ _ _ _ (at_within level inner start n bytes kind id head content rest place p h allowed is_inner w)
    (at_cut _ _ m _ s lack u wide v) =
    let same = one_after level bytes s _ m n u p (end_cut level s (lack_is_cut s lack v))
    (end_inside level inner _ kind id head content rest place h is_inner w) in
    absurd (lack_is_cut s lack v head content rest kind id h same.1)
one_fault_at _ _ _ _ _ (at_within level inner start n bytes kind id head content rest place p h allowed is_inner w)
    (at_nesting _ _ m _ k i g c r u d fine) =
    let same = one_after level bytes _ _ n m p u
    (end_inside level inner _ kind id head content rest place h is_inner w)
    (end_nesting level k i g c r d fine) in
    let record_same = one_record head g kind k id i content c rest r h d same.1 in
    let both : false ≡ true = sym fine ∙ ap (is_allowed level) (sym record_same.kind) ∙ allowed in
    cc
one_fault_at _ _ _ _ _ (at_within level inner start n bytes kind id head content rest a p h allowed is_inner w)
    (at_within _ deep _ m _ k i g c r b u d fine is_deep x) =
    let same = one_after level bytes _ _ n m p u (end_inside level inner _ kind id head content rest a h is_inner w)
    (end_inside level deep _ k i g c r b d is_deep x) in
    let record_same = one_record head g kind k id i content c rest r h d same.1 in
    let levels : Some deep ≡ Some inner = sym is_deep ∙ ap level_within (sym record_same.kind) ∙ is_inner in
    let level_same : deep ≡ inner = cc in
    let place_same : start + m + length g ≡ start + n + length head =
    omega (arith, same.0, ap length record_same.head) in
    let by_level : HasFaultAt inner (start + m + length g) c b =
    subst (λ (l : Around). HasFaultAt l (start + m + length g) c b) level_same x in
    let by_place : HasFaultAt inner (start + n + length head) c b =
    subst (λ (y : ℕ). HasFaultAt inner y c b) place_same by_level in
    one_fault_at inner _ content a b w
    (subst (λ (y : List ℕ). HasFaultAt inner (start + n + length head) y b) (sym record_same.content) by_place)

-- what an answer owes: the place, or nodes where there is none

abbrev IsPlace : List ℕ → Option TlvPlace → Type 0
IsPlace bytes o = IfSome o (λ p. HasFaultAt Top 0 bytes p)

abbrev IsFree : List ℕ → Option TlvPlace → Type 0
IsFree bytes o = IfNone o ((nodes : Trees) × IsTlv nodes bytes)

pub at_top : (bytes : List ℕ) (o : Option TlvPlace)
    → IfSome o (λ p. (start : ℕ) → length bytes ≡ start + length bytes → HasFaultAt Top start bytes p)
    → IsPlace bytes o
at_top bytes None p = p
at_top bytes (Some a) p = p 0 (omega arith)

pub is_none_for : (bytes : List ℕ) (o : Option TlvPlace) → IsPlace bytes o → (nodes : Trees) → IsTlv nodes bytes
    → o ≡ None
is_none_for bytes None p nodes h = refl
is_none_for bytes (Some a) p nodes h =
    absurd (not_both Top bytes (tlv_fault a.lack) (fault_at Top 0 bytes a p) nodes h)

pub is_unique : (bytes : List ℕ) (o : Option TlvPlace) → IsFree bytes o → IsPlace bytes o → (a : TlvPlace)
    → HasFaultAt Top 0 bytes a → o ≡ Some a
is_unique bytes None free p a h =
    absurd (not_both Top bytes (tlv_fault a.lack) (fault_at Top 0 bytes a h) free.0 free.1)
is_unique bytes (Some b) free p a h = ap (λ x. Some x) (one_fault_at Top 0 bytes b a p h)

pub has_that_fault : (bytes : List ℕ) (o : Option TlvPlace) → IsPlace bytes o
    → IfSome o (λ a. HasFault Top bytes (tlv_fault a.lack))
has_that_fault bytes None p = p
has_that_fault bytes (Some a) p = fault_at Top 0 bytes a p

pub says_reading : (bytes : List ℕ) (o : Option TlvPlace) → IsFree bytes o → IsPlace bytes o
    → is_some o ≡ is_none (nodes_of_bytes bytes)
says_reading bytes None free p = sym (ap is_none ((nodes_of_bytes_exact free.0 bytes).1 free.1))
says_reading bytes (Some a) free p =
    sym (ap is_none (none_case bytes (tlv_fault a.lack) (nodes_of_bytes bytes) refl (fault_at Top 0 bytes a p)))
