-- The bytes at the front are one record's: a head is read in one way, and so is a record.
use Rattle.std.proofs.Common.{◌≡◌, ℕ, ◌+◌, ◌/◌, ◌%◌, ◌<◌, List, ◌∷◌, ◌++◌, length, drop, take-append-drop, cond}
use Rattle.std.proofs.Common.{eqb, refl, sym, ap, ◌∙◌, arith, length-append}
use mathlib.Core.List.{append_assoc}
use Rattle.std.specs.List.{IsFirstAndRest, IsSplitAt}
use Rattle.std.specs.Int.Digits.{number_from_digits}
use Rattle.lemmas.proofs.Lists.{same_parts}
use Rattle.lwm2m_values.specs.declared.level.RecordType.{RecordType}
use Rattle.lwm2m_values.specs.declared.level.RecordType.TheVariants.{Instance, Part, Multi, Single}
use Rattle.lwm2m_values.specs.Tlv.{type_bits, IsHead, IsCut}

pub one_type : (k l : RecordType) → type_bits k ≡ type_bits l → k ≡ l
one_type Instance Instance e = refl
one_type Part Part e = refl
one_type Multi Multi e = refl
one_type Single Single e = refl
one_type k l e = absurd (omega (arith, e))

pub record SameHead (h g : List ℕ) (k l : RecordType) (i j n m : ℕ) (r s : List ℕ) : Type 0 where
  pub head : h ≡ g
  pub kind : k ≡ l
  pub id : i ≡ j
  pub size : n ≡ m
  pub rest : r ≡ s

pub regroup : (h : List ℕ) (f : ℕ) (a b r : List ℕ) → h ≡ f ∷ (a ++ b) → h ++ r ≡ f ∷ (a ++ (b ++ r))
regroup h f a b r e = ap (λ x. x ++ r) e ∙ ap (λ x. f ∷ x) (append_assoc a b r)

-- one byte fixes the widths, and so what stands where
pub one_head : (h g : List ℕ) (k l : RecordType) (i j n m : ℕ) (r s : List ℕ) → IsHead h k i n → IsHead g l j m
    → h ++ r ≡ g ++ s → SameHead h g k l i j n m r s
one_head h g k l i j n m r s p q e =
    let whole : p.first ∷ (p.id_bytes ++ (p.size_bytes ++ r)) ≡ q.first ∷ (q.id_bytes ++ (q.size_bytes ++ s)) =
    sym (regroup h p.first p.id_bytes p.size_bytes r p.parts) ∙ e
    ∙ regroup g q.first q.id_bytes q.size_bytes s q.parts in
    let first : p.first ≡ q.first = cc whole in
    let tail : p.id_bytes ++ (p.size_bytes ++ r) ≡ q.id_bytes ++ (q.size_bytes ++ s) = cc whole in
    let ids = same_parts p.id_bytes q.id_bytes _ _
    (p.id_width ∙ ap (λ x. 1 + x / 32 % 2) first ∙ sym q.id_width) tail in
    let sizes = same_parts p.size_bytes q.size_bytes r s
    (p.size_width ∙ ap (λ x. x / 8 % 4) first ∙ sym q.size_width) ids.1 in
    let value : ℕ → List ℕ → ℕ = λ x bytes. cond (eqb (x / 8 % 4) 0) (x % 8) (number_from_digits 256 bytes) in
    record {
      head = p.parts ∙ ap (λ x. x ∷ (p.id_bytes ++ p.size_bytes)) first ∙ ap (λ x. q.first ∷ (x ++ p.size_bytes)) ids.0
          ∙ ap (λ x. q.first ∷ (q.id_bytes ++ x)) sizes.0 ∙ sym q.parts;
      kind = one_type k l (p.kind_is ∙ ap (λ x. x / 64) first ∙ sym q.kind_is);
      id = p.id_is ∙ ap (number_from_digits 256) ids.0 ∙ sym q.id_is;
      size = p.size_is ∙ ap (λ x. value x p.size_bytes) first ∙ ap (value q.first) sizes.0 ∙ sym q.size_is;
      rest = sizes.1;
    }

pub record SameRecord (h g : List ℕ) (k l : RecordType) (i j : ℕ) (c d r s : List ℕ) : Type 0 where
  pub head : h ≡ g
  pub kind : k ≡ l
  pub id : i ≡ j
  pub content : c ≡ d
  pub rest : r ≡ s

pub one_record : (h g : List ℕ) (k l : RecordType) (i j : ℕ) (c d r s : List ℕ) → IsHead h k i (length c)
    → IsHead g l j (length d) → h ++ (c ++ r) ≡ g ++ (d ++ s) → SameRecord h g k l i j c d r s
one_record h g k l i j c d r s p q e =
    let heads = one_head h g k l i j (length c) (length d) (c ++ r) (d ++ s) p q e in
    let contents = same_parts c d r s heads.size heads.rest in
    record { head = heads.head; kind = heads.kind; id = heads.id; content = contents.0; rest = contents.1 }

-- a head whose size goes past the end begins no record
pub IsCut-from_size : (bytes h r : List ℕ) (k : RecordType) (i n : ℕ) → IsHead h k i n → bytes ≡ h ++ r → length r < n
    → IsCut bytes
IsCut-from_size bytes h r k i n p e short = λ g d s l j q w.
    let heads = one_head h g k l i j n (length d) r (d ++ s) p q (sym e ∙ w) in
    let size = heads.size in
    let long = ap length heads.rest in
    absurd (omega (arith, length-append d s))

-- with no head at the front no record begins there
pub IsCut-from_head : (bytes : List ℕ)
    → ((h r : List ℕ) (k : RecordType) (i n : ℕ) → IsHead h k i n → bytes ≡ h ++ r → ⊥) → IsCut bytes
IsCut-from_head bytes headless = λ g d s l j q w. headless g (d ++ s) l j (length d) q w

-- the pieces of a head, in their order
pub head_made : (bytes after behind rest id_bytes size_bytes : List ℕ) (first w u : ℕ) (kind : RecordType) (id size : ℕ)
    → IsFirstAndRest bytes first after → w ≡ 1 + first / 32 % 2 → IsSplitAt after w id_bytes behind → u ≡ first / 8 % 4
    → IsSplitAt behind u size_bytes rest → type_bits kind ≡ first / 64 → id ≡ number_from_digits 256 id_bytes
    → size ≡ cond (eqb (first / 8 % 4) 0) (first % 8) (number_from_digits 256 size_bytes) → (head : List ℕ)
    × IsHead head kind id size × (bytes ≡ head ++ rest)
head_made bytes after behind rest id_bytes size_bytes first w u kind id size p w_is q u_is r is_kind is_id is_size =
    let behind_is : behind ≡ size_bytes ++ rest =
    sym (take-append-drop u behind) ∙ ap (λ x. x ++ drop u behind) (sym r.1)
    ∙ ap (λ x. size_bytes ++ x) (sym r.2) in
    let after_is : after ≡ id_bytes ++ behind =
    sym (take-append-drop w after) ∙ ap (λ x. x ++ drop w after) (sym q.1) ∙ ap (λ x. id_bytes ++ x) (sym q.2) in
    let head = first ∷ (id_bytes ++ size_bytes) in
    let made : IsHead head kind id size =
    record {
      first = first;
      id_bytes = id_bytes;
      size_bytes = size_bytes;
      parts = refl;
      kind_is =
          is_kind;
      id_width = q.3 ∙ w_is;
      id_is = is_id;
      size_width = r.3 ∙ u_is;
      size_is = is_size;
    } in (
      head,
      made,
      p.0 ∙ ap (λ x. first ∷ x) (after_is ∙ ap (λ x. id_bytes ++ x) behind_is)
          ∙ sym (regroup head first id_bytes size_bytes rest refl),
    )
