-- Which formats a path serves.
use Rattle.std.proofs.Common.{◌≡◌, ◌≢◌, inl, inr, ℕ, ◌==◌, Bool, true, false, not, List, Option, None, Some}
use Rattle.std.proofs.Common.{refl, sym, ap, subst, ◌∙◌}
use Rattle.std.specs.Bool.{if◌then◌else◌}
use Rattle.std.proofs.lemmas.Bool.{eqb-true, not-false}
use Rattle.lwm2m_values.specs.declared.kind.ValueKind.{ValueKind}
use Rattle.lwm2m_values.specs.declared.kind.ValueKind.TheVariants as kind
use Rattle.object_defs.specs.Catalog.{definition_of}
use Rattle.object_defs.specs.declared.definition.ObjectDef.{ObjectDef}
use Rattle.object_defs.specs.declared.definition.ResourceDef.{ResourceDef}
use Rattle.object_defs.specs.declared.path.Path.{Path}
use Rattle.object_defs.specs.declared.path.Path.TheVariants.{Object, Instance, Resource, Part}
use Rattle.lwm2m_payloads.specs.Formats.{Extent, default_format, extent_as, extent_of, format_for, format_number}
use Rattle.lwm2m_payloads.specs.Formats.{is_one, is_opaque, many, one, part_as, served_format}
use Rattle.lwm2m_payloads.specs.declared.format.Format.{Format}
use Rattle.lwm2m_payloads.specs.declared.format.Format.TheVariants.{PlainText, OctetStream, Tlv}
use Rattle.device_requests.specs.Targets.{definition_at}
use Rattle.laws_requests.specs.ServedFormats.{DefaultIsServed, FormatsAreServed, GetsFormat, NamedIsGiven}
use Rattle.laws_requests.specs.ServedFormats.{OthersTakeOne}
use Rattle.laws_requests.specs.ServedFormats.{StandsForOne, one_part_value, one_single_value, default_bytes}
use Rattle.laws_requests.specs.ServedFormats.{default_text, default_tlv}
use Rattle.laws_requests.specs.ServedFormats.{named_bytes, named_text, named_tlv}

-- what a path stands for
abbrev extent_at : List ObjectDef → Path → Extent
extent_at catalog path = extent_of path (definition_at catalog path)

one_is : (k l : ValueKind) → one k ≡ one l → k ≡ l
one_is k l h = cc

single_extent : (d : Option ResourceDef) (k : ValueKind) → extent_as d ≡ one k
    → (e : ResourceDef) × (d ≡ Some e) × (e.multiple ≡ false) × (e.kind ≡ k)
single_extent None k h = cc
single_extent (Some d) k h =
    elim d.multiple as (λ b. d.multiple ≡ b → (if b then many else one d.kind) ≡ one k
    → (e : ResourceDef) × (Some d ≡ Some e) × (e.multiple ≡ false) × (e.kind ≡ k)) [
      | true ↦ λ is l. cc
      | false ↦ λ is l. (d, refl, is, one_is d.kind k l)
    ] refl h

part_extent : (d : Option ResourceDef) (k : ValueKind) → part_as d ≡ one k
    → (e : ResourceDef) × (d ≡ Some e) × (e.kind ≡ k)
part_extent None k h = cc
part_extent (Some d) k h = (d, refl, one_is d.kind k h)

stands : (catalog : List ObjectDef) (path : Path) (k : ValueKind) → extent_at catalog path ≡ one k
    → StandsForOne catalog path k
stands catalog (Object o) k h = cc
stands catalog (Instance o i) k h = cc
stands catalog (Resource o i r) k h =
    let e = single_extent (definition_of catalog o r) k h in
    subst (StandsForOne catalog (Resource o i r)) e.3 (one_single_value o i r e.0 e.1 e.2)
stands catalog (Part o i r n) k h =
    let e = part_extent (definition_of catalog o r) k h in
    subst (StandsForOne catalog (Part o i r n)) e.2 (one_part_value o i r n e.0 e.1)

extent_is : (catalog : List ObjectDef) (path : Path) (k : ValueKind) → StandsForOne catalog path k
    → extent_at catalog path ≡ one k
extent_is catalog path k (one_single_value o i r d is alone) =
    ap extent_as is ∙ ap (λ (b : Bool). if b then many else one d.kind) alone
extent_is catalog path k (one_part_value o i r n d is) = ap part_as is

-- whether it is one value, and of which kind
abbrev StandsFor : List ObjectDef → Path → Extent → Type 0
StandsFor catalog path many = (k : ValueKind) → ¬ (StandsForOne catalog path k)
StandsFor catalog path (one k) = StandsForOne catalog path k

many_is_not : (k : ValueKind) → many ≡ one k → ⊥
many_is_not k h = cc

stands_for : (catalog : List ObjectDef) (path : Path) (e : Extent) → extent_at catalog path ≡ e
    → StandsFor catalog path e
stands_for catalog path many h = λ k s. many_is_not k (sym h ∙ extent_is catalog path k s)
stands_for catalog path (one k) h = stands catalog path k h

-- ---- what is served

named : (catalog : List ObjectDef) (path : Path) (e : Extent) (n : ℕ) (f : Format) → StandsFor catalog path e
    → served_format e n ≡ Some f → GetsFormat catalog path (Some n) f
named catalog path e n f s h =
    elim (n == 11542) as (λ b. (n == 11542) ≡ b → (if b then Some Tlv
    else if n == 0 then (if is_one e then Some PlainText else None)
    else if n == 42 then (if is_opaque e then Some OctetStream else None)
    else None) ≡ Some f → GetsFormat catalog path (Some n) f) [
      | true ↦ λ is k.
          let g : Tlv ≡ f = cc in
          subst (λ (t : ℕ × Format). GetsFormat catalog path (Some t.0) t.1)
          (λ j. (sym (eqb-true n 11542 is) j, g j)) named_tlv
      | false ↦ λ is k. elim (n == 0) as (λ b. (n == 0) ≡ b
          → (if b then (if is_one e then Some PlainText else None)
          else if n == 42 then (if is_opaque e then Some OctetStream else None)
          else None) ≡ Some f → GetsFormat catalog path (Some n) f) [
            | true ↦ λ zero l.
                subst (λ (m : ℕ). GetsFormat catalog path (Some m) f) (sym (eqb-true n 0 zero)) (text e s l)
            | false ↦ λ more l. elim (n == 42) as (λ b. (n == 42) ≡ b
                → (if b then (if is_opaque e then Some OctetStream else None) else None) ≡ Some f
                → GetsFormat catalog path (Some n) f) [
                  | true ↦ λ bytes m.
                      subst (λ (m : ℕ). GetsFormat catalog path (Some m) f) (sym (eqb-true n 42 bytes))
                      (octets e s m)
                  | false ↦ λ other m. cc
                ] refl l
          ] refl k
    ] refl h
  where
    text : (e : Extent) → StandsFor catalog path e → (if is_one e then Some PlainText else None) ≡ Some f
        → GetsFormat catalog path (Some 0) f
    text many s h = cc
    text (one k) s h = let g : PlainText ≡ f = cc in subst (GetsFormat catalog path (Some 0)) g (named_text k s)

    octets : (e : Extent) → StandsFor catalog path e → (if is_opaque e then Some OctetStream else None) ≡ Some f
        → GetsFormat catalog path (Some 42) f
    octets many s h = cc
    octets (one kind.Opaque) s h =
        let g : OctetStream ≡ f = cc in subst (GetsFormat catalog path (Some 42)) g (named_bytes s)
    octets (one kind.Text) s h = cc
    octets (one kind.Whole) s h = cc
    octets (one kind.Flag) s h = cc
    octets (one kind.Moment) s h = cc
    octets (one kind.Link) s h = cc

by_default : (catalog : List ObjectDef) (path : Path) (e : Extent) → StandsFor catalog path e
    → GetsFormat catalog path None (default_format e)
by_default catalog path many s = default_tlv s
by_default catalog path (one kind.Opaque) s = default_bytes s
by_default catalog path (one kind.Text) s = default_text kind.Text s (λ e. cc)
by_default catalog path (one kind.Whole) s = default_text kind.Whole s (λ e. cc)
by_default catalog path (one kind.Flag) s = default_text kind.Flag s (λ e. cc)
by_default catalog path (one kind.Moment) s = default_text kind.Moment s (λ e. cc)
by_default catalog path (one kind.Link) s = default_text kind.Link s (λ e. cc)

is_served : (catalog : List ObjectDef) (path : Path) (number : Option ℕ) (f : Format)
    → format_for (extent_at catalog path) number ≡ Some f → GetsFormat catalog path number f
is_served catalog path None f h =
    let e = extent_at catalog path in
    let g : default_format e ≡ f = cc in
    subst (GetsFormat catalog path None) g (by_default catalog path e (stands_for catalog path e refl))
is_served catalog path (Some n) f h =
    let e = extent_at catalog path in named catalog path e n f (stands_for catalog path e refl) h

text_default : (k : ValueKind) → k ≢ kind.Opaque → default_format (one k) ≡ PlainText
text_default kind.Opaque h = absurd (h refl)
text_default kind.Text h = refl
text_default kind.Whole h = refl
text_default kind.Flag h = refl
text_default kind.Moment h = refl
text_default kind.Link h = refl

no_one : (catalog : List ObjectDef) (path : Path) → ((k : ValueKind) → ¬ (StandsForOne catalog path k))
    → (e : Extent) → extent_at catalog path ≡ e → default_format e ≡ Tlv
no_one catalog path never many h = refl
no_one catalog path never (one k) h = absurd (never k (stands catalog path k h))

served_is : (catalog : List ObjectDef) (path : Path) (number : Option ℕ) (f : Format)
    → GetsFormat catalog path number f → format_for (extent_at catalog path) number ≡ Some f
served_is catalog path number f named_tlv = refl
served_is catalog path number f (named_text k s) =
    ap (λ (e : Extent). format_for e (Some 0)) (extent_is catalog path k s)
served_is catalog path number f (named_bytes s) =
    ap (λ (e : Extent). format_for e (Some 42)) (extent_is catalog path kind.Opaque s)
served_is catalog path number f (default_bytes s) =
    ap (λ (e : Extent). format_for e None) (extent_is catalog path kind.Opaque s)
served_is catalog path number f (default_text k s other) =
    ap (λ (e : Extent). format_for e None) (extent_is catalog path k s) ∙ ap Some (text_default k other)
served_is catalog path number f (default_tlv never) =
    ap Some (no_one catalog path never (extent_at catalog path) refl)

pub formats_served : FormatsAreServed
formats_served catalog path number f = (is_served catalog path number f, served_is catalog path number f)

given_as_named : (catalog : List ObjectDef) (path : Path) (number : Option ℕ) (f : Format)
    → GetsFormat catalog path number f → (n : ℕ) → number ≡ Some n → format_number f ≡ n
given_as_named catalog path number f named_tlv n is = cc
given_as_named catalog path number f (named_text k s) n is = cc
given_as_named catalog path number f (named_bytes s) n is = cc
given_as_named catalog path number f (default_bytes s) n is = cc
given_as_named catalog path number f (default_text k s other) n is = cc
given_as_named catalog path number f (default_tlv never) n is = cc

pub named_given : NamedIsGiven
named_given catalog path n f h =
    given_as_named catalog path (Some n) f (is_served catalog path (Some n) f h) n refl

default_again : (e : Extent) → served_format e (format_number (default_format e)) ≡ Some (default_format e)
default_again many = refl
default_again (one kind.Opaque) = refl
default_again (one kind.Text) = refl
default_again (one kind.Whole) = refl
default_again (one kind.Flag) = refl
default_again (one kind.Moment) = refl
default_again (one kind.Link) = refl

pub default_served : DefaultIsServed
default_served catalog path =
    let e = extent_at catalog path in (default_format e, refl, default_again e)

is_only : (a n : ℕ) → not (n == a) ≡ false → Some n ≡ Some a
is_only a n h = ap Some (eqb-true n a (not-false (n == a) h))

pub others_take : OthersTakeOne
others_take catalog path None payload = ((λ h. inl refl, λ h. refl), (λ h. inl refl, λ h. refl))
others_take catalog path (Some n) payload = (
  (
    λ h. inr (is_only 11542 n h),
    λ h. elim h [ inl e ↦ cc | inr e ↦ let is : n ≡ 11542 = cc in ap (λ (m : ℕ). not (m == 11542)) is ],
  ),
  (
    λ h. inr (is_only 0 n h),
    λ h. elim h [ inl e ↦ cc | inr e ↦ let is : n ≡ 0 = cc in ap (λ (m : ℕ). not (m == 0)) is ],
  ),
)
