-- The layouts of paths, kinds and values are exact.
use Rattle.std.proofs.Common.{◌≡◌, ℕ, zero, suc, ◌<◌, true, Option, None, Some, refl, ap, arith}
use Rattle.std.specs.Prelude.{nat_lt, ◌==◌, unwrap_or}
use Rattle.std.specs.Int.{w8, w16, w64}
use Rattle.std.specs.Str.{is_utf8}
use Rattle.std.proofs.lemmas.Bool.{ltb-true}
use Rattle.byte_layout.specs.declared.fault.Break.TheVariants.{BadField}
use Rattle.byte_layout.specs.Layout.{Layout, number, signed_number, layout_with_test, at_most, split, last}
use Rattle.byte_layout.specs.Layout.{bytes_with_length}
use Rattle.byte_layout.specs.Exact.{IsExact}
use Rattle.byte_layout.proofs.Fields.{byte_exact, short_exact}
use Rattle.byte_layout.proofs.Layouts.{fits_exact, at_most_exact, done_exact, split_exact, last_exact, sized_exact}
use Rattle.byte_layout.proofs.Signed.{signed64_exact}
use Rattle.lwm2m_values.specs.declared.kind.ValueKind.{ValueKind}
use Rattle.lwm2m_values.specs.declared.kind.ValueKind.TheVariants as kinds
use Rattle.lwm2m_values.specs.declared.value.Value.{Value}
use Rattle.lwm2m_values.specs.declared.value.Value.TheVariants as values
use Rattle.lwm2m_values.specs.Value.{kind_of}
use Rattle.object_defs.specs.declared.path.FullPath.{FullPath}
use Rattle.scenario_layout.specs.Value.{place, place_of, flag_of, behind_flag, part_number, path, path_of, kind_number}
use Rattle.scenario_layout.specs.Value.{kind_numbered, kind, bytes_in, number_in, flag_in, object_in, instance_in, text}
use Rattle.scenario_layout.specs.Value.{opaque, of_kind, fits, value}

pub place_exact : IsExact place
unfolding place
place_exact =
    split_exact (λ p. p.object) (number w16) (λ o. last (λ p. p.instance) (place_of o) (number w16)) short_exact
    (λ o good. last_exact (λ p. p.instance) (place_of o) (number w16) short_exact (λ i ok. refl))
    (λ o good p h. ap (λ q. q.object) h.1)

behind_flag_exact : (n : ℕ) → IsExact (behind_flag n)
behind_flag_exact zero = done_exact None
behind_flag_exact (suc n) = last_exact (λ o. unwrap_or o 0) (λ m. Some m) (number w16) short_exact (λ m ok. refl)

flag_agrees : (n : ℕ) → nat_lt n 2 ≡ true → (o : Option ℕ) → (behind_flag n).Good o → flag_of o ≡ n
flag_agrees zero lt o h = ap flag_of h
flag_agrees (suc zero) lt o h = ap flag_of h.1
flag_agrees (suc (suc n)) lt o h = absurd (let small : suc (suc n) < 2 = ltb-true (suc (suc n)) 2 lt in omega arith)

part_number_exact : IsExact part_number
unfolding part_number
part_number_exact =
    split_exact flag_of (layout_with_test BadField (λ n. nat_lt n 2) (number w8)) behind_flag
    (fits_exact (λ n. nat_lt n 2) (number w8) byte_exact)
    (λ n good. behind_flag_exact n)
    (λ n good o h. flag_agrees n good.1 o h)

-- a path after its first two numbers, and after its first
abbrev resource_on : ℕ → ℕ → Layout FullPath
resource_on o i = split (λ p. p.resource) (number w16) (λ r. last (λ p. p.part) (path_of o i r) part_number)

abbrev instance_on : ℕ → Layout FullPath
instance_on o = split (λ p. p.instance) (number w16) (resource_on o)

resource_on_exact : (o i : ℕ) → IsExact (resource_on o i)
resource_on_exact o i =
    split_exact (λ p. p.resource) (number w16) (λ r. last (λ p. p.part) (path_of o i r) part_number) short_exact
    (λ r good. last_exact (λ p. p.part) (path_of o i r) part_number part_number_exact (λ n ok. refl))
    (λ r good p h. ap (λ q. q.resource) h.1)

instance_on_exact : (o : ℕ) → IsExact (instance_on o)
instance_on_exact o =
    split_exact (λ p. p.instance) (number w16) (resource_on o) short_exact (λ i good. resource_on_exact o i)
    (λ i good p h. ap (λ q. q.instance) h.1.1)

pub path_exact : IsExact path
unfolding path
path_exact =
    split_exact (λ p. p.object) (number w16) instance_on short_exact (λ o good. instance_on_exact o)
    (λ o good p h. ap (λ q. q.object) h.1.1.1)

numbered : (n : ℕ) → nat_lt n 6 ≡ true → kind_number (kind_numbered n) ≡ n
numbered zero lt = refl
numbered (suc zero) lt = refl
numbered (suc (suc zero)) lt = refl
numbered (suc (suc (suc zero))) lt = refl
numbered (suc (suc (suc (suc zero)))) lt = refl
numbered (suc (suc (suc (suc (suc zero))))) lt = refl
numbered (suc (suc (suc (suc (suc (suc n)))))) lt =
    absurd (let small : suc (suc (suc (suc (suc (suc n))))) < 6 =
    ltb-true (suc (suc (suc (suc (suc (suc n)))))) 6 lt in omega arith)

pub kind_exact : IsExact kind
unfolding kind
kind_exact =
    last_exact kind_number kind_numbered (layout_with_test BadField (λ n. nat_lt n 6) (number w8))
    (fits_exact (λ n. nat_lt n 6) (number w8) byte_exact)
    (λ n good. numbered n good.1)

text_exact : IsExact text
unfolding text
text_exact = fits_exact is_utf8 (bytes_with_length (number w8)) (sized_exact (number w8) byte_exact)

opaque_exact : IsExact opaque
unfolding opaque
opaque_exact = sized_exact (at_most 1024 (number w16)) (at_most_exact 1024 (number w16) short_exact)

flag_again : (n : ℕ) → nat_lt n 2 ≡ true → flag_in (values.Flag (n == 1)) ≡ n
flag_again zero lt = refl
flag_again (suc zero) lt = refl
flag_again (suc (suc n)) lt = absurd (let small : suc (suc n) < 2 = ltb-true (suc (suc n)) 2 lt in omega arith)

of_kind_exact : (k : ValueKind) → IsExact (of_kind k)
of_kind_exact kinds.Text = last_exact bytes_in (λ t. values.Text t) text text_exact (λ t ok. refl)
of_kind_exact kinds.Whole = last_exact number_in (λ z. values.Whole z) (signed_number w64) signed64_exact (λ z ok. refl)
of_kind_exact kinds.Flag =
    last_exact flag_in (λ n. values.Flag (n == 1)) (layout_with_test BadField (λ n. nat_lt n 2) (number w8))
    (fits_exact (λ n. nat_lt n 2) (number w8) byte_exact) (λ n good. flag_again n good.1)
of_kind_exact kinds.Opaque = last_exact bytes_in (λ b. values.Opaque b) opaque opaque_exact (λ b ok. refl)
of_kind_exact kinds.Moment =
    last_exact number_in (λ z. values.Moment z) (signed_number w64) signed64_exact (λ z ok. refl)
of_kind_exact kinds.Link =
    split_exact object_in (number w16) (λ o. last instance_in (λ i. values.Link o i) (number w16)) short_exact
    (λ o good. last_exact instance_in (λ i. values.Link o i) (number w16) short_exact (λ i ok. refl))
    (λ o good v h. ap object_in h.1)

kind_agrees : (k : ValueKind) (v : Value) → (of_kind k).Good v → kind_of v ≡ k
kind_agrees kinds.Text v h = ap kind_of h.1
kind_agrees kinds.Whole v h = ap kind_of h.1
kind_agrees kinds.Flag v h = ap kind_of h.1
kind_agrees kinds.Opaque v h = ap kind_of h.1
kind_agrees kinds.Moment v h = ap kind_of h.1
kind_agrees kinds.Link v h = ap kind_of h.1.1

pub value_exact : (wanted : Option ValueKind) → IsExact (value wanted)
unfolding value
value_exact wanted =
    split_exact kind_of (layout_with_test BadField (fits wanted) kind) of_kind
    (fits_exact (fits wanted) kind kind_exact)
    (λ k good. of_kind_exact k)
    (λ k good v h. kind_agrees k v h)
