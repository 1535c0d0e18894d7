-- Paths, kinds and values as bytes, in this profile's formats.
use Rattle.std.specs.Prelude.{ℕ, zero, suc, ℤ, pos, ◌==◌, Bool, true, List, [], Option, None, Some, nat_lt, unwrap_or}
use Rattle.std.specs.Prelude.{if◌then◌else◌}
use Rattle.std.specs.Int.{w8, w16, w64}
use Rattle.std.specs.Str.{is_utf8}
use Rattle.byte_layout.specs.declared.fault.Break.TheVariants.{BadField}
use Rattle.byte_layout.specs.Layout.{Layout, number, signed_number, layout_with_test, at_most, constant_layout, split}
use Rattle.byte_layout.specs.Layout.{last, bytes_with_length}
use Rattle.lwm2m_values.specs.declared.kind.ValueKind.{ValueKind}
use Rattle.lwm2m_values.specs.declared.kind.ValueKind.TheVariants as kinds
use Rattle.lwm2m_values.specs.declared.value.Value.{Value}
use Rattle.lwm2m_values.specs.declared.value.Value.TheVariants as values
use Rattle.lwm2m_values.specs.Value.{kind_of}
use Rattle.object_defs.specs.declared.path.FullPath.{FullPath}
use Rattle.object_defs.specs.declared.path.InstancePath.{InstancePath}

-- ---- paths

-- object and instance
abbrev pub place_of : ℕ → ℕ → InstancePath
place_of o i = record { object = o; instance = i }

unfoldable pub place : Layout InstancePath
place = split (λ p. p.object) (number w16) (λ o. last (λ p. p.instance) (place_of o) (number w16))

-- 0 where there is no part, 1 before the number of one
abbrev pub flag_of : Option ℕ → ℕ
flag_of None = 0
flag_of (Some n) = 1

abbrev pub behind_flag : ℕ → Layout (Option ℕ)
behind_flag zero = constant_layout None
behind_flag (suc n) = last (λ o. unwrap_or o 0) (λ m. Some m) (number w16)

unfoldable pub part_number : Layout (Option ℕ)
part_number = split flag_of (layout_with_test BadField (λ n. nat_lt n 2) (number w8)) behind_flag

-- object, instance, resource, and the part's number where there is one
abbrev pub path_of : ℕ → ℕ → ℕ → Option ℕ → FullPath
path_of o i r n = record { object = o; instance = i; resource = r; part = n }

unfoldable pub path : Layout FullPath
path = split (λ p. p.object) (number w16)
    (λ o. split (λ p. p.instance) (number w16)
    (λ i. split (λ p. p.resource) (number w16) (λ r. last (λ p. p.part) (path_of o i r) part_number)))

-- ---- kinds

-- the number of a kind
abbrev pub kind_number : ValueKind → ℕ
kind_number kinds.Text = 0
kind_number kinds.Whole = 1
kind_number kinds.Flag = 2
kind_number kinds.Opaque = 3
kind_number kinds.Moment = 4
kind_number kinds.Link = 5

-- the kind of a number below 6
abbrev pub kind_numbered : ℕ → ValueKind
kind_numbered n =
    if n == 0 then kinds.Text else (if n == 1 then kinds.Whole
    else (if n == 2 then kinds.Flag else (if n == 3 then kinds.Opaque
    else (if n == 4 then kinds.Moment else kinds.Link))))

unfoldable pub kind : Layout ValueKind
kind = last kind_number kind_numbered (layout_with_test BadField (λ n. nat_lt n 6) (number w8))

-- ---- values

-- what the value of a kind holds; of another kind, anything
abbrev pub bytes_in : Value → List ℕ
bytes_in (values.Text t) = t
bytes_in (values.Opaque b) = b
bytes_in _ = []

abbrev pub number_in : Value → ℤ
number_in (values.Whole z) = z
number_in (values.Moment z) = z
number_in _ = pos 0

abbrev pub flag_in : Value → ℕ
flag_in (values.Flag true) = 1
flag_in _ = 0

abbrev pub object_in : Value → ℕ
object_in (values.Link o i) = o
object_in _ = 0

abbrev pub instance_in : Value → ℕ
instance_in (values.Link o i) = i
instance_in _ = 0

-- UTF-8 of at most 255 bytes, judged at its length
unfoldable pub text : Layout (List ℕ)
text = layout_with_test BadField is_utf8 (bytes_with_length (number w8))

-- at most 1,024 bytes
unfoldable pub opaque : Layout (List ℕ)
opaque = bytes_with_length (at_most 1024 (number w16))

-- what stands after the number of a kind
abbrev pub of_kind : ValueKind → Layout Value
of_kind kinds.Text = last bytes_in (λ t. values.Text t) text
of_kind kinds.Whole = last number_in (λ z. values.Whole z) (signed_number w64)
of_kind kinds.Flag = last flag_in (λ n. values.Flag (n == 1)) (layout_with_test BadField (λ n. nat_lt n 2) (number w8))
of_kind kinds.Opaque = last bytes_in (λ b. values.Opaque b) opaque
of_kind kinds.Moment = last number_in (λ z. values.Moment z) (signed_number w64)
of_kind kinds.Link = split object_in (number w16) (λ o. last instance_in (λ i. values.Link o i) (number w16))

-- a kind fits where none is wanted, and where it is the one that is
abbrev pub fits : Option ValueKind → ValueKind → Bool
fits None k = true
fits (Some wanted) k = kind_number k == kind_number wanted

-- a value of the kind that is wanted, judged at the number of its kind
unfoldable pub value : Option ValueKind → Layout Value
value wanted = split kind_of (layout_with_test BadField (fits wanted) kind) of_kind
