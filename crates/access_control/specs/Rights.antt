-- What a server may do to an object instance (OMA LwM2M 1.1 Core, access control; the cases are this profile's).
use Rattle.std.specs.Prelude.{ℕ, ◌==◌, nat_le, ℤ, bit_and, Bool, true, false, not, ◌&&◌, Option, None}
use Rattle.std.specs.Prelude.{Some, find, if◌then◌else◌}
use Rattle.std.specs.Int.{w64, cast_unsigned}
use Rattle.lwm2m_values.specs.Value.{is_integer}
use Rattle.lwm2m_values.specs.declared.value.Value.{Value}
use Rattle.lwm2m_values.specs.declared.value.Value.TheVariants.{Text, Whole, Flag, Opaque, Moment, Link}
use Rattle.object_defs.specs.declared.path.ResourcePath.{ResourcePath}
use Rattle.object_defs.specs.Path.{single_of, part_of}
use Rattle.object_defs.specs.Numbers.{access_control_object, object_id, object_instance_id, acl, access_control_owner}
use Rattle.instance_store.specs.Stored.{Stored, value_at, instances_of}
use Rattle.access_control.specs.declared.letters.Rights.{Rights}

-- no letter, R alone, R and W, and all five
abbrev pub no_right : Rights
no_right = record { read = false; write = false; execute = false; delete = false; create = false }

abbrev pub read_alone : Rights
read_alone = record { read = true; write = false; execute = false; delete = false; create = false }

abbrev pub read_and_write : Rights
read_and_write = record { read = true; write = true; execute = false; delete = false; create = false }

abbrev pub every_right : Rights
every_right = record { read = true; write = true; execute = true; delete = true; create = true }

-- whether a number has this bit
abbrev pub has_bit : ℕ → ℕ → Bool
has_bit bits bit = not (bit_and bits bit == 0)

-- the letters of an entry: the low five bits of its number in two's complement, from the lowest R, W, E, D, C
abbrev pub letters_in : ℕ → Rights
letters_in bits =
    record {
      read = has_bit bits 1;
      write = has_bit bits 2;
      execute = has_bit bits 4;
      delete = has_bit bits 8;
      create =
          has_bit bits 16;
    }

abbrev pub letters_of : ℤ → Rights
letters_of number = letters_in (cast_unsigned w64 number)

-- a resource of an instance of Access Control
abbrev pub control : ℕ → ℕ → ResourcePath
control instance resource = record { object = access_control_object; instance = instance; resource = resource }

-- the Integer that stands at a path, if there is one
abbrev pub integer_in : Option Value → Option ℤ
integer_in None = None
integer_in (Some (Text _)) = None
integer_in (Some (Whole z)) = Some z
integer_in (Some (Flag _)) = None
integer_in (Some (Opaque _)) = None
integer_in (Some (Moment _)) = None
integer_in (Some (Link _ _)) = None

-- whether a single resource of an instance of Access Control holds this number
abbrev pub names : Stored → ℕ → ℕ → ℕ → Bool
names stored j resource n = is_integer n (integer_in (value_at stored (single_of (control j resource))))

-- the entry of a server in the ACL of an instance of Access Control; entry 0 is the default
abbrev pub entry_of : Stored → ℕ → ℕ → Option ℤ
entry_of stored j server = integer_in (value_at stored (part_of (control j acl) server))

-- whether the server is the Access Control Owner
abbrev pub owns : Stored → ℕ → ℕ → Bool
owns stored j server = names stored j access_control_owner server

-- whether an instance of Access Control speaks of this object and instance
abbrev pub speaks_of : Stored → ℕ → ℕ → ℕ → Bool
speaks_of stored j object instance =
    names stored j object_id object && names stored j object_instance_id instance

-- the lowest instance of Access Control that does
abbrev pub control_of : Stored → ℕ → ℕ → Option ℕ
control_of stored object instance =
    find (λ j. speaks_of stored j object instance) (instances_of stored access_control_object)

-- by entry 0, if there is one
abbrev pub right_by_default : Option ℤ → Rights
right_by_default None = no_right
right_by_default (Some number) = letters_of number

-- by the server's own entry; without one every right for the owner; else by entry 0
abbrev pub right_by_entry : Stored → ℕ → ℕ → Option ℤ → Rights
right_by_entry stored j server (Some number) = letters_of number
right_by_entry stored j server None =
    if owns stored j server then every_right else right_by_default (entry_of stored j 0)

abbrev pub right_by : Stored → ℕ → Option ℕ → Rights
right_by stored server None = no_right
right_by stored server (Some j) = right_by_entry stored j server (entry_of stored j server)

-- an instance of Access Control itself can be read by all, and written by its owner
abbrev pub right_on_control : Stored → ℕ → ℕ → Rights
right_on_control stored server j = if owns stored j server then read_and_write else read_alone

-- the right of a server on an instance, in a device with this many accounts: one alone has every right
abbrev pub right_of : Stored → ℕ → ℕ → ℕ → ℕ → Rights
right_of stored accounts server object instance =
    if nat_le accounts 1 then every_right
    else (if object == access_control_object then right_on_control stored server instance
    else right_by stored server (control_of stored object instance))

-- the instance number that no instance has, by which creating is allowed
abbrev pub creation : ℕ
creation = 65535
