-- Rule 8: the right that is asked for, and what gives or denies it (OMA LwM2M 1.1 Core, access control).
use Rattle.std.specs.Prelude.{◌≡◌, ◌≢◌, ℕ, ◌==◌, Bool, true, false, List, [], ◌∷◌, length, Option, None, Some}
use Rattle.std.specs.Prelude.{if◌then◌else◌}
use Rattle.object_defs.specs.Numbers.{access_control_object}
use Rattle.object_defs.specs.Path.{object_in}
use Rattle.object_defs.specs.declared.path.Path.{Path}
use Rattle.object_defs.specs.declared.path.Path.TheVariants.{Object, Instance, Resource, Part}
use Rattle.instance_store.specs.Stored.{Stored, instances_of}
use Rattle.access_control.specs.Rights.{control_of, creation, entry_of, every_right, letters_of, no_right, owns}
use Rattle.access_control.specs.Rights.{read_alone, read_and_write, right_of}
use Rattle.access_control.specs.declared.letters.Rights.{Rights}
use Rattle.device_requests.specs.declared.operation.Operation.{Operation}
use Rattle.device_requests.specs.declared.operation.Operation.TheVariants.{Read, Discover, WriteAttributes}
use Rattle.device_requests.specs.declared.operation.Operation.TheVariants.{WriteReplace, WritePartial, Create, Execute}
use Rattle.device_requests.specs.declared.operation.Operation.TheVariants.{Delete}
use Rattle.device_requests.specs.Access.{shown_instances}
use Rattle.device_requests.specs.Client.{Client}
use Rattle.request_reasons.specs.declared.right.Grant.{Grant}
use Rattle.request_reasons.specs.declared.right.Grant.TheVariants.{OfControl, Unreferred, Own, Owner, Default, NoEntry}
use Rattle.request_reasons.specs.declared.right.Letter.{Letter}
use Rattle.request_reasons.specs.declared.right.Letter.TheVariants as letter

-- a right has this letter
abbrev pub has_letter : Letter → Rights → Bool
has_letter letter.R rights = rights.read
has_letter letter.W rights = rights.write
has_letter letter.E rights = rights.execute
has_letter letter.D rights = rights.delete
has_letter letter.C rights = rights.create

-- the letter that an operation on an object asks for; Discover asks for none
abbrev pub letter_for : Operation → ℕ → Option Letter
letter_for Read object = Some letter.R
letter_for Discover object = None
letter_for WriteReplace object = Some letter.W
letter_for WritePartial object = Some letter.W
letter_for WriteAttributes object = if object == access_control_object then Some letter.W else Some letter.R
letter_for Create object = Some letter.C
letter_for Execute object = Some letter.E
letter_for Delete object = Some letter.D

-- a Read of an object needs the letter R on one of its instances, every other operation its letter on one instance
abbrev pub is_read_of_object : Operation → Path → Bool
is_read_of_object Read (Object o) = true
is_read_of_object operation path = false

-- the instance on which it is asked for; instances are created by the right on one that no instance has
abbrev pub instance_asked : Path → ℕ
instance_asked (Object o) = creation
instance_asked (Instance o i) = i
instance_asked (Resource o i r) = i
instance_asked (Part o i r n) = i

-- what decides the right of a server on an instance, where there are several accounts: whether it owns the instance of
-- Access Control that this is; that no instance of Access Control refers to it; the server's own entry in the lowest
-- one that does; without one, that the server owns that one; else entry 0 there, or that there is none
abbrev pub IsGrant : Stored → ℕ → ℕ → ℕ → Grant → Type 0
IsGrant stored server o i (OfControl is_owner) = (o ≡ access_control_object) × (owns stored i server ≡ is_owner)
IsGrant stored server o i Unreferred = (o ≢ access_control_object) × (control_of stored o i ≡ None)
IsGrant stored server o i (Own control number rights) =
    (o ≢ access_control_object) × (control_of stored o i ≡ Some control)
    × (entry_of stored control server ≡ Some number) × (letters_of number ≡ rights)
IsGrant stored server o i (Owner control) =
    (o ≢ access_control_object) × (control_of stored o i ≡ Some control) × (entry_of stored control server ≡ None)
    × (owns stored control server ≡ true)
IsGrant stored server o i (Default control number rights) =
    (o ≢ access_control_object) × (control_of stored o i ≡ Some control) × (entry_of stored control server ≡ None)
    × (owns stored control server ≡ false) × (entry_of stored control 0 ≡ Some number) × (letters_of number ≡ rights)
IsGrant stored server o i (NoEntry control) =
    (o ≢ access_control_object) × (control_of stored o i ≡ Some control) × (entry_of stored control server ≡ None)
    × (owns stored control server ≡ false) × (entry_of stored control 0 ≡ None)

-- the right that it gives
abbrev pub rights_by : Grant → Rights
rights_by (OfControl true) = read_and_write
rights_by (OfControl false) = read_alone
rights_by Unreferred = no_right
rights_by (Own control number rights) = rights
rights_by (Owner control) = every_right
rights_by (Default control number rights) = rights
rights_by (NoEntry control) = no_right

-- the right of a server on an instance of an object
abbrev pub right_on : Client → ℕ → ℕ → ℕ → Rights
right_on client server o i = right_of client.store (length client.accounts) server o i

-- the server lacks the letter that the operation asks for on this instance, since this decides its right there
pub record IsDenied (client : Client) (server : ℕ) (path : Path) (operation : Operation) (letter : Letter)
    (instance : ℕ) (grant : Grant) : Type 0 where
  pub asked : letter_for operation (object_in path) ≡ Some letter
  pub asked_on : instance_asked path ≡ instance
  pub lacking : has_letter letter (right_on client server (object_in path) instance) ≡ false
  pub granted : IsGrant client.store server (object_in path) instance grant
  pub gives : rights_by grant ≡ right_on client server (object_in path) instance

-- the server lacks R on all of these instances of an object, on the first of them since this decides its right there
pub record IsDeniedAll (client : Client) (server o : ℕ) (count instance : ℕ) (grant : Grant) : Type 0 where
  pub none : shown_instances client.store (length client.accounts) server o ≡ []
  pub counted : length (instances_of client.store o) ≡ count
  pub rest : List ℕ
  pub first : instances_of client.store o ≡ instance ∷ rest
  pub granted : IsGrant client.store server o instance grant
  pub gives : rights_by grant ≡ right_on client server o instance
