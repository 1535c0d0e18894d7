-- What decides a right, where there are several accounts.
use Rattle.std.proofs.Common.{◌≡◌, ℕ, ℤ, Bool, true, false, not, ◌==◌, nat_le, cond, List, [], ◌∷◌, length, filter}
use Rattle.std.proofs.Common.{None, Some, refl, sym, ap, subst, ◌∙◌, ◌≤◌, get_or, arith}
use Rattle.std.specs.List.{list_any}
use Rattle.std.proofs.lemmas.Bool.{ne_eqb, not-true}
use Rattle.lemmas.proofs.Tests.{never_both, or_first, or_second}
use Rattle.object_defs.specs.Path.{object_in}
use Rattle.object_defs.specs.declared.path.Path.{Path}
use Rattle.object_defs.specs.declared.path.Path.TheVariants.{Object, Instance, Resource, Part}
use Rattle.instance_store.specs.Stored.{Stored, instances_of}
use Rattle.access_control.specs.Rights.{control_of, entry_of, every_right, letters_of, right_of}
use Rattle.access_control.specs.declared.letters.Rights.{Rights}
use Rattle.coap_codec.specs.Message.{Message}
use Rattle.device_requests.specs.declared.operation.Operation.{Operation}
use Rattle.device_requests.specs.declared.operation.Operation.TheVariants.{Read, Discover, WriteAttributes}
use Rattle.device_requests.specs.declared.operation.Operation.TheVariants.{WriteReplace, WritePartial, Create, Execute}
use Rattle.device_requests.specs.declared.operation.Operation.TheVariants.{Delete}
use Rattle.device_requests.specs.Access.{may_read, reads, rights_on, shown_instances}
use Rattle.device_requests.specs.Client.{Client}
use Rattle.device_requests.specs.Refusals.{lacks_right}
use Rattle.device_requests.specs.Request.{purpose_of}
use Rattle.request_reasons.specs.declared.right.Grant.{Grant}
use Rattle.request_reasons.specs.declared.right.Letter.{Letter}
use Rattle.request_reasons.specs.declared.right.Letter.TheVariants as letter
use Rattle.request_reasons.specs.Rights.{IsDenied, IsDeniedAll, IsGrant, has_letter, instance_asked}
use Rattle.request_reasons.specs.Rights.{is_read_of_object, letter_for, right_on, rights_by}

-- the letters of the server's own entry
pub own_rights : (stored : Stored) (server o i j : ℕ) (number : ℤ) → (o ≡ 2 → ⊥) → control_of stored o i ≡ Some j
    → entry_of stored j server ≡ Some number → right_of stored 2 server o i ≡ letters_of number
own_rights stored server o i j number h k e = rw (ne_eqb o 2 h) (rw k (rw e refl))

-- one account alone has every right, so where there is a right that a server lacks there are two accounts or more
abbrev IsSeveral : ℕ → Type 0
IsSeveral accounts = nat_le accounts 1 ≡ false

-- a letter is lacking, where there are several
several_if : (few : Bool) (letter : Letter) (rights : Rights) → has_letter letter (cond few every_right rights) ≡ false
    → few ≡ false
several_if false letter rights h = refl
several_if true letter.R rights h = cc
several_if true letter.W rights h = cc
several_if true letter.E rights h = cc
several_if true letter.D rights h = cc
several_if true letter.C rights h = cc

pub several : (stored : Stored) (accounts server o i : ℕ) (letter : Letter)
    → has_letter letter (right_of stored accounts server o i) ≡ false → IsSeveral accounts
several stored accounts server o i letter = several_if (nat_le accounts 1) letter _

-- the right is then that of two accounts
pub as_of_two : (stored : Stored) (accounts server o i : ℕ) → IsSeveral accounts
    → right_of stored 2 server o i ≡ right_of stored accounts server o i
as_of_two stored accounts server o i h = rw h refl

-- ---- one instance

-- the right that is asked for is that on one instance
rights_asked : (client : Client) (server : ℕ) (path : Path) → rights_on client server path
    ≡ right_on client server (object_in path) (instance_asked path)
rights_asked client server (Object o) = refl
rights_asked client server (Instance o i) = refl
rights_asked client server (Resource o i r) = refl
rights_asked client server (Part o i r n) = refl

never_none : (is_control : Bool) → cond is_control (Some letter.W) (Some letter.R) ≡ None → ⊥
never_none true e = cc
never_none false e = cc

lacked : (rights : Rights) (asked given : Letter) → Some asked ≡ Some given → not (has_letter asked rights) ≡ true
    → has_letter given rights ≡ false
lacked rights asked given e h =
    let same : asked ≡ given = cc in
    ap (λ (l : Letter). has_letter l rights) (sym same) ∙ not-true (has_letter asked rights) h

lacked_by : (rights : Rights) (is_control : Bool) (given : Letter)
    → cond is_control (Some letter.W) (Some letter.R) ≡ Some given
    → not (cond is_control rights.write rights.read) ≡ true → has_letter given rights ≡ false
lacked_by rights true given e h = lacked rights letter.W given e h
lacked_by rights false given e h = lacked rights letter.R given e h

-- the letter that an operation on an instance lacks
pub lacking_letter : (client : Client) (server : ℕ) (m : Message) (path : Path) (operation : Operation) (given : Letter)
    → lacks_right client server path (purpose_of m operation) ≡ true → is_read_of_object operation path ≡ false
    → letter_for operation (object_in path) ≡ Some given
    → has_letter given (right_on client server (object_in path) (instance_asked path)) ≡ false
lacking_letter client server m (Object o) Read given h k e = cc
lacking_letter client server m (Instance o i) Read given h k e = lacked (right_on client server o i) letter.R given e h
lacking_letter client server m (Resource o i r) Read given h k e =
    lacked (right_on client server o i) letter.R given e h
lacking_letter client server m (Part o i r n) Read given h k e =
    lacked (right_on client server o i) letter.R given e h
lacking_letter client server m path Discover given h k e = cc
lacking_letter client server m path WriteReplace given h k e =
    let same = rights_asked client server path in
    lacked (right_on client server (object_in path) (instance_asked path)) letter.W given e
    (ap (λ (rights : Rights). not rights.write) (sym same) ∙ h)
lacking_letter client server m path WritePartial given h k e =
    let same = rights_asked client server path in
    lacked (right_on client server (object_in path) (instance_asked path)) letter.W given e
    (ap (λ (rights : Rights). not rights.write) (sym same) ∙ h)
lacking_letter client server m (Object o) WriteAttributes given h k e = cc
lacking_letter client server m (Instance o i) WriteAttributes given h k e =
    lacked_by (right_on client server o i) (o == 2) given e h
lacking_letter client server m (Resource o i r) WriteAttributes given h k e =
    lacked_by (right_on client server o i) (o == 2) given e h
lacking_letter client server m (Part o i r n) WriteAttributes given h k e =
    lacked_by (right_on client server o i) (o == 2) given e h
lacking_letter client server m path Create given h k e =
    let same = rights_asked client server path in
    lacked (right_on client server (object_in path) (instance_asked path)) letter.C given e
    (ap (λ (rights : Rights). not rights.create) (sym same) ∙ h)
lacking_letter client server m path Execute given h k e =
    let same = rights_asked client server path in
    lacked (right_on client server (object_in path) (instance_asked path)) letter.E given e
    (ap (λ (rights : Rights). not rights.execute) (sym same) ∙ h)
lacking_letter client server m path Delete given h k e =
    let same = rights_asked client server path in
    lacked (right_on client server (object_in path) (instance_asked path)) letter.D given e
    (ap (λ (rights : Rights). not rights.delete) (sym same) ∙ h)

-- only Discover asks for no letter, and it lacks no right
pub asks_letter : (client : Client) (server : ℕ) (m : Message) (path : Path) (operation : Operation)
    → lacks_right client server path (purpose_of m operation) ≡ true → letter_for operation (object_in path) ≡ None → ⊥
asks_letter client server m path Discover h e = cc
asks_letter client server m path Read h e = cc
asks_letter client server m path WriteReplace h e = cc
asks_letter client server m path WritePartial h e = cc
asks_letter client server m path WriteAttributes h e = never_none (object_in path == 2) e
asks_letter client server m path Create h e = cc
asks_letter client server m path Execute h e = cc
asks_letter client server m path Delete h e = cc

-- ---- all instances of an object

unread : (p : ℕ → Bool) (ns : List ℕ) → list_any p ns ≡ false → filter p ns ≡ []
unread p [] h = refl
unread p (n ∷ ns) h = rw (or_first (p n) (list_any p ns) h) (unread p ns (or_second (p n) (list_any p ns) h))

-- a server that may not read an object may read none of its instances
pub none_shown : (client : Client) (server o : ℕ) → may_read client server (Object o) ≡ false
    → shown_instances client.store (length client.accounts) server o ≡ []
none_shown client server o h =
    let instances = instances_of client.store o in
    unread (reads client.store (length client.accounts) server o) instances
    (or_second (length instances == 0) (list_any (reads client.store (length client.accounts) server o) instances) h)

first_unread : (p : ℕ → Bool) (n : ℕ) (ns rest : List ℕ) → list_any p ns ≡ false → ns ≡ n ∷ rest → p n ≡ false
first_unread p n ns rest h e = or_first (p n) (list_any p rest) (ap (list_any p) (sym e) ∙ h)

-- not even the first
pub first_denied : (client : Client) (server o n : ℕ) (rest : List ℕ) → may_read client server (Object o) ≡ false
    → instances_of client.store o ≡ n ∷ rest → has_letter letter.R (right_on client server o n) ≡ false
first_denied client server o n rest h e =
    let instances = instances_of client.store o in
    first_unread (reads client.store (length client.accounts) server o) n instances rest
    (or_second (length instances == 0) (list_any (reads client.store (length client.accounts) server o) instances) h) e

-- there is one
pub has_some : (client : Client) (server o : ℕ) → may_read client server (Object o) ≡ false
    → length (instances_of client.store o) ≡ 0 → ⊥
has_some client server o h e =
    let instances = instances_of client.store o in
    let none : (length instances == 0) ≡ false =
    or_first (length instances == 0) (list_any (reads client.store (length client.accounts) server o) instances) h in
    never_both (length instances == 0) (ap (λ (n : ℕ). n == 0) e) none

-- ---- what is returned

grant_on : (stored there : Stored) (server o p i j : ℕ) (grant : Grant) → stored ≡ there → o ≡ p → i ≡ j
    → IsGrant stored server o i grant → IsGrant there server p j grant
grant_on stored there server o p i j grant s e k h =
    subst (λ (x : Stored). IsGrant x server p j grant) s (subst (λ (x : ℕ). IsGrant stored server x j grant) e
    (subst (λ (x : ℕ). IsGrant stored server o x grant) k h))

pub denied_by : (client : Client) (server : ℕ) (m : Message) (path : Path) (operation : Operation) (given : Letter)
    (stored : Stored) (o i : ℕ) (grant : Grant) → lacks_right client server path (purpose_of m operation) ≡ true
    → is_read_of_object operation path ≡ false → o ≡ object_in path → i ≡ instance_asked path → stored ≡ client.store
    → letter_for operation o ≡ Some given → IsGrant stored server o i grant
    → rights_by grant ≡ right_of stored 2 server o i → IsDenied client server path operation given i grant
denied_by client server m path operation given stored o i grant h k e f s l granted gives =
    let asked = ap (letter_for operation) (sym e) ∙ l in
    let lacking = lacking_letter client server m path operation given h k asked in
    let many =
    several client.store (length client.accounts) server (object_in path) (instance_asked path) given lacking in
    record {
      asked = asked;
      asked_on = sym f;
      lacking = ap (λ (n : ℕ). has_letter given (right_on client server (object_in path) n)) f ∙ lacking;
      granted = grant_on stored client.store server o (object_in path) i i grant s e refl granted;
      gives =
          gives ∙ ap (λ (x : Stored). right_of x 2 server o i) s
          ∙ ap (λ (x : ℕ). right_of client.store 2 server x i) e
          ∙ as_of_two client.store (length client.accounts) server (object_in path) i many;
    }

pub denied_all_by : (client : Client) (server o : ℕ) (stored : Stored) (ns : List ℕ) (grant : Grant)
    → may_read client server (Object o) ≡ false → stored ≡ client.store → ns ≡ instances_of stored o → 1 ≤ length ns
    → IsGrant stored server o (get_or ns 0 0) grant → rights_by grant ≡ right_of stored 2 server o (get_or ns 0 0)
    → IsDeniedAll client server o (length ns) (get_or ns 0 0) grant
denied_all_by client server o stored [] grant h s e some granted gives = absurd (omega arith)
denied_all_by client server o stored (n ∷ rest) grant h s e some granted gives =
    let first = ap (λ (x : Stored). instances_of x o) (sym s) ∙ sym e in
    let many =
    several client.store (length client.accounts) server o n letter.R
    (first_denied client server o n rest h first) in
    record {
      none = none_shown client server o h;
      counted = ap length first;
      rest = rest;
      first = first;
      granted = grant_on stored client.store server o o n n grant s refl refl granted;
      gives =
          gives ∙ ap (λ (x : Stored). right_of x 2 server o n) s
          ∙ as_of_two client.store (length client.accounts) server o n many;
    }
