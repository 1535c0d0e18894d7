-- Which recorded requests a message repeats.
use Rattle.std.proofs.Common.{◌≡◌, ℕ, ◌-◌, ◌==◌, Bool, true, false, ◌&&◌}
use Rattle.std.proofs.Common.{List, [], ◌∷◌, ◌++◌, cond, None, Some}
use Rattle.std.proofs.Common.{refl, sym, ap, ◌∙◌, eq-eqb}
use Rattle.std.specs.List.{AllByRecursion, find}
use Rattle.std.proofs.lemmas.Bool.{eqb-true, lt-ltb, ltb-true}
use Rattle.lemmas.proofs.Lists.{each_weaker}
use Rattle.coap_codec.specs.Message.{Message, kind_number}
use Rattle.coap_codec.specs.Reading.{kind_of}
use Rattle.coap_codec.specs.declared.kind.Kind.{Kind}
use Rattle.coap_codec.proofs.OneReading.{kind_again}
use Rattle.device_machine.specs.Reactions.{is_same}
use Rattle.device_machine.specs.Reactions.{repeat_of}
use Rattle.device_machine.specs.State.{Machine, is_live, lifetime}
use Rattle.device_machine.specs.declared.recorded.Recorded.{Recorded}
use Rattle.laws_device.specs.Receiving.{IsNotRepeated, IsOldest}
use Rattle.laws_device.specs.Receiving.{IsRepeated}

-- ---- the first of a list that passes a test

pub record IsFound {X : Type 0} (p : X → Bool) (xs : List X) (x : X) : Type 0 where
  pub before : List X
  pub after : List X
  pub parts : xs ≡ before ++ x ∷ after
  pub passes : p x ≡ true
  pub fail : AllByRecursion (λ y. p y ≡ false) before

pub found_here : {X : Type 0} (p : X → Bool) (y : X) (xs : List X) (x : X) (b : Bool) → p y ≡ b
    → (find p xs ≡ Some x → IsFound p xs x) → cond b (Some y) (find p xs) ≡ Some x → IsFound p (y ∷ xs) x
found_here p y xs x true e next k =
    let same : y ≡ x = cc in
    record {
      before = [];
      after = xs;
      parts = ap (λ z. z ∷ xs) same;
      passes = sym (ap p same) ∙ e;
      fail = tt;
    }
found_here p y xs x false e next k =
    let rest = next k in
    record {
      before = y ∷ rest.before;
      after = rest.after;
      parts = ap (λ zs. y ∷ zs) rest.parts;
      passes = rest.passes;
      fail = (e, rest.fail);
    }

pub found : {X : Type 0} (p : X → Bool) (xs : List X) (x : X) → find p xs ≡ Some x → IsFound p xs x
found p [] x h = cc
found p (y ∷ xs) x h = found_here p y xs x (p y) refl (found p xs x) h

pub none_here : {X : Type 0} (p : X → Bool) (y : X) (xs : List X) (b : Bool) → p y ≡ b
    → (find p xs ≡ None → AllByRecursion (λ z. p z ≡ false) xs) → cond b (Some y) (find p xs) ≡ None
    → AllByRecursion (λ z. p z ≡ false) (y ∷ xs)
none_here p y xs true e next k = cc
none_here p y xs false e next k = (e, next k)

pub none_found : {X : Type 0} (p : X → Bool) (xs : List X) → find p xs ≡ None → AllByRecursion (λ y. p y ≡ false) xs
none_found p [] h = tt
none_found p (y ∷ xs) h = none_here p y xs (p y) refl (none_found p xs) h

pub finds : {X : Type 0} (p : X → Bool) (before after : List X) (x : X) → AllByRecursion (λ y. p y ≡ false) before
    → p x ≡ true → find p (before ++ x ∷ after) ≡ Some x
finds p [] after x h k = ap (λ b. cond b (Some x) (find p after)) k
finds p (y ∷ before) after x h k =
    ap (λ b. cond b (Some y) (find p (before ++ x ∷ after))) h.0 ∙ finds p before after x h.1 k

pub finds_none : {X : Type 0} (p : X → Bool) (xs : List X) → AllByRecursion (λ y. p y ≡ false) xs → find p xs ≡ None
finds_none p [] h = refl
finds_none p (y ∷ xs) h = ap (λ b. cond b (Some y) (find p xs)) h.0 ∙ finds_none p xs h.1

-- ---- which recorded requests are repeated

pub same_kind : (a b : Kind) → kind_number a ≡ kind_number b → a ≡ b
same_kind a b h = sym (kind_again a) ∙ ap kind_of h ∙ kind_again b

abbrev pub repeats_it : Machine → ℕ → Message → Recorded → Bool
repeats_it f server m r = is_live f.kept.clock r && is_same server m r

pub record Tests (live server mid kind : Bool) : Type 0 where
  pub lives : live ≡ true
  pub server_is : server ≡ true
  pub mid_is : mid ≡ true
  pub kind_is : kind ≡ true

pub all_tests : (live server mid kind : Bool) → (live && (server && (mid && kind))) ≡ true → Tests live server mid kind
all_tests true true true true h = record { lives = refl; server_is = refl; mid_is = refl; kind_is = refl }
all_tests true true true false h = cc
all_tests true true false kind h = cc
all_tests true false mid kind h = cc
all_tests false server mid kind h = cc

pub passed : (f : Machine) (server : ℕ) (m : Message) (r : Recorded) → repeats_it f server m r ≡ true
    → IsRepeated f server m r
passed f server m r h =
    let t = all_tests (is_live f.kept.clock r) (r.server == server) (r.mid == m.mid)
    (kind_number r.kind == kind_number m.kind) h in
    record {
      server_is = eqb-true r.server server t.server_is;
      kind_is = same_kind r.kind m.kind (eqb-true (kind_number r.kind) (kind_number m.kind) t.kind_is);
      mid_is = eqb-true r.mid m.mid t.mid_is;
      lives = ltb-true (f.kept.clock - r.second) (lifetime r.kind) t.lives;
    }

pub passes_it : (f : Machine) (server : ℕ) (m : Message) (r : Recorded) → IsRepeated f server m r
    → repeats_it f server m r ≡ true
passes_it f server m r h =
    let live : is_live f.kept.clock r ≡ true = lt-ltb (f.kept.clock - r.second) (lifetime r.kind) h.lives in
    let server_is : (r.server == server) ≡ true = eq-eqb r.server server h.server_is in
    let mid_is : (r.mid == m.mid) ≡ true = eq-eqb r.mid m.mid h.mid_is in
    let kind_is : (kind_number r.kind == kind_number m.kind) ≡ true =
    eq-eqb (kind_number r.kind) (kind_number m.kind) (ap kind_number h.kind_is) in
    rw (live, server_is, mid_is, kind_is) refl

pub not_passed : (f : Machine) (server : ℕ) (m : Message) (r : Recorded) → repeats_it f server m r ≡ false
    → IsNotRepeated f server m r
not_passed f server m r h k =
    let e : true ≡ false = sym (passes_it f server m r k) ∙ h in cc

pub fails_it : (f : Machine) (server : ℕ) (m : Message) (r : Recorded) → IsNotRepeated f server m r
    → repeats_it f server m r ≡ false
fails_it f server m r h = by (repeats_it f server m r) refl
  where
    by : (b : Bool) → repeats_it f server m r ≡ b → b ≡ false
    by true e = absurd (h (passed f server m r e))
    by false e = refl

pub oldest : (f : Machine) (server : ℕ) (m : Message) (r : Recorded) → repeat_of f server m ≡ Some r
    → IsOldest f server m r
oldest f server m r h =
    let is = found (repeats_it f server m) f.recorded r h in
    record {
      before = is.before;
      after = is.after;
      parts = is.parts;
      repeats = passed f server m r is.passes;
      no_older = each_weaker (λ q. repeats_it f server m q ≡ false) (IsNotRepeated f server m)
          (not_passed f server m) is.before is.fail;
    }

pub oldest_found : (f : Machine) (server : ℕ) (m : Message) (r : Recorded) → IsOldest f server m r
    → repeat_of f server m ≡ Some r
oldest_found f server m r h =
    ap (λ rs. find (repeats_it f server m) rs) h.parts
    ∙ finds (repeats_it f server m) h.before h.after r
    (each_weaker (IsNotRepeated f server m) (λ q. repeats_it f server m q ≡ false) (fails_it f server m) h.before
    h.no_older)
    (passes_it f server m r h.repeats)

pub none_repeated : (f : Machine) (server : ℕ) (m : Message) → repeat_of f server m ≡ None
    → AllByRecursion (IsNotRepeated f server m) f.recorded
none_repeated f server m h =
    each_weaker (λ q. repeats_it f server m q ≡ false) (IsNotRepeated f server m) (not_passed f server m) f.recorded
    (none_found (repeats_it f server m) f.recorded h)

pub no_repeat_found : (f : Machine) (server : ℕ) (m : Message) → AllByRecursion (IsNotRepeated f server m) f.recorded
    → repeat_of f server m ≡ None
no_repeat_found f server m h =
    finds_none (repeats_it f server m) f.recorded
    (each_weaker (IsNotRepeated f server m) (λ q. repeats_it f server m q ≡ false) (fails_it f server m) f.recorded h)
