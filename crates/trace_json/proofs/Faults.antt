-- The object of a fault, of which members may be left out.
use Rattle.std.proofs.Common.{◌≡◌, ℕ, ◌≤◌, List, [], ◌∷◌, ◌++◌, Option, None, Some, option_map, refl, sym, ap, ◌∙◌}
use Rattle.std.proofs.Common.{arith}
use Rattle.std.proofs.Common.{append_assoc}
use Rattle.json.specs.Token.{Token}
use Rattle.json.specs.Token as token
use Rattle.json.specs.Tree.{members_tokens}
use Rattle.serde_json.specs.Data.{Data, depth, members_depth, string}
use Rattle.serde_json.specs.Read.{max_depth}
use Rattle.serde_json.specs.Written.{members_outline}
use Rattle.trace_json.specs.declared.notes.FaultParts.{FaultParts}
use Rattle.trace_json.specs.Json.{Field, fields_json, number_json, object_json}
use Rattle.trace_json.specs.Notes.{fault_fields, fault_json, if_there}
use Rattle.trace_json.specs.Writing.{Has64Bits, IsReadAgain, MembersHave64Bits, fields_tokens, member_tokens, tokens_of}
use Rattle.trace_json.proofs.ReadAgain.{read_again}

-- ---- tokens

-- members, and the end of their object
pub members_end : (fs : List Field)
    → members_tokens (members_outline (fields_json fs)) ≡ fields_tokens fs ++ token.end_object ∷ []
members_end [] = refl
members_end (f ∷ fs) =
    ap (λ ts. member_tokens f.0 f.1 ++ ts) (members_end fs)
    ∙ sym (append_assoc (member_tokens f.0 f.1) (fields_tokens fs) (token.end_object ∷ []))

-- members, and others with the end of the object
pub fields_then : (fs gs : List Field)
    → members_tokens (members_outline (fields_json (fs ++ gs)))
    ≡ fields_tokens fs ++ members_tokens (members_outline (fields_json gs))
fields_then [] gs = refl
fields_then (f ∷ fs) gs =
    ap (λ ts. member_tokens f.0 f.1 ++ ts) (fields_then fs gs)
    ∙ sym
    (append_assoc (member_tokens f.0 f.1) (fields_tokens fs) (members_tokens (members_outline (fields_json gs))))

after : (fs gs : List Field) (ts us : List Token) → fields_tokens gs ++ ts ≡ us
    → fields_tokens (fs ++ gs) ++ ts ≡ fields_tokens fs ++ us
after [] gs ts us e = e
after (f ∷ fs) gs ts us e =
    append_assoc (member_tokens f.0 f.1) (fields_tokens (fs ++ gs)) ts
    ∙ ap (λ l. member_tokens f.0 f.1 ++ l) (after fs gs ts us e)
    ∙ sym (append_assoc (member_tokens f.0 f.1) (fields_tokens fs) us)

-- a first member, and five lists of members
pub five_lists : (k name : List ℕ) (a b c d e : List Field)
    → tokens_of (object_json ((k, string name) ∷ (a ++ (b ++ (c ++ (d ++ e))))))
    ≡ token.begin_object ∷ token.key k ∷ token.string name ∷ (fields_tokens a ++ (fields_tokens b ++ (fields_tokens c
    ++ (fields_tokens d ++ (fields_tokens e ++ token.end_object ∷ [])))))
five_lists k name a b c d e =
    let end = token.end_object ∷ [] in
    ap (λ ts. token.begin_object ∷ token.key k ∷ token.string name ∷ ts)
    (members_end (a ++ (b ++ (c ++ (d ++ e))))
    ∙ after a (b ++ (c ++ (d ++ e))) end _ (after b (c ++ (d ++ e)) end _
    (after c (d ++ e) end _ (after d e end _ refl))))

-- ---- numbers

pub both_exact : (fs gs : List Field) → MembersHave64Bits (fields_json fs) → MembersHave64Bits (fields_json gs)
    → MembersHave64Bits (fields_json (fs ++ gs))
both_exact [] gs h k = k
both_exact (f ∷ fs) gs h k = (h.0, both_exact fs gs h.1 k)

-- ---- depth

then_flat : {A : Type 0} (f : A → Data) → ((a : A) → depth (f a) ≤ 0) → (key : List ℕ) (o : Option A) (fs : List Field)
    → members_depth (fields_json fs) ≤ 0 → members_depth (fields_json (if_there key (option_map f o) ++ fs)) ≤ 0
then_flat f flat key None fs rest = rest
then_flat f flat key (Some a) fs rest = omega (arith, flat a, rest)

last_flat : {A : Type 0} (f : A → Data) → ((a : A) → depth (f a) ≤ 0) → (key : List ℕ) (o : Option A)
    → members_depth (fields_json (if_there key (option_map f o))) ≤ 0
last_flat f flat key None = omega arith
last_flat f flat key (Some a) = omega (arith, flat a)

fields_flat : (fault : FaultParts) → members_depth (fields_json (fault_fields fault)) ≤ 0
fields_flat fault =
    then_flat number_json (λ n. omega arith) _ fault.line _
    (then_flat number_json (λ n. omega arith) _ fault.place _
    (then_flat (λ x. string x.now) (λ x. omega arith) _ fault.cause _
    (then_flat (λ x. string x.now) (λ x. omega arith) _ fault.word _
    (last_flat (λ x. string x.now) (λ x. omega arith) _ fault.file))))

fault_depth : (fault : FaultParts) → depth (fault_json fault) ≤ max_depth
unfolding fault_json
fault_depth fault = omega (arith, fields_flat fault)

pub fault_again : (fault : FaultParts) → Has64Bits (fault_json fault) → IsReadAgain (fault_json fault)
fault_again fault exact = read_again (fault_json fault) exact (fault_depth fault)
