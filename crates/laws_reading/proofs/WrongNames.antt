-- Words that stand where one of some names has to stand.
use Rattle.std.proofs.Common.{◌≡◌, ℕ, ◌==◌, Bool, true, false, cond, List, [], ◌∷◌, Result, Ok, Err, inl, inr}
use Rattle.std.proofs.Common.{refl, sym, ap, ◌∙◌, arith, eq-eqb, ne_eqb}
use Rattle.std.specs.Prelude.{codes, is_ok}
use Rattle.std.specs.Char.{is_ascii_graphic}
use Rattle.std.specs.List.{list_all}
use Rattle.std.specs.Str.{bytes_eq}
use Rattle.std.proofs.lemmas.Bool.Decides.{nat_tests}
use Rattle.lwm2m_values.specs.declared.kind.ValueKind.{ValueKind}
use Rattle.lwm2m_values.specs.declared.kind.ValueKind.TheVariants as kind
use Rattle.object_defs.specs.declared.definition.Ops.{Ops}
use Rattle.object_defs.specs.declared.definition.Ops.TheVariants.{R, W, RW, E}
use Rattle.scenario_words.specs.declared.cause.Cause.{Cause}
use Rattle.scenario_words.specs.declared.cause.Cause.TheVariants.{Token, UnknownWord}
use Rattle.scenario_words.specs.Quoted.{IsQuoted, text_of}
use Rattle.scenario_words.specs.ValueWords.{is_formed, kind_named, kind_word, name_fault}
use Rattle.scenario_words.proofs.Pairs.{quoted_law}
use Rattle.scenario_words.proofs.ValueLaws.{kind_again}
use Rattle.scenario_statements.specs.Grammar.{check_of_name, one_of, ops_named}
use Rattle.scenario_statements.specs.Spelling.{IsWithin, ops_word}
use Rattle.scenario_statements.proofs.Again.{ops_again}
use Rattle.laws_reading.specs.Statements.{mandatory_word, multiple_word}
use Rattle.laws_reading.specs.WrongWords.{ConIsNamed, IsFormed, KindsAreNamed, MandatoryIsNamed}
use Rattle.laws_reading.specs.WrongWords.{MultipleIsNamed, OperationsAreNamed}
use Rattle.laws_reading.proofs.Refused.{Reads, each_said, each_tested, refused, same_cause, is_wrong}
use Rattle.laws_reading.proofs.ReadWords.{con_read, kind_read, mandatory_again, mandatory_read}
use Rattle.laws_reading.proofs.ReadWords.{multiple_again, multiple_read, ops_read}

-- ---- the form of a word

pub graphic_said : (b : ℕ) → is_ascii_graphic b ≡ true → IsWithin 33 126 b
graphic_said b h = (grind (arith, nat_tests), grind (arith, nat_tests))

pub graphic_tested : (b : ℕ) → IsWithin 33 126 b → is_ascii_graphic b ≡ true
graphic_tested b h = grind (arith, nat_tests)

was_ok : {A : Type 0} (r : Result A Cause) → is_ok r ≡ true → (x : A) × (r ≡ Ok x)
was_ok (Ok x) h = (x, refl)
was_ok (Err e) h = cc

formed_by : (b : ℕ) (bs : List ℕ) (quote : Bool) → (b == 34) ≡ quote
    → cond quote (is_ok (text_of (b ∷ bs))) (list_all is_ascii_graphic (b ∷ bs)) ≡ true → IsFormed (b ∷ bs)
formed_by b bs true e h =
    let t = was_ok (text_of (b ∷ bs)) h in inl (t.0, (quoted_law (b ∷ bs) t.0).0 t.1)
formed_by b bs false e h =
    inr (
      (λ same. let k : true ≡ false = sym (eq-eqb b 34 same) ∙ e in cc),
      each_said is_ascii_graphic (IsWithin 33 126) graphic_said (b ∷ bs) h,
    )

pub formed_said : (w : List ℕ) → is_formed w ≡ true → IsFormed w
formed_said [] h = inr tt
formed_said (b ∷ bs) h = formed_by b bs (b == 34) refl h

first_quote : (b : ℕ) (bs t : List ℕ) → IsQuoted (b ∷ bs) t → b ≡ 34
first_quote b bs t h = let e : b ∷ bs ≡ 34 ∷ h.0 = h.1 in cc

pub formed_tested : (w : List ℕ) → IsFormed w → is_formed w ≡ true
formed_tested [] h = refl
formed_tested (b ∷ bs) (inl h) =
    ap (λ q. cond q (is_ok (text_of (b ∷ bs))) (list_all is_ascii_graphic (b ∷ bs)))
    (eq-eqb b 34 (first_quote b bs h.0 h.1))
    ∙ ap is_ok ((quoted_law (b ∷ bs) h.0).1 h.1)
formed_tested (b ∷ bs) (inr h) =
    ap (λ q. cond q (is_ok (text_of (b ∷ bs))) (list_all is_ascii_graphic (b ∷ bs))) (ne_eqb b 34 h.0)
    ∙ each_tested is_ascii_graphic (IsWithin 33 126) graphic_tested (b ∷ bs) h.1

-- ---- what refuses a name

pub named_or : {A : Type 0} (w name : List ℕ) (x : A) (s : Result A Cause) (e : Cause)
    → (s ≡ Err e → e ≡ name_fault w) → cond (bytes_eq w name) (Ok x) s ≡ Err e → e ≡ name_fault w
named_or w name x s e rest h = by (bytes_eq w name) h
  where
    by : (b : Bool) → cond b (Ok x) s ≡ Err e → e ≡ name_fault w
    by true k = cc
    by false k = rest k

pub no_name : {A : Type 0} (w : List ℕ) (e : Cause) → refused {A = A} (name_fault w) ≡ Err e → e ≡ name_fault w
no_name w e h = sym (same_cause (name_fault w) e h)

fault_when : (w : List ℕ) (b : Bool) → is_formed w ≡ b → name_fault w ≡ cond b UnknownWord Token
fault_when w b h = ap (λ t. cond t UnknownWord Token) h

-- a reading by names refuses what is none of them
pub by_names : {A : Type 0} (r : Result A Cause) (w : List ℕ) (word : A → List ℕ)
    → ((x : A) → r ≡ Ok x → w ≡ word x) → ((x : A) → w ≡ word x → r ≡ Ok x)
    → ((x : A) → is_formed (word x) ≡ true) → ((e : Cause) → r ≡ Err e → e ≡ name_fault w)
    → Reads r (IsFormed w) ((x : A) × (w ≡ word x)) UnknownWord (is_formed w)
by_names {A} r w word takes taken formed fails =
    record {
      tested = formed_said w;
      passes = formed_tested w;
      unformed = λ h. unformed r refl h;
      formed = λ h e k. fails e k ∙ fault_when w true h;
      takes = λ x h. (x, takes x h);
      taken = λ h. (h.0, taken h.0 h.1);
    }
  where
    unformed : (s : Result A Cause) → r ≡ s → is_formed w ≡ false → r ≡ Err Token
    unformed (Ok x) e h =
        let k : true ≡ false = sym (ap is_formed (takes x e) ∙ formed x) ∙ h in cc
    unformed (Err c) e h = e ∙ ap (λ x. refused x) (fails c e ∙ fault_when w false h)

ops_formed : (o : Ops) → is_formed (ops_word o) ≡ true
ops_formed R = refl
ops_formed W = refl
ops_formed RW = refl
ops_formed E = refl

ops_fault : (w : List ℕ) (e : Cause) → ops_named w ≡ Err e → e ≡ name_fault w
ops_fault w e =
    named_or w (codes "r") R _ e (named_or w (codes "w") W _ e (named_or w (codes "rw") RW _ e
    (named_or w (codes "e") E _ e (no_name w e))))

pub operations_named : OperationsAreNamed
operations_named w cause =
    is_wrong (ops_named w) (IsFormed w) ((o : Ops) × (w ≡ ops_word o)) UnknownWord cause (is_formed w)
    (by_names (ops_named w) w ops_word (ops_read w) (λ o e. ap ops_named e ∙ ops_again o) ops_formed (ops_fault w))

con_fault : (w : List ℕ) (e : Cause) → check_of_name (codes "con") w ≡ Err e → e ≡ name_fault w
con_fault w e = named_or w (codes "con") tt _ e (no_name w e)

pub con_named : ConIsNamed
con_named w cause =
    let reads = by_names (check_of_name (codes "con") w) w (λ (u : Unit {0}). codes "con") (con_read w)
    (λ u e. ap (check_of_name (codes "con")) e) (λ u. refl) (con_fault w) in
    is_wrong (check_of_name (codes "con") w) (IsFormed w) (w ≡ codes "con") UnknownWord cause (is_formed w) (record {
      tested = reads.tested;
      passes = reads.passes;
      unformed = reads.unformed;
      formed = reads.formed;
      takes = λ u h. con_read w u h;
      taken = λ h. reads.taken (tt, h);
    })

kind_formed : (k : ValueKind) → is_formed (kind_word k) ≡ true
kind_formed kind.Text = refl
kind_formed kind.Whole = refl
kind_formed kind.Flag = refl
kind_formed kind.Opaque = refl
kind_formed kind.Moment = refl
kind_formed kind.Link = refl

kind_fault : (w : List ℕ) (e : Cause) → kind_named w ≡ Err e → e ≡ name_fault w
kind_fault w e =
    named_or w (codes "text") kind.Text _ e (named_or w (codes "integer") kind.Whole _ e
    (named_or w (codes "boolean") kind.Flag _ e (named_or w (codes "opaque") kind.Opaque _ e
    (named_or w (codes "time") kind.Moment _ e (named_or w (codes "link") kind.Link _ e (no_name w e))))))

pub kinds_named : KindsAreNamed
kinds_named w cause =
    is_wrong (kind_named w) (IsFormed w) ((k : ValueKind) × (w ≡ kind_word k)) UnknownWord cause (is_formed w)
    (by_names (kind_named w) w kind_word (kind_read w) (λ k e. ap kind_named e ∙ kind_again k) kind_formed
    (kind_fault w))

multiple_formed : (b : Bool) → is_formed (multiple_word b) ≡ true
multiple_formed true = refl
multiple_formed false = refl

mandatory_formed : (b : Bool) → is_formed (mandatory_word b) ≡ true
mandatory_formed true = refl
mandatory_formed false = refl

one_fault : (first second w : List ℕ) (e : Cause) → one_of first second w ≡ Err e → e ≡ name_fault w
one_fault first second w e =
    named_or w first true _ e (named_or w second false _ e (no_name w e))

pub multiple_named : MultipleIsNamed
multiple_named w cause =
    let read : List ℕ → Result Bool Cause = one_of (codes "multiple") (codes "single") in
    is_wrong (read w) (IsFormed w) ((b : Bool) × (w ≡ multiple_word b)) UnknownWord cause (is_formed w)
    (by_names (read w) w multiple_word (multiple_read w) (λ b e. ap read e ∙ multiple_again b) multiple_formed
    (one_fault (codes "multiple") (codes "single") w))

pub mandatory_named : MandatoryIsNamed
mandatory_named w cause =
    let read : List ℕ → Result Bool Cause = one_of (codes "mandatory") (codes "optional") in
    is_wrong (read w) (IsFormed w) ((b : Bool) × (w ≡ mandatory_word b)) UnknownWord cause (is_formed w)
    (by_names (read w) w mandatory_word (mandatory_read w) (λ b e. ap read e ∙ mandatory_again b) mandatory_formed
    (one_fault (codes "mandatory") (codes "optional") w))
