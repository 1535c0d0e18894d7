-- How the words of a statement are read, one by one.
use Rattle.std.proofs.Common.{◌≡◌, ℕ, ◌<◌, ◌≤◌, ◌^◌, ◌==◌, Bool, true, false, cond, List, [], ◌∷◌}
use Rattle.std.proofs.Common.{Some, Result, Ok, Err, refl, sym, ap, subst, ◌∙◌, arith, inl, inr, lit<}
use Rattle.std.specs.Prelude.{codes}
use Rattle.std.specs.Str.{bytes_eq}
use Rattle.std.specs.Fmt.{decimal}
use Rattle.std.proofs.lemmas.Bool.{cases_Bool, cases_eq, eq-eqb, ne_eqb}
use Rattle.std.proofs.lemmas.Fmt.{decimal_digit}
use Rattle.std.proofs.lemmas.Slice.Eq.{bytes_eq-Decides}
use Rattle.lwm2m_values.specs.Value.{kind_of}
use Rattle.lwm2m_values.specs.declared.value.Value.{Value}
use Rattle.lwm2m_values.specs.declared.value.Value.TheVariants as value
use Rattle.lwm2m_values.specs.declared.kind.ValueKind.{ValueKind}
use Rattle.lwm2m_values.specs.declared.kind.ValueKind.TheVariants as kind
use Rattle.object_defs.specs.declared.definition.Ops.{Ops}
use Rattle.object_defs.specs.declared.definition.Ops.TheVariants.{R, W, RW, E}
use Rattle.scenario_words.specs.declared.cause.Cause.{Cause}
use Rattle.scenario_words.specs.Reading.{◌>>=◌, word_by, check_of_end}
use Rattle.scenario_words.specs.Number.{number_of, integer_of}
use Rattle.scenario_words.specs.HexWord.{bytes_of}
use Rattle.scenario_words.specs.Quoted.{text_of}
use Rattle.scenario_words.specs.PathWord.{link_of}
use Rattle.scenario_words.specs.ValueWords.{kind_named, kind_word, value_of, value_at}
use Rattle.scenario_words.proofs.NumberLaws.{number_of-law, integer_of-law}
use Rattle.scenario_words.proofs.Pairs.{hex_law, quoted_law}
use Rattle.scenario_words.proofs.PathLaws.{bind_ok, link_law}
use Rattle.scenario_words.proofs.ValueLaws.{kind_again}
use Rattle.scenario_statements.specs.Grammar.{check_of_name, ops_named, one_of, only_number}
use Rattle.scenario_statements.specs.Spelling.{IsWithin, ops_word}
use Rattle.laws_reading.specs.Statements.{IsValueWord, multiple_word, mandatory_word}

-- ---- words

-- a reading by a name gave this: by this name, or by the others
pub by_name : {A : Type 0} (w name : List ℕ) (r s : A) (x : A) (P : Type 0)
    → (w ≡ name → r ≡ x → P) → (s ≡ x → P) → cond (bytes_eq w name) r s ≡ x → P
by_name w name r s x P named other h = elim (cases_Bool (bytes_eq w name)) [
  | inl same ↦ named ((bytes_eq-Decides w name).0 same) (sym (ap (λ t. cond t r s) same) ∙ h)
  | inr differs ↦ other (sym (ap (λ t. cond t r s) differs) ∙ h)
]

-- a name's word
abbrev pub ok_of : {A : Type 0} → A → Result A Cause
ok_of x = Ok x

pub is_word : {A : Type 0} (word : A → List ℕ) (w : List ℕ) (a b : A) → w ≡ word a → ok_of a ≡ ok_of b → w ≡ word b
is_word word w a b e h = let same : a ≡ b = cc in e ∙ ap word same

pub is_some_word : {A : Type 0} (word : A → List ℕ) (w : List ℕ) (a b : A) → w ≡ word a → Some a ≡ Some b → w ≡ word b
is_some_word word w a b e h = let same : a ≡ b = cc in e ∙ ap word same

pub ended_read : {A : Type 0} (ws : List (List ℕ)) (x y : A) → (check_of_end ws >>= (λ e. Ok x)) ≡ Ok y → (ws ≡ [])
    × (x ≡ y)
ended_read [] x y h = (refl, cc)
ended_read (w ∷ ws) x y h = cc

abbrev pub with_words : {A : Type 0} → List (List ℕ) → A → Result (A × List (List ℕ)) Cause
with_words ws x = Ok (x, ws)

pub word_here : {A B : Type 0} (r : Result A Cause) (ws : List (List ℕ)) (f : A × List (List ℕ) → Result B Cause)
    (y : B) → ((r >>= with_words ws) >>= f) ≡ Ok y → (x : A) × (r ≡ Ok x) × (f (x, ws) ≡ Ok y)
word_here (Ok x) ws f y h = (x, refl, h)
word_here (Err e) ws f y h = cc

-- the first word, what it was read as, and what the words after it gave
pub record Taken {A B : Type 0} (read : List ℕ → Result A Cause) (ws : List (List ℕ))
    (f : A × List (List ℕ) → Result B Cause) (y : B) : Type 0 where
  pub word : List ℕ
  pub others : List (List ℕ)
  pub value : A
  pub all : ws ≡ word ∷ others
  pub first : read word ≡ Ok value
  pub rest : f (value, others) ≡ Ok y

pub taken : {A B : Type 0} (read : List ℕ → Result A Cause) (ws : List (List ℕ))
    (f : A × List (List ℕ) → Result B Cause) (y : B) → (word_by read ws >>= f) ≡ Ok y → Taken read ws f y
taken read [] f y h = cc
taken read (w ∷ ws) f y h =
    let t = word_here (read w) ws f y h in
    record { word = w; others = ws; value = t.0; all = refl; first = t.1; rest = t.2 }

pub last_taken : {A : Type 0} (read : List ℕ → Result A Cause) (ws : List (List ℕ)) (y : A × List (List ℕ))
    → word_by read ws ≡ Ok y → (w : List ℕ) × (ws ≡ w ∷ y.1) × (read w ≡ Ok y.0)
last_taken read [] y h = cc
last_taken {A} read (w ∷ ws) y h =
    let b = bind_ok (read w) (with_words ws) y h in
    let same : (b.0, ws) ≡ y = cc (b.2) in
    (w, ap (λ (p : A × List (List ℕ)). w ∷ p.1) same, b.1 ∙ ap (λ (p : A × List (List ℕ)). Ok p.0) same)

pub number_read : (low high n : ℕ) (w : List ℕ) → high < 2 ^ 64 → number_of low high w ≡ Ok n
    → (w ≡ decimal n) × IsWithin low high n
number_read low high n w small h = let l = (number_of-law low high n w small).0 h in (l.0, (l.1, l.2))

pub only_read : (low high n : ℕ) (ws : List (List ℕ)) → high < 2 ^ 64 → only_number low high ws ≡ Ok n
    → (ws ≡ decimal n ∷ []) × IsWithin low high n
only_read low high n ws small h =
    let t = taken (number_of low high) ws (λ m. check_of_end m.1 >>= (λ e. Ok m.0)) n h in
    let end = ended_read t.others t.value n t.rest in
    let r = number_read low high t.value t.word small t.first in (
      t.all ∙ ap (λ o. t.word ∷ o) end.0 ∙ ap (λ v. v ∷ []) (r.0 ∙ ap decimal end.1),
      subst (IsWithin low high) end.1 r.1,
    )

pub ops_read : (w : List ℕ) (o : Ops) → ops_named w ≡ Ok o → w ≡ ops_word o
ops_read w o =
    by_name w (codes "r") _ _ (Ok o) (w ≡ ops_word o) (is_word ops_word w R o)
    (by_name w (codes "w") _ _ (Ok o) (w ≡ ops_word o) (is_word ops_word w W o)
    (by_name w (codes "rw") _ _ (Ok o) (w ≡ ops_word o) (is_word ops_word w RW o)
    (by_name w (codes "e") _ _ (Ok o) (w ≡ ops_word o) (is_word ops_word w E o) (λ h. cc))))

pub multiple_read : (w : List ℕ) (b : Bool) → one_of (codes "multiple") (codes "single") w ≡ Ok b → w ≡ multiple_word b
multiple_read w b =
    by_name w (codes "multiple") _ _ (Ok b) (w ≡ multiple_word b) (is_word multiple_word w true b)
    (by_name w (codes "single") _ _ (Ok b) (w ≡ multiple_word b) (is_word multiple_word w false b) (λ h. cc))

pub multiple_again : (b : Bool) → one_of (codes "multiple") (codes "single") (multiple_word b) ≡ Ok b
multiple_again true = refl
multiple_again false = refl

pub mandatory_read : (w : List ℕ) (b : Bool) → one_of (codes "mandatory") (codes "optional") w ≡ Ok b
    → w ≡ mandatory_word b
mandatory_read w b =
    by_name w (codes "mandatory") _ _ (Ok b) (w ≡ mandatory_word b) (is_word mandatory_word w true b)
    (by_name w (codes "optional") _ _ (Ok b) (w ≡ mandatory_word b) (is_word mandatory_word w false b) (λ h. cc))

pub mandatory_again : (b : Bool) → one_of (codes "mandatory") (codes "optional") (mandatory_word b) ≡ Ok b
mandatory_again true = refl
mandatory_again false = refl

pub con_read : (w : List ℕ) (u : Unit {0}) → check_of_name (codes "con") w ≡ Ok u → w ≡ codes "con"
con_read w u =
    by_name w (codes "con") _ _ (Ok u) (w ≡ codes "con") (λ e h. e) (λ h. cc)

pub kind_read : (w : List ℕ) (k : ValueKind) → kind_named w ≡ Ok k → w ≡ kind_word k
kind_read w k =
    by_name w (codes "text") _ _ (Ok k) (w ≡ kind_word k) (is_word kind_word w kind.Text k)
    (by_name w (codes "integer") _ _ (Ok k) (w ≡ kind_word k) (is_word kind_word w kind.Whole k)
    (by_name w (codes "boolean") _ _ (Ok k) (w ≡ kind_word k) (is_word kind_word w kind.Flag k)
    (by_name w (codes "opaque") _ _ (Ok k) (w ≡ kind_word k) (is_word kind_word w kind.Opaque k)
    (by_name w (codes "time") _ _ (Ok k) (w ≡ kind_word k) (is_word kind_word w kind.Moment k)
    (by_name w (codes "link") _ _ (Ok k) (w ≡ kind_word k) (is_word kind_word w kind.Link k) (λ h. cc))))))

-- ---- values

abbrev pub IsOf : ValueKind → List ℕ → Value → Type 0
IsOf k w v = (kind_of v ≡ k) × IsValueWord v w

pub flag_read : (n : ℕ) (w : List ℕ) → w ≡ decimal n → n ≤ 1 → IsValueWord (value.Flag (n == 1)) w
flag_read n w e h = elim (cases_eq n 1) [
  | inl one ↦ subst (λ m. IsValueWord (value.Flag m) w) (sym (eq-eqb n 1 one))
      (e ∙ ap decimal one ∙ decimal_digit 1 (lit< tt))
  | inr other ↦
      let none : n ≡ 0 = omega (arith, h, other) in
      subst (λ m. IsValueWord (value.Flag m) w) (sym (ne_eqb n 1 other))
      (e ∙ ap decimal none ∙ decimal_digit 0 (lit< tt))
]

pub value_read : (k : ValueKind) (w : List ℕ) (v : Value) → value_of k w ≡ Ok v → IsOf k w v
value_read kind.Text w v h =
    let b = bind_ok (text_of w) (λ t. Ok (value.Text t)) v h in
    let is : value.Text b.0 ≡ v = cc (b.2) in subst (IsOf kind.Text w) is (refl, (quoted_law w b.0).0 b.1)
value_read kind.Whole w v h =
    let b = bind_ok (integer_of w) (λ z. Ok (value.Whole z)) v h in
    let is : value.Whole b.0 ≡ v = cc (b.2) in subst (IsOf kind.Whole w) is (refl, (integer_of-law b.0 w).0 b.1)
value_read kind.Flag w v h =
    let b = bind_ok (number_of 0 1 w) (λ n. Ok (value.Flag (n == 1))) v h in
    let is : value.Flag (b.0 == 1) ≡ v = cc (b.2) in
    let n = number_read 0 1 b.0 w (omega arith) b.1 in
    subst (IsOf kind.Flag w) is (refl, flag_read b.0 w n.0 n.1.1)
value_read kind.Opaque w v h =
    let b = bind_ok (bytes_of w) (λ t. Ok (value.Opaque t)) v h in
    let is : value.Opaque b.0 ≡ v = cc (b.2) in subst (IsOf kind.Opaque w) is (refl, (hex_law w b.0).0 b.1)
value_read kind.Moment w v h =
    let b = bind_ok (integer_of w) (λ z. Ok (value.Moment z)) v h in
    let is : value.Moment b.0 ≡ v = cc (b.2) in subst (IsOf kind.Moment w) is (refl, (integer_of-law b.0 w).0 b.1)
value_read kind.Link w v h =
    let b = bind_ok (link_of w) (λ p. Ok (value.Link p.0 p.1)) v h in
    let is : value.Link b.0.0 b.0.1 ≡ v = cc (b.2) in
    subst (IsOf kind.Link w) is (refl, (link_law w b.0.0 b.0.1).0 b.1)

pub value_again : (v : Value) (w : List ℕ) → IsValueWord v w → value_of (kind_of v) w ≡ Ok v
value_again (value.Text t) w h = ap (λ r. r >>= (λ x. Ok (value.Text x))) ((quoted_law w t).1 h)
value_again (value.Whole z) w h = ap (λ r. r >>= (λ x. Ok (value.Whole x))) ((integer_of-law z w).1 h)
value_again (value.Flag true) w h = ap (value_of kind.Flag) h
value_again (value.Flag false) w h = ap (value_of kind.Flag) h
value_again (value.Opaque b) w h = ap (λ r. r >>= (λ x. Ok (value.Opaque x))) ((hex_law w b).1 h)
value_again (value.Moment z) w h = ap (λ r. r >>= (λ x. Ok (value.Moment x))) ((integer_of-law z w).1 h)
value_again (value.Link o i) w h = ap (λ r. r >>= (λ p. Ok (value.Link p.0 p.1))) ((link_law w o i).1 h)

pub value_at_read : (ws : List (List ℕ)) (y : Value × List (List ℕ)) → value_at ws ≡ Ok y
    → (w : List ℕ) × (ws ≡ kind_word (kind_of y.0) ∷ w ∷ y.1) × IsValueWord y.0 w
value_at_read ws y h =
    let t = taken kind_named ws (λ k. word_by (value_of k.0) k.1) y h in
    let l = last_taken (value_of t.value) t.others y t.rest in
    let v = value_read t.value l.0 y.0 l.2 in (
      l.0,
      t.all ∙ ap (λ o. t.word ∷ o) l.1
          ∙ ap (λ x. x ∷ l.0 ∷ y.1) (kind_read t.word t.value t.first ∙ ap kind_word (sym v.0)),
      v.1,
    )

pub value_at_again : (v : Value) (w : List ℕ) (ws : List (List ℕ)) → IsValueWord v w
    → value_at (kind_word (kind_of v) ∷ w ∷ ws) ≡ Ok (v, ws)
value_at_again v w ws h =
    ap (λ r. (r >>= with_words (w ∷ ws)) >>= (λ k. word_by (value_of k.0) k.1)) (kind_again (kind_of v))
    ∙ ap (λ r. r >>= with_words ws) (value_again v w h)
