-- What the readers of arguments took: its words, and no further one.
use Rattle.std.proofs.Common.{◌≡◌, ℕ, ◌+◌, ◌*◌, ◌/◌, ◌%◌, ◌<◌, ◌≤◌, ◌^◌, inl, inr, cond, List, [], ◌∷◌, Option, None}
use Rattle.std.proofs.Common.{Some, Result, Ok, Err, refl, ap, sym, subst, ◌∙◌, arith}
use Rattle.std.specs.Str.{bytes_eq}
use Rattle.std.specs.Fmt.{decimal}
use Rattle.std.proofs.lemmas.Bool.{cases_Bool}
use Rattle.std.proofs.lemmas.Slice.Eq.{bytes_eq-Decides}
use Rattle.hex.specs.Hex.{hex_digit_value}
use Rattle.object_defs.specs.declared.path.Path.{Path}
use Rattle.scenario_words.specs.declared.cause.Cause.{Cause}
use Rattle.scenario_words.specs.Reading.{◌>>=◌, word_by, check_of_end}
use Rattle.scenario_words.specs.Number.{number_of}
use Rattle.scenario_words.specs.HexWord.{IsByte}
use Rattle.scenario_words.specs.PathWord.{IsPath, path_of}
use Rattle.object_defs.specs.Path.{path_text}
use Rattle.scenario_words.proofs.NumberLaws.{number_of-law}
use Rattle.scenario_words.proofs.Pairs.{digit_small}
use Rattle.scenario_words.proofs.PathLaws.{path_law}
use Rattle.debug_answers.specs.Reading.{only_number, device_and_path, byte_by, byte_of}

-- a reading by a name gave this: by this name, or by the others
pub by_name : {A : Type 0} (w name : List ℕ) (r s : Result A Cause) (x : A) (P : Type 0)
    → (w ≡ name → r ≡ Ok x → P) → (s ≡ Ok x → P) → cond (bytes_eq w name) r s ≡ Ok x → P
by_name w name r s x P named other h = elim (cases_Bool (bytes_eq w name)) [
  | inl same ↦ named ((bytes_eq-Decides w name).0 same) (sym (ap (λ t. cond t r s) same) ∙ h)
  | inr differs ↦ other (sym (ap (λ t. cond t r s) differs) ∙ h)
]

pub ended_read : {A : Type 0} (ws : List (List ℕ)) (x y : A) → (check_of_end ws >>= (λ e. Ok x)) ≡ Ok y → (ws ≡ [])
    × (x ≡ y)
ended_read [] x y h = (refl, cc)
ended_read (w ∷ ws) x y h = cc

abbrev with_words : {A : Type 0} → List (List ℕ) → A → Result (A × List (List ℕ)) Cause
with_words ws x = Ok (x, ws)

word_here : {A B : Type 0} (r : Result A Cause) (ws : List (List ℕ)) (f : A × List (List ℕ) → Result B Cause) (y : B)
    → ((r >>= with_words ws) >>= f) ≡ Ok y → (x : A) × (r ≡ Ok x) × (f (x, ws) ≡ Ok y)
word_here (Ok x) ws f y h = (x, refl, h)
word_here (Err e) ws f y h = cc

-- the first word, what it was read as, and what the words after it gave
pub record Taken {A B : Type 0} (read : List ℕ → Result A Cause) (ws : List (List ℕ))
    (f : A × List (List ℕ) → Result B Cause) (y : B) : Type 0 where
  pub word : List ℕ
  pub others : List (List ℕ)
  pub value : A
  pub all : ws ≡ word ∷ others
  pub first : read word ≡ Ok value
  pub rest : f (value, others) ≡ Ok y

pub taken : {A B : Type 0} (read : List ℕ → Result A Cause) (ws : List (List ℕ))
    (f : A × List (List ℕ) → Result B Cause) (y : B)
    → (word_by read ws >>= f) ≡ Ok y → Taken read ws f y
taken read [] f y h = cc
taken read (w ∷ ws) f y h =
    let t = word_here (read w) ws f y h in
    record { word = w; others = ws; value = t.0; all = refl; first = t.1; rest = t.2 }

pub number_read : (high n : ℕ) (w : List ℕ) → high < 2 ^ 64 → number_of 0 high w ≡ Ok n → (w ≡ decimal n) × (n ≤ high)
number_read high n w small h = let l = (number_of-law 0 high n w small).0 h in (l.0, l.2)

pub only_read : (high n : ℕ) (ws : List (List ℕ)) → high < 2 ^ 64 → only_number high ws ≡ Ok n
    → (ws ≡ decimal n ∷ []) × (n ≤ high)
only_read high n ws small h =
    let t = taken (number_of 0 high) ws (λ m. check_of_end m.1 >>= (λ e. Ok m.0)) n h in
    let end = ended_read t.others t.value n t.rest in
    let number = number_read high t.value t.word small t.first in
    (cc (t.all, number.0, end.0, end.1), subst (λ m. m ≤ high) end.1 number.1)

abbrev device_in : ℕ × Path → ℕ
device_in x = x.0

abbrev path_in : ℕ × Path → Path
path_in x = x.1

pub pair_read : (x : ℕ × Path) (ws : List (List ℕ)) → device_and_path ws ≡ Ok x
    → (ws ≡ decimal x.0 ∷ path_text x.1 ∷ []) × (x.0 < 2 ^ 16) × IsPath x.1
pair_read x ws h =
    let first = taken (number_of 0 65535) ws
    (λ m. word_by path_of m.1 >>= (λ q. check_of_end q.1 >>= (λ e. Ok (m.0, q.0)))) x h in
    let second = taken path_of first.others (λ q. check_of_end q.1 >>= (λ e. Ok (first.value, q.0))) x first.rest in
    let pair : ℕ × Path = (first.value, second.value) in
    let end = ended_read second.others pair x second.rest in
    let number = number_read 65535 first.value first.word (omega arith) first.first in
    let path = (path_law second.word second.value).0 second.first in
    let device : first.value ≡ x.0 = ap device_in end.1 in
    let place : second.value ≡ x.1 = ap path_in end.1 in (
      cc (first.all, second.all, number.0, path.0, end.0, device, place),
      subst (λ n. n < 2 ^ 16) device (omega (arith, number.1)),
      subst (λ q. IsPath q) place path.1,
    )

-- ---- a byte of two hex digits

digits_read : (a c : ℕ) (x y : Option ℕ) (b : ℕ) → hex_digit_value a ≡ x → hex_digit_value c ≡ y → byte_by x y ≡ Ok b
    → IsByte b a c
digits_read a c None y b e f h = cc
digits_read a c (Some high) None b e f h = cc
digits_read a c (Some high) (Some low) b e f h =
    let whole : high * 16 + low ≡ b = cc in
    let upper = digit_small a high e in
    let lower = digit_small c low f in
    let is_high : high ≡ b / 16 = omega arith in
    let is_low : low ≡ b % 16 = omega arith in
    (omega arith, e ∙ ap Some is_high, f ∙ ap Some is_low)

pub byte_read : (w : List ℕ) (b : ℕ) → byte_of w ≡ Ok b
    → (high : ℕ) × (low : ℕ) × (w ≡ high ∷ low ∷ []) × IsByte b high low
byte_read [] b h = cc
byte_read (x ∷ []) b h = cc
byte_read (x ∷ y ∷ []) b h = (x, y, refl, digits_read x y (hex_digit_value x) (hex_digit_value y) b refl refl h)
byte_read (x ∷ y ∷ z ∷ more) b h = cc

pub byte_again : (b high low : ℕ) → IsByte b high low → byte_of (high ∷ low ∷ []) ≡ Ok b
byte_again b high low h =
    let whole : b / 16 * 16 + b % 16 ≡ b = omega arith in
    rw (h.1, h.2) (ap Ok whole)
