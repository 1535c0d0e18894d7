-- How words are read: from the left, each fault the first one.
use Rattle.std.specs.Prelude.{◌≡◌, ◌≢◌, ℕ, List, [], ◌∷◌, Result, Ok, Err}
use Rattle.scenario_words.specs.declared.cause.Cause.{Cause}
use Rattle.scenario_words.specs.declared.cause.Cause.TheVariants.{Missing, Token, Memory}

-- what a function answered is this reading, seen through the view
abbrev pub Reads : {X Y : Type 0} → (X → Y) → Result X Cause → Result Y Cause → Type 0
Reads view (Ok x) read = read ≡ Ok (view x)
Reads view (Err e) read = read ≡ Err e

-- the same, unless memory ran out
abbrev pub Gives : {X Y : Type 0} → (X → Y) → Result X Cause → Result Y Cause → Type 0
Gives view (Ok x) read = read ≡ Ok (view x)
Gives view (Err e) read = e ≢ Memory → read ≡ Err e

-- the ? of the logic: the second step, where the first gave a value
infixl 10 ◌>>=◌
abbrev pub ◌>>=◌ : {A B : Type 0} → Result A Cause → (A → Result B Cause) → Result B Cause
Ok x >>= f = f x
Err e >>= f = Err e

-- a word is needed: the first, and those after it
abbrev pub first_of : List (List ℕ) → Result (List ℕ × List (List ℕ)) Cause
first_of [] = Err Missing
first_of (w ∷ ws) = Ok (w, ws)

-- no further word may stand there
abbrev pub check_of_end : List (List ℕ) → Result (Unit {0}) Cause
check_of_end [] = Ok tt
check_of_end (w ∷ ws) = Err Token

-- the first word, read by this reader of a word, and the words after it
abbrev pub word_by : {A : Type 0} → (List ℕ → Result A Cause) → List (List ℕ) → Result (A × List (List ℕ)) Cause
word_by read ws = do
  w ← first_of ws
  x ← read w.0
  Ok (x, w.1)
