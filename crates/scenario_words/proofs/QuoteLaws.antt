-- Bytes that are read one by one.
use Rattle.std.proofs.Common.{◌≡◌, ℕ, true, false, Bor, List, [], ◌∷◌, ◌++◌, Option, Some, None, refl, ap, append_assoc}
use Rattle.std.specs.Option.{MatchOption}
use Rattle.std.specs.Str.{IsUtf8, is_utf8}
use Rattle.std.proofs.lemmas.Str.{IsUtf8-from_is_utf8, is_utf8-from_IsUtf8}
use Rattle.std.proofs.lemmas.Bool.{false_from_ne_true}
use Rattle.scenario_words.specs.HexWord.{with_first_byte}

-- the test of UTF-8, where text was looked for
pub checked_utf8 : (bs : List ℕ) (o : Option (Bor (List ℕ)))
    → MatchOption o (¬ (IsUtf8 bs)) (λ s. (s.now ≡ bs) × IsUtf8 bs)
    → MatchOption o (is_utf8 bs ≡ false) (λ s. (s.now ≡ bs) × (is_utf8 bs ≡ true))
checked_utf8 bs None h = false_from_ne_true (is_utf8 bs) (λ e. h (IsUtf8-from_is_utf8 bs e))
checked_utf8 bs (Some s) h = (h.0, is_utf8-from_IsUtf8 bs h.1)

-- bytes before others, where there are others
abbrev pub all_before : List ℕ → Option (List ℕ) → Option (List ℕ)
all_before front None = None
all_before front (Some bs) = Some (front ++ bs)

pub one_before : (front : List ℕ) (b : ℕ) (o : Option (List ℕ))
    → all_before (front ++ b ∷ []) o ≡ all_before front (with_first_byte b o)
one_before front b None = refl
one_before front b (Some bs) = ap Some (append_assoc front (b ∷ []) bs)
