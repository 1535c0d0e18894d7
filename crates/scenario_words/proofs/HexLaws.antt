-- Hex as the crate `hex` decodes it, and as these definitions read it.
use Rattle.std.proofs.Common.{◌≡◌, ◌≢◌, ℕ, ◌+◌, ◌*◌, ◌%◌, ◌⊎◌, inl, inr, false, cond, List, [], ◌∷◌, length, Option}
use Rattle.std.proofs.Common.{Some, None, Result, Ok, Err, refl, ap, sym, ◌∙◌, arith}
use Rattle.std.specs.Prelude.{codes}
use Rattle.std.specs.Str.{bytes_eq}
use Rattle.std.proofs.lemmas.Bool.{cases_eq, eq-eqb, ne_eqb}
use Rattle.hex.specs.Hex.{decode_of, decode_pairs, digit_or_error, hex_digit_value, ◌>>=◌}
use Rattle.hex.specs.declared.error.FromHexError.{FromHexError}
use Rattle.hex.specs.declared.error.FromHexError.TheVariants.{OutOfMemory}
use Rattle.scenario_words.specs.declared.cause.Cause.{Cause}
use Rattle.scenario_words.specs.declared.cause.Cause.TheVariants.{Token, Memory}
use Rattle.scenario_words.specs.HexWord.{with_first_byte, pair_before, pairs, or_token, bytes_of}

-- the same bytes, or none
abbrev Agrees : Result (List ℕ) FromHexError → Option (List ℕ) → Type 0
Agrees (Ok bs) o = o ≡ Some bs
Agrees (Err e) o = o ≡ None

one_pair : (a b i : ℕ) (x y : Option ℕ) (r : Result (List ℕ) FromHexError) (o : Option (List ℕ)) → Agrees r o
    → Agrees ((digit_or_error a i x >>= (λ h. digit_or_error b (i + 1) y >>= (λ l. Ok (h * 16 + l)))) >>=
    (λ byte. r >>= (λ bytes. Ok (byte ∷ bytes)))) (pair_before x y o)
one_pair a b i None y r o h = refl
one_pair a b i (Some v) None r o h = refl
one_pair a b i (Some v) (Some w) (Ok bs) o h = ap (with_first_byte (v * 16 + w)) h
one_pair a b i (Some v) (Some w) (Err e) o h = ap (with_first_byte (v * 16 + w)) h

decoded_pairs : (i : ℕ) (w : List ℕ) → Agrees (decode_pairs i w) (pairs w)
unfolding decode_pairs
decoded_pairs i [] = refl
decoded_pairs i (a ∷ []) = refl
decoded_pairs i (a ∷ b ∷ w) =
    one_pair a b i (hex_digit_value a) (hex_digit_value b) (decode_pairs (i + 2) w) (pairs w) (decoded_pairs (i + 2) w)

no_pair : (x y : Option ℕ) → pair_before x y None ≡ None
no_pair None y = refl
no_pair (Some v) None = refl
no_pair (Some v) (Some w) = refl

odd_pairs : (w : List ℕ) → length w % 2 ≡ 1 → pairs w ≡ None
odd_pairs [] odd = absurd (omega arith)
odd_pairs (a ∷ []) odd = refl
odd_pairs (a ∷ b ∷ w) odd =
    ap (pair_before (hex_digit_value a) (hex_digit_value b)) (odd_pairs w (omega arith))
    ∙ no_pair (hex_digit_value a) (hex_digit_value b)

decoded : (w : List ℕ) → Agrees (decode_of w) (pairs w)
decoded w = elim (cases_eq (length w % 2) 1) [
  | inl odd ↦ rw (eq-eqb (length w % 2) 1 odd) (odd_pairs w odd)
  | inr even ↦ rw (ne_eqb (length w % 2) 1 even) (decoded_pairs 0 w)
]

agreed_ok : (r : Result (List ℕ) FromHexError) (o : Option (List ℕ)) (bs : List ℕ) → Agrees r o → r ≡ Ok bs
    → o ≡ Some bs
agreed_ok (Ok cs) o bs h e = cc
agreed_ok (Err f) o bs h e = cc

agreed_err : (r : Result (List ℕ) FromHexError) (o : Option (List ℕ)) (f : FromHexError) → Agrees r o → r ≡ Err f
    → o ≡ None
agreed_err (Ok cs) o f h e = cc
agreed_err (Err g) o f h e = h

not_dash : (w : List ℕ) → bytes_eq w (codes "-") ≡ false → bytes_of w ≡ or_token (pairs w)
not_dash w h = ap (λ b. cond b (Ok []) (or_token (pairs w))) h

pub decoded_word : (w bs : List ℕ) → bytes_eq w (codes "-") ≡ false → decode_of w ≡ Ok bs → bytes_of w ≡ Ok bs
decoded_word w bs other e = not_dash w other ∙ ap or_token (agreed_ok (decode_of w) (pairs w) bs (decoded w) e)

pub refused_word : (w : List ℕ) (f : FromHexError) (cause : Cause) → bytes_eq w (codes "-") ≡ false → (f ≡ OutOfMemory)
    ⊎ (decode_of w ≡ Err f) → (f ≡ OutOfMemory → cause ≡ Memory) → (f ≢ OutOfMemory → cause ≡ Token) → cause ≢ Memory
    → bytes_of w ≡ Err cause
refused_word w f cause other (inl m) memory token known = absurd (known (memory m))
refused_word w f cause other (inr e) memory token known =
    not_dash w other ∙ ap or_token (agreed_err (decode_of w) (pairs w) f (decoded w) e)
    ∙ ap Err (sym (token (λ m. known (memory m))))
