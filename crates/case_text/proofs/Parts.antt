-- Lists that are read part by part.
use Rattle.std.proofs.Common.{◌≡◌, ℕ, zero, suc, ◌-◌, ◌<◌, ◌==◌, false, cond, List, [], ◌∷◌, ◌++◌}
use Rattle.std.proofs.Common.{replicate, Result, Ok, Err, refl, sym, ap, ◌∙◌, append_assoc, arith}
use Rattle.std.specs.Prelude.{codes}
use Rattle.std.specs.List.{repeat, slice_split}
use Rattle.std.specs.Str.{bytes_eq}
use Rattle.scenario_words.specs.declared.cause.Cause.{Cause}
use Rattle.scenario_words.specs.declared.cause.Cause.TheVariants.{Token}
use Rattle.scenario_words.specs.Words.{parts}
use Rattle.scenario_words.specs.Reading.{◌>>=◌, word_by}
use Rattle.scenario_words.specs.Number.{number_of}
use Rattle.scenario_words.proofs.Cuts.{first_part}
use Rattle.case_text.specs.BytesWords.{hex_up_to_at, text_hex, word_hex}
use Rattle.case_text.specs.Digits.{piece_of, pieces_of}
use Rattle.case_text.specs.Stating.{devices_of}

-- once, and then the times that are left
pub once_more : {A : Type 0} (n : ℕ) (xs : List A) → 0 < n → repeat n xs ≡ xs ++ repeat (n - 1) xs
once_more zero xs h = absurd (omega arith)
once_more (suc n) xs h = let less : n ≡ suc n - 1 = omega arith in ap (λ k. xs ++ repeat k xs) less

-- it was added once, and is added the times that are left
pub again : {A : Type 0} (all xs total : List A) (n : ℕ) → 0 < n → all ++ repeat n xs ≡ total
    → (all ++ xs) ++ repeat (n - 1) xs ≡ total
again all xs total n some so_far =
    append_assoc all xs (repeat (n - 1) xs) ∙ ap (λ ys. all ++ ys) (sym (once_more n xs some)) ∙ so_far

-- a list of one element, once more
pub one_more : {A : Type 0} (n : ℕ) (x : A) → 0 < n → replicate n x ≡ x ∷ replicate (n - 1) x
one_more zero x h = absurd (omega arith)
one_more (suc n) x h = let less : n ≡ suc n - 1 = omega arith in ap (λ k. x ∷ replicate k x) less

-- what was read, before what is still to be read
abbrev pub onto : {A : Type 0} → List A → Result (List A) Cause → Result (List A) Cause
onto xs r = r >>= (λ ys. Ok (xs ++ ys))

-- one part more
pub onto_more : {A : Type 0} (xs ys : List A) (r : Result (List A) Cause)
    → onto xs (onto ys r) ≡ onto (xs ++ ys) r
onto_more xs ys (Ok zs) = ap Ok (sym (append_assoc xs ys zs))
onto_more xs ys (Err e) = refl

-- one piece more
pub next_piece : (word piece : List ℕ) (rest : List (List ℕ)) (all hex : List ℕ) (total : Result (List ℕ) Cause)
    → parts 43 word ≡ piece ∷ rest → piece_of (parts 42 piece) ≡ Ok hex
    → onto all (pieces_of (parts 43 word)) ≡ total → onto (all ++ hex) (pieces_of rest) ≡ total
next_piece word piece rest all hex total cut read so_far =
    sym (onto_more all hex (pieces_of rest))
    ∙ sym (ap (λ ps. onto all (pieces_of ps)) cut
    ∙ ap (λ r. onto all (r >>= (λ h. pieces_of rest >>= (λ more. Ok (h ++ more))))) read)
    ∙ so_far

abbrev placed : List (List ℕ) → ℕ → Result (ℕ × List (List ℕ)) Cause
placed ws n = Ok (n, ws)

abbrev number_in : Result (ℕ × List (List ℕ)) Cause → ℕ
number_in (Ok x) = x.0
number_in (Err e) = 0

abbrev words_in : Result (ℕ × List (List ℕ)) Cause → List (List ℕ)
words_in (Ok x) = x.1
words_in (Err e) = []

next_device_by : (r : Result ℕ Cause) (ws behind : List (List ℕ)) (all : List ℕ) (n : ℕ)
    (total : Result (List ℕ) Cause) → (r >>= placed ws) ≡ Ok (n, behind)
    → onto all (r >>= (λ m. devices_of ws >>= (λ ns. Ok (m ∷ ns)))) ≡ total
    → onto (all ++ n ∷ []) (devices_of behind) ≡ total
next_device_by (Ok m) ws behind all n total read so_far =
    let number : n ≡ m = ap number_in (sym read) in
    let words : behind ≡ ws = ap words_in (sym read) in
    sym (onto_more all (n ∷ []) (devices_of behind))
    ∙ ap (λ b. onto all (onto (n ∷ []) (devices_of b))) words
    ∙ ap (λ k. onto all (onto (k ∷ []) (devices_of ws))) number
    ∙ so_far
next_device_by (Err e) ws behind all n total read so_far = absurd cc

-- one device more
pub next_device : (ws behind : List (List ℕ)) (all : List ℕ) (n : ℕ) (total : Result (List ℕ) Cause)
    → word_by (number_of 0 65535) ws ≡ Ok (n, behind) → onto all (devices_of ws) ≡ total
    → onto (all ++ n ∷ []) (devices_of behind) ≡ total
next_device [] behind all n total read so_far = absurd cc
next_device (w ∷ ws) behind all n total read so_far =
    next_device_by (number_of 0 65535 w) ws behind all n total read so_far

-- there is a part
pub some_part : (c : ℕ) (bs : List ℕ) → (y : List ℕ) × (ys : List (List ℕ)) × (parts c bs ≡ y ∷ ys)
some_part c [] = ([], [], refl)
some_part c (x ∷ xs) = first_part (x == c) x (parts c xs)

-- a piece with a second `*`
pub too_many : (hex count more : List ℕ) → piece_of (hex ∷ count ∷ parts 42 more) ≡ Err Token
too_many hex count more =
    let some = some_part 42 more in ap (λ ps. piece_of (hex ∷ count ∷ ps)) some.2

-- a text in quotes with a further `"` behind it
pub too_many_quotes : (inside behind more : List ℕ) → text_hex (inside ∷ behind ∷ parts 34 more) ≡ Err Token
too_many_quotes inside behind more =
    let some = some_part 34 more in ap (λ ps. text_hex (inside ∷ behind ∷ ps)) some.2

-- the hex that was read, before what is still to be read up to `at`
abbrev pub onto_hex : List ℕ → Result (List ℕ × List (List ℕ)) Cause → Result (List ℕ × List (List ℕ)) Cause
onto_hex hex r = r >>= (λ x. Ok (hex ++ x.0, x.1))

pub onto_hex_more : (xs ys : List ℕ) (r : Result (List ℕ × List (List ℕ)) Cause)
    → onto_hex xs (onto_hex ys r) ≡ onto_hex (xs ++ ys) r
onto_hex_more xs ys (Ok x) = ap (λ zs. Ok (zs, x.1)) (sym (append_assoc xs ys x.0))
onto_hex_more xs ys (Err e) = refl

-- one word more
pub next_word_hex : (ws behind : List (List ℕ)) (w all hex : List ℕ) (total : Result (List ℕ × List (List ℕ)) Cause)
    → ws ≡ w ∷ behind → bytes_eq w (codes "at") ≡ false → word_hex w ≡ Ok hex
    → onto_hex all (hex_up_to_at ws) ≡ total → onto_hex (all ++ hex) (hex_up_to_at behind) ≡ total
next_word_hex ws behind w all hex total cut other read so_far =
    let next = λ (r : Result (List ℕ) Cause). r >>= (λ h. hex_up_to_at behind >>= (λ x. Ok (h ++ x.0, x.1))) in
    sym (onto_hex_more all hex (hex_up_to_at behind))
    ∙ sym (ap (λ v. onto_hex all (hex_up_to_at v)) cut
    ∙ ap (λ b. onto_hex all (cond b (Ok ([], w ∷ behind)) (next (word_hex w)))) other
    ∙ ap (λ r. onto_hex all (next r)) read)
    ∙ so_far
