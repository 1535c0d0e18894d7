-- A word is a path's, or a link's, exactly where it is as that is written.
use Rattle.std.proofs.Common.{◌≡◌, ◌≢◌, ℕ, ◌<◌, ◌↔◌, true, false, cond, List, [], ◌∷◌, ◌++◌, Result, Ok, Err, refl, ap}
use Rattle.std.proofs.Common.{sym, subst, ◌∙◌, arith}
use Rattle.std.specs.List.{list_all, onto_first, join_with_byte}
use Rattle.std.specs.Char.{is_ascii_digit}
use Rattle.std.specs.Fmt.{decimal}
use Rattle.std.proofs.lemmas.Bool.{and_parts, and_from, eq-eqb, ne_eqb, false≢true}
use Rattle.std.proofs.lemmas.List.Splits.{join_with_byte-slice_split}
use Rattle.object_defs.specs.declared.path.Path.{Path}
use Rattle.object_defs.specs.declared.path.Path.TheVariants.{Object, Instance, Resource, Part}
use Rattle.scenario_words.specs.declared.cause.Cause.{Cause}
use Rattle.scenario_words.specs.declared.cause.Cause.TheVariants.{Token}
use Rattle.scenario_words.specs.Words.{parts}
use Rattle.scenario_words.specs.Reading.{◌>>=◌}
use Rattle.scenario_words.specs.Number.{is_number, number_of}
use Rattle.scenario_words.specs.PathWord.{path_of_numbers, path_of_parts, path_of, IsPath, link_of_parts}
use Rattle.object_defs.specs.Path.{path_text}
use Rattle.scenario_words.specs.PathWord.{link_of, link_word}
use Rattle.scenario_words.proofs.Digits.{natural_digits}
use Rattle.scenario_words.proofs.NumberLaws.{chosen, chosen_value, number_of-law, is_natural-decimal, is_number-natural}

pub bind_ok : {A B : Type 0} (r : Result A Cause) (f : A → Result B Cause) (y : B) → (r >>= f) ≡ Ok y → (x : A)
    × (r ≡ Ok x) × (f x ≡ Ok y)
bind_ok (Ok x) f y h = (x, refl, h)
bind_ok (Err e) f y h = cc h

half_read : (a : List ℕ) (n : ℕ) → number_of 0 65535 a ≡ Ok n → (a ≡ decimal n) × (n < 65536)
half_read a n e = let l = (number_of-law 0 65535 n a (omega arith)).0 e in (l.0, omega (arith, l.2))

half_from : (n : ℕ) → n < 65536 → number_of 0 65535 (decimal n) ≡ Ok n
half_from n h = (number_of-law 0 65535 n (decimal n) (omega arith)).1 (refl, omega arith, omega arith)

-- what is read

one_read : (a : List ℕ) (p : Path) → path_of_numbers (a ∷ []) ≡ Ok p → (join_with_byte 47 ([] ∷ a ∷ []) ≡ path_text p)
    × IsPath p
one_read a p e =
    let o = bind_ok (number_of 0 65535 a) (λ n. Ok (Object n)) p e in
    let first = half_read a o.0 o.1 in
    let same = (chosen_value true (Object o.0) Token p o.2).1 in
    subst (λ q. (47 ∷ a ≡ path_text q) × IsPath q) same (ap (λ x. 47 ∷ x) first.0, first.1)

two_read : (a b : List ℕ) (p : Path) → path_of_numbers (a ∷ b ∷ []) ≡ Ok p
    → (join_with_byte 47 ([] ∷ a ∷ b ∷ []) ≡ path_text p) × IsPath p
two_read a b p e =
    let o = bind_ok (number_of 0 65535 a) (λ n. number_of 0 65535 b >>= (λ m. Ok (Instance n m))) p e in
    let i = bind_ok (number_of 0 65535 b) (λ m. Ok (Instance o.0 m)) p o.2 in
    let first = half_read a o.0 o.1 in
    let second = half_read b i.0 i.1 in
    let same = (chosen_value true (Instance o.0 i.0) Token p i.2).1 in
    subst (λ q. (47 ∷ (a ++ 47 ∷ b) ≡ path_text q) × IsPath q) same (cc (first.0, second.0), (first.1, second.1))

three_read : (a b c : List ℕ) (p : Path) → path_of_numbers (a ∷ b ∷ c ∷ []) ≡ Ok p
    → (join_with_byte 47 ([] ∷ a ∷ b ∷ c ∷ []) ≡ path_text p) × IsPath p
three_read a b c p e =
    let o = bind_ok (number_of 0 65535 a) (λ n. number_of 0 65535 b >>=
    (λ m. number_of 0 65535 c >>= (λ k. Ok (Resource n m k)))) p e in
    let i = bind_ok (number_of 0 65535 b) (λ m. number_of 0 65535 c >>= (λ k. Ok (Resource o.0 m k))) p o.2 in
    let r = bind_ok (number_of 0 65535 c) (λ k. Ok (Resource o.0 i.0 k)) p i.2 in
    let first = half_read a o.0 o.1 in
    let second = half_read b i.0 i.1 in
    let third = half_read c r.0 r.1 in
    let same = (chosen_value true (Resource o.0 i.0 r.0) Token p r.2).1 in
    subst (λ q. (47 ∷ (a ++ 47 ∷ (b ++ 47 ∷ c)) ≡ path_text q) × IsPath q) same
    (cc (first.0, second.0, third.0), (first.1, second.1, third.1))

four_read : (a b c d : List ℕ) (p : Path) → path_of_numbers (a ∷ b ∷ c ∷ d ∷ []) ≡ Ok p
    → (join_with_byte 47 ([] ∷ a ∷ b ∷ c ∷ d ∷ []) ≡ path_text p) × IsPath p
four_read a b c d p e =
    let o = bind_ok (number_of 0 65535 a) (λ n. number_of 0 65535 b >>=
    (λ m. number_of 0 65535 c >>= (λ k. number_of 0 65535 d >>= (λ j. Ok (Part n m k j))))) p e in
    let i = bind_ok (number_of 0 65535 b) (λ m. number_of 0 65535 c >>=
    (λ k. number_of 0 65535 d >>= (λ j. Ok (Part o.0 m k j)))) p o.2 in
    let r = bind_ok (number_of 0 65535 c) (λ k. number_of 0 65535 d >>= (λ j. Ok (Part o.0 i.0 k j))) p i.2 in
    let s = bind_ok (number_of 0 65535 d) (λ j. Ok (Part o.0 i.0 r.0 j)) p r.2 in
    let first = half_read a o.0 o.1 in
    let second = half_read b i.0 i.1 in
    let third = half_read c r.0 r.1 in
    let fourth = half_read d s.0 s.1 in
    let same = (chosen_value true (Part o.0 i.0 r.0 s.0) Token p s.2).1 in
    subst (λ q. (47 ∷ (a ++ 47 ∷ (b ++ 47 ∷ (c ++ 47 ∷ d))) ≡ path_text q) × IsPath q) same
    (cc (first.0, second.0, third.0, fourth.0), (first.1, second.1, third.1, fourth.1))

numbers_read : (ws : List (List ℕ)) (p : Path) → path_of_numbers ws ≡ Ok p → (join_with_byte 47 ([] ∷ ws) ≡ path_text p)
    × IsPath p
numbers_read [] p e = cc
numbers_read (a ∷ []) p e = one_read a p e
numbers_read (a ∷ b ∷ []) p e = two_read a b p e
numbers_read (a ∷ b ∷ c ∷ []) p e = three_read a b c p e
numbers_read (a ∷ b ∷ c ∷ d ∷ []) p e = four_read a b c d p e
numbers_read (a ∷ b ∷ c ∷ d ∷ x ∷ more) p e = cc

parts_read : (ps : List (List ℕ)) (p : Path) → path_of_parts ps ≡ Ok p → (join_with_byte 47 ps ≡ path_text p) × IsPath p
parts_read [] p e = cc
parts_read ([] ∷ ws) p e = numbers_read ws p (chosen (list_all is_number ws) (path_of_numbers ws) Token p e).1
parts_read ((b ∷ bs) ∷ ws) p e = cc

-- what is written

no_digit : (c d : ℕ) → is_ascii_digit c ≡ false → is_ascii_digit d ≡ true → d ≢ c
no_digit c d other digit e = absurd (false≢true (sym other ∙ sym (ap is_ascii_digit e) ∙ digit))

pub other_byte : (c b : ℕ) (bs : List ℕ) → b ≢ c → parts c (b ∷ bs) ≡ onto_first b (parts c bs)
other_byte c b bs e = ap (λ t. cond t ([] ∷ parts c bs) (onto_first b (parts c bs))) (ne_eqb b c e)

apart : (c : ℕ) (ds rest : List ℕ) → is_ascii_digit c ≡ false → list_all is_ascii_digit ds ≡ true
    → parts c (ds ++ c ∷ rest) ≡ ds ∷ parts c rest
apart c [] rest other h = ap (λ t. cond t ([] ∷ parts c rest) (onto_first c (parts c rest))) (eq-eqb c c refl)
apart c (d ∷ ds) rest other h =
    let both = and_parts (is_ascii_digit d) (list_all is_ascii_digit ds) h in
    other_byte c d (ds ++ c ∷ rest) (no_digit c d other both.0) ∙ ap (onto_first d) (apart c ds rest other both.1)

alone : (c : ℕ) (ds : List ℕ) → is_ascii_digit c ≡ false → list_all is_ascii_digit ds ≡ true → parts c ds ≡ ds ∷ []
alone c [] other h = refl
alone c (d ∷ ds) other h =
    let both = and_parts (is_ascii_digit d) (list_all is_ascii_digit ds) h in
    other_byte c d ds (no_digit c d other both.0) ∙ ap (onto_first d) (alone c ds other both.1)

digits_of_half : (n : ℕ) → n < 65536 → list_all is_ascii_digit (decimal n) ≡ true
digits_of_half n h = natural_digits (decimal n) (is_natural-decimal n (omega arith))

half_apart : (c n : ℕ) (rest : List ℕ) → is_ascii_digit c ≡ false → n < 65536
    → parts c (decimal n ++ c ∷ rest) ≡ decimal n ∷ parts c rest
half_apart c n rest other h = apart c (decimal n) rest other (digits_of_half n h)

half_alone : (c n : ℕ) → is_ascii_digit c ≡ false → n < 65536 → parts c (decimal n) ≡ decimal n ∷ []
half_alone c n other h = alone c (decimal n) other (digits_of_half n h)

half_number : (n : ℕ) → n < 65536 → is_number (decimal n) ≡ true
half_number n h = is_number-natural (decimal n) (is_natural-decimal n (omega arith))

number_words : Path → List (List ℕ)
number_words (Object o) = decimal o ∷ []
number_words (Instance o i) = decimal o ∷ decimal i ∷ []
number_words (Resource o i r) = decimal o ∷ decimal i ∷ decimal r ∷ []
number_words (Part o i r p) = decimal o ∷ decimal i ∷ decimal r ∷ decimal p ∷ []

path_parts : (p : Path) → IsPath p → parts 47 (path_text p) ≡ [] ∷ number_words p
unfolding number_words
path_parts (Object o) h = ap (λ ps. [] ∷ ps) (half_alone 47 o refl h)
path_parts (Instance o i) h =
    ap (λ ps. [] ∷ ps) (half_apart 47 o (decimal i) refl h.0 ∙ ap (λ ps. decimal o ∷ ps) (half_alone 47 i refl h.1))
path_parts (Resource o i r) h =
    ap (λ ps. [] ∷ ps) (half_apart 47 o (decimal i ++ 47 ∷ decimal r) refl h.0
    ∙ ap (λ ps. decimal o ∷ ps) (half_apart 47 i (decimal r) refl h.1
    ∙ ap (λ ps. decimal i ∷ ps) (half_alone 47 r refl h.2)))
path_parts (Part o i r p) h =
    ap (λ ps. [] ∷ ps) (half_apart 47 o (decimal i ++ 47 ∷ (decimal r ++ 47 ∷ decimal p)) refl h.0
    ∙ ap (λ ps. decimal o ∷ ps) (half_apart 47 i (decimal r ++ 47 ∷ decimal p) refl h.1
    ∙ ap (λ ps. decimal i ∷ ps) (half_apart 47 r (decimal p) refl h.2
    ∙ ap (λ ps. decimal r ∷ ps) (half_alone 47 p refl h.3))))

are_numbers : (p : Path) → IsPath p → list_all is_number (number_words p) ≡ true
unfolding number_words
are_numbers (Object o) h = and_from _ _ (half_number o h) refl
are_numbers (Instance o i) h = and_from _ _ (half_number o h.0) (and_from _ _ (half_number i h.1) refl)
are_numbers (Resource o i r) h =
    and_from _ _ (half_number o h.0) (and_from _ _ (half_number i h.1) (and_from _ _ (half_number r h.2) refl))
are_numbers (Part o i r p) h =
    and_from _ _ (half_number o h.0) (and_from _ _ (half_number i h.1)
    (and_from _ _ (half_number r h.2) (and_from _ _ (half_number p h.3) refl)))

numbers_again : (p : Path) → IsPath p → path_of_numbers (number_words p) ≡ Ok p
unfolding number_words
numbers_again (Object o) h = rw (half_from o h) refl
numbers_again (Instance o i) h = rw (half_from o h.0, half_from i h.1) refl
numbers_again (Resource o i r) h = rw (half_from o h.0, half_from i h.1, half_from r h.2) refl
numbers_again (Part o i r p) h = rw (half_from o h.0, half_from i h.1, half_from r h.2, half_from p h.3) refl

pub path_again : (p : Path) → IsPath p → path_of (path_text p) ≡ Ok p
path_again p h =
    ap path_of_parts (path_parts p h) ∙ ap (λ t. cond t (path_of_numbers (number_words p)) (Err Token))
    (are_numbers p h) ∙ numbers_again p h

path_found : (w : List ℕ) (p : Path) → path_of w ≡ Ok p → (w ≡ path_text p) × IsPath p
path_found w p e =
    let read = parts_read (parts 47 w) p e in
    (sym (join_with_byte-slice_split 47 w) ∙ read.0, read.1)

pub path_law : (w : List ℕ) (p : Path) → (path_of w ≡ Ok p) ↔ ((w ≡ path_text p) × IsPath p)
path_law w p = (path_found w p, λ h. ap path_of h.0 ∙ path_again p h.1)

-- links

abbrev linked : ℕ → ℕ → Result (ℕ × ℕ) Cause
linked n m = Ok (n, m)

pair_read : (a b : List ℕ) (o i : ℕ) → (number_of 0 65535 a >>= (λ n. number_of 0 65535 b >>= (linked n))) ≡ Ok (o, i)
    → (a ++ 58 ∷ b ≡ link_word o i) × (o < 65536) × (i < 65536)
pair_read a b o i e =
    let link : ℕ × ℕ = (o, i) in
    let first = bind_ok (number_of 0 65535 a) (λ n. number_of 0 65535 b >>= (linked n)) link e in
    let second = bind_ok (number_of 0 65535 b) (linked first.0) link first.2 in
    let object = half_read a first.0 first.1 in
    let instance = half_read b second.0 second.1 in
    let found : ℕ × ℕ = (first.0, second.0) in
    let wanted : ℕ × ℕ = (o, i) in
    let both : found ≡ wanted = (chosen_value true found Token wanted second.2).1 in
    let same_o : first.0 ≡ o = ap (λ (x : ℕ × ℕ). x.0) both in
    let same_i : second.0 ≡ i = ap (λ (x : ℕ × ℕ). x.1) both in (
      cc (object.0, instance.0, same_o, same_i),
      subst (λ n. n < 65536) same_o object.1,
      subst (λ n. n < 65536) same_i instance.1,
    )

link_read : (ps : List (List ℕ)) (o i : ℕ) → link_of_parts ps ≡ Ok (o, i) → (join_with_byte 58 ps ≡ link_word o i)
    × (o < 65536) × (i < 65536)
link_read [] o i e = cc
link_read (a ∷ []) o i e = cc
link_read (a ∷ b ∷ []) o i e =
    let link : ℕ × ℕ = (o, i) in
    pair_read a b o i (chosen (list_all is_number (a ∷ b ∷ []))
    (number_of 0 65535 a >>= (λ n. number_of 0 65535 b >>= (linked n))) Token link e).1
link_read (a ∷ b ∷ c ∷ more) o i e = cc

link_found : (w : List ℕ) (o i : ℕ) → link_of w ≡ Ok (o, i) → (w ≡ link_word o i) × (o < 65536) × (i < 65536)
link_found w o i e =
    let read = link_read (parts 58 w) o i e in
    (sym (join_with_byte-slice_split 58 w) ∙ read.0, read.1, read.2)

link_parts : (o i : ℕ) → o < 65536 → i < 65536 → parts 58 (link_word o i) ≡ decimal o ∷ decimal i ∷ []
link_parts o i h k = half_apart 58 o (decimal i) refl h ∙ ap (λ ps. decimal o ∷ ps) (half_alone 58 i refl k)

pub link_again : (o i : ℕ) → o < 65536 → i < 65536 → link_of (link_word o i) ≡ Ok (o, i)
link_again o i h k =
    ap link_of_parts (link_parts o i h k)
    ∙ ap (λ t. cond t (number_of 0 65535 (decimal o) >>= (λ n. number_of 0 65535 (decimal i) >>= (linked n)))
    (Err Token)) (and_from _ _ (half_number o h) (and_from _ _ (half_number i k) refl))
    ∙ rw (half_from o h, half_from i k) refl

pub link_law : (w : List ℕ) (o i : ℕ) → (link_of w ≡ Ok (o, i)) ↔ ((w ≡ link_word o i) × (o < 65536) × (i < 65536))
link_law w o i = (link_found w o i, λ h. ap link_of h.0 ∙ link_again o i h.1 h.2)
