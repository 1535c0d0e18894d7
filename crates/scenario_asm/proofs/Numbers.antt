-- Values that are good, and bytes, as words can say them.
use Rattle.std.proofs.Common.{◌≡◌, ℕ, suc, ◌<◌, true, ltb, List, [], ◌∷◌, All, subst, inl, inr, arith}
use Rattle.std.specs.Int.Digits.{AllBelowBase}
use Rattle.std.specs.Str.{IsUtf8, encode_utf8_all}
use Rattle.std.proofs.Math.Utf8.{scalar, scalars, encode, scalar_cases}
use Rattle.std.proofs.lemmas.Bool.{and_parts, ltb-true}
use Rattle.std.proofs.lemmas.List.Elements.{All-from_recursion}
use Rattle.lemmas.proofs.Lists.{each_appended}
use Rattle.lwm2m_values.specs.Value.{IsGood}
use Rattle.lwm2m_values.specs.declared.value.Value.{Value}
use Rattle.lwm2m_values.specs.declared.value.Value.TheVariants as value
use Rattle.byte_layout.specs.Exact.{IsBytes}
use Rattle.scenario_words.specs.ValueWords.{IsValue}
use Rattle.scenario_asm.proofs.Each.{chosen}

pub bytes_below : (bs : List ℕ) → IsBytes bs → AllBelowBase 256 bs
bytes_below [] h = tt
bytes_below (b ∷ bs) h = (h 0, bytes_below bs (λ i. h (suc i)))

pub bytes_all : (bs : List ℕ) → IsBytes bs → All (λ b. b < 256) bs
bytes_all bs h = All-from_recursion (λ b. b < 256) bs (bytes_below bs h)

scalar_small : (c : ℕ) → scalar c ≡ true → c < 1114112
scalar_small c h = elim (scalar_cases c h) [ inl low ↦ omega (arith, low) | inr high ↦ high.1 ]

char_below : (c : ℕ) → scalar c ≡ true → AllBelowBase 256 (encode c)
unfolding encode
char_below c h =
    let small = scalar_small c h in
    chosen (AllBelowBase 256) (ltb c 128) _ _ (λ e. (omega (arith, ltb-true c 128 e), tt)) (λ e.
    chosen (AllBelowBase 256) (ltb c 2048) _ _ (λ f. (omega (arith, ltb-true c 2048 f), (omega arith, tt))) (λ f.
    chosen (AllBelowBase 256) (ltb c 65536) _ _
    (λ g. (omega (arith, ltb-true c 65536 g), (omega arith, (omega arith, tt)))) (λ g.
    (omega (arith, small), (omega arith, (omega arith, (omega arith, tt)))))))

chars_below : (cs : List ℕ) → scalars cs ≡ true → AllBelowBase 256 (encode_utf8_all cs)
chars_below [] h = tt
chars_below (c ∷ cs) h =
    let both = and_parts (scalar c) (scalars cs) h in
    each_appended (λ d. d < 256) (encode c) (encode_utf8_all cs) (char_below c both.0) (chars_below cs both.1)

text_below : (t : List ℕ) → IsUtf8 t → AllBelowBase 256 t
text_below t h = subst (AllBelowBase 256) h.1.1 (chars_below h.0 h.1.0)

pub good_value : (v : Value) → IsGood v → IsValue v
good_value (value.Text t) h = (h.0, text_below t h.0)
good_value (value.Whole z) h = h
good_value (value.Flag b) h = tt
good_value (value.Opaque b) h = bytes_below b h.0
good_value (value.Moment z) h = h
good_value (value.Link o i) h = h
