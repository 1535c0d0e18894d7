-- The text that is printed of a number says that number, and texts say no numbers but those of their attribute.
use Rattle.std.proofs.Common.{◌≡◌, ℕ, zero, suc, ◌+◌, ◌*◌, ◌-◌, ◌/◌, ◌%◌, ◌^◌, ◌<◌, ◌≤◌, ◌==◌, ℤ, pos, negsuc, neg_ℤ}
use Rattle.std.proofs.Common.{Bool, true, false, List, [], ◌∷◌, ◌++◌, length, refl, sym, ap, subst, ◌∙◌, inl, inr}
use Rattle.std.proofs.Common.{arith, eqb-true, le-ltb, append-nil, if◌then◌else◌}
use Rattle.std.specs.Prelude.{unsigned_abs}
use Rattle.std.specs.Char.{digit_value}
use Rattle.std.specs.Fmt.{decimal}
use Rattle.std.specs.Str.Parse.{digits_value}
use Rattle.std.proofs.Math.Nat.{pow-le-pow_right}
use Rattle.std.proofs.lemmas.Fmt.{decimal_digit, decimal_is_IsNumeral, length-decimal-le}
use Rattle.std.proofs.lemmas.Int.Digits.{digits_value-lt}
use Rattle.object_defs.proofs.Digits.{digit_value-digit}
use Rattle.lwm2m_values.specs.Value.{IsDecimal}
use Rattle.notifier.specs.declared.attribute.Name.{Name}
use Rattle.notifier.specs.declared.attribute.Name.TheVariants.{Pmin, Pmax, Gt, Lt, St}
use Rattle.device_requests.specs.Discover.{number_text, thousandths_text, unsigned_text}
use Rattle.laws_reading.specs.Queries.{IsSignedThousandths, IsThousandths, SaysNumber}
use Rattle.laws_discover.specs.Printed.{IsAttributeNumber}

-- digits

digit : (a : ℕ) → a < 10 → digit_value (48 + a) ≡ a
digit a h =
    let same : digit_value (48 + a) ≡ 48 + a - 48 = digit_value-digit (48 + a) (omega arith, omega arith) in
    omega (arith, same)

one : (a : ℕ) → a < 10 → IsDecimal a ((48 + a) ∷ [])
one a h = let d = digit a h in ((omega arith, (omega (arith, d), tt)), omega (arith, d))

two : (a b : ℕ) → a < 10 → b < 10 → IsDecimal (a * 10 + b) ((48 + a) ∷ (48 + b) ∷ [])
two a b h k =
    let d = digit a h in
    let e = digit b k in
    ((omega arith, (omega (arith, d), (omega (arith, e), tt))), omega (arith, d, e))

three : (a b c : ℕ) → a < 10 → b < 10 → c < 10
    → IsDecimal (a * 100 + b * 10 + c) ((48 + a) ∷ (48 + b) ∷ (48 + c) ∷ [])
three a b c h k l =
    let d = digit a h in
    let e = digit b k in
    let f = digit c l in (
      (omega arith, (omega (arith, d), (omega (arith, e), (omega (arith, f), tt)))),
      omega (arith, d, e, f),
    )

-- thousandths as they are printed

behind_point : (n w f : ℕ) (part : List ℕ) → w < 10 ^ 15 → IsDecimal f part → length part ≤ 3
    → n ≡ w * 1000 + f * 10 ^ (3 - length part) → IsThousandths n (decimal w ++ 46 ∷ part)
behind_point n w f part small says short e =
    inr (
      w,
      f,
      decimal w,
      part,
      refl,
      decimal_is_IsNumeral w (omega arith),
      length-decimal-le 15 w (omega arith) small (omega arith),
      says,
      short,
      e,
    )

-- the digits a, b and c after the point, of which the last may be left out where they are 0
tenths : (n w a : ℕ) → w < 10 ^ 15 → a < 10 → n ≡ w * 1000 + a * 100 → IsThousandths n (decimal w ++ 46 ∷ decimal a)
tenths n w a small h e =
    subst (λ t. IsThousandths n (decimal w ++ 46 ∷ t)) (sym (decimal_digit a h))
    (behind_point n w a ((48 + a) ∷ []) small (one a h) (omega arith) e)

hundredths : (n w a b : ℕ) → w < 10 ^ 15 → a < 10 → b < 10 → n ≡ w * 1000 + (a * 10 + b) * 10
    → IsThousandths n (decimal w ++ 46 ∷ (decimal a ++ decimal b))
hundredths n w a b small h k e =
    subst (λ t. IsThousandths n (decimal w ++ 46 ∷ (t ++ decimal b))) (sym (decimal_digit a h))
    (subst (λ t. IsThousandths n (decimal w ++ 46 ∷ (48 + a) ∷ t)) (sym (decimal_digit b k))
    (behind_point n w (a * 10 + b) ((48 + a) ∷ (48 + b) ∷ []) small (two a b h k) (omega arith) e))

thousandths : (n w a b c : ℕ) → w < 10 ^ 15 → a < 10 → b < 10 → c < 10 → n ≡ w * 1000 + (a * 100 + b * 10 + c) * 1
    → IsThousandths n (decimal w ++ 46 ∷ (decimal a ++ (decimal b ++ decimal c)))
thousandths n w a b c small h k l e =
    subst (λ t. IsThousandths n (decimal w ++ 46 ∷ (t ++ (decimal b ++ decimal c)))) (sym (decimal_digit a h))
    (subst (λ t. IsThousandths n (decimal w ++ 46 ∷ (48 + a) ∷ (t ++ decimal c))) (sym (decimal_digit b k))
    (subst (λ t. IsThousandths n (decimal w ++ 46 ∷ (48 + a) ∷ (48 + b) ∷ t)) (sym (decimal_digit c l))
    (behind_point n w (a * 100 + b * 10 + c) ((48 + a) ∷ (48 + b) ∷ (48 + c) ∷ []) small (three a b c h k l)
    (omega arith) e)))

whole_alone : (n w : ℕ) → w < 10 ^ 15 → n ≡ w * 1000 → IsThousandths n (decimal w ++ [])
whole_alone n w small e =
    subst (IsThousandths n) (sym (append-nil (decimal w)))
    (inl (w, decimal_is_IsNumeral w (omega arith), length-decimal-le 15 w (omega arith) small (omega arith), e))

printed_by : (n f : ℕ) (x y z : Bool) → n < 10 ^ 18 → f ≡ n % 1000 → (f == 0) ≡ x → (f % 100 == 0) ≡ y
    → (f % 10 == 0) ≡ z
    → IsThousandths n (decimal (n / 1000) ++ (if x then [] else if y then 46 ∷ decimal (f / 100)
    else if z then 46 ∷ decimal (f / 100) ++ decimal (f / 10 % 10)
    else 46 ∷ decimal (f / 100) ++ (decimal (f / 10 % 10) ++ decimal (f % 10))))
printed_by n f true y z small is h k l =
    let none : f ≡ 0 = eqb-true f 0 h in
    whole_alone n (n / 1000) (omega arith) (omega arith)
printed_by n f false true z small is h k l =
    let none : f % 100 ≡ 0 = eqb-true (f % 100) 0 k in
    tenths n (n / 1000) (f / 100) (omega arith) (omega arith) (omega arith)
printed_by n f false false true small is h k l =
    let none : f % 10 ≡ 0 = eqb-true (f % 10) 0 l in
    hundredths n (n / 1000) (f / 100) (f / 10 % 10) (omega arith) (omega arith) (omega arith) (omega arith)
printed_by n f false false false small is h k l =
    thousandths n (n / 1000) (f / 100) (f / 10 % 10) (f % 10) (omega arith) (omega arith) (omega arith) (omega arith)
    (omega arith)

unsigned_said : (n : ℕ) → n < 10 ^ 18 → IsThousandths n (unsigned_text n)
unsigned_said n small = printed_by n (n % 1000) _ _ _ small refl refl refl refl

-- the number of each name is said by its text

seconds_said : (n : ℕ) → n < 2147483648 → IsDecimal n (decimal n)
seconds_said n small = decimal_is_IsNumeral n (omega arith)

behind_sign : (n : ℕ) → n < 10 ^ 18 → IsThousandths n (thousandths_text (pos n))
behind_sign n small =
    subst (λ b. IsThousandths n (if b then 45 ∷ unsigned_text n else unsigned_text n)) (sym (le-ltb n 0 (omega arith)))
    (unsigned_said n small)

pub number_text_says : (n : Name) (z : ℤ) → IsAttributeNumber n z → SaysNumber n (number_text n z) z
number_text_says Pmin z h =
    subst (λ y. SaysNumber Pmin (number_text Pmin y) y) (sym h.1) (h.0, seconds_said h.0 h.2, h.2, refl)
number_text_says Pmax z h =
    subst (λ y. SaysNumber Pmax (number_text Pmax y) y) (sym h.1) (h.0, seconds_said h.0 h.2, h.2, refl)
number_text_says Gt (pos m) h = inl (m, behind_sign m h, refl)
number_text_says Gt (negsuc m) h = inr (suc m, unsigned_text (suc m), refl, unsigned_said (suc m) h, refl)
number_text_says Lt (pos m) h = inl (m, behind_sign m h, refl)
number_text_says Lt (negsuc m) h = inr (suc m, unsigned_text (suc m), refl, unsigned_said (suc m) h, refl)
number_text_says St z h =
    subst (λ y. SaysNumber St (number_text St y) y) (sym h.1) (h.0, behind_sign h.0 h.3, h.2, refl)

-- and no other number is said

below_digits : (t : List ℕ) (n most : ℕ) → IsDecimal n t → length t ≤ most → n < 10 ^ most
below_digits t n most h short =
    let low : digits_value 10 t < 10 ^ length t = digits_value-lt 10 t h.0.1 in
    let high : 10 ^ length t ≤ 10 ^ most = pow-le-pow_right {n = 10} (omega arith) short in
    let same : digits_value 10 t ≡ n = h.1 in
    omega (arith, low, high, same)

shifted : (k f : ℕ) → k ≤ 3 → f < 10 ^ k → f * 10 ^ (3 - k) < 1000
shifted zero f short h = omega arith
shifted (suc zero) f short h = omega arith
shifted (suc (suc zero)) f short h = omega arith
shifted (suc (suc (suc zero))) f short h = omega arith
shifted (suc (suc (suc (suc k)))) f short h = absurd (omega arith)

thousandths_below : (n : ℕ) (t : List ℕ) → IsThousandths n t → n < 10 ^ 18
thousandths_below n t (inl p) =
    let w : p.0 < 10 ^ 15 = below_digits t p.0 15 p.1 p.2 in
    let e : n ≡ p.0 * 1000 = p.3 in
    omega (arith, w, e)
thousandths_below n t (inr p) =
    let w : p.0 < 10 ^ 15 = below_digits p.2 p.0 15 p.5 p.6 in
    let f : p.1 < 10 ^ length p.3 = below_digits p.3 p.1 (length p.3) p.7 (omega arith) in
    let g : p.1 * 10 ^ (3 - length p.3) < 1000 = shifted (length p.3) p.1 p.8 f in
    let e : n ≡ p.0 * 1000 + p.1 * 10 ^ (3 - length p.3) = p.9 in
    omega (arith, w, g, e)

negated : (n : ℕ) → unsigned_abs (neg_ℤ (pos n)) ≡ n
negated zero = refl
negated (suc n) = refl

signed_below : (z : ℤ) (t : List ℕ) → IsSignedThousandths z t → unsigned_abs z < 10 ^ 18
signed_below z t (inl p) = subst (λ n. n < 10 ^ 18) (sym (ap unsigned_abs p.2)) (thousandths_below p.0 t p.1)
signed_below z t (inr p) =
    subst (λ n. n < 10 ^ 18) (sym (ap unsigned_abs p.4 ∙ negated p.0)) (thousandths_below p.0 p.1 p.3)

pub said_in_range : (n : Name) (t : List ℕ) (z : ℤ) → SaysNumber n t z → IsAttributeNumber n z
said_in_range Pmin t z p = (p.0, p.3, p.2)
said_in_range Pmax t z p = (p.0, p.3, p.2)
said_in_range Gt t z p = signed_below z t p
said_in_range Lt t z p = signed_below z t p
said_in_range St t z p = (p.0, p.3, p.2, thousandths_below p.0 t p.1)
