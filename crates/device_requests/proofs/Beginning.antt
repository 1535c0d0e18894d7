-- Texts of one beginning are too long for a payload together, and else they are the same.
use Rattle.std.proofs.Common.{◌≡◌, ℕ, zero, suc, ◌<◌, ◌≤◌, min, nat_lt, Bool, true, false, List, [], ◌∷◌, ◌++◌, length}
use Rattle.std.proofs.Common.{take, None, Some, refl, sym, ap, ◌∙◌, arith, if◌then◌else◌}
use Rattle.std.proofs.lemmas.Bool.Decides.{nat_tests}
use Rattle.std.proofs.lemmas.List.{length-take, take-append-le, take_all}
use Rattle.lwm2m_payloads.specs.Nodes.{within_limit}
use Rattle.device_requests.specs.Inside.{beginning}

-- what follows a text that is too long does not show
pub beginning_long : (text more : List ℕ) → 1024 < length text → beginning text ≡ beginning (text ++ more)
unfolding beginning
beginning_long text more h = sym (take-append-le 1025 text more (omega arith))

take_first : (n : ℕ) (text more : List ℕ) → take n (text ++ more) ≡ take n (take n text ++ more)
take_first zero text more = refl
take_first (suc n) [] more = refl
take_first (suc n) (b ∷ text) more = ap (λ t. b ∷ t) (take_first n text more)

pub beginning_more : (s t more : List ℕ) → beginning s ≡ beginning t → beginning (s ++ more) ≡ beginning (t ++ more)
unfolding beginning
beginning_more s t more h =
    take_first 1025 s more ∙ ap (λ b. take 1025 (b ++ more)) h ∙ sym (take_first 1025 t more)

same_min : (s t : List ℕ) → beginning s ≡ beginning t → min 1025 (length s) ≡ min 1025 (length t)
unfolding beginning
same_min s t h = sym (length-take 1025 s) ∙ ap length h ∙ length-take 1025 t

same_short : (s t : List ℕ) → beginning s ≡ beginning t → length s ≤ 1024 → length t ≤ 1024 → s ≡ t
unfolding beginning
same_short s t h m n = sym (take_all 1025 s (omega arith)) ∙ h ∙ take_all 1025 t (omega arith)

limit_over : (text : List ℕ) (b : Bool) → nat_lt 1024 (length text) ≡ b → 1024 < length text
    → None ≡ (if b then None else Some text)
limit_over text true e h = refl
limit_over text false e h = let few : length text ≤ 1024 = grind (arith, nat_tests) in absurd (omega arith)

limit_kept : (text : List ℕ) (b : Bool) → nat_lt 1024 (length text) ≡ b → length text ≤ 1024
    → Some text ≡ (if b then None else Some text)
limit_kept text true e h = let much : 1024 < length text = grind (arith, nat_tests) in absurd (omega arith)
limit_kept text false e h = refl

pub past_limit : (s t : List ℕ) → beginning s ≡ beginning t → 1024 < length s → None ≡ within_limit t
past_limit s t h long =
    limit_over t (nat_lt 1024 (length t)) refl (omega (arith, same_min s t h))

pub in_limit : (s t : List ℕ) → beginning s ≡ beginning t → length s ≤ 1024 → Some s ≡ within_limit t
in_limit s t h short =
    let few : length t ≤ 1024 = omega (arith, same_min s t h) in
    ap Some (same_short s t h short few) ∙ limit_kept t (nat_lt 1024 (length t)) refl few
