-- Where reading arguments byte by byte comes to nowhere, they stop being arguments.
use Rattle.std.proofs.Common.{◌≡◌, ◌≢◌, ℕ, ◌+◌, ◌<◌, ◌≤◌, true, false, List, [], ◌∷◌, ◌++◌, length, take, drop}
use Rattle.std.proofs.Common.{get_or, suc, zero}
use Rattle.std.proofs.Math.ListN.{drop_of_length-le}
use Rattle.std.proofs.Math.Nat.{le_of_suc-le-suc}
use Rattle.std.proofs.Math.Seq.{drop-cons}
use Rattle.std.proofs.Common.{refl, sym, ap, subst, ◌∙◌, arith, true≢false}
use Rattle.std.proofs.lemmas.List.{take-append-drop}
use Rattle.lwm2m_payloads.specs.declared.arguments.Place.{Place}
use Rattle.lwm2m_payloads.specs.declared.arguments.Place.TheVariants.{Start, Comma, Digit, Equals, Text, Quote, Nowhere}
use Rattle.lwm2m_payloads.specs.Arguments.{AreArguments, BeginArguments, IsArgumentFault}
use Rattle.lwm2m_payloads.specs.Scanning.{are_arguments, is_end, run, step}
use Rattle.lwm2m_payloads.proofs.Reading.{tested}

-- where bytes lead
abbrev pub walk : Place → List ℕ → Place
walk p [] = p
walk p (c ∷ cs) = walk (step p c) cs

over : (p : Place) (bytes others : List ℕ) → run p (bytes ++ others) ≡ run (walk p bytes) others
over p [] others = refl
over p (c ∷ bytes) others = over (step p c) bytes others

took : (p : Place) (bytes : List ℕ) (i : ℕ) → i < length bytes
    → walk p (take (suc i) bytes) ≡ step (walk p (take i bytes)) (get_or bytes i 0)
took p [] i h = absurd (omega (arith, h))
took p (c ∷ bytes) zero h = refl
took p (c ∷ bytes) (suc i) h = took (step p c) bytes i (le_of_suc-le-suc h)

-- one byte further
pub one_on : (payload : List ℕ) (i : ℕ) (p q : Place) → i < length payload → walk Start (take i payload) ≡ p
    → q ≡ step p (get_or payload i 0) → walk Start (take (i + 1) payload) ≡ q
one_on payload i p q h led is =
    let n : i + 1 ≡ suc i = omega arith in
    ap (λ k. walk Start (take k payload)) n ∙ took Start payload i h ∙ ap (λ r. step r (get_or payload i 0)) led
    ∙ sym is

-- what is left is so as well
pub one_off : (payload : List ℕ) (i : ℕ) (p q : Place) → i < length payload
    → run p (drop i payload) ≡ run Start payload → q ≡ step p (get_or payload i 0)
    → run q (drop (i + 1) payload) ≡ run Start payload
one_off payload i p q h left is =
    let n : i + 1 ≡ suc i = omega arith in
    ap (λ k. run q (drop k payload)) n ∙ ap (λ r. run r (drop (suc i) payload)) is
    ∙ sym (ap (run p) (drop-cons payload i 0 h)) ∙ left

lost : (bytes : List ℕ) → run Nowhere bytes ≡ false
lost [] = refl
lost (c ∷ bytes) = lost bytes

-- from every other place some bytes lead to an end
comes : (p : Place) → p ≢ Nowhere → (bytes : List ℕ) × (run p bytes ≡ true)
comes Start h = ([], refl)
comes Comma h = (48 ∷ [], refl)
comes Digit h = ([], refl)
comes Equals h = (39 ∷ 39 ∷ [], refl)
comes Text h = (39 ∷ [], refl)
comes Quote h = ([], refl)
comes Nowhere h = absurd (h refl)

pub begun : (bytes : List ℕ) (p : Place) → walk Start bytes ≡ p → p ≢ Nowhere → BeginArguments bytes
begun bytes p is h =
    let some = comes p h in
    (some.0, (tested (bytes ++ some.0)).0 (over Start bytes some.0 ∙ ap (λ q. run q some.0) is ∙ some.1))

pub not_begun : (bytes : List ℕ) → walk Start bytes ≡ Nowhere → BeginArguments bytes → ⊥
not_begun bytes is begins =
    true≢false (sym ((tested (bytes ++ begins.0)).1 begins.1) ∙ over Start bytes begins.0
    ∙ ap (λ q. run q begins.0) is ∙ lost begins.0)

refused : (payload : List ℕ) → run Start payload ≡ false → AreArguments payload → ⊥
refused payload h is = true≢false (sym ((tested payload).1 is) ∙ h)

-- the byte at n leads to nowhere, and those before it do not
pub stops_at : (payload : List ℕ) (n i : ℕ) (p q : Place) → n ≡ i → i < length payload
    → walk Start (take i payload) ≡ p → p ≢ Nowhere → q ≡ step p (get_or payload i 0) → q ≡ Nowhere
    → IsArgumentFault payload n
stops_at payload n i p q e h led some is none =
    let here : walk Start (take n payload) ≡ p = ap (λ k. walk Start (take k payload)) e ∙ led in
    let next : walk Start (take (n + 1) payload) ≡ Nowhere =
    ap (λ k. walk Start (take (k + 1) payload)) e ∙ one_on payload i p q h led is ∙ none in record {
      refused = λ are. not_begun (take (n + 1) payload) next
          (drop (n + 1) payload, subst AreArguments (sym (take-append-drop (n + 1) payload)) are);
      within = omega (arith, h, e);
      begun = begun (take n payload) p here some;
      ended = λ _. not_begun (take (n + 1) payload) next;
    }

-- so it is not arguments
pub none_left : (payload : List ℕ) (i : ℕ) (p q : Place) → i < length payload
    → run p (drop i payload) ≡ run Start payload → q ≡ step p (get_or payload i 0) → q ≡ Nowhere
    → are_arguments payload ≡ false
none_left payload i p q h left is none =
    sym (one_off payload i p q h left is) ∙ ap (λ r. run r (drop (i + 1) payload)) none ∙ lost (drop (i + 1) payload)

-- the bytes lead to a place where arguments cannot end
pub ends_early : (payload : List ℕ) (n i : ℕ) (p : Place) → n ≡ i → i ≤ length payload → length payload ≤ i
    → walk Start (take i payload) ≡ p → p ≢ Nowhere → run p (drop i payload) ≡ run Start payload → is_end p ≡ false
    → IsArgumentFault payload n
ends_early payload n i p e low high led some left end = record {
  refused = refused payload (sym left ∙ ap (run p) (drop_of_length-le payload high) ∙ end);
  within = omega (arith, low, e);
  begun = begun (take n payload) p (ap (λ k. walk Start (take k payload)) e ∙ led) some;
  ended = λ more. absurd (omega (arith, high, e, more));
}

-- or to one where they can
pub ends_well : (payload : List ℕ) (i : ℕ) (p : Place) → length payload ≤ i
    → run p (drop i payload) ≡ run Start payload → is_end p ≡ true → AreArguments payload
ends_well payload i p high left end =
    (tested payload).0 (sym left ∙ ap (run p) (drop_of_length-le payload high) ∙ end)
