-- The seconds that pass at one reading more.
use Rattle.std.proofs.Common.{◌≡◌, ℕ, ◌+◌, ◌-◌, ◌<◌, min, List, [], ◌∷◌, ◌++◌, length, take, sum}
use Rattle.std.proofs.Common.{slice_index, Option, None, Some, unwrap_or, refl, sym, ap, ◌∙◌, arith, length-append}
use Rattle.std.proofs.lemmas.List.{get_or_append_left, get_or_push, take-append-le, take_all}
use Rattle.std.proofs.lemmas.List.Sums.{sum_by_push}
use borrow.Author.Count.{below_more}
use Rattle.live_link.specs.Live.{ArePassed}
use Rattle.live_link.specs.Serving.{IsTimed, counted_to, passed_at}

pub passed_more : (rs ss : List ℕ) (r s : ℕ) → ArePassed rs ss
    → s ≡ min 86400 (r - (slice_index (rs ++ r ∷ []) 0 + sum ss)) → ArePassed (rs ++ r ∷ []) (ss ++ s ∷ [])
passed_more rs ss r s h e =
    record {
      count = omega (arith, h.count, length-append ss (s ∷ []), length-append rs (r ∷ []));
      each = λ k l. below_more (λ n. slice_index (ss ++ s ∷ []) n
          ≡ min 86400 (slice_index (rs ++ r ∷ []) n - (slice_index (rs ++ r ∷ []) 0 + sum (take n (ss ++ s ∷ [])))))
          (length rs) before here k (omega (arith, l, length-append rs (r ∷ [])));
    }
  where
    before : (n : ℕ) → n < length rs → slice_index (ss ++ s ∷ []) n
        ≡ min 86400 (slice_index (rs ++ r ∷ []) n - (slice_index (rs ++ r ∷ []) 0 + sum (take n (ss ++ s ∷ []))))
    before n l =
        let a = get_or_append_left ss (s ∷ []) 0 n (omega (arith, l, h.count)) in
        let b = get_or_append_left rs (r ∷ []) 0 n l in
        let d = get_or_append_left rs (r ∷ []) 0 0 (omega (arith, l)) in
        let t = take-append-le n ss (s ∷ []) (omega (arith, l, h.count)) in
        let f = h.each n l in
        cc

    here : slice_index (ss ++ s ∷ []) (length rs)
        ≡ min 86400 (slice_index (rs ++ r ∷ []) (length rs)
        - (slice_index (rs ++ r ∷ []) 0 + sum (take (length rs) (ss ++ s ∷ []))))
    here =
        let a = get_or_push ss s 0 (length rs) h.count in
        let b = get_or_push rs r 0 (length rs) refl in
        let t : take (length rs) (ss ++ s ∷ []) ≡ ss =
        take-append-le (length rs) ss (s ∷ []) (omega (arith, h.count))
        ∙ take_all (length rs) ss (omega (arith, h.count)) in
        cc

no_sum : (ss : List ℕ) → length ss ≡ 0 → sum ss ≡ 0
no_sum [] h = refl
no_sum (s ∷ ss) h = absurd (omega (arith, h))

first_is : (rs ss : List ℕ) (r : ℕ) → length ss ≡ length rs
    → slice_index (rs ++ r ∷ []) 0 + sum ss ≡ unwrap_or (counted_to rs ss) r
first_is [] ss r h = let e = no_sum ss h in omega (arith, e)
first_is (first ∷ rs) ss r h = refl

counted_more : (rs ss : List ℕ) (r s : ℕ) → length ss ≡ length rs
    → Some (unwrap_or (counted_to rs ss) r + s) ≡ counted_to (rs ++ r ∷ []) (ss ++ s ∷ [])
counted_more [] ss r s h =
    let e = no_sum ss h in
    let p = sum_by_push (λ (x : ℕ). x) ss s in
    let q : r + s ≡ r + sum (ss ++ s ∷ []) = omega (arith, e, p) in
    ap Some q
counted_more (first ∷ rs) ss r s h =
    let p = sum_by_push (λ (x : ℕ). x) ss s in
    let q : first + sum ss + s ≡ first + sum (ss ++ s ∷ []) = omega (arith, p) in
    ap Some q

-- one reading more
pub timed_more : (rs ss : List ℕ) (counted to : Option ℕ) (r : ℕ) → IsTimed rs counted ss
    → to ≡ Some (unwrap_or counted r + passed_at counted r)
    → IsTimed (rs ++ r ∷ []) to (ss ++ passed_at counted r ∷ [])
timed_more rs ss counted to r h e =
    record {
      passed = passed_more rs ss r (passed_at counted r) h.passed (ap (λ n. min 86400 (r - n)) at);
      counted_is = e ∙ ap (λ o. Some (unwrap_or o r + passed_at counted r)) h.counted_is
          ∙ counted_more rs ss r (passed_at counted r) h.passed.count;
    }
  where
    at : unwrap_or counted r ≡ slice_index (rs ++ r ∷ []) 0 + sum ss
    at = ap (λ o. unwrap_or o r) h.counted_is ∙ sym (first_is rs ss r h.passed.count)

-- no reading was made yet
pub untimed : IsTimed [] None []
untimed = record { passed = record { count = refl; each = λ k l. absurd (omega (arith, l)) }; counted_is = refl }
