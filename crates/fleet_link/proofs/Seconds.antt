-- One reading of the clock more.
use Rattle.std.proofs.Common.{◌≡◌, ℕ, ◌+◌, ◌-◌, ◌<◌, ◌≤◌, max, List, [], ◌∷◌, ◌++◌, length, take, slice_index}
use Rattle.std.proofs.Common.{slice_get, Option, Some, unwrap_or, refl, sym, ap, ◌∙◌, arith, length-append}
use Rattle.std.proofs.lemmas.List.{get_or_append_left, get_or_push, take-append-le, take_all}
use borrow.Author.Count.{below_more}
use Rattle.live_link.specs.Wire.{AreRead}
use Rattle.fleet_link.specs.Timing.{greatest, second_of, AreAsked, AreSecondsOf}
use Rattle.fleet_link.proofs.Told.{read_both}

greatest_push : (xs : List ℕ) (x : ℕ) → greatest (xs ++ x ∷ []) ≡ max (greatest xs) x
greatest_push [] x = omega arith
greatest_push (y ∷ ys) x = omega (arith, greatest_push ys x)

first_push : (xs : List ℕ) (x : ℕ) → slice_get (xs ++ x ∷ []) 0 ≡ Some (unwrap_or (slice_get xs 0) x)
first_push [] x = refl
first_push (y ∷ ys) x = refl

index_push : (xs : List ℕ) (x : ℕ) → slice_index (xs ++ x ∷ []) 0 ≡ unwrap_or (slice_get xs 0) x
index_push [] x = refl
index_push (y ∷ ys) x = refl

-- the first reading begins at 0, and each one sets the second on
second_push : (xs : List ℕ) (x : ℕ)
    → second_of (xs ++ x ∷ []) ≡ max (second_of xs) (x - unwrap_or (slice_get xs 0) x)
second_push [] x = omega arith
second_push (y ∷ ys) x = omega (arith, greatest_push ys x)

seconds_more : (rs ss : List ℕ) (r s : ℕ) → AreSecondsOf rs ss → s ≡ second_of (rs ++ r ∷ [])
    → AreSecondsOf (rs ++ r ∷ []) (ss ++ s ∷ [])
seconds_more rs ss r s h e =
    record {
      count = omega (arith, h.count, length-append ss (s ∷ []), length-append rs (r ∷ []));
      each = λ k l. below_more (λ n. slice_index (ss ++ s ∷ []) n ≡ second_of (take (n + 1) (rs ++ r ∷ [])))
          (length rs) before here k (omega (arith, l, length-append rs (r ∷ [])));
    }
  where
    before : (n : ℕ) → n < length rs → slice_index (ss ++ s ∷ []) n ≡ second_of (take (n + 1) (rs ++ r ∷ []))
    before n l =
        let a = get_or_append_left ss (s ∷ []) 0 n (omega (arith, l, h.count)) in
        let t = take-append-le (n + 1) rs (r ∷ []) (omega (arith, l)) in
        a ∙ h.each n l ∙ ap second_of (sym t)

    here : slice_index (ss ++ s ∷ []) (length rs) ≡ second_of (take (length rs + 1) (rs ++ r ∷ []))
    here =
        let a = get_or_push ss s 0 (length rs) h.count in
        let t : take (length rs + 1) (rs ++ r ∷ []) ≡ rs ++ r ∷ [] =
        take_all (length rs + 1) (rs ++ r ∷ []) (omega (arith, length-append rs (r ∷ []))) in
        a ∙ e ∙ ap second_of (sym t)

-- the clock was read, and then the ports were asked
pub asked_more : (rb ra rz ab aa az : Option (List ℕ)) (first next : Option ℕ) (now then r calls : ℕ)
    → AreAsked rb ra ab aa first now calls → AreRead ra rz (r ∷ []) → AreRead aa az (then ∷ [])
    → next ≡ Some (unwrap_or first r) → then ≡ max now (r - unwrap_or first r)
    → AreAsked rb rz ab az next then (calls + 1)
asked_more rb ra rz ab aa az first next now then r calls h read asked next_is then_is =
    let second : then ≡ second_of (h.readings ++ r ∷ []) =
    then_is ∙ ap (λ o. max now (r - unwrap_or o r)) h.first_is
    ∙ ap (λ n. max n (r - unwrap_or (slice_get h.readings 0) r)) h.now_is ∙ sym (second_push h.readings r) in
    record {
      readings = h.readings ++ r ∷ [];
      read = read_both rb ra rz h.readings (r ∷ []) _ h.read read refl;
      seconds = h.seconds ++ then ∷ [];
      asked = read_both ab aa az h.seconds (then ∷ []) _ h.asked asked refl;
      are = seconds_more h.readings h.seconds r then h.are second;
      often = omega (arith, h.often, length-append h.seconds (then ∷ []));
      first_is = next_is ∙ ap (λ o. Some (unwrap_or o r)) h.first_is ∙ sym (first_push h.readings r);
      now_is = second;
    }

-- the ports did something else
pub asked_on : (rb ra ab aa az : Option (List ℕ)) (first next : Option ℕ) (now then calls : ℕ)
    → AreAsked rb ra ab aa first now calls → AreRead aa az [] → next ≡ first → then ≡ now
    → AreAsked rb ra ab az next then calls
asked_on rb ra ab aa az first next now then calls h none next_is then_is =
    record {
      readings = h.readings;
      read = h.read;
      seconds = h.seconds;
      asked = read_both ab aa az h.seconds [] _ h.asked none (append_none h.seconds);
      are = h.are;
      often = h.often;
      first_is = next_is ∙ h.first_is;
      now_is = then_is ∙ h.now_is;
    }
  where
    append_none : (xs : List ℕ) → xs ++ [] ≡ xs
    append_none [] = refl
    append_none (x ∷ xs) = ap (λ l. x ∷ l) (append_none xs)

pub asked_less : (rb ra ab aa : Option (List ℕ)) (first : Option ℕ) (now calls fewer : ℕ)
    → AreAsked rb ra ab aa first now calls → fewer ≤ calls → AreAsked rb ra ab aa first now fewer
asked_less rb ra ab aa first now calls fewer h le =
    record {
      readings = h.readings;
      read = h.read;
      seconds = h.seconds;
      asked = h.asked;
      are = h.are;
      often = omega (arith, h.often, le);
      first_is = h.first_is;
      now_is = h.now_is;
    }
