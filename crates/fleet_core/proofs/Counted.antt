-- Counts of entries, and the devices that wait.
use Rattle.std.proofs.Common.{◌≡◌, ℕ, ◌+◌, ◌<◌, ◌≤◌, cond, eqb, Bool, true, false, ◌⊎◌, inl, inr, List, []}
use Rattle.std.proofs.Common.{◌∷◌, ◌++◌, length, get_or, take, filter, replicate, slice_get, slice_index, slice_set}
use Rattle.std.proofs.Common.{sym, ap, subst, ◌∙◌, arith, add-one, get_or-set_same, get_or-set_other}
use Rattle.std.specs.List.{range_with_len}
use Rattle.std.proofs.lemmas.List.{append-nil, length-set, length-replicate, length-take, get_or_past}
use Rattle.std.proofs.lemmas.List.Sums.{count_by-le-length}
use Rattle.std.proofs.lemmas.List.Elements.{filter-append}
use Rattle.std.proofs.lemmas.Bool.{cases_eq, cases_lt, lt-ltb, le-ltb}
use Rattle.lemmas.proofs.Lists.{range_next}
use Rattle.scenario_image.specs.Scenario.{Scenario}
use Rattle.trace_file.specs.declared.entry.Entry.{Entry}
use Rattle.fleet_core.specs.Run.{steps_in, made_by}
use Rattle.fleet_core.specs.Waiting.{is_waiting}
use Rattle.fleet_core.proofs.Posts.{made_same, made_other}
use Rattle.fleet_core.proofs.Checked.{next_take}
use Rattle.fleet_core.proofs.Board.{zeros, get_or_any}

-- a count for each of the first devices, of the entries so far
pub record AreCounts (n : ℕ) (es : List Entry) (made : List ℕ) : Type 0 where
  pub count : length made ≡ n
  pub made_is : (d : ℕ) → d < n → slice_index made d ≡ made_by d es

pub no_counts : (n : ℕ) (made : List ℕ) (es : List Entry) → made ≡ replicate n 0 → es ≡ [] → AreCounts n es made
no_counts n made es m e = subst (λ l. AreCounts n l made) (sym e) (subst (λ l. AreCounts n [] l) (sym m)
    (record { count = length-replicate {A = ℕ} n 0; made_is = λ d h. zeros n d }))

count_at : (n : ℕ) (es : List Entry) (e : Entry) (made : List ℕ) → AreCounts n es made → (d : ℕ) → d < n
    → (e.device ≡ d) ⊎ (e.device ≡ d → ⊥)
    → slice_index (slice_set made e.device (slice_index made e.device + 1)) d ≡ made_by d (es ++ e ∷ [])
count_at n es e made counts d within (inl own) =
    let h : d < length made = omega (arith, within, counts.count) in
    subst (λ j. slice_index (slice_set made j (slice_index made j + 1)) d ≡ made_by d (es ++ e ∷ [])) (sym own)
    (get_or-set_same made d (slice_index made d + 1) 0 h
    ∙ (ap (λ k. k + 1) (counts.made_is d within) ∙ (add-one (made_by d es) ∙ sym (made_same d es e own))))
count_at n es e made counts d within (inr other) =
    get_or-set_other made e.device d (slice_index made e.device + 1) 0 (λ h. other (sym h))
    ∙ (counts.made_is d within ∙ sym (made_other d es e other))

-- one entry more is counted
pub counts_more : (n i : ℕ) (es : List Entry) (e : Entry) (made more : List ℕ) → AreCounts n (take i es) made
    → i < length es → e ≡ get_or es i e
    → more ≡ slice_set made e.device (slice_index made e.device + 1) → AreCounts n (take (i + 1) es) more
counts_more n i es e made more counts within is m =
    subst (λ l. AreCounts n l more) (sym (next_take es i e within is))
    (subst (λ l. AreCounts n (take i es ++ e ∷ []) l) (sym m)
    (record {
      count = length-set made e.device (slice_index made e.device + 1) ∙ counts.count;
      made_is = λ d h. count_at n (take i es) e made counts d h (cases_eq e.device d);
    }))

room : (n d : ℕ) (es : List Entry) (made : List ℕ) → AreCounts n es made → (d < n) ⊎ (n ≤ d)
    → slice_index made d ≤ length es
room n d es made counts (inl low) = omega (arith, counts.made_is d low, count_by-le-length (λ e. eqb e.device d) es)
room n d es made counts (inr high) = omega (arith, get_or_past made d 0 (omega (arith, counts.count, high)))

-- a count is at most the number of the entries
pub count_room : (n i d : ℕ) (es : List Entry) (made : List ℕ) → AreCounts n (take i es) made → i ≤ length es
    → slice_index made d ≤ i
count_room n i d es made counts within =
    omega (arith, room n d (take i es) made counts (cases_lt d n), length-take i es)

-- ---- those that wait

range_more : (a n : ℕ) → range_with_len a (n + 1) ≡ range_with_len a n ++ (a + n) ∷ []
range_more a n = ap (range_with_len a) (add-one n) ∙ range_next a n

filter_next : (p : ℕ → Bool) (n : ℕ)
    → filter p (range_with_len 0 (n + 1)) ≡ filter p (range_with_len 0 n) ++ cond (p n) (n ∷ []) []
filter_next p n =
    let z : 0 + n ≡ n = omega arith in
    ap (filter p) (range_more 0 n)
    ∙ (filter-append p (range_with_len 0 n) ((0 + n) ∷ [])
    ∙ ap (λ k. filter p (range_with_len 0 n) ++ cond (p k) (k ∷ []) []) z)

-- one device more is asked
pub waiting_yes : (p : ℕ → Bool) (n : ℕ) (so_far more : List ℕ) → so_far ≡ filter p (range_with_len 0 n) → p n ≡ true
    → more ≡ so_far ++ n ∷ []
    → more ≡ filter p (range_with_len 0 (n + 1))
waiting_yes p n so_far more same waits is =
    is ∙ (ap (λ l. l ++ n ∷ []) same ∙ (ap (λ b. filter p (range_with_len 0 n) ++ cond b (n ∷ []) []) (sym waits)
    ∙ sym (filter_next p n)))

pub waiting_no : (p : ℕ → Bool) (n : ℕ) (so_far : List ℕ) → so_far ≡ filter p (range_with_len 0 n) → p n ≡ false
    → so_far ≡ filter p (range_with_len 0 (n + 1))
waiting_no p n so_far same done =
    same ∙ (sym (append-nil (filter p (range_with_len 0 n)))
    ∙ (ap (λ b. filter p (range_with_len 0 n) ++ cond b (n ∷ []) []) (sym done) ∙ sym (filter_next p n)))

-- whether a device waits, by its count and its steps
pub waits : (s : Scenario) (es : List Entry) (d got steps : ℕ) → got ≡ made_by d es
    → steps ≡ length (steps_in (slice_get s.rows d)) → got < steps → is_waiting s es d ≡ true
waits s es d got steps g h less =
    lt-ltb (made_by d es) (length (steps_in (slice_get s.rows d))) (omega (arith, g, h, less))

pub has_done : (s : Scenario) (es : List Entry) (d got steps : ℕ) → got ≡ made_by d es
    → steps ≡ length (steps_in (slice_get s.rows d)) → steps ≤ got → is_waiting s es d ≡ false
has_done s es d got steps g h more =
    le-ltb (made_by d es) (length (steps_in (slice_get s.rows d))) (omega (arith, g, h, more))

pub count_read : (n d got : ℕ) (es : List Entry) (made : List ℕ) → length made ≡ n
    → ((i : ℕ) → i < n → slice_index made i ≡ made_by i es) → d < n → got ≡ get_or made d got
    → got ≡ made_by d es
count_read n d got es made count made_is within is =
    is ∙ (get_or_any made d got 0 (omega (arith, within, count)) ∙ made_is d within)
