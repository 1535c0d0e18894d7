-- Runs, and the posts that they make.
use Rattle.std.proofs.Common.{◌≡◌, ℕ, zero, suc, ◌+◌, ◌≤◌, nat_le, eqb, Bool, true, false, cond, List, [], ◌∷◌, ◌++◌}
use Rattle.std.proofs.Common.{IsTrue, ◌↔◌, length, Option, None, Some, slice_get, refl, sym, ap, subst, ◌∙◌, arith}
use Rattle.std.proofs.Common.{add-one}
use Rattle.std.proofs.lemmas.Bool.{eq-eqb, ne_eqb, le-leb, leb-true, false_from_ne_true, false≢true}
use Rattle.std.proofs.lemmas.List.Sums.{sum_by_push}
use Rattle.std.proofs.lemmas.Option.{slice_get_past}
use Rattle.scenario_image.specs.declared.step.Step.{Step}
use Rattle.scenario_image.specs.declared.step.Step.TheVariants.{Event, Post, Need}
use Rattle.scenario_image.specs.Scenario.{Row, Scenario}
use Rattle.trace_file.specs.declared.entry.Entry.{Entry}
use Rattle.fleet_core.specs.Next.{next_of, may_pass}
use Rattle.fleet_core.specs.Run.{steps_in, step_in, step_at, made_by, posts_to, is_post, posts_of, IsMet}
use Rattle.fleet_core.specs.Run.{Fits, IsRun, IsComplete, is_enabled, entry_of, CanGo}
use Rattle.fleet_core.proofs.Along.{along-append, along-left, along-right, along_keeps}

-- ---- runs, entry by entry

pub run_push : (s : Scenario) (es : List Entry) (e : Entry) → IsRun s es → Fits s es e → IsRun s (es ++ e ∷ [])
run_push s es e run fits = record { along = along-append (Fits s) [] es (e ∷ []) run.along (fits, tt) }

pub run_left : (s : Scenario) (a b : List Entry) → IsRun s (a ++ b) → IsRun s a
run_left s a b run = record { along = along-left (Fits s) [] a b run.along }

pub run_last : (s : Scenario) (a : List Entry) (e : Entry) → IsRun s (a ++ e ∷ []) → Fits s a e
run_last s a e run = (along-right (Fits s) [] a (e ∷ []) run.along).0

pub run_keeps : (s : Scenario) (Q : List Entry → Type 0) → Q []
    → ((b : List Entry) (e : Entry) → IsRun s b → Q b → Fits s b e → Q (b ++ e ∷ []))
    → (es : List Entry) → IsRun s es → Q es
run_keeps s Q start next es run =
    (along_keeps (Fits s) (λ b. IsRun s b × Q b) (λ b e q fits. (run_push s b e q.0 fits, next b e q.0 q.1 fits)) [] es
    (record { along = tt }, start) run.along).1

-- ---- counts

abbrev pub one : Bool → ℕ
one b = cond b 1 0

pub made-push : (d : ℕ) (es : List Entry) (e : Entry) → made_by d (es ++ e ∷ []) ≡ made_by d es + one (eqb e.device d)
made-push d es e = sum_by_push (λ x. one (eqb x.device d)) es e

pub made_same : (d : ℕ) (es : List Entry) (e : Entry) → e.device ≡ d → made_by d (es ++ e ∷ []) ≡ suc (made_by d es)
made_same d es e h = made-push d es e ∙ (ap (λ b. made_by d es + one b) (eq-eqb e.device d h) ∙ add-one (made_by d es))

pub made_other : (d : ℕ) (es : List Entry) (e : Entry) → (e.device ≡ d → ⊥) → made_by d (es ++ e ∷ []) ≡ made_by d es
made_other d es e h = made-push d es e ∙ (ap (λ b. made_by d es + one b) (ne_eqb e.device d h) ∙ omega arith)

pub posts-push : (s : Scenario) (g : ℕ) (es : List Entry) (e : Entry)
    → posts_of s g (es ++ e ∷ []) ≡ posts_of s g es + one (is_post g (step_at s e.device e.step))
posts-push s g es e = sum_by_push (λ x. one (is_post g (step_at s x.device x.step))) es e

-- ---- the posts among the first steps of each row

-- among the first k of these steps
abbrev pub posts_in : ℕ → ℕ → List Step → ℕ
posts_in g zero xs = 0
posts_in g (suc k) [] = 0
posts_in g (suc k) (x ∷ xs) = one (posts_to g x) + posts_in g k xs

-- among the first m d steps of each row d
abbrev pub posted : ℕ → (ℕ → ℕ) → List Row → ℕ
posted g m [] = 0
posted g m (r ∷ rs) = posts_in g (m 0) r.steps + posted g (λ d. m (suc d)) rs

posts_in-none : (g : ℕ) (xs : List Step) → posts_in g 0 xs ≡ 0
posts_in-none g [] = refl
posts_in-none g (x ∷ xs) = refl

posts_in-more : (g a b : ℕ) (xs : List Step) → a ≤ b → posts_in g a xs ≤ posts_in g b xs
posts_in-more g zero b xs h = let e = posts_in-none g xs in omega arith
posts_in-more g (suc a) zero xs h = absurd (omega (arith, h))
posts_in-more g (suc a) (suc b) [] h = omega arith
posts_in-more g (suc a) (suc b) (x ∷ xs) h = omega (arith, posts_in-more g a b xs (omega (arith, h)))

-- with the step at the place
posts_in-next : (g k : ℕ) (xs : List Step) (x : Step) → slice_get xs k ≡ Some x
    → posts_in g (suc k) xs ≡ posts_in g k xs + one (posts_to g x)
posts_in-next g k [] x h = let e : None ≡ Some x = h in absurd cc
posts_in-next g zero (y ∷ ys) x h = let e : Some y ≡ Some x = h in let f : y ≡ x =
    cc in ap (λ z. one (posts_to g z) + posts_in g 0 ys) f ∙ omega (arith, posts_in-none g ys)
posts_in-next g (suc k) (y ∷ ys) x h = omega (arith, posts_in-next g k ys x h)

posted-none : (g : ℕ) (m : ℕ → ℕ) (rs : List Row) → ((d : ℕ) → m d ≡ 0) → posted g m rs ≡ 0
posted-none g m [] h = refl
posted-none g m (r ∷ rs) h =
    let e : posts_in g (m 0) r.steps ≡ 0 = ap (λ k. posts_in g k r.steps) (h 0) ∙ posts_in-none g r.steps in
    let f = posted-none g (λ d. m (suc d)) rs (λ d. h (suc d)) in omega (arith, e, f)

pub posted-more : (g : ℕ) (m n : ℕ → ℕ) (rs : List Row) → ((d : ℕ) → m d ≤ n d) → posted g m rs ≤ posted g n rs
posted-more g m n [] h = omega arith
posted-more g m n (r ∷ rs) h =
    omega (
      arith,
      posts_in-more g (m 0) (n 0) r.steps (h 0),
      posted-more g (λ d. m (suc d)) (λ d. n (suc d)) rs (λ d. h (suc d)),
    )

posted-same : (g : ℕ) (m n : ℕ → ℕ) (rs : List Row) → ((d : ℕ) → n d ≡ m d) → posted g n rs ≡ posted g m rs
posted-same g m n rs h =
    omega (arith, posted-more g m n rs (λ d. omega (arith, h d)), posted-more g n m rs (λ d. omega (arith, h d)))

-- with one step more of one row
posted-next : (g : ℕ) (m n : ℕ → ℕ) (rs : List Row) (d : ℕ) (step : Step) → step_in rs d (m d) ≡ Some step
    → n d ≡ suc (m d)
    → ((i : ℕ) → (d ≡ i → ⊥) → n i ≡ m i) → posted g n rs ≡ posted g m rs + one (posts_to g step)
posted-next g m n [] d step at here others = let e : None ≡ Some step = at in absurd cc
posted-next g m n (r ∷ rs) zero step at here others =
    let e : posts_in g (n 0) r.steps ≡ posts_in g (m 0) r.steps + one (posts_to g step) =
    ap (λ k. posts_in g k r.steps) here ∙ posts_in-next g (m 0) r.steps step at in
    let f = posted-same g (λ d. m (suc d)) (λ d. n (suc d)) rs (λ d. others (suc d) (λ h. omega (arith, h))) in
    omega (arith, e, f)
posted-next g m n (r ∷ rs) (suc d) step at here others =
    let e : posts_in g (n 0) r.steps ≡ posts_in g (m 0) r.steps =
    ap (λ k. posts_in g k r.steps) (others 0 (λ h. omega (arith, h))) in
    let f = posted-next g (λ d. m (suc d)) (λ d. n (suc d)) rs d step at here
    (λ i h. others (suc i) (λ q. h (omega (arith, q)))) in
    omega (arith, e, f)

-- the posts of a run are those among the steps that its devices have made
pub posts_are : (s : Scenario) (g : ℕ) (es : List Entry) → IsRun s es
    → posts_of s g es ≡ posted g (λ d. made_by d es) s.rows
posts_are s g es run =
    run_keeps s (λ es. posts_of s g es ≡ posted g (λ d. made_by d es) s.rows)
    (sym (posted-none g (λ d. made_by d []) s.rows (λ d. refl)))
    (λ b e before same fits.
    let at : step_in s.rows e.device (made_by e.device b) ≡ Some fits.step =
    subst (λ k. step_in s.rows e.device k ≡ Some fits.step) fits.count fits.stands in
    posts-push s g b e
    ∙ (ap (λ n. n + one (is_post g (step_at s e.device e.step))) same
    ∙ (ap (λ o. posted g (λ d. made_by d b) s.rows + one (is_post g o)) fits.stands
    ∙ sym (posted-next g (λ d. made_by d b) (λ d. made_by d (b ++ e ∷ [])) s.rows e.device fits.step at
    (made_same e.device b e refl) (λ i h. made_other i b e h)))))
    es run

-- ---- what may come next

pub pass_same : (p q : ℕ → ℕ) (o : Option Step) → ((g n : ℕ) → o ≡ Some (Need g n) → p g ≡ q g)
    → may_pass p (next_of o) ≡ may_pass q (next_of o)
pass_same p q None h = refl
pass_same p q (Some (Event event)) h = refl
pass_same p q (Some (Post group)) h = refl
pass_same p q (Some (Need group count)) h = ap (nat_le count) (h group count refl)

pub pass_more : (p q : ℕ → ℕ) (o : Option Step) → ((g : ℕ) → p g ≤ q g) → may_pass p (next_of o) ≡ true
    → may_pass q (next_of o) ≡ true
pass_more p q None h go = go
pass_more p q (Some (Event event)) h go = refl
pass_more p q (Some (Post group)) h go = refl
pass_more p q (Some (Need group count)) h go =
    le-leb count (q group) (omega (arith, h group, leb-true count (p group) go))

pass_met : (p : ℕ → ℕ) (o : Option Step) (step : Step) → o ≡ Some step → IsMet p step
    → may_pass p (next_of o) ≡ true
pass_met p o (Event event) at met = ap (λ t. may_pass p (next_of t)) at
pass_met p o (Post group) at met = ap (λ t. may_pass p (next_of t)) at
pass_met p o (Need group count) at met = ap (λ t. may_pass p (next_of t)) at ∙ le-leb count (p group) met

met_passed : (p : ℕ → ℕ) (o : Option Step) → may_pass p (next_of o) ≡ true
    → (step : Step) × (o ≡ Some step) × IsMet p step
met_passed p None go = let e : false ≡ true = go in absurd cc
met_passed p (Some (Event event)) go = (Event event, refl, tt)
met_passed p (Some (Post group)) go = (Post group, refl, tt)
met_passed p (Some (Need group count)) go = (Need group count, refl, leb-true count (p group) go)

-- where an entry may come next, its device is enabled
pub fits_enabled : (s : Scenario) (es : List Entry) (e : Entry) → Fits s es e → is_enabled s es e.device ≡ true
fits_enabled s es e fits =
    pass_met (λ g. posts_of s g es) (step_at s e.device (made_by e.device es)) fits.step
    (subst (λ k. step_at s e.device k ≡ Some fits.step) fits.count fits.stands) fits.met

-- where a device is enabled, its next entry may come next
pub enabled_fits : (s : Scenario) (es : List Entry) (worker d : ℕ) → is_enabled s es d ≡ true
    → Fits s es (entry_of s worker d es)
enabled_fits s es worker d go =
    let found = met_passed (λ g. posts_of s g es) (step_at s d (made_by d es)) go in
    record { step = found.0; stands = found.1; count = refl; outputs = refl; met = found.2 }

-- a device that has no row is never enabled
pub past_rows : (s : Scenario) (es : List Entry) (d : ℕ) → length s.rows ≤ d → is_enabled s es d ≡ false
past_rows s es d past =
    ap (λ o. may_pass (λ g. posts_of s g es) (next_of (slice_get (steps_in o) (made_by d es))))
    (slice_get_past s.rows d past)

pub ended_blocked : (s : Scenario) (es : List Entry) → IsComplete s es → (d : ℕ) → is_enabled s es d ≡ false
ended_blocked s es complete d =
    false_from_ne_true (is_enabled s es d) (λ go. complete.ended (entry_of s 0 d es) (enabled_fits s es 0 d go))

pub blocked_ended : (s : Scenario) (es : List Entry) → ((d : ℕ) → is_enabled s es d ≡ false) → (e : Entry) → Fits s es e
    → ⊥
blocked_ended s es blocked e fits = false≢true (sym (blocked e.device) ∙ fits_enabled s es e fits)

-- a device is enabled exactly where an entry of it may come next
pub enabled_can : (s : Scenario) (es : List Entry) (d : ℕ) → IsTrue (is_enabled s es d) ↔ CanGo s es d
enabled_can s es d = (
  (λ go. record { entry = entry_of s 0 d es; device = refl; fits = enabled_fits s es 0 d go }),
  (λ can. subst (λ i. is_enabled s es i ≡ true) can.device (fits_enabled s es can.entry can.fits)),
)
