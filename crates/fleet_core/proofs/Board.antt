-- What a fleet keeps, after one entry more.
use Rattle.std.proofs.Common.{◌≡◌, ℕ, zero, suc, ◌+◌, ◌<◌, ◌≤◌, eqb, Bool, true, false, ◌⊎◌, inl, inr, List, [], ◌∷◌}
use Rattle.std.proofs.Common.{◌++◌, length, get_or, Some, slice_get, slice_index, slice_set, replicate}
use Rattle.std.proofs.Common.{refl, sym, ap, subst, ◌∙◌, arith, add-one, get_or-set_same, get_or-set_other}
use Rattle.std.proofs.lemmas.List.{length-set, length-replicate, get_or_past}
use Rattle.std.proofs.lemmas.Bool.{cases_eq, cases_lt, eq-eqb, ne_eqb}
use Rattle.std.proofs.lemmas.Option.{slice_get_read}
use Rattle.lemmas.proofs.Lists.{set_elsewhere, set_gives}
use Rattle.device_template.specs.Template.{Template}
use Rattle.scenario_image.specs.declared.step.Step.{Step}
use Rattle.scenario_image.specs.declared.step.Step.TheVariants.{Event, Post, Need}
use Rattle.scenario_image.specs.Scenario.{Scenario, IsValid}
use Rattle.device_machine.specs.declared.output.Output.{Output}
use Rattle.scenario_image.specs.Play.{start, step_outputs, state_at, IsRowOf, PutsOut}
use Rattle.trace_file.specs.declared.entry.Entry.{Entry}
use Rattle.fleet_core.specs.declared.next.Next.{Next}
use Rattle.fleet_core.specs.Next.{next_of, may_pass}
use Rattle.fleet_core.specs.Run.{step_at, made_by, posts_to, is_post, posts_of, is_enabled, entry_of, out_at}
use Rattle.fleet_core.specs.Run.{outputs_before, outputs_with, outputs_in_row}
use Rattle.fleet_core.specs.Board.{FleetModel, IsBoard, AreParked, HoldsAfter, Holding, IsFleet, posts_after}
use Rattle.fleet_core.specs.Board.{with_entry}
use Rattle.fleet_core.proofs.Posts.{one, run_push, made_same, made_other, posts-push, enabled_fits}
use Rattle.fleet_core.proofs.Valid.{IsStep, step_is, post_group, posts_within}
use Rattle.fleet_core.proofs.Ends.{enabled_by}

-- ---- the posts after a step

pub posts_length : (posts : List ℕ) (step : Step) → length (posts_after posts step) ≡ length posts
posts_length posts (Event event) = refl
posts_length posts (Post group) = length-set posts group (slice_index posts group + 1)
posts_length posts (Need group count) = refl

post_at : (posts : List ℕ) (group g : ℕ) → group < length posts → (group ≡ g) ⊎ (group ≡ g → ⊥)
    → slice_index (slice_set posts group (slice_index posts group + 1)) g ≡ slice_index posts g + one (eqb group g)
post_at posts group g within (inl same) =
    subst (λ i. slice_index (slice_set posts group (slice_index posts group + 1)) i
    ≡ slice_index posts i + one (eqb group i)) same
    (get_or-set_same posts group (slice_index posts group + 1) 0 within
    ∙ ap (λ b. slice_index posts group + one b) (sym (eq-eqb group group refl)))
post_at posts group g within (inr other) =
    get_or-set_other posts group g (slice_index posts group + 1) 0 (λ e. other (sym e))
    ∙ (sym (omega arith) ∙ ap (λ b. slice_index posts g + one b) (sym (ne_eqb group g other)))

counted : (posts : List ℕ) (step : Step) (g : ℕ) → ((group : ℕ) → step ≡ Post group → group < length posts)
    → slice_index (posts_after posts step) g ≡ slice_index posts g + one (posts_to g step)
counted posts (Event event) g within = omega arith
counted posts (Post group) g within = post_at posts group g (within group refl) (cases_eq group g)
counted posts (Need group count) g within = omega arith

-- with an entry more, the table in which its step is counted, with a place for the group of a post
pub noted : (s : Scenario) (es : List Entry) (e : Entry) (step : Step) (posts : List ℕ)
    → ((group : ℕ) → step ≡ Post group → group < length posts) → step_at s e.device e.step ≡ Some step
    → (g : ℕ) → slice_index posts g ≡ posts_of s g es
    → slice_index (posts_after posts step) g ≡ posts_of s g (es ++ e ∷ [])
noted s es e step posts within at g was =
    counted posts step g within
    ∙ (ap (λ n. n + one (posts_to g step)) was
    ∙ (ap (λ o. posts_of s g es + one (is_post g o)) (sym at) ∙ sym (posts-push s g es e)))

-- ---- the board

made_at : (s : Scenario) (es : List Entry) (e : Entry) (made : List ℕ) (d : ℕ) → length made ≡ length s.rows
    → ((i : ℕ) → i < length s.rows → slice_index made i ≡ made_by i es) → (i : ℕ) → i < length s.rows → (e.device ≡ i)
    ⊎ (e.device ≡ i → ⊥)
    → slice_index (slice_set made e.device (made_by e.device es + 1)) i ≡ made_by i (es ++ e ∷ [])
made_at s es e made d rows made_is i within (inl own) =
    let h : i < length made = omega arith in
    subst (λ j. slice_index (slice_set made j (made_by j es + 1)) i ≡ made_by i (es ++ e ∷ [])) (sym own)
    (get_or-set_same made i (made_by i es + 1) 0 h ∙ (add-one (made_by i es) ∙ sym (made_same i es e own)))
made_at s es e made d rows made_is i within (inr other) =
    get_or-set_other made e.device i (made_by e.device es + 1) 0 (λ h. other (sym h))
    ∙ (made_is i within ∙ sym (made_other i es e other))

pub board_push : (s : Scenario) (es : List Entry) (made posts : List ℕ) (worker d : ℕ) (step : Step)
    → IsBoard s es made posts → step_at s d (made_by d es) ≡ Some step → is_enabled s es d ≡ true
    → IsBoard s (es ++ entry_of s worker d es ∷ []) (slice_set made d (made_by d es + 1)) (posts_after posts step)
board_push s es made posts worker d step board at go =
    record {
      valid = board.valid;
      run = run_push s es (entry_of s worker d es) board.run (enabled_fits s es worker d go);
      rows = length-set made d (made_by d es + 1) ∙ board.rows;
      groups = posts_length posts step ∙ board.groups;
      made_is = λ i within. made_at s es (entry_of s worker d es) made d board.rows board.made_is i within
          (cases_eq d i);
      posts_is = λ g within.
          noted s es (entry_of s worker d es) step posts
          (λ group is. omega (arith, post_group s d (made_by d es) group board.valid (at ∙ ap Some is), board.groups))
          at g (board.posts_is g within);
    }

-- ---- the devices

held_at : (s : Scenario) (es : List Entry) (e : Entry) (devices : List Holding) (new : Holding)
    → AreParked s es devices → HoldsAfter s e.device (made_by e.device es + 1) new → (i : ℕ) (x : Holding)
    → slice_get (slice_set devices e.device new) i ≡ Some x
    → (e.device ≡ i) ⊎ (e.device ≡ i → ⊥) → HoldsAfter s i (made_by i (es ++ e ∷ [])) x
held_at s es e devices new parked here i x got (inl own) =
    let is : new ≡ x =
    set_gives devices e.device new x (subst (λ j. slice_get (slice_set devices e.device new) j ≡ Some x)
    (sym own) got) in
    let count : made_by e.device es + 1 ≡ made_by e.device (es ++ e ∷ []) =
    add-one (made_by e.device es) ∙ sym (made_same e.device es e refl) in
    subst (λ j. HoldsAfter s j (made_by j (es ++ e ∷ [])) x) own
    (subst (λ k. HoldsAfter s e.device k x) count
    (subst (HoldsAfter s e.device (made_by e.device es + 1)) is here))
held_at s es e devices new parked here i x got (inr other) =
    subst (λ k. HoldsAfter s i k x) (sym (made_other i es e other))
    (parked.each i x (sym (set_elsewhere devices e.device i new other) ∙ got))

pub parked_push : (s : Scenario) (es : List Entry) (devices : List Holding) (worker d : ℕ)
    (new : Holding)
    → AreParked s es devices → HoldsAfter s d (made_by d es + 1) new
    → AreParked s (es ++ entry_of s worker d es ∷ []) (slice_set devices d new)
parked_push s es devices worker d new parked here =
    record {
      each = λ i x got. held_at s es (entry_of s worker d es) devices new parked here i x got (cases_eq d i);
    }

-- what a device outputs at its next step
pub puts_out : (s : Scenario) (d k : ℕ) (step : Step) (out : List Output) → IsStep s d k step
    → ((class : Template) (steps : List Step) → IsRowOf s d class steps
    → out ≡ step_outputs (state_at class steps k) step) → out ≡ out_at s d k
puts_out s d k step out is puts =
    puts is.class is.steps is.row
    ∙ (ap (outputs_before (state_at is.class is.steps k)) (sym is.stands)
    ∙ (ap (λ c. outputs_with c is.steps k) (sym is.row.stated)
    ∙ ap (λ r. outputs_in_row s r k) (sym is.row.row)))

-- ---- the start

pub zeros : (n i : ℕ) → slice_index (replicate n 0) i ≡ 0
zeros zero i = refl
zeros (suc n) zero = refl
zeros (suc n) (suc i) = zeros n i

pub starts : (s : Scenario) (es : List Entry) (made posts : List ℕ) (devices : List Holding) → IsValid s
    → es ≡ [] → made ≡ replicate (length s.rows) 0 → posts ≡ replicate 256 0
    → length devices ≡ length s.rows → AreParked s [] devices → IsFleet s es made posts devices false
starts s es made posts devices valid none m p count parked =
    subst (λ l. IsFleet s l made posts devices false) (sym none)
    (subst (λ l. IsFleet s [] l posts devices false) (sym m)
    (subst (λ l. IsFleet s [] (replicate (length s.rows) 0) l devices false) (sym p)
    (record {
      board = record {
        valid = valid;
        run = record { along = tt };
        rows = length-replicate {A = ℕ} (length s.rows) 0;
        groups = length-replicate {A = ℕ} 256 0;
        made_is = λ d h. zeros (length s.rows) d;
        posts_is = λ g h. zeros 256 g;
      };
      count = count;
      parked = λ h. parked;
    })))

-- ---- one entry more

pub get_or_any : {X : Type 0} (xs : List X) (i : ℕ) (x y : X) → i < length xs → get_or xs i x ≡ get_or xs i y
get_or_any [] i x y h = absurd (omega (arith, h))
get_or_any (z ∷ zs) zero x y h = refl
get_or_any (z ∷ zs) (suc i) x y h = get_or_any zs i x y (omega (arith, h))

-- the table of a fleet says whether a device is enabled
pub table_enabled : (v : FleetModel) (s : Scenario) (es : List Entry) (spent : Bool) (made posts l : List ℕ) (d : ℕ)
    (n : Next) (b : Bool) → record { scenario = s; entries = es; spent = spent } ≡ v → IsBoard s es made posts
    → l ≡ posts → n ≡ next_of (step_at v.scenario d (made_by d v.entries)) → b ≡ may_pass (λ g. slice_index l g) n
    → b ≡ is_enabled v.scenario v.entries d
table_enabled v s es spent made posts l d n b view board same next is =
    subst (λ w. n ≡ next_of (step_at w.scenario d (made_by d w.entries)) → b ≡ is_enabled w.scenario w.entries d) view
    (λ at. is ∙ (ap (may_pass (λ g. slice_index l g)) at
    ∙ (ap (λ t. may_pass (λ g. slice_index t g) (next_of (step_at s d (made_by d es)))) same
    ∙ enabled_by s es d (λ g. slice_index posts g) board.valid board.posts_is)))
    next

-- what a fleet that may go on knows of the next step of a device
pub record Reads (s : Scenario) (es : List Entry) (devices : List Holding) (d place : ℕ) (step : Step)
    (old : Holding) : Type 0 where
  pub at : step_at s d (made_by d es) ≡ Some step
  pub is : IsStep s d (made_by d es) step
  pub go : is_enabled s es d ≡ true
  pub place_is : place ≡ made_by d es
  pub holds : HoldsAfter s d place old
  pub parked : AreParked s es devices

pub reads : (v : FleetModel) (s : Scenario) (es : List Entry) (spent : Bool) (made posts : List ℕ)
    (devices : List Holding) (d at place : ℕ) (step : Step) (old : Holding)
    → record { scenario = s; entries = es; spent = spent } ≡ v → IsFleet s es made posts devices spent → v.spent ≡ false
    → Some step ≡ step_at v.scenario d (made_by d v.entries)
    → true ≡ is_enabled v.scenario v.entries d → at ≡ d → place ≡ get_or made at place
    → old ≡ get_or devices at old → Reads s es devices d place step old
reads v s es spent made posts devices d at place step old view fleet ready next go from read got =
    let next_is : step_at s d (made_by d es) ≡ Some step =
    subst (λ w. step_at w.scenario d (made_by d w.entries) ≡ Some step) (sym view) (sym next) in
    let is : IsStep s d (made_by d es) step = step_is s d (made_by d es) step fleet.board.valid next_is in
    let within : d < length made = omega (arith, is.within, fleet.board.rows) in
    let here : place ≡ get_or made d place = read ∙ ap (λ i. get_or made i place) from in
    let place_is : place ≡ made_by d es = here ∙ (get_or_any made d place 0 within ∙ fleet.board.made_is d is.within) in
    let was : slice_get devices d ≡ Some old =
    slice_get_read devices (length devices) d old refl (omega (arith, is.within, fleet.count))
    (got ∙ ap (λ i. get_or devices i old) from) in
    let parked : AreParked s es devices = fleet.parked (ap (λ w. w.spent) view ∙ ready) in
    record {
      at = next_is;
      is = is;
      go = subst (λ w. is_enabled w.scenario w.entries d ≡ true) (sym view) (sym go);
      place_is = place_is;
      holds = subst (λ k. HoldsAfter s d k old) (sym place_is) (parked.each d old was);
      parked = parked;
    }

pub step_stands_here : (s : Scenario) (es : List Entry) (devices : List Holding) (d place : ℕ) (step : Step)
    (old : Holding) → Reads s es devices d place step old → step_at s d place ≡ Some step
step_stands_here s es devices d place step old r = ap (step_at s d) r.place_is ∙ r.at

pub place_early : (s : Scenario) (es : List Entry) (devices : List Holding) (d place : ℕ) (step : Step)
    (old : Holding) → Reads s es devices d place step old → place < 4096
place_early s es devices d place step old r = omega (arith, r.is.early, r.place_is)

room_at : (s : Scenario) (es : List Entry) (made posts : List ℕ) (g : ℕ) → IsBoard s es made posts → (g < 256)
    ⊎ (256 ≤ g) → slice_index posts g + 1 < 4294967296
room_at s es made posts g board (inl low) =
    omega (arith, board.posts_is g low, posts_within s g es board.valid board.run)
room_at s es made posts g board (inr high) = omega (arith, get_or_past posts g 0 (omega (arith, board.groups, high)))

-- the table has a place for the group of a post
pub post_within : (s : Scenario) (es : List Entry) (made posts : List ℕ) (devices : List Holding) (d place : ℕ)
    (step : Step) (old : Holding) → IsBoard s es made posts → Reads s es devices d place step old
    → (group : ℕ) → step ≡ Post group → group < length posts
post_within s es made posts devices d place step old board r group is =
    omega (arith, post_group s d (made_by d es) group board.valid (r.at ∙ ap Some is), board.groups)

pub posts_room : (s : Scenario) (es : List Entry) (made posts : List ℕ) → IsBoard s es made posts → (g : ℕ)
    → slice_index posts g + 1 < 4294967296
posts_room s es made posts board g = room_at s es made posts g board (cases_lt g 256)

-- the entry that is added is the device's next
pub entry_is : (s : Scenario) (es : List Entry) (devices : List Holding) (worker d place : ℕ) (step : Step)
    (old : Holding) (e : Entry) → Reads s es devices d place step old
    → e ≡ record { worker = worker; device = d; step = place; outputs = out_at s d place } → e ≡ entry_of s worker d es
entry_is s es devices worker d place step old e r made =
    made ∙ ap (λ k. record { worker = worker; device = d; step = k; outputs = out_at s d k }) r.place_is

-- the entry of a device's step, with these outputs
abbrev pub with_outputs : ℕ → ℕ → ℕ → List Output → Entry
with_outputs worker d place outputs = record { worker = worker; device = d; step = place; outputs = outputs }

pub added : (v : FleetModel) (s : Scenario) (es new : List Entry) (spent : Bool) (worker d : ℕ) (e : Entry)
    → record { scenario = s; entries = es; spent = spent } ≡ v → new ≡ es ++ e ∷ [] → e ≡ entry_of s worker d es
    → record { scenario = s; entries = new; spent = false } ≡ with_entry v worker d
added v s es new spent worker d e view is same =
    subst (λ w. record { scenario = s; entries = new; spent = false } ≡ with_entry w worker d) view
    (ap (λ l. record { scenario = s; entries = l; spent = false }) (is ∙ ap (λ x. es ++ x ∷ []) same))

pub fleet_push : (s : Scenario) (es new : List Entry) (made posts posts_then : List ℕ)
    (devices : List Holding) (worker d at place : ℕ) (step : Step) (old then : Holding) (e : Entry)
    → IsBoard s es made posts → length devices ≡ length s.rows → Reads s es devices d place step old → at ≡ d
    → new ≡ es ++ e ∷ [] → e ≡ entry_of s worker d es
    → posts_then ≡ posts_after posts step → HoldsAfter s d (place + 1) then
    → IsFleet s new (slice_set made at (place + 1)) posts_then (slice_set devices at then) false
fleet_push s es new made posts posts_then devices worker d at place step old
    then e board count r from is same noted_is holds =
    subst (λ i. IsFleet s new (slice_set made i (place + 1)) posts_then (slice_set devices i then) false) (sym from)
    (subst (λ k. IsFleet s new (slice_set made d (k + 1)) posts_then (slice_set devices d then) false) (sym r.place_is)
    (subst (λ p. IsFleet s new (slice_set made d (made_by d es + 1)) p (slice_set devices d then) false) (sym noted_is)
    (subst (λ l. IsFleet s l (slice_set made d (made_by d es + 1)) (posts_after posts step)
    (slice_set devices d then) false) (sym (is ∙ ap (λ x. es ++ x ∷ []) same))
    (record {
      board = board_push s es made posts worker d step board r.at r.go;
      count = length-set devices d then ∙ count;
      parked = λ h. parked_push s es devices worker d then r.parked
          (subst (λ k. HoldsAfter s d (k + 1) then) r.place_is holds);
    }))))

-- what a step outputs in the device's row
pub row_puts_out : (s : Scenario) (d k : ℕ) (class : Template) (steps : List Step) (outputs : List Output)
    → IsRowOf s d class steps → PutsOut (start class) steps k outputs
    → out_at s d k ≡ outputs
row_puts_out s d k class steps outputs row puts =
    ap (λ r. outputs_in_row s r k) row.row
    ∙ (ap (λ c. outputs_with c steps k) row.stated
    ∙ (ap (outputs_before (state_at class steps k)) puts.stands ∙ sym puts.put_out))
