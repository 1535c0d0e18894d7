-- Entries of one device that continue a run.
use Rattle.std.proofs.Common.{◌≡◌, ℕ, suc, ◌+◌, ◌<◌, ◌≤◌, ◌⊎◌, inl, inr, List, [], ◌∷◌, ◌++◌, length, slice_index}
use Rattle.std.proofs.Common.{slice_set, refl, sym, ap, ◌∙◌, arith, get_or-set_same, get_or-set_other}
use Rattle.std.proofs.lemmas.Bool.{cases_eq}
use Rattle.std.proofs.lemmas.List.{length-set}
use Rattle.scenario_image.specs.declared.step.Step.{Step}
use Rattle.scenario_image.specs.declared.step.Step.TheVariants.{Event, Post, Need}
use Rattle.scenario_image.specs.Scenario.{Scenario}
use Rattle.trace_file.specs.declared.entry.Entry.{Entry}
use Rattle.fleet_core.specs.Along.{Along}
use Rattle.fleet_core.specs.Run.{made_by, posts_of, IsMet, Fits, IsRun}
use Rattle.fleet_core.specs.Board.{IsBoard}
use Rattle.fleet_core.specs.Blocks.{AreOf}
use Rattle.fleet_core.proofs.Along.{along-append, along-right}
use Rattle.fleet_core.proofs.Posts.{made_same, made_other, posts-push}
use Rattle.fleet_core.proofs.Sums.{made-append, posts-append, posts_later}

-- ---- a block follows

met_more : (p q : ℕ → ℕ) (step : Step) → ((g : ℕ) → p g ≤ q g) → IsMet p step → IsMet q step
met_more p q (Event event) h met = tt
met_more p q (Post group) h met = tt
met_more p q (Need group count) h met = omega (arith, h group, met)

along_moves : (s : Scenario) (d : ℕ) (a b block : List Entry) → Along (Fits s) a block → AreOf d block
    → made_by d a ≡ made_by d b
    → ((g : ℕ) → posts_of s g a ≤ posts_of s g b) → Along (Fits s) b block
along_moves s d a b [] run own count posts = tt
along_moves s d a b (e ∷ block) run own count posts = (
  record {
    step = run.0.step;
    stands = run.0.stands;
    count = run.0.count ∙ (ap (λ i. made_by i a) own.0 ∙ (count ∙ ap (λ i. made_by i b) (sym own.0)));
    outputs = run.0.outputs;
    met = met_more (λ g. posts_of s g a) (λ g. posts_of s g b) run.0.step posts run.0.met;
  },
  along_moves s d (a ++ e ∷ []) (b ++ e ∷ []) block run.1 own.1
      (made_same d a e own.0 ∙ (ap suc count ∙ sym (made_same d b e own.0)))
      (λ g. omega (arith, posts-push s g a e, posts-push s g b e, posts g)),
)

-- after a run with as many entries of the device, and at least the posts
pub block_follows : (s : Scenario) (d : ℕ) (a b block : List Entry) → IsRun s (a ++ block) → IsRun s b → AreOf d block
    → made_by d a ≡ made_by d b → ((g : ℕ) → posts_of s g a ≤ posts_of s g b) → IsRun s (b ++ block)
block_follows s d a b block made run own count posts =
    let moved = along_moves s d a b block (along-right (Fits s) [] a block made.along) own count posts in
    record { along = along-append (Fits s) [] b block run.along moved }

-- after a longer run, to which no entry of the device was added
pub block_later : (s : Scenario) (d : ℕ) (a after block : List Entry) → IsRun s (a ++ block) → IsRun s (a ++ after)
    → AreOf d block
    → made_by d after ≡ 0 → IsRun s ((a ++ after) ++ block)
block_later s d a after block made run own none =
    block_follows s d a (a ++ after) block made run own (omega (arith, made-append d a after, none))
    (λ g. posts_later s g a after)

-- ---- what a block counts

pub block_count : (d : ℕ) (block : List Entry) → AreOf d block → made_by d block ≡ length block
block_count d [] own = refl
block_count d (e ∷ block) own =
    let all : made_by d (e ∷ block) ≡ made_by d (e ∷ []) + made_by d block = made-append d (e ∷ []) block in
    let first : made_by d (e ∷ []) ≡ 1 = made_same d [] e own.0 in
    let rest : made_by d block ≡ length block = block_count d block own.1 in
    let goal : made_by d (e ∷ block) ≡ suc (length block) = omega (arith, all, first, rest) in
    goal

pub block_adds : (d : ℕ) (es block : List Entry) → AreOf d block → made_by d (es ++ block) ≡ made_by d es + length block
block_adds d es block own = made-append d es block ∙ ap (λ n. made_by d es + n) (block_count d block own)

none_of : (d i : ℕ) (block : List Entry) → AreOf d block → (d ≡ i → ⊥) → made_by i block ≡ 0
none_of d i [] own other = refl
none_of d i (e ∷ block) own other =
    let all : made_by i (e ∷ block) ≡ made_by i (e ∷ []) + made_by i block = made-append i (e ∷ []) block in
    let first : made_by i (e ∷ []) ≡ 0 = made_other i [] e (λ h. other (sym own.0 ∙ h)) in
    let rest : made_by i block ≡ 0 = none_of d i block own.1 other in
    omega (arith, all, first, rest)

pub block_others : (d i : ℕ) (es block : List Entry) → AreOf d block → (d ≡ i → ⊥)
    → made_by i (es ++ block) ≡ made_by i es
block_others d i es block own other = omega (arith, made-append i es block, none_of d i block own other)

-- with one entry more
pub own_push : (d : ℕ) (block : List Entry) (e : Entry) → AreOf d block → e.device ≡ d → AreOf d (block ++ e ∷ [])
own_push d [] e own is = (is, tt)
own_push d (x ∷ block) e own is = (own.0, own_push d block e own.1 is)

-- ---- the board after a block

made_then : (s : Scenario) (d : ℕ) (es block : List Entry) (made : List ℕ) → length made ≡ length s.rows
    → ((i : ℕ) → i < length s.rows → slice_index made i ≡ made_by i es) → AreOf d block → (i : ℕ) → i < length s.rows
    → (d ≡ i) ⊎ (d ≡ i → ⊥) → slice_index (slice_set made d (made_by d es + length block)) i ≡ made_by i (es ++ block)
made_then s d es block made rows made_is own i within (inl same) =
    let h : d < length made = omega (arith, within, same, rows) in
    ap (slice_index (slice_set made d (made_by d es + length block))) (sym same)
    ∙ (get_or-set_same made d (made_by d es + length block) 0 h
    ∙ (sym (block_adds d es block own) ∙ ap (λ j. made_by j (es ++ block)) same))
made_then s d es block made rows made_is own i within (inr other) =
    get_or-set_other made d i (made_by d es + length block) 0 (λ h. other (sym h))
    ∙ (made_is i within ∙ sym (block_others d i es block own other))

-- the device has the block's entries more, and each group the block's posts
pub board_block : (s : Scenario) (d : ℕ) (es block : List Entry) (made posts then counted : List ℕ)
    → IsBoard s es made posts
    → IsRun s (es ++ block) → AreOf d block → then ≡ slice_set made d (made_by d es + length block)
    → length counted ≡ 256
    → ((g : ℕ) → g < 256 → slice_index counted g ≡ slice_index posts g + posts_of s g block)
    → IsBoard s (es ++ block) then counted
board_block s d es block made posts then counted board run own moved groups each =
    record {
      valid = board.valid;
      run = run;
      rows = ap length moved ∙ (length-set made d (made_by d es + length block) ∙ board.rows);
      groups = groups;
      made_is = λ i within.
          ap (λ l. slice_index l i) moved
          ∙ made_then s d es block made board.rows board.made_is own i within (cases_eq d i);
      posts_is = λ g within.
          each g within
          ∙ (ap (λ n. n + posts_of s g block) (board.posts_is g within) ∙ sym (posts-append s g es block));
    }
