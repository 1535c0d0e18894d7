-- Lines that are taken one after another.
use Rattle.std.proofs.Common.{◌≡◌, ℕ, suc, ◌+◌, List, [], ◌∷◌, ◌++◌, length, Option, None, Some, MatchOption, Result}
use Rattle.std.proofs.Common.{Ok, Err, option_map, refl, sym, ap, ◌∙◌, append_assoc, length-append, arith}
use Rattle.std.specs.List.{slice_get}
use Rattle.std.specs.Prelude.{nat_le}
use Rattle.scenario_image.specs.Scenario.{Row}
use Rattle.scenario_image.specs.declared.step.Step.{Step}
use Rattle.scenario_words.specs.declared.cause.Cause.{Cause}
use Rattle.scenario_words.specs.declared.cause.Cause.TheVariants as causes
use Rattle.scenario_words.specs.Words.{lines}
use Rattle.scenario_asm.specs.declared.fault.AsmFault.{AsmFault}
use Rattle.scenario_asm.specs.declared.limit.ScenarioLimit.{ScenarioLimit}
use Rattle.scenario_asm.specs.Draft.{Draft, nothing}
use Rattle.scenario_asm.specs.Limits.{PassesAt, has_all_steps, limit_in}
use Rattle.scenario_asm.specs.Text.{IsReached, at_line, line_after, lines_after, scenario_of_text, then_lines, whole_of}
use Rattle.scenario_asm.specs.Text.{whole_scenario}

-- one more than the bytes that are left, and nothing after the last line
abbrev pub bytes_left : Option (List ℕ) → ℕ
bytes_left None = 0
bytes_left (Some bytes) = suc (length bytes)

-- a line is taken
pub goes_on : (text first : List ℕ) (more : List (List ℕ)) (n : ℕ) (d e : Draft) (all : Result Draft AsmFault)
    → lines text ≡ first ∷ more → line_after first d ≡ Ok e → lines_after (lines text) n d ≡ all
    → lines_after more (n + 1) e ≡ all
goes_on text first more n d e all cut taken so_far =
    sym (ap (λ ls. lines_after ls n d) cut ∙ ap (λ r. then_lines (lines_after more (n + 1)) (at_line (n + 1) r)) taken)
    ∙ so_far

-- a line is refused
pub stops : (text first : List ℕ) (more : List (List ℕ)) (n : ℕ) (d : Draft) (cause : Cause) (from : List ℕ)
    → lines text ≡ first ∷ more → line_after first d ≡ Err cause
    → lines_after (lines text) n d ≡ lines_after (lines from) 0 nothing
    → scenario_of_text from ≡ Err (record { line = n + 1; cause = cause })
stops text first more n d cause from cut refused so_far =
    ap whole_of (sym so_far ∙ ap (λ ls. lines_after ls n d) cut
    ∙ ap (λ r. then_lines (lines_after more (n + 1)) (at_line (n + 1) r)) refused)

-- no line is left
pub ends : (n : ℕ) (d : Draft) (from : List ℕ) → lines_after [] n d ≡ lines_after (lines from) 0 nothing
    → scenario_of_text from ≡ whole_scenario d
ends n d from so_far = ap whole_of (sym so_far)

-- the class of the row at a place
pub class_at : (rows : List Row) (i class : ℕ) (row : Row) → slice_get rows i ≡ Some row → row.class ≡ class
    → Some class ≡ option_map (λ (r : Row). r.class) (slice_get rows i)
class_at rows i class row at is = sym (ap (option_map (λ (r : Row). r.class)) at ∙ ap (λ n. Some n) is)

-- how many steps the row at a place has
pub steps_at : (rows : List Row) (i : ℕ) (row : Row) (steps : List Step) → slice_get rows i ≡ Some row
    → row.steps ≡ steps → has_all_steps (slice_get rows i) ≡ nat_le 4096 (length steps)
steps_at rows i row steps at is = ap has_all_steps at ∙ ap (λ s. nat_le 4096 (length s)) is

-- the lines so far were taken, and these are left
pub record HasTaken (text : List ℕ) (left : List (List ℕ)) (n : ℕ) (d : Draft) : Type 0 where
  pub done : List (List ℕ)
  pub cut : lines text ≡ done ++ left
  pub count : length done ≡ n
  pub taken : lines_after done 0 nothing ≡ Ok d

first_taken : (r : Result Draft Cause) (n : ℕ) (more : Draft → Result Draft AsmFault) (e : Draft)
    → then_lines more (at_line n r) ≡ Ok e → (d : Draft) × (r ≡ Ok d) × (more d ≡ Ok e)
first_taken (Ok d) n more e h = (d, refl, h)
first_taken (Err cause) n more e h = absurd cc

pub taken_more : (done : List (List ℕ)) (line : List ℕ) (n : ℕ) (d e f : Draft) → lines_after done n d ≡ Ok e
    → line_after line e ≡ Ok f → lines_after (done ++ line ∷ []) n d ≡ Ok f
taken_more [] line n d e f so_far taken =
    let same : d ≡ e = cc in
    ap (λ x. then_lines (lines_after [] (n + 1)) (at_line (n + 1) (line_after line x))) same
    ∙ ap (λ r. then_lines (lines_after [] (n + 1)) (at_line (n + 1) r)) taken
taken_more (l ∷ done) line n d e f so_far taken =
    let s = first_taken (line_after l d) (n + 1) (lines_after done (n + 1)) e so_far in
    ap (λ r. then_lines (lines_after (done ++ line ∷ []) (n + 1)) (at_line (n + 1) r)) s.1
    ∙ taken_more done line (n + 1) s.0 e f s.2 taken

-- one line more was taken
pub taken_line : (text first : List ℕ) (left more : List (List ℕ)) (n : ℕ) (d e : Draft) → HasTaken text left n d
    → left ≡ first ∷ more → line_after first d ≡ Ok e → HasTaken text more (n + 1) e
taken_line text first left more n d e so_far cut taken = record {
  done = so_far.done ++ first ∷ [];
  cut = so_far.cut ∙ ap (λ ls. so_far.done ++ ls) cut ∙ sym (append_assoc so_far.done (first ∷ []) more);
  count = omega (arith, so_far.count, length-append so_far.done (first ∷ []));
  taken = taken_more so_far.done first 0 nothing d e so_far.taken taken;
}

-- the line after those that were taken
pub reached_here : (text first : List ℕ) (left more : List (List ℕ)) (n : ℕ) (d : Draft) → HasTaken text left n d
    → left ≡ first ∷ more → IsReached text (n + 1)
reached_here text first left more n d so_far cut = record {
  before = so_far.done;
  here = first;
  behind = more;
  cut = so_far.cut ∙ ap (λ ls. so_far.done ++ ls) cut;
  count = omega (arith, so_far.count);
  draft = d;
  taken = so_far.taken;
}

-- the same where it is refused for a limit
pub passes_here : (text first : List ℕ) (left more : List (List ℕ)) (n : ℕ) (d : Draft)
    (limit : Option ScenarioLimit) → HasTaken text left n d → left ≡ first ∷ more
    → line_after first d ≡ Err causes.Limit → limit ≡ limit_in first d → PassesAt text (n + 1) limit
passes_here text first left more n d limit so_far cut refused is = record {
  before = so_far.done;
  here = first;
  behind = more;
  cut = so_far.cut ∙ ap (λ ls. so_far.done ++ ls) cut;
  count = omega (arith, so_far.count);
  draft = d;
  taken = so_far.taken;
  refused = refused;
  passed = is;
}

pub if_none : {P : Type 0} (o : Option (List ℕ)) → P → MatchOption o P (λ _. Unit {0})
if_none None p = p
if_none (Some x) p = tt

-- what a text's lines are taken by, one after another
pub ruleset line_by_line = (goes_on, stops, ends, taken_line, reached_here, passes_here, if_none)
