-- The lines of a file by their numbers.
use Rattle.std.proofs.Common.{ℕ, suc, ◌≡◌, ◌+◌, ◌<◌, ◌-◌, ◌≤◌, List, [], length, None, Some}
use Rattle.std.proofs.Common.{slice_get, sym, ap, ◌∙◌, arith}
use Rattle.std.proofs.lemmas.List.Splits.{length-slice_split}
use Rattle.std.proofs.lemmas.List.Sums.{count_by-le-length}
use Rattle.std.proofs.lemmas.Option.{slice_get_past}
use Rattle.std.specs.Prelude.{◌==◌}
use Rattle.scenario_words.specs.Words.{lines}
use Rattle.test_reports.specs.Report.{line_at, or_empty}

-- there are no more lines than bytes and one
most_lines : (file : List ℕ) → length (lines file) ≤ length file + 1
most_lines file =
    omega (arith, length-slice_split (λ b. b == 10) file, count_by-le-length (λ b. b == 10) file)

pub none_before : (file : List ℕ) (number : ℕ) → number ≡ 0 → line_at file number ≡ []
none_before file number none = ap (line_at file) none

-- the line after this many
after : (file : List ℕ) (number place : ℕ) → number ≡ suc place
    → line_at file number ≡ or_empty (slice_get (lines file) place)
after file number place same = ap (line_at file) same

pub none_past : (file : List ℕ) (number : ℕ) → length file < number - 1 → [] ≡ line_at file number
none_past file number past =
    sym (after file number (number - 1) (omega (arith, past))
    ∙ ap or_empty (slice_get_past (lines file) (number - 1) (omega (arith, past, most_lines file))))

pub there : (file : List ℕ) (number place : ℕ) (line : List ℕ) → 0 < number → place ≡ number - 1
    → Some line ≡ slice_get (lines file) place → line ≡ line_at file number
there file number place line some same found =
    sym (after file number place (omega (arith, some, same)) ∙ ap or_empty (sym found))

pub not_there : (file : List ℕ) (number place : ℕ) → 0 < number → place ≡ number - 1
    → None ≡ slice_get (lines file) place → [] ≡ line_at file number
not_there file number place some same found =
    sym (after file number place (omega (arith, some, same)) ∙ ap or_empty (sym found))
