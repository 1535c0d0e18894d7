-- Lines that are taken one after another, up to the first that is refused.
use Rattle.std.proofs.Common.{◌≡◌, ℕ, ◌+◌, List, [], ◌∷◌, ◌++◌, length, Result}
use Rattle.std.proofs.Common.{Ok, Err, refl, sym, ap, ◌∙◌, arith}
use Rattle.scenario_words.specs.declared.cause.Cause.{Cause}
use Rattle.scenario_asm.specs.declared.fault.AsmFault.{AsmFault}
use Rattle.scenario_asm.specs.Draft.{Draft}
use Rattle.scenario_asm.specs.Text.{at_line, line_after, lines_after, then_lines}

-- what is made of a line, and then of those after it
abbrev pub go_on : List (List ℕ) → ℕ → Result Draft Cause → Result Draft AsmFault
go_on more n r = then_lines (lines_after more (n + 1)) (at_line (n + 1) r)

-- ---- lines in front of others

pub first_taken : (more : List (List ℕ)) (n : ℕ) (r : Result Draft Cause) (e : Draft) → go_on more n r ≡ Ok e
    → (d : Draft) × (r ≡ Ok d) × (lines_after more (n + 1) d ≡ Ok e)
first_taken more n (Ok d) e h = (d, refl, h)
first_taken more n (Err cause) e h = absurd cc

further : (n k : ℕ) → (n + 1) + k ≡ n + (1 + k)
further n k = omega arith

one_longer : (line : List ℕ) (xs : List (List ℕ)) → length (line ∷ xs) ≡ 1 + length xs
one_longer line xs = omega arith

from_here : (n : ℕ) → n ≡ n + 0
from_here n = omega arith

pub run_on : (xs ys : List (List ℕ)) (n : ℕ) (d e : Draft) → lines_after xs n d ≡ Ok e
    → lines_after (xs ++ ys) n d ≡ lines_after ys (n + length xs) e
run_on [] ys n d e h =
    let same : d ≡ e = cc in ap (λ x. lines_after ys n x) same ∙ ap (λ k. lines_after ys k e) (from_here n)
run_on (x ∷ xs) ys n d e h =
    let s = first_taken xs n (line_after x d) e h in
    ap (go_on (xs ++ ys) n) s.1
    ∙ run_on xs ys (n + 1) s.0 e s.2
    ∙ ap (λ k. lines_after ys k e) (further n (length xs) ∙ ap (λ k. n + k) (sym (one_longer x xs)))

-- lines in front of those that are taken are taken
pub front_taken : (xs ys : List (List ℕ)) (n : ℕ) (d e : Draft) → lines_after (xs ++ ys) n d ≡ Ok e
    → (f : Draft) × (lines_after xs n d ≡ Ok f)
front_taken [] ys n d e h = (d, refl)
front_taken (x ∷ xs) ys n d e h =
    let s = first_taken (xs ++ ys) n (line_after x d) e h in
    let rest = front_taken xs ys (n + 1) s.0 e s.2 in
    (rest.0, ap (go_on xs n) s.1 ∙ rest.1)

-- the line after those that are taken is refused
pub refused_behind : (xs : List (List ℕ)) (line : List ℕ) (ys : List (List ℕ)) (n : ℕ) (d e : Draft) (cause : Cause)
    → lines_after xs n d ≡ Ok e → line_after line e ≡ Err cause
    → lines_after (xs ++ line ∷ ys) n d ≡ Err (record { line = n + length xs + 1; cause = cause })
refused_behind xs line ys n d e cause h refused =
    run_on xs (line ∷ ys) n d e h ∙ ap (go_on ys (n + length xs)) refused

-- ---- the line that is refused

pub record StopsAt (ls : List (List ℕ)) (n : ℕ) (d : Draft) (fault : AsmFault) : Type 0 where
  pub before : List (List ℕ)
  pub here : List ℕ
  pub behind : List (List ℕ)
  pub draft : Draft
  pub cause : Cause
  pub cut : ls ≡ before ++ here ∷ behind
  pub taken : lines_after before n d ≡ Ok draft
  pub refused : line_after here draft ≡ Err cause

stops_by : (line : List ℕ) (more : List (List ℕ)) (n : ℕ) (d : Draft) (fault : AsmFault) (r : Result Draft Cause)
    → line_after line d ≡ r → go_on more n r ≡ Err fault
    → ((e : Draft) → lines_after more (n + 1) e ≡ Err fault → StopsAt more (n + 1) e fault)
    → StopsAt (line ∷ more) n d fault
stops_by line more n d fault (Err cause) is h rest = record {
  before = [];
  here = line;
  behind = more;
  draft = d;
  cause = cause;
  cut = refl;
  taken = refl;
  refused = is;
}
stops_by line more n d fault (Ok e) is h rest =
    let s = rest e h in record {
      before = line ∷ s.before;
      here = s.here;
      behind = s.behind;
      draft = s.draft;
      cause = s.cause;
      cut = ap (λ ls. line ∷ ls) s.cut;
      taken = ap (go_on s.before n) is ∙ s.taken;
      refused = s.refused;
    }

-- where lines are refused, one is, after those that are taken
pub stops_at : (ls : List (List ℕ)) (n : ℕ) (d : Draft) (fault : AsmFault) → lines_after ls n d ≡ Err fault
    → StopsAt ls n d fault
stops_at [] n d fault h = absurd cc
stops_at (line ∷ more) n d fault h =
    stops_by line more n d fault (line_after line d) refl h (λ e g. stops_at more (n + 1) e fault g)

same_fault : (f g : AsmFault) (r : Result Draft AsmFault) → r ≡ Err f → r ≡ Err g → f ≡ g
same_fault f g r h k = cc

-- its number, and its cause
pub stop_is : (ls : List (List ℕ)) (n : ℕ) (d : Draft) (fault : AsmFault) (h : lines_after ls n d ≡ Err fault)
    (s : StopsAt ls n d fault) → fault ≡ record { line = n + length s.before + 1; cause = s.cause }
stop_is ls n d fault h s =
    same_fault fault (record { line = n + length s.before + 1; cause = s.cause }) (lines_after ls n d) h
    (ap (λ x. lines_after x n d) s.cut
    ∙ refused_behind s.before s.here s.behind n d s.draft s.cause s.taken s.refused)
