-- What is told of cases.
use Rattle.std.specs.Prelude.{ℕ, List, [], ◌∷◌, Option, option_map}
use Rattle.test_reports.specs.Choice.{CaseOfFile}
use Rattle.test_reports.specs.declared.case_report.CaseReport.{CaseReport}
use Rattle.test_reports.specs.declared.case_report.Difference.{Difference}
use Rattle.test_reports.specs.declared.instead.Instead.{Instead}

-- the line of its file in which a case differs, what stands there, and what else is told of it
pub record ToldDifference : Type 0 where
  pub line : ℕ
  pub stated : List ℕ
  pub instead : Instead

-- the number and the path of its file, its title, the device that it was judged for, and what differs
pub record Told : Type 0 where
  pub file : ℕ
  pub path : List ℕ
  pub title : List ℕ
  pub device : Option ℕ
  pub difference : Option ToldDifference

abbrev pub told_difference : Difference → ToldDifference
told_difference d = record { line = d.line; stated = d.stated.now; instead = d.instead }

-- what a report tells
abbrev pub told_of : CaseReport → Told
told_of case = record {
  file = case.file;
  path = case.path.now;
  title = case.title.now;
  device = case.device;
  difference = option_map told_difference case.difference;
}

-- of a case of a file this title, this device, and what differs
abbrev pub told_case : {C : Type 0} → CaseOfFile C → List ℕ → Option ℕ → Option ToldDifference → Told
told_case of title device difference = record {
  file = of.file;
  path = of.path;
  title = title;
  device = device;
  difference = difference;
}

-- each of these is so of the one in its place, and there are as many
abbrev pub AreEach : {A B : Type 0} → (A → B → Type 0) → List A → List B → Type 0
AreEach is [] [] = Unit {0}
AreEach is (x ∷ xs) (y ∷ ys) = is x y × AreEach is xs ys
AreEach is xs ys = ⊥
