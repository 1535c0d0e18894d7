-- The cases that are asked for by their titles.
use Rattle.std.specs.Prelude.{ℕ, ◌+◌, ◌≡◌, Bool, true, List, [], ◌∷◌, ◌++◌, Option, None, Some, filter, map, nat_eq}
use Rattle.std.specs.List.{starts_with}
use Rattle.test_reports.specs.declared.case_file.CaseFile.{CaseFile}
use Rattle.test_reports.specs.declared.choice.ChosenCase.{ChosenCase}

-- the title of a case begins with the words; where no words are given, any title will do
abbrev pub is_chosen : {C : Type 0} → (C → List ℕ) → Option (List ℕ) → C → Bool
is_chosen title_of None case = true
is_chosen title_of (Some words) case = starts_with nat_eq (title_of case) words

-- a case with its file: the file's number, its path and its text
pub record CaseOfFile (C : Type 0) : Type 0 where
  pub file : ℕ
  pub path : List ℕ
  pub text : List ℕ
  pub case : C

abbrev pub in_file : {C : Type 0} → ℕ → CaseFile C → C → CaseOfFile C
in_file number file case = record { file = number; path = file.path.now; text = file.text; case = case }

-- the cases of a file that are chosen by their titles
abbrev pub choice_in : {C : Type 0} → (C → List ℕ) → Option (List ℕ) → ℕ → CaseFile C → List (CaseOfFile C)
choice_in title_of only number file = map (in_file number file) (filter (is_chosen title_of only) file.cases.items)

-- those of files, which have the numbers from this one on
abbrev pub choice_from : {C : Type 0} → (C → List ℕ) → Option (List ℕ) → ℕ → List (CaseFile C) → List (CaseOfFile C)
choice_from title_of only number [] = []
choice_from title_of only number (file ∷ files) =
    choice_in title_of only number file ++ choice_from title_of only (number + 1) files

-- the cases of files that are chosen by their titles, in their order
abbrev pub choice : {C : Type 0} → (C → List ℕ) → Option (List ℕ) → List (CaseFile C) → List (CaseOfFile C)
choice title_of only files = choice_from title_of only 0 files

-- a chosen case by what it refers to
abbrev pub case_of_file : {C : Type 0} → ChosenCase C → CaseOfFile C
case_of_file chosen = record {
  file = chosen.file;
  path = chosen.path.now;
  text = chosen.text.now;
  case = chosen.case.now;
}

-- these are the cases that are chosen
abbrev pub AreChosen : {C : Type 0} → (C → List ℕ) → Option (List ℕ) → List (CaseFile C) → List (ChosenCase C)
    → Type 0
AreChosen title_of only files chosen = map case_of_file chosen ≡ choice title_of only files
