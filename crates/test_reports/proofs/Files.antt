-- Files that are read, one after another.
use Rattle.std.proofs.Common.{ℕ, ◌≡◌, ◌+◌, ◌≤◌, ◌<◌, Bor, List, [], ◌∷◌, ◌++◌, Result, Ok, Option, Some, length, take}
use Rattle.std.proofs.Common.{drop}
use Rattle.std.proofs.Common.{get_or, map, refl, sym, ap, subst, ◌∙◌}
use Rattle.std.proofs.lemmas.List.{drop_more, map-append, take-append-drop, take_all, take_more}
use Rattle.std.proofs.lemmas.List.Elements.{All-nil, All-push}
use Rattle.case_text.specs.declared.fault.CaseFault.{CaseFault}
use Rattle.command_files.specs.declared.fault.Fault.{Fault}
use Rattle.command_files.specs.declared.fault.Fault.TheVariants.{Memory}
use Rattle.test_reports.specs.Reading.{AreRead, IsCaseFile, IsFileRefused, IsFirstRefused, IsRefusalOf}
use Rattle.test_reports.specs.declared.case_file.CaseFile.{CaseFile}

-- the paths at references
abbrev pub paths_in : List (Bor (List ℕ)) → List (List ℕ)
paths_in paths = map (λ p. p.now) paths

pub case_file : {C : Type 0} (cases_in : List ℕ → Result (List C) CaseFault)
    (holds : List ℕ → List ℕ → Type 0) (file : CaseFile C) → holds file.path.now file.text
    → cases_in file.text ≡ Ok file.cases.items → IsCaseFile cases_in holds file
case_file cases_in holds file held found = record { held = held; found = found }

pub none_yet : {C : Type 0} (cases_in : List ℕ → Result (List C) CaseFault)
    (holds : List ℕ → List ℕ → Type 0) (paths : List (Bor (List ℕ))) (files : List (CaseFile C)) → files ≡ []
    → AreRead cases_in holds (paths_in (take 0 paths)) files
none_yet cases_in holds paths files none =
    subst (AreRead cases_in holds []) (sym none)
    (record { paths_are = refl; all_are = All-nil (IsCaseFile cases_in holds) })

-- the paths up to and with a place
up_to : (paths : List (Bor (List ℕ))) (i : ℕ) (d : Bor (List ℕ)) → i < length paths
    → paths_in (take (i + 1) paths) ≡ paths_in (take i paths) ++ (get_or paths i d).now ∷ []
up_to paths i d within =
    ap paths_in (take_more paths i d within) ∙ map-append (λ p. p.now) (take i paths) (get_or paths i d ∷ [])

-- the paths before a place, that at the place, and those after it
cut_at : (paths : List (Bor (List ℕ))) (i : ℕ) (d : Bor (List ℕ)) → i < length paths
    → paths_in paths ≡ paths_in (take i paths) ++ (get_or paths i d).now ∷ paths_in (drop (i + 1) paths)
cut_at paths i d within =
    let rest : take i paths ++ get_or paths i d ∷ drop (i + 1) paths ≡ paths =
    ap (λ r. take i paths ++ r) (sym (drop_more paths i d within)) ∙ take-append-drop i paths in
    sym (ap paths_in rest) ∙ map-append (λ p. p.now) (take i paths) (get_or paths i d ∷ drop (i + 1) paths)

pub one_more : {C : Type 0} (cases_in : List ℕ → Result (List C) CaseFault)
    (holds : List ℕ → List ℕ → Type 0) (paths : List (Bor (List ℕ))) (i : ℕ) (d : Bor (List ℕ))
    (old new : List (CaseFile C)) (file : CaseFile C) → AreRead cases_in holds (paths_in (take i paths)) old
    → i < length paths
    → file.path.now ≡ (get_or paths i d).now → IsCaseFile cases_in holds file → new ≡ old ++ file ∷ []
    → AreRead cases_in holds (paths_in (take (i + 1) paths)) new
one_more cases_in holds paths i d old new file read within named found same =
    let joined : map (λ f. f.path.now) (old ++ file ∷ []) ≡ map (λ f. f.path.now) old ++ file.path.now ∷ [] =
    map-append (λ f. f.path.now) old (file ∷ []) in
    let all : map (λ f. f.path.now) (old ++ file ∷ []) ≡ paths_in (take i paths) ++ (get_or paths i d).now ∷ [] =
    joined ∙ ap (λ ps. ps ++ file.path.now ∷ []) read.paths_are ∙ ap (λ p. paths_in (take i paths) ++ p ∷ []) named in
    subst (AreRead cases_in holds (paths_in (take (i + 1) paths))) (sym same) (record {
      paths_are = all ∙ sym (up_to paths i d within);
      all_are = All-push (IsCaseFile cases_in holds) old file read.all_are found;
    })

pub all_read : {C : Type 0} (cases_in : List ℕ → Result (List C) CaseFault)
    (holds : List ℕ → List ℕ → Type 0) (paths : List (Bor (List ℕ))) (i : ℕ) (files : List (CaseFile C))
    → AreRead cases_in holds (paths_in (take i paths)) files → length paths ≤ i
    → AreRead cases_in holds (paths_in paths) files
all_read cases_in holds paths i files read end =
    subst (λ ps. AreRead cases_in holds (paths_in ps) files) (take_all i paths end) read

-- the first file that is refused
first_refused : {C : Type 0} (cases_in : List ℕ → Result (List C) CaseFault)
    (holds : List ℕ → List ℕ → Type 0) (fails : List ℕ → Type 0) (paths : List (Bor (List ℕ))) (i : ℕ)
    (d : Bor (List ℕ)) (files : List (CaseFile C)) (about : Option (List ℕ)) (fault : Fault)
    → AreRead cases_in holds (paths_in (take i paths)) files → i < length paths → about ≡ Some (get_or paths i d).now
    → IsFileRefused cases_in holds fails (get_or paths i d).now fault
    → IsFirstRefused cases_in holds fails (paths_in paths) about fault
first_refused cases_in holds fails paths i d files about fault read within named refused =
    record {
      before = paths_in (take i paths);
      path = (get_or paths i d).now;
      others = paths_in (drop (i + 1) paths);
      stands = cut_at paths i d within;
      named = named;
      files = files;
      read = read;
      refused = refused;
    }

pub refused_at : {C : Type 0} (cases_in : List ℕ → Result (List C) CaseFault)
    (holds : List ℕ → List ℕ → Type 0) (fails : List ℕ → Type 0) (paths : List (Bor (List ℕ))) (i : ℕ)
    (d : Bor (List ℕ)) (files : List (CaseFile C)) (about : Option (List ℕ)) (fault : Fault)
    → AreRead cases_in holds (paths_in (take i paths)) files → i < length paths → about ≡ Some (get_or paths i d).now
    → IsFileRefused cases_in holds fails (get_or paths i d).now fault
    → IsRefusalOf cases_in holds fails (paths_in paths) about fault
refused_at cases_in holds fails paths i d files about Memory read within named refused = tt
refused_at cases_in holds fails paths i d files about fault read within named refused =
    first_refused cases_in holds fails paths i d files about fault read within named refused

-- no memory was left after a file was read
pub unheld : {C : Type 0} (cases_in : List ℕ → Result (List C) CaseFault)
    (holds : List ℕ → List ℕ → Type 0) (fails : List ℕ → Type 0) (paths : List (Bor (List ℕ)))
    (about : Option (List ℕ)) (fault : Fault) → fault ≡ Memory
    → IsRefusalOf cases_in holds fails (paths_in paths) about fault
unheld cases_in holds fails paths about fault same =
    subst (IsRefusalOf cases_in holds fails (paths_in paths) about) (sym same) tt
