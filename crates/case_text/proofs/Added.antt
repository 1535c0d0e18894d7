-- What is added to a line, part by part.
use Rattle.std.proofs.Common.{◌≡◌, ℕ, List, [], ◌∷◌, ◌++◌, refl, ap, append_assoc}
use Rattle.std.proofs.lemmas.List.{append-nil}
use Rattle.case_text.specs.declared.digit.Digit.{Digit}
use Rattle.case_text.specs.declared.file_stated.FileStated.{FileStated}
use Rattle.case_text.specs.declared.file_stated.FileStated.TheVariants as states
use Rattle.case_text.specs.declared.item.Part.{Part}
use Rattle.case_text.specs.declared.item.Part.TheVariants as part
use Rattle.case_text.specs.declared.line.FileLine.{FileLine}
use Rattle.case_text.specs.declared.line.FileLine.TheVariants as in_file
use Rattle.case_text.specs.declared.line.Line.{Line}
use Rattle.case_text.specs.declared.line.Line.TheVariants as is
use Rattle.case_text.specs.declared.trial.Made.{Made}
use Rattle.case_text.specs.declared.trial.Made.TheVariants as makes
use Rattle.case_text.specs.Added.{whole_in_file, whole_line, whole_made, whole_part, whole_stated}

part_more : (p : Part) (b m : List ℕ) → whole_part (whole_part p b) m ≡ whole_part p (b ++ m)
part_more (part.Recorded x) b m = ap part.Recorded (append_assoc x b m)
part_more part.Start b m = refl
part_more (part.Device n) b m = refl
part_more (part.Step n) b m = refl
part_more part.Line b m = refl
part_more (part.Ask n q) b m = refl
part_more (part.Aside e) b m = refl

made_more : (x : Made) (b m : List ℕ) → whole_made (whole_made x b) m ≡ whole_made x (b ++ m)
made_more (makes.And x) b m = ap makes.And (append_assoc x b m)
made_more makes.Itself b m = refl
made_more (makes.With x n) b m = refl
made_more makes.EachFront b m = refl
made_more makes.EachChange b m = refl

stated_more : (s : FileStated) (c d : List Digit) → whole_stated (whole_stated s c) d ≡ whole_stated s (c ++ d)
stated_more (states.Image x) c d = ap states.Image (append_assoc x c d)
stated_more (states.Trace x) c d = ap states.Trace (append_assoc x c d)
stated_more (states.Ok i j k) c d = refl
stated_more (states.OkEntries n) c d = refl
stated_more (states.Fault t) c d = refl
stated_more states.FaultOrOk c d = refl
stated_more states.Text c d = refl
stated_more states.Entries c d = refl
stated_more (states.TextLine t) c d = refl

in_file_more : (l : FileLine) (b m : List ℕ) (c d : List Digit)
    → whole_in_file (whole_in_file l b c) m d ≡ whole_in_file l (b ++ m) (c ++ d)
in_file_more (in_file.Gives k x) b m c d = ap (in_file.Gives k) (append_assoc x b m)
in_file_more (in_file.Makes x) b m c d = ap in_file.Makes (made_more x b m)
in_file_more (in_file.Answer n s) b m c d = ap (in_file.Answer n) (stated_more s c d)

-- something, and then something more
pub whole_more : (l : Line) (b m : List ℕ) (c d : List Digit)
    → whole_line (whole_line l b c) m d ≡ whole_line l (b ++ m) (c ++ d)
whole_more (is.Part p t n) b m c d = ap (λ x. is.Part x t n) (part_more p b m)
whole_more (is.File l) b m c d = ap is.File (in_file_more l b m c d)
whole_more is.Remark b m c d = refl
whole_more (is.Title t) b m c d = refl
whole_more (is.Answer n s) b m c d = refl
whole_more (is.More x) b m c d = refl
whole_more (is.MoreDigits x) b m c d = refl

part_as_it_is : (p : Part) → whole_part p [] ≡ p
part_as_it_is (part.Recorded x) = ap part.Recorded (append-nil x)
part_as_it_is part.Start = refl
part_as_it_is (part.Device n) = refl
part_as_it_is (part.Step n) = refl
part_as_it_is part.Line = refl
part_as_it_is (part.Ask n q) = refl
part_as_it_is (part.Aside e) = refl

made_as_it_is : (x : Made) → whole_made x [] ≡ x
made_as_it_is (makes.And x) = ap makes.And (append-nil x)
made_as_it_is makes.Itself = refl
made_as_it_is (makes.With x n) = refl
made_as_it_is makes.EachFront = refl
made_as_it_is makes.EachChange = refl

stated_as_it_is : (s : FileStated) → whole_stated s [] ≡ s
stated_as_it_is (states.Image x) = ap states.Image (append-nil x)
stated_as_it_is (states.Trace x) = ap states.Trace (append-nil x)
stated_as_it_is (states.Ok i j k) = refl
stated_as_it_is (states.OkEntries n) = refl
stated_as_it_is (states.Fault t) = refl
stated_as_it_is states.FaultOrOk = refl
stated_as_it_is states.Text = refl
stated_as_it_is states.Entries = refl
stated_as_it_is (states.TextLine t) = refl

in_file_as_it_is : (l : FileLine) → whole_in_file l [] [] ≡ l
in_file_as_it_is (in_file.Gives k x) = ap (in_file.Gives k) (append-nil x)
in_file_as_it_is (in_file.Makes x) = ap in_file.Makes (made_as_it_is x)
in_file_as_it_is (in_file.Answer n s) = ap (in_file.Answer n) (stated_as_it_is s)

-- nothing
pub whole_as_it_is : (l : Line) → whole_line l [] [] ≡ l
whole_as_it_is (is.Part p t n) = ap (λ x. is.Part x t n) (part_as_it_is p)
whole_as_it_is (is.File l) = ap is.File (in_file_as_it_is l)
whole_as_it_is is.Remark = refl
whole_as_it_is (is.Title t) = refl
whole_as_it_is (is.Answer n s) = refl
whole_as_it_is (is.More x) = refl
whole_as_it_is (is.MoreDigits x) = refl

pub ruleset added = (whole_more, whole_as_it_is)
