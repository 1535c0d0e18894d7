-- A text is refused at its first wrong line.
use Rattle.std.proofs.Common.{◌≡◌, ◌⊎◌, inl, inr, ℕ, ◌+◌, Bool, true, false, cond, eqb, List, [], ◌∷◌, ◌++◌, length}
use Rattle.std.proofs.Common.{take, drop, Result, Ok, Err, refl, sym, ap, subst, ◌∙◌}
use Rattle.std.proofs.Common.{append_assoc, arith}
use Rattle.std.specs.List.{AllByRecursion, flat_map, onto_first}
use Rattle.std.proofs.lemmas.List.{take-append-drop}
use Rattle.std.proofs.Math.Seq.{take-append-add}
use Rattle.lemmas.proofs.Lists.{each_appended, each_front}
use Rattle.scenario_image.specs.Scenario.{Scenario}
use Rattle.scenario_words.specs.declared.cause.Cause.{Cause}
use Rattle.scenario_words.specs.declared.cause.Cause.TheVariants.{Duplicate, Missing}
use Rattle.scenario_words.specs.Words.{IsLine, ended_line, lines, words}
use Rattle.scenario_words.specs.Reading.{◌>>=◌}
use Rattle.scenario_words.proofs.WordLaws.{lines_again}
use Rattle.scenario_statements.specs.declared.statement.Statement.TheVariants as says
use Rattle.scenario_statements.specs.Grammar.{statement_of}
use Rattle.scenario_statements.specs.Spelling.{line_of}
use Rattle.scenario_statements.proofs.Again.{line_alone, statement_again, words_of_line}
use Rattle.scenario_asm.specs.declared.fault.AsmFault.{AsmFault}
use Rattle.scenario_asm.specs.Denotes.{Denotes}
use Rattle.scenario_asm.specs.Draft.{Draft, closed_scenario, nothing}
use Rattle.scenario_asm.specs.Text.{effect_of, line_after, lines_after, scenario_of_text, whole_of, whole_scenario}
use Rattle.scenario_asm.proofs.Denoting.{denotes_so, so_denotes}
use Rattle.scenario_asm.proofs.Lines.{taken_more}
use Rattle.laws_text.specs.WrongLine.{CanBegin, IsFirstWrong, IsRefusedAt, LaterLinesChangeNothing}
use Rattle.laws_text.specs.WrongLine.{NothingElseEndsWrong, NothingIsMissing}
use Rattle.laws_text.specs.WrongLine.{RefusedAtFirstWrong, StatesNothing}
use Rattle.laws_text.proofs.Begun.{are_blank, blank_run}
use Rattle.laws_text.proofs.Runs.{front_taken, go_on, refused_behind, run_on, stop_is, stops_at}

-- ---- each line of a text stands alone in a text

-- the first of some lines, and the others
alone_by : (b : ℕ) (is : Bool) (bs : List ℕ) (ls : List (List ℕ)) → eqb b 10 ≡ is → lines bs ≡ ls
    → AllByRecursion IsLine ls → AllByRecursion IsLine (cond is ([] ∷ ls) (onto_first b ls))
alone_by b true bs ls at cut each = (refl, each)
alone_by b false bs [] at cut each =
    (ap (λ c. cond c ([] ∷ [] ∷ []) (onto_first b ([] ∷ []))) at, tt)
alone_by b false bs (l ∷ ls) at cut each =
    (ap (λ c. cond c ([] ∷ lines l) (onto_first b (lines l))) at ∙ ap (onto_first b) each.0, each.1)

each_alone : (bs : List ℕ) → AllByRecursion IsLine (lines bs)
each_alone [] = (refl, tt)
each_alone (b ∷ bs) = alone_by b (eqb b 10) bs (lines bs) refl refl (each_alone bs)

-- those of a text up to a line
front_alone : (text : List ℕ) (before behind : List (List ℕ)) → lines text ≡ before ++ behind
    → AllByRecursion IsLine before
front_alone text before behind cut =
    each_front IsLine before behind (subst (AllByRecursion IsLine) cut (each_alone text))

-- ---- lines that are taken begin the text of a scenario

whole_begun : (d : Draft) → d.begun ≡ true → whole_scenario d ≡ Ok (closed_scenario d)
whole_begun d begun = ap (λ b. cond b (Ok (closed_scenario d)) (Err (record { line = 1; cause = Missing }))) begun

begins : (ls : List (List ℕ)) (more : List (List ℕ)) (d e : Draft) → AllByRecursion IsLine (ls ++ more)
    → lines_after ls 0 nothing ≡ Ok d → lines_after (more ++ [] ∷ []) (0 + length ls) d ≡ Ok e → e.begun ≡ true
    → CanBegin ls
begins ls more d e alone taken rest begun =
    let text : List ℕ = flat_map ended_line (ls ++ more) in
    let cut : lines text ≡ ls ++ (more ++ [] ∷ []) =
    lines_again (ls ++ more) alone ∙ append_assoc ls more ([] ∷ []) in record {
      text = text;
      behind = more ++ [] ∷ [];
      scenario = closed_scenario e;
      are = cut;
      denotes = so_denotes text (closed_scenario e) (ap (λ x. whole_of (lines_after x 0 nothing)) cut
          ∙ ap whole_of (run_on ls (more ++ [] ∷ []) 0 nothing d taken ∙ rest)
          ∙ whole_begun e begun);
    }

-- the draft, which `scenario 1` has begun
abbrev begun_now : Draft → Draft
begun_now d = record { begun = true; scenario = d.scenario; open_class = d.open_class; object = d.object }

first_line_taken : (d : Draft) → d.begun ≡ false → line_after (line_of says.Scenario) d ≡ Ok (begun_now d)
first_line_taken d unbegun =
    ap (λ ws. statement_of ws >>= (λ o. effect_of o d)) (words_of_line says.Scenario tt)
    ∙ ap (λ q. q >>= (λ o. effect_of o d)) (statement_again says.Scenario tt)
    ∙ ap (λ b. cond b (Err Duplicate) (Ok (begun_now d))) unbegun

begins_by : (ls : List (List ℕ)) (d : Draft) (b : Bool) → d.begun ≡ b → AllByRecursion IsLine ls
    → lines_after ls 0 nothing ≡ Ok d → CanBegin ls
begins_by ls d true begun alone taken =
    begins ls [] d d (each_appended IsLine ls [] alone tt) taken refl begun
begins_by ls d false begun alone taken =
    begins ls (line_of says.Scenario ∷ []) d (begun_now d)
    (each_appended IsLine ls (line_of says.Scenario ∷ []) alone (line_alone says.Scenario tt, tt)) taken
    (ap (go_on ([] ∷ []) (0 + length ls)) (first_line_taken d begun)) refl

can_begin : (ls : List (List ℕ)) (d : Draft) → AllByRecursion IsLine ls → lines_after ls 0 nothing ≡ Ok d → CanBegin ls
can_begin ls d alone taken = begins_by ls d d.begun refl alone taken

-- ---- and lines that begin the text of a scenario are taken

pub taken_whole : (r : Result Draft AsmFault) (s : Scenario) → whole_of r ≡ Ok s → (d : Draft) × (r ≡ Ok d)
taken_whole (Ok d) s h = (d, refl)
taken_whole (Err fault) s h = absurd cc

taken_so : (ls : List (List ℕ)) → CanBegin ls → (d : Draft) × (lines_after ls 0 nothing ≡ Ok d)
taken_so ls can =
    let all = taken_whole (lines_after (lines can.text) 0 nothing) can.scenario
    (denotes_so can.text can.scenario can.denotes) in
    front_taken ls can.behind 0 nothing all.0 (ap (λ x. lines_after x 0 nothing) (sym can.are) ∙ all.1)

not_both : (r : Result Draft AsmFault) (d : Draft) (fault : AsmFault) → r ≡ Ok d → r ≡ Err fault → ⊥
not_both r d fault h k = cc

-- so no text of a scenario begins with lines of which the last is refused
cannot_begin : (before : List (List ℕ)) (here : List ℕ) (d : Draft) (cause : Cause)
    → lines_after before 0 nothing ≡ Ok d → line_after here d ≡ Err cause → CanBegin (before ++ here ∷ []) → ⊥
cannot_begin before here d cause taken refused can =
    let so = taken_so (before ++ here ∷ []) can in
    not_both (lines_after (before ++ here ∷ []) 0 nothing) so.0 _ so.1
    (refused_behind before here [] 0 nothing d cause taken refused)

-- ---- a text that is refused is refused at its first wrong line

pub number : (n : ℕ) → 0 + n + 1 ≡ n + 1
number n = omega arith

pub line_is : (f g : AsmFault) → f ≡ g → f.line ≡ g.line
line_is f g h = ap (λ x. x.line) h

first_wrong : (text : List ℕ) (fault : AsmFault) → lines_after (lines text) 0 nothing ≡ Err fault
    → IsFirstWrong text fault.line
first_wrong text fault h =
    let s = stops_at (lines text) 0 nothing fault h in record {
      before = s.before;
      here = s.here;
      behind = s.behind;
      cut = s.cut;
      count = line_is fault _ (stop_is (lines text) 0 nothing fault h s) ∙ number (length s.before);
      right = can_begin s.before s.draft (front_alone text s.before (s.here ∷ s.behind) s.cut) s.taken;
      wrong = cannot_begin s.before s.here s.draft s.cause s.taken s.refused;
    }

pub same_whole : (r : Result Scenario AsmFault) (f g : AsmFault) → r ≡ Err f → r ≡ Err g → f ≡ g
same_whole r f g h k = cc

no_whole : (r : Result Scenario AsmFault) (s : Scenario) (f : AsmFault) → r ≡ Ok s → r ≡ Err f → ⊥
no_whole r s f h k = cc

-- a text that no line refuses states nothing
pub states_nothing : (text : List ℕ) (d : Draft) (b : Bool) (fault : AsmFault) → d.begun ≡ b
    → lines_after (lines text) 0 nothing ≡ Ok d → whole_scenario d ≡ Err fault → StatesNothing text × (fault.line ≡ 1)
states_nothing text d true fault is taken h =
    absurd (no_whole (whole_scenario d) (closed_scenario d) fault (whole_begun d is) h)
states_nothing text d false fault is taken h = (
  are_blank (lines text) 0 nothing d taken is,
  line_is fault (record { line = 1; cause = Missing })
      (same_whole (whole_scenario d) fault (record { line = 1; cause = Missing }) h
      (ap (λ b. cond b (Ok (closed_scenario d)) (Err (record { line = 1; cause = Missing }))) is)),
)

refused_by : (text : List ℕ) (fault : AsmFault) (r : Result Draft AsmFault) → lines_after (lines text) 0 nothing ≡ r
    → whole_of r ≡ Err fault → IsFirstWrong text fault.line ⊎ (StatesNothing text × (fault.line ≡ 1))
refused_by text fault (Err other) is h =
    let same : other ≡ fault = cc in
    inl (subst (λ f. IsFirstWrong text f.line) same (first_wrong text other is))
refused_by text fault (Ok d) is h = inr (states_nothing text d d.begun fault refl is h)

refused_first : (text : List ℕ) (fault : AsmFault) → scenario_of_text text ≡ Err fault
    → IsFirstWrong text fault.line ⊎ (StatesNothing text × (fault.line ≡ 1))
refused_first text fault h = refused_by text fault (lines_after (lines text) 0 nothing) refl h

-- ---- and the other way round

pub nothing_is_missing : NothingIsMissing
nothing_is_missing text h = ap whole_of (blank_run (lines text) 0 nothing h)

pub fault_at : (text : List ℕ) (line : ℕ) (cause : Cause) (before behind : List (List ℕ)) (here : List ℕ) (d : Draft)
    → lines text ≡ before ++ here ∷ behind → line ≡ length before + 1 → lines_after before 0 nothing ≡ Ok d
    → line_after here d ≡ Err cause → scenario_of_text text ≡ Err (record { line = line; cause = cause })
fault_at text line cause before behind here d cut count taken refused =
    ap (λ x. whole_of (lines_after x 0 nothing)) cut
    ∙ ap whole_of (refused_behind before here behind 0 nothing d cause taken refused)
    ∙ ap (λ n. Err (record { line = n; cause = cause })) (number (length before) ∙ sym count)

wrong_by : (text : List ℕ) (line : ℕ) (w : IsFirstWrong text line) (d : Draft) (r : Result Draft Cause)
    → lines_after w.before 0 nothing ≡ Ok d → line_after w.here d ≡ r → IsRefusedAt text line
wrong_by text line w d (Err cause) taken is =
    (cause, fault_at text line cause w.before w.behind w.here d w.cut w.count taken is)
wrong_by text line w d (Ok e) taken is =
    absurd (w.wrong (can_begin (w.before ++ w.here ∷ []) e
    (front_alone text (w.before ++ w.here ∷ []) w.behind
    (w.cut ∙ sym (append_assoc w.before (w.here ∷ []) w.behind)))
    (taken_more w.before w.here 0 nothing d e taken is)))

wrong_refused : (text : List ℕ) (line : ℕ) → IsFirstWrong text line → IsRefusedAt text line
wrong_refused text line w =
    let so = taken_so w.before w.right in wrong_by text line w so.0 (line_after w.here so.0) so.1 refl

so_refused : (text : List ℕ) (line : ℕ) → IsFirstWrong text line ⊎ (StatesNothing text × (line ≡ 1))
    → IsRefusedAt text line
so_refused text line (inl w) = wrong_refused text line w
so_refused text line (inr h) =
    (Missing, nothing_is_missing text h.0 ∙ ap (λ n. Err (record { line = n; cause = Missing })) (sym h.1))

pub refused_at_first : RefusedAtFirstWrong
refused_at_first text line =
    ((λ h. refused_first text (record { line = line; cause = h.0 }) h.1), (λ h. so_refused text line h))

-- ---- later lines change nothing

-- the lines of another text, of which the first n are the same
same_front : (before : List (List ℕ)) (here : List ℕ) (behind others : List (List ℕ))
    → take (length before + 1) others ≡ take (length before + 1) (before ++ here ∷ behind)
    → others ≡ before ++ here ∷ drop (length before + 1) others
same_front before here behind others same =
    sym (take-append-drop (length before + 1) others)
    ∙ ap (λ x. x ++ drop (length before + 1) others) (same ∙ take-append-add before (here ∷ behind) 1)
    ∙ append_assoc before (here ∷ []) (drop (length before + 1) others)

later_by : (text other : List ℕ) (fault : AsmFault) (r : Result Draft AsmFault)
    → lines_after (lines text) 0 nothing ≡ r → whole_of r ≡ Err fault → IsFirstWrong text fault.line
    → take fault.line (lines other) ≡ take fault.line (lines text) → scenario_of_text other ≡ Err fault
later_by text other fault (Ok d) is h w same =
    let states = states_nothing text d d.begun fault refl is h in
    absurd (w.wrong (can_begin (w.before ++ w.here ∷ []) nothing
    (front_alone text (w.before ++ w.here ∷ []) w.behind
    (w.cut ∙ sym (append_assoc w.before (w.here ∷ []) w.behind)))
    (blank_run (w.before ++ w.here ∷ []) 0 nothing
    (each_front (λ line. words line ≡ []) (w.before ++ w.here ∷ []) w.behind
    (subst (AllByRecursion (λ line. words line ≡ []))
    (w.cut ∙ sym (append_assoc w.before (w.here ∷ []) w.behind)) states.0)))))
later_by text other fault (Err first) is h w same =
    let equal : first ≡ fault = cc in
    let s = stops_at (lines text) 0 nothing first is in
    let what = sym equal ∙ stop_is (lines text) 0 nothing first is s in
    let count : fault.line ≡ length s.before + 1 = line_is fault _ what ∙ number (length s.before) in
    let cut = same_front s.before s.here s.behind (lines other)
    (ap (λ n. take n (lines other)) (sym count) ∙ same ∙ ap (λ n. take n (lines text)) count
    ∙ ap (λ x. take (length s.before + 1) x) s.cut) in
    fault_at other fault.line s.cause s.before (drop (length s.before + 1) (lines other)) s.here s.draft cut count
    s.taken s.refused
    ∙ ap (λ c. Err (record { line = fault.line; cause = c })) (sym (ap (λ x. x.cause) what))

pub later_lines : LaterLinesChangeNothing
later_lines text other fault h w same =
    later_by text other fault (lines_after (lines text) 0 nothing) refl h w same

-- ---- the end of a text

ends_by : (text : List ℕ) (d : Draft) (b : Bool) → d.begun ≡ b → lines_after (lines text) 0 nothing ≡ Ok d
    → ((s : Scenario) → Denotes text s → ⊥) → StatesNothing text
ends_by text d true is taken none =
    absurd (none (closed_scenario d) (so_denotes text (closed_scenario d) (ap whole_of taken ∙ whole_begun d is)))
ends_by text d false is taken none = are_blank (lines text) 0 nothing d taken is

pub nothing_else_ends : NothingElseEndsWrong
nothing_else_ends text can none =
    let so = taken_so (lines text) can in ends_by text so.0 so.0.begun refl so.1 none
