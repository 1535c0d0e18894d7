use Rattle.std.proofs.Common.{ℕ, Bor, List, Option, map, option_map, refl, subst}
use Rattle.trace_text.specs.declared.selection.Selection.{Selection}
use Rattle.command_files.specs.Loading.{RunPaths}
use Rattle.command_expect.specs.Expect.{IsExpectDone, IsExpectFault}
use Rattle.command_join.specs.Join.{IsJoinDone, IsJoinFault}
use Rattle.command_lint.specs.Lint.{IsLintDone, IsLintFault}
use Rattle.command_lint.specs.declared.form.LintForm.{LintForm}
use Rattle.command_play.specs.Play.{IsPlayDone}
use Rattle.command_play.specs.declared.form.PlayForm.{PlayForm}
use Rattle.command_test.specs.Jobs.{IsTestDone, IsTestFault, IsTitlesDone}
use Rattle.test_reports.specs.declared.form.ReportForm.{ReportForm}
use Rattle.command_traces.specs.Traces.{IsShowDone}
use Rattle.command_traces.specs.declared.form.TraceForm.{TraceForm}
use Rattle.command_words.specs.Spelling.{IsSpellDone, IsSpellFault}
use Rattle.lwbench.specs.Command.{lint_form, report_form}
use Rattle.lwbench.proofs.AtOnce.{answered_at_once, no_answer, refused_at_once}
use Rattle.lwbench.proofs.jobs.answer_to.Goals as goal

pub returns-in_ok-answer-in-One : goal.returns-in_ok-answer-in-One
returns-in_ok-answer-in-One g c =
    record {
      done = answered_at_once _ _ _ _ c.in-One.is c.in_ok-answer-in-One.ensures.done;
      idle = (refl, refl, refl);
      debugged = tt;
      refused = tt;
      none_made = refl;
    }

pub returns-in_err-answer-in-One : goal.returns-in_err-answer-in-One
returns-in_err-answer-in-One g c =
    let told = c.from_residual.ensures.1 in
    record {
      done = no_answer _ _ _ told;
      idle = no_answer _ _ _ told;
      debugged = no_answer _ _ _ told;
      refused = refused_at_once _ _ _ _ _ _ _ _ _ told c.in-One.is c.in_err-answer-in-One.ensures.refused (
        refl,
        refl,
        refl,
      );
      none_made = refl;
    }

pub returns-in_ok-answer-in-Say : goal.returns-in_ok-answer-in-Say
returns-in_ok-answer-in-Say g c =
    record {
      done = answered_at_once _ _ _ _ c.in-Say.is c.in_ok-answer-in-Say.ensures.done;
      idle = (refl, refl, refl);
      debugged = tt;
      refused = tt;
      none_made = refl;
    }

pub returns-in_err-answer-in-Say : goal.returns-in_err-answer-in-Say
returns-in_err-answer-in-Say g c =
    let told = c.from_residual-in_err-answer-in-Say.ensures.1 in
    record {
      done = no_answer _ _ _ told;
      idle = no_answer _ _ _ told;
      debugged = no_answer _ _ _ told;
      refused = refused_at_once _ _ _ _ _ _ _ _ _ told c.in-Say.is c.in_err-answer-in-Say.ensures.refused (
        refl,
        refl,
        refl,
      );
      none_made = refl;
    }

pub returns-in_ok-answer-in-Spell : goal.returns-in_ok-answer-in-Spell
returns-in_ok-answer-in-Spell g c =
    let done = subst (λ (l : List (Bor (List ℕ))). IsSpellDone (map (λ w. w.now) l) c.in_ok-answer-in-Spell.answer)
    c.as_slice.ensures.value
    c.in_ok-answer-in-Spell.ensures.done in
    record {
      done = answered_at_once _ _ _ _ c.in-Spell.is done;
      idle = (refl, refl, refl);
      debugged = tt;
      refused = tt;
      none_made = refl;
    }

pub returns-in_err-answer-in-Spell : goal.returns-in_err-answer-in-Spell
returns-in_err-answer-in-Spell g c =
    let refused = subst (λ (l : List (Bor (List ℕ))). IsSpellFault (map (λ w. w.now) l)
    c.in_err-answer-in-Spell.field-0.0.fault) c.as_slice.ensures.value
    c.in_err-answer-in-Spell.ensures.refused in
    let told = c.from_residual-in_err-answer-in-Spell.ensures.1 in
    record {
      done = no_answer _ _ _ told;
      idle = no_answer _ _ _ told;
      debugged = no_answer _ _ _ told;
      refused = refused_at_once _ _ _ _ _ _ _ _ _ told c.in-Spell.is refused (refl, refl, refl);
      none_made = refl;
    }

pub returns-in_ok-answer-in-Play : goal.returns-in_ok-answer-in-Play
returns-in_ok-answer-in-Play g c =
    let part : Selection = record { device = c.in-Play.device; from = c.in-Play.from; to = c.in-Play.to } in
    let done = subst (λ (f : PlayForm). IsPlayDone (g.W.Files.holds c.args.world.now) c.in-Play.file.now f part
    c.in_ok-answer-in-Play.answer)
    c.play_form.ensures c.in_ok-answer-in-Play.ensures.done in
    record {
      done = answered_at_once _ _ _ _ c.in-Play.is done;
      idle = (refl, refl, refl);
      debugged = tt;
      refused = tt;
      none_made = refl;
    }

pub returns-in_err-answer-in-Play : goal.returns-in_err-answer-in-Play
returns-in_err-answer-in-Play g c =
    let told = c.from_residual-in_err-answer-in-Play.ensures.1 in
    record {
      done = no_answer _ _ _ told;
      idle = no_answer _ _ _ told;
      debugged = no_answer _ _ _ told;
      refused = refused_at_once _ _ _ _ _ _ _ _ _ told c.in-Play.is c.in_err-answer-in-Play.ensures.refused (
        refl,
        refl,
        refl,
      );
      none_made = refl;
    }

pub returns-in_ok-answer-in-Asm : goal.returns-in_ok-answer-in-Asm
returns-in_ok-answer-in-Asm g c =
    record {
      done = answered_at_once _ _ _ _ c.in-Asm.is c.in_ok-answer-in-Asm.ensures.done;
      idle = (refl, refl, refl);
      debugged = tt;
      refused = tt;
      none_made = refl;
    }

pub returns-in_err-answer-in-Asm : goal.returns-in_err-answer-in-Asm
returns-in_err-answer-in-Asm g c =
    let told = c.from_residual-in_err-answer-in-Asm.ensures.1 in
    record {
      done = no_answer _ _ _ told;
      idle = no_answer _ _ _ told;
      debugged = no_answer _ _ _ told;
      refused = refused_at_once _ _ _ _ _ _ _ _ _ told c.in-Asm.is c.in_err-answer-in-Asm.ensures.refused (
        refl,
        refl,
        refl,
      );
      none_made = refl;
    }

pub returns-in_ok-answer-in-Dis : goal.returns-in_ok-answer-in-Dis
returns-in_ok-answer-in-Dis g c =
    record {
      done = answered_at_once _ _ _ _ c.in-Dis.is c.in_ok-answer-in-Dis.ensures.done;
      idle = (refl, refl, refl);
      debugged = tt;
      refused = tt;
      none_made = refl;
    }

pub returns-in_err-answer-in-Dis : goal.returns-in_err-answer-in-Dis
returns-in_err-answer-in-Dis g c =
    let told = c.from_residual-in_err-answer-in-Dis.ensures.1 in
    record {
      done = no_answer _ _ _ told;
      idle = no_answer _ _ _ told;
      debugged = no_answer _ _ _ told;
      refused = refused_at_once _ _ _ _ _ _ _ _ _ told c.in-Dis.is c.in_err-answer-in-Dis.ensures.refused (
        refl,
        refl,
        refl,
      );
      none_made = refl;
    }

pub returns-in_ok-answer-in-Run : goal.returns-in_ok-answer-in-Run
returns-in_ok-answer-in-Run g c =
    record {
      done = answered_at_once _ _ _ _ c.in-Run.is c.in_ok-answer-in-Run.ensures.done;
      idle = (refl, refl, refl);
      debugged = tt;
      refused = tt;
      none_made = refl;
    }

pub returns-in_err-answer-in-Run : goal.returns-in_err-answer-in-Run
returns-in_err-answer-in-Run g c =
    let told = c.from_residual-in_err-answer-in-Run.ensures.1 in
    record {
      done = no_answer _ _ _ told;
      idle = no_answer _ _ _ told;
      debugged = no_answer _ _ _ told;
      refused = refused_at_once _ _ _ _ _ _ _ _ _ told c.in-Run.is c.in_err-answer-in-Run.ensures.refused (
        refl,
        refl,
        refl,
      );
      none_made = refl;
    }

pub returns-in_ok-answer-in-Check : goal.returns-in_ok-answer-in-Check
returns-in_ok-answer-in-Check g c =
    record {
      done = answered_at_once _ _ _ _ c.in-Check.is c.in_ok-answer-in-Check.ensures.done;
      idle = (refl, refl, refl);
      debugged = tt;
      refused = tt;
      none_made = refl;
    }

pub returns-in_err-answer-in-Check : goal.returns-in_err-answer-in-Check
returns-in_err-answer-in-Check g c =
    let told = c.from_residual-in_err-answer-in-Check.ensures.1 in
    record {
      done = no_answer _ _ _ told;
      idle = no_answer _ _ _ told;
      debugged = no_answer _ _ _ told;
      refused = refused_at_once _ _ _ _ _ _ _ _ _ told c.in-Check.is c.in_err-answer-in-Check.ensures.refused (
        refl,
        refl,
        refl,
      );
      none_made = refl;
    }

pub returns-in_ok-answer-in-Show : goal.returns-in_ok-answer-in-Show
returns-in_ok-answer-in-Show g c =
    let paths : RunPaths = record { image = c.in-Show.image.now; trace = c.in-Show.trace.now } in
    let part : Selection = record { device = c.in-Show.device; from = c.in-Show.from; to = c.in-Show.to } in
    let done = subst (λ (f : TraceForm). IsShowDone (g.W.Files.holds c.args.world.now) paths f part
    c.in_ok-answer-in-Show.answer)
    c.form_of.ensures c.in_ok-answer-in-Show.ensures.done in
    record {
      done = answered_at_once _ _ _ _ c.in-Show.is done;
      idle = (refl, refl, refl);
      debugged = tt;
      refused = tt;
      none_made = refl;
    }

pub returns-in_err-answer-in-Show : goal.returns-in_err-answer-in-Show
returns-in_err-answer-in-Show g c =
    let told = c.from_residual-in_err-answer-in-Show.ensures.1 in
    record {
      done = no_answer _ _ _ told;
      idle = no_answer _ _ _ told;
      debugged = no_answer _ _ _ told;
      refused = refused_at_once _ _ _ _ _ _ _ _ _ told c.in-Show.is c.in_err-answer-in-Show.ensures.refused (
        refl,
        refl,
        refl,
      );
      none_made = refl;
    }

pub returns-in_ok-answer-in-Pcap : goal.returns-in_ok-answer-in-Pcap
returns-in_ok-answer-in-Pcap g c =
    record {
      done = answered_at_once _ _ _ _ c.in-Pcap.is c.in_ok-answer-in-Pcap.ensures.done;
      idle = (refl, refl, refl);
      debugged = tt;
      refused = tt;
      none_made = refl;
    }

pub returns-in_err-answer-in-Pcap : goal.returns-in_err-answer-in-Pcap
returns-in_err-answer-in-Pcap g c =
    let told = c.from_residual-in_err-answer-in-Pcap.ensures.1 in
    record {
      done = no_answer _ _ _ told;
      idle = no_answer _ _ _ told;
      debugged = no_answer _ _ _ told;
      refused = refused_at_once _ _ _ _ _ _ _ _ _ told c.in-Pcap.is c.in_err-answer-in-Pcap.ensures.refused (
        refl,
        refl,
        refl,
      );
      none_made = refl;
    }

pub returns-in_ok-answer-in-Titles : goal.returns-in_ok-answer-in-Titles
returns-in_ok-answer-in-Titles g c =
    let only : Option (List ℕ) = option_map (λ w. w.now) c.in-Titles.only in
    let done = subst (λ (l : List (Bor (List ℕ))). IsTitlesDone (g.W.Files.holds c.args.world.now) (map (λ p. p.now)
    l) only c.in_ok-answer-in-Titles.answer)
    c.as_slice-in-Titles.ensures.value c.in_ok-answer-in-Titles.ensures.done in
    record {
      done = answered_at_once _ _ _ _ c.in-Titles.is done;
      idle = (refl, refl, refl);
      debugged = tt;
      refused = tt;
      none_made = refl;
    }

pub returns-in_err-answer-in-Titles : goal.returns-in_err-answer-in-Titles
returns-in_err-answer-in-Titles g c =
    let only : Option (List ℕ) = option_map (λ w. w.now) c.in-Titles.only in
    let refused = subst (λ (l : List (Bor (List ℕ))). IsTestFault (g.W.Files.holds c.args.world.now)
    (g.W.Files.fails c.args.world.now) (map (λ p. p.now) l) only c.in_err-answer-in-Titles.field-0.0.fault)
    c.as_slice-in-Titles.ensures.value c.in_err-answer-in-Titles.ensures.refused in
    let told = c.from_residual-in_err-answer-in-Titles.ensures.1 in
    record {
      done = no_answer _ _ _ told;
      idle = no_answer _ _ _ told;
      debugged = no_answer _ _ _ told;
      refused = refused_at_once _ _ _ _ _ _ _ _ _ told c.in-Titles.is refused (refl, refl, refl);
      none_made = refl;
    }

pub returns-in_ok-answer-in-Test : goal.returns-in_ok-answer-in-Test
returns-in_ok-answer-in-Test g c =
    let only : Option (List ℕ) = option_map (λ w. w.now) c.in-Test.only in
    let junit : Option (List ℕ) = option_map (λ p. p.now) c.in-Test.junit in
    let done = subst (λ (l : List (Bor (List ℕ))). IsTestDone (g.W.Files.holds c.args.world.now) (map (λ p. p.now) l)
    only (report_form c.in-Test.form)
    junit c.in_ok-answer-in-Test.answer) c.as_slice-in-Test.ensures.value
    (subst (λ (f : ReportForm). IsTestDone (g.W.Files.holds c.args.world.now) (map (λ p. p.now)
    c.as_slice-in-Test.result.now) only f
    junit c.in_ok-answer-in-Test.answer) c.report_form-form.ensures c.in_ok-answer-in-Test.ensures.done) in
    record {
      done = answered_at_once _ _ _ _ c.in-Test.is done;
      idle = (refl, refl, refl);
      debugged = tt;
      refused = tt;
      none_made = refl;
    }

pub returns-in_err-answer-in-Test : goal.returns-in_err-answer-in-Test
returns-in_err-answer-in-Test g c =
    let only : Option (List ℕ) = option_map (λ w. w.now) c.in-Test.only in
    let refused = subst (λ (l : List (Bor (List ℕ))). IsTestFault (g.W.Files.holds c.args.world.now)
    (g.W.Files.fails c.args.world.now) (map (λ p. p.now) l) only c.in_err-answer-in-Test.field-0.0.fault)
    c.as_slice-in-Test.ensures.value c.in_err-answer-in-Test.ensures.refused in
    let told = c.from_residual-in_err-answer-in-Test.ensures.1 in
    record {
      done = no_answer _ _ _ told;
      idle = no_answer _ _ _ told;
      debugged = no_answer _ _ _ told;
      refused = refused_at_once _ _ _ _ _ _ _ _ _ told c.in-Test.is refused (refl, refl, refl);
      none_made = refl;
    }

pub returns-in_ok-answer-in-Expect : goal.returns-in_ok-answer-in-Expect
returns-in_ok-answer-in-Expect g c =
    let image : List ℕ = c.in-Expect.image.now in
    let only : Option (List ℕ) = option_map (λ w. w.now) c.in-Expect.only in
    let junit : Option (List ℕ) = option_map (λ p. p.now) c.in-Expect.junit in
    let done = subst (λ (l : List (Bor (List ℕ))). IsExpectDone (g.W.Files.holds c.args.world.now) (map (λ p. p.now) l)
    image c.in-Expect.device only (report_form c.in-Expect.form)
    junit c.in_ok-answer-in-Expect.answer) c.as_slice-in-Expect.ensures.value
    (subst (λ (f : ReportForm). IsExpectDone (g.W.Files.holds c.args.world.now) (map (λ p. p.now)
    c.as_slice-in-Expect.result.now) image c.in-Expect.device only f junit c.in_ok-answer-in-Expect.answer)
    c.report_form-form-in-Expect.ensures c.in_ok-answer-in-Expect.ensures.done) in
    record {
      done = answered_at_once _ _ _ _ c.in-Expect.is done;
      idle = (refl, refl, refl);
      debugged = tt;
      refused = tt;
      none_made = refl;
    }

pub returns-in_err-answer-in-Expect : goal.returns-in_err-answer-in-Expect
returns-in_err-answer-in-Expect g c =
    let image : List ℕ = c.in-Expect.image.now in
    let only : Option (List ℕ) = option_map (λ w. w.now) c.in-Expect.only in
    let refused = subst (λ (l : List (Bor (List ℕ))). IsExpectFault (g.W.Files.holds c.args.world.now)
    (g.W.Files.fails c.args.world.now) (map (λ p. p.now) l) image c.in-Expect.device only
    c.in_err-answer-in-Expect.field-0.0.fault)
    c.as_slice-in-Expect.ensures.value c.in_err-answer-in-Expect.ensures.refused in
    let told = c.from_residual-in_err-answer-in-Expect.ensures.1 in
    record {
      done = no_answer _ _ _ told;
      idle = no_answer _ _ _ told;
      debugged = no_answer _ _ _ told;
      refused = refused_at_once _ _ _ _ _ _ _ _ _ told c.in-Expect.is refused (refl, refl, refl);
      none_made = refl;
    }

pub returns-in_ok-answer-in-Join : goal.returns-in_ok-answer-in-Join
returns-in_ok-answer-in-Join g c =
    let done = subst (λ (l : List (Bor (List ℕ))). IsJoinDone (g.W.Files.holds c.args.world.now) c.in-Join.path.now
    (map (λ p. p.now) l) c.in_ok-answer-in-Join.answer) c.as_slice-in-Join.ensures.value
    c.in_ok-answer-in-Join.ensures.done in
    record {
      done = answered_at_once _ _ _ _ c.in-Join.is done;
      idle = (refl, refl, refl);
      debugged = tt;
      refused = tt;
      none_made = refl;
    }

pub returns-in_err-answer-in-Join : goal.returns-in_err-answer-in-Join
returns-in_err-answer-in-Join g c =
    let about : Option (List ℕ) = option_map (λ p. p.now) c.in_err-answer-in-Join.field-0.0.about in
    let refused = subst (λ (l : List (Bor (List ℕ))). IsJoinFault (g.W.Files.holds c.args.world.now)
    (g.W.Files.fails c.args.world.now) (map (λ p. p.now) l) about c.in_err-answer-in-Join.field-0.0.fault)
    c.as_slice-in-Join.ensures.value c.in_err-answer-in-Join.ensures.refused in
    let told = c.from_residual-in_err-answer-in-Join.ensures.1 in
    record {
      done = no_answer _ _ _ told;
      idle = no_answer _ _ _ told;
      debugged = no_answer _ _ _ told;
      refused = refused_at_once _ _ _ _ _ _ _ _ _ told c.in-Join.is (about, refused) (refl, refl, refl);
      none_made = refl;
    }

pub returns-in_ok-answer-in-Lint : goal.returns-in_ok-answer-in-Lint
returns-in_ok-answer-in-Lint g c =
    let file : Option (List ℕ) = option_map (λ p. p.now) c.in-Lint.file in
    let formed = subst (λ (f : LintForm). IsLintDone (g.W.Files.holds c.args.world.now) file f
    (map (λ w. w.now) c.as_slice-in-Lint.result.now) (map (λ w. w.now) c.as_slice-in-Lint-2.result.now)
    c.in_ok-answer-in-Lint.answer) c.lint_form-form.ensures c.in_ok-answer-in-Lint.ensures.done in
    let named = subst (λ (l : List (Bor (List ℕ))). IsLintDone (g.W.Files.holds c.args.world.now) file
    (lint_form c.in-Lint.form) (map (λ w. w.now) l) (map (λ w. w.now) c.as_slice-in-Lint-2.result.now)
    c.in_ok-answer-in-Lint.answer) c.as_slice-in-Lint.ensures.value formed in
    let done = subst (λ (l : List (Bor (List ℕ))). IsLintDone (g.W.Files.holds c.args.world.now) file
    (lint_form c.in-Lint.form) (map (λ w. w.now) c.in-Lint.only.items) (map (λ w. w.now) l)
    c.in_ok-answer-in-Lint.answer) c.as_slice-in-Lint-2.ensures.value named in
    record {
      done = answered_at_once _ _ _ _ c.in-Lint.is done;
      idle = (refl, refl, refl);
      debugged = tt;
      refused = tt;
      none_made = refl;
    }

pub returns-in_err-answer-in-Lint : goal.returns-in_err-answer-in-Lint
returns-in_err-answer-in-Lint g c =
    let file : Option (List ℕ) = option_map (λ p. p.now) c.in-Lint.file in
    let named = subst (λ (l : List (Bor (List ℕ))). IsLintFault (g.W.Files.holds c.args.world.now)
    (g.W.Files.fails c.args.world.now) file (map (λ w. w.now) l) (map (λ w. w.now) c.as_slice-in-Lint-2.result.now)
    c.in_err-answer-in-Lint.field-0.0.fault) c.as_slice-in-Lint.ensures.value c.in_err-answer-in-Lint.ensures.refused in
    let refused = subst (λ (l : List (Bor (List ℕ))). IsLintFault (g.W.Files.holds c.args.world.now)
    (g.W.Files.fails c.args.world.now) file (map (λ w. w.now) c.in-Lint.only.items) (map (λ w. w.now) l)
    c.in_err-answer-in-Lint.field-0.0.fault) c.as_slice-in-Lint-2.ensures.value named in
    let told = c.from_residual-in_err-answer-in-Lint.ensures.1 in
    record {
      done = no_answer _ _ _ told;
      idle = no_answer _ _ _ told;
      debugged = no_answer _ _ _ told;
      refused = refused_at_once _ _ _ _ _ _ _ _ _ told c.in-Lint.is refused (refl, refl, refl);
      none_made = refl;
    }

pub returns-in-Debug : goal.returns-in-Debug
returns-in-Debug g c =
    record {
      done = rw c.in-Debug.is c.debug.ensures.done;
      idle = c.debug.ensures.idle;
      none_made = c.debug.ensures.none_made;
      debugged = rw c.in-Debug.is c.debug.ensures.conversation;
      refused = rw c.in-Debug.is c.debug.ensures.refused;
    }
