use Rattle.std.proofs.Common.{◌≡◌, ◌+◌, [], ◌∷◌, ◌++◌, ◌∙◌, ap, drop, subst, arith}
use Rattle.std.specs.List.{AllByRecursion}
use Rattle.std.proofs.lemmas.Grind.{common_steps}
use Rattle.trace_json.specs.Entries.{selected_json, trace_json}
use Rattle.trace_json.specs.Lines.{json_lines}
use Rattle.trace_json.specs.Writing.{IsReadAgain}
use Rattle.trace_json.proofs.Gathered.{again_grows, text_grows}
use Rattle.trace_json.proofs.trace.put_trace.Goals as goal

pub loop-number-preserved : goal.loop-number-preserved
loop-number-preserved c =
    let sel = c.args.selection in
    let n = c.loop-number.number in
    let e = c.index-entries-number.result in
    let same = c.loop-number.invariant.scenario in
    let rest : drop n c.args.entries.now ≡ e ∷ drop (n + 1) c.args.entries.now = grind (arith, common_steps) in
    record {
      scenario = c.in_ok-out-2.ensures.same ∙ same;
      so_far = text_grows _ _ _ _ _ _ _ _ _ rest
          (c.in_ok-out-2.ensures.text
          ∙ ap (λ s. c.loop-number.out.items ++ json_lines (selected_json s sel n (e ∷ []))) same)
          c.loop-number.invariant.so_far;
      utf8 = c.in_ok-out-2.ensures.utf8;
      read_again = again_grows _ _ _ _ _ _ (trace_json c.args.scenario.now sel c.args.entries.now) rest
          (subst (λ s. AllByRecursion IsReadAgain (selected_json s sel n (e ∷ []))) same
          c.in_ok-out-2.ensures.read_again)
          c.loop-number.invariant.read_again;
    }
