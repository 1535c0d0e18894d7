use Rattle.std.proofs.Common.{◌≡◌, ◌++◌, true, false, refl, ap, ◌∙◌}
use Rattle.std.proofs.lemmas.Result.{err_from_is_err_and}
use Rattle.trace_file.specs.Layout.{trace_file}
use Rattle.trace_file.proofs.Good.{file_good, list_good}
use Rattle.trace_file.proofs.writing.write_entries.Goals as goal

pub returns-then-not-entries_have_bytes-clause-refused : goal.returns-then-not-entries_have_bytes-clause-refused
returns-then-not-entries_have_bytes-clause-refused c = (
  λ e bytes h. absurd (let k : false ≡ true =
      c.if-not-entries_have_bytes.ensures.1 (list_good c.args.entries.now h.0) in cc),
  λ none. refl,
)

pub returns-in_err-put_trace_file-clause-refused : goal.returns-in_err-put_trace_file-clause-refused
returns-in_err-put_trace_file-clause-refused c =
    let es = c.args.entries.now in
    let p = err_from_is_err_and c.from_residual.result c.from_residual.ensures.1 in
    rw (p.1, p.2) (
      λ e. absurd cc,
      λ none. absurd (none (trace_file.spell es) (file_good es (c.if-not-entries_have_bytes.ensures.0 refl), refl)),
    )

pub returns-clause-written : goal.returns-clause-written
returns-clause-written c =
    let es = c.args.entries.now in (
      file_good es (c.if-not-entries_have_bytes.ensures.0 refl),
      c.from_vec.ensures ∙ c.in_ok-put_trace_file.ensures
          ∙ ap (λ front. front ++ trace_file.spell es) c.new-out.ensures.items,
    )
