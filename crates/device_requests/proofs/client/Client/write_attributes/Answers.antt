-- Where the changes take memory there are some, so the first query spells one.
use Rattle.std.proofs.Common.{◌≡◌, Some, sym, ap, ◌∙◌}
use Rattle.device_requests.specs.Options.{queries_of}
use Rattle.device_requests.specs.WriteAttributes.{changes_given, level_at}
use Rattle.device_requests.proofs.Growing.{of_error}
use Rattle.device_requests.proofs.Queries.{first_begins}
use Rattle.device_requests.proofs.client.Client.write_attributes.Goals as goal

pub returns-clause-begins : goal.returns-clause-begins
returns-clause-begins c =
    let catalog = c.args.self.now.catalog in
    let queries = queries_of c.args.options.now in
    let given : changes_given catalog c.args.path queries ≡ Some c.in-Some.changes =
    ap (λ m. changes_given m.catalog c.args.path queries) (sym c.self.view_is)
    ∙ sym c.in_ok-changes.ensures.read
    ∙ c.in-Some.is in
    of_error c.annotate.result _ _
    (λ some. first_begins (level_at catalog c.args.path) queries c.in-Some.changes given
    (λ none. some (c.as_slice.ensures ∙ none)))
    c.annotate.ensures.only_with_changes
