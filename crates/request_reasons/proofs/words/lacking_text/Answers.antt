use Rattle.request_reasons.proofs.words.lacking_text.Goals as goal

pub returns : goal.returns
returns c = simp (
  c.in_ok-resource.ensures,
  c.ops_text-has.ensures,
  c.needed_text-needs.ensures,
  c.resource_path.ensures,
) at c.format.ensures.ok
