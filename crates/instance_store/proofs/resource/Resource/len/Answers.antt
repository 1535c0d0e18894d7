use Rattle.std.proofs.Common.{◌≡◌, ◌+◌, length, sym, ap, ◌∙◌, arith}
use Rattle.std.specs.FinMap as fin_map
use Rattle.instance_store.specs.Tree.{single_entries}
use Rattle.instance_store.proofs.TreeLaws.{len-resource}
use Rattle.instance_store.proofs.resource.Resource.len.Goals as goal

with_single : (c : goal.After-len) → fin_map.len c.args.self.now ≡ 1 + fin_map.len c.self.inside.parts
with_single c =
    ap (λ m. fin_map.len m) (sym c.self.view_is)
    ∙ len-resource c.self.inside.single c.self.inside.parts
    ∙ ap (λ s. length (single_entries s) + fin_map.len c.self.inside.parts) c.in-Some.is

pub overflow_add-result : goal.overflow_add-result
overflow_add-result c = omega (arith, c.len.ensures, with_single c, c.requires)

pub returns-in-Some : goal.returns-in-Some
returns-in-Some c = omega (arith, c.len.ensures, with_single c)

without_single : (c : goal.After-len-in-None) → fin_map.len c.args.self.now ≡ 0 + fin_map.len c.self.inside.parts
without_single c =
    ap (λ m. fin_map.len m) (sym c.self.view_is)
    ∙ len-resource c.self.inside.single c.self.inside.parts
    ∙ ap (λ s. length (single_entries s) + fin_map.len c.self.inside.parts) c.in-None.is

pub returns-in-None : goal.returns-in-None
returns-in-None c = omega (arith, c.len-in-None.ensures, without_single c)
