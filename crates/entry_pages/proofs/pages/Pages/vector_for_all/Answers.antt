use Rattle.std.proofs.Common.{◌≡◌, ◌+◌, ◌≤◌, min, length, ap, subst, ◌∙◌, vec_capacity}
use Rattle.std.proofs.lemmas.Result.{IfOk-weaker}
use Rattle.entry_pages.proofs.Paging.{room_for_all}
use Rattle.entry_pages.proofs.pages.Pages.vector_for_all.Goals as goal

pub returns-clause-room : goal.returns-clause-room
returns-clause-room c =
    IfOk-weaker c.with_capacity.result (λ v. vec_capacity v ≡ c.saturating_add.result)
    (λ v. length c.args.self.now.held ≤ vec_capacity v)
    (λ v exact. subst (λ w. length w.held ≤ vec_capacity v) c.self.view_is
    (room_for_all c.self.inside.full.items c.self.inside.last c.len.result c.len-2.result (vec_capacity v)
    c.self.invariant.0.before (c.len.ensures ∙ c.self.inside.full.ok.0) (c.len-2.ensures ∙ c.self.inside.last.ok.0)
    (exact ∙ (c.saturating_add.ensures
    ∙ ap (λ n. min (n + c.len-2.result) 18446744073709551615) c.saturating_mul-before.ensures)) v.small))
    c.with_capacity.ensures.exact
