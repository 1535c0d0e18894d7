use Rattle.std.proofs.Common.{◌≡◌, ◌≤◌, ◌++◌, ◌∷◌, [], length, ap, ◌∙◌, arith, vec_capacity}
use Rattle.entry_pages.proofs.Paging.{pages_there, held_there, room_there}
use Rattle.entry_pages.proofs.pages.Pages.push.Goals as goal

past : (c : goal.After-push_reserved-3) → 256 ≤ length c.self.inside.last.items
past c = omega (arith, c.if-len-lt-PAGE.false, c.len.ensures, c.self.inside.last.ok.0)

items : (c : goal.After-push_reserved-3)
    → c.replace-full.new.dest.items ≡ c.take_last-page.result.items ++ c.args.entry ∷ []
items c = ap (λ v. v.items) c.replace-full.ensures.after ∙ c.push_reserved-2.ensures.items

more : (c : goal.After-push_reserved-3)
    → c.push_reserved-3.new.self.items ≡ c.self.inside.full.items ++ c.self.inside.last ∷ []
more c =
    c.push_reserved-3.ensures.items ∙ ap (λ v. c.self.inside.full.items ++ v ∷ []) c.replace-full.ensures.value

pub invariant_of-self-2 : goal.invariant_of-self-2
invariant_of-self-2 c = (
  pages_there c.self.inside.full.items c.self.inside.spare.items c.take_last-page.new.self.items
      (vec_capacity c.self.inside.full) c.self.inside.last c.take_last-page.result c.replace-full.new.dest c.args.entry
      c.self.invariant.0 (past c) c.take_last-page.ensures.items (items c) c.push_reserved-3.new.self.items
      (vec_capacity c.push_reserved-3.new.self)
      (ap vec_capacity c.replace-full.ensures.after ∙ c.push_reserved-2.ensures.capacity) (more c)
      c.push_reserved-3.ensures.capacity,
  c.self.invariant.1,
)

pub returns-clause-held : goal.returns-clause-held
returns-clause-held c =
    held_there c.self.inside.full.items c.self.inside.spare.items c.take_last-page.new.self.items
    (vec_capacity c.self.inside.full) c.self.inside.last c.take_last-page.result c.replace-full.new.dest c.args.entry
    c.self.invariant.0 (past c) c.take_last-page.ensures.items (items c) c.args.self.now
    c.push_reserved-3.new.self.items c.self.view_is (more c)

pub returns-clause-room : goal.returns-clause-room
returns-clause-room c =
    room_there c.self.inside.full.items c.self.inside.spare.items c.take_last-page.new.self.items
    (vec_capacity c.self.inside.full) c.self.inside.last c.take_last-page.result c.replace-full.new.dest c.args.entry
    c.self.invariant.0 (past c) c.take_last-page.ensures.items (items c) c.args.self.now c.self.view_is
