use Rattle.std.proofs.Common.{◌+◌, ◌<◌, length, sym, subst, ◌∙◌, arith}
use Rattle.std.proofs.lemmas.Bool.{cases_eq}
use Rattle.std.proofs.lemmas.List.{length-set, get_or_read}
use Rattle.shared_trace.specs.Kept.{IsPosted}
use Rattle.shared_trace.proofs.Counting.{within_at, room_at, sum_at}
use Rattle.shared_trace.proofs.Rostering.{post_roster}
use Rattle.shared_trace.proofs.tables.add_posts.Goals as goal

pub overflow_add-count : goal.overflow_add-count
overflow_add-count c =
    let h = room_at c.args.posts.now.items c.loop-group.posts.items c.args.groups.now c.loop-group.group-index
    c.from.result c.index_mut-count.result.now
    c.requires.within c.requires.room c.loop-group.invariant.0 c.loop-group.invariant.1 c.loop-group-test.true
    c.from.ensures c.index_mut-count.ensures.value in
    omega (arith, h)

pub loop-group-preserved : goal.loop-group-preserved
loop-group-preserved c =
    let within : c.from.result < length c.loop-group.posts.items =
    omega (
      arith,
      c.from.ensures,
      within_at (length c.args.posts.now.items) c.args.groups.now c.loop-group.group-index c.requires.within
          c.loop-group-test.true,
      c.loop-group.invariant.0,
    ) in (
      length-set c.loop-group.posts.items c.from.result (c.index_mut-count.result.now + 1) ∙ c.loop-group.invariant.0,
      λ g. sum_at c.args.posts.now.items c.loop-group.posts.items c.args.groups.now c.loop-group.group-index
          c.from.result c.index_mut-count.result.now g within c.loop-group.invariant.1 c.loop-group-test.true
          c.from.ensures c.index_mut-count.ensures.value (cases_eq c.from.result g),
      omega (arith, c.post.ensures.groups, c.loop-group.invariant.2),
      λ stations r. post_roster c.loop-group.posts.items c.loop-group.roster c.post.new.self c.from.result
          (c.index_mut-count.result.now + 1) within
          (omega (
            arith,
            get_or_read c.loop-group.posts.items c.from.result c.index_mut-count.result.now within
                c.index_mut-count.ensures.value 0,
          ))
          (omega (arith, c.loop-group.invariant.2, c.loop-group.invariant.0))
          (subst (λ g. IsPosted c.loop-group.roster c.post.new.self g (c.index_mut-count.result.now + 1))
          (sym c.from.ensures) c.post.ensures)
          stations (c.loop-group.invariant.3 stations r),
    )
