use Rattle.std.proofs.Common.{◌≡◌, ◌+◌, ◌++◌, take, slice_set, sym, ap, subst, arith, ◌∙◌}
use Rattle.std.specs.String.{string_bytes}
use Rattle.trace_reasons.specs.Beside.{AreBeside}
use Rattle.trace_reasons.specs.Objects.{IsEntryLine}
use Rattle.trace_reasons.specs.Text.{AreSelectedSaid}
use Rattle.trace_reasons.proofs.Following.{IsNext, beside_next, beside_other, has_row, has_step, next_at, none_made}
use Rattle.trace_reasons.proofs.Following.{shows_here}
use Rattle.trace_reasons.proofs.Selecting.{text_next, text_past}
use Rattle.trace_reasons.proofs.objects.lines_of.Goals as goal
use Rattle.trace_reasons.proofs.objects.lines_of.Goals.{then-is_wanted+in_ok-line+in_ok-push_str, else-is_wanted}

pub loop-number-init : goal.loop-number-init
loop-number-init c = record {
  scenario = c.in_ok-lines.ensures;
  so_far = c.new-out.ensures.bytes;
  beside = none_made c.args.scenario.now c.args.selection.device c.in_ok-devices.devices.items
      c.in_ok-devices.ensures.count c.in_ok-devices.ensures.started;
}

pub index_mut-device-requires : goal.index_mut-device-requires
index_mut-device-requires c =
    let next = next_at c.args.scenario.now c.args.selection.device c.args.entries.now c.loop-number.number
    c.index-entries-number.result c.loop-number.devices.items c.requires c.loop-number-test.true
    c.index-entries-number.is c.loop-number.invariant.beside in
    let below = has_row c.args.scenario.now c.args.selection.device c.args.entries.now c.loop-number.number
    c.index-entries-number.result c.loop-number.devices.items next in
    omega (arith, below, c.from.ensures)

pub pass_line-requires-clause-stands : goal.pass_line-requires-clause-stands
pass_line-requires-clause-stands c =
    has_step c.args.scenario.now c.args.selection.device c.args.entries.now c.loop-number.number
    c.index-entries-number.result c.loop-number.devices.items
    (next_at c.args.scenario.now c.args.selection.device c.args.entries.now c.loop-number.number
    c.index-entries-number.result c.loop-number.devices.items c.requires c.loop-number-test.true
    c.index-entries-number.is c.loop-number.invariant.beside)

pub pass_line-requires-clause-shows : goal.pass_line-requires-clause-shows
pass_line-requires-clause-shows c =
    shows_here c.args.scenario.now c.args.selection.device c.args.entries.now c.loop-number.number
    c.index-entries-number.result c.loop-number.devices.items c.from.result c.index_mut-device.result.now
    (next_at c.args.scenario.now c.args.selection.device c.args.entries.now c.loop-number.number
    c.index-entries-number.result c.loop-number.devices.items c.requires c.loop-number-test.true
    c.index-entries-number.is c.loop-number.invariant.beside)
    (sym c.is_wanted.ensures ∙ c.if-is_wanted.true) c.from.ensures c.index_mut-device.ensures.value

pub loop-number-preserved : goal.loop-number-preserved
loop-number-preserved c =
    let s = c.args.scenario.now in
    let sel = c.args.selection in
    let es = c.args.entries.now in
    let i = c.loop-number.number in
    let e = c.index-entries-number.result in
    let text = string_bytes c.loop-number.out in
    let next : IsNext s sel.device es i e c.loop-number.devices.items =
    next_at s sel.device es i e c.loop-number.devices.items c.requires c.loop-number-test.true
    c.index-entries-number.is c.loop-number.invariant.beside in
    elim c.if-is_wanted.branch [
      | then-is_wanted+in_ok-line+in_ok-push_str w ↦
          let lines : c.if-is_wanted.lines ≡ w.pass_line.new.lines = w.lines-is in
          let devices : c.if-is_wanted.devices.items
          ≡ slice_set c.loop-number.devices.items w.from.result w.pass_line.new.device =
          ap (λ v. v.items) w.devices-is in
          let out : string_bytes c.if-is_wanted.out ≡ string_bytes w.push_str.new.self =
          ap (λ t. string_bytes t) w.out-is in
          let first = string_bytes w.in_ok-line.line in
          let more : string_bytes c.if-is_wanted.out ≡ text ++ first =
          out ∙ w.in_ok-push_str.ensures.bytes ∙ ap (λ t. text ++ t) w.as_str.ensures.value in
          record {
            scenario = lines ∙ w.in_ok-line.ensures.same ∙ c.loop-number.invariant.scenario;
            so_far = subst (AreSelectedSaid (IsEntryLine s) sel (take (i + 1) es)) (sym more)
                (text_next (IsEntryLine s) sel es i e text first w.is_between-is_shown.result next.at
                (sym c.is_wanted.ensures ∙ w.if-is_wanted.true) w.is_between-is_shown.ensures
                w.in_ok-line.ensures.shown w.in_ok-line.ensures.hidden c.loop-number.invariant.so_far);
            beside = subst (AreBeside s sel.device (take (i + 1) es)) (sym devices)
                (beside_next s sel.device es i e c.loop-number.devices.items w.from.result w.pass_line.new.device next
                w.from.ensures w.in_ok-line.ensures.shows);
          }
      | else-is_wanted w ↦
          let other = sym c.is_wanted.ensures ∙ w.if-is_wanted.false in
          record {
            scenario = w.lines-is ∙ c.loop-number.invariant.scenario;
            so_far = subst (AreSelectedSaid (IsEntryLine s) sel (take (i + 1) es))
                (sym (ap (λ t. string_bytes t) w.out-is))
                (text_past (IsEntryLine s) sel es i e text next.at other c.loop-number.invariant.so_far);
            beside = subst (AreBeside s sel.device (take (i + 1) es)) (sym (ap (λ v. v.items) w.devices-is))
                (beside_other s sel.device es i e c.loop-number.devices.items next other);
          }
    ]
