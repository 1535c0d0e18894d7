use Rattle.std.proofs.Common.{refl, Some, rules, ap, subst, sym, slice_get, ◌∙◌, arith}
use Rattle.fleet_link.specs.Playing.{changes_of}
use Rattle.fleet_link.specs.Serving.{IsServing}
use Rattle.fleet_link.specs.declared.row.PlayedRow.{PlayedRow}
use Rattle.fleet_link.specs.Playing.{IsAdvanced}
use Rattle.fleet_link.proofs.Advanced.{advanced_changes}
use Rattle.fleet_link.proofs.Stepped.{advanced_on_time, due_goes_on, due_timely, goes_on_same, on_time_after, step_changed, step_is_change, step_passed}
use Rattle.fleet_link.proofs.slot.Slot.make_step.Goals as goal

pub returns-in_default-clause-served : goal.returns-in_default-clause-served
returns-in_default-clause-served g c =
    λ f before pending h time.
    step_passed f before pending c.args.self.now.row c.advance.new.self c.args.self.now.device c.args.self.now.second
    c.args.self.now.recording (g.P.Ports.told c.args.ports.now c.args.place) c.in_ok-event.field-0 c.in_default.is
    c.requires.within c.in_ok-event.ensures
    (λ step at. advanced_changes step c.args.self.now.row c.advance.new.self (c.advance.ensures step at)) h

pub returns-in_default-clause-on_time : goal.returns-in_default-clause-on_time
returns-in_default-clause-on_time g c =
    λ time. advanced_on_time c.args.self.now.row c.advance.new.self c.advance.ensures c.args.self.now.second c.args.due
    c.requires.due time

pub returns-in_err-change-clause-refused : goal.returns-in_err-change-clause-refused
returns-in_err-change-clause-refused g c =
    let end = c.in_err-change.field-0.0 in
    let row = c.args.self.now.row in
    let is = step_is_change row c.in_ok-event.field-0 c.in-Some.event c.requires.within c.in-Some.is
    c.in_ok-event.ensures in
    λ f before pending h time.
    let refused : IsServing f before pending (changes_of c.change.new.self.row) (Some end) c.change.new.self.device
    c.change.new.self.second c.change.new.self.recording (g.P.Ports.told c.change.new.ports c.args.place) =
    subst (λ r. IsServing f before pending (changes_of r) (Some end) c.change.new.self.device
    c.change.new.self.second c.change.new.self.recording (g.P.Ports.told c.change.new.ports c.args.place))
    (sym c.change.ensures.row) (c.in_err-change.ensures.refused f before pending (changes_of row) is h) in
    search (rules, refused)

pub returns-clause-served : goal.returns-clause-served
returns-clause-served g c =
    let row = c.args.self.now.row in
    let is = step_is_change row c.in_ok-event.field-0 c.in-Some.event c.requires.within c.in-Some.is
    c.in_ok-event.ensures in
    λ f before pending h time.
    step_changed f before pending row c.change.new.self.row c.advance-2.new.self c.change.new.self.device
    c.args.self.now.second c.change.new.self.second c.args.due c.change.new.self.recording
    (g.P.Ports.told c.change.new.ports c.args.place) c.in_ok-event.field-0 c.in-Some.event c.in-Some.is
    c.requires.within c.requires.due time c.change.ensures.row c.in_ok-event.ensures
    (λ step at. advanced_changes step c.change.new.self.row c.advance-2.new.self (c.advance-2.ensures step at))
    (c.in_ok-change.ensures.served f before pending (changes_of row) is h
    (due_timely row c.args.self.now.second c.args.due c.requires.due time))

pub returns-clause-on_time : goal.returns-clause-on_time
returns-clause-on_time g c =
    λ time. on_time_after c.args.self.now.row c.change.new.self.row c.advance-2.new.self c.args.self.now.second
    c.change.new.self.second c.args.due c.requires.due time c.change.ensures.row
    (c.in_ok-change.ensures.second
    (due_timely c.args.self.now.row c.args.self.now.second c.args.due c.requires.due time))
    (advanced_on_time c.change.new.self.row c.advance-2.new.self c.advance-2.ensures)

pub returns-in_err-event-clause-goes_on : goal.returns-in_err-event-clause-goes_on
returns-in_err-event-clause-goes_on g c = goes_on_same c.args.due c.args.self.now.row c.args.self.now.row refl

pub returns-in_default-clause-goes_on : goal.returns-in_default-clause-goes_on
returns-in_default-clause-goes_on g c =
    due_goes_on c.args.due c.args.self.now.row c.args.self.now.row c.advance.new.self c.args.due c.requires.due
    (omega arith) refl c.advance.ensures

pub returns-in_err-change-clause-goes_on : goal.returns-in_err-change-clause-goes_on
returns-in_err-change-clause-goes_on g c =
    goes_on_same c.args.due c.args.self.now.row c.change.new.self.row c.change.ensures.row

pub returns-clause-goes_on : goal.returns-clause-goes_on
returns-clause-goes_on g c =
    due_goes_on c.args.due c.args.self.now.row c.change.new.self.row c.advance-2.new.self c.args.due c.requires.due
    (omega arith) c.change.ensures.row c.advance-2.ensures

pub returns-clause-next : goal.returns-clause-next
returns-clause-next g c =
    let same = c.change.ensures.row in
    λ step at.
    subst (λ r. IsAdvanced step r c.advance-2.new.self) same
    (c.advance-2.ensures step (ap (λ (r : PlayedRow). slice_get r.steps.items r.place) same ∙ at))
