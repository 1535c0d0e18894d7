use Rattle.std.proofs.Common.{◌≡◌, None, OnOk, sym, ap, subst, ◌∙◌}
use Rattle.lwm2m_payloads.specs.Changes.{instance_written}
use Rattle.lwm2m_payloads.specs.declared.given.Mode.TheVariants.{Replace}
use Rattle.instance_store.specs.Stored.{Stored, has_instance, with_instance}
use Rattle.device_instances.specs.Creations.{is_full}
use Rattle.device_instances.proofs.Controls.{control_free, control_full, control_by, control_made}
use Rattle.device_instances.proofs.Controls.{number_free, number_fits}
use Rattle.device_instances.proofs.Counting.{counts_alike, room_for}
use Rattle.device_instances.proofs.creation.make.Goals as goal

-- no instance of Access Control is added

pub add_given-requires : goal.add_given-requires
add_given-requires c =
    let room = room_for c.args.store.now c.args.accounts c.args.resources.now c.args.place c.args.given c.requires.room
    in
    record { free = c.requires.free; room = room.free; few = room.few }

pub returns-in_default : goal.returns-in_default
returns-in_default c =
    subst (λ (s : Stored). OnOk c.add_given.result (c.add_given.new.store
    ≡ instance_written Replace c.args.resources.now (with_instance s c.args.place) c.args.place c.args.given))
    (sym (control_by c.args.store.now c.args.accounts c.args.server c.args.place None
    (sym c.control_number.ensures ∙ c.in_default.is)))
    c.add_given.ensures

-- one is added first

pub add_control-requires-clause-free : goal.add_control-requires-clause-free
add_control-requires-clause-free c =
    number_free c.args.store.now c.args.accounts c.in-Some.instance (sym c.control_number.ensures ∙ c.in-Some.is)

pub add_control-requires-clause-room : goal.add_control-requires-clause-room
add_control-requires-clause-room c =
    let room = room_for c.args.store.now c.args.accounts c.args.resources.now c.args.place c.args.given c.requires.room
    in
    number_fits c.args.store.now c.args.accounts c.in-Some.instance room.controls
    (sym c.control_number.ensures ∙ c.in-Some.is)

pub add_given-requires-2-clause-free : goal.add_given-requires-2-clause-free
add_given-requires-2-clause-free c =
    ap (λ s. has_instance s c.args.place) (control_made c.args.store.now c.add_control.new.store c.args.accounts
    c.args.server c.args.place c.control_number.result c.in-Some.instance c.control_number.ensures c.in-Some.is
    c.in_ok-add_control.ensures)
    ∙ control_free c.args.store.now c.args.accounts c.args.server c.args.place c.requires.other ∙ c.requires.free

pub add_given-requires-2-clause-room : goal.add_given-requires-2-clause-room
add_given-requires-2-clause-room c =
    let room = room_for c.args.store.now c.args.accounts c.args.resources.now c.args.place c.args.given c.requires.room
    in
    ap (λ s. is_full s c.args.place.object) (control_made c.args.store.now c.add_control.new.store c.args.accounts
    c.args.server c.args.place c.control_number.result c.in-Some.instance c.control_number.ensures c.in-Some.is
    c.in_ok-add_control.ensures)
    ∙ control_full c.args.store.now c.args.accounts c.args.server c.args.place c.requires.other
    ∙ room.free

pub add_given-requires-2-clause-few : goal.add_given-requires-2-clause-few
add_given-requires-2-clause-few c =
    let room = room_for c.args.store.now c.args.accounts c.args.resources.now c.args.place c.args.given c.requires.room
    in
    counts_alike c.args.resources.now c.add_control.new.store c.args.store.now c.args.place c.args.given ∙ room.few

pub returns : goal.returns
returns c =
    subst (λ (s : Stored). OnOk c.add_given-2.result (c.add_given-2.new.store
    ≡ instance_written Replace c.args.resources.now (with_instance s c.args.place) c.args.place c.args.given))
    (control_made c.args.store.now c.add_control.new.store c.args.accounts
    c.args.server c.args.place c.control_number.result c.in-Some.instance c.control_number.ensures c.in-Some.is
    c.in_ok-add_control.ensures)
    c.add_given-2.ensures
