use Rattle.std.proofs.Common.{ap, refl, sym, ◌∙◌, length, arith}
use Rattle.shared_trace.proofs.Stations.{shared_is}
use Rattle.shared_trace.proofs.Handing.{IsHanded, handed, table_is, out_trace, out_ended, out_view, out_adds}
use Rattle.shared_trace.proofs.Handing.{out_stands}
use Rattle.shared_trace.proofs.Handing.{fresh_job, parked_now, shows_now}
use Rattle.shared_trace.proofs.Rostering.{out_roster}
use Rattle.shared_trace.proofs.trace.Trace.hand_out.Goals as goal

hand : (c : goal.After-as_slice)
    → IsHanded c.self.inside.subject.value c.self.inside.entries.held c.self.inside.stations.items
    c.self.inside.posts.items c.args.device c.index_mut-station.result.now c.requires.ready.held
hand c =
    handed c.args.self.now c.self.inside.subject.value c.self.inside.entries.held c.self.inside.stations.items
    c.self.inside.posts.items c.self.inside.stops
    c.args.device c.from.result c.index_mut-station.result.now c.self.view_is c.self.invariant.0 c.requires.ready
    c.from.ensures c.index_mut-station.ensures.value

pub copy_from_slice-requires : goal.copy_from_slice-requires
copy_from_slice-requires c =
    let t = table_is c.self.inside.subject.value c.self.inside.entries.held c.self.inside.stations.items
    c.self.inside.posts.items c.args.device c.index_mut-station.result.now
    c.requires.ready.held (hand c) in
    omega (
      arith,
      c.hand_out-held.result.1.ok.0,
      ap length c.hand_out-held.ensures.table,
      t,
      ap length c.as_slice.ensures.value,
    )

then : (c : goal.After-new)
    → IsHanded c.self.inside.subject.value c.self.inside.entries.held c.self.inside.stations.items
    c.self.inside.posts.items c.args.device c.index_mut-station.result.now c.requires.ready.held
then c =
    handed c.args.self.now c.self.inside.subject.value c.self.inside.entries.held c.self.inside.stations.items
    c.self.inside.posts.items c.self.inside.stops
    c.args.device c.from.result c.index_mut-station.result.now c.self.view_is c.self.invariant.0 c.requires.ready
    c.from.ensures c.index_mut-station.ensures.value

pub invariant_of-self : goal.invariant_of-self
invariant_of-self c = (
  out_trace c.self.inside.subject.value c.self.inside.entries.held c.self.inside.stations.items
      c.self.inside.posts.items c.args.device c.args.worker c.from.result
      c.index_mut-station.result.now c.hand_out-held.new.self c.requires.ready.held
      (then c) c.from.ensures c.hand_out-held.ensures.place
      c.hand_out-held.ensures.kept.0 c.hand_out-held.ensures.kept.1,
  out_ended c.self.inside.subject.value c.self.inside.entries.held c.self.inside.stations.items
      c.self.inside.posts.items c.self.inside.low c.args.device c.from.result
      c.index_mut-station.result.now c.hand_out-held.new.self c.requires.ready.held
      (then c) c.from.ensures c.self.invariant.1,
  out_roster c.self.inside.posts.items c.self.inside.stations.items c.from.result c.hand_out-held.new.self
      c.self.inside.roster (record c.self.inside.roster { candidates = c.take.new.self }) c.args.worker
      c.self.invariant.2 c.hand_out-held.ensures.place refl
      (λ e other. c.take.ensures.others e (λ same. other (same ∙ sym c.from.ensures))),
)

pub invariant_of-result : goal.invariant_of-result
invariant_of-result c =
    fresh_job c.args.self.now c.of-claimed.result.value c.self.inside.subject.value c.self.inside.entries.held
    c.args.list.items c.self.inside.stations.items c.self.inside.posts.items
    c.copy_from_slice.new.self.items c.new.result.items c.self.inside.stops c.args.device c.args.worker
    c.index_mut-station.result.now c.requires.ready.held c.hand_out-held.result.0
    c.self.view_is c.of-claimed.ensures (then c) c.hand_out-held.ensures.device
    (c.copy_from_slice.ensures.items ∙ c.as_slice.ensures.value) c.new.ensures.items c.requires.empty

pub returns-clause-taken : goal.returns-clause-taken
returns-clause-taken c = record {
  parked = parked_now c.args.self.now c.self.inside.subject.value c.self.inside.entries.held
      c.self.inside.stations.items c.self.inside.posts.items c.self.inside.stops
      c.args.device c.index_mut-station.result.now c.requires.ready.held c.hand_out-held.result.0 c.self.view_is
      (then c) c.hand_out-held.ensures.device;
  enabled = c.requires.ready.enabled;
  subject = ap (λ t. t.subject) c.of-claimed.ensures;
  worker = refl;
  front = ap (λ t. t.entries) c.of-claimed.ensures;
  entries = c.requires.empty;
  ready = refl;
  shows = shows_now c.args.self.now c.self.inside.subject.value c.self.inside.entries.held c.self.inside.stations.items
      c.self.inside.posts.items c.self.inside.stops
      c.args.device c.index_mut-station.result.now c.requires.ready.held c.hand_out-held.result.0 c.self.view_is
      (then c) c.hand_out-held.ensures.device;
  left = out_view c.args.self.now c.self.inside.subject.value c.self.inside.entries.held c.self.inside.stations.items
      c.self.inside.stops
      c.args.device c.args.worker c.from.result c.hand_out-held.new.self c.self.view_is c.from.ensures
      c.hand_out-held.ensures.place;
}

pub returns-clause-shared : goal.returns-clause-shared
returns-clause-shared c = shared_is _ _ _ _ _ (invariant_of-self c).0

pub returns-clause-adds : goal.returns-clause-adds
returns-clause-adds c =
    out_adds c.args.self.now _ c.args.device c.args.worker c.requires.ready.held c.requires.ready.parked
    (out_view c.args.self.now c.self.inside.subject.value c.self.inside.entries.held c.self.inside.stations.items
    c.self.inside.stops
    c.args.device c.args.worker c.from.result c.hand_out-held.new.self c.self.view_is c.from.ensures
    c.hand_out-held.ensures.place)

pub returns-clause-stands : goal.returns-clause-stands
returns-clause-stands c =
    out_stands c.args.self.now _ c.of-claimed.result.value c.args.device c.args.worker c.requires.ready.held
    c.requires.ready.parked
    (out_view c.args.self.now c.self.inside.subject.value c.self.inside.entries.held c.self.inside.stations.items
    c.self.inside.stops
    c.args.device c.args.worker c.from.result c.hand_out-held.new.self c.self.view_is c.from.ensures
    c.hand_out-held.ensures.place) c.of-claimed.ensures
