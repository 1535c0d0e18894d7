use Rattle.std.proofs.Common.{ℕ, set, ◌+◌, ◌<◌, length, refl, sym, ap, subst, ◌∙◌, arith, slice_index}
use Rattle.std.specs.Prelude.{◌==◌, count_by}
use Rattle.std.specs.List.{AllByRecursion}
use Rattle.device_stations.specs.declared.station.Place.TheVariants.{Parked}
use Rattle.shared_trace.specs.Trace.{IsShared, with_block}
use Rattle.shared_trace.proofs.Stations.{traced, shared_is}
use Rattle.shared_trace.proofs.Putting.{IsFitting, fitting, put_within, put_room, put_place, put_trace, put_view}
use Rattle.shared_trace.proofs.Putting.{put_adds, put_ended}
use Rattle.shared_trace.specs.Kept.{IsTrace}
use Rattle.device_stations.specs.Stations.{AreEnded}
use Rattle.shared_trace.proofs.Rostering.{kept_roster, put_back}
use Rattle.shared_trace.proofs.trace.Trace.put.Goals as goal

-- where there is no room for the device among those that wait
pub invariant_of-self : goal.invariant_of-self
invariant_of-self c = (
  c.self.invariant.0,
  c.self.invariant.1,
  kept_roster c.self.inside.posts.items c.self.inside.stations.items c.self.inside.roster c.make_room.new.self
      c.self.invariant.2 c.make_room.ensures.candidates c.make_room.ensures.kept,
)

pub returns-in-Err-clause-shared : goal.returns-in-Err-clause-shared
returns-in-Err-clause-shared c =
    shared_is c.self.inside.subject.value c.self.inside.entries.held c.self.inside.stations.items
    c.self.inside.posts.items c.self.inside.stops c.self.invariant.0

-- where there is none for its entries
pub invariant_of-self-in-Err-append : goal.invariant_of-self-in-Err-append
invariant_of-self-in-Err-append c = (
  subst (λ l. IsTrace c.self.inside.subject.value l c.self.inside.stations.items c.self.inside.posts.items)
      (sym c.in-Err-append.ensures.unchanged) c.self.invariant.0,
  c.self.invariant.1,
  kept_roster c.self.inside.posts.items c.self.inside.stations.items c.self.inside.roster c.make_room.new.self
      c.self.invariant.2 c.make_room.ensures.candidates c.make_room.ensures.kept,
)

pub returns-in-Err-append-clause-shared : goal.returns-in-Err-append-clause-shared
returns-in-Err-append-clause-shared c =
    subst (λ l. IsShared (traced c.self.inside.subject.value l c.self.inside.stations.items c.self.inside.stops))
    (sym c.in-Err-append.ensures.unchanged)
    (shared_is c.self.inside.subject.value c.self.inside.entries.held c.self.inside.stations.items
    c.self.inside.posts.items c.self.inside.stops c.self.invariant.0)

fits : (c : goal.After-as_slice-2)
    → IsFitting c.self.inside.subject.value c.self.inside.entries.held c.self.inside.stations.items
    c.self.inside.posts.items c.args.worker c.job.inside.device c.job.inside.claimed.value.entries
    c.job.inside.entries.items c.job.inside.held c.job.inside.known.items c.job.inside.posted.items
    c.job.inside.place c.job.inside.next
fits c =
    fitting c.args.self.now c.args.job c.self.inside.subject.value c.self.inside.entries.held
    c.self.inside.stations.items c.self.inside.posts.items c.self.inside.stops c.job.inside.claimed.value.subject
    c.job.inside.worker c.args.worker c.job.inside.device c.job.inside.claimed.value.entries
    c.job.inside.entries.items c.job.inside.held c.job.inside.spent c.job.inside.known.items
    c.job.inside.posted.items c.job.inside.place c.job.inside.next
    c.self.view_is c.job.view_is c.self.invariant.0 c.job.invariant c.requires

pub add_posts-requires-clause-within : goal.add_posts-requires-clause-within
add_posts-requires-clause-within c =
    subst (AllByRecursion (λ h. h < length c.self.inside.posts.items)) (sym c.as_slice-2.ensures.value)
    (put_within (fits c))

pub add_posts-requires-clause-room : goal.add_posts-requires-clause-room
add_posts-requires-clause-room c =
    subst (λ l. (g : ℕ) → slice_index c.self.inside.posts.items g + count_by (λ h. h == g) l < 4294967296)
    (sym c.as_slice-2.ensures.value) (put_room (fits c))

pub add_posts-requires-clause-groups : goal.add_posts-requires-clause-groups
add_posts-requires-clause-groups c =
    let known = put_back c.self.inside.posts.items c.as_slice.result.now c.self.inside.stations.items
    c.self.inside.roster c.make_room.new.self c.add.new.self c.from.result c.job.inside.device (record {
      place = Parked c.job.inside.held;
      made = c.job.inside.place;
      next = c.job.inside.next;
      known = c.job.inside.known;
    }) c.self.invariant.2 c.make_room.ensures.candidates c.make_room.ensures.kept c.as_slice.ensures.value
    c.from.ensures c.add.ensures in
    known.groups

pub index_mut-requires : goal.index_mut-requires
index_mut-requires c =
    let h = put_place (fitting c.args.self.now c.args.job c.self.inside.subject.value c.self.inside.entries.held
    c.self.inside.stations.items c.self.inside.posts.items c.self.inside.stops c.job.inside.claimed.value.subject
    c.job.inside.worker c.args.worker c.job.inside.device c.job.inside.claimed.value.entries
    c.job.inside.entries.items c.job.inside.held c.job.inside.spent c.job.inside.known.items
    c.job.inside.posted.items c.job.inside.place c.job.inside.next
    c.self.view_is c.job.view_is c.self.invariant.0 c.job.invariant c.requires) in
    omega (arith, h, c.from.ensures, c.self.inside.stations.ok.0)

then : (c : goal.After-drop-claimed)
    → IsFitting c.self.inside.subject.value c.self.inside.entries.held c.self.inside.stations.items
    c.self.inside.posts.items c.args.worker c.job.inside.device c.job.inside.claimed.value.entries
    c.job.inside.entries.items c.job.inside.held c.job.inside.known.items c.job.inside.posted.items
    c.job.inside.place c.job.inside.next
then c =
    fitting c.args.self.now c.args.job c.self.inside.subject.value c.self.inside.entries.held
    c.self.inside.stations.items c.self.inside.posts.items c.self.inside.stops c.job.inside.claimed.value.subject
    c.job.inside.worker c.args.worker c.job.inside.device c.job.inside.claimed.value.entries
    c.job.inside.entries.items c.job.inside.held c.job.inside.spent c.job.inside.known.items
    c.job.inside.posted.items c.job.inside.place c.job.inside.next
    c.self.view_is c.job.view_is c.self.invariant.0 c.job.invariant c.requires

ended : (c : goal.After-drop-claimed)
    → AreEnded (set c.self.inside.stations.items c.from.result (record {
      place = Parked c.job.inside.held;
      made = c.job.inside.place;
      next = c.job.inside.next;
      known = c.job.inside.known;
    })) c.self.inside.low
ended c =
    put_ended (then c) (record {
      place = Parked c.job.inside.held;
      made = c.job.inside.place;
      next = c.job.inside.next;
      known = c.job.inside.known;
    }) c.from.result c.self.inside.low c.from.ensures c.self.invariant.1

pub invariant_of-self-2 : goal.invariant_of-self-2
invariant_of-self-2 c = (
  put_trace (then c) (record {
    place = Parked c.job.inside.held;
    made = c.job.inside.place;
    next =
        c.job.inside.next;
    known = c.job.inside.known;
  })
      c.from.result c.append.new.self.held c.add_posts.new.posts.items c.from.ensures
      c.in-Ok-append.ensures.held refl refl refl refl c.add_posts.ensures.count
      (λ g. c.add_posts.ensures.sums g ∙ ap (λ l. slice_index c.self.inside.posts.items g + count_by (λ h. h == g) l)
      c.as_slice-2.ensures.value),
  ended c,
  c.add_posts.ensures.roster _
      (put_back c.self.inside.posts.items c.as_slice.result.now c.self.inside.stations.items c.self.inside.roster
      c.make_room.new.self c.add.new.self c.from.result c.job.inside.device (record {
        place = Parked c.job.inside.held;
        made = c.job.inside.place;
        next = c.job.inside.next;
        known = c.job.inside.known;
      }) c.self.invariant.2 c.make_room.ensures.candidates c.make_room.ensures.kept c.as_slice.ensures.value
      c.from.ensures c.add.ensures),
)

pub returns-clause-put : goal.returns-clause-put
returns-clause-put c =
    put_view (then c) c.args.self.now c.self.inside.stops
    (record {
      place = Parked c.job.inside.held;
      made = c.job.inside.place;
      next = c.job.inside.next;
      known =
          c.job.inside.known;
    }) c.from.result c.append.new.self.held c.self.view_is c.from.ensures
    c.in-Ok-append.ensures.held refl
    ∙ ap (λ t. with_block c.args.self.now t.device t.held t.entries) c.job.view_is

pub returns-clause-adds : goal.returns-clause-adds
returns-clause-adds c =
    put_adds (then c) c.args.self.now _ c.self.inside.stops c.self.view_is
    (put_view (then c) c.args.self.now c.self.inside.stops
    (record {
      place = Parked c.job.inside.held;
      made = c.job.inside.place;
      next = c.job.inside.next;
      known =
          c.job.inside.known;
    }) c.from.result c.append.new.self.held c.self.view_is c.from.ensures
    c.in-Ok-append.ensures.held refl)

pub returns-clause-shared : goal.returns-clause-shared
returns-clause-shared c = shared_is _ _ _ _ _ (invariant_of-self-2 c).0
