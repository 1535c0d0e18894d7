-- The notes of what came.
use Rattle.std.proofs.Common.{◌≡◌, ℕ, Bool, true, false, cond, List, [], ◌∷◌, ◌++◌, filter, refl, sym, ap, subst, ◌∙◌}
use Rattle.std.proofs.Common.{append-nil, append_assoc}
use Rattle.std.proofs.lemmas.List.Elements.{filter-append}
use Rattle.fleet_wire.specs.declared.note.Note.{Note}
use Rattle.fleet_wire.specs.declared.plan.Direction.{Direction}
use Rattle.fleet_wire.specs.declared.plan.Direction.TheVariants.{In, Out}
use Rattle.fleet_wire.specs.declared.plan.Plan.{Plan}
use Rattle.fleet_wire.specs.declared.wire.Wire.{Wire}
use Rattle.fleet_wire.specs.Lane.{AreLanes}
use Rattle.fleet_wire.specs.Noting.{goes, is_noted, noted_with, notes_by, notes_going, taken_in}
use Rattle.fleet_wire.specs.Wire.{all_notes, AreNoted}

own_if : (d : Direction) (note : Note) (b : Bool) → goes d note.direction ≡ true
    → notes_going d (cond b (note ∷ []) []) ≡ cond b (note ∷ []) []
own_if d note true h = ap (λ t. cond t (note ∷ []) []) h
own_if d note false h = refl

other_if : (d : Direction) (note : Note) (b : Bool) → goes d note.direction ≡ false
    → notes_going d (cond b (note ∷ []) []) ≡ []
other_if d note true h = ap (λ t. cond t (note ∷ []) []) h
other_if d note false h = refl

-- one more, of this way
with_own : (d : Direction) (note : Note) (old new logged more : List Note) → goes d note.direction ≡ true
    → notes_going d old ≡ logged → new ≡ old ++ noted_with note → more ≡ logged ++ noted_with note
    → notes_going d new ≡ more
with_own d note old new logged more way was notes log =
    ap (notes_going d) notes ∙ filter-append (λ n. goes d n.direction) old (noted_with note)
    ∙ ap (λ t. notes_going d old ++ t) (own_if d note (is_noted note.fate) way)
    ∙ ap (λ t. t ++ noted_with note) was ∙ sym log

-- one more, of the other way
with_other : (d : Direction) (note : Note) (old new logged more : List Note) → goes d note.direction ≡ false
    → notes_going d old ≡ logged → new ≡ old ++ noted_with note → more ≡ logged → notes_going d new ≡ more
with_other d note old new logged more way was notes log =
    ap (notes_going d) notes ∙ filter-append (λ n. goes d n.direction) old (noted_with note)
    ∙ ap (λ t. notes_going d old ++ t) (other_if d note (is_noted note.fate) way)
    ∙ append-nil (notes_going d old) ∙ was ∙ sym log

pub noted_in : (plan : Plan) (devices : ℕ) (wire new : Wire) (note : Note) → AreNoted plan devices wire
    → note.direction ≡ In → all_notes new ≡ all_notes wire ++ noted_with note
    → notes_by plan In devices new.incoming.log ≡ notes_by plan In devices wire.incoming.log ++ noted_with note
    → new.outgoing ≡ wire.outgoing → AreNoted plan devices new
noted_in plan devices wire new note noted way notes incoming outgoing =
    record {
      incoming = with_own In note (all_notes wire) (all_notes new) (notes_by plan In devices wire.incoming.log)
          (notes_by plan In devices new.incoming.log) (ap (goes In) way) noted.incoming notes incoming;
      outgoing = with_other Out note (all_notes wire) (all_notes new) (notes_by plan Out devices wire.outgoing.log)
          (notes_by plan Out devices new.outgoing.log) (ap (goes Out) way) noted.outgoing notes
          (ap (λ l. notes_by plan Out devices l.log) outgoing);
    }

pub noted_out : (plan : Plan) (devices : ℕ) (wire new : Wire) (note : Note) → AreNoted plan devices wire
    → note.direction ≡ Out → all_notes new ≡ all_notes wire ++ noted_with note
    → notes_by plan Out devices new.outgoing.log ≡ notes_by plan Out devices wire.outgoing.log ++ noted_with note
    → new.incoming ≡ wire.incoming → AreNoted plan devices new
noted_out plan devices wire new note noted way notes outgoing incoming =
    record {
      incoming = with_other In note (all_notes wire) (all_notes new) (notes_by plan In devices wire.incoming.log)
          (notes_by plan In devices new.incoming.log) (ap (goes In) way) noted.incoming notes
          (ap (λ l. notes_by plan In devices l.log) incoming);
      outgoing = with_own Out note (all_notes wire) (all_notes new) (notes_by plan Out devices wire.outgoing.log)
          (notes_by plan Out devices new.outgoing.log) (ap (goes Out) way) noted.outgoing notes outgoing;
    }

-- nothing has come
pub noted_same : (plan : Plan) (devices : ℕ) (wire new : Wire) → AreNoted plan devices wire
    → all_notes new ≡ all_notes wire
    → notes_by plan In devices new.incoming.log ≡ notes_by plan In devices wire.incoming.log
    → notes_by plan Out devices new.outgoing.log ≡ notes_by plan Out devices wire.outgoing.log
    → AreNoted plan devices new
noted_same plan devices wire new noted notes incoming outgoing =
    record {
      incoming = ap (notes_going In) notes ∙ noted.incoming ∙ sym incoming;
      outgoing = ap (notes_going Out) notes ∙ noted.outgoing ∙ sym outgoing;
    }

-- the notes of a wire, with one more
pub notes_more : (wire new : Wire) (note : Note) → new.taken ≡ wire.taken
    → new.notes.items ≡ wire.notes.items ++ noted_with note → all_notes new ≡ all_notes wire ++ noted_with note
notes_more wire new note taken notes =
    ap (λ t. taken_in t ++ new.notes.items) taken ∙ ap (λ ns. taken_in wire.taken ++ ns) notes
    ∙ sym (append_assoc (taken_in wire.taken) wire.notes.items (noted_with note))

pub notes_same : (wire new : Wire) → new.taken ≡ wire.taken → new.notes.items ≡ wire.notes.items
    → all_notes new ≡ all_notes wire
notes_same wire new taken notes =
    ap (λ t. taken_in t ++ new.notes.items) taken ∙ ap (λ ns. taken_in wire.taken ++ ns) notes

-- they were taken
pub notes_taken : (wire new : Wire) (notes : List Note) → taken_in new.taken ≡ taken_in wire.taken ++ notes
    → notes ≡ wire.notes.items → new.notes.items ≡ [] → all_notes new ≡ all_notes wire
notes_taken wire new notes taken those none =
    ap (λ ns. taken_in new.taken ++ ns) none ∙ append-nil (taken_in new.taken) ∙ taken
    ∙ ap (λ ns. taken_in wire.taken ++ ns) those
