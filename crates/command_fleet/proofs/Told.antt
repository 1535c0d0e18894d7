-- What is told of a session, event by event.
use Rattle.std.proofs.Common.{ℕ, ◌≡◌, ◌⊎◌, ◌≤◌, ◌<◌, inl, inr, List, [], ◌∷◌, ◌++◌, Option, Result, Ok, Err, IfErr}
use Rattle.std.proofs.Common.{Bool, OnOk, refl, sym, ap, subst, ◌∙◌, append-nil, append_assoc, arith}
use Rattle.std.proofs.KnownBytes.{Appends-nil, Appends-trans}
use Rattle.std.proofs.lemmas.List.Concat.{flat_map-append}
use Rattle.std.specs.Io.KnownBytes.{Appends}
use Rattle.std.specs.List.{flat_map}
use Rattle.fleet_wire.specs.declared.note.Note.{Note}
use Rattle.fleet_lines.specs.declared.shown.Shown.{Shown}
use Rattle.fleet_lines.specs.Traffic.{traffic_text}
use Rattle.command_files.specs.Fault.{IsWritingFault}
use Rattle.command_files.specs.World.{OnlyMakes, StreamFaults, Streams, World}
use Rattle.command_files.specs.declared.fault.Fault.{Fault}
use Rattle.command_files.specs.declared.fault.Fault.TheVariants as faults
use Rattle.command_files.specs.declared.refusal.Refusal.{Refusal}
use Rattle.command_fleet.specs.declared.telling.Telling.{Telling}
use Rattle.command_fleet.specs.Telling.{AreSeconds, AreTold, Event, IsCut, IsRefused, IsSecondRefused, MayCome}
use Rattle.command_fleet.specs.Telling.{SecondCounts, came, errors_of, is_json, notes_in, output_of, passed_in}
use Rattle.command_fleet.specs.Telling.{second_errors, second_output, shown_in, went}

pub nothing_told : (t : Option (List ℕ)) → Appends t t []
nothing_told t = Appends-nil t

-- the text of no notes and no datagrams is empty
pub nothing_went : (json : Bool) (notes : List Note) (shown : List Shown) (t : Option (List ℕ)) → notes ≡ []
    → shown ≡ [] → Appends t t (traffic_text json notes shown)
nothing_went json notes shown t no_notes none_shown =
    subst (λ ns. Appends t t (traffic_text json ns shown)) (sym no_notes)
    (subst (λ xs. Appends t t (traffic_text json [] xs)) (sym none_shown) (Appends-nil t))

-- ---- one event more

later : (before : ℕ) (passed : List SecondCounts) (last : ℕ) (p : SecondCounts) → AreSeconds before passed last
    → last < p.second
    → AreSeconds before (passed ++ p ∷ []) p.second
later before [] last p are below = (subst (λ n. n < p.second) (sym are) below, refl)
later before (q ∷ qs) last p are below = (are.0, later q.second qs last p are.1 below)

passed_then : (es : List Event) (p : SecondCounts) → passed_in (es ++ came p ∷ []) ≡ passed_in es ++ p ∷ []
passed_then [] p = refl
passed_then (came q ∷ es) p = ap (λ l. q ∷ l) (passed_then es p)
passed_then (went notes shown ∷ es) p = passed_then es p

passed_still : (es : List Event) (ns : List Note) (xs : List Shown) → passed_in (es ++ went ns xs ∷ []) ≡ passed_in es
passed_still [] ns xs = refl
passed_still (came q ∷ es) ns xs = ap (λ l. q ∷ l) (passed_still es ns xs)
passed_still (went notes shown ∷ es) ns xs = passed_still es ns xs

notes_still : (es : List Event) (p : SecondCounts) → notes_in (es ++ came p ∷ []) ≡ notes_in es
notes_still [] p = refl
notes_still (came q ∷ es) p = notes_still es p
notes_still (went notes shown ∷ es) p = ap (λ l. notes ++ l) (notes_still es p)

notes_then : (es : List Event) (ns : List Note) (xs : List Shown) → notes_in (es ++ went ns xs ∷ []) ≡ notes_in es ++ ns
notes_then [] ns xs = append-nil ns
notes_then (came q ∷ es) ns xs = notes_then es ns xs
notes_then (went notes shown ∷ es) ns xs =
    ap (λ l. notes ++ l) (notes_then es ns xs) ∙ sym (append_assoc notes (notes_in es) ns)

shown_still : (es : List Event) (p : SecondCounts) → shown_in (es ++ came p ∷ []) ≡ shown_in es
shown_still [] p = refl
shown_still (came q ∷ es) p = shown_still es p
shown_still (went notes shown ∷ es) p = ap (λ l. shown ++ l) (shown_still es p)

shown_then : (es : List Event) (ns : List Note) (xs : List Shown) → shown_in (es ++ went ns xs ∷ []) ≡ shown_in es ++ xs
shown_then [] ns xs = append-nil xs
shown_then (came q ∷ es) ns xs = shown_then es ns xs
shown_then (went notes shown ∷ es) ns xs =
    ap (λ l. shown ++ l) (shown_then es ns xs) ∙ sym (append_assoc shown (shown_in es) xs)

-- what a stream got of events, and then of one more
one_more : (text : Event → List ℕ) (es : List Event) (e : Event) (a b c : Option (List ℕ))
    → Appends a b (flat_map text es) → Appends b c (text e) → Appends a c (flat_map text (es ++ e ∷ []))
one_more text es e a b c told more =
    subst (Appends a c)
    (sym (flat_map-append text es (e ∷ []) ∙ ap (λ l. flat_map text es ++ l) (append-nil (text e))))
    (Appends-trans a b c (flat_map text es) (text e) told more)

-- nothing was told at the start
pub none_told : (telling : Telling) (notes : List Note) (shown : List Shown) (second : ℕ) (t : Streams) → notes ≡ []
    → shown ≡ [] → second ≡ 0 → AreTold telling notes shown second t t
none_told telling notes shown second t no_notes none_shown zero = record {
  events = [];
  seconds = sym zero;
  notes_are = sym no_notes;
  shown_are = sym none_shown;
  output = Appends-nil t.output;
  errors = Appends-nil t.errors;
}

-- a second more
pub told_more : (telling : Telling) (notes : List Note) (shown : List Shown) (old new : ℕ) (p : SecondCounts)
    (a b c : Streams) → AreTold telling notes shown old a b → old ≤ new → (new ≡ old → ⊥) → p.second ≡ new
    → Appends b.output c.output (second_output telling p) → Appends b.errors c.errors (second_errors telling p)
    → AreTold telling notes shown new a c
told_more telling notes shown old new p a b c told below other same printed said = record {
  events = told.events ++ came p ∷ [];
  seconds = subst (λ ps. AreSeconds 0 ps new) (sym (passed_then told.events p))
      (subst (AreSeconds 0 (passed_in told.events ++ p ∷ [])) same
      (later 0 (passed_in told.events) old p told.seconds (omega (arith, below, other, same))));
  notes_are = notes_still told.events p ∙ told.notes_are;
  shown_are = shown_still told.events p ∙ told.shown_are;
  output = one_more (output_of telling) told.events (came p) a.output b.output c.output told.output printed;
  errors = one_more (errors_of telling) told.events (came p) a.errors b.errors c.errors told.errors said;
}

-- what went through more
pub told_traffic : (telling : Telling) (notes more : List Note) (shown also : List Shown) (all : List Note)
    (every : List Shown) (second : ℕ) (a b c : Streams) → AreTold telling notes shown second a b
    → all ≡ notes ++ more → every ≡ shown ++ also → Appends b.output c.output (output_of telling (went more also))
    → c.errors ≡ b.errors → AreTold telling all every second a c
told_traffic telling notes more shown also all every second a b c told are every_is printed quiet = record {
  events = told.events ++ went more also ∷ [];
  seconds = subst (λ ps. AreSeconds 0 ps second) (sym (passed_still told.events more also)) told.seconds;
  notes_are = notes_then told.events more also ∙ ap (λ l. l ++ more) told.notes_are ∙ sym are;
  shown_are = shown_then told.events more also ∙ ap (λ l. l ++ also) told.shown_are ∙ sym every_is;
  output = one_more (output_of telling) told.events (went more also) a.output b.output c.output told.output printed;
  errors = one_more (errors_of telling) told.events (went more also) a.errors b.errors c.errors told.errors
      (subst (λ t. Appends b.errors t []) (sym quiet) (Appends-nil b.errors));
}

-- the same was told, by another name
pub told_as : (telling : Telling) (notes all : List Note) (shown every : List Shown) (old new : ℕ) (a b : Streams)
    → AreTold telling notes shown old a b → all ≡ notes → every ≡ shown → new ≡ old
    → AreTold telling all every new a b
told_as telling notes all shown every old new a b told are every_is same = record {
  events = told.events;
  seconds = subst (AreSeconds 0 (passed_in told.events)) (sym same) told.seconds;
  notes_are = told.notes_are ∙ sym are;
  shown_are = told.shown_are ∙ sym every_is;
  output = told.output;
  errors = told.errors;
}

same_told : (telling : Telling) (notes : List Note) (shown : List Shown) (old new : ℕ) (a b : Streams)
    → AreTold telling notes shown old a b → new ≡ old → AreTold telling notes shown new a b
same_told telling notes shown old new a b told same = told_as telling notes notes shown shown old new a b told refl
    refl same

-- and nothing was told since
pub told_still : (telling : Telling) (notes : List Note) (shown : List Shown) (second : ℕ) (a : Streams)
    (b c : World) → AreTold telling notes shown second a b.streams → OnlyMakes b c
    → AreTold telling notes shown second a c.streams
told_still telling notes shown second a b c told makes = record {
  events = told.events;
  seconds = told.seconds;
  notes_are = told.notes_are;
  shown_are = told.shown_are;
  output = subst (λ o. Appends a.output o (flat_map (output_of telling) told.events)) (sym makes.1) told.output;
  errors = subst (λ o. Appends a.errors o (flat_map (errors_of telling) told.events)) (sym makes.2) told.errors;
}

-- the same of a call
pub told_when : {T E : Type 0} (r : Result T E) (telling : Telling) (notes : List Note) (shown : List Shown)
    (old new : ℕ) (a b : Streams) → new ≡ old → OnOk r (AreTold telling notes shown old a b)
    → OnOk r (AreTold telling notes shown new a b)
told_when (Ok x) telling notes shown old new a b same told = same_told telling notes shown old new a b told same
told_when (Err e) telling notes shown old new a b same told = tt

-- ---- a session that is broken off

-- after events that were told
pub cut_off : (telling : Telling) (streams : StreamFaults) (notes : List Note) (shown : List Shown) (second : ℕ)
    (a b : Streams) (fault : Fault) → AreTold telling notes shown second a b
    → (fault ≡ faults.Memory) ⊎ (fault ≡ faults.Bind) → IsCut telling streams second a b fault
cut_off telling streams notes shown second a b fault told why = record {
  notes = notes;
  shown = shown;
  between = b;
  told = told;
  why = inl ((refl, refl), why);
}

-- before an event was told
pub cut_at_start : (telling : Telling) (streams : StreamFaults) (t : Streams) (fault : Fault) → fault ≡ faults.Memory
    → IsCut telling streams 0 t t fault
cut_at_start telling streams t fault memory =
    cut_off telling streams [] [] 0 t t fault (none_told telling [] [] 0 t refl refl refl) (inl memory)

-- an event was not taken
cut_before : (telling : Telling) (streams : StreamFaults) (notes : List Note) (shown : List Shown) (second : ℕ)
    (e : Event) (a b c : Streams) (fault : Fault) → AreTold telling notes shown second a b → MayCome second e
    → IsRefused telling streams e b c fault → IsCut telling streams second a c fault
cut_before telling streams notes shown second e a b c fault told may refused = record {
  notes = notes;
  shown = shown;
  between = b;
  told = told;
  why = inr (e, may, refused);
}

-- a later second was not taken
cut_untold : (telling : Telling) (streams : StreamFaults) (notes : List Note) (shown : List Shown) (old new : ℕ)
    (p : SecondCounts) (a b c : Streams) (fault : Fault) → AreTold telling notes shown old a b → old ≤ new
    → (new ≡ old → ⊥) → p.second ≡ new → IsSecondRefused telling streams p b c fault
    → IsCut telling streams old a c fault
cut_untold telling streams notes shown old new p a b c fault told below other same refused =
    cut_before telling streams notes shown old (came p) a b c fault told (omega (arith, below, other, same)) refused

-- the same of a call
pub untold_if : {T : Type 0} (r : Result T Refusal) (telling : Telling) (streams : StreamFaults) (notes : List Note)
    (shown : List Shown) (old new : ℕ) (p : SecondCounts) (a b c : Streams) → AreTold telling notes shown old a b
    → old ≤ new
    → (new ≡ old → ⊥) → p.second ≡ new → IfErr r (λ e. IsSecondRefused telling streams p b c e.fault)
    → IfErr r (λ e. IsCut telling streams old a c e.fault)
untold_if (Ok x) telling streams notes shown old new p a b c told below other same refused = tt
untold_if (Err e) telling streams notes shown old new p a b c told below other same refused =
    cut_untold telling streams notes shown old new p a b c e.fault told below other same refused

-- the same by another name
pub cut_when : {T : Type 0} (r : Result T Refusal) (telling : Telling) (streams : StreamFaults) (old new : ℕ)
    (a b : Streams) → new ≡ old → IfErr r (λ e. IsCut telling streams old a b e.fault)
    → IfErr r (λ e. IsCut telling streams new a b e.fault)
cut_when (Ok x) telling streams old new a b same cut = tt
cut_when (Err e) telling streams old new a b same cut = subst (λ n. IsCut telling streams n a b e.fault) (sym same) cut

-- what went through was not taken
pub cut_traffic : (telling : Telling) (streams : StreamFaults) (notes more : List Note) (shown also : List Shown)
    (second : ℕ) (a b c : Streams) (fault : Fault) → AreTold telling notes shown second a b
    → IsRefused telling streams (went more also) b c fault → IsCut telling streams second a c fault
cut_traffic telling streams notes more shown also second a b c fault told refused =
    cut_before telling streams notes shown second (went more also) a b c fault told tt refused

-- ---- what is told of a turn

same_text : (telling : Telling) (json : Bool) (notes more : List Note) (shown also : List Shown)
    → json ≡ is_json telling → notes ≡ more → shown ≡ also
    → traffic_text json notes shown ≡ output_of telling (went more also)
same_text telling json notes more shown also is are every =
    ap (λ b. traffic_text b notes shown) is ∙ ap (λ l. traffic_text (is_json telling) l shown) are
    ∙ ap (λ l. traffic_text (is_json telling) more l) every

pub told_if : {T E : Type 0} (r : Result T E) (telling : Telling) (json : Bool) (old all more notes : List Note)
    (seen every also shown : List Shown) (second : ℕ) (a b c : Streams) → AreTold telling old seen second a b
    → all ≡ old ++ more → every ≡ seen ++ also → json ≡ is_json telling → notes ≡ more → shown ≡ also
    → c.errors ≡ b.errors → OnOk r (Appends b.output c.output (traffic_text json notes shown))
    → OnOk r (AreTold telling all every second a c)
told_if (Err e) telling json old all more notes seen every also shown second a b c told are so is ns xs quiet printed =
    tt
told_if (Ok x) telling json old all more notes seen every also shown second a b c told are so is ns xs quiet printed =
    told_traffic telling old more seen also all every second a b c told are so
    (subst (Appends b.output c.output) (same_text telling json notes more shown also is ns xs) printed) quiet

pub refused_if : {T : Type 0} (r : Result T Refusal) (refuses : List ℕ → Type 0) (telling : Telling) (json : Bool)
    (notes : List Note) (shown : List Shown) → json ≡ is_json telling
    → IfErr r (λ e. IsWritingFault (refuses (traffic_text json notes shown)) e.fault)
    → IfErr r (λ e. (ns : List Note) × (xs : List Shown)
    × IsWritingFault (refuses (traffic_text (is_json telling) ns xs)) e.fault)
refused_if (Ok x) refuses telling json notes shown is why = tt
refused_if (Err e) refuses telling json notes shown is why =
    (notes, shown, subst (λ b. IsWritingFault (refuses (traffic_text b notes shown)) e.fault) is why)

-- what holds at `Ok` and what at `Err`
pub if_both : {T E : Type 0} (r : Result T E) (P Q R : Type 0) → OnOk r Q → OnOk r R → (Q → R → P) → OnOk r P
if_both (Ok x) P Q R q s f = f q s
if_both (Err e) P Q R q s f = tt
