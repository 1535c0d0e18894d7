-- Snapshots of a session, turn by turn.
use Rattle.std.proofs.Common.{ℕ, ◌≡◌, ◌+◌, ◌≤◌, Bool, false, List, [], ◌∷◌, ◌++◌, length, Option, None, Some, inl, inr}
use Rattle.std.proofs.Common.{refl, sym, ap}
use Rattle.std.proofs.Common.{subst, ◌∙◌, append_assoc, append-nil, arith}
use Rattle.command_line.specs.declared.fleet_words.AskedFleet.{AskedFleet}
use Rattle.scenario_image.specs.Scenario.{Scenario}
use Rattle.fleet_link.specs.declared.slot.Slot.{Slot}
use Rattle.fleet_link.specs.Serving.{AreRepeated, AreSwept, IsFleet}
use Rattle.fleet_link.specs.Traffic.{Traffic}
use Rattle.command_files.specs.Files.{Grows, MadeFile}
use Rattle.command_fleet.specs.Inside.{IsKeptUp}
use Rattle.command_fleet.specs.Snapshots.{AreKept, AreKeptIf, Snapshot, snapshot_files}

-- what is known of files grows by nothing
grows_not : (a : Option (List MadeFile)) → Grows a a []
grows_not None = tt
grows_not (Some made) = sym (append-nil made)

-- by these, and then by those
grows_then : (a b c : Option (List MadeFile)) (xs ys : List MadeFile) → Grows a b xs → Grows b c ys
    → Grows a c (xs ++ ys)
grows_then None b c xs ys first then = tt
grows_then (Some x) None c xs ys first then = absurd first
grows_then (Some x) (Some y) None xs ys first then = absurd then
grows_then (Some x) (Some y) (Some z) xs ys first then =
    then ∙ ap (λ l. l ++ ys) first ∙ append_assoc x xs ys

-- at the start there is no snapshot
pub kept_first : (path : Option (List ℕ)) (part : Scenario) (played repeat : Bool) (before : ℕ → Option Traffic)
    (last second : ℕ) (made : Option (List MadeFile)) → last ≡ 0 → second ≡ 0
    → AreKeptIf path part played repeat before last second made made
kept_first None part played repeat before last second made first now = refl
kept_first (Some path) part played repeat before last second made first now = record {
  snapshots = [];
  each = tt;
  last_is = first;
  since = omega (arith, first, now);
  soon = omega (arith, first, now);
  made = grows_not made;
}

-- a turn more
pub kept_on : (path : Option (List ℕ)) (part : Scenario) (played repeat : Bool) (before told : ℕ → Option Traffic)
    (last now began second : ℕ) (slots : List Slot) (a b c : Option (List MadeFile))
    → AreKeptIf path part played repeat before last began a b → IsFleet part played before slots second false told
    → AreRepeated slots repeat → AreSwept slots (length slots) began → began ≤ second
    → IsKeptUp b c path part slots last second now → AreKeptIf path part played repeat before now second a c
kept_on None part played repeat before told last now began second slots a b c kept fleet repeated swept later up =
    up ∙ kept
kept_on (Some path) part played repeat before told last now began second slots a b c kept fleet repeated swept later
    (inl (soon, same, none)) =
    record {
      snapshots = kept.snapshots;
      each = kept.each;
      last_is = same ∙ kept.last_is;
      since = (let since = kept.since in omega (arith, same, since, later));
      soon = omega (arith, same, soon);
      made = subst (λ m. Grows a m (snapshot_files path kept.snapshots)) (sym none) kept.made;
    }
kept_on (Some path) part played repeat before told last now began second slots a b c kept fleet repeated swept later
    (inr (due, same, saved)) =
    let since = kept.since in
    let soon = kept.soon in
    let last_is = kept.last_is in
    let snapshot : Snapshot = record { began = began; second = second; slots = slots; bytes = saved.bytes } in
    record {
      snapshots = snapshot ∷ kept.snapshots;
      each = (
        record {
          since = omega (arith, last_is, since);
          first = omega (arith, last_is, soon);
          due = omega (arith, last_is, due);
          told = told;
          fleet = fleet;
          repeated = repeated;
          swept = swept;
          scenario = saved.scenario;
          saved = saved.saved;
          image = saved.image;
        },
        kept.each,
      );
      last_is = same;
      since = omega (arith, same);
      soon = omega (arith, same);
      made = grows_then a b c _ _ kept.made saved.made;
    }

-- ---- the same files by another name

pub kept_at : (asked : AskedFleet) (part : Scenario) (before : ℕ → Option Traffic) (last second : ℕ)
    (old new now : Option (List MadeFile)) → now ≡ new → AreKept asked part before last second old new
    → AreKept asked part before last second old now
kept_at asked part before last second old new now same kept =
    subst (λ m. AreKept asked part before last second old m) (sym same) kept

pub kept_from : (path : Option (List ℕ)) (part : Scenario) (slots : List Slot) (last second now : ℕ)
    (old began new : Option (List MadeFile)) → began ≡ old → IsKeptUp began new path part slots last second now
    → IsKeptUp old new path part slots last second now
kept_from path part slots last second now old began new same up =
    subst (λ m. IsKeptUp m new path part slots last second now) same up
