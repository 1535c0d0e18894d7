-- The whole of slices, put together from its parts, or why there is none.
use Rattle.std.proofs.Common.{ℕ, ◌≡◌, ◌+◌, ◌≤◌, ◌<◌, inl, inr, List, [], ◌∷◌, ◌++◌, Option, None, Some, length}
use Rattle.std.proofs.Common.{take, drop, get_or, refl, sym, ap, subst, ◌∙◌}
use Rattle.std.proofs.lemmas.List.{append-nil, drop_more, take-append-drop, take_all, take_more}
use Rattle.std.proofs.lemmas.List.Concat.{flat_map-append}
use Rattle.std.proofs.lemmas.List.Elements.{All-nil, All-push, All-weaker}
use Rattle.std.specs.List.{flat_map}
use Rattle.scenario_image.specs.declared.fault.ScenarioFault.TheVariants.{Limit}
use Rattle.scenario_image.specs.Scenario.{Scenario, most_rows}
use Rattle.command_files.specs.Loading.{IsImageFault, IsScenarioAt}
use Rattle.command_files.specs.declared.fault.Fault.{Fault}
use Rattle.command_files.specs.declared.fault.Fault.TheVariants as faults
use Rattle.command_join.specs.Join.{HasCountOf, IsAdded}
use Rattle.command_join.specs.Join.{IsImageOf, IsJoined, IsJoinedSoFar, IsNext, IsRefusedNext}
use Rattle.command_join.specs.Join.{IsUnadded, IsUnread, IsWhole, IsWholeFault}
use Rattle.command_join.specs.declared.slice.Slice.{Slice}
use Rattle.command_join.proofs.Words.{zip_more}

-- ---- an image

pub image_of : (holds : List ℕ → List ℕ → Type 0) (slice : Slice) (part : Scenario)
    → IsScenarioAt holds slice.path.now part → HasCountOf slice part → IsImageOf holds slice part
image_of holds slice part found count = record { found = found; count = count }

pub other_count : (holds : List ℕ → List ℕ → Type 0) (fails : List ℕ → Type 0) (slice : Slice) (part : Scenario)
    (about : Option (List ℕ)) (f : Fault) → IsScenarioAt holds slice.path.now part → (HasCountOf slice part → ⊥)
    → about ≡ Some slice.word.now → f ≡ faults.Slices → IsUnread holds fails slice about f
other_count holds fails slice part about f found other named is =
    subst (IsUnread holds fails slice about) (sym is) (record { part = part; found = found; other = other }, named)

pub no_image : (holds : List ℕ → List ℕ → Type 0) (fails : List ℕ → Type 0) (slice : Slice) (about : Option (List ℕ))
    (f : Fault) → IsImageFault holds fails slice.path.now f → about ≡ Some slice.path.now
    → IsUnread holds fails slice about f
no_image holds fails slice about faults.Slices h named = absurd h
no_image holds fails slice about _ h named = (h, named)

-- ---- a part more

pub added : (whole part more : Scenario) → part.classes ≡ whole.classes → more.classes ≡ whole.classes
    → more.rows ≡ whole.rows ++ part.rows → IsAdded (Some whole) part more
added whole part more same classes rows = (same, classes, rows)

pub other_classes : (whole part : Scenario) (path : List ℕ) (about : Option (List ℕ)) (f : Fault)
    → (part.classes ≡ whole.classes → ⊥) → about ≡ Some path → f ≡ faults.OtherClasses
    → IsUnadded (Some whole) part path about f
other_classes whole part path about f other named is =
    subst (IsUnadded (Some whole) part path about) (sym is)
    (record { whole = whole; before = refl; other = other }, named)

pub too_many : (whole part : Scenario) (path : List ℕ) (about : Option (List ℕ)) (f : Fault)
    → part.classes ≡ whole.classes → most_rows < length whole.rows + length part.rows → about ≡ Some path
    → f ≡ faults.Session Limit → IsUnadded (Some whole) part path about f
too_many whole part path about f same many named is =
    subst (IsUnadded (Some whole) part path about) (sym is)
    (record { whole = whole; before = refl; same = same; many = many }, named)

-- what was joined so far is none, or some
pub first_part : (joined : Option Scenario) (part : Scenario) → joined ≡ None → IsAdded joined part part
first_part joined part none = subst (λ j. IsAdded j part part) (sym none) refl

pub next_part : (joined : Option Scenario) (whole part more : Scenario) → joined ≡ Some whole
    → IsAdded (Some whole) part more → IsAdded joined part more
next_part joined whole part more is added = subst (λ j. IsAdded j part more) (sym is) added

pub unadded_part : (joined : Option Scenario) (whole part : Scenario) (path : List ℕ) (about : Option (List ℕ))
    (f : Fault) → joined ≡ Some whole → IsUnadded (Some whole) part path about f → IsUnadded joined part path about f
unadded_part joined whole part path about f is refused =
    subst (λ j. IsUnadded j part path about f) (sym is) refused

pub no_memory : (joined : Option Scenario) (part : Scenario) (path : List ℕ) (about : Option (List ℕ)) (f : Fault)
    → f ≡ faults.Memory → IsUnadded joined part path about f
no_memory joined part path about f is = subst (IsUnadded joined part path about) (sym is) tt

-- ---- a slice more

pub next_joined : (holds : List ℕ → List ℕ → Type 0) (joined : Option Scenario) (slice : Slice) (part more : Scenario)
    → IsImageOf holds slice part → IsAdded joined part more → IsNext holds joined slice more
next_joined holds joined slice part more found added = record { part = part; found = found; added = added }

pub unread_next : (holds : List ℕ → List ℕ → Type 0) (fails : List ℕ → Type 0) (joined : Option Scenario)
    (slice : Slice) (about : Option (List ℕ)) (f : Fault) → IsUnread holds fails slice about f
    → IsRefusedNext holds fails joined slice about f
unread_next holds fails joined slice about f h = inl h

pub unadded_next : (holds : List ℕ → List ℕ → Type 0) (fails : List ℕ → Type 0) (joined : Option Scenario)
    (slice : Slice) (part : Scenario) (about : Option (List ℕ)) (f : Fault) → IsImageOf holds slice part
    → IsUnadded joined part slice.path.now about f → IsRefusedNext holds fails joined slice about f
unadded_next holds fails joined slice part about f found h = inr (record { part = part; found = found; refused = h })

-- ---- all slices

up_to : (slices : List Slice) (i : ℕ) (d : Slice) → i < length slices
    → take (i + 1) slices ≡ take i slices ++ get_or slices i d ∷ []
up_to slices i d within = take_more slices i d within

not_empty : {X : Type 0} (xs : List X) (x : X) → xs ++ x ∷ [] ≡ [] → ⊥
not_empty [] x e = absurd cc
not_empty (y ∷ xs) x e = absurd cc

-- the first part is the whole
first_whole : (part more : Scenario) → more ≡ part → IsWhole (part ∷ []) more
first_whole part more same = record {
  some = not_empty [] part;
  classes = All-push (λ p. p.classes ≡ more.classes) [] part (All-nil (λ p. p.classes ≡ more.classes))
      (ap (λ (s : Scenario). s.classes) (sym same));
  rows = ap (λ (s : Scenario). s.rows) same ∙ sym (append-nil part.rows);
}

more_whole : (parts : List Scenario) (whole part more : Scenario) → IsWhole parts whole
    → part.classes ≡ whole.classes → more.classes ≡ whole.classes → more.rows ≡ whole.rows ++ part.rows
    → IsWhole (parts ++ part ∷ []) more
more_whole parts whole part more so_far same classes rows = record {
  some = not_empty parts part;
  classes = All-push (λ p. p.classes ≡ more.classes) parts part
      (All-weaker (λ p. p.classes ≡ whole.classes) (λ p. p.classes ≡ more.classes) (λ p e. e ∙ sym classes) parts
      so_far.classes)
      (same ∙ sym classes);
  rows = rows ∙ ap (λ r. r ++ part.rows) so_far.rows
      ∙ ap (λ r. flat_map (λ (p : Scenario). p.rows) parts ++ r) (sym (append-nil part.rows))
      ∙ sym (flat_map-append (λ (p : Scenario). p.rows) parts (part ∷ []));
}

after : (holds : List ℕ → List ℕ → Type 0) (before : List Slice) (slice : Slice) (joined : Option Scenario)
    (more : Scenario) → IsJoinedSoFar holds before joined → IsNext holds joined slice more
    → IsJoined holds (before ++ slice ∷ []) more
after holds before slice None more none next =
    subst (λ b. IsJoined holds (b ++ slice ∷ []) more) (sym none) (record {
      parts = next.part ∷ [];
      found = (next.found, tt);
      joined = first_whole next.part more next.added;
    })
after holds before slice (Some whole) more so_far next = record {
  parts = so_far.parts ++ next.part ∷ [];
  found = zip_more (IsImageOf holds) before so_far.parts slice next.part so_far.found next.found;
  joined = more_whole so_far.parts whole next.part more so_far.joined next.added.0 next.added.1 next.added.2;
}

pub one_more : (holds : List ℕ → List ℕ → Type 0) (slices : List Slice) (i : ℕ) (d : Slice) (joined : Option Scenario)
    (more : Scenario) → IsJoinedSoFar holds (take i slices) joined → i < length slices
    → IsNext holds joined (get_or slices i d) more → IsJoined holds (take (i + 1) slices) more
one_more holds slices i d joined more so_far within next =
    subst (λ b. IsJoined holds b more) (sym (up_to slices i d within))
    (after holds (take i slices) (get_or slices i d) joined more so_far next)

pub refused_at : (holds : List ℕ → List ℕ → Type 0) (fails : List ℕ → Type 0) (slices : List Slice) (i : ℕ) (d : Slice)
    (joined : Option Scenario) (about : Option (List ℕ)) (f : Fault) → IsJoinedSoFar holds (take i slices) joined
    → i < length slices → IsRefusedNext holds fails joined (get_or slices i d) about f
    → IsWholeFault holds fails slices about f
refused_at holds fails slices i d joined about f so_far within refused =
    inl (record {
      before = take i slices;
      slice = get_or slices i d;
      others = drop (i + 1) slices;
      stands = sym (ap (λ r. take i slices ++ r) (sym (drop_more slices i d within)) ∙ take-append-drop i slices);
      so_far = joined;
      joined = so_far;
      refused = refused;
    })

pub none_yet : (holds : List ℕ → List ℕ → Type 0) (slices : List Slice) → IsJoinedSoFar holds (take 0 slices) None
none_yet holds slices = none slices
  where
    none : (xs : List Slice) → take 0 xs ≡ []
    none [] = refl
    none (x ∷ xs) = refl

pub all_joined : (holds : List ℕ → List ℕ → Type 0) (slices : List Slice) (i : ℕ) (whole : Scenario)
    → IsJoined holds (take i slices) whole → length slices ≤ i → IsJoined holds slices whole
all_joined holds slices i whole joined end =
    subst (λ b. IsJoined holds b whole) (take_all i slices end) joined

pub no_slice : (holds : List ℕ → List ℕ → Type 0) (fails : List ℕ → Type 0) (slices : List Slice) (i : ℕ)
    (about : Option (List ℕ)) (f : Fault) → take i slices ≡ [] → length slices ≤ i → f ≡ faults.Slices → about ≡ None
    → IsWholeFault holds fails slices about f
no_slice holds fails slices i about f none end is no_word =
    inr (record { none = sym (take_all i slices end) ∙ none; name = is; no_word = no_word })
