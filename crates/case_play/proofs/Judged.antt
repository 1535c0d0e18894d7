-- The items before a place of a case hold, and the walk is at the place.
use Rattle.std.proofs.Common.{◌≡◌, ℕ, ◌+◌, ◌<◌, ◌≤◌, List, [], ◌∷◌, length, None, Some, slice_get, refl, sym, ap}
use Rattle.std.proofs.Common.{subst, ◌∙◌, arith, below_more}
use Rattle.std.proofs.lemmas.List.Sums.{fold_more}
use Rattle.std.proofs.lemmas.Option.{same_Some, slice_get_within, get_or_from_slice_get}
use Rattle.scenario_image.specs.Scenario.{Scenario}
use Rattle.case_text.specs.declared.item.Item.{Item}
use Rattle.case_play.specs.declared.differences.ItemDifference.{ItemDifference}
use Rattle.case_play.specs.declared.walk.Walk.{Walk}
use Rattle.case_play.specs.Spots.{Spot, first_spot, spot_after, spot_at}
use Rattle.case_play.specs.Cases.{DiffersInItem}
use Rattle.case_play.specs.Holds.{Holds}
use Rattle.case_play.specs.Walks.{IsAt, IsTold}

pub record IsWalked (s : Scenario) (items : List Item) (i : ℕ) (walk : Walk) : Type 0 where
  pub at : IsAt s (spot_at items i) walk
  pub above : (k : ℕ) → k < i → (item : Item) → slice_get items k ≡ Some item → Holds s (spot_at items k) item

pub spot_first : (items : List Item) → spot_at items 0 ≡ first_spot
spot_first [] = refl
spot_first (item ∷ items) = refl

pub spot_next : (items : List Item) (i : ℕ) (item : Item) → slice_get items i ≡ Some item
    → spot_at items (i + 1) ≡ spot_after (spot_at items i) item.part
spot_next items i item at =
    fold_more (λ (spot : Spot) (x : Item). spot_after spot x.part) first_spot items i item
    (slice_get_within items i item at)
    ∙ ap (λ (x : Item). spot_after (spot_at items i) x.part) (get_or_from_slice_get items i item item at)

pub walked_first : (s : Scenario) (items : List Item) (walk : Walk) → IsAt s first_spot walk → IsWalked s items 0 walk
walked_first s items walk at = record {
  at = subst (λ spot. IsAt s spot walk) (sym (spot_first items)) at;
  above = λ k less. absurd (omega (arith, less));
}

pub walked_next : (s : Scenario) (items : List Item) (i : ℕ) (item : Item) (before after : Walk)
    → IsWalked s items i before → slice_get items i ≡ Some item → IsTold s (spot_at items i) item None after
    → IsWalked s items (i + 1) after
walked_next s items i item before after walked at checked = record {
  at = subst (λ spot. IsAt s spot after) (sym (spot_next items i item at)) checked.1;
  above = below_more (λ k. (x : Item) → slice_get items k ≡ Some x → Holds s (spot_at items k) x) i walked.above
      (λ x there. subst (Holds s (spot_at items i)) (same_Some item x (sym at ∙ there)) checked.0);
}

pub walked_differs : (s : Scenario) (items : List Item) (i : ℕ) (item : Item) (d : ItemDifference)
    (before after : Walk) → IsWalked s items i before → slice_get items i ≡ Some item
    → IsTold s (spot_at items i) item (Some d) after → DiffersInItem s items d.line d.came
walked_differs s items i item d before after walked at told = record {
  first = record {
    place = i;
    item = item;
    stands = at;
    above = λ k other less there. walked.above k less other there;
    differs = told.0.0;
    named = told.0.1;
  };
  there = told.1;
}

pub walked_all : (s : Scenario) (items : List Item) (i : ℕ) (walk : Walk) → IsWalked s items i walk
    → length items ≤ i → (k : ℕ) (item : Item) → slice_get items k ≡ Some item → Holds s (spot_at items k) item
walked_all s items i walk walked end k item at =
    walked.above k (omega (arith, end, slice_get_within items k item at)) item at
