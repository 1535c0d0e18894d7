-- What is recorded, after one step more.
use Rattle.std.proofs.Common.{◌≡◌, inl, inr, ℕ, ◌+◌, ◌-◌, Bool, true, false, List, [], ◌∷◌, ◌++◌, length}
use Rattle.std.proofs.Common.{Option, None, Some, slice_get, refl, sym, ap, ◌∙◌, append-nil, append_assoc, arith}
use Rattle.std.proofs.lemmas.List.Sums.{sum_by_push}
use Rattle.device_machine.specs.declared.event.Event.{Event as Happening}
use Rattle.scenario_image.specs.declared.step.Step.{Step}
use Rattle.scenario_image.specs.declared.step.Step.TheVariants.{Event}
use Rattle.fleet_link.specs.declared.recording.Recording.{Recording}
use Rattle.fleet_link.specs.Recorded.{size_of_event, size_of_step, size_of_steps, HasNoRoom, HasRoom, IsFullFor, IsRecorded}

-- a recording that differs in what memory it has
pub record IsSame (old new : Recording) : Type 0 where
  pub steps : new.steps.items ≡ old.steps.items
  pub share : new.share ≡ old.share
  pub left : new.left ≡ old.left

full_as : (old new : Recording) (next : Option Step) → IsSame old new → IsFullFor old next → IsFullFor new next
full_as old new None same h = absurd h
full_as old new (Some next) same (inl many) = inl (omega (arith, many, ap length same.steps))
full_as old new (Some next) same (inr much) = inr (omega (arith, much, ap size_of_steps same.steps, same.share))

room_as : (old new : Recording) → IsSame old new → old.left + size_of_steps old.steps.items ≡ old.share
    → new.left + size_of_steps new.steps.items ≡ new.share
room_as old new same h = omega (arith, h, same.left, ap size_of_steps same.steps, same.share)

pub recorded_on : (old new : Recording) (steps : List Step) → IsSame old new → new.complete ≡ old.complete
    → IsRecorded old steps → IsRecorded new steps
recorded_on old new steps same complete h =
    record {
      rest = h.rest;
      begins = h.begins ∙ ap (λ s. s ++ h.rest) (sym same.steps);
      whole = λ e. h.whole (sym complete ∙ e);
      full = λ e. full_as old new (slice_get h.rest 0) same (h.full (sym complete ∙ e));
      room = room_as old new same h.room;
    }

-- it has room
pub recorded_more : (old new : Recording) (event : Happening) (size : ℕ) → HasRoom old event
    → size ≡ size_of_event event → new.complete ≡ old.complete
    → new.steps.items ≡ old.steps.items ++ Event event ∷ [] → new.share ≡ old.share → new.left ≡ old.left - size
    → (steps : List Step) → IsRecorded old steps → IsRecorded new (steps ++ Event event ∷ [])
recorded_more old new event size has is complete more share left steps h =
    let sums : size_of_steps new.steps.items ≡ size_of_steps old.steps.items + size_of_event event =
    ap size_of_steps more ∙ sum_by_push size_of_step old.steps.items (Event event) in
    record {
      rest = [];
      begins = ap (λ s. s ++ Event event ∷ []) (h.begins ∙ ap (λ r. old.steps.items ++ r) (h.whole has.complete)
          ∙ append-nil old.steps.items) ∙ sym more ∙ sym (append-nil new.steps.items);
      whole = λ e. refl;
      full = λ e. let k : false ≡ true = sym e ∙ complete ∙ has.complete in absurd cc;
      room = omega (arith, h.room, left, is, has.fits, share, sums);
    }

-- it has none
pub recorded_less : (old new : Recording) (event : Happening) → (old.complete ≡ true → HasNoRoom old event)
    → IsSame old new → new.complete ≡ false → (steps : List Step) → IsRecorded old steps
    → IsRecorded new (steps ++ Event event ∷ [])
recorded_less old new event none same closed steps h =
    record {
      rest = h.rest ++ Event event ∷ [];
      begins = ap (λ s. s ++ Event event ∷ []) h.begins ∙ append_assoc old.steps.items h.rest (Event event ∷ [])
          ∙ ap (λ l. l ++ (h.rest ++ Event event ∷ [])) (sym same.steps);
      whole = λ e. let k : false ≡ true = sym closed ∙ e in absurd cc;
      full = λ e. full_as old new (slice_get (h.rest ++ Event event ∷ []) 0) same
          (by_rest h.rest old.complete refl h.whole h.full);
      room = room_as old new same h.room;
    }
  where
    now_full : HasNoRoom old event → IsFullFor old (Some (Event event))
    now_full (inl many) = inl many
    now_full (inr much) = inr (omega (arith, much, h.room))

    by_rest : (rest : List Step) (b : Bool) → old.complete ≡ b → (old.complete ≡ true → rest ≡ [])
        → (old.complete ≡ false → IsFullFor old (slice_get rest 0))
        → IsFullFor old (slice_get (rest ++ Event event ∷ []) 0)
    by_rest [] true is whole full = now_full (none is)
    by_rest [] false is whole full = absurd (full is)
    by_rest (x ∷ xs) true is whole full = let k : x ∷ xs ≡ [] = whole is in absurd cc
    by_rest (x ∷ xs) false is whole full = full is

-- nothing is recorded yet
pub none_recorded_yet : (recording : Recording) → recording.steps.items ≡ [] → recording.left ≡ recording.share
    → recording.complete ≡ true → IsRecorded recording []
none_recorded_yet recording none left complete =
    record {
      rest = [];
      begins = sym none ∙ sym (append-nil recording.steps.items);
      whole = λ e. refl;
      full = λ e. let k : false ≡ true = sym e ∙ complete in absurd cc;
      room = omega (arith, left, ap size_of_steps none);
    }
