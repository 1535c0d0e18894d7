-- What `join` is answered with, put together from its parts.
use Rattle.std.proofs.Common.{ℕ, ◌≡◌, inl, inr, List, [], ◌∷◌, Option, length, subst, sym}
use Rattle.std.specs.String.{string_bytes}
use Rattle.scenario_image.specs.Image.{IsImageIn}
use Rattle.scenario_image.specs.Scenario.{Scenario}
use Rattle.command_files.specs.Answers.{files_of}
use Rattle.command_files.specs.declared.answer.Answer.{Answer}
use Rattle.command_files.specs.declared.fault.Fault.{Fault}
use Rattle.command_files.specs.declared.fault.Fault.TheVariants as faults
use Rattle.command_files.specs.declared.status.Status.TheVariants.{Done}
use Rattle.command_join.specs.Join.{IsJoinDone, IsJoinFault, IsJoined, IsWholeFault, joined_line}
use Rattle.command_join.specs.Order.{IsOrder, IsOrderFault}
use Rattle.command_join.specs.Slices.{AreSlices}
use Rattle.command_join.specs.declared.slice.Slice.{Slice}

pub join_done : (holds : List ℕ → List ℕ → Type 0) (output : List ℕ) (images : List (List ℕ)) (named order : List Slice)
    (whole : Scenario) (bytes : List ℕ) (answer : Answer) → AreSlices images named → IsOrder named order
    → IsJoined holds order whole → IsImageIn 2 bytes whole
    → string_bytes answer.text ≡ joined_line (length whole.rows) (length images) → answer.status ≡ Done
    → files_of answer.file ≡ (record { path = output; bytes = bytes }) ∷ [] → IsJoinDone holds output images answer
join_done holds output images named order whole bytes answer said ordered joined image text ended made = record {
  named = named;
  said = said;
  order = order;
  ordered = ordered;
  whole = whole;
  joined = joined;
  bytes = bytes;
  image = image;
  text_is = text;
  status_is = ended;
  made_is = made;
}

pub order_fault : (holds : List ℕ → List ℕ → Type 0) (fails : List ℕ → Type 0) (images : List (List ℕ))
    (named : List Slice) (about : Option (List ℕ)) (f : Fault) → AreSlices images named → IsOrderFault named about f
    → IsJoinFault holds fails images about f
order_fault holds fails images named about faults.Memory said h = tt
order_fault holds fails images named about _ said h = inl (record { named = named; said = said; refused = h })

pub whole_fault : (holds : List ℕ → List ℕ → Type 0) (fails : List ℕ → Type 0) (images : List (List ℕ))
    (named order : List Slice) (about : Option (List ℕ)) (f : Fault) → AreSlices images named → IsOrder named order
    → IsWholeFault holds fails order about f → IsJoinFault holds fails images about f
whole_fault holds fails images named order about faults.Memory said ordered h = tt
whole_fault holds fails images named order about _ said ordered h =
    inr (record { named = named; said = said; order = order; ordered = ordered; refused = h })

pub join_memory : (holds : List ℕ → List ℕ → Type 0) (fails : List ℕ → Type 0) (images : List (List ℕ))
    (about : Option (List ℕ)) (f : Fault) → f ≡ faults.Memory → IsJoinFault holds fails images about f
join_memory holds fails images about f is = subst (IsJoinFault holds fails images about) (sym is) tt
