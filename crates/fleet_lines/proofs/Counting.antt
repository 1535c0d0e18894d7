-- What is counted of the ports of a session, and what is taken of them.
use Rattle.std.proofs.Common.{◌≡◌, ℕ, true, List, [], ◌++◌, Option, None, Some, refl, sym, ap, subst, ◌∙◌, append-nil}
use Rattle.std.proofs.Math.Logic.{∥∥₁_map}
use Rattle.std.specs.Prelude.{IfSome}
use Rattle.live_link.specs.Wire.{WhereTold}
use Rattle.fleet_link.specs.Counting.{AreCountsOf}
use Rattle.fleet_link.specs.Traffic.{Traffic}
use Rattle.fleet_link.specs.declared.udp.Counts.{Counts}
use Rattle.fleet_wire.specs.declared.happened.Happened.{Happened}
use Rattle.fleet_wire.specs.declared.note.Note.{Note}
use Rattle.fleet_wire.specs.Happened.{happened_in}
use Rattle.fleet_wire.specs.Over.{FixedWire, IsOverWire}
use Rattle.fleet_lines.specs.declared.counted.Account.{Account}
use Rattle.fleet_lines.specs.declared.tape.Tape.{Tape}
use Rattle.fleet_lines.specs.Counting.{IsAccount, IsMadeOf, PlannedWire, watched_on, with_notes}
use Rattle.fleet_lines.specs.Shown.{AreShown, AreShownOf, all_shown, taken_shown, while_whole}

-- ---- what is watched

pub same_watched : (a b : FixedWire) → a ≡ b → watched_on a ≡ watched_on b
same_watched a b same = ap watched_on same

-- notes that were taken are among what is watched
pub notes_watched : (old new : FixedWire) (notes : List Note) → new ≡ record old { taken = old.taken ++ notes }
    → watched_on new ≡ with_notes (watched_on old) notes
notes_watched old new notes same = ap watched_on same

-- ---- an account

-- what is counted on a wire, all notes of which were taken
pub wired_account : (wired : PlannedWire) (taken items : List Note) (carried near : ℕ → Traffic)
    (told : ℕ → Option Traffic)
    (counts : Counts) (happened : Happened) → items ≡ [] → AreCountsOf (λ e. Some (carried e)) counts
    → ((e : ℕ) → told e ≡ Some (near e)) → ∥ IsOverWire wired.plan wired.devices (taken ++ items) carried near ∥₁
    → happened ≡ happened_in taken
    → IsAccount (Some wired) told taken (record { counts = counts; happened = Some happened })
wired_account wired taken items carried near told counts happened none counted are over same =
    let all : taken ++ items ≡ taken = ap (λ ns. taken ++ ns) none ∙ append-nil taken in
    record {
      carried = λ e. Some (carried e);
      counted = counted;
      made = record {
        below = carried;
        below_is = λ e. refl;
        near = near;
        near_is = are;
        over = subst (λ ns. ∥ IsOverWire wired.plan wired.devices ns carried near ∥₁) all over;
      };
      happened = ap Some same;
    }

made_as : (wire : Option PlannedWire) (notes : List Note) (carried told same : ℕ → Option Traffic)
    → ((e : ℕ) → same e ≡ told e) → IsMadeOf wire notes carried told → IsMadeOf wire notes carried same
made_as None notes carried told same are made = (made.0, λ e. are e ∙ made.1 e)
made_as (Some wired) notes carried told same are made = record {
  below = made.below;
  below_is = made.below_is;
  near = made.near;
  near_is = λ e. are e ∙ made.near_is e;
  over = made.over;
}

-- ports that tell the same have the same account
pub account_as : (wire : Option PlannedWire) (told same : ℕ → Option Traffic) (notes : List Note) (account : Account)
    → ((e : ℕ) → same e ≡ told e) → IsAccount wire told notes account → IsAccount wire same notes account
account_as wire told same notes account are h = record {
  carried = h.carried;
  counted = h.counted;
  made = made_as wire notes h.carried told same are h.made;
  happened = h.happened;
}

pub account_if : (wire : Option PlannedWire) (told same : ℕ → Option Traffic) (notes : List Note)
    (found : Option Account)
    → ((e : ℕ) → same e ≡ told e) → IfSome found (IsAccount wire told notes) → IfSome found (IsAccount wire same notes)
account_if wire told same notes None are h = tt
account_if wire told same notes (Some account) are h = account_as wire told same notes account are h

-- ---- what is shown

-- all that is shown was taken
pub all_taken : (began told : ℕ → Option Traffic) (tape : Tape) → tape.whole ≡ true → tape.shown.items ≡ []
    → ∥ AreShown began told (all_shown tape) ∥₁
    → ∥ AreShown began (λ e. while_whole tape.whole (told e)) (taken_shown tape.taken) ∥₁
all_taken began told tape whole none shows =
    let all : all_shown tape ≡ taken_shown tape.taken =
    ap (λ l. taken_shown tape.taken ++ l) none ∙ append-nil (taken_shown tape.taken) in
    let kept : (e : ℕ) → told e ≡ while_whole tape.whole (told e) = λ e. ap (λ b. while_whole b (told e)) (sym whole) in
    ∥∥₁_map shows (λ h e. subst (λ t. WhereTold (AreShownOf e (taken_shown tape.taken)) (began e) t) (kept e)
    (subst (AreShown began told) all h e))

pub always_some : {A : Type 0} (found : Option A) (P : Type 0) → P → IfSome found (λ _. P)
always_some None P p = tt
always_some (Some x) P p = p
