-- Message IDs that follow one another, and what they are given to.
use Rattle.std.proofs.Common.{◌≡◌, ℕ, zero, suc, ◌+◌, ◌%◌, ◌<◌, List, [], ◌∷◌, ◌++◌, slice_get, Some}
use Rattle.std.proofs.Common.{refl, sym, ap, subst, ◌∙◌, arith}
use Rattle.std.specs.List.{AllByRecursion}
use Rattle.std.proofs.lemmas.List.{append-nil, append_assoc}
use Rattle.std.proofs.lemmas.Option.{same_Some}
use Rattle.device_machine.specs.declared.event.Event.{Event}
use Rattle.device_machine.specs.declared.output.Output.{Output}
use Rattle.device_machine.specs.Reactions.{flat_after, outputs_of}
use Rattle.device_machine.specs.State.{Machine}
use Rattle.device_machine.specs.Template.{start_of}
use Rattle.laws_device.specs.Numbering.{ArrivesInBytes, CountOn, EventsNumberOn, GiveAll, GiveInRow, Gives}
use Rattle.laws_device.specs.Numbering.{HasSent, RowsCountFrom0, StartsUnsent}
use Rattle.laws_device.specs.Serving.{id_after}

-- ---- counting

pub count_both : (xs ys : List ℕ) (a b c : ℕ) → CountOn a xs b → CountOn b ys c → CountOn a (xs ++ ys) c
count_both [] ys a b c h k = subst (λ n. CountOn n ys c) h k
count_both (x ∷ xs) ys a b c h k = (h.0, count_both xs ys (id_after a) b c h.1 k)

first_counted : (next x mid : ℕ) → next < 65536 → x ≡ next → x ≡ mid → mid ≡ (next + 0) % 65536
first_counted next x mid h is same = omega (arith, h, is, same)

next_counted : (next k mid : ℕ) → mid ≡ ((next + 1) % 65536 + k) % 65536 → mid ≡ (next + suc k) % 65536
next_counted next k mid h = omega (arith, h)

id_within : (n : ℕ) → id_after n < 65536
id_within n = omega arith

-- each of them by its place
pub counted : (mids : List ℕ) (next last : ℕ) → CountOn next mids last → next < 65536 → (k mid : ℕ)
    → slice_get mids k ≡ Some mid → mid ≡ (next + k) % 65536
counted [] next last h within k mid is = cc
counted (x ∷ mids) next last h within zero mid is = first_counted next x mid within h.0 (same_Some x mid is)
counted (x ∷ mids) next last h within (suc k) mid is =
    next_counted next k mid (counted mids (id_after next) last h.1 (id_within next) k mid is)

from_0 : (k mid : ℕ) → mid ≡ (0 + k) % 65536 → mid ≡ k % 65536
from_0 k mid h = omega (arith, h)

apart : (j k a b : ℕ) → j < k → k < j + 65536 → a ≡ j % 65536 → b ≡ k % 65536 → a ≡ b → ⊥
apart j k a b less near h i same = omega (arith, less, near, h, i, same)

-- ---- giving

pub give_both : (event : Event) (before xs ys : List Output) (a b : List ℕ) → GiveAll event before xs a
    → GiveAll event (before ++ xs) ys b → GiveAll event before (xs ++ ys) (a ++ b)
give_both event before [] ys a b h k =
    subst (λ mids. GiveAll event before ys (mids ++ b)) (sym h)
    (subst (λ os. GiveAll event os ys b) (append-nil before) k)
give_both event before (x ∷ xs) ys a b (own, rest, gives, all, is) k = (
  own,
  rest ++ b,
  gives,
  give_both event (before ++ x ∷ []) xs ys rest b all
      (subst (λ os. GiveAll event os ys b) (sym (append_assoc before (x ∷ []) xs)) k),
  ap (λ mids. mids ++ b) is ∙ append_assoc own rest b,
)

-- these outputs are given message IDs from this one on, and this is the next one then
pub record Given (event : Event) (before : List Output) (next : ℕ) (os : List Output) (last : ℕ) : Type 0 where
  pub mids : List ℕ
  pub gives : GiveAll event before os mids
  pub count : CountOn next mids last

pub given_none : (event : Event) (before : List Output) (next : ℕ) → Given event before next [] next
given_none event before next = record { mids = []; gives = refl; count = refl }

pub given_own : (event : Event) (before : List Output) (next mid : ℕ) (o : Output)
    → Gives event before o (mid ∷ []) → mid ≡ next → Given event before next (o ∷ []) (id_after next)
given_own event before next mid o h is =
    record { mids = mid ∷ []; gives = (mid ∷ [], [], h, refl, refl); count = (is, refl) }

pub given_free : (event : Event) (before : List Output) (next : ℕ) (o : Output) → Gives event before o []
    → Given event before next (o ∷ []) next
given_free event before next o h = record { mids = []; gives = ([], [], h, refl, refl); count = refl }

pub given_both : (event : Event) (before xs ys : List Output) (a b c : ℕ) → Given event before a xs b
    → Given event (before ++ xs) b ys c → Given event before a (xs ++ ys) c
given_both event before xs ys a b c h k =
    record {
      mids = h.mids ++ k.mids;
      gives = give_both event before xs ys h.mids k.mids h.gives k.gives;
      count = count_both h.mids k.mids a b c h.count k.count;
    }

-- ---- rows

-- the message IDs given in a row of events count on
record Rows (before : List Output) (f : Machine) (events : List Event) : Type 0 where
  mids : List ℕ
  last : ℕ
  gives : GiveInRow before f events mids
  count : CountOn f.kept.next_id mids last

in_row : EventsNumberOn → (events : List Event) (before : List Output) (f : Machine)
    → AllByRecursion ArrivesInBytes events → HasSent before f → Rows before f events
in_row on [] before f bytes h = record { mids = []; last = f.kept.next_id; gives = refl; count = refl }
in_row on (event ∷ events) before f bytes h =
    let first = on before f event bytes.0 h in
    let rest = in_row on events (before ++ outputs_of f event) (flat_after f event) bytes.1 first.has_sent in
    record {
      mids = first.mids ++ rest.mids;
      last = rest.last;
      gives = (first.mids, rest.mids, first.gives, rest.gives, refl);
      count = count_both first.mids rest.mids f.kept.next_id (flat_after f event).kept.next_id rest.last first.count
          rest.count;
    }

pub rows_count : StartsUnsent → EventsNumberOn → RowsCountFrom0
rows_count starts on class events bytes =
    let row = in_row on events [] (record { kept = start_of class; recorded = [] }) bytes (starts class) in
    let at = λ (k mid : ℕ) (is : slice_get row.mids k ≡ Some mid).
    from_0 k mid (counted row.mids 0 row.last row.count (omega arith) k mid is) in
    record {
      mids = row.mids;
      gives = row.gives;
      counted = λ k mid is. at k mid is;
      differ = λ j k a b less near h i. apart j k a b less near (at j a h) (at k b i);
    }
