-- What each step makes of the view of the pass that steps, and what it tells the pass.
use Rattle.std.specs.Prelude.{◌≡◌, ◌≢◌, ℕ, ◌+◌, ◌-◌, ◌/◌, ◌≤◌, true, false, ◌||◌, ◌==◌, if◌then◌else◌, List, [], ◌∷◌}
use Rattle.std.specs.Prelude.{◌++◌, length, take, drop, Option, Some, None, min, nat_lt}
use Rattle.atomic_table.specs.Table.{Me, Step}
use Rattle.ticket_lock.specs.declared.rule.TheConstants.{NUMBERS, LAST}
use Rattle.ticket_lock.specs.declared.rule.View.{View}
use Rattle.ticket_lock.specs.declared.rule.Stage.{Stage}
use Rattle.ticket_lock.specs.declared.rule.Stage.TheVariants.{Spent, Resting, Waiting, Inside}
use Rattle.ticket_lock.specs.Log.{Reading, Begins, shares}
use Rattle.ticket_lock.specs.Lock.{IsAware, is_live, is_resting}

-- the longer of two lists, and the other one
abbrev pub longer_of : {E : Type 0} → List E → List E → List E
longer_of a b = if nat_lt (length a) (length b) then b else a

abbrev pub shorter_of : {E : Type 0} → List E → List E → List E
shorter_of a b = if nat_lt (length a) (length b) then a else b

-- the ticket after the one whose turn it is, where that is known
abbrev pub turn_after : Option ℕ → Option ℕ
turn_after None = None
turn_after (Some t) = Some (t + 1)

module _ {T E S O : Type 0} where
  -- a seat that is not a pass any more
  abbrev pub empty_view : View T E S O
  empty_view = record {
    low = 0;
    count = 0;
    end = false;
    turn = None;
    stage = Spent;
    front = [];
    earlier = [];
    subject = None;
    shares = [];
  }

  -- it has seen that no ticket is left
  abbrev pub with_end_seen : View T E S O → View T E S O
  with_end_seen v = record v { end = true }

  abbrev pub with_stage : View T E S O → Stage T → View T E S O
  with_stage v stage = record v { stage = stage }

  -- the lowest number alone
  abbrev pub lower_part : View T E S O → View T E S O
  lower_part v = record v { count = 1; turn = None; shares = take 1 v.shares }

  -- the numbers above the lowest
  abbrev pub upper_part : View T E S O → View T E S O
  upper_part v = record v { low = v.low + 1; count = v.count - 1; turn = None; shares = drop 1 v.shares }

  -- two neighbours as one pass, whichever has the lower numbers
  abbrev pub joined_view : View T E S O → View T E S O → View T E S O
  joined_view v w = record {
    low = min v.low w.low;
    count = v.count + w.count;
    end = v.end || w.end;
    turn = None;
    stage = Resting;
    front = longer_of v.front w.front;
    earlier = shorter_of v.front w.front;
    subject = v.subject;
    shares = if nat_lt v.low w.low then v.shares ++ w.shares else w.shares ++ v.shares;
  }

  -- where the word `next` was the one expected, the pass has it as its ticket
  abbrev pub Drew : Step (Option T) → Me (Option T) (View T E S O) → ℕ → Me (Option T) (View T E S O) → Type 0
  Drew st m found n = (found ≡ st.first → n ≡ (with_stage m.0 (Waiting st.first), m.1)) × (found ≢ st.first → n ≡ m)

module _ {T E S O : Type 0} (R : Reading T E S O) where
  -- the first pass, which holds all numbers, where the first ticket is t
  abbrev pub opening_view : T → ℕ → View T E S O
  opening_view x t = record {
    low = 1;
    count = NUMBERS;
    end = t == LAST;
    turn = Some t;
    stage = Resting;
    front = R.entries x;
    earlier = [];
    subject = Some (R.subject x);
    shares = shares R x 1 NUMBERS;
  }

  -- inside with the ticket t, the pass has seen the log of the value as found
  abbrev pub view_inside : View T E S O → ℕ → T → View T E S O
  view_inside v t x = record v { stage = Inside t x; front = R.entries x }

  -- after the value was given back as x
  abbrev pub view_after_give : View T E S O → T → View T E S O
  view_after_give v x = record v {
    turn = turn_after v.turn;
    stage = Resting;
    front = R.entries x;
    shares = shares R x v.low v.count;
  }

  -- The word `next` was found: the pass has seen the end if that is `LAST`, and otherwise is as it was. The other
  -- fields are what the rule says of the pass
  pub record Looked (st : Step (Option T)) (m : Me (Option T) (View T E S O)) (found : ℕ)
      (n : Me (Option T) (View T E S O)) : Type 0 where
    pub most : found ≤ LAST
    pub last : found ≡ LAST → n ≡ (with_end_seen m.0, m.1)
    pub other : found ≢ LAST → n ≡ m
    pub seen_end : m.0.end ≡ true → found ≡ LAST
    pub turn : (t : ℕ) → m.0.turn ≡ Some t → is_resting m.0.stage ≡ true → found ≡ t
    pub aware : is_live m.0.stage ≡ true → (value : T) × IsAware R value m.0
    pub earlier : Begins m.0.earlier m.0.front

  -- where the word `serving` was twice the ticket, the pass is inside with the value
  abbrev pub Entered : Step (Option T) → Me (Option T) (View T E S O) → ℕ → Me (Option T) (View T E S O) → Type 0
  Entered st m found n =
      (found ≡ st.first
      → (value : T) × IsAware R value m.0 × (n ≡ (view_inside m.0 (st.first / 2) value, (0, Some value) ∷ m.1)))
      × (found ≢ st.first → n ≡ m)

  -- the value in the slot was given back
  abbrev pub Left : Step (Option T) → Me (Option T) (View T E S O) → ℕ → Me (Option T) (View T E S O) → Type 0
  Left st m found n = (value : T) → m.1 ≡ (0, Some value) ∷ [] → n ≡ (view_after_give m.0 value, [])
