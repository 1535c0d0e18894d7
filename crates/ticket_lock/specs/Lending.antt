-- What a holder ends as when its value was written through `value_mut`.
use Rattle.std.specs.Prelude.{[]}
use Rattle.std.specs.Borrow.{Lends, MutBor, Fml}
use denote.RattleType.{RattleType}
use mir.Syntax.{named}
use Rattle.ticket_lock.specs.declared.logged.Logged.{Ghosts}
use Rattle.ticket_lock.specs.declared.held.Held.{Held}
use Rattle.ticket_lock.specs.contracts.held.Held.{the_row}

-- the holder, with x in the place of its value
abbrev pub with_value : {T E S O : Type 0} → Held T E S O → T → Held T E S O
with_value h x = record h { value = x }

module _ (T E S O : RattleType) (g : Ghosts T.Denot E.Denot S.Denot O.Denot) where
  -- the holder ends with the last value after r. `named 1` is the place of its lifetime in the signature
  abbrev pub LendsValue : MutBor (Held T.Denot E.Denot S.Denot O.Denot) → MutBor T.Denot → Fml
  LendsValue h r = Lends (the_row (record { mir = named 1; lft = [] }) T E S O g) T h r (with_value h.now)
