-- The steps of turns are made of what came.
use Rattle.std.proofs.Common.{◌≡◌, ℕ, zero, suc, ◌+◌, ◌≤◌, inl, inr, cond, nat_lt, true, List, [], ◌∷◌, ◌++◌, length}
use Rattle.std.proofs.Common.{filter, Option, None, Some, refl, sym, ap, ◌∙◌, append-nil, arith}
use Rattle.std.specs.List.{cons_option, filter_map}
use Rattle.std.proofs.lemmas.Bool.Decides.{nat_tests}
use Rattle.std.proofs.lemmas.List.Elements.{filter-append, filter_map-append}
use Rattle.scenario_image.specs.declared.step.Step.{Step}
use Rattle.live_link.specs.declared.packet.Packet.{Packet}
use Rattle.live_link.specs.declared.session.LiveEnd.{LiveEnd}
use Rattle.live_link.specs.declared.session.LiveEnd.TheVariants.{Turns, ReceiveFault, SendFault, Memory, Spent}
use Rattle.live_link.specs.Came.{handed_by, heard_by, heard_in, tick_in, ticks_of}
use Rattle.live_link.specs.Live.{heard_steps, tick_steps, turn_steps, AreCountsAt}
use Rattle.live_link.specs.Served.{AreMade}

no_heard : (s : ℕ) → heard_by (tick_steps s) ≡ []
no_heard zero = refl
no_heard (suc n) = refl

one_heard : (r : Option Packet) → heard_by (heard_steps r) ≡ handed_by (r ∷ [])
one_heard None = refl
one_heard (Some packet) = refl

no_ticks : (r : Option Packet) → ticks_of (heard_steps r) ≡ []
no_ticks None = refl
no_ticks (Some packet) = refl

one_tick : (s : ℕ) → ticks_of (tick_steps s) ≡ filter (nat_lt 0) (s ∷ [])
one_tick zero = refl
one_tick (suc n) =
    let t : nat_lt 0 (suc n) ≡ true = grind (arith, nat_tests) in sym (ap (λ b. cond b (suc n ∷ []) []) t)

turns_heard : (seconds : List ℕ) (received : List (Option Packet)) → length received ≤ length seconds
    → heard_by (turn_steps seconds received) ≡ handed_by received
turns_heard [] [] le = refl
turns_heard [] (r ∷ received) le = absurd (omega (arith, le))
turns_heard (s ∷ seconds) [] le =
    filter_map-append heard_in (tick_steps s) (turn_steps seconds [])
    ∙ ap (λ l. l ++ heard_by (turn_steps seconds [])) (no_heard s) ∙ turns_heard seconds [] (omega arith)
turns_heard (s ∷ seconds) (r ∷ received) le =
    filter_map-append heard_in (tick_steps s ++ heard_steps r) (turn_steps seconds received)
    ∙ ap (λ l. l ++ heard_by (turn_steps seconds received)) (filter_map-append heard_in (tick_steps s) (heard_steps r)
    ∙ ap (λ l. l ++ heard_by (heard_steps r)) (no_heard s) ∙ one_heard r)
    ∙ ap (λ l. handed_by (r ∷ []) ++ l) (turns_heard seconds received (omega (arith, le)))
    ∙ sym (filter_map-append (λ (x : Option Packet). x) (r ∷ []) received)

filter_push : (s : ℕ) (seconds : List ℕ)
    → filter (nat_lt 0) (s ∷ []) ++ filter (nat_lt 0) seconds ≡ filter (nat_lt 0) (s ∷ seconds)
filter_push s seconds = sym (filter-append (nat_lt 0) (s ∷ []) seconds)

turns_ticked : (seconds : List ℕ) (received : List (Option Packet))
    → ticks_of (turn_steps seconds received) ≡ filter (nat_lt 0) seconds
turns_ticked [] received = refl
turns_ticked (s ∷ seconds) [] =
    filter_map-append tick_in (tick_steps s) (turn_steps seconds [])
    ∙ ap (λ l. l ++ ticks_of (turn_steps seconds [])) (one_tick s)
    ∙ ap (λ l. filter (nat_lt 0) (s ∷ []) ++ l) (turns_ticked seconds []) ∙ filter_push s seconds
turns_ticked (s ∷ seconds) (r ∷ received) =
    filter_map-append tick_in (tick_steps s ++ heard_steps r) (turn_steps seconds received)
    ∙ ap (λ l. l ++ ticks_of (turn_steps seconds received)) (filter_map-append tick_in (tick_steps s) (heard_steps r)
    ∙ ap (λ l. l ++ ticks_of (heard_steps r)) (one_tick s)
    ∙ ap (λ l. filter (nat_lt 0) (s ∷ []) ++ l) (no_ticks r) ∙ append-nil (filter (nat_lt 0) (s ∷ [])))
    ∙ ap (λ l. filter (nat_lt 0) (s ∷ []) ++ l) (turns_ticked seconds received) ∙ filter_push s seconds

few_calls : (end : LiveEnd) (turns readings calls : ℕ) → AreCountsAt end turns readings calls → calls ≤ readings
few_calls Turns turns readings calls (r, c) = omega (arith, r, c)
few_calls ReceiveFault turns readings calls (r, c) = omega (arith, c)
few_calls SendFault turns readings calls (r, inl c) = omega (arith, c)
few_calls SendFault turns readings calls (r, inr c) = omega (arith, c)
few_calls Memory turns readings calls (r, inl c) = omega (arith, c)
few_calls Memory turns readings calls (r, inr c) = omega (arith, c)
few_calls Spent turns readings calls (r, inl c) = omega (arith, c)
few_calls Spent turns readings calls (r, inr c) = omega (arith, c)

few_more : {B : Type 0} (o : Option B) (ys : List B) (n : ℕ) → length ys ≤ n
    → length (cons_option o ys) ≤ n + 1
few_more None ys n h = omega (arith, h)
few_more (Some y) ys n h = omega (arith, h)

few_kept : {A B : Type 0} (f : A → Option B) (xs : List A) → length (filter_map f xs) ≤ length xs
few_kept f [] = omega arith
few_kept f (x ∷ xs) = omega (arith, few_more (f x) (filter_map f xs) (length xs) (few_kept f xs))

pub all_heard : (end : LiveEnd) (turns refusals : ℕ) (readings : List ℕ) (received : List (Option Packet))
    (steps refused : List Step) → AreMade end turns refusals readings received steps refused
    → (unheard : List Packet) × (handed_by received ≡ heard_by steps ++ unheard)
    × (length unheard ≤ length refused)
all_heard end turns refusals readings received steps refused h =
    let le = few_calls end turns (length readings) (length received) h.counts in (
      heard_by refused,
      sym (turns_heard h.seconds received (omega (arith, le, h.passed.count))) ∙ ap heard_by h.given
          ∙ filter_map-append heard_in steps refused,
      few_kept heard_in refused,
    )

pub all_ticked : (end : LiveEnd) (turns refusals : ℕ) (readings : List ℕ) (received : List (Option Packet))
    (steps refused : List Step) (h : AreMade end turns refusals readings received steps refused)
    → (unticked : List ℕ) × (filter (nat_lt 0) h.seconds ≡ ticks_of steps ++ unticked)
    × (length unticked ≤ length refused)
all_ticked end turns refusals readings received steps refused h = (
  ticks_of refused,
  sym (turns_ticked h.seconds received) ∙ ap ticks_of h.given ∙ filter_map-append tick_in steps refused,
  few_kept tick_in refused,
)
