use Rattle.std.proofs.Common.{◌≡◌, ◌⊎◌, inl, inr, ◌+◌, ◌<◌, ◌≤◌, ◌∷◌, [], ◌++◌, ℕ, zero, suc, List, length, slice_get, None, Some}
use Rattle.std.proofs.Common.{sym, ap, ◌∙◌, arith}
use Rattle.std.proofs.lemmas.Bool.{cases_lt}
use Rattle.lemmas.proofs.Lists.{item_pushed, length_pushed}
use Rattle.fleet_link.specs.Udp.{AreFrom}
use Rattle.fleet_link.proofs.udp.open_doors.Goals as goal

still : (ports : List ℕ) (more d port : ℕ) → slice_get ports d ≡ Some port
    → slice_get (ports ++ more ∷ []) d ≡ Some port
still [] more d port h = let e : None ≡ Some port = h in absurd cc
still (x ∷ ports) more zero port h = h
still (x ∷ ports) more (suc d) port h = still ports more d port h

-- the next port is the one after them
from_more : (port : ℕ) (ports more : List ℕ) (next : ℕ) → AreFrom port ports → more ≡ ports ++ next ∷ []
    → next ≡ port + length ports → AreFrom port more
from_more port ports more next h is after d l = by_place (cases_lt d (length ports))
  where
    by_place : (d < length ports) ⊎ (length ports ≤ d) → slice_get more d ≡ Some (port + d)
    by_place (inl before) = ap (λ l. slice_get l d) is ∙ still ports next d (port + d) (h d before)
    by_place (inr le) =
        let here : d ≡ length ports = omega (arith, l, le, ap length is, length_pushed ports next) in
        ap (λ l. slice_get l d) is ∙ ap (slice_get (ports ++ next ∷ [])) here ∙ item_pushed ports next
        ∙ ap (λ n. Some n) (after ∙ ap (λ n. port + n) (sym here))

pub loop-place-preserved : goal.loop-place-preserved
loop-place-preserved g c =
    let at = c.loop-place in
    record {
      doors = omega (
        arith,
        at.invariant.doors,
        ap length c.in_ok-push-2.ensures.items,
        length_pushed at.doors.items c.in_ok-door.door,
      );
      ports = omega (
        arith,
        at.invariant.ports,
        ap length c.in_ok-push.ensures.items,
        length_pushed at.numbers.items c.in_ok-bound_port.field-0,
      );
      from = λ some.
          let within = c.requires.within some in
          let few : c.args.port + at.place < 65536 = omega (arith, within, c.loop-place-test.true) in
          let wanted : c.wanted_port-wanted.result ≡ c.args.port + at.place =
          c.wanted_port-wanted.ensures some few in
          let bound : c.in_ok-bound_port.field-0 ≡ c.wanted_port-wanted.result =
          c.in_ok-bound_port.ensures.wanted (omega (arith, wanted, some)) in
          from_more c.args.port at.numbers.items c.push.new.self.items c.in_ok-bound_port.field-0
          (at.invariant.from some) c.in_ok-push.ensures.items
          (omega (arith, bound, wanted, at.invariant.ports));
    }
