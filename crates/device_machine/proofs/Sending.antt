-- What is sent, one datagram after the other.
use Rattle.std.proofs.Common.{◌≡◌, ◌≤◌, List, [], ◌∷◌, ◌++◌, map, length, refl, ap, sym, arith, ◌∙◌}
use Rattle.std.proofs.lemmas.List.{append_assoc, length-append, map-append}
use Rattle.device_notifications.specs.declared.datagram.Datagram.{Datagram}
use Rattle.device_machine.specs.Reactions.{send_of}
use Rattle.device_machine.specs.declared.output.Output.{Output}

-- after what is there already, one more
pub one_more : (os : List Output) (ds : List Datagram) (d : Datagram)
    → (os ++ map send_of ds) ++ send_of d ∷ [] ≡ os ++ map send_of (ds ++ d ∷ [])
one_more os ds d =
    append_assoc os (map send_of ds) (send_of d ∷ []) ∙ ap (λ xs. os ++ xs) (sym (map-append send_of ds (d ∷ [])))

-- the last of one at most is the only one
pub alone : (ds rest : List Datagram) (d : Datagram) → ds ≡ rest ++ d ∷ [] → length ds ≤ 1 → ds ≡ d ∷ []
alone ds [] d is few = is
alone ds (x ∷ rest) d is few =
    let count = ap (λ xs. length xs) is ∙ length-append (x ∷ rest) (d ∷ []) in absurd (omega (arith, count, few))
