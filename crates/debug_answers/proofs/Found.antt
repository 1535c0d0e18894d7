-- What was read is said by the words.
use Rattle.std.proofs.Common.{◌≡◌, ℕ, ◌<◌, ◌≤◌, ◌^◌, List, [], ◌∷◌, Ok, refl, subst, arith}
use Rattle.std.specs.Prelude.{codes}
use Rattle.std.specs.Fmt.{decimal}
use Rattle.object_defs.specs.declared.path.Path.{Path}
use Rattle.scenario_words.specs.Reading.{◌>>=◌, word_by, check_of_end}
use Rattle.scenario_words.specs.Number.{number_of}
use Rattle.scenario_words.specs.PathWord.{IsPath}
use Rattle.object_defs.specs.Path.{path_text}
use Rattle.scenario_words.proofs.PathLaws.{bind_ok}
use Rattle.debug_answers.specs.declared.command.Command.{Command}
use Rattle.debug_answers.specs.declared.command.Command.TheVariants as command
use Rattle.debug_answers.specs.declared.command.Point.{Point}
use Rattle.debug_answers.specs.declared.command.Point.TheVariants as point
use Rattle.debug_answers.specs.Saying.{IsBreakSaidBy, IsSaidBy}
use Rattle.debug_answers.specs.Reading.{only_number, device_and_path, byte_of, step_point, code_point, point_by}
use Rattle.debug_answers.specs.Reading.{break_point, about_device, command_by, command_of}
use Rattle.debug_answers.proofs.Arguments.{by_name, ended_read, taken, number_read, only_read, pair_read, byte_read}

-- what may follow a name: nothing, a number, a device and a path
alone : {A : Type 0} (Said : A → List (List ℕ) → Type 0) (x y : A) (w name : List ℕ) (ws : List (List ℕ))
    → Said x (name ∷ []) → w ≡ name → (check_of_end ws >>= (λ e. Ok x)) ≡ Ok y → Said y (w ∷ ws)
alone Said x y w name ws said same h =
    let end = ended_read ws x y h in
    let all : name ∷ [] ≡ w ∷ ws = cc (same, end.0) in
    subst (λ v. Said y v) all (subst (λ z. Said z (name ∷ [])) end.1 said)

numbered : {A : Type 0} (Said : A → List (List ℕ) → Type 0) (f : ℕ → A) (high : ℕ) (y : A) (w name : List ℕ)
    (ws : List (List ℕ))
    → high < 2 ^ 64 → ((n : ℕ) → n ≤ high → Said (f n) (name ∷ decimal n ∷ []))
    → w ≡ name → (only_number high ws >>= (λ n. Ok (f n))) ≡ Ok y → Said y (w ∷ ws)
numbered Said f high y w name ws small said same h =
    let b = bind_ok (only_number high ws) (λ n. Ok (f n)) y h in
    let n = only_read high b.0 ws small b.1 in
    let all : name ∷ decimal b.0 ∷ [] ≡ w ∷ ws = cc (same, n.0) in
    let is : f b.0 ≡ y = cc (b.2) in
    subst (λ v. Said y v) all (subst (λ z. Said z (name ∷ decimal b.0 ∷ [])) is (said b.0 n.1))

placed : {A : Type 0} (Said : A → List (List ℕ) → Type 0) (f : ℕ → Path → A) (y : A) (w name : List ℕ)
    (ws : List (List ℕ))
    → ((d : ℕ) (p : Path) → d < 2 ^ 16 → IsPath p → Said (f d p) (name ∷ decimal d ∷ path_text p ∷ []))
    → w ≡ name → (device_and_path ws >>= (λ x. Ok (f x.0 x.1))) ≡ Ok y → Said y (w ∷ ws)
placed Said f y w name ws said same h =
    let b = bind_ok (device_and_path ws) (λ x. Ok (f x.0 x.1)) y h in
    let pair = pair_read b.0 ws b.1 in
    let all : name ∷ decimal b.0.0 ∷ path_text b.0.1 ∷ [] ≡ w ∷ ws = cc (same, pair.0) in
    let is : f b.0.0 b.0.1 ≡ y = cc (b.2) in
    subst (λ v. Said y v) all (subst (λ z. Said z (name ∷ decimal b.0.0 ∷ path_text b.0.1 ∷ [])) is
    (said b.0.0 b.0.1 pair.1 pair.2))

-- ---- points

step_found : (ws : List (List ℕ)) (p : Point) (w : List ℕ) → w ≡ codes "step" → step_point ws ≡ Ok p
    → IsBreakSaidBy p (codes "break" ∷ w ∷ ws)
step_found ws p w same h =
    let first = taken (number_of 0 65535) ws
    (λ d. word_by (number_of 0 4294967295) d.1 >>= (λ k. check_of_end k.1 >>= (λ e. Ok (point.Step d.0 k.0)))) p h in
    let second = taken (number_of 0 4294967295) first.others
    (λ k. check_of_end k.1 >>= (λ e. Ok (point.Step first.value k.0))) p first.rest in
    let end = ended_read second.others (point.Step first.value second.value) p second.rest in
    let device = number_read 65535 first.value first.word (omega arith) first.first in
    let count = number_read 4294967295 second.value second.word (omega arith) second.first in
    subst (λ q. IsBreakSaidBy q (codes "break" ∷ w ∷ ws)) end.1
    (cc (same, first.all, second.all, device.0, count.0, end.0), omega (arith, device.1), omega (arith, count.1))

code_found : (ws : List (List ℕ)) (p : Point) (w : List ℕ) → w ≡ codes "code" → code_point ws ≡ Ok p
    → IsBreakSaidBy p (codes "break" ∷ w ∷ ws)
code_found ws p w same h =
    let first = taken (number_of 0 65535) ws
    (λ d. word_by byte_of d.1 >>= (λ c. check_of_end c.1 >>= (λ e. Ok (point.Code d.0 c.0)))) p h in
    let second = taken byte_of first.others (λ c. check_of_end c.1 >>= (λ e. Ok (point.Code first.value c.0))) p
    first.rest in
    let end = ended_read second.others (point.Code first.value second.value) p second.rest in
    let device = number_read 65535 first.value first.word (omega arith) first.first in
    let byte = byte_read second.word second.value second.first in
    subst (λ q. IsBreakSaidBy q (codes "break" ∷ w ∷ ws)) end.1
    (byte.0, byte.1, cc (same, first.all, second.all, device.0, byte.2, end.0), omega (arith, device.1), byte.3)

abbrev AfterBreak : Point → List (List ℕ) → Type 0
AfterBreak p ws = IsBreakSaidBy p (codes "break" ∷ ws)

point_found : (w : List ℕ) (ws : List (List ℕ)) (p : Point) → point_by w ws ≡ Ok p → AfterBreak p (w ∷ ws)
point_found w ws p =
    by_name w (codes "at") _ _ p (AfterBreak p (w ∷ ws))
    (numbered AfterBreak (λ n. point.At n) 18446744073709551615 p w (codes "at") ws (omega arith)
    (λ n h. (refl, omega (arith, h))))
    (by_name w (codes "step") _ _ p (AfterBreak p (w ∷ ws)) (step_found ws p w)
    (by_name w (codes "changed") _ _ p (AfterBreak p (w ∷ ws))
    (placed AfterBreak (λ d q. point.Changed d q) p w (codes "changed") ws (λ d q h k. (refl, h, k)))
    (by_name w (codes "code") _ _ p (AfterBreak p (w ∷ ws)) (code_found ws p w)
    (by_name w (codes "notified") _ _ p (AfterBreak p (w ∷ ws))
    (numbered AfterBreak (λ d. point.Notified d) 65535 p w (codes "notified") ws (omega arith)
    (λ d h. (refl, omega (arith, h))))
    (λ h. cc)))))

break_found : (ws : List (List ℕ)) (c : Command) (w : List ℕ) → w ≡ codes "break" → break_point ws ≡ Ok c
    → IsSaidBy c (w ∷ ws)
break_found [] c w same h = cc
break_found (v ∷ ws) c w same h =
    let b = bind_ok (point_by v ws) (λ p. Ok (command.Break p)) c h in
    let is : command.Break b.0 ≡ c = cc (b.2) in
    let all : codes "break" ∷ v ∷ ws ≡ w ∷ v ∷ ws = cc (same) in
    subst (λ u. IsSaidBy c u) all (subst (λ d. IsSaidBy d (codes "break" ∷ v ∷ ws)) is (point_found v ws b.0 b.1))

-- ---- commands

device_found : (w : List ℕ) (ws : List (List ℕ)) (c : Command) → about_device w ws ≡ Ok c → IsSaidBy c (w ∷ ws)
device_found w ws c =
    by_name w (codes "break") _ _ c (IsSaidBy c (w ∷ ws)) (break_found ws c w)
    (by_name w (codes "clear") _ _ c (IsSaidBy c (w ∷ ws))
    (numbered IsSaidBy (λ n. command.Clear n) 255 c w (codes "clear") ws (omega arith)
    (λ n h. (refl, omega (arith, h))))
    (by_name w (codes "value") _ _ c (IsSaidBy c (w ∷ ws))
    (placed IsSaidBy (λ d q. command.Value d q) c w (codes "value") ws (λ d q h k. (refl, h, k)))
    (by_name w (codes "obs") _ _ c (IsSaidBy c (w ∷ ws))
    (numbered IsSaidBy (λ d. command.Observations d) 65535 c w (codes "obs") ws (omega arith)
    (λ d h. (refl, omega (arith, h))))
    (by_name w (codes "out") _ _ c (IsSaidBy c (w ∷ ws))
    (numbered IsSaidBy (λ d. command.Outputs d) 65535 c w (codes "out") ws (omega arith)
    (λ d h. (refl, omega (arith, h))))
    (by_name w (codes "why") _ _ c (IsSaidBy c (w ∷ ws))
    (numbered IsSaidBy (λ d. command.Why d) 65535 c w (codes "why") ws (omega arith)
    (λ d h. (refl, omega (arith, h))))
    (λ h. cc))))))

by_found : (w : List ℕ) (ws : List (List ℕ)) (c : Command) → command_by w ws ≡ Ok c → IsSaidBy c (w ∷ ws)
by_found w ws c =
    by_name w (codes "at") _ _ c (IsSaidBy c (w ∷ ws)) (alone IsSaidBy command.At c w (codes "at") ws refl)
    (by_name w (codes "forward") _ _ c (IsSaidBy c (w ∷ ws))
    (numbered IsSaidBy (λ n. command.Forward n) 18446744073709551615 c w (codes "forward") ws (omega arith)
    (λ n h. (refl, omega (arith, h))))
    (by_name w (codes "back") _ _ c (IsSaidBy c (w ∷ ws))
    (numbered IsSaidBy (λ n. command.Back n) 18446744073709551615 c w (codes "back") ws (omega arith)
    (λ n h. (refl, omega (arith, h))))
    (by_name w (codes "resume") _ _ c (IsSaidBy c (w ∷ ws)) (alone IsSaidBy command.Resume c w (codes "resume") ws refl)
    (by_name w (codes "quit") _ _ c (IsSaidBy c (w ∷ ws)) (alone IsSaidBy command.Quit c w (codes "quit") ws refl)
    (device_found w ws c)))))

pub found : (ws : List (List ℕ)) (c : Command) → command_of ws ≡ Ok c → IsSaidBy c ws
found [] c h = cc
found (w ∷ ws) c h = by_found w ws c h
