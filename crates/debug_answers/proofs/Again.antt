-- What words say is read.
use Rattle.std.proofs.Common.{◌≡◌, ℕ, ◌<◌, ◌≤◌, ◌^◌, List, [], ◌∷◌, Result, Ok, Err, Some, refl, ap, sym, ◌∙◌, arith}
use Rattle.std.specs.Prelude.{IfSome, IfNone, codes}
use Rattle.std.specs.Result.{result_ok}
use Rattle.std.specs.Fmt.{decimal}
use Rattle.object_defs.specs.declared.path.Path.{Path}
use Rattle.scenario_words.specs.declared.cause.Cause.{Cause}
use Rattle.scenario_words.specs.declared.cause.Cause.TheVariants.{UnknownWord}
use Rattle.scenario_words.specs.Reading.{◌>>=◌, Reads}
use Rattle.scenario_words.specs.Number.{number_of}
use Rattle.scenario_words.specs.PathWord.{IsPath}
use Rattle.object_defs.specs.Path.{path_text}
use Rattle.scenario_words.proofs.NumberLaws.{number_of-law}
use Rattle.scenario_words.proofs.PathLaws.{path_again}
use Rattle.debug_answers.specs.declared.command.Command.{Command}
use Rattle.debug_answers.specs.declared.command.Command.TheVariants as command
use Rattle.debug_answers.specs.declared.command.Point.{Point}
use Rattle.debug_answers.specs.declared.command.Point.TheVariants as point
use Rattle.debug_answers.specs.Saying.{IsBreakSaidBy, IsSaidBy}
use Rattle.debug_answers.specs.Reading.{only_number, device_and_path, command_of}
use Rattle.debug_answers.proofs.Arguments.{byte_again}
use Rattle.debug_answers.proofs.Found.{found}

number_again : (high n : ℕ) → high < 2 ^ 64 → n ≤ high → number_of 0 high (decimal n) ≡ Ok n
number_again high n small h = (number_of-law 0 high n (decimal n) small).1 (refl, omega arith, h)

only_again : (high n : ℕ) → high < 2 ^ 64 → n ≤ high → only_number high (decimal n ∷ []) ≡ Ok n
only_again high n small h = rw (number_again high n small h) refl

pair_again : (d : ℕ) (p : Path) → d < 2 ^ 16 → IsPath p → device_and_path (decimal d ∷ path_text p ∷ []) ≡ Ok (d, p)
pair_again d p small h = rw (number_again 65535 d (omega arith) (omega arith), path_again p h) refl

abbrev becomes : {A B : Type 0} → (A → B) → A → Result B Cause
becomes f x = Ok (f x)

numbered : (f : ℕ → Command) (high n : ℕ) → high < 2 ^ 64 → n ≤ high
    → (only_number high (decimal n ∷ []) >>= becomes f) ≡ Ok (f n)
numbered f high n small h = ap (λ r. r >>= becomes f) (only_again high n small h)

abbrev broken : Result Point Cause → Result Command Cause
broken r = r >>= (λ p. Ok (command.Break p))

point_again : (p : Point) (ws : List (List ℕ)) → IsBreakSaidBy p ws → command_of ws ≡ Ok (command.Break p)
point_again (point.At n) ws h =
    ap command_of h.0
    ∙ ap (λ r. broken (r >>= (λ m. Ok (point.At m))))
    (only_again 18446744073709551615 n (omega arith) (omega (arith, h.1)))
point_again (point.Step d k) ws h =
    ap command_of h.0
    ∙ rw (
      number_again 65535 d (omega arith) (omega (arith, h.1)),
      number_again 4294967295 k (omega arith)
          (omega (arith, h.2)),
    ) refl
point_again (point.Changed d p) ws h =
    ap command_of h.0 ∙ ap (λ r. broken (r >>= (λ x. Ok (point.Changed x.0 x.1)))) (pair_again d p h.1 h.2)
point_again (point.Code d c) ws h =
    ap command_of h.2
    ∙ rw (number_again 65535 d (omega arith) (omega (arith, h.3)), byte_again c h.0 h.1 h.4) refl
point_again (point.Notified d) ws h =
    ap command_of h.0 ∙ ap (λ r. broken (r >>= (λ m. Ok (point.Notified m))))
    (only_again 65535 d (omega arith) (omega (arith, h.1)))

pub again : (c : Command) (ws : List (List ℕ)) → IsSaidBy c ws → command_of ws ≡ Ok c
again command.At ws h = ap command_of h
again (command.Forward n) ws h =
    ap command_of h.0 ∙ numbered (λ m. command.Forward m) 18446744073709551615 n (omega arith) (omega (arith, h.1))
again (command.Back n) ws h =
    ap command_of h.0 ∙ numbered (λ m. command.Back m) 18446744073709551615 n (omega arith) (omega (arith, h.1))
again (command.Break p) ws h = point_again p ws h
again (command.Clear id) ws h =
    ap command_of h.0 ∙ numbered (λ m. command.Clear m) 255 id (omega arith) (omega (arith, h.1))
again command.Resume ws h = ap command_of h
again (command.Value d p) ws h =
    ap command_of h.0 ∙ ap (λ r. r >>= (λ x. Ok (command.Value x.0 x.1))) (pair_again d p h.1 h.2)
again (command.Observations d) ws h =
    ap command_of h.0 ∙ numbered (λ m. command.Observations m) 65535 d (omega arith) (omega (arith, h.1))
again (command.Outputs d) ws h =
    ap command_of h.0 ∙ numbered (λ m. command.Outputs m) 65535 d (omega arith) (omega (arith, h.1))
again (command.Why d) ws h =
    ap command_of h.0 ∙ numbered (λ m. command.Why m) 65535 d (omega arith) (omega (arith, h.1))
again command.Quit ws h = ap command_of h

-- `help` says no command
pub help_apart : (c : Command) (ws : List (List ℕ)) → ws ≡ codes "help" ∷ [] → IsSaidBy c ws → ⊥
help_apart c ws help h = let e : Err UnknownWord ≡ Ok c = sym (ap command_of help) ∙ again c ws h in cc (e)

pub one : (c d : Command) (ws : List (List ℕ)) → IsSaidBy c ws → IsSaidBy d ws → c ≡ d
one c d ws h k = let e : Ok c ≡ Ok d = sym (again c ws h) ∙ again d ws k in cc (e)

-- ---- what a reader of lines answers

pub read_said : (r : Result Command Cause) (ws : List (List ℕ)) → Reads (λ c. c) r (command_of ws)
    → IfSome (result_ok r) (λ c. IsSaidBy c ws)
read_said (Ok c) ws h = found ws c h
read_said (Err e) ws h = tt

pub read_again : (r : Result Command Cause) (ws : List (List ℕ)) → Reads (λ c. c) r (command_of ws) → (c : Command)
    → IsSaidBy c ws → result_ok r ≡ Some c
read_again (Ok d) ws h c k = let e : Ok d ≡ Ok c = sym h ∙ again c ws k in cc (e)
read_again (Err f) ws h c k = let e : Err f ≡ Ok c = sym h ∙ again c ws k in cc (e)

pub read_none : (r : Result Command Cause) (ws : List (List ℕ)) → Reads (λ c. c) r (command_of ws)
    → IfNone (result_ok r) ((c : Command) → IsSaidBy c ws → ⊥)
read_none (Ok d) ws h = tt
read_none (Err f) ws h = λ c k. let e : Err f ≡ Ok c = sym h ∙ again c ws k in cc (e)
