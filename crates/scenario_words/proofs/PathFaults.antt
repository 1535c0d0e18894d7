-- What a path's numbers say of a word that is a path, and of one that is none.
use Rattle.std.proofs.Common.{◌≡◌, ℕ, Bool, true, false, cond, List, [], ◌∷◌, Result, Ok, Err, refl, ap, ◌∙◌}
use Rattle.std.specs.List.{list_all}
use Rattle.std.proofs.lemmas.Bool.{and_from}
use Rattle.object_defs.specs.declared.path.Path.{Path}
use Rattle.object_defs.specs.declared.path.Path.TheVariants.{Object, Instance, Resource, Part}
use Rattle.scenario_words.specs.declared.cause.Cause.{Cause}
use Rattle.scenario_words.specs.declared.cause.Cause.TheVariants.{Token}
use Rattle.scenario_words.specs.Words.{parts}
use Rattle.scenario_words.specs.Reading.{◌>>=◌}
use Rattle.scenario_words.specs.Number.{is_number, number_of}
use Rattle.scenario_words.specs.PathWord.{path_of_numbers, path_of_parts}
use Rattle.scenario_words.proofs.NumberLaws.{chosen}
use Rattle.scenario_words.proofs.PathLaws.{bind_ok}

-- a first number that was read, before others that have a number's form
first_formed : (a : List ℕ) (f : ℕ → Result Path Cause) (ws : List (List ℕ)) (p : Path)
    → (number_of 0 65535 a >>= f) ≡ Ok p → ((n : ℕ) → f n ≡ Ok p → list_all is_number ws ≡ true)
    → list_all is_number (a ∷ ws) ≡ true
first_formed a f ws p e rest =
    let n = bind_ok (number_of 0 65535 a) f p e in
    and_from _ _ (chosen (is_number a) _ Token n.0 n.1).0 (rest n.0 n.2)

-- numbers that were read as a path have a number's form
numbers_formed : (ws : List (List ℕ)) (p : Path) → path_of_numbers ws ≡ Ok p → list_all is_number ws ≡ true
numbers_formed [] p e = cc
numbers_formed (a ∷ []) p e = first_formed a (λ n. Ok (Object n)) [] p e (λ n h. refl)
numbers_formed (a ∷ b ∷ []) p e =
    first_formed a (λ n. number_of 0 65535 b >>= (λ m. Ok (Instance n m))) (b ∷ []) p e
    (λ n h. first_formed b (λ m. Ok (Instance n m)) [] p h (λ m g. refl))
numbers_formed (a ∷ b ∷ c ∷ []) p e =
    first_formed a (λ n. number_of 0 65535 b >>= (λ m. number_of 0 65535 c >>= (λ k. Ok (Resource n m k))))
    (b ∷ c ∷ []) p e
    (λ n h. first_formed b (λ m. number_of 0 65535 c >>= (λ k. Ok (Resource n m k))) (c ∷ []) p h
    (λ m g. first_formed c (λ k. Ok (Resource n m k)) [] p g (λ k f. refl)))
numbers_formed (a ∷ b ∷ c ∷ d ∷ []) p e =
    first_formed a (λ n. number_of 0 65535 b >>= (λ m. number_of 0 65535 c >>=
    (λ k. number_of 0 65535 d >>= (λ j. Ok (Part n m k j))))) (b ∷ c ∷ d ∷ []) p e
    (λ n h. first_formed b (λ m. number_of 0 65535 c >>=
    (λ k. number_of 0 65535 d >>= (λ j. Ok (Part n m k j)))) (c ∷ d ∷ []) p h
    (λ m g. first_formed c (λ k. number_of 0 65535 d >>= (λ j. Ok (Part n m k j))) (d ∷ []) p g
    (λ k f. first_formed d (λ j. Ok (Part n m k j)) [] p f (λ j i. refl))))
numbers_formed (a ∷ b ∷ c ∷ d ∷ x ∷ more) p e = cc

-- a word whose numbers are a path's is this path's
pub path_read : (ns : List ℕ) (p : Path) → path_of_numbers (parts 47 ns) ≡ Ok p
    → path_of_parts ([] ∷ parts 47 ns) ≡ Ok p
path_read ns p e =
    ap (λ t. cond t (path_of_numbers (parts 47 ns)) (Err Token)) (numbers_formed (parts 47 ns) p e) ∙ e

fault_of : (b : Bool) (r : Result Path Cause) (cause : Cause) → r ≡ Err cause
    → cond b r (Err Token) ≡ Err (cond b cause Token)
fault_of true r cause e = e
fault_of false r cause e = refl

-- the fault of a word whose numbers are read with a fault
pub path_refused : (ns : List ℕ) (cause : Cause) → path_of_numbers (parts 47 ns) ≡ Err cause
    → path_of_parts ([] ∷ parts 47 ns) ≡ Err (cond (list_all is_number (parts 47 ns)) cause Token)
path_refused ns cause e = fault_of (list_all is_number (parts 47 ns)) (path_of_numbers (parts 47 ns)) cause e
