-- What a reader under a limit gives.
use Rattle.std.proofs.Common.{ℕ, ◌≡◌, ◌+◌, ◌≤◌, List, [], ◌++◌, length, take, Option, Some, None, IfSome, arith, ap}
use Rattle.std.proofs.Common.{◌∙◌}
use Rattle.std.specs.Prelude.{option_map, min}
use Rattle.std.proofs.lemmas.List.{length-take, take_all}

-- what was read within one byte more than `most` is all, where it has no more than `most` bytes
pub whole_within : (rest : Option (List ℕ)) (start bytes : List ℕ) (limit most : ℕ)
    → IfSome (option_map (take limit) rest) (λ xs. bytes ≡ start ++ xs) → start ≡ []
    → limit ≡ most + 1 → length bytes ≤ most → IfSome rest (λ all. bytes ≡ all)
whole_within None start bytes limit most read empty one_more fits = tt
whole_within (Some all) start bytes limit most read empty one_more fits =
    let same : bytes ≡ take limit all = rw empty at read in
    let cut : length bytes ≡ min limit (length all) = ap length same ∙ length-take limit all in
    let short : length all ≤ limit = omega arith in
    same ∙ take_all limit all short
