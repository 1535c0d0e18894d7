-- Options whose values are numbers.
use Rattle.std.specs.Prelude.{ℕ, List, [], ◌∷◌, Option, None, Some}
use Rattle.coap_codec.specs.Number.{shortest_big_endian}
use Rattle.coap_codec.specs.declared.option.Opt.{Opt}

-- an option of this number whose value is a number in the fewest bytes, or none where there is no value
abbrev pub number_option : ℕ → Option ℕ → List Opt
number_option option None = []
number_option option (Some n) = record { number = option; value = shortest_big_endian n } ∷ []
