-- Words on a Result that std does not have.
use Rattle.std.specs.Prelude.{Result, Ok, Err}

abbrev pub result_map : {A B E : Type 0} → (A → B) → Result A E → Result B E
result_map f (Ok a) = Ok (f a)
result_map f (Err e) = Err e

abbrev pub result_map_err : {A E F : Type 0} → (E → F) → Result A E → Result A F
result_map_err f (Ok a) = Ok a
result_map_err f (Err e) = Err (f e)

abbrev pub result_and_then : {A B E : Type 0} → (A → Result B E) → Result A E → Result B E
result_and_then f (Ok a) = f a
result_and_then f (Err e) = Err e
