-- How arguments are read byte by byte. Nobody has to believe this: that it reads AreArguments is proved.
use Rattle.std.specs.Prelude.{ℕ, ◌==◌, Bool, true, false, List, [], ◌∷◌, if◌then◌else◌}
use Rattle.lwm2m_payloads.specs.Arguments.{is_digit, is_text_byte}
use Rattle.lwm2m_payloads.specs.declared.arguments.Place.{Place}
use Rattle.lwm2m_payloads.specs.declared.arguments.Place.TheVariants.{Start, Comma, Digit, Equals, Text, Quote, Nowhere}

abbrev pub step : Place → ℕ → Place
step Start c = if is_digit c then Digit else Nowhere
step Comma c = if is_digit c then Digit else Nowhere
step Digit c = if c == 44 then Comma else if c == 61 then Equals else Nowhere
step Equals c = if c == 39 then Text else Nowhere
step Text c = if is_text_byte c then Text else if c == 39 then Quote else Nowhere
step Quote c = if c == 44 then Comma else Nowhere
step Nowhere c = Nowhere

-- the arguments may end here
abbrev pub is_end : Place → Bool
is_end Start = true
is_end Digit = true
is_end Quote = true
is_end _ = false

-- these bytes lead from a place to an end
abbrev pub run : Place → List ℕ → Bool
run p [] = is_end p
run p (c ∷ cs) = run (step p c) cs

-- whether a payload is arguments
abbrev pub are_arguments : List ℕ → Bool
are_arguments payload = run Start payload
