-- The case whose lines are being grouped.
use Rattle.std.specs.Prelude.{List, [], ◌∷◌, Option, None, Some}
use Rattle.expectations.specs.declared.expectation.ExpectedCase.{ExpectedCase}
use Rattle.expectations.specs.declared.grouping.OpenCase.{OpenCase}

-- as a case, if there is one
abbrev pub cases_of_open : Option OpenCase → List ExpectedCase
cases_of_open None = []
cases_of_open (Some c) = record { title = c.title; line = c.line; lines = c.lines.items } ∷ []
