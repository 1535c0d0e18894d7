-- Numbers as a Uri-Path segment has them: decimal, with no leading zero (OMA LwM2M 1.1 Core).
use Rattle.std.specs.Prelude.{ℕ, Option, None, Some, List, nat_lt, ◌&&◌, cond}
use Rattle.std.specs.Str.{bytes_eq}
use Rattle.std.specs.Str.Parse.{digits_value}
use Rattle.std.specs.Fmt.{decimal}

-- the number from 0 to 65535 whose decimal form these bytes are
abbrev pub decimal_number : List ℕ → Option ℕ
decimal_number s = let n = digits_value 10 s in cond (nat_lt n 65536 && bytes_eq (decimal n) s) (Some n) None
