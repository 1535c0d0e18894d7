-- The arguments of an Execute (OMA LwM2M 1.1 Core).
use Rattle.std.specs.Prelude.{◌≡◌, ℕ, ◌+◌, ◌<◌, ◌≤◌, ◌==◌, nat_le, Bool, true, ◌&&◌, ◌||◌, List, [], ◌∷◌, ◌++◌, length}
use Rattle.std.specs.Prelude.{take, ◌⊎◌}
use Rattle.std.specs.List.{list_all}

abbrev pub is_between : ℕ → ℕ → ℕ → Bool
is_between low high byte = nat_le low byte && nat_le byte high

abbrev pub is_digit : ℕ → Bool
is_digit byte = is_between 48 57 byte

-- a byte of a quoted text, in hexadecimal: 21, 23 to 26, 28 to 5B, 5D to 7E
abbrev pub is_text_byte : ℕ → Bool
is_text_byte byte =
    byte == 0x21 || (is_between 0x23 0x26 byte || (is_between 0x28 0x5B byte || is_between 0x5D 0x7E byte))

-- an argument: a digit, or a digit, `=` and a text in single quotes
pub data IsArgument : List ℕ → Type 0 where
  digit : (d : ℕ) → is_digit d ≡ true → IsArgument (d ∷ [])
  valued : (d : ℕ) (text : List ℕ) → is_digit d ≡ true → list_all is_text_byte text ≡ true
      → IsArgument (d ∷ 61 ∷ 39 ∷ (text ++ 39 ∷ []))

-- one argument, or one before a comma and others
pub data AreSome : List ℕ → Type 0 where
  one : (argument : List ℕ) → IsArgument argument → AreSome argument
  more : (argument others : List ℕ) → IsArgument argument → AreSome others → AreSome (argument ++ 44 ∷ others)

-- no arguments, or some
abbrev pub AreArguments : List ℕ → Type 0
AreArguments payload = (payload ≡ []) ⊎ AreSome payload

-- some arguments begin with these bytes
abbrev pub BeginArguments : List ℕ → Type 0
BeginArguments bytes = (others : List ℕ) × AreArguments (bytes ++ others)

-- where a payload stops being arguments: some arguments begin with its first n bytes, and none with one byte more,
-- unless these are all of it
pub record IsArgumentFault (payload : List ℕ) (n : ℕ) : Type 0 where
  pub refused : ¬ AreArguments payload
  pub within : n ≤ length payload
  pub begun : BeginArguments (take n payload)
  pub ended : n < length payload → ¬ BeginArguments (take (n + 1) payload)
