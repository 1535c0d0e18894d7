-- Words that name devices of a scenario by the numbers of their rows, or an account by its number.
use Rattle.std.specs.Prelude.{ℕ, ◌≡◌, ◌<◌, ◌≤◌, ◌==◌, List}
use Rattle.std.specs.Str.Parse.{IsNumeral, digits_value, without_leading_plus}
use Rattle.std.specs.List.{after_first, before_first}
use Rattle.command_files.specs.declared.devices.Devices.{Devices}

-- the word is this number of 16 bits, in decimal
pub record IsShortNumber (word : List ℕ) (n : ℕ) : Type 0 where
  pub digits : IsNumeral 10 (without_leading_plus word)
  pub value : n ≡ digits_value 10 (without_leading_plus word)
  pub bound : n < 65536

-- `A-B`: the numbers before and after the first hyphen, of which the second is not below the first
pub record IsDeviceRange (text : List ℕ) (devices : Devices) : Type 0 where
  pub first : IsShortNumber (before_first (λ b. b == 45) text) devices.first
  pub last : IsShortNumber (after_first (λ b. b == 45) text) devices.last
  pub some : devices.first ≤ devices.last
