-- What an entry of an ACL grants (OMA LwM2M 1.1 Core, access control).
use Rattle.std.specs.Prelude.{◌≡◌, ◌↔◌, ℕ, ◌<◌, ℤ, pos, negsuc, ◌+ℤ◌, ◌*ℤ◌, FitsSigned, Bool, true, false}
use Rattle.std.specs.Int.{w64}
use Rattle.access_control.specs.Rights.{letters_of}
use Rattle.access_control.specs.declared.letters.Rights.{Rights}

-- the bit of this weight stands in a number, which is an odd multiple of the weight and less than the weight more: so
-- it is in two's complement, of negative numbers too
abbrev pub HasBit : ℕ → ℤ → Type 0
HasBit weight z = (half : ℤ) × (rest : ℕ) × (rest < weight)
    × (z ≡ ((half *ℤ pos 2) +ℤ pos 1) *ℤ pos weight +ℤ pos rest)

-- R is the bit of weight 1, W that of 2, E that of 4, D that of 8, C that of 16
pub record GrantsByBits (z : ℤ) (granted : Rights) : Type 0 where
  pub read : (granted.read ≡ true) ↔ HasBit 1 z
  pub write : (granted.write ≡ true) ↔ HasBit 2 z
  pub execute : (granted.execute ≡ true) ↔ HasBit 4 z
  pub delete : (granted.delete ≡ true) ↔ HasBit 8 z
  pub create : (granted.create ≡ true) ↔ HasBit 16 z

-- so it is with each number of 64 bits
abbrev pub LettersAreBits : Type 0
LettersAreBits = (z : ℤ) → FitsSigned w64 z → GrantsByBits z (letters_of z)

-- whether R, W, E, D and C are granted, in this order
abbrev pub granted_rights : Bool → Bool → Bool → Bool → Bool → Rights
granted_rights r w e d c = record { read = r; write = w; execute = e; delete = d; create = c }

-- 1 is R; 10 is W and D; 16 is C; -2 is all but R; and 32 is nothing, as are all higher bits
pub record AreLetters : Type 0 where
  pub one : letters_of (pos 1) ≡ granted_rights true false false false false
  pub ten : letters_of (pos 10) ≡ granted_rights false true false true false
  pub sixteen : letters_of (pos 16) ≡ granted_rights false false false false true
  pub minus_two : letters_of (negsuc 1) ≡ granted_rights false true true true true
  pub thirty_two : letters_of (pos 32) ≡ granted_rights false false false false false
