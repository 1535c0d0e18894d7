-- Layouts of bytes, from which formats are put together.
use Rattle.std.specs.Prelude.{◌≡◌, ℕ, zero, suc, ◌+◌, ◌^◌, ◌<◌, ◌⊎◌, ◌==◌, Bool, true, false, List, [], ◌∷◌, ◌++◌}
use Rattle.std.specs.Prelude.{length, take, drop, Result, Ok, Err, nat_lt, if◌then◌else◌}
use Rattle.std.specs.Int.{Width, byte_len, to_be_bytes, from_be_bytes, cast_signed, cast_unsigned}
use Rattle.std.specs.Prelude.{ℤ}
use Rattle.byte_layout.specs.declared.fault.Break.{Break}
use Rattle.byte_layout.specs.declared.fault.Break.TheVariants.{Cut, Limit}

-- one reading after another: the first break ends it
infixl 10 ◌>>=◌
abbrev pub ◌>>=◌ : {A B : Type 0} → Result A Break → (A → Result B Break) → Result B Break
(Ok x) >>= f = f x
(Err b) >>= f = Err b

-- how values of this type are laid out as bytes
pub record Layout (A : Type 0) : Type 1 where
  -- the bytes of a value
  pub spell : A → List ℕ
  -- the value may stand here
  pub Good : A → Type 0
  -- no valid value's bytes stand at the front of these: whole good fields do, and then they break off so
  pub Breaks : List ℕ → Break → Type 0
  -- the value at the front and the bytes after it, or the first break
  pub read : List ℕ → Result (A × List ℕ) Break

-- n bytes, whatever they are
unfoldable pub raw : ℕ → Layout (List ℕ)
raw n = record {
  spell = λ a. a;
  Good = λ a. length a ≡ n;
  Breaks = λ bytes b. (length bytes < n) × (b ≡ Cut);
  read = λ bytes. if nat_lt (length bytes) n then Err Cut else Ok (take n bytes, drop n bytes);
}

-- an unsigned number of this width, the high byte first
unfoldable pub number : Width → Layout ℕ
number w = record {
  spell = to_be_bytes w;
  Good = λ n. n < 256 ^ byte_len w;
  Breaks = λ bytes b. (length bytes < byte_len w) × (b ≡ Cut);
  read = λ bytes. if nat_lt (length bytes) (byte_len w) then Err Cut
      else Ok (from_be_bytes w (take (byte_len w) bytes), drop (byte_len w) bytes);
}

-- a layout whose value has to pass a test, made once all of it is there. A value that fails breaks the bytes off at its
-- first byte: the fault is told how many bytes are left from there
abbrev pub layout_with_test : {A : Type 0} → (ℕ → Break) → (A → Bool) → Layout A → Layout A
layout_with_test fault is_good p = record {
  spell = p.spell;
  Good = λ a. p.Good a × (is_good a ≡ true);
  Breaks = λ bytes b. p.Breaks bytes b
      ⊎ ((a : _) × (rest : List ℕ) × p.Good a × (bytes ≡ p.spell a ++ rest) × (is_good a ≡ false)
      × (b ≡ fault (length bytes)));
  read = λ bytes. p.read bytes >>= λ x. if is_good x.0 then Ok x else Err (fault (length bytes));
}

-- a count or a length that is at most the limit
abbrev pub at_most : ℕ → Layout ℕ → Layout ℕ
at_most limit p = layout_with_test Limit (λ n. nat_lt n (limit + 1)) p

-- one number and no other: what marks a format, or its version
abbrev pub mark : Break → ℕ → Layout ℕ → Layout ℕ
mark fault n p = layout_with_test (λ left. fault) (λ m. m == n) p

-- no bytes: the value is known
abbrev pub constant_layout : {A : Type 0} → A → Layout A
constant_layout a = record {
  spell = λ x. [];
  Good = λ x. x ≡ a;
  Breaks = λ bytes b. ⊥;
  read = λ bytes. Ok (a, bytes);
}

-- what this takes of the value, by the first layout; then, knowing it, the rest of the value by the second
abbrev pub split : {A B : Type 0} → (A → B) → Layout B → (B → Layout A) → Layout A
split proj p q = record {
  spell = λ a. p.spell (proj a) ++ (q (proj a)).spell a;
  Good = λ a. p.Good (proj a) × (q (proj a)).Good a;
  Breaks = λ bytes b. p.Breaks bytes b
      ⊎ ((x : _) × (rest : List ℕ) × p.Good x × (bytes ≡ p.spell x ++ rest) × (q x).Breaks rest b);
  read = λ bytes. p.read bytes >>= λ x. (q x.0).read x.1;
}

-- the last field: the value is made of it
abbrev pub last : {A B : Type 0} → (A → B) → (B → A) → Layout B → Layout A
last proj make p = split proj p (λ b. constant_layout (make b))

-- one number and no other, and then the rest of the value
abbrev pub after_mark : {A : Type 0} → Break → ℕ → Layout ℕ → Layout A → Layout A
after_mark fault n p q = split (λ a. n) (mark fault n p) (λ m. q)

-- a signed number of this width, in two's complement, the high byte first
abbrev pub signed_number : Width → Layout ℤ
signed_number w = last (cast_unsigned w) (cast_signed w) (number w)

-- a length by this layout, and n bytes
abbrev pub bytes_with_length : Layout ℕ → Layout (List ℕ)
bytes_with_length len = split length len raw

-- no list but the empty one has no head
abbrev pub IsHeadThenTail : {A : Type 0} → Layout A → (A → Layout (List A)) → List A → Type 0
IsHeadThenTail p q [] = ⊥
IsHeadThenTail p q (a ∷ tail) = p.Good a × (q a).Good tail

abbrev pub head_then_tail_bytes : {A : Type 0} → Layout A → (A → Layout (List A)) → List A → List ℕ
head_then_tail_bytes p q [] = []
head_then_tail_bytes p q (a ∷ tail) = p.spell a ++ (q a).spell tail

-- a list that is not empty: its head by the first layout; then, knowing it, its tail by the second
abbrev pub head_then_tail : {A : Type 0} → Layout A → (A → Layout (List A)) → Layout (List A)
head_then_tail p q = record {
  spell = head_then_tail_bytes p q;
  Good = IsHeadThenTail p q;
  Breaks = λ bytes b. p.Breaks bytes b
      ⊎ ((x : _) × (rest : List ℕ) × p.Good x × (bytes ≡ p.spell x ++ rest) × (q x).Breaks rest b);
  read = λ bytes. p.read bytes >>= λ x. (q x.0).read x.1 >>= λ xs. Ok (x.0 ∷ xs.0, xs.1);
}

-- n items, each by a layout that knows the list of those before it
unfoldable pub each : {A : Type 0} → (List A → Layout A) → ℕ → List A → Layout (List A)
each part zero before = constant_layout []
each part (suc n) before = head_then_tail (part before) (λ a. each part n (before ++ a ∷ []))

-- a count by this layout, and n items
abbrev pub list_with_count : {A : Type 0} → Layout ℕ → (List A → Layout A) → Layout (List A)
list_with_count count part = split length count (λ n. each part n [])
