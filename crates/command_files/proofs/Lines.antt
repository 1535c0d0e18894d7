-- What is read of a line, a byte at a time.
use Rattle.std.proofs.Common.{ℕ, ◌≡◌, ◌≢◌, ◌<◌, ◌≤◌, ◌+◌, Bool, true, false, cond, eqb, List, [], ◌∷◌, ◌++◌, All}
use Rattle.std.proofs.Common.{Option, None, Some, IfSome, OnSome, refl, sym, ap, subst, arith, ◌∙◌, rules, append_assoc}
use Rattle.std.proofs.Common.{length, length-append}
use Rattle.std.proofs.lemmas.List.Elements.{All-append}
use Rattle.std.specs.Io.BufRead.{DropsThrough, drop_through, take_through}
use Rattle.std.specs.Io.KnownBytes.{Consumes, IsAtEnd, Keeps}
use Rattle.std.proofs.KnownBytes.{Consumes-kept, Consumes-nil, Consumes-trans}
use Rattle.std.proofs.BufReadLemmas.{Consumes_through, take_through-append}
use Rattle.command_files.specs.Input.{IsOfLine, IsWithin, WhereKnown}

-- a byte that was read where nothing had changed before
pub consumed : (a b c : Option (List ℕ)) (bytes : List ℕ) → Keeps a b → Consumes b c bytes → Consumes a c bytes
consumed None b c bytes kept read = tt
consumed (Some x) None c bytes kept read = absurd kept
consumed (Some x) (Some y) None bytes kept read = absurd read
consumed (Some x) (Some y) (Some z) bytes kept read = sym kept ∙ read

-- the end, where nothing had changed before
pub ended : (a b : Option (List ℕ)) → Keeps a b → IsAtEnd b → IsAtEnd a
ended None b kept end = tt
ended (Some x) None kept end = absurd kept
ended (Some x) (Some y) kept end = sym kept ∙ end

-- what was read of a line that is not at its end
pub record IsPart (before after : Option (List ℕ)) (line : List ℕ) : Type 0 where
  pub read : Consumes before after line
  pub plain : All (λ x. x ≢ 10) line

-- the whole line was read
pub record IsWhole (before after : Option (List ℕ)) (line : List ℕ) : Type 0 where
  pub is : IfSome before (λ bytes. line ≡ take_through 10 bytes)
  pub rest : DropsThrough before after 10

pub none_yet : (a : Option (List ℕ)) (line : List ℕ) → line ≡ [] → IsPart a a line
none_yet a line empty =
    subst (λ l. IsPart a a l) (sym empty) (record { read = Consumes-nil a; plain = search rules })

pub one_more : (a b c : Option (List ℕ)) (line new : List ℕ) (byte : ℕ) → IsPart a b line
    → Consumes b c (byte ∷ []) → byte ≢ 10 → new ≡ line ++ byte ∷ [] → IsPart a c new
one_more a b c line new byte part read other same =
    subst (λ l. IsPart a c l) (sym same) (record {
      read = Consumes-trans a b c line (byte ∷ []) part.read read;
      plain = All-append (λ x. x ≢ 10) line (byte ∷ []) part.plain (search (rules, other));
    })

pub with_feed : (a b c : Option (List ℕ)) (line new : List ℕ) (byte : ℕ) → IsPart a b line
    → Consumes b c (byte ∷ []) → byte ≡ 10 → new ≡ line ++ byte ∷ [] → IsWhole a c new
with_feed a b c line new byte part read feed same =
    let h = Consumes_through 10 a b c line (byte ∷ []) part.read part.plain read (search rules) (λ some. feed)
    (λ none. absurd (omega (arith, none))) in
    subst (λ l. IsWhole a c l) (sym same) (record { is = h.0; rest = h.1 })

pub at_end : (a b c : Option (List ℕ)) (line : List ℕ) → IsPart a b line → IsAtEnd b → Keeps b c → IsWhole a c line
at_end a b c line part end kept =
    let h = Consumes_through 10 a b c line [] part.read part.plain (Consumes-kept b b c [] (Consumes-nil b) kept)
    (search rules) (λ some. absurd (omega (arith, some))) (λ none. still b c end kept) in
    record { is = subst (λ l. IfSome a (λ bytes. l ≡ take_through 10 bytes)) (search rules) h.0; rest = h.1 }
  where
    still : (b c : Option (List ℕ)) → IsAtEnd b → Keeps b c → OnSome b (IsAtEnd c)
    still None c end kept = tt
    still (Some x) None end kept = absurd kept
    still (Some x) (Some y) end kept = kept ∙ end

pub feed_line : (a b c : Option (List ℕ)) (line new : List ℕ) (byte : ℕ) → IsPart a b line
    → Consumes b c (byte ∷ []) → byte ≡ 10 → new ≡ line ++ byte ∷ [] → IfSome a (λ bytes. new ≡ take_through 10 bytes)
feed_line a b c line new byte part read feed same = (with_feed a b c line new byte part read feed same).is

pub feed_rest : (a b c : Option (List ℕ)) (line : List ℕ) (byte : ℕ) → IsPart a b line
    → Consumes b c (byte ∷ []) → byte ≡ 10 → DropsThrough a c 10
feed_rest a b c line byte part read feed = (with_feed a b c line (line ++ byte ∷ []) byte part read feed refl).rest

pub end_line : (a b c : Option (List ℕ)) (line : List ℕ) → IsPart a b line → IsAtEnd b → Keeps b c
    → IfSome a (λ bytes. line ≡ take_through 10 bytes)
end_line a b c line part end kept = (at_end a b c line part end kept).is

pub end_rest : (a b c : Option (List ℕ)) (line : List ℕ) → IsPart a b line → IsAtEnd b → Keeps b c
    → DropsThrough a c 10
end_rest a b c line part end kept = (at_end a b c line part end kept).rest

-- the first line of bytes, and then what follows it
pub through_all : (bytes : List ℕ) → take_through 10 bytes ++ drop_through 10 bytes ≡ bytes
through_all [] = refl
through_all (x ∷ xs) = by (eqb x 10) (through_all xs)
  where
    by : (b : Bool) → take_through 10 xs ++ drop_through 10 xs ≡ xs
        → cond b (x ∷ []) (x ∷ take_through 10 xs) ++ cond b xs (drop_through 10 xs) ≡ x ∷ xs
    by true same = refl
    by false same = ap (λ l. x ∷ l) same

-- ---- a line that was not read to its end

-- what is read of a line before its end is no longer than the line
part_length : (line rest : List ℕ) → All (λ x. x ≢ 10) line
    → length (take_through 10 (line ++ rest)) ≡ length line + length (take_through 10 rest)
part_length line rest plain =
    ap length (take_through-append 10 line rest plain) ∙ length-append line (take_through 10 rest)

-- a line has its first byte
some_byte : (x : ℕ) (xs : List ℕ) → 0 < length (take_through 10 (x ∷ xs))
some_byte x xs = by (eqb x 10)
  where
    by : (b : Bool) → 0 < length (cond b (x ∷ []) (x ∷ take_through 10 xs))
    by true = omega arith
    by false = omega arith

pub part_of_line : (a b c : Option (List ℕ)) (line : List ℕ) → IsPart a b line → Keeps b c → WhereKnown IsOfLine a c
part_of_line None b c line part kept = tt
part_of_line (Some x) None c line part kept = absurd part.read
part_of_line (Some x) (Some y) None line part kept = absurd kept
part_of_line (Some x) (Some y) (Some z) line part kept =
    let whole : x ≡ line ++ z = part.read ∙ ap (λ l. line ++ l) (sym kept) in
    let within = part_length line z part.plain in
    (line, whole, omega (arith, within, ap (λ l. length (take_through 10 l)) whole))

pub part_within : (a b c : Option (List ℕ)) (line : List ℕ) (most : ℕ) → IsPart a b line → length line ≤ most
    → Keeps b c → WhereKnown (IsWithin most) a c
part_within None b c line most part few kept = tt
part_within (Some x) None c line most part few kept = absurd part.read
part_within (Some x) (Some y) None line most part few kept = absurd kept
part_within (Some x) (Some y) (Some z) line most part few kept =
    omega (arith, few, ap length part.read, length-append line y, ap length kept)

pub byte_of_line : (a b c : Option (List ℕ)) (line : List ℕ) (byte : ℕ) → IsPart a b line → Consumes b c (byte ∷ [])
    → WhereKnown IsOfLine a c
byte_of_line None b c line byte part read = tt
byte_of_line (Some x) None c line byte part read = absurd part.read
byte_of_line (Some x) (Some y) None line byte part read = absurd read
byte_of_line (Some x) (Some y) (Some z) line byte part read =
    let there : x ≡ line ++ byte ∷ z = part.read ∙ ap (λ l. line ++ l) read in
    let whole : x ≡ (line ++ byte ∷ []) ++ z = there ∙ sym (append_assoc line (byte ∷ []) z) in
    let within = part_length line (byte ∷ z) part.plain in
    let one : length (line ++ byte ∷ []) ≡ length line + 1 = length-append line (byte ∷ []) in (
      line ++ byte ∷ [],
      whole,
      omega (arith, within, one, some_byte byte z, ap (λ l. length (take_through 10 l)) there),
    )

pub byte_within : (a b c : Option (List ℕ)) (line : List ℕ) (byte most : ℕ) → IsPart a b line → length line < most
    → Consumes b c (byte ∷ []) → WhereKnown (IsWithin most) a c
byte_within None b c line byte most part few read = tt
byte_within (Some x) None c line byte most part few read = absurd part.read
byte_within (Some x) (Some y) None line byte most part few read = absurd read
byte_within (Some x) (Some y) (Some z) line byte most part few read =
    let first : length y ≡ length (byte ∷ z) = ap length read in
    omega (arith, few, first, ap length part.read, length-append line y)
