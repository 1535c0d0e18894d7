-- What was read of an input, a line at a time.
use Rattle.std.proofs.Common.{ℕ, ◌≡◌, ◌≤◌, ◌+◌, ◌-◌, ◌⊎◌, List, [], ◌++◌, length, Option, None, Some, IfSome}
use Rattle.std.proofs.Common.{refl, sym, ap, subst, ◌∙◌, inl, inr, arith, length-append, append_assoc, append-nil}
use Rattle.std.specs.Io.BufRead.{DropsThrough, drop_through, take_through}
use Rattle.std.specs.Io.KnownBytes.{Consumes}
use Rattle.std.proofs.KnownBytes.{Consumes-nil}
use Rattle.std.proofs.BufReadLemmas.{take_through-nil}
use Rattle.command_files.proofs.Lines.{through_all}
use Rattle.command_files.specs.Files.{IsFailure, most_bytes}
use Rattle.command_files.specs.Input.{IsLonger, IsWithin, WhereKnown}
use Rattle.command_files.specs.declared.files.FileFault.{FileFault}
use Rattle.command_files.specs.declared.files.FileFault.TheVariants as file
use Rattle.command_words.specs.Inputs.{IsAll, IsBeyond}

-- this was read, and so many bytes may still be
pub record IsTaken (before after : Option (List ℕ)) (log : List ℕ) (left : ℕ) : Type 0 where
  pub read : Consumes before after log
  pub spent : left + length log ≡ most_bytes

pub none_taken : (a : Option (List ℕ)) (log : List ℕ) (left : ℕ) → log ≡ [] → left ≡ most_bytes → IsTaken a a log left
none_taken a log left none all = record {
  read = subst (λ l. Consumes a a l) (sym none) (Consumes-nil a);
  spent = omega (arith, all, ap length none);
}

-- a line that was read is the front of what was left
line_read : (a b c : Option (List ℕ)) (log line : List ℕ) → Consumes a b log
    → IfSome b (λ bytes. line ≡ take_through 10 bytes) → DropsThrough b c 10 → Consumes a c (log ++ line)
line_read None b c log line read is rest = tt
line_read (Some x) None c log line read is rest = absurd read
line_read (Some x) (Some y) c log line read is rest =
    subst (λ o. Consumes (Some x) o (log ++ line)) (sym rest) (read ∙ ap (λ t. log ++ t) whole
    ∙ sym (append_assoc log line (drop_through 10 y)))
  where
    whole : y ≡ line ++ drop_through 10 y
    whole = sym (through_all y) ∙ ap (λ l. l ++ drop_through 10 y) (sym is)

pub line_taken : (a b c : Option (List ℕ)) (log line new : List ℕ) (left more : ℕ) → IsTaken a b log left
    → IfSome b (λ bytes. line ≡ take_through 10 bytes) → DropsThrough b c 10 → length line ≤ left
    → more ≡ left - length line → new ≡ log ++ line → IsTaken a c new more
line_taken a b c log line new left more taken is rest fits less same = record {
  read = subst (λ l. Consumes a c l) (sym same) (line_read a b c log line taken.read is rest);
  spent = omega (arith, taken.spent, fits, less, ap length same, length-append log line);
}

-- nothing more was read: that was all
pub all_taken : (a b c : Option (List ℕ)) (log line : List ℕ) (left : ℕ) → IsTaken a b log left
    → IfSome b (λ bytes. line ≡ take_through 10 bytes) → DropsThrough b c 10 → length line ≡ 0
    → WhereKnown (IsAll log) a c
all_taken None b c log line left taken is rest none = tt
all_taken (Some x) None c log line left taken is rest none = absurd taken.read
all_taken (Some x) (Some y) c log line left taken is rest none =
    let empty : y ≡ [] = take_through-nil 10 y (sym (ap length is) ∙ none) in
    subst (λ o. WhereKnown (IsAll log) (Some x) o) (sym (rest ∙ ap (λ t. Some (drop_through 10 t)) empty))
    (taken.read ∙ ap (λ t. log ++ t) empty ∙ append-nil log, refl)

-- what was read is within what may be
within_read : (a b : Option (List ℕ)) (log : List ℕ) (left : ℕ) → IsTaken a b log left
    → WhereKnown (IsWithin most_bytes) a b
within_read None b log left taken = tt
within_read (Some x) None log left taken = absurd taken.read
within_read (Some x) (Some y) log left taken =
    omega (arith, taken.spent, ap length taken.read, length-append log y)

pub within_line : (a b c : Option (List ℕ)) (log line : List ℕ) (left : ℕ) → IsTaken a b log left
    → IfSome b (λ bytes. line ≡ take_through 10 bytes) → DropsThrough b c 10 → length line ≤ left
    → WhereKnown (IsWithin most_bytes) a c
within_line a b c log line left taken is rest fits =
    within_read a c (log ++ line) (left - length line)
    (line_taken a b c log line (log ++ line) left (left - length line) taken is rest fits refl refl)

pub within_part : (a b c : Option (List ℕ)) (log : List ℕ) (left : ℕ) → IsTaken a b log left
    → WhereKnown (IsWithin left) b c → WhereKnown (IsWithin most_bytes) a c
within_part None b c log left taken part = tt
within_part (Some x) None c log left taken part = absurd taken.read
within_part (Some x) (Some y) None log left taken part = absurd part
within_part (Some x) (Some y) (Some z) log left taken part =
    omega (arith, taken.spent, part, ap length taken.read, length-append log y)

-- a line that goes beyond what may be read makes the whole too long
beyond : (a b : Option (List ℕ)) (log : List ℕ) (left : ℕ) → IsTaken a b log left → IsLonger left b → IsBeyond a
beyond None b log left taken long = tt
beyond (Some x) None log left taken long = absurd taken.read
beyond (Some x) (Some y) log left taken long =
    let front = ap length (through_all y) in
    let parts = length-append (take_through 10 y) (drop_through 10 y) in
    omega (arith, taken.spent, long, front, parts, ap length taken.read, length-append log y)

pub failed : (fails : Type 0) (a b : Option (List ℕ)) (log : List ℕ) (left : ℕ) (e : FileFault) → IsTaken a b log left
    → IsFailure (fails ⊎ IsLonger left b) e → IsFailure (fails ⊎ IsBeyond a) e
failed fails a b log left file.Memory taken h = tt
failed fails a b log left (file.Failed why) taken (inl h) = inl h
failed fails a b log left (file.Failed why) taken (inr long) = inr (beyond a b log left taken long)
