-- Words that name slices, and the slices that they name.
use Rattle.std.specs.Prelude.{All, MatchOption}
use Rattle.std.proofs.lemmas.List.Elements.{All-cons, All-nil}
use Rattle.std.proofs.Common.{ℕ, ◌≡◌, ◌+◌, ◌≤◌, ◌<◌, ◌==◌, Bor, List, [], ◌∷◌, ◌++◌, Option, None, Some, length}
use Rattle.std.proofs.Common.{take, get_or, map, sym, ap, subst, ◌∙◌, arith}
use Rattle.std.proofs.lemmas.List.{map-append, take_all, take_more}
use Rattle.std.specs.List.{AllZip, before_first}
use Rattle.command_files.specs.Devices.{IsDeviceRange}
use Rattle.command_files.specs.declared.devices.Devices.{Devices}
use Rattle.command_join.specs.Slices.{AreSlices, HasRange, IsPathAlone, IsSlice, first_in, first_of, last_in, last_of}
use Rattle.command_join.specs.declared.slice.Slice.{Slice}

pub ranged : (word range path : List ℕ) (devices : Devices) → range ≡ before_first (λ b. b == 61) word
    → word ≡ range ++ 61 ∷ path → IsDeviceRange range devices → HasRange word path devices
ranged word range path devices before cut is = record {
  cut = cut ∙ ap (λ r. r ++ 61 ∷ path) before;
  range = subst (λ r. IsDeviceRange r devices) before is;
}

-- what is before the first `=` is no range
pub unranged : (word range : List ℕ) → range ≡ before_first (λ b. b == 61) word
    → ((devices : Devices) → IsDeviceRange range devices → ⊥) → (path : List ℕ) (devices : Devices)
    → HasRange word path devices → ⊥
unranged word range before none path devices is =
    none devices (subst (λ r. IsDeviceRange r devices) (sym before) is.range)

-- ---- all words

-- one more on each side
pub zip_more : {A B : Type 0} (R : A → B → Type 0) (xs : List A) (ys : List B) (x : A) (y : B) → AllZip R xs ys → R x y
    → AllZip R (xs ++ x ∷ []) (ys ++ y ∷ [])
zip_more R [] [] x y all one = (one, tt)
zip_more R [] (b ∷ ys) x y all one = absurd all
zip_more R (a ∷ xs) [] x y all one = absurd all
zip_more R (a ∷ xs) (b ∷ ys) x y all one = (all.0, zip_more R xs ys x y all.1 one)

-- the words themselves
abbrev pub words_in : List (Bor (List ℕ)) → List (List ℕ)
words_in words = map (λ w. w.now) words

-- the words up to and with a place
up_to : (words : List (Bor (List ℕ))) (i : ℕ) (d : Bor (List ℕ)) → i < length words
    → words_in (take (i + 1) words) ≡ words_in (take i words) ++ (get_or words i d).now ∷ []
up_to words i d within =
    ap words_in (take_more words i d within) ∙ map-append (λ w. w.now) (take i words) (get_or words i d ∷ [])

pub one_more : (words : List (Bor (List ℕ))) (i : ℕ) (d : Bor (List ℕ)) (old new : List Slice) (slice : Slice)
    → AreSlices (words_in (take i words)) old → i < length words → IsSlice (get_or words i d).now slice
    → new ≡ old ++ slice ∷ [] → AreSlices (words_in (take (i + 1) words)) new
one_more words i d old new slice named within is same =
    subst (λ ws. AreSlices ws new) (sym (up_to words i d within))
    (subst (AreSlices (words_in (take i words) ++ (get_or words i d).now ∷ [])) (sym same)
    (zip_more IsSlice (words_in (take i words)) old (get_or words i d).now slice named is))

pub all_named : (words : List (Bor (List ℕ))) (i : ℕ) (slices : List Slice) → AreSlices (words_in (take i words)) slices
    → length words ≤ i → AreSlices (words_in words) slices
all_named words i slices named end = subst (λ ws. AreSlices (words_in ws) slices) (take_all i words end) named

pub none_yet : (words : List (Bor (List ℕ))) (slices : List Slice) → slices ≡ []
    → AreSlices (words_in (take 0 words)) slices
none_yet words slices none = subst (AreSlices []) (sym none) tt

-- no slice ends before it begins
pub upward : (words : List (List ℕ)) (slices : List Slice) → AreSlices words slices
    → All (λ s. first_of s ≤ last_of s) slices
upward [] [] named = All-nil (λ s. first_of s ≤ last_of s)
upward [] (s ∷ slices) named = absurd named
upward (w ∷ words) [] named = absurd named
upward (w ∷ words) (s ∷ slices) named =
    All-cons (λ s. first_of s ≤ last_of s) s slices (of s.devices named.0.said) (upward words slices named.1)
  where
    of : (devices : Option Devices) → MatchOption devices (IsPathAlone w s.path.now) (HasRange w s.path.now)
        → first_in devices ≤ last_in devices
    of None said = omega arith
    of (Some devices) said = said.range.some
