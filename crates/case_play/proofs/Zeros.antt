-- Bytes with zeros more, and files that are written again.
use Rattle.std.proofs.Common.{◌≡◌, ℕ, ◌+◌, ◌<◌, ◌≤◌, ◌↔◌, inl, inr, Bool, false, IsTrue, List, [], ◌∷◌, length, drop}
use Rattle.std.proofs.Common.{get_or, Result, IfOk, refl, sym, subst, ap, ◌∙◌, arith, add-one, drop-cons}
use Rattle.std.proofs.Common.{drop_of_length-le}
use Rattle.scenario_image.specs.Image.{IsImageIn}
use Rattle.scenario_image.specs.Scenario.{Scenario}
use Rattle.trace_file.specs.declared.entry.Entry.{Entry}
use Rattle.trace_file.specs.Layout.{IsTraceFile}
use Rattle.case_text.specs.declared.file_case.FileKind.{FileKind}
use Rattle.case_text.specs.declared.file_case.FileKind.TheVariants.{Image}
use Rattle.case_play.specs.Written.{after_version, HasZerosMore, IsNewer, IsSameImage, IsWrittenAs, IsKept}

-- ---- a byte of the longer list

same_tail : (x y : ℕ) (xs ys : List ℕ) → x ∷ xs ≡ y ∷ ys → xs ≡ ys
same_tail x y xs ys same = cc

-- a zero that was one of the bytes may be one of those that are more
pub zero_moves : (n : ℕ) (rest longer : List ℕ) → HasZerosMore n (0 ∷ rest) longer → HasZerosMore (n + 1) rest longer
zero_moves n rest [] h = absurd (let e : 0 ∷ rest ≡ [] = h.0 in cc)
zero_moves n rest (byte ∷ longer) (inl (after, same, h)) = inr (
  n,
  (let e : 0 ∷ rest ≡ byte ∷ after = same in cc),
  refl,
  subst (λ r. HasZerosMore n r longer) (sym (same_tail 0 byte rest after same)) h,
)
zero_moves n rest (byte ∷ longer) (inr (m, zero, one, h)) = inr (
  n,
  zero,
  refl,
  subst (λ k. HasZerosMore k rest longer) (sym one) (zero_moves m rest longer h),
)

-- the byte is the first of the others
pub kept_next : (n byte : ℕ) (bytes rest : List ℕ) → bytes ≡ byte ∷ rest → (longer : List ℕ)
    → HasZerosMore n bytes (byte ∷ longer) ↔ HasZerosMore n rest longer
kept_next n byte bytes rest is longer = (to, λ h. inl (rest, is, h))
  where
    to : HasZerosMore n bytes (byte ∷ longer) → HasZerosMore n rest longer
    to (inl (after, same, h)) =
        subst (λ r. HasZerosMore n r longer) (same_tail byte byte after rest (sym same ∙ is)) h
    to (inr (m, zero, one, h)) =
        subst (λ k. HasZerosMore k rest longer) (sym one) (zero_moves m rest longer
        (subst (λ b. HasZerosMore m (b ∷ rest) longer) zero (subst (λ l. HasZerosMore m l longer) is h)))

-- the byte is a zero, and not the first of the others
pub zero_next : (n m byte : ℕ) (bytes : List ℕ) → ((rest : List ℕ) → bytes ≡ byte ∷ rest → ⊥) → byte ≡ 0
    → n ≡ m + 1 → (longer : List ℕ) → HasZerosMore n bytes (byte ∷ longer) ↔ HasZerosMore m bytes longer
zero_next n m byte bytes other zero one longer = (to, λ h. inr (m, zero, one, h))
  where
    to : HasZerosMore n bytes (byte ∷ longer) → HasZerosMore m bytes longer
    to (inl (after, same, h)) = absurd (other after same)
    to (inr (k, is, more, h)) =
        let e : k ≡ m = omega (arith, one, more) in
        subst (λ x. HasZerosMore x bytes longer) e h

-- the byte is neither the first of the others nor a zero
pub not_zero : (n byte : ℕ) (bytes : List ℕ) → ((rest : List ℕ) → bytes ≡ byte ∷ rest → ⊥) → (byte ≡ 0 → ⊥)
    → (longer : List ℕ) → HasZerosMore n bytes (byte ∷ longer) → ⊥
not_zero n byte bytes other some longer (inl (after, same, h)) = other after same
not_zero n byte bytes other some longer (inr (m, zero, one, h)) = some zero

-- the byte is not the first of the others, and none may be more
pub none_left : (n byte : ℕ) (bytes : List ℕ) → ((rest : List ℕ) → bytes ≡ byte ∷ rest → ⊥) → n ≡ 0
    → (longer : List ℕ) → HasZerosMore n bytes (byte ∷ longer) → ⊥
none_left n byte bytes other none longer (inl (after, same, h)) = other after same
none_left n byte bytes other none longer (inr (m, zero, one, h)) = absurd (omega (arith, none, one))

-- ---- the loop over the longer list

here : (longer : List ℕ) (i byte : ℕ) → i < length longer → byte ≡ get_or longer i byte
    → drop i longer ≡ byte ∷ drop (i + 1) longer
here longer i byte within is = at ∙ ap (λ x. x ∷ drop (i + 1) longer) (sym is)
  where
    at : drop i longer ≡ get_or longer i byte ∷ drop (i + 1) longer
    at = rw (add-one) (drop-cons longer i byte within)

-- after a byte
pub goes_on : (n m k i byte : ℕ) (bytes rest after longer : List ℕ)
    → HasZerosMore n bytes longer ↔ HasZerosMore m rest (drop i longer) → i < length longer
    → byte ≡ get_or longer i byte
    → ((l : List ℕ) → HasZerosMore m rest (byte ∷ l) ↔ HasZerosMore k after l)
    → HasZerosMore n bytes longer ↔ HasZerosMore k after (drop (i + 1) longer)
goes_on n m k i byte bytes rest after longer before within is step =
    let at = here longer i byte within is in
    let now = step (drop (i + 1) longer) in (
      λ h. now.0 (subst (HasZerosMore m rest) at (before.0 h)),
      λ h. before.1 (subst (HasZerosMore m rest) (sym at) (now.1 h)),
    )

-- a byte that can't stand there
pub breaks_off : (n m i : ℕ) (bytes rest longer : List ℕ)
    → HasZerosMore n bytes longer ↔ HasZerosMore m rest (drop i longer) → i < length longer
    → ((l : List ℕ) → HasZerosMore m rest (get_or longer i 0 ∷ l) → ⊥) → IsTrue false ↔ HasZerosMore n bytes longer
breaks_off n m i bytes rest longer before within none = (
  λ no. cc,
  λ h. absurd (none (drop (i + 1) longer) (subst (HasZerosMore m rest) at (before.0 h))),
)
  where
    at : drop i longer ≡ get_or longer i 0 ∷ drop (i + 1) longer
    at = rw (add-one) (drop-cons longer i 0 within)

-- after the last byte
pub ends : (n m i : ℕ) (bytes rest longer : List ℕ) (b : Bool)
    → HasZerosMore n bytes longer ↔ HasZerosMore m rest (drop i longer) → length longer ≤ i
    → IsTrue b ↔ ((rest ≡ []) × (m ≡ 0)) → IsTrue b ↔ HasZerosMore n bytes longer
ends n m i bytes rest longer b before past done =
    let none : drop i longer ≡ [] = drop_of_length-le longer past in (
      λ yes. before.1 (subst (HasZerosMore m rest) (sym none) (done.0 yes)),
      λ h. done.1 (subst (HasZerosMore m rest) none (before.0 h)),
    )

-- ---- the two versions of an image

same_rest : (version : ℕ) (a b : List ℕ) → after_version version a ≡ after_version version b → a ≡ b
same_rest version a b same = cc

pub newer : (n : ℕ) (file written old new : List ℕ) (b : Bool) → file ≡ after_version 1 old
    → written ≡ after_version 2 new → IsTrue b ↔ HasZerosMore n old new → IsTrue b ↔ IsNewer n file written
newer n file written old new b old_is new_is zeros = (
  λ yes. record { old = old; old_is = old_is; new = new; new_is = new_is; zeros = zeros.0 yes },
  λ h. zeros.1 (
      subst (λ o. HasZerosMore n o new) (same_rest 1 h.old old (sym h.old_is ∙ old_is))
      (subst (λ w. HasZerosMore n h.old w) (same_rest 2 h.new new (sym h.new_is ∙ new_is)) h.zeros)),
)

pub not_old : (n : ℕ) (file written : List ℕ) → ((old : List ℕ) → file ≡ after_version 1 old → ⊥)
    → IsNewer n file written → ⊥
not_old n file written none h = none h.old h.old_is

pub not_new : (n : ℕ) (file written : List ℕ) → ((new : List ℕ) → written ≡ after_version 2 new → ⊥)
    → IsNewer n file written → ⊥
not_new n file written none h = none h.new h.new_is

pub same_or_newer : (n : ℕ) (file written : List ℕ) (b : Bool) → (written ≡ file → ⊥)
    → IsTrue b ↔ IsNewer n file written → IsTrue b ↔ IsSameImage n file written
same_or_newer n file written b other newer = (λ yes. inr (newer.0 yes), to)
  where
    to : IsSameImage n file written → IsTrue b
    to (inl same) = absurd (other same)
    to (inr h) = newer.1 h

-- ---- what is written

pub written_as : (file written : List ℕ) (s : Scenario) (n : ℕ) (b : Bool) → IsImageIn 2 written s
    → n ≡ length s.classes → IsTrue b ↔ IsSameImage n file written → IsTrue b ↔ IsWrittenAs file s
written_as file written s n b image count same = (
  λ yes. record { written = written; image = image; same = subst (λ k. IsSameImage k file written) count (same.0 yes) },
  λ h. same.1 (
      subst (λ k. IsSameImage k file written) (sym count)
      (subst (λ w. IsSameImage (length s.classes) file w) (h.image.1 ∙ sym image.1) h.same)),
)

pub same_file : (file written : List ℕ) (es : List Entry) (b : Bool) → IsTraceFile written es
    → IsTrue b ↔ (written ≡ file) → IsTrue b ↔ IsTraceFile file es
same_file file written es b is same =
    (λ yes. subst (λ f. IsTraceFile f es) (same.0 yes) is, λ h. same.1 (is.1 ∙ sym h.1))

pub image_kept : {E : Type 0} (r : Result Bool E) (kind : FileKind) (file : List ℕ) (s : Scenario) → kind ≡ Image
    → IfOk r (λ b. IsTrue b ↔ IsWrittenAs file s) → IfOk r (λ b. IsTrue b ↔ IsKept kind file s)
image_kept r kind file s is h = subst (λ k. IfOk r (λ b. IsTrue b ↔ IsKept k file s)) (sym is) h
