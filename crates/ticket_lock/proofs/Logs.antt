-- Lists of which one begins another, and lists of what each number in a row has.
use Rattle.std.proofs.Common.{◌≡◌, ℕ, zero, suc, ◌+◌, ◌-◌, ◌<◌, ◌≤◌, cond, List, [], ◌∷◌, ◌++◌, map, length, take, drop}
use Rattle.std.proofs.Common.{refl, sym, ap, ◌∙◌, subst, arith, append_assoc, append-nil}
use Rattle.std.specs.List.{AllByRecursion}
use Rattle.std.proofs.lemmas.Bool.{lt-ltb, le-ltb}
use mathlib.Core.Logic.{dite}
use native.Mathlib.Decide.{dec_lt}
use Rattle.ticket_lock.specs.Log.{Begins, each_of}
use Rattle.ticket_lock.specs.Changes.{longer_of, shorter_of}

module _ {X : Type 0} where
  pub every-append : (P : X → Type 0) (a b : List X) → AllByRecursion P a → AllByRecursion P b
      → AllByRecursion P (a ++ b)
  every-append P [] b h k = k
  every-append P (x ∷ a) b h k = (h.0, every-append P a b h.1 k)

  pub every-right : (P : X → Type 0) (a b : List X) → AllByRecursion P (a ++ b) → AllByRecursion P b
  every-right P [] b h = h
  every-right P (x ∷ a) b h = every-right P a b h.1

  pub every_one : (P Q : X → Type 0) → ((x : X) → P x → Q x) → (a : List X) → AllByRecursion P a → AllByRecursion Q a
  every_one P Q f [] h = h
  every_one P Q f (x ∷ a) h = (f x h.0, every_one P Q f a h.1)

  pub every_two : (P Q S : X → Type 0) → ((x : X) → P x → Q x → S x) → (a : List X) → AllByRecursion P a
      → AllByRecursion Q a → AllByRecursion S a
  every_two P Q S f [] h k = h
  every_two P Q S f (x ∷ a) h k = (f x h.0 k.0, every_two P Q S f a h.1 k.1)

  pub every_none : (P : X → Type 0) → ((x : X) → P x → ⊥) → (a : List X) → AllByRecursion P a → a ≡ []
  every_none P f [] h = refl
  every_none P f (x ∷ a) h = absurd (f x h.0)

  -- of two beginnings of one list, the one that is not longer begins the other
  pub between : (a b x y : List X) → a ++ x ≡ b ++ y → length a ≤ length b → (mid : List X) × (b ≡ a ++ mid)
      × (x ≡ mid ++ y)
  between [] b x y e le = (b, refl, e)
  between (p ∷ a) [] x y e le = absurd (omega arith)
  between (p ∷ a) (q ∷ b) x y e le =
      let tails : a ++ x ≡ b ++ y = cc in
      let heads : p ≡ q = cc in
      let r = between a b x y tails (omega arith) in
      (r.0, (let same = r.1 in cc), r.2)

  -- lists joined end to end are equal in both parts where the first parts are equally long
  pub parts : (a b x y : List X) → a ++ x ≡ b ++ y → length a ≡ length b → (a ≡ b) × (x ≡ y)
  parts [] [] x y e len = (refl, e)
  parts [] (q ∷ b) x y e len = absurd (omega arith)
  parts (p ∷ a) [] x y e len = absurd (omega arith)
  parts (p ∷ a) (q ∷ b) x y e len =
      let tails : a ++ x ≡ b ++ y = cc in
      let heads : p ≡ q = cc in
      let r = parts a b x y tails (omega arith) in
      ((let same = r.0 in cc), r.1)

  -- a prefix of a prefix
  pub begins_both : (a b c : List X) → Begins a b → Begins b c → Begins a c
  begins_both a b c h k = (h.0 ++ k.0, k.1 ∙ (ap (λ l. l ++ k.0) h.1 ∙ append_assoc a h.0 k.0))

  pub longer_first : (a b : List X) → length b ≤ length a → longer_of a b ≡ a
  longer_first a b le = ap (λ t. cond t b a) (le-ltb (length a) (length b) le)

  pub longer_second : (a b : List X) → length a < length b → longer_of a b ≡ b
  longer_second a b lt = ap (λ t. cond t b a) (lt-ltb (length a) (length b) lt)

  shorter_first : (a b : List X) → length a < length b → shorter_of a b ≡ a
  shorter_first a b lt = ap (λ t. cond t a b) (lt-ltb (length a) (length b) lt)

  shorter_second : (a b : List X) → length b ≤ length a → shorter_of a b ≡ b
  shorter_second a b le = ap (λ t. cond t a b) (le-ltb (length a) (length b) le)

  -- of two prefixes of one list, the shorter is a prefix of the longer
  pub shorter_begins : (a b x y : List X) → a ++ x ≡ b ++ y → Begins (shorter_of a b) (longer_of a b)
  shorter_begins a b x y e = dite (dec_lt (length a) (length b))
      (λ lt. let m = between a b x y e (omega arith) in
      (m.0, longer_second a b lt ∙ (m.1 ∙ ap (λ l. l ++ m.0) (sym (shorter_first a b lt)))))
      (λ ge. let m = between b a y x (sym e) (omega arith) in
      (m.0, longer_first a b (omega arith) ∙ (m.1 ∙ ap (λ l. l ++ m.0) (sym (shorter_second a b (omega arith))))))

  -- then each of the two is a prefix of the longer
  pub both_begin : (a b : List X) → Begins (shorter_of a b) (longer_of a b) → Begins a (longer_of a b)
      × Begins b (longer_of a b)
  both_begin a b h = dite (dec_lt (length a) (length b))
      (λ lt. (subst (λ l. Begins l (longer_of a b)) (shorter_first a b lt) h, itself b (longer_second a b lt)))
      (λ ge. (
        itself a (longer_first a b (omega arith)),
        subst (λ l. Begins l (longer_of a b)) (shorter_second a b (omega arith)) h,
      ))
    where
      itself : (l : List X) → longer_of a b ≡ l → Begins l (longer_of a b)
      itself l e = ([], e ∙ sym (append-nil l))

  pub each_same : (f g : ℕ → X) (low n : ℕ) → ((k : ℕ) → low ≤ k → k < low + n → f k ≡ g k)
      → each_of f low n ≡ each_of g low n
  unfolding each_of
  each_same f g low zero e = refl
  each_same f g low (suc n) e =
      let here : f low ≡ g low = e low (omega arith) (omega arith) in
      let there : each_of f (low + 1) n ≡ each_of g (low + 1) n =
      each_same f g (low + 1) n (λ k a b. e k (omega arith) (omega arith)) in
      cc

  pub each-append : (f : ℕ → X) (low m n : ℕ) → each_of f low (m + n) ≡ each_of f low m ++ each_of f (low + m) n
  unfolding each_of
  each-append f low zero n = let none : zero + n ≡ n = omega arith in let same : low + zero ≡ low =
      omega arith in rw (none, same) refl
  each-append f low (suc m) n =
      let more : suc m + n ≡ suc (m + n) = omega arith in
      let same : low + suc m ≡ (low + 1) + m = omega arith in
      rw (more, same) (ap (λ l. f low ∷ l) (each-append f (low + 1) m n))

  pub length-each : (f : ℕ → X) (low n : ℕ) → length (each_of f low n) ≡ n
  unfolding each_of
  length-each f low zero = refl
  length-each f low (suc n) = ap suc (length-each f (low + 1) n)

  pub each_first : (f : ℕ → X) (low n : ℕ) → 0 < n → take 1 (each_of f low n) ≡ each_of f low 1
  unfolding each_of
  each_first f low zero h = absurd (omega arith)
  each_first f low (suc n) h = refl

  pub each_rest : (f : ℕ → X) (low n : ℕ) → 0 < n → drop 1 (each_of f low n) ≡ each_of f (low + 1) (n - 1)
  unfolding each_of
  each_rest f low zero h = absurd (omega arith)
  each_rest f low (suc n) h = let same : suc n - 1 ≡ n = omega arith in rw same refl

  pub each_one : (f g : ℕ → X) (low : ℕ) → each_of f low 1 ≡ each_of g low 1 → f low ≡ g low
  unfolding each_of
  each_one f g low e = cc

  -- where two rows are equal, so are their parts at each number
  pub each_at : (f g : ℕ → X) (low n k : ℕ) → each_of f low n ≡ each_of g low n → low ≤ k → k < low + n → f k ≡ g k
  unfolding each_of
  each_at f g low zero k e a b = absurd (omega arith)
  each_at f g low (suc n) k e a b =
      let here : f low ≡ g low = cc in
      let there : each_of f (low + 1) n ≡ each_of g (low + 1) n = cc in
      dite (dec_lt low k) (λ lt. each_at f g (low + 1) n k there (omega arith) (omega arith))
      (λ no. let same : low ≡ k = omega arith in subst (λ z. f z ≡ g z) same here)

pub map-each : {X Y : Type 0} (h : X → Y) (f : ℕ → X) (low n : ℕ)
    → map h (each_of f low n) ≡ each_of (λ k. h (f k)) low n
unfolding each_of
map-each h f low zero = refl
map-each h f low (suc n) = ap (λ l. h (f low) ∷ l) (map-each h f (low + 1) n)
