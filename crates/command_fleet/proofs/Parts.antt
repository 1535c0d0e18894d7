-- The rows of a part of a scenario.
use Rattle.std.proofs.Common.{ℕ, ◌≡◌, ◌<◌, ◌⊎◌, ◌+◌, ◌%◌, zero, suc, Bool, List, [], ◌∷◌, ◌++◌, length}
use Rattle.std.proofs.Common.{slice_get, Some, option_map, arith, ap, sym, ◌∙◌, refl, inl, inr}
use Rattle.lemmas.proofs.Lists.{item_pushed, length_pushed}
use Rattle.scenario_image.specs.Scenario.{Row}
use Rattle.command_files.specs.declared.devices.Devices.{Devices}
use Rattle.command_fleet.specs.Devices.{row_to_play}

-- each of the first rows of a part is that of its device
abbrev pub AreRows : List Row → Devices → ℕ → Bool → ℕ → List Row → Type 0
AreRows rows devices count played n part =
    (k : ℕ) → k < n
    → slice_get part k ≡ option_map (row_to_play played) (slice_get rows (devices.first + k % count))

front : {X : Type 0} (xs : List X) (x : X) (k : ℕ) → k < length xs → slice_get (xs ++ x ∷ []) k ≡ slice_get xs k
front [] x k h = absurd (omega (arith, h))
front (y ∷ ys) x zero h = refl
front (y ∷ ys) x (suc k) h = front ys x k (omega (arith, h))

last_or_before : (k n : ℕ) → k < n + 1 → (k < n) ⊎ (k ≡ n)
last_or_before zero zero h = inr refl
last_or_before zero (suc n) h = inl (omega arith)
last_or_before (suc k) zero h = absurd (omega (arith, h))
last_or_before (suc k) (suc n) h = one (last_or_before k n (omega (arith, h)))
  where
    one : (k < n) ⊎ (k ≡ n) → (suc k < suc n) ⊎ (suc k ≡ suc n)
    one (inl l) = inl (omega (arith, l))
    one (inr e) = inr (ap suc e)

pub rows_more : (rows : List Row) (devices : Devices) (count : ℕ) (played : Bool) (n : ℕ) (row : Row)
    (before after : List Row) → length before ≡ n
    → Some row ≡ slice_get rows (devices.first + n % count) → AreRows rows devices count played n before
    → after ≡ before ++ row_to_play played row ∷ [] → AreRows rows devices count played (n + 1) after
rows_more rows devices count played n row before after long here so_far more k below =
    ap (λ l. slice_get l k) more ∙ of (last_or_before k n below)
  where
    of : (k < n) ⊎ (k ≡ n) → slice_get (before ++ row_to_play played row ∷ []) k
        ≡ option_map (row_to_play played) (slice_get rows (devices.first + k % count))
    of (inl l) = front before (row_to_play played row) k (omega (arith, l, long)) ∙ so_far k l
    of (inr e) =
        ap (slice_get (before ++ row_to_play played row ∷ [])) (e ∙ sym long)
        ∙ item_pushed before (row_to_play played row)
        ∙ ap (option_map (row_to_play played)) here
        ∙ ap (λ j. option_map (row_to_play played) (slice_get rows (devices.first + j % count))) (sym e)

pub length_more : (before after : List Row) (row : Row) (n : ℕ) → length before ≡ n → after ≡ before ++ row ∷ []
    → length after ≡ n + 1
length_more before after row n long more =
    ap length more ∙ length_pushed before row ∙ ap suc long ∙ omega arith
