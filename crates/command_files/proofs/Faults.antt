-- From the faults of a file to those of what reads it.
use Rattle.std.proofs.Common.{ℕ, ◌≡◌, ◌≢◌, ◌⊎◌, List, rules, inl, inr}
use Rattle.std.proofs.Common.{subst, sym}
use Rattle.std.specs.Str.{IsUtf8}
use Rattle.byte_layout.specs.declared.fault.LayoutFault.{LayoutFault}
use Rattle.byte_layout.specs.declared.fault.LayoutFault.TheVariants as layout
use Rattle.command_files.specs.declared.fault.Fault.{Fault}
use Rattle.command_files.specs.declared.fault.Fault.TheVariants as faults
use Rattle.command_files.specs.Fault.{IsReadingFault, layout_fault}
use Rattle.scenario_image.specs.Image.{HasImageFault}
use Rattle.command_files.specs.Loading.{IsFileFault, IsImageFault, IsNoImage, IsTextUnread}

-- a file that was not read gave no text
pub unread : (holds : List ℕ → List ℕ → Type 0) (fails : List ℕ → Type 0) (path : List ℕ) (f : Fault)
    → IsReadingFault (fails path) f → IsTextUnread holds fails path f
unread holds fails path faults.Memory h = tt
unread holds fails path faults.Read h = inl h
unread holds fails path _ h = absurd h

-- bytes that are not a text
pub not_text : (holds : List ℕ → List ℕ → Type 0) (fails : List ℕ → Type 0) (path bytes : List ℕ) → holds path bytes
    → ¬ (IsUtf8 bytes) → IsTextUnread holds fails path faults.Read
not_text holds fails path bytes held broken = inr (record { bytes = bytes; held = held; broken = broken })

-- a file that was not read
pub reading_file : (holds : List ℕ → List ℕ → Type 0) (fails : List ℕ → Type 0) (broken : List ℕ → LayoutFault → Type 0)
    (path : List ℕ) (f : Fault)
    → IsReadingFault (fails path) f → IsFileFault holds fails broken path f
reading_file holds fails broken path faults.Memory h = tt
reading_file holds fails broken path faults.Read h = h
reading_file holds fails broken path faults.Hex h = absurd h
reading_file holds fails broken path faults.Write h = absurd h
reading_file holds fails broken path (faults.Layout fault) h = absurd h
reading_file holds fails broken path (faults.Text fault) h = absurd h
reading_file holds fails broken path faults.TooLarge h = absurd h
reading_file holds fails broken path (faults.Template fault) h = absurd h
reading_file holds fails broken path faults.Workers h = absurd h
reading_file holds fails broken path faults.Batch h = absurd h
reading_file holds fails broken path faults.Spent h = absurd h
reading_file holds fails broken path faults.NoDevice h = absurd h
reading_file holds fails broken path faults.PastEnd h = absurd h
reading_file holds fails broken path faults.Range h = absurd h
reading_file holds fails broken path faults.TooLong h = absurd h
reading_file holds fails broken path faults.Bind h = absurd h
reading_file holds fails broken path faults.Wire h = absurd h
reading_file holds fails broken path (faults.Session fault) h = absurd h
reading_file holds fails broken path (faults.Cases fault) h = absurd h
reading_file holds fails broken path faults.NoSuchCase h = absurd h
reading_file holds fails broken path faults.NoDatagram h = absurd h
reading_file holds fails broken path faults.OtherClasses h = absurd h
reading_file holds fails broken path faults.Slices h = absurd h

-- a file whose bytes break off
pub broken_at : (holds : List ℕ → List ℕ → Type 0) (fails : List ℕ → Type 0) (broken : List ℕ → LayoutFault → Type 0)
    (path bytes : List ℕ) → holds path bytes
    → (fault : LayoutFault) → (fault ≢ layout.Memory → broken bytes fault)
    → IsFileFault holds fails broken path (layout_fault fault)
broken_at holds fails broken path bytes held layout.Magic h =
    record { bytes = bytes; held = held; faulty = h (search rules) }
broken_at holds fails broken path bytes held layout.Version h =
    record { bytes = bytes; held = held; faulty = h (search rules) }
broken_at holds fails broken path bytes held layout.Cut h =
    record { bytes = bytes; held = held; faulty = h (search rules) }
broken_at holds fails broken path bytes held layout.Trailing h =
    record { bytes = bytes; held = held; faulty = h (search rules) }
broken_at holds fails broken path bytes held (layout.BadField place) h =
    record { bytes = bytes; held = held; faulty = h (search rules) }
broken_at holds fails broken path bytes held (layout.Limit place) h =
    record { bytes = bytes; held = held; faulty = h (search rules) }
broken_at holds fails broken path bytes held layout.Memory h = tt

-- bytes that are no image
pub broken_image : (bytes : List ℕ) (fault : LayoutFault) → (fault ≢ layout.Memory → HasImageFault bytes fault)
    → IsNoImage bytes (layout_fault fault)
broken_image bytes layout.Magic h = h (search rules)
broken_image bytes layout.Version h = h (search rules)
broken_image bytes layout.Cut h = h (search rules)
broken_image bytes layout.Trailing h = h (search rules)
broken_image bytes (layout.BadField place) h = h (search rules)
broken_image bytes (layout.Limit place) h = h (search rules)
broken_image bytes layout.Memory h = tt

-- a file whose bytes are no image
pub no_image_at : (holds : List ℕ → List ℕ → Type 0) (fails : List ℕ → Type 0) (path bytes : List ℕ) (f : Fault)
    → holds path bytes → IsNoImage bytes f → IsImageFault holds fails path f
no_image_at holds fails path bytes faults.Memory held h = tt
no_image_at holds fails path bytes faults.Read held h = absurd h
no_image_at holds fails path bytes faults.Hex held h = absurd h
no_image_at holds fails path bytes faults.Write held h = absurd h
no_image_at holds fails path bytes (faults.Layout fault) held h = record { bytes = bytes; held = held; faulty = h }
no_image_at holds fails path bytes (faults.Text fault) held h = absurd h
no_image_at holds fails path bytes faults.TooLarge held h = absurd h
no_image_at holds fails path bytes (faults.Template fault) held h = absurd h
no_image_at holds fails path bytes faults.Workers held h = absurd h
no_image_at holds fails path bytes faults.Batch held h = absurd h
no_image_at holds fails path bytes faults.Spent held h = absurd h
no_image_at holds fails path bytes faults.NoDevice held h = absurd h
no_image_at holds fails path bytes faults.PastEnd held h = absurd h
no_image_at holds fails path bytes faults.Range held h = absurd h
no_image_at holds fails path bytes faults.TooLong held h = absurd h
no_image_at holds fails path bytes faults.Bind held h = absurd h
no_image_at holds fails path bytes faults.Wire held h = absurd h
no_image_at holds fails path bytes (faults.Session fault) held h = absurd h
no_image_at holds fails path bytes (faults.Cases fault) held h = absurd h
no_image_at holds fails path bytes faults.NoSuchCase held h = absurd h
no_image_at holds fails path bytes faults.NoDatagram held h = absurd h
no_image_at holds fails path bytes faults.OtherClasses held h = absurd h
no_image_at holds fails path bytes faults.Slices held h = absurd h

pub file_memory : (holds : List ℕ → List ℕ → Type 0) (fails : List ℕ → Type 0) (broken : List ℕ → LayoutFault → Type 0)
    (path : List ℕ) (f : Fault) → f ≡ faults.Memory
    → IsFileFault holds fails broken path f
file_memory holds fails broken path f same = subst (λ g. IsFileFault holds fails broken path g) (sym same) tt
