-- Bytes that are no image.
use Rattle.std.proofs.Common.{◌≡◌, inl, inr, ℕ, true, List, [], ◌∷◌, ◌++◌, length, Ok, Err, refl}
use Rattle.std.specs.Prelude.{nat_lt}
use Rattle.std.specs.List.{list_all}
use Rattle.byte_layout.specs.Layout.{raw, number, each}
use Rattle.byte_layout.specs.Whole.{fault_of_break}
use Rattle.byte_layout.specs.declared.fault.Break.{Break}
use Rattle.byte_layout.specs.declared.fault.Break.TheVariants as breaks
use Rattle.scenario_layout.specs.Class.{class, notify, notify_in}
use Rattle.scenario_image.specs.Image.{HasImageFault, classes, image, lists}
use Rattle.scenario_image.specs.Layout.{rows}
use Rattle.scenario_image.proofs.Imaged.{image_exact}
use Rattle.laws_image.specs.WorkedImage.{HasWorkedFaults, class_bytes, nothing, rows_bytes}
use Rattle.laws_image.proofs.Bytes.{are_bytes}

broken : (bytes : List ℕ) (b : Break) → list_all (λ b. nat_lt b 256) bytes ≡ true → image.read bytes ≡ Err b
    → HasImageFault bytes (fault_of_break (length bytes) b)
broken bytes b all h = (b, inl (image_exact.broken bytes (are_bytes bytes all) b h), refl)

magic : image.read (0x00 ∷ 0x57 ∷ 0x53 ∷ 0x43 ∷ 0x02 ∷ 0x00 ∷ 0x00 ∷ 0x00 ∷ 0x00 ∷ []) ≡ Err breaks.Magic
unfolding image raw number
magic = refl

version : image.read (0x4C ∷ 0x57 ∷ 0x53 ∷ 0x43 ∷ 0x03 ∷ 0x00 ∷ 0x00 ∷ 0x00 ∷ 0x00 ∷ []) ≡ Err breaks.Version
unfolding image raw number
version = refl

cut : image.read (0x4C ∷ 0x57 ∷ 0x53 ∷ 0x43 ∷ 0x02 ∷ 0x00 ∷ 0x00 ∷ 0x00 ∷ []) ≡ Err breaks.Cut
unfolding image lists classes rows raw number each
cut = refl

more : image.read (0x4C ∷ 0x57 ∷ 0x53 ∷ 0x43 ∷ 0x02 ∷ 0x00 ∷ 0x00 ∷ 0x00 ∷ 0x00 ∷ 0x00 ∷ [])
    ≡ Ok ((2, nothing), 0x00 ∷ [])
unfolding image lists classes rows raw number each
more = refl

field : image.read (0x4C ∷ 0x57 ∷ 0x53 ∷ 0x43 ∷ 0x02 ∷ 0x00 ∷ 0x01 ∷ 0x01 ∷ class_bytes ++ rows_bytes)
    ≡ Err (breaks.BadField 50)
unfolding image lists classes class notify_in notify raw number each
field = refl

limit : image.read (0x4C ∷ 0x57 ∷ 0x53 ∷ 0x43 ∷ 0x02 ∷ 0x01 ∷ 0x01 ∷ []) ≡ Err (breaks.Limit 2)
unfolding image lists classes raw number each
limit = refl

trailing : HasImageFault (0x4C ∷ 0x57 ∷ 0x53 ∷ 0x43 ∷ 0x02 ∷ 0x00 ∷ 0x00 ∷ 0x00 ∷ 0x00 ∷ 0x00 ∷ [])
    (fault_of_break 10 breaks.Trailing)
trailing =
    let t = image_exact.taken (0x4C ∷ 0x57 ∷ 0x53 ∷ 0x43 ∷ 0x02 ∷ 0x00 ∷ 0x00 ∷ 0x00 ∷ 0x00 ∷ 0x00 ∷ [])
    (are_bytes (0x4C ∷ 0x57 ∷ 0x53 ∷ 0x43 ∷ 0x02 ∷ 0x00 ∷ 0x00 ∷ 0x00 ∷ 0x00 ∷ 0x00 ∷ []) refl) (2, nothing)
    (0x00 ∷ []) more in
    (breaks.Trailing, inr ((2, nothing), 0x00, [], t.0, t.1, refl), refl)

pub faults : HasWorkedFaults
faults = record {
  magic = broken _ breaks.Magic refl magic;
  version = broken _ breaks.Version refl version;
  cut = broken _ breaks.Cut refl cut;
  trailing = trailing;
  field = broken _ (breaks.BadField 50) refl field;
  limit = broken _ (breaks.Limit 2) refl limit;
}
