-- What a choice or an `Option` that came to a value came from.
use Rattle.std.proofs.Common.{◌≡◌, Bool, true, false, if◌then◌else◌, Option, Some, None, option_map, refl, ap}
use Rattle.std.specs.Option.{option_zip}

pub chosen : {T : Type 0} (b : Bool) (x y : T) → (if b then Some x else None) ≡ Some y → (b ≡ true) × (x ≡ y)
chosen true x y e = (refl, cc)
chosen false x y e = cc e

pub kept_if : {T : Type 0} (b : Bool) (o : Option T) (y : T) → (if b then o else None) ≡ Some y → (b ≡ true)
    × (o ≡ Some y)
kept_if true o y e = (refl, e)
kept_if false o y e = cc e

pub zipped : {A B : Type 0} (a : Option A) (b : Option B) (x : A) (y : B) → option_zip a b ≡ Some (x, y) → (a ≡ Some x)
    × (b ≡ Some y)
zipped {A} {B} (Some u) (Some v) x y e =
    let first : Option (A × B) → Option A = option_map (λ p. p.0) in
    let second : Option (A × B) → Option B = option_map (λ p. p.1) in
    (ap first e, ap second e)
zipped (Some u) None x y e = cc e
zipped None b x y e = cc e
