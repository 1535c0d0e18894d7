-- The numbers that links show are valid: they are set, and periods stand at every level.
use Rattle.std.proofs.Common.{◌≡◌, ℕ, ℤ, Bool, true, false, List, [], ◌∷◌, Option, None, Some, refl, ◌∙◌}
use Rattle.std.specs.Bool.{if◌then◌else◌}
use Rattle.std.specs.Option.{option_or}
use Rattle.object_defs.specs.declared.path.Path.{Path}
use Rattle.object_defs.specs.declared.path.Path.TheVariants.{Instance, Object, Part, Resource}
use Rattle.notifier.specs.declared.attribute.Name.{Name}
use Rattle.notifier.specs.declared.attribute.Name.TheVariants.{Gt, Lt, Pmax, Pmin, St}
use Rattle.notifier.specs.Attributes.{assigned_number, effective, first_assigned, key_of, levels_of}
use Rattle.notifier.specs.Query.{stands_at}
use Rattle.device_requests.specs.Client.{Client}
use Rattle.device_requests.specs.Discover.{shown_number}
use Rattle.device_requests.specs.WriteAttributes.{level_at}
use Rattle.laws_discover.specs.Printed.{HasValidAttributes, IsAttributeNumber}

abbrev Valid : Client → Path → Name → ℤ → Type 0
Valid client path n z = IsAttributeNumber n z × (stands_at n (level_at client.catalog path) ≡ true)

assigned_valid : (client : Client) → HasValidAttributes client → (server : ℕ) (path : Path) (n : Name) (z : ℤ)
    → assigned_number client.attributes server path n ≡ Some z → Valid client path n z
assigned_valid client h server (Object o) n z e = h (key_of server (Object o) n) z e
assigned_valid client h server (Instance o i) n z e = h (key_of server (Instance o i) n) z e
assigned_valid client h server (Resource o i r) n z e = h (key_of server (Resource o i r) n) z e
assigned_valid client h server (Part o i r p) n z e = h (key_of server (Part o i r p) n) z e

first_in_range : (client : Client) → HasValidAttributes client → (server : ℕ) (ps : List Path) (n : Name) (z : ℤ)
    → first_assigned client.attributes server ps n ≡ Some z → IsAttributeNumber n z
first_in_range client h server [] n z e = cc e
first_in_range client h server (p ∷ ps) n z e =
    by (assigned_number client.attributes server p n) refl (first_in_range client h server ps n z) e
  where
    by : (o : Option ℤ) → assigned_number client.attributes server p n ≡ o
        → (first_assigned client.attributes server ps n ≡ Some z → IsAttributeNumber n z)
        → option_or o (first_assigned client.attributes server ps n) ≡ Some z → IsAttributeNumber n z
    by None is later e = later e
    by (Some y) is later e = (assigned_valid client h server p n z (is ∙ e)).0

period_valid : (client : Client) → HasValidAttributes client → (server : ℕ) (b : Bool) (path : Path) (n : Name) (z : ℤ)
    → stands_at n (level_at client.catalog path) ≡ true
    → (if b then effective client.attributes server path n else assigned_number client.attributes server path n)
    ≡ Some z
    → Valid client path n z
period_valid client h server true path n z stands e = (first_in_range client h server (levels_of path) n z e, stands)
period_valid client h server false path n z stands e = assigned_valid client h server path n z e

pub shown_valid : (client : Client) → HasValidAttributes client → (server : ℕ) (inherits : Bool) (path : Path)
    (n : Name) (z : ℤ) → shown_number client.attributes server inherits path n ≡ Some z → Valid client path n z
shown_valid client h server true path Pmin z e = period_valid client h server true path Pmin z refl e
shown_valid client h server true path Pmax z e = period_valid client h server true path Pmax z refl e
shown_valid client h server true path Gt z e = assigned_valid client h server path Gt z e
shown_valid client h server true path Lt z e = assigned_valid client h server path Lt z e
shown_valid client h server true path St z e = assigned_valid client h server path St z e
shown_valid client h server false path n z e = assigned_valid client h server path n z e
