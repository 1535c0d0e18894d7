-- What a Write-Attributes changes (OMA LwM2M 1.1 Core, Write-Attributes).
use Rattle.std.specs.Prelude.{◌≡◌, ◌≢◌, ℕ, ℤ, ◌==◌, List, [], ◌∷◌, Option, Ok, if◌then◌else◌}
use Rattle.std.specs.FinMap as map
use Rattle.object_defs.specs.declared.path.Path.{Path}
use Rattle.notifier.specs.declared.attribute.AttributeKey.{AttributeKey}
use Rattle.notifier.specs.declared.attribute.Change.{Change}
use Rattle.notifier.specs.declared.attribute.Name.{Name}
use Rattle.notifier.specs.Attributes.{assigned_number, key_of, rank}
use Rattle.notifier.specs.Query.{changes_of}
use Rattle.device_requests.specs.declared.answer.Code.TheVariants.{Changed}
use Rattle.device_requests.specs.Client.{Client}
use Rattle.device_requests.specs.Outcomes.{attributes_outcome}
use Rattle.device_requests.specs.Ruling.{code_of}
use Rattle.device_requests.specs.WriteAttributes.{level_at}

-- the number of an attribute after changes: that of the last change of its name, which may unset it
abbrev pub changed_by : List Change → Name → Option ℤ → Option ℤ
changed_by [] n before = before
changed_by (c ∷ changes) n before = changed_by changes n (if rank c.name == rank n then c.number else before)

-- the queries spell changes; the attributes of the server at the path are changed by them, all others are as they were
pub record AreAnnotated (old new : Client) (server : ℕ) (path : Path) (queries : List (List ℕ)) : Type 0 where
  pub changes : List Change
  pub spells : changes_of [] (level_at old.catalog path) queries ≡ Ok changes
  pub own : (n : Name)
      → assigned_number new.attributes server path n
      ≡ changed_by changes n (assigned_number old.attributes server path n)
  pub others : (k : AttributeKey) → ((n : Name) → k ≢ key_of server path n)
      → map.get new.attributes k ≡ map.get old.attributes k

-- a Write-Attributes that is answered Changed
abbrev pub AttributesAreSet : Type 0
AttributesAreSet =
    (client : Client) (server : ℕ) (path : Path) (queries : List (List ℕ))
    → code_of (attributes_outcome client server path queries).answer.ruling ≡ Changed
    → AreAnnotated client (attributes_outcome client server path queries).client server path queries
