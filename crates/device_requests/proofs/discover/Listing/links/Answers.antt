-- The text begins as the links do, so they fit a payload together.
use Rattle.std.proofs.Common.{◌≡◌, ℕ, Bool, List, [], ◌++◌, ap, ◌∙◌, arith}
use Rattle.object_defs.specs.declared.path.Path.{Path}
use Rattle.device_requests.specs.Client.{Client}
use Rattle.device_requests.specs.Discover.{discover_payload, inherits_at, link, more_links, paths_below}
use Rattle.device_requests.specs.Inside.{beginning}
use Rattle.device_requests.proofs.Beginning.{in_limit, past_limit}
use Rattle.device_requests.proofs.discover.Listing.links.Goals as goal

begins : (client : Client) (server : ℕ) (path : Path) (inherits : Bool) (new first text payload : List ℕ) → new ≡ []
    → inherits ≡ inherits_at path → first ≡ new ++ link client server inherits path
    → beginning text ≡ beginning (first ++ more_links client server (paths_below client.catalog client.store path))
    → payload ≡ text → beginning payload ≡ beginning (discover_payload client server path)
begins client server path inherits new first text payload empty shown linked below whole =
    let others = more_links client server (paths_below client.catalog client.store path) in
    ap beginning whole ∙ below ∙ ap (λ t. beginning (t ++ others)) linked
    ∙ ap (λ t. beginning ((t ++ link client server inherits path) ++ others)) empty
    ∙ ap (λ b. beginning (link client server b path ++ others)) shown

pub returns-then-len-gt-LARGEST_PAYLOAD : goal.returns-then-len-gt-LARGEST_PAYLOAD
returns-then-len-gt-LARGEST_PAYLOAD c =
    past_limit c.from_vec-payload.result _
    (begins c.args.self.now.client.now c.args.self.now.server c.args.path _ _ _ _ _ c.new-text.ensures.items
    c.inherits_at.ensures c.in_ok-put_link.ensures c.in_ok-put_below.ensures c.from_vec-payload.ensures)
    (omega (arith, c.len.ensures))

pub returns : goal.returns
returns c =
    in_limit c.from_vec-payload.result _
    (begins c.args.self.now.client.now c.args.self.now.server c.args.path _ _ _ _ _ c.new-text.ensures.items
    c.inherits_at.ensures c.in_ok-put_link.ensures c.in_ok-put_below.ensures c.from_vec-payload.ensures)
    (omega (arith, c.len.ensures))
