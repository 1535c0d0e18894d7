-- What a wire tells whose datagrams are shown.
use Rattle.std.proofs.Common.{Option, None, Some}
use Rattle.live_link.specs.Wire.{Carries, Traffic}
use Rattle.command_live.specs.Live.{told_while}
use Rattle.command_files.specs.declared.files.FileFault.{FileFault}

-- what the other wire told of a call is told of it, unless nothing is told any more
pub passed_on : (fault : Option FileFault) (before after : Option Traffic) (more : Traffic)
    → Carries before after more → Carries (told_while fault before) (told_while fault after) more
passed_on None before after more carries = carries
passed_on (Some fault) before after more carries = tt

-- a datagram was not printed: nothing is told
pub silent : (fault : FileFault) (before after : Option Traffic) (more : Traffic)
    → Carries before (told_while (Some fault) after) more
silent fault before after more = tt
