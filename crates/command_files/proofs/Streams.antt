-- What streams got, put together.
use Rattle.std.proofs.Common.{ℕ, ◌≡◌, List, Option, None, Some, IfSome}
use Rattle.std.specs.Io.KnownBytes.{Appends, Keeps}
use Rattle.std.proofs.KnownBytes.{Appends-kept}
use Rattle.command_files.specs.Refusals.{IsAbout, IsComplaint, IsReason, about_line, plain_line}
use Rattle.command_files.specs.declared.fault.Fault.{Fault}
use Rattle.command_files.specs.declared.refusal.Why.{Why}

-- what was printed and then passed on
pub passed_on : (text before between after : Option (List ℕ)) → IfSome text (Appends before between)
    → Keeps between after
    → IfSome text (Appends before after)
passed_on None before between after printed kept = tt
passed_on (Some text) before between after printed kept = Appends-kept before between after text printed kept

-- of a writer nothing is claimed at an error
pub refused : (text : Option (List ℕ)) → IfSome text (λ _. Unit {0})
refused None = tt
refused (Some text) = tt

pub is_about : (about why text : List ℕ) → text ≡ about_line about why → IsAbout (Some about) text
is_about about why text same = (why, same)

pub is_plain : (why text : List ℕ) → text ≡ plain_line why → IsAbout None text
is_plain why text same = (why, same)

pub complains_about : (about : List ℕ) (fault : Fault) (why : Why) (reason text : List ℕ)
    → IsReason fault why reason → text ≡ about_line about reason → IsComplaint (Some about) fault why text
complains_about about fault why reason text is same = (reason, is, same)

pub complains_plainly : (fault : Fault) (why : Why) (reason text : List ℕ) → IsReason fault why reason
    → text ≡ plain_line reason → IsComplaint None fault why text
complains_plainly fault why reason text is same = (reason, is, same)
