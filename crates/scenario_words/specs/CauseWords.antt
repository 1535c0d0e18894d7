-- The words for a cause, as the bench prints them.
use Rattle.std.specs.Prelude.{ℕ, List, codes}
use Rattle.scenario_words.specs.declared.cause.Cause.{Cause}
use Rattle.scenario_words.specs.declared.cause.Cause.TheVariants.{Missing, Token, UnknownWord, Range, Duplicate, Limit}
use Rattle.scenario_words.specs.declared.cause.Cause.TheVariants.{Memory}

abbrev pub cause_words : Cause → List ℕ
cause_words Missing = codes "missing"
cause_words Token = codes "token"
cause_words UnknownWord = codes "unknown word"
cause_words Range = codes "range"
cause_words Duplicate = codes "duplicate"
cause_words Limit = codes "limit"
cause_words Memory = codes "memory"
