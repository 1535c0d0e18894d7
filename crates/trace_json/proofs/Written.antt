-- The line that a writer has written.
use Rattle.std.proofs.Common.{◌≡◌, ℕ, List, [], ◌∷◌, ◌++◌, refl, sym, ap, subst, ◌∙◌}
use Rattle.std.specs.Str.{IsUtf8}
use Rattle.std.proofs.lemmas.Str.{IsUtf8-append}
use Rattle.json.proofs.Printed.Utf8.{IsUtf8-are_ascii}
use Rattle.json.specs.Token.{Token}
use Rattle.json.specs.Print.{print}
use Rattle.serde_json.specs.Data.{Data}
use Rattle.serde_json.proofs.Texts.{print-outline}
use Rattle.scenario_words.specs.Words.{ended_line}
use Rattle.trace_json.specs.Writing.{json_line, tokens_of}

-- the tokens are those of a value, and nothing else was written
pub written : (d : Data) (old new before : List ℕ) (first last : List Token) → before ≡ old → first ≡ []
    → last ≡ first ++ tokens_of d → new ≡ before ++ ended_line (print last) → new ≡ old ++ json_line d
unfolding json_line
written d old new before first last stood none are ended =
    let text = ap print (are ∙ ap (λ ts. ts ++ tokens_of d) none) ∙ print-outline d in
    ended ∙ ap (λ b. b ++ ended_line (print last)) stood ∙ ap (λ t. old ++ ended_line t) text

-- a line after UTF-8 that is UTF-8 itself
pub ended_utf8 : (before printed bytes new : List ℕ) → IsUtf8 before → bytes ≡ before ++ printed → IsUtf8 printed
    → new ≡ bytes ++ 10 ∷ [] → IsUtf8 new
ended_utf8 before printed bytes new front held text ended =
    let both : IsUtf8 bytes = subst IsUtf8 (sym held) (IsUtf8-append before printed front text) in
    subst IsUtf8 (sym ended) (IsUtf8-append bytes (10 ∷ []) both (IsUtf8-are_ascii (10 ∷ []) refl))
