-- The values of the options of a mnemonic's message, number by number.
use Rattle.std.proofs.Common.{◌≡◌, ℕ, false, cond, eqb, List, [], ◌∷◌, ◌++◌, refl, ap, ◌∙◌, append-nil}
use Rattle.std.proofs.lemmas.Bool.{eq-eqb}
use Rattle.coap_codec.specs.declared.option.Opt.{Opt}
use Rattle.object_defs.specs.declared.path.Path.{Path}
use Rattle.scenario_mnemonics.specs.declared.action.Action.{Action}
use Rattle.scenario_mnemonics.specs.Messages.{fields_of, options_with, segments, options_of}
use Rattle.scenario_mnemonics.specs.Denoting.{values}

own_then : (k : ℕ) (vs : List (List ℕ)) (tail : List Opt) → values k (options_with k vs ++ tail) ≡ vs ++ values k tail
own_then k [] tail = refl
own_then k (v ∷ vs) tail =
    ap (λ b. cond b (v ∷ []) [] ++ values k (options_with k vs ++ tail)) (eq-eqb k k refl)
    ∙ ap (λ r. v ∷ r) (own_then k vs tail)

own_alone : (k : ℕ) (vs : List (List ℕ)) → values k (options_with k vs) ≡ vs
own_alone k [] = refl
own_alone k (v ∷ vs) =
    ap (λ b. cond b (v ∷ []) [] ++ values k (options_with k vs)) (eq-eqb k k refl)
    ∙ ap (λ r. v ∷ r) (own_alone k vs)

other_then : (j k : ℕ) (vs : List (List ℕ)) (tail : List Opt) → eqb j k ≡ false
    → values k (options_with j vs ++ tail) ≡ values k tail
other_then j k [] tail h = refl
other_then j k (v ∷ vs) tail h =
    ap (λ b. cond b (v ∷ []) [] ++ values k (options_with j vs ++ tail)) h
    ∙ other_then j k vs tail h

other_alone : (j k : ℕ) (vs : List (List ℕ)) → eqb j k ≡ false → values k (options_with j vs) ≡ []
other_alone j k [] h = refl
other_alone j k (v ∷ vs) h =
    ap (λ b. cond b (v ∷ []) [] ++ values k (options_with j vs)) h
    ∙ other_alone j k vs h

-- the five lists of options of an action, from the second, third, .. on
abbrev queries_on : Action → List Opt
queries_on a = options_with 15 (fields_of a).queries ++ options_with 17 (fields_of a).accept

abbrev content_on : Action → List Opt
content_on a = options_with 12 (fields_of a).content ++ queries_on a

abbrev path_on : Path → Action → List Opt
path_on p a = options_with 11 (segments p) ++ content_on a

behind_queries : (k : ℕ) (a : Action) → eqb 15 k ≡ false → eqb 17 k ≡ false → values k (queries_on a) ≡ []
behind_queries k a q c = other_then 15 k (fields_of a).queries _ q ∙ other_alone 17 k (fields_of a).accept c

pub observe_found : (p : Path) (a : Action) → values 6 (options_of p a) ≡ (fields_of a).observe
observe_found p a =
    own_then 6 (fields_of a).observe (path_on p a)
    ∙ ap (λ r. (fields_of a).observe ++ r) (other_then 11 6 (segments p) (content_on a) refl
    ∙ other_then 12 6 (fields_of a).content (queries_on a) refl ∙ behind_queries 6 a refl refl)
    ∙ append-nil (fields_of a).observe

pub path_found : (p : Path) (a : Action) → values 11 (options_of p a) ≡ segments p
path_found p a =
    other_then 6 11 (fields_of a).observe (path_on p a) refl
    ∙ own_then 11 (segments p) (content_on a)
    ∙ ap (λ r. segments p ++ r) (other_then 12 11 (fields_of a).content (queries_on a) refl
    ∙ behind_queries 11 a refl refl)
    ∙ append-nil (segments p)

pub content_found : (p : Path) (a : Action) → values 12 (options_of p a) ≡ (fields_of a).content
content_found p a =
    other_then 6 12 (fields_of a).observe (path_on p a) refl
    ∙ other_then 11 12 (segments p) (content_on a) refl
    ∙ own_then 12 (fields_of a).content (queries_on a)
    ∙ ap (λ r. (fields_of a).content ++ r) (behind_queries 12 a refl refl)
    ∙ append-nil (fields_of a).content

pub queries_found : (p : Path) (a : Action) → values 15 (options_of p a) ≡ (fields_of a).queries
queries_found p a =
    other_then 6 15 (fields_of a).observe (path_on p a) refl
    ∙ other_then 11 15 (segments p) (content_on a) refl
    ∙ other_then 12 15 (fields_of a).content (queries_on a) refl
    ∙ own_then 15 (fields_of a).queries (options_with 17 (fields_of a).accept)
    ∙ ap (λ r. (fields_of a).queries ++ r) (other_alone 17 15 (fields_of a).accept refl)
    ∙ append-nil (fields_of a).queries

pub accept_found : (p : Path) (a : Action) → values 17 (options_of p a) ≡ (fields_of a).accept
accept_found p a =
    other_then 6 17 (fields_of a).observe (path_on p a) refl
    ∙ other_then 11 17 (segments p) (content_on a) refl
    ∙ other_then 12 17 (fields_of a).content (queries_on a) refl
    ∙ other_then 15 17 (fields_of a).queries (options_with 17 (fields_of a).accept) refl
    ∙ own_alone 17 (fields_of a).accept
