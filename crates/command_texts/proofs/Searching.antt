-- The words of a line, looked at one after another.
use Rattle.std.proofs.Common.{◌≡◌, ◌≢◌, ℕ, ◌-◌, ◌<◌, ◌⊎◌, inl, inr, List, [], ◌∷◌, ◌++◌, Option, Some, refl, ap, sym, ◌∙◌}
use Rattle.std.proofs.Common.{append_assoc, append-nil, subst}
use Rattle.scenario_words.specs.Words.{words}
use Rattle.scenario_words.specs.declared.cause.Cause.{Cause}
use Rattle.scenario_words.specs.declared.cause.Cause.TheVariants.{Missing}
use Rattle.command_files.specs.declared.refusal.Why.{Why}
use Rattle.command_texts.specs.Blamed.{AreRefusedFor, HaveNoWrongWord, IsBlamedIn, IsSaidOfLine, IsSaidOfWord}
use Rattle.command_texts.specs.Blamed.{IsWrongWord}
use Rattle.command_texts.proofs.Cutting.{word_alone, word_before}

-- these words were looked at and none is to blame, and others are left; where one is, the bytes so far are the words
-- that were looked at, whatever follows
pub record IsSearched (causes : List (List ℕ) → Option Cause) (cause : Cause) (line so_far left : List ℕ) : Type 0 where
  pub done : List (List ℕ)
  pub cut : words line ≡ done ++ words left
  pub read : (words left ≡ [] → ⊥) → (x : List ℕ) → words (so_far ++ x) ≡ done ++ words x
  pub none : HaveNoWrongWord causes cause done

-- no list ends within an empty one
empty : {X : Type 0} → (xs : List X) (x : X) (ys : List X) → [] ≡ xs ++ x ∷ ys → ⊥
empty [] x ys e = cc
empty (z ∷ zs) x ys e = cc

pub none_yet : (causes : List (List ℕ) → Option Cause) (cause : Cause) (line so_far : List ℕ) → so_far ≡ []
    → IsSearched causes cause line so_far line
none_yet causes cause line so_far none = record {
  done = [];
  cut = refl;
  read = λ some x. ap (λ s. words (s ++ x)) none;
  none = record { none = λ before word behind e refused. empty before word behind e };
}

-- the words so far and the next one, by themselves
next_words : (causes : List (List ℕ) → Option Cause) (cause : Cause) (line so_far left word behind : List ℕ)
    → (s : IsSearched causes cause line so_far left) → words left ≡ word ∷ words behind
    → words (so_far ++ word) ≡ s.done ++ word ∷ []
next_words causes cause line so_far left word behind s next =
    s.read (λ e. let h : [] ≡ word ∷ words behind = sym e ∙ next in cc) word
    ∙ ap (λ ws. s.done ++ ws) (word_alone left word (words behind) next)

pub wrong_here : (causes : List (List ℕ) → Option Cause) (cause : Cause)
    (line so_far left word behind longer : List ℕ) → IsSearched causes cause line so_far left
    → words left ≡ word ∷ words behind → longer ≡ so_far ++ word → AreRefusedFor causes cause (words longer)
    → IsWrongWord causes cause (words line) word
wrong_here causes cause line so_far left word behind longer s next same refused = record {
  before = s.done;
  behind = words behind;
  cut = s.cut ∙ ap (λ ws. s.done ++ ws) next;
  refused = subst (λ ws. AreRefusedFor causes cause ws)
      (ap words same ∙ next_words causes cause line so_far left word behind s next) refused;
  earlier = s.none;
}

-- a word of some words and one more is that one or stands in them
last_or_earlier : {X : Type 0} → (done : List X) (w : X) (before : List X) (u : X) (behind : List X)
    → done ++ w ∷ [] ≡ before ++ u ∷ behind
    → ((before ++ u ∷ []) ≡ (done ++ w ∷ [])) ⊎ ((more : List X) × (done ≡ before ++ u ∷ more))
last_or_earlier [] w [] u behind e = let h : w ∷ [] ≡ u ∷ behind = e in inl cc
last_or_earlier [] w (b ∷ bs) u behind e =
    let h : w ∷ [] ≡ b ∷ (bs ++ u ∷ behind) = e in
    let none : [] ≡ bs ++ u ∷ behind = cc in absurd (empty bs u behind none)
last_or_earlier (d ∷ ds) w [] u behind e =
    let h : d ∷ (ds ++ w ∷ []) ≡ u ∷ behind = e in let same : d ≡ u = cc in inr (ds, ap (λ x. x ∷ ds) same)
last_or_earlier (d ∷ ds) w (b ∷ bs) u behind e =
    let h : d ∷ (ds ++ w ∷ []) ≡ b ∷ (bs ++ u ∷ behind) = e in
    let same : d ≡ b = cc in
    let rest : ds ++ w ∷ [] ≡ bs ++ u ∷ behind = cc in
    elim (last_or_earlier ds w bs u behind rest) [
      | inl last ↦ inl (ap (λ ws. b ∷ ws) last ∙ ap (λ x. x ∷ (ds ++ w ∷ [])) (sym same))
      | inr earlier ↦ inr (earlier.0, ap (λ x. x ∷ ds) same ∙ ap (λ ws. b ∷ ws) earlier.1)
    ]

none_more : (causes : List (List ℕ) → Option Cause) (cause : Cause) (done : List (List ℕ)) (word : List ℕ)
    → HaveNoWrongWord causes cause done → (AreRefusedFor causes cause (done ++ word ∷ []) → ⊥)
    → HaveNoWrongWord causes cause (done ++ word ∷ [])
none_more causes cause done word none not_this = record {
  none = λ before u behind e refused. elim (last_or_earlier done word before u behind e) [
    | inl last ↦ not_this (subst (λ ws. AreRefusedFor causes cause ws) last refused)
    | inr earlier ↦ none.none before u earlier.0 earlier.1 refused
  ];
}

-- the words before a space, and those after it
spaced : (so_far word x : List ℕ) → ((so_far ++ word) ++ 32 ∷ []) ++ x ≡ so_far ++ (word ++ 32 ∷ x)
spaced so_far word x =
    append_assoc (so_far ++ word) (32 ∷ []) x ∙ append_assoc so_far word (32 ∷ x)

followed : (left word : List ℕ) (ws : List (List ℕ)) (x : List ℕ) → words left ≡ word ∷ ws → (ws ≡ [] → ⊥)
    → words (word ++ 32 ∷ x) ≡ word ∷ words x
followed left word [] x next some = absurd (some refl)
followed left word (v ∷ ws) x next some = word_before left word v ws x next

read_more : (so_far left word : List ℕ) (ws : List (List ℕ)) (done : List (List ℕ))
    → ((x : List ℕ) → words (so_far ++ x) ≡ done ++ words x) → words left ≡ word ∷ ws → (ws ≡ [] → ⊥) → (x : List ℕ)
    → words (((so_far ++ word) ++ 32 ∷ []) ++ x) ≡ (done ++ word ∷ []) ++ words x
read_more so_far left word ws done read next some x =
    ap words (spaced so_far word x) ∙ read (word ++ 32 ∷ x)
    ∙ ap (λ vs. done ++ vs) (followed left word ws x next some) ∙ sym (append_assoc done (word ∷ []) (words x))

pub one_more : (causes : List (List ℕ) → Option Cause) (cause : Cause)
    (line so_far left word behind longer : List ℕ) → IsSearched causes cause line so_far left
    → words left ≡ word ∷ words behind → (AreRefusedFor causes cause (words (so_far ++ word)) → ⊥)
    → longer ≡ (so_far ++ word) ++ 32 ∷ [] → IsSearched causes cause line longer behind
one_more causes cause line so_far left word behind longer s next taken same = record {
  done = s.done ++ word ∷ [];
  cut = s.cut ∙ ap (λ ws. s.done ++ ws) next ∙ sym (append_assoc s.done (word ∷ []) (words behind));
  read = λ some x. ap (λ l. words (l ++ x)) same
      ∙ read_more so_far left word (words behind) s.done
      (s.read (λ e. let h : [] ≡ word ∷ words behind = sym e ∙ next in cc)) next some x;
  none = none_more causes cause s.done word s.none (λ refused. taken (subst (λ ws. AreRefusedFor causes cause ws)
      (sym (next_words causes cause line so_far left word behind s next)) refused));
}

pub all_searched : (causes : List (List ℕ) → Option Cause) (cause : Cause) (line so_far left : List ℕ)
    → IsSearched causes cause line so_far left → words left ≡ [] → HaveNoWrongWord causes cause (words line)
all_searched causes cause line so_far left s none =
    subst (λ ws. HaveNoWrongWord causes cause ws)
    (sym (s.cut ∙ ap (λ ws. s.done ++ ws) none ∙ append-nil s.done)) s.none

-- ---- one look

pub refused_so : (causes : List (List ℕ) → Option Cause) (cause : Cause) (ws : List (List ℕ))
    → causes ws ≡ Some cause → cause ≢ Missing → AreRefusedFor causes cause ws
refused_so causes cause ws is more = record { is = is; more = more }

pub refused_is : (causes : List (List ℕ) → Option Cause) (cause : Cause) (ws : List (List ℕ))
    → AreRefusedFor causes cause ws → causes ws ≡ Some cause
refused_is causes cause ws h = h.is

pub refused_more : (causes : List (List ℕ) → Option Cause) (cause : Cause) (ws : List (List ℕ))
    → AreRefusedFor causes cause ws → cause ≢ Missing
refused_more causes cause ws h = h.more

-- ---- what is said of it

pub word_blamed : (causes : List (List ℕ) → Option Cause) (cause : Cause) (line word : List ℕ) (why : Why)
    → IsWrongWord causes cause (words line) word → IsSaidOfWord word why → IsBlamedIn causes cause line why
word_blamed causes cause line word why wrong said = inl (word, wrong, said)

pub line_blamed : (causes : List (List ℕ) → Option Cause) (cause : Cause) (line : List ℕ) (why : Why)
    → HaveNoWrongWord causes cause (words line) → IsSaidOfLine line why → IsBlamedIn causes cause line why
line_blamed causes cause line why none said = inr (none, said)
