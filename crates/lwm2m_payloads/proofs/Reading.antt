-- What is read byte by byte is arguments.
use Rattle.std.proofs.Common.{◌↔◌, ◌≡◌, ℕ, Bool, true, false, cond, eqb, ◌&&◌, List, [], ◌∷◌, ◌++◌, append_assoc, refl}
use Rattle.std.proofs.Common.{sym, ap, subst, ◌∙◌, ◌⊎◌, inl, inr}
use Rattle.std.specs.List.{list_all}
use Rattle.std.proofs.lemmas.Bool.{eqb-true, and_parts}
use Rattle.std.proofs.lemmas.List.{append-nil}
use Rattle.std.proofs.lemmas.List.Folds.{list_all-append}
use Rattle.lwm2m_payloads.specs.declared.arguments.Place.{Place}
use Rattle.lwm2m_payloads.specs.declared.arguments.Place.TheVariants.{Start, Comma, Digit, Equals, Text, Quote, Nowhere}
use Rattle.lwm2m_payloads.specs.Arguments.{is_digit, is_text_byte, IsArgument, AreSome, AreArguments, digit, valued}
use Rattle.lwm2m_payloads.specs.Arguments.{one, more}
use Rattle.lwm2m_payloads.specs.Scanning.{are_arguments, step, run}

-- ---- arguments are read

over_text : (text u : List ℕ) → list_all is_text_byte text ≡ true → run Text (text ++ 39 ∷ u) ≡ run Quote u
over_text [] u h = refl
over_text (c ∷ cs) u h =
    let parts = and_parts (is_text_byte c) (list_all is_text_byte cs) h in
    ap (λ b. run (cond b Text (cond (eqb c 39) Quote Nowhere)) (cs ++ 39 ∷ u)) parts.0 ∙ over_text cs u parts.1

-- a place after which an argument begins
abbrev Begins : Place → Type 0
Begins p = (c : ℕ) → step p c ≡ cond (is_digit c) Digit Nowhere

over_first : (p : Place) → Begins p → (d : ℕ) (t : List ℕ) → is_digit d ≡ true → run p (d ∷ t) ≡ run Digit t
over_first p begins d t h = ap (λ q. run q t) (begins d) ∙ ap (λ b. run (cond b Digit Nowhere) t) h

over_argument : (p : Place) → Begins p → (a u : List ℕ) → IsArgument a → (run p (a ++ u) ≡ run Digit u)
    ⊎ (run p (a ++ u) ≡ run Quote u)
over_argument p begins a u (digit d h) = inl (over_first p begins d u h)
over_argument p begins a u (valued d text h all) =
    inr (over_first p begins d (61 ∷ 39 ∷ ((text ++ 39 ∷ []) ++ u)) h ∙ ap (run Text) (append_assoc text (39 ∷ []) u)
    ∙ over_text text u all)

pub over_some : (p : Place) → Begins p → (t : List ℕ) → AreSome t → run p t ≡ true
over_some p begins t (one a is) =
    ap (run p) (sym (append-nil a)) ∙ elim (over_argument p begins a [] is) [ inl e ↦ e | inr e ↦ e ]
over_some p begins t (more a rest is others) =
    elim (over_argument p begins a (44 ∷ rest) is) [
      | inl e ↦ e ∙ over_some Comma (λ c. refl) rest others
      | inr e ↦ e ∙ over_some Comma (λ c. refl) rest others
    ]

pub are_read : (t : List ℕ) → AreArguments t → run Start t ≡ true
are_read t (inl e) = ap (run Start) e
are_read t (inr some) = over_some Start (λ c. refl) t some

-- ---- what is read is arguments

-- these bytes make arguments of what has led to a place
abbrev pub Completes : Place → List ℕ → Type 0
Completes Start t = AreArguments t
Completes Comma t = AreSome t
Completes Digit t = (d : ℕ) → is_digit d ≡ true → AreSome (d ∷ t)
Completes Equals t = (d : ℕ) → is_digit d ≡ true → AreSome (d ∷ 61 ∷ t)
Completes Text t =
    (d : ℕ) → is_digit d ≡ true → (p : List ℕ) → list_all is_text_byte p ≡ true → AreSome (d ∷ 61 ∷ 39 ∷ (p ++ t))
Completes Quote t =
    (d : ℕ) → is_digit d ≡ true → (p : List ℕ) → list_all is_text_byte p ≡ true → AreSome (d ∷ 61 ∷ 39 ∷ (p ++ 39 ∷ t))
Completes Nowhere t = ⊥

ended : (p : Place) → run p [] ≡ true → Completes p []
ended Start h = inl refl
ended Comma h = cc
ended Digit h = λ d is. one (d ∷ []) (digit d is)
ended Equals h = cc
ended Text h = cc
ended Quote h = λ d is p all. one _ (valued d p is all)
ended Nowhere h = cc

-- by cases of a test
split : (b : Bool) (p q : Place) (t : List ℕ) (A : Type 0) → (b ≡ true → run p t ≡ true → A)
    → (b ≡ false → run q t ≡ true → A) → run (cond b p q) t ≡ true → A
split true p q t A f g h = f refl h
split false p q t A f g h = g refl h

with_comma : (c : ℕ) (a cs : List ℕ) → eqb c 44 ≡ true → IsArgument a → AreSome cs → AreSome (a ++ c ∷ cs)
with_comma c a cs e is others = subst (λ k. AreSome (a ++ k ∷ cs)) (sym (eqb-true c 44 e)) (more a cs is others)

one_more : (c : ℕ) (p : List ℕ) → list_all is_text_byte p ≡ true → is_text_byte c ≡ true
    → list_all is_text_byte (p ++ c ∷ []) ≡ true
one_more c p all is =
    list_all-append is_text_byte p (c ∷ []) ∙ ap (λ b. b && list_all is_text_byte (c ∷ [])) all ∙ ap (λ b. b && true) is

pub completes : (t : List ℕ) (p : Place) → run p t ≡ true → Completes p t
completes [] p h = ended p h
completes (c ∷ cs) Start h =
    inr (split (is_digit c) Digit Nowhere cs (AreSome (c ∷ cs)) (λ e k. completes cs Digit k c e)
    (λ e k. absurd (completes cs Nowhere k)) h)
completes (c ∷ cs) Comma h =
    split (is_digit c) Digit Nowhere cs (AreSome (c ∷ cs)) (λ e k. completes cs Digit k c e)
    (λ e k. absurd (completes cs Nowhere k)) h
completes (c ∷ cs) Digit h = λ d is.
    split (eqb c 44) Comma (cond (eqb c 61) Equals Nowhere) cs (AreSome (d ∷ c ∷ cs))
    (λ e k. with_comma c (d ∷ []) cs e (digit d is) (completes cs Comma k))
    (λ e. split (eqb c 61) Equals Nowhere cs (AreSome (d ∷ c ∷ cs))
    (λ g k. subst (λ x. AreSome (d ∷ x ∷ cs)) (sym (eqb-true c 61 g)) (completes cs Equals k d is))
    (λ g k. absurd (completes cs Nowhere k)))
    h
completes (c ∷ cs) Equals h = λ d is.
    split (eqb c 39) Text Nowhere cs (AreSome (d ∷ 61 ∷ c ∷ cs))
    (λ e k. subst (λ x. AreSome (d ∷ 61 ∷ x ∷ cs)) (sym (eqb-true c 39 e)) (completes cs Text k d is [] refl))
    (λ e k. absurd (completes cs Nowhere k)) h
completes (c ∷ cs) Text h = λ d is p all.
    split (is_text_byte c) Text (cond (eqb c 39) Quote Nowhere) cs (AreSome (d ∷ 61 ∷ 39 ∷ (p ++ c ∷ cs)))
    (λ e k. subst (λ x. AreSome (d ∷ 61 ∷ 39 ∷ x)) (append_assoc p (c ∷ []) cs)
    (completes cs Text k d is (p ++ c ∷ []) (one_more c p all e)))
    (λ e. split (eqb c 39) Quote Nowhere cs (AreSome (d ∷ 61 ∷ 39 ∷ (p ++ c ∷ cs)))
    (λ g k. subst (λ x. AreSome (d ∷ 61 ∷ 39 ∷ (p ++ x ∷ cs))) (sym (eqb-true c 39 g))
    (completes cs Quote k d is p all))
    (λ g k. absurd (completes cs Nowhere k)))
    h
completes (c ∷ cs) Quote h = λ d is p all.
    split (eqb c 44) Comma Nowhere cs (AreSome (d ∷ 61 ∷ 39 ∷ (p ++ 39 ∷ c ∷ cs)))
    (λ e k. subst (λ x. AreSome (d ∷ 61 ∷ 39 ∷ x)) (append_assoc p (39 ∷ []) (c ∷ cs))
    (with_comma c (d ∷ 61 ∷ 39 ∷ (p ++ 39 ∷ [])) cs e (valued d p is all) (completes cs Comma k)))
    (λ e k. absurd (completes cs Nowhere k)) h
completes (c ∷ cs) Nowhere h = completes cs Nowhere h

-- the test finds arguments
pub tested : (t : List ℕ) → (are_arguments t ≡ true) ↔ AreArguments t
tested t = (λ h. completes t Start h, λ h. are_read t h)
