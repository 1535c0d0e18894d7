-- When a reading refuses a word, by the form of the word.
use Rattle.std.proofs.Common.{◌≡◌, ◌↔◌, ◌⊎◌, Bool, true, false, List, [], ◌∷◌, Result, Ok, Err, inl, inr, refl, sym}
use Rattle.std.proofs.Common.{ap, ◌∙◌}
use Rattle.std.specs.List.{AllByRecursion, list_all}
use Rattle.std.proofs.lemmas.Bool.{and_from, and_parts}
use Rattle.scenario_words.specs.declared.cause.Cause.{Cause}
use Rattle.scenario_words.specs.declared.cause.Cause.TheVariants.{Token}
use Rattle.scenario_words.specs.Reading.{◌>>=◌}
use Rattle.laws_reading.specs.WrongWords.{IsWrong}

abbrev pub refused : {A : Type 0} → Cause → Result A Cause
refused e = Err e

pub same_cause : {A : Type 0} (a b : Cause) → refused {A = A} a ≡ Err b → a ≡ b
same_cause a b h = cc

-- what a reading does, by the test of the form: it takes what is allowed; else it answers Token, or the other cause
pub record Reads {A : Type 0} (r : Result A Cause) (form allowed : Type 0) (other : Cause) (test : Bool) : Type 0 where
  pub tested : test ≡ true → form
  pub passes : form → test ≡ true
  pub unformed : test ≡ false → r ≡ Err Token
  pub formed : test ≡ true → (e : Cause) → r ≡ Err e → e ≡ other
  pub takes : (x : A) → r ≡ Ok x → allowed
  pub taken : allowed → (x : A) × (r ≡ Ok x)

refused_by : {A : Type 0} (r : Result A Cause) (form allowed : Type 0) (other cause : Cause) (test : Bool)
    → Reads r form allowed other test → r ≡ Err cause → IsWrong form allowed other cause
refused_by r form allowed other cause true reads h =
    inr (
      reads.tested refl,
      (λ a. let t = reads.taken a in let no : refused cause ≡ Ok t.0 = sym h ∙ t.1 in cc),
      reads.formed refl cause h,
    )
refused_by r form allowed other cause false reads h =
    inl (
      (λ f. let t = reads.passes f in cc),
      sym (same_cause Token cause (sym (reads.unformed refl) ∙ h)),
    )

formed_refused : {A : Type 0} (r : Result A Cause) (form allowed : Type 0) (other cause : Cause) (test : Bool)
    → Reads r form allowed other test → form → (allowed → ⊥) → cause ≡ other → r ≡ Err cause
formed_refused (Ok x) form allowed other cause test reads f none c = absurd (none (reads.takes x refl))
formed_refused (Err e) form allowed other cause test reads f none c =
    ap (λ x. refused x) (reads.formed (reads.passes f) e refl ∙ sym c)

unformed_by : {A : Type 0} (r : Result A Cause) (form allowed : Type 0) (other : Cause) (test : Bool)
    → Reads r form allowed other test → (form → ⊥) → r ≡ Err Token
unformed_by r form allowed other true reads f = absurd (f (reads.tested refl))
unformed_by r form allowed other false reads f = reads.unformed refl

wrong_refused : {A : Type 0} (r : Result A Cause) (form allowed : Type 0) (other cause : Cause) (test : Bool)
    → Reads r form allowed other test → IsWrong form allowed other cause → r ≡ Err cause
wrong_refused r form allowed other cause test reads (inl h) =
    unformed_by r form allowed other test reads h.0 ∙ ap (λ x. refused x) (sym h.1)
wrong_refused r form allowed other cause test reads (inr h) =
    formed_refused r form allowed other cause test reads h.0 h.1 h.2

pub is_wrong : {A : Type 0} (r : Result A Cause) (form allowed : Type 0) (other cause : Cause) (test : Bool)
    → Reads r form allowed other test → (r ≡ Err cause) ↔ IsWrong form allowed other cause
is_wrong r form allowed other cause test reads =
    (refused_by r form allowed other cause test reads, wrong_refused r form allowed other cause test reads)

-- a step that was refused, or the next one
pub bind_err : {A B : Type 0} (r : Result A Cause) (f : A → Result B Cause) (e : Cause) → (r >>= f) ≡ Err e
    → (r ≡ Err e) ⊎ ((x : A) × (r ≡ Ok x) × (f x ≡ Err e))
bind_err (Ok x) f e h = inr (x, refl, h)
bind_err {A} (Err c) f e h = inl (ap (λ x. refused {A = A} x) (same_cause c e h))

-- a test of each element says that each has what the test says
pub each_said : {X : Type 0} (p : X → Bool) (P : X → Type 0) → ((x : X) → p x ≡ true → P x) → (xs : List X)
    → list_all p xs ≡ true → AllByRecursion P xs
each_said p P h [] all = tt
each_said p P h (x ∷ xs) all =
    let t = and_parts (p x) (list_all p xs) all in (h x t.0, each_said p P h xs t.1)

pub each_tested : {X : Type 0} (p : X → Bool) (P : X → Type 0) → ((x : X) → P x → p x ≡ true) → (xs : List X)
    → AllByRecursion P xs → list_all p xs ≡ true
each_tested p P h [] all = refl
each_tested p P h (x ∷ xs) all = and_from (p x) (list_all p xs) (h x all.0) (each_tested p P h xs all.1)
