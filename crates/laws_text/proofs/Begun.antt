-- What had an effect; and that `scenario 1` stands before it.
use Rattle.std.proofs.Common.{◌≡◌, ℕ, ◌+◌, Bool, true, false, cond, List, [], ◌∷◌, Option, None, Some, Result, Ok, Err}
use Rattle.std.proofs.Common.{refl, sym, ap, ◌∙◌}
use Rattle.lemmas.proofs.Tests.{never_both}
use Rattle.device_template.specs.Template.{Template}
use Rattle.device_machine.specs.declared.event.Event.TheVariants as event
use Rattle.scenario_image.specs.declared.step.Step.{Step}
use Rattle.scenario_image.specs.declared.step.Step.TheVariants as step
use Rattle.scenario_words.specs.declared.cause.Cause.{Cause}
use Rattle.scenario_words.specs.declared.cause.Cause.TheVariants.{Range}
use Rattle.scenario_words.specs.Words.{words}
use Rattle.scenario_words.specs.Reading.{◌>>=◌}
use Rattle.scenario_mnemonics.specs.Messages.{datagram_of}
use Rattle.scenario_mnemonics.specs.declared.mnemonic.Mnemonic.{Mnemonic}
use Rattle.scenario_statements.specs.declared.statement.Statement.{Statement}
use Rattle.scenario_statements.specs.declared.statement.Statement.TheVariants as says
use Rattle.scenario_statements.specs.Grammar.{statement_of}
use Rattle.scenario_asm.specs.Causes.{needs, unless}
use Rattle.scenario_asm.specs.Draft.{Draft}
use Rattle.scenario_asm.specs.Effect.{effect, has_server, if_path_fits, in_class, step_added}
use Rattle.scenario_asm.specs.Text.{effect_of, lines_after}
use Rattle.scenario_asm.proofs.Denoting.{wordless}
use Rattle.laws_text.specs.WrongLine.{AreBlank}
use Rattle.laws_text.proofs.Runs.{go_on}

-- ---- what took place

pub needed : {X : Type 0} (b : Bool) (x : Result X Cause) (e : X) → needs b x ≡ Ok e → (b ≡ true) × (x ≡ Ok e)
needed true x e h = (refl, h)
needed false x e h = absurd cc

pub unrefused : {X : Type 0} (o : Option Cause) (x : X) (e : X) → unless o x ≡ Ok e → (o ≡ None) × (x ≡ e)
unrefused None x e h = let same : x ≡ e = cc in (refl, same)
unrefused (Some cause) x e h = absurd cc

-- what was added to the open class
pub record IsAddition (d : Draft) (add : Template → Result Template Cause) (make : Template → Draft)
    (o : Option Template) (e : Draft) : Type 0 where
  pub class : Template
  pub made : Template
  pub class_is : o ≡ Some class
  pub added : add class ≡ Ok made
  pub is : make made ≡ e

made_by : (d : Draft) (add : Template → Result Template Cause) (make : Template → Draft) (c : Template) (e : Draft)
    (r : Result Template Cause) → add c ≡ r → (r >>= (λ t. Ok (make t))) ≡ Ok e → IsAddition d add make (Some c) e
made_by d add make c e (Err cause) is h = absurd cc
made_by d add make c e (Ok t) is h =
    let same : make t ≡ e = cc in record { class = c; made = t; class_is = refl; added = is; is = same }

pub addition : (d : Draft) (add : Template → Result Template Cause) (make : Template → Draft) (o : Option Template)
    (e : Draft) → in_class d add make o ≡ Ok e → IsAddition d add make o e
addition d add make None e h = absurd cc
addition d add make (Some c) e h = made_by d add make c e (add c) refl h

-- ---- after each statement a text has begun

same_begun : (d e : Draft) (o : Option Cause) (f : Draft) → f.begun ≡ d.begun → needs d.begun (unless o f) ≡ Ok e
    → e.begun ≡ true
same_begun d e o f kept h =
    let p = needed d.begun (unless o f) e h in sym (ap (λ x. x.begun) (unrefused o f e p.1).1) ∙ kept ∙ p.0

class_begun_before : (d e : Draft) (add : Template → Result Template Cause) (make : Template → Draft)
    → ((t : Template) → (make t).begun ≡ d.begun) → needs d.begun (in_class d add make d.open_class) ≡ Ok e
    → e.begun ≡ true
class_begun_before d e add make kept h =
    let p = needed d.begun (in_class d add make d.open_class) e h in
    let a = addition d add make d.open_class e p.1 in
    sym (ap (λ x. x.begun) a.is) ∙ kept a.made ∙ p.0

within_begun : (d e : Draft) (b : Bool) (o : Option Cause) (f : Draft) → f.begun ≡ d.begun
    → needs d.begun (needs b (unless o f)) ≡ Ok e → e.begun ≡ true
within_begun d e b o f kept h =
    let p = needed d.begun (needs b (unless o f)) e h in
    let q = needed b (unless o f) e p.1 in
    sym (ap (λ x. x.begun) (unrefused o f e q.1).1) ∙ kept ∙ p.0

fitted_by : (b : Bool) (x : Result Draft Cause) (cause : Cause) (e : Draft) → cond b x (Err cause) ≡ Ok e → x ≡ Ok e
fitted_by true x cause e h = h
fitted_by false x cause e h = absurd cc

pub fitted : (m : Mnemonic) (x : Result Draft Cause) (e : Draft) → if_path_fits m x ≡ Ok e → x ≡ Ok e
fitted m x e h = fitted_by _ x Range e h

step_begun : (x : Step) (d e : Draft) → step_added x d ≡ Ok e → e.begun ≡ d.begun
step_begun x d e h = sym (ap (λ y. y.begun) (unrefused _ _ e h).1)

request_begun : (x : Step) (m : Mnemonic) (b : Bool) (d e : Draft)
    → needs d.begun (needs b (if_path_fits m (step_added x d))) ≡ Ok e → e.begun ≡ true
request_begun x m b d e h =
    let p = needed d.begun (needs b (if_path_fits m (step_added x d))) e h in
    let q = needed b (if_path_fits m (step_added x d)) e p.1 in
    step_begun x d e (fitted m (step_added x d) e q.1) ∙ p.0

first_begun : (d e f : Draft) (b : Bool) (cause : Cause) → f.begun ≡ true → cond b (Err cause) (Ok f) ≡ Ok e
    → e.begun ≡ true
first_begun d e f true cause kept h = absurd cc
first_begun d e f false cause kept h = let same : f ≡ e = cc in sym (ap (λ x. x.begun) same) ∙ kept

pub begun_behind : (s : Statement) (d e : Draft) → effect s d ≡ Ok e → e.begun ≡ true
begun_behind says.Scenario d e h = first_begun d e _ d.begun _ refl h
begun_behind says.Class d e h = same_begun d e _ _ refl h
begun_behind (says.Notify seconds) d e h = class_begun_before d e _ _ (λ t. refl) h
begun_behind (says.Account server) d e h = class_begun_before d e _ _ (λ t. refl) h
begun_behind (says.Object id) d e h = class_begun_before d e _ _ (λ t. refl) h
begun_behind (says.Def r) d e h = class_begun_before d e _ _ (λ t. refl) h
begun_behind (says.Instance place) d e h = class_begun_before d e _ _ (λ t. refl) h
begun_behind (says.Value p value) d e h = class_begun_before d e _ _ (λ t. refl) h
begun_behind (says.Device class) d e h = same_begun d e _ _ refl h
begun_behind (says.Recv server bytes) d e h = within_begun d e _ _ _ refl h
begun_behind (says.Request server m) d e h =
    request_begun (step.Event (event.Recv server (datagram_of m))) m (has_server d server) d e h
begun_behind (says.Tick seconds) d e h = within_begun d e _ _ _ refl h
begun_behind (says.Put p value) d e h = within_begun d e _ _ _ refl h
begun_behind (says.Firmware code) d e h = within_begun d e _ _ _ refl h
begun_behind (says.Post group) d e h = within_begun d e _ _ _ refl h
begun_behind (says.Need group count) d e h = within_begun d e _ _ _ refl h

-- ---- lines that leave a draft which has not begun have no words

stays_by : (more : List (List ℕ)) (n : ℕ) (d e : Draft) (o : Option Statement) (r : Result Draft Cause)
    → effect_of o d ≡ r → go_on more n r ≡ Ok e → d.begun ≡ true
    → ((f : Draft) → lines_after more (n + 1) f ≡ Ok e → f.begun ≡ true → e.begun ≡ true) → e.begun ≡ true
stays_by more n d e o (Err cause) is h begun rest = absurd cc
stays_by more n d e None (Ok f) is h begun rest =
    let same : d ≡ f = cc in rest f h (sym (ap (λ x. x.begun) same) ∙ begun)
stays_by more n d e (Some s) (Ok f) is h begun rest = rest f h (begun_behind s d f is)

stays_at : (more : List (List ℕ)) (n : ℕ) (d e : Draft) (q : Result (Option Statement) Cause)
    → go_on more n (q >>= (λ o. effect_of o d)) ≡ Ok e → d.begun ≡ true
    → ((f : Draft) → lines_after more (n + 1) f ≡ Ok e → f.begun ≡ true → e.begun ≡ true) → e.begun ≡ true
stays_at more n d e (Err cause) h begun rest = absurd cc
stays_at more n d e (Ok o) h begun rest = stays_by more n d e o (effect_of o d) refl h begun rest

stays_begun : (ls : List (List ℕ)) (n : ℕ) (d e : Draft) → lines_after ls n d ≡ Ok e → d.begun ≡ true
    → e.begun ≡ true
stays_begun [] n d e h begun = let same : d ≡ e = cc in sym (ap (λ x. x.begun) same) ∙ begun
stays_begun (line ∷ more) n d e h begun =
    stays_at more n d e (statement_of (words line)) h begun (λ f g b. stays_begun more (n + 1) f e g b)

blank_by : (line : List ℕ) (more : List (List ℕ)) (n : ℕ) (d e : Draft) (s : Statement) (r : Result Draft Cause)
    → effect s d ≡ r → go_on more n r ≡ Ok e → e.begun ≡ false → AreBlank (line ∷ more)
blank_by line more n d e s (Err cause) is h unbegun = absurd cc
blank_by line more n d e s (Ok f) is h unbegun =
    absurd (never_both e.begun (stays_begun more (n + 1) f e h (begun_behind s d f is)) unbegun)

blank_at : (line : List ℕ) (more : List (List ℕ)) (n : ℕ) (d e : Draft) (q : Result (Option Statement) Cause)
    → statement_of (words line) ≡ q → go_on more n (q >>= (λ o. effect_of o d)) ≡ Ok e → e.begun ≡ false
    → ((f : Draft) → lines_after more (n + 1) f ≡ Ok e → AreBlank more) → AreBlank (line ∷ more)
blank_at line more n d e (Err cause) is h unbegun rest = absurd cc
blank_at line more n d e (Ok None) is h unbegun rest = (wordless (words line) is, rest d h)
blank_at line more n d e (Ok (Some s)) is h unbegun rest = blank_by line more n d e s (effect s d) refl h unbegun

pub are_blank : (ls : List (List ℕ)) (n : ℕ) (d e : Draft) → lines_after ls n d ≡ Ok e → e.begun ≡ false
    → AreBlank ls
are_blank [] n d e h unbegun = tt
are_blank (line ∷ more) n d e h unbegun =
    blank_at line more n d e (statement_of (words line)) refl h unbegun
    (λ f g. are_blank more (n + 1) f e g unbegun)

-- and lines without words leave the draft as it is
pub blank_run : (ls : List (List ℕ)) (n : ℕ) (d : Draft) → AreBlank ls → lines_after ls n d ≡ Ok d
blank_run [] n d h = refl
blank_run (line ∷ more) n d h =
    ap (λ ws. go_on more n (statement_of ws >>= (λ o. effect_of o d))) h.0 ∙ blank_run more (n + 1) d h.1
