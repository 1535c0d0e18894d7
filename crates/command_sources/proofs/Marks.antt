-- Bytes that begin with the mark of an image.
use Rattle.std.proofs.Common.{ℕ, ◌≡◌, nat_eq, Bool, true, false, List, [], ◌∷◌, Ok, Some, refl, sym, ap, subst, ◌∙◌}
use Rattle.std.proofs.Common.{eqb-true}
use Rattle.std.specs.List.{onto_first, slice_split}
use Rattle.byte_layout.specs.Layout.{number}
use Rattle.scenario_image.specs.Scenario.{Scenario}
use Rattle.scenario_image.specs.Image.{image}
use Rattle.scenario_words.specs.Words.{lines, plain, scan}
use Rattle.scenario_statements.specs.declared.statement.Statement.{Statement}
use Rattle.scenario_statements.specs.Grammar.{statement_of}
use Rattle.scenario_asm.specs.Denotes.{AreSaid, Denotes, blank, stated}
use Rattle.command_sources.specs.Sources.{ImagesAreMarked, NoTextIsMarked, is_marked}

-- ---- texts

-- a part that begins with this one
record Begins (b : ℕ) (ps : List (List ℕ)) : Type 0 where
  part : List ℕ
  parts : List (List ℕ)
  are : onto_first b ps ≡ (b ∷ part) ∷ parts

onto : (b : ℕ) (ps : List (List ℕ)) → Begins b ps
onto b [] = record { part = []; parts = []; are = refl }
onto b (p ∷ ps) = record { part = p; parts = ps; are = refl }

-- a line that begins with `L` says nothing
unsaid : (line : List ℕ) (ls : List (List ℕ)) (ss : List Statement) → AreSaid ((76 ∷ line) ∷ ls) ss → ⊥
unsaid line ls ss (blank l none rest) =
    let o = onto 76 (scan plain line) in
    absurd cc
unsaid line ls ss (stated l s says rest) =
    let o = onto 76 (scan plain line) in
    let e : statement_of ((76 ∷ o.part) ∷ o.parts) ≡ Ok (Some s) = sym (ap statement_of o.are) ∙ says in
    absurd cc

unsaid_text : (bs : List ℕ) (ss : List Statement) → AreSaid (lines (76 ∷ bs)) ss → ⊥
unsaid_text bs ss h =
    let o = onto 76 (slice_split (λ b. nat_eq b 10) bs) in
    unsaid o.part o.parts ss (subst (λ ls. AreSaid ls ss) o.are h)

plain_text : (b : Bool) (x : ℕ) (bs : List ℕ) (s : Scenario) → nat_eq 76 x ≡ b → Denotes (x ∷ bs) s
    → is_marked (x ∷ bs) ≡ false
plain_text false x bs s e h = cc
plain_text true x bs s e h =
    let same : 76 ≡ x = eqb-true 76 x e in
    absurd (unsaid_text bs h.statements (subst (λ y. AreSaid (lines (y ∷ bs)) h.statements) (sym same) h.said))

pub no_text : NoTextIsMarked
no_text [] s h = refl
no_text (x ∷ bs) s h = plain_text (nat_eq 76 x) x bs s refl h

-- ---- images

pub marked_image : ImagesAreMarked
unfolding image number
marked_image bytes s h = ap is_marked h.1.1 ∙ refl
