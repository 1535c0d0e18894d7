-- What is said of the selected entries, with one entry more.
use Rattle.std.proofs.Common.{◌≡◌, ℕ, ◌+◌, ◌<◌, Bool, true, false, ◌&&◌, cond, List, [], ◌∷◌, ◌++◌, length, take, Some}
use Rattle.std.proofs.Common.{slice_get, append_assoc, refl, sym, ap, subst, ◌∙◌, arith}
use Rattle.std.proofs.lemmas.List.{append-nil, length-take-le}
use Rattle.std.proofs.lemmas.List.Elements.{filter-append}
use Rattle.std.proofs.lemmas.Option.{slice_get_within}
use Rattle.lemmas.proofs.Lists.{take_one_more}
use Rattle.trace_file.specs.declared.entry.Entry.{Entry}
use Rattle.trace_text.specs.Selection.{is_from, is_selected, is_up_to, is_wanted, numbered_entries, selected_entries}
use Rattle.trace_text.specs.declared.selection.Selection.{Selection}
use Rattle.trace_reasons.specs.Text.{AreSaid, AreSelectedSaid}

-- one entry more, with its number
numbered-more : (number : ℕ) (es : List Entry) (e : Entry) (k : ℕ) → k ≡ number + length es
    → numbered_entries number (es ++ e ∷ []) ≡ numbered_entries number es ++ (k, e) ∷ []
numbered-more number [] e k h = let same : number ≡ k = omega arith in ap (λ n. (n, e) ∷ []) same
numbered-more number (x ∷ es) e k h =
    ap (λ ps. (number, x) ∷ ps) (numbered-more (number + 1) es e k (omega arith))

-- the text of one more
pub entries_more : (Is : ℕ → Entry → List ℕ → Type 0) (ps : List (ℕ × Entry)) (p : ℕ × Entry) (text first : List ℕ)
    → AreSaid Is ps text
    → Is p.0 p.1 first → AreSaid Is (ps ++ p ∷ []) (text ++ first)
entries_more Is [] p text first h is =
    (first, [], is, refl, ap (λ t. t ++ first) h ∙ sym (append-nil first))
entries_more Is (q ∷ ps) p text first h is = (
  h.0,
  h.1 ++ first,
  h.2,
  entries_more Is ps p h.1 first h.3 is,
  ap (λ t. t ++ first) h.4 ∙ append_assoc h.0 h.1 first,
)

-- the selected ones of one more
selected_entries-more : (sel : Selection) (es : List Entry) (i : ℕ) (e : Entry) → slice_get es i ≡ Some e
    → selected_entries sel (numbered_entries 0 (take (i + 1) es))
    ≡ selected_entries sel (numbered_entries 0 (take i es)) ++ cond (is_selected sel i e) ((i, e) ∷ []) []
selected_entries-more sel es i e at =
    let within : i < length es = slice_get_within es i e at in
    let count : length (take i es) ≡ i = length-take-le i es (omega arith) in
    ap (λ xs. selected_entries sel (numbered_entries 0 xs)) (take_one_more es i e at)
    ∙ ap (λ ps. selected_entries sel ps) (numbered-more 0 (take i es) e i (omega (arith, count)))
    ∙ filter-append (λ p. is_selected sel p.0 p.1) (numbered_entries 0 (take i es)) ((i, e) ∷ [])

pub text_shown : (Is : ℕ → Entry → List ℕ → Type 0) (sel : Selection) (es : List Entry) (i : ℕ) (e : Entry)
    (text first : List ℕ)
    → slice_get es i ≡ Some e → is_selected sel i e ≡ true → AreSelectedSaid Is sel (take i es) text
    → Is i e first → AreSelectedSaid Is sel (take (i + 1) es) (text ++ first)
text_shown Is sel es i e text first at is so_far here =
    let more : selected_entries sel (numbered_entries 0 (take (i + 1) es))
    ≡ selected_entries sel (numbered_entries 0 (take i es)) ++ (i, e) ∷ [] =
    selected_entries-more sel es i e at
    ∙ ap (λ b. selected_entries sel (numbered_entries 0 (take i es)) ++ cond b ((i, e) ∷ []) []) is in
    subst (λ ps. AreSaid Is ps (text ++ first)) (sym more)
    (entries_more Is (selected_entries sel (numbered_entries 0 (take i es))) (i, e) text first so_far here)

pub text_hidden : (Is : ℕ → Entry → List ℕ → Type 0) (sel : Selection) (es : List Entry) (i : ℕ) (e : Entry)
    (text : List ℕ)
    → slice_get es i ≡ Some e → is_selected sel i e ≡ false → AreSelectedSaid Is sel (take i es) text
    → AreSelectedSaid Is sel (take (i + 1) es) text
text_hidden Is sel es i e text at is so_far =
    let more : selected_entries sel (numbered_entries 0 (take (i + 1) es))
    ≡ selected_entries sel (numbered_entries 0 (take i es)) =
    selected_entries-more sel es i e at
    ∙ ap (λ b. selected_entries sel (numbered_entries 0 (take i es)) ++ cond b ((i, e) ∷ []) []) is
    ∙ append-nil (selected_entries sel (numbered_entries 0 (take i es))) in
    subst (λ ps. AreSaid Is ps text) (sym more) so_far

-- what is asked for, by the device and by the number
selected_is : (sel : Selection) (i : ℕ) (e : Entry) (between : Bool) → is_wanted sel.device e.device ≡ true
    → between ≡ (is_from sel.from i && is_up_to sel.to i) → is_selected sel i e ≡ between
selected_is sel i e between wanted is = rw wanted (sym is)

-- an entry of a device that is asked for
pub text_next : (Is : ℕ → Entry → List ℕ → Type 0) (sel : Selection) (es : List Entry) (i : ℕ) (e : Entry)
    (text first : List ℕ)
    (between : Bool) → slice_get es i ≡ Some e → is_wanted sel.device e.device ≡ true
    → between ≡ (is_from sel.from i && is_up_to sel.to i) → (between ≡ true → Is i e first)
    → (between ≡ false → first ≡ []) → AreSelectedSaid Is sel (take i es) text
    → AreSelectedSaid Is sel (take (i + 1) es) (text ++ first)
text_next Is sel es i e text first true at wanted is shown hidden so_far =
    text_shown Is sel es i e text first at (selected_is sel i e true wanted is) so_far (shown refl)
text_next Is sel es i e text first false at wanted is shown hidden so_far =
    let same : text ++ first ≡ text = ap (λ t. text ++ t) (hidden refl) ∙ append-nil text in
    subst (AreSelectedSaid Is sel (take (i + 1) es)) (sym same)
    (text_hidden Is sel es i e text at (selected_is sel i e false wanted is) so_far)

-- one of another device
pub text_past : (Is : ℕ → Entry → List ℕ → Type 0) (sel : Selection) (es : List Entry) (i : ℕ) (e : Entry)
    (text : List ℕ)
    → slice_get es i ≡ Some e → is_wanted sel.device e.device ≡ false → AreSelectedSaid Is sel (take i es) text
    → AreSelectedSaid Is sel (take (i + 1) es) text
text_past Is sel es i e text at other so_far = text_hidden Is sel es i e text at (rw other refl) so_far
