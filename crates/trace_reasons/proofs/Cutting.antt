-- The text of an entry, in parts: without its outputs, the lines of its reason, and the outputs with theirs.
use Rattle.std.proofs.Common.{◌≡◌, ℕ, ◌+◌, ◌-◌, ◌<◌, ◌≤◌, min, List, [], ◌∷◌, ◌++◌, length, get_or, take, drop}
use Rattle.std.proofs.Common.{append_assoc, add-one, drop-cons, length-drop, sym, ap, ◌∙◌, arith}
use Rattle.std.proofs.lemmas.List.{append-nil, drop-drop, drop_min, take_min}
use Rattle.device_machine.specs.declared.output.Output.{Output}
use Rattle.notification_reasons.specs.Text.{happening_line}
use Rattle.notification_reasons.specs.declared.reasons.Happening.{Happening}
use Rattle.scenario_image.specs.Scenario.{Scenario}
use Rattle.trace_file.specs.declared.entry.Entry.{Entry}
use Rattle.trace_text.specs.Lines.{all_output_lines}
use Rattle.trace_text.specs.Text.{entry_text}
use Rattle.trace_reasons.specs.Text.{count_of, entry_with, outputs_with}

-- the same entry, without outputs
abbrev pub silent : Entry → Entry
silent e = record { worker = e.worker; device = e.device; step = e.step; outputs = [] }

joined : (a b c : List ℕ) → (a ++ (b ++ [])) ++ c ≡ a ++ (b ++ c)
joined a b c = ap (λ x. (a ++ x) ++ c) (append-nil b) ∙ append_assoc a b c

spread : (a b c d : List ℕ) → ((a ++ (b ++ [])) ++ c) ++ d ≡ a ++ (b ++ (c ++ d))
spread a b c d = ap (λ x. x ++ d) (joined a b c) ∙ append_assoc a (b ++ c) d ∙ ap (λ x. a ++ x) (append_assoc b c d)

-- the text without outputs, these lines, and the outputs with those of these happenings
pub with_lines : (s : Scenario) (number : ℕ) (e : Entry) (lines : List ℕ) (happenings : List Happening)
    → (entry_text s number (silent e) ++ lines) ++ outputs_with e.outputs happenings
    ≡ entry_with s number e lines happenings
with_lines s number e lines happenings = spread _ _ lines (outputs_with e.outputs happenings)

pub put_together : (s : Scenario) (number : ℕ) (e : Entry) (head lines more all : List ℕ) (happenings : List Happening)
    → head ≡ entry_text s number (silent e) → more ≡ head ++ lines → all ≡ more ++ outputs_with e.outputs happenings
    → all ≡ entry_with s number e lines happenings
put_together s number e head lines more all happenings h first second =
    second ∙ ap (λ x. x ++ outputs_with e.outputs happenings) (first ∙ ap (λ x. x ++ lines) h)
    ∙ with_lines s number e lines happenings

-- ---- outputs, and what happens among them

-- the outputs before a place and those up to another, from that place on
taken : (outputs : List Output) (place after k : ℕ) → place ≤ length outputs → after ≡ min (place + k) (length outputs)
    → all_output_lines (take k (drop place outputs)) ≡ all_output_lines (take (after - place) (drop place outputs))
taken outputs place after k within is =
    let rest = length-drop place outputs in
    let few : min k (length (drop place outputs)) ≡ after - place = omega (arith, rest, within, is) in
    ap all_output_lines (sym (take_min k (drop place outputs)) ∙ ap (λ n. take n (drop place outputs)) few)

dropped : (outputs : List Output) (place after k : ℕ) → place ≤ length outputs
    → after ≡ min (place + k) (length outputs) → drop k (drop place outputs) ≡ drop after outputs
dropped outputs place after k within is =
    drop-drop k place outputs ∙ sym (drop_min (place + k) outputs) ∙ ap (λ n. drop n outputs) (sym is)

-- what is written goes on with the rest
pub one_happening : (outputs : List Output) (hs : List Happening) (i place after : ℕ) (d : Happening)
    (before out mid next : List ℕ)
    → i < length hs → place ≤ length outputs → after ≡ min (place + count_of (get_or hs i d)) (length outputs)
    → out ++ outputs_with (drop place outputs) (drop i hs) ≡ before
    → mid ≡ out ++ all_output_lines (take (after - place) (drop place outputs))
    → next ≡ mid ++ happening_line (get_or hs i d)
    → next ++ outputs_with (drop after outputs) (drop (i + 1) hs) ≡ before
one_happening outputs hs i place after d before out mid next inside within is so_far first second =
    let rest = drop place outputs in
    let h = get_or hs i d in
    let here : drop i hs ≡ h ∷ drop (i + 1) hs =
    drop-cons hs i d inside ∙ ap (λ n. h ∷ drop n hs) (sym (add-one i)) in
    let tail = outputs_with (drop after outputs) (drop (i + 1) hs) in
    let lines = all_output_lines (take (after - place) rest) in
    ap (λ t. t ++ tail) (second ∙ ap (λ t. t ++ happening_line h) first)
    ∙ append_assoc (out ++ lines) (happening_line h) tail
    ∙ append_assoc out lines (happening_line h ++ tail)
    ∙ (λ j. out ++ (sym (taken outputs place after (count_of h) within is) j
    ++ (happening_line h
    ++ outputs_with (sym (dropped outputs place after (count_of h) within is) j) (drop (i + 1) hs))))
    ∙ ap (λ xs. out ++ outputs_with rest xs) (sym here) ∙ so_far
