-- The object of an entry: the tokens of its parts, and the outputs with their reasons one after another.
use Rattle.std.proofs.Common.{◌≡◌, ℕ, zero, suc, ◌+◌, ◌≤◌, List, [], ◌∷◌, ◌++◌, Option, None, Some, option_map, codes, map}
use Rattle.std.proofs.Common.{slice_get, drop, refl, sym, ap, subst, ◌∙◌, append_assoc, arith}
use Rattle.std.proofs.Math.Seq.{drop-nil}
use Rattle.json.specs.Token.{Token}
use Rattle.json.specs.Token as token
use Rattle.json.specs.Tree.{items_tokens}
use Rattle.device_machine.specs.declared.output.Output.{Output}
use Rattle.device_machine.specs.declared.output.Output.TheVariants.{Send, Act}
use Rattle.scenario_image.specs.Scenario.{Scenario}
use Rattle.trace_file.specs.declared.entry.Entry.{Entry}
use Rattle.fleet_core.specs.Run.{step_at}
use Rattle.serde_json.specs.Data.{Data, depth, items_depth, members_depth, string}
use Rattle.serde_json.specs.Read.{max_depth}
use Rattle.serde_json.specs.View.{items_of}
use Rattle.serde_json.specs.Written.{items_outline}
use Rattle.trace_json.specs.Entries.{entry_json, step_fields}
use Rattle.trace_json.specs.Json.{Field, fields_json, list_json, number_json, object_json}
use Rattle.trace_json.specs.Notes.{if_there}
use Rattle.trace_json.specs.Reasons.{SaidEnd, SaidReasons, ended_fields, no_reasons, reasoned_json}
use Rattle.trace_json.specs.Reasons.{reasoned_output_json, reasoned_outputs, reasoned_outputs_json, silent_end_json}
use Rattle.trace_json.specs.Steps.{datagram_fields, kind_json, output_json, outputs_json}
use Rattle.trace_json.specs.Writing.{Has64Bits, IsReadAgain, fields_tokens, member_tokens, tokens_of}
use Rattle.trace_json.proofs.Depth.{event_depth, output_depth}
use Rattle.trace_json.proofs.Faults.{fields_then, members_end}
use Rattle.trace_json.proofs.ReadAgain.{read_again}

-- ---- tokens

pub datagram_tokens : (kind : List ℕ) (server : ℕ) (bytes : List ℕ)
    → tokens_of (kind_json kind (datagram_fields server bytes))
    ≡ token.begin_object ∷ (fields_tokens ((codes "kind", string kind) ∷ datagram_fields server bytes)
    ++ token.end_object ∷ [])
datagram_tokens kind server bytes =
    ap (λ ts. token.begin_object ∷ ts) (members_end ((codes "kind", string kind) ∷ datagram_fields server bytes))

-- with more members
pub sent_tokens : (server : ℕ) (bytes : List ℕ) (why : Option (List ℕ))
    → tokens_of (reasoned_output_json (Send server bytes) why)
    ≡ token.begin_object ∷ (fields_tokens ((codes "kind", string (codes "send")) ∷ datagram_fields server bytes)
    ++ (fields_tokens (if_there (codes "why") (option_map string why)) ++ token.end_object ∷ []))
unfolding reasoned_output_json
sent_tokens server bytes why =
    let head = (codes "kind", string (codes "send")) ∷ datagram_fields server bytes in
    let more = if_there (codes "why") (option_map string why) in
    ap (λ ts. token.begin_object ∷ ts)
    (fields_then head more ∙ ap (λ ts. fields_tokens head ++ ts) (members_end more))

pub entry_tokens : (s : Scenario) (n : ℕ) (e : Entry)
    → tokens_of (entry_json s n e)
    ≡ token.begin_object ∷ (fields_tokens (step_fields s n e)
    ++ (member_tokens (codes "outputs") (outputs_json e.outputs) ++ token.end_object ∷ []))
unfolding entry_json
entry_tokens s n e =
    ap (λ ts. token.begin_object ∷ ts)
    (fields_then (step_fields s n e) ((codes "outputs", outputs_json e.outputs) ∷ []))

pub reasoned_tokens : (s : Scenario) (n : ℕ) (e : Entry) (said : SaidReasons)
    → tokens_of (reasoned_json s n e said)
    ≡ token.begin_object ∷ (fields_tokens (step_fields s n e)
    ++ (fields_tokens (if_there (codes "rule") (option_map number_json said.rule))
    ++ (fields_tokens (if_there (codes "why") (option_map string said.why))
    ++ (member_tokens (codes "outputs") (reasoned_outputs_json e.outputs said.sent)
    ++ (fields_tokens (ended_fields said.ended) ++ token.end_object ∷ [])))))
unfolding reasoned_json
reasoned_tokens s n e said =
    let head = step_fields s n e in
    let rule = if_there (codes "rule") (option_map number_json said.rule) in
    let why = if_there (codes "why") (option_map string said.why) in
    let outputs : Field = (codes "outputs", reasoned_outputs_json e.outputs said.sent) in
    let ended = ended_fields said.ended in
    let last : List Field = outputs ∷ ended in
    ap (λ ts. token.begin_object ∷ ts)
    (fields_then head (rule ++ (why ++ last))
    ∙ ap (λ ts. fields_tokens head ++ ts) (fields_then rule (why ++ last)
    ∙ ap (λ ts. fields_tokens rule ++ ts) (fields_then why last
    ∙ ap (λ ts. fields_tokens why ++ (member_tokens outputs.0 outputs.1 ++ ts)) (members_end ended))))

-- parts that are written one after another
entry_shape : (old begin step key outputs end : List Token)
    → ((((old ++ begin) ++ step) ++ key) ++ outputs) ++ end ≡ old ++ (begin ++ (step ++ ((key ++ outputs) ++ end)))
entry_shape old begin step key outputs end = simp append_assoc

pub entry_written : (old begun stepped keyed listed new step key outputs told : List Token)
    → begun ≡ old ++ token.begin_object ∷ [] → stepped ≡ begun ++ step → keyed ≡ stepped ++ key
    → listed ≡ keyed ++ outputs → outputs ≡ told → new ≡ listed ++ token.end_object ∷ []
    → new ≡ old ++ token.begin_object ∷ (step ++ ((key ++ told) ++ token.end_object ∷ []))
entry_written old begun stepped keyed listed new step key outputs told one two three four same five =
    let end = token.end_object ∷ [] in
    five ∙ ap (λ ts. ts ++ end) (four ∙ ap (λ ts. ts ++ outputs) (three ∙ ap (λ ts. ts ++ key) (two
    ∙ ap (λ ts. ts ++ step) one)))
    ∙ ap (λ ts. ((((old ++ token.begin_object ∷ []) ++ step) ++ key) ++ ts) ++ end) same
    ∙ entry_shape old (token.begin_object ∷ []) step key told end

reasoned_shape : (old begin step rule why key outputs ended end : List Token)
    → (((((((old ++ begin) ++ step) ++ rule) ++ why) ++ key) ++ outputs) ++ ended) ++ end
    ≡ old ++ (begin ++ (step ++ (rule ++ (why ++ ((key ++ outputs) ++ (ended ++ end))))))
reasoned_shape old begin step rule why key outputs ended end = simp append_assoc

pub reasoned_written : (old begun stepped ruled said keyed listed done new step rule why key outputs ended : List Token)
    → begun ≡ old ++ token.begin_object ∷ [] → stepped ≡ begun ++ step → ruled ≡ stepped ++ rule
    → said ≡ ruled ++ why → keyed ≡ said ++ key → listed ≡ keyed ++ outputs → done ≡ listed ++ ended
    → new ≡ done ++ token.end_object ∷ []
    → new ≡ old ++ token.begin_object ∷ (step ++ (rule ++ (why ++ ((key ++ outputs)
    ++ (ended ++ token.end_object ∷ [])))))
reasoned_written old begun stepped ruled said keyed listed done new step rule why key outputs ended
    one two three four five six seven eight =
    let end = token.end_object ∷ [] in
    eight ∙ ap (λ ts. ts ++ end) (seven ∙ ap (λ ts. ts ++ ended) (six ∙ ap (λ ts. ts ++ outputs) (five
    ∙ ap (λ ts. ts ++ key) (four ∙ ap (λ ts. ts ++ why) (three ∙ ap (λ ts. ts ++ rule) (two
    ∙ ap (λ ts. ts ++ step) one))))))
    ∙ reasoned_shape old (token.begin_object ∷ []) step rule why key outputs ended end

-- the same tokens in other words
pub ended_as : (old new part told : List Token) → new ≡ old ++ part → part ≡ told → new ≡ old ++ told
ended_as old new part told is same = is ∙ ap (λ ts. old ++ ts) same

-- the words of a text that may be there
pub texts_there : {A : Type 0} (f : A → List ℕ) (o : Option A)
    → option_map string (option_map f o) ≡ option_map (λ x. string (f x)) o
texts_there f None = refl
texts_there f (Some x) = refl

-- ---- outputs

-- the next output, with the reason at its place
next_output : (outputs : List Output) (whys : List (List ℕ)) (i : ℕ) (x : Output) → slice_get outputs i ≡ Some x
    → reasoned_outputs (drop i outputs) (drop i whys)
    ≡ reasoned_output_json x (slice_get whys i) ∷ reasoned_outputs (drop (suc i) outputs) (drop (suc i) whys)
next_output [] whys i x at = let e : None ≡ Some x = at in absurd cc
next_output (y ∷ ys) [] zero x at =
    let same : y ≡ x = cc in ap (λ z. reasoned_output_json z None ∷ reasoned_outputs ys []) same
next_output (y ∷ ys) (w ∷ ws) zero x at =
    let same : y ≡ x = cc in ap (λ z. reasoned_output_json z (Some w) ∷ reasoned_outputs ys ws) same
next_output (y ∷ ys) [] (suc i) x at =
    ap (λ ws. reasoned_outputs (drop i ys) ws) (sym (drop-nil i)) ∙ next_output ys [] i x at
next_output (y ∷ ys) (w ∷ ws) (suc i) x at = next_output ys ws i x at

pub next_at : (outputs : List Output) (whys : List (List ℕ)) (i : ℕ) (x : Output) → slice_get outputs i ≡ Some x
    → reasoned_outputs (drop i outputs) (drop i whys)
    ≡ reasoned_output_json x (slice_get whys i) ∷ reasoned_outputs (drop (i + 1) outputs) (drop (i + 1) whys)
next_at outputs whys i x at =
    let next : suc i ≡ i + 1 = omega arith in
    next_output outputs whys i x at
    ∙ ap (λ n. reasoned_output_json x (slice_get whys i) ∷ reasoned_outputs (drop n outputs) (drop n whys)) next

pub tokens_more : (pending rest : List Data) (d : Data) (old new whole : List Token) → pending ≡ d ∷ rest
    → new ≡ old ++ tokens_of d → old ++ items_tokens (items_outline (items_of pending)) ≡ whole
    → new ++ items_tokens (items_outline (items_of rest)) ≡ whole
tokens_more pending rest d old new whole is added so_far =
    ap (λ ts. ts ++ items_tokens (items_outline (items_of rest))) added
    ∙ append_assoc old (tokens_of d) (items_tokens (items_outline (items_of rest)))
    ∙ ap (λ ds. old ++ items_tokens (items_outline (items_of ds))) (sym is) ∙ so_far

pub exact_more : {P : Type 0} (pending rest : List Data) (d : Data) → pending ≡ d ∷ rest → Has64Bits d
    → (Has64Bits (list_json pending) → P) → Has64Bits (list_json rest) → P
exact_more pending rest d is one so_far others =
    so_far (subst (λ ds. Has64Bits (list_json ds)) (sym is) (one, others))

-- ---- without reasons

no_reason : (x : Output) → reasoned_output_json x None ≡ output_json x
unfolding reasoned_output_json output_json
no_reason (Send server bytes) = refl
no_reason (Act act) = refl

outputs_without : (xs : List Output) → reasoned_outputs xs [] ≡ map output_json xs
outputs_without [] = refl
outputs_without (x ∷ xs) = λ i. no_reason x i ∷ outputs_without xs i

pub object_without : (s : Scenario) (n : ℕ) (e : Entry) → reasoned_json s n e no_reasons ≡ entry_json s n e
unfolding reasoned_json entry_json
object_without s n e =
    ap (λ outputs. object_json (step_fields s n e ++ ((codes "outputs", list_json outputs) ∷ [])))
    (outputs_without e.outputs)

-- ---- depth

reasoned_output_depth : (x : Output) (why : Option (List ℕ)) → depth (reasoned_output_json x why) ≤ 1
unfolding reasoned_output_json
reasoned_output_depth (Send server bytes) None = omega arith
reasoned_output_depth (Send server bytes) (Some why) = omega arith
reasoned_output_depth (Act act) why = output_depth (Act act)

reasoned_outputs_depth : (xs : List Output) (whys : List (List ℕ))
    → items_depth (items_of (reasoned_outputs xs whys)) ≤ 1
reasoned_outputs_depth [] whys = omega arith
reasoned_outputs_depth (x ∷ xs) [] =
    omega (arith, reasoned_output_depth x None, reasoned_outputs_depth xs [])
reasoned_outputs_depth (x ∷ xs) (w ∷ ws) =
    omega (arith, reasoned_output_depth x (Some w), reasoned_outputs_depth xs ws)

silent_end_depth : (e : SaidEnd) → depth (silent_end_json e) ≤ 1
unfolding silent_end_json
silent_end_depth e = omega arith

silent_ends_depth : (es : List SaidEnd) → items_depth (items_of (map silent_end_json es)) ≤ 1
silent_ends_depth [] = omega arith
silent_ends_depth (e ∷ es) = omega (arith, silent_end_depth e, silent_ends_depth es)

ended_depth : (es : List SaidEnd) → members_depth (fields_json (ended_fields es)) ≤ 2
ended_depth [] = omega arith
ended_depth (e ∷ es) = omega (arith, silent_ends_depth (e ∷ es))

fields_depth : (s : Scenario) (n : ℕ) (e : Entry) (rule : Option ℕ) (why : Option (List ℕ)) (sent : List (List ℕ))
    (ended : List SaidEnd)
    → members_depth (fields_json (step_fields s n e ++ (if_there (codes "rule") (option_map number_json rule)
    ++ (if_there (codes "why") (option_map string why)
    ++ ((codes "outputs", reasoned_outputs_json e.outputs sent) ∷ ended_fields ended))))) ≤ 2
fields_depth s n e None None sent ended =
    omega (arith, event_depth (step_at s e.device e.step), reasoned_outputs_depth e.outputs sent, ended_depth ended)
fields_depth s n e None (Some why) sent ended =
    omega (arith, event_depth (step_at s e.device e.step), reasoned_outputs_depth e.outputs sent, ended_depth ended)
fields_depth s n e (Some rule) None sent ended =
    omega (arith, event_depth (step_at s e.device e.step), reasoned_outputs_depth e.outputs sent, ended_depth ended)
fields_depth s n e (Some rule) (Some why) sent ended =
    omega (arith, event_depth (step_at s e.device e.step), reasoned_outputs_depth e.outputs sent, ended_depth ended)

reasoned_depth : (s : Scenario) (n : ℕ) (e : Entry) (said : SaidReasons) → depth (reasoned_json s n e said) ≤ max_depth
unfolding reasoned_json
reasoned_depth s n e said = omega (arith, fields_depth s n e said.rule said.why said.sent said.ended)

pub reasoned_again : (s : Scenario) (n : ℕ) (e : Entry) (said : SaidReasons) → Has64Bits (reasoned_json s n e said)
    → IsReadAgain (reasoned_json s n e said)
reasoned_again s n e said exact = read_again (reasoned_json s n e said) exact (reasoned_depth s n e said)
