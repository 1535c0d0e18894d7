-- What an observation does in a second, by whether its present answer is due, and what all of them do.
use Rattle.std.proofs.Common.{◌≡◌, ◌≢◌, ℕ, zero, suc, ◌+◌, ◌-◌, ◌<◌, ◌≤◌, ◌∙◌, Bool, true, false, ◌||◌, List, [], ◌∷◌}
use Rattle.std.proofs.Common.{◌++◌, length, Option, refl, sym, ap, subst, arith}
use Rattle.std.specs.Bool.{if◌then◌else◌}
use Rattle.std.specs.Option.{option_to_list}
use Rattle.std.proofs.lemmas.List.{length-append}
use Rattle.std.proofs.Math.Logic.{◌⊎◌, inl, inr}
use Rattle.std.proofs.lemmas.Bool.{or_parts}
use Rattle.notifier.specs.Due.{IsFirstDue, acts_at, acts_in, is_due_at, is_one_due}
use Rattle.notifier.specs.Resending.{turn_at}
use Rattle.notifier.specs.Trigger.{is_due}
use Rattle.notifier.specs.declared.observation.Observation.{Observation}
use Rattle.notifier.specs.declared.pending.Outlook.{Outlook}
use Rattle.notifier.specs.declared.pending.Pending.TheVariants.{Idle, Changed}
use Rattle.notifier.specs.declared.pending.Pending.TheVariants as pending
use Rattle.notifier.specs.declared.turn.Turn.{Turn}
use Rattle.notifier.specs.declared.turn.Turn.TheVariants.{Evaluate, Wait, Resend, Expire}
use Rattle.device_requests.specs.Answer.{code_byte, is_content}
use Rattle.device_requests.specs.Client.{Client}
use Rattle.device_requests.specs.Ruling.{code_of}
use Rattle.device_requests.specs.declared.answer.Answer.{Answer}
use Rattle.device_notifications.specs.declared.evaluation.Evaluation.{Evaluation}
use Rattle.device_notifications.specs.declared.evaluation.Evaluation.TheVariants.{Quiet, Sends, Gone}
use Rattle.device_notifications.specs.Laws.{IsFirstSending}
use Rattle.device_notifications.specs.Outlooks.{AreAtRest, outlook_of, outlooks_of}
use Rattle.device_notifications.specs.Period.{pmin_of, pmax_of}
use Rattle.device_notifications.specs.Second.{Sweep, and_then, evaluation_of, present_answer, quiet_sweep, second}
use Rattle.device_notifications.specs.Second.{seconds, sweep_of_both, triggers_now, turn_as, turn_by, turn_of}
use Rattle.device_notifications.proofs.Spans.{seconds_add}
use Rattle.device_notifications.proofs.Turns.{by_all, resends_one}

-- ---- one observation

-- what is said of content that triggers or not, and of another answer
abbrev said_of : Bool → Bool → ℕ → Option ℕ → ℕ → Outlook
said_of c t pmin pmax code =
    if c then record { pending = if t then Changed else Idle; pmin = pmin; pmax = pmax }
    else record { pending = pending.Gone code; pmin = pmin; pmax = pmax }

rests : (c t : Bool) (last clock pmin : ℕ) (pmax : Option ℕ) (code : ℕ) (a : Answer)
    → is_due_at last (said_of c t pmin pmax code) clock ≡ false
    → (if c then (if is_due (clock - last) pmin pmax t then Sends a else Quiet) else Gone a) ≡ Quiet
rests true true last clock pmin pmax code a h = ap (λ d. if d then Sends a else Quiet) h
rests true false last clock pmin pmax code a h = ap (λ d. if d then Sends a else Quiet) h
rests false t last clock pmin pmax code a h = cc

acts : (c t : Bool) (last clock pmin : ℕ) (pmax : Option ℕ) (code : ℕ) (a : Answer) (P : Evaluation → Type 0)
    → is_due_at last (said_of c t pmin pmax code) clock ≡ true
    → (c ≡ true → P (Sends a)) → (c ≡ false → P (Gone a))
    → P (if c then (if is_due (clock - last) pmin pmax t then Sends a else Quiet) else Gone a)
acts true true last clock pmin pmax code a P h s g = subst P (ap (λ d. if d then Sends a else Quiet) (sym h)) (s refl)
acts true false last clock pmin pmax code a P h s g = subst P (ap (λ d. if d then Sends a else Quiet) (sym h)) (s refl)
acts false t last clock pmin pmax code a P h s g = g refl

-- one that is not due does nothing
pub is_quiet : (client : Client) (clock : ℕ) (o : Observation) → is_due_at o.second (outlook_of client o) clock ≡ false
    → evaluation_of client clock o ≡ Quiet
is_quiet client clock o h =
    rests (is_content (present_answer client o))
    (triggers_now client o (present_answer client o).payload) o.second clock
    (pmin_of client o.server o.path) (pmax_of client o.server o.path)
    (code_byte (code_of (present_answer client o).ruling))
    (present_answer client o) h

-- one that is due sends its present answer
pub by_due : (client : Client) (clock : ℕ) (o : Observation) (P : Evaluation → Type 0)
    → is_due_at o.second (outlook_of client o) clock ≡ true
    → (is_content (present_answer client o) ≡ true → P (Sends (present_answer client o)))
    → (is_content (present_answer client o) ≡ false → P (Gone (present_answer client o)))
    → P (evaluation_of client clock o)
by_due client clock o P h s g =
    acts (is_content (present_answer client o)) (triggers_now client o (present_answer client o).payload) o.second clock
    (pmin_of client o.server o.path) (pmax_of client o.server o.path)
    (code_byte (code_of (present_answer client o).ruling))
    (present_answer client o) P h s g

quiet_as : (client : Client) (clock next_id : ℕ) (o : Observation) (t : Turn)
    → acts_in t o.second (outlook_of client o) clock ≡ false
    → turn_as client clock next_id o t ≡ quiet_sweep next_id (o ∷ [])
quiet_as client clock next_id o Evaluate h = ap (λ v. turn_by client clock next_id o v) (is_quiet client clock o h)
quiet_as client clock next_id o Wait h = refl
quiet_as client clock next_id o Resend h = let e : true ≡ false = h in cc
quiet_as client clock next_id o Expire h = let e : true ≡ false = h in cc

pub quiet_turn : (client : Client) (clock next_id : ℕ) (o : Observation)
    → acts_at o (outlook_of client o) clock ≡ false → turn_of client clock next_id o ≡ quiet_sweep next_id (o ∷ [])
quiet_turn client clock next_id o h = quiet_as client clock next_id o (turn_at o clock) h

-- something is sent, or one is removed
abbrev pub ActsOn : Sweep → ℕ → Type 0
ActsOn t n = (t.sent ≢ []) ⊎ (length t.left < n)

loud_as : (client : Client) (clock next_id : ℕ) (o : Observation) (t : Turn) → turn_at o clock ≡ t
    → acts_in t o.second (outlook_of client o) clock ≡ true → ActsOn (turn_as client clock next_id o t) 1
loud_as client clock next_id o Evaluate is h =
    inl (by_due client clock o (λ v. (turn_by client clock next_id o v).sent ≢ []) h (λ content e. cc)
    (λ no_content e. cc))
loud_as client clock next_id o Wait is h = let e : false ≡ true = h in absurd (cc)
loud_as client clock next_id o Resend is h =
    let there = resends_one o clock is in
    inl (λ none. let e : there.0 ∷ [] ≡ [] = sym (ap option_to_list there.1) ∙ none in cc)
loud_as client clock next_id o Expire is h = inr (omega arith)

loud_turn : (client : Client) (clock next_id : ℕ) (o : Observation)
    → acts_at o (outlook_of client o) clock ≡ true → ActsOn (turn_of client clock next_id o) 1
loud_turn client clock next_id o h = loud_as client clock next_id o (turn_at o clock) refl h

-- ---- a second

pub none_left : {X : Type 0} (xs ys : List X) → xs ++ ys ≡ [] → xs ≡ []
none_left [] ys h = refl
none_left (x ∷ xs) ys h = cc

pub none_right : {X : Type 0} (xs ys : List X) → xs ++ ys ≡ [] → ys ≡ []
none_right [] ys h = h
none_right (x ∷ xs) ys h = cc

-- where nothing is due, a second changes nothing
pub quiet_second : (client : Client) (clock next_id : ℕ) (os : List Observation)
    → is_one_due os (outlooks_of client os) clock ≡ false → second client clock next_id os ≡ quiet_sweep next_id os
quiet_second client clock next_id [] h = refl
quiet_second client clock next_id (o ∷ os) h =
    let parts = or_parts (acts_at o (outlook_of client o) clock) (is_one_due os (outlooks_of client os) clock) h in
    ap (λ (t : Sweep). sweep_of_both t (second client clock t.next_id os)) (quiet_turn client clock next_id o parts.0)
    ∙ ap (λ r. sweep_of_both (quiet_sweep next_id (o ∷ [])) r) (quiet_second client clock next_id os parts.1)

-- no more are left than there were
few_left : (client : Client) (clock next_id : ℕ) (o : Observation) → length (turn_of client clock next_id o).left ≤ 1
few_left client clock next_id o =
    by_all client clock next_id o (λ t. length t.left ≤ 1) (λ is content due. omega arith)
    (λ is content rests. omega arith) (λ is no_content. omega arith) (λ is. omega arith) (λ is. omega arith)
    (λ is. omega arith)

pub no_more_left : (client : Client) (clock next_id : ℕ) (os : List Observation)
    → length (second client clock next_id os).left ≤ length os
no_more_left client clock next_id [] = omega arith
no_more_left client clock next_id (o ∷ os) =
    let t = turn_of client clock next_id o in
    let rest = second client clock t.next_id os in
    let few = few_left client clock next_id o in
    let more = no_more_left client clock t.next_id os in
    let sizes = length-append t.left rest.left in
    omega (arith, few, more, sizes)

acts_first : (t rest : Sweep) (n : ℕ) → length rest.left ≤ n → ActsOn t 1 → ActsOn (sweep_of_both t rest) (suc n)
acts_first t rest n more (inl some) = inl (λ none. some (none_left t.sent rest.sent none))
acts_first t rest n more (inr fewer) =
    let sizes = length-append t.left rest.left in
    inr (omega (arith, more, fewer, sizes))

acts_later : (t rest : Sweep) (n : ℕ) → length t.left ≤ 1 → ActsOn rest n → ActsOn (sweep_of_both t rest) (suc n)
acts_later t rest n few (inl some) = inl (λ none. some (none_right t.sent rest.sent none))
acts_later t rest n few (inr fewer) =
    let sizes = length-append t.left rest.left in
    inr (omega (arith, few, fewer, sizes))

loud_by : (client : Client) (clock next_id : ℕ) (o : Observation) (os : List Observation) (b : Bool)
    → acts_at o (outlook_of client o) clock ≡ b
    → ((id : ℕ) → is_one_due os (outlooks_of client os) clock ≡ true → ActsOn (second client clock id os) (length os))
    → (b || is_one_due os (outlooks_of client os) clock) ≡ true
    → ActsOn (second client clock next_id (o ∷ os)) (suc (length os))
loud_by client clock next_id o os true due later h =
    let t = turn_of client clock next_id o in
    acts_first t (second client clock t.next_id os) (length os) (no_more_left client clock t.next_id os)
    (loud_turn client clock next_id o due)
loud_by client clock next_id o os false due later h =
    let t = turn_of client clock next_id o in
    acts_later t (second client clock t.next_id os) (length os) (few_left client clock next_id o) (later t.next_id h)

-- where something is due, it sends or is removed
pub loud_second : (client : Client) (clock next_id : ℕ) (os : List Observation)
    → is_one_due os (outlooks_of client os) clock ≡ true → ActsOn (second client clock next_id os) (length os)
loud_second client clock next_id [] h = let e : false ≡ true = h in absurd (cc)
loud_second client clock next_id (o ∷ os) h =
    loud_by client clock next_id o os (acts_at o (outlook_of client o) clock) refl
    (λ id due. loud_second client clock id os due) h

still : (t : Sweep) (next_id : ℕ) (os : List Observation) → t ≡ quiet_sweep next_id os → ActsOn t (length os) → ⊥
still t next_id os same (inl some) = some (ap (λ (x : Sweep). x.sent) same)
still t next_id os same (inr fewer) = let size = ap (λ (x : Sweep). length x.left) same in omega (arith, size, fewer)

-- and so what a second does says whether something is due
due_or_not : (client : Client) (clock next_id : ℕ) (os : List Observation) (b : Bool)
    → is_one_due os (outlooks_of client os) clock ≡ b → second client clock next_id os ≡ quiet_sweep next_id os
    → b ≡ false
due_or_not client clock next_id os true due same =
    absurd (still (second client clock next_id os) next_id os same (loud_second client clock next_id os due))
due_or_not client clock next_id os false due same = refl

pub rests_by_second : (client : Client) (clock next_id : ℕ) (os : List Observation)
    → second client clock next_id os ≡ quiet_sweep next_id os → is_one_due os (outlooks_of client os) clock ≡ false
rests_by_second client clock next_id os same =
    due_or_not client clock next_id os (is_one_due os (outlooks_of client os) clock) refl same

acts_or_not : (client : Client) (clock next_id : ℕ) (os : List Observation) (b : Bool)
    → is_one_due os (outlooks_of client os) clock ≡ b → ActsOn (second client clock next_id os) (length os) → b ≡ true
acts_or_not client clock next_id os true due some = refl
acts_or_not client clock next_id os false due some =
    absurd (still (second client clock next_id os) next_id os (quiet_second client clock next_id os due) some)

pub due_by_second : (client : Client) (clock next_id : ℕ) (os : List Observation)
    → ActsOn (second client clock next_id os) (length os) → is_one_due os (outlooks_of client os) clock ≡ true
due_by_second client clock next_id os some =
    acts_or_not client clock next_id os (is_one_due os (outlooks_of client os) clock) refl some

-- ---- seconds

pub quiet_seconds : (client : Client) (clock n next_id : ℕ) (os : List Observation)
    → AreAtRest os (outlooks_of client os) clock (clock + n)
    → seconds client clock n next_id os ≡ quiet_sweep next_id os
quiet_seconds client clock zero next_id os rest = refl
quiet_seconds client clock (suc n) next_id os rest =
    let here = quiet_second client (clock + 1) next_id os (rest (clock + 1) (omega arith) (omega arith)) in
    ap (λ (t : Sweep). and_then t (seconds client (clock + 1) n t.next_id t.left)) here
    ∙ ap (λ r. and_then (quiet_sweep next_id os) r)
    (quiet_seconds client (clock + 1) n next_id os
    (λ at after before. rest at (omega (arith, after)) (omega (arith, before))))

-- quiet seconds before others do not count
pub skipped : (client : Client) (clock n m end next_id : ℕ) (os : List Observation)
    → AreAtRest os (outlooks_of client os) clock end → clock + n ≡ end
    → seconds client clock (n + m) next_id os ≡ seconds client end m next_id os
skipped client clock n m end next_id os rest at =
    let quietly = quiet_seconds client clock n next_id os
    (λ t after before. rest t after (omega (arith, before, at))) in
    seconds_add client clock n m next_id os
    ∙ ap (λ (t : Sweep). and_then t (seconds client (clock + n) m t.next_id t.left)) quietly
    ∙ ap (λ c. seconds client c m next_id os) at

pub jumps : (client : Client) (clock n next_id first : ℕ) (os : List Observation)
    → IsFirstDue clock os (outlooks_of client os) first → first ≤ clock + n
    → seconds client clock n next_id os
    ≡ and_then (second client first next_id os)
    (seconds client first (clock + n - first) (second client first next_id os).next_id
    (second client first next_id os).left)
jumps client clock n next_id first os h within =
    let before = first - 1 in
    let after = h.later in
    let at : before + 1 ≡ first = omega (arith, after) in
    let count : n ≡ before - clock + suc (clock + n - first) = omega (arith, after, within) in
    let reaches : clock + (before - clock) ≡ before = omega (arith, after) in
    ap (λ k. seconds client clock k next_id os) count
    ∙ skipped client clock (before - clock) (suc (clock + n - first)) before next_id os
    (λ t later earlier. h.none_before t later (omega (arith, earlier, after))) reaches
    ∙ ap (λ c. and_then (second client c next_id os)
    (seconds client c (clock + n - first) (second client c next_id os).next_id (second client c next_id os).left)) at

-- ---- the first second that sends or removes

pub first_sending : (client : Client) (now next_id : ℕ) (os : List Observation) (first : ℕ)
    → IsFirstDue now os (outlooks_of client os) first → IsFirstSending client now next_id os first
first_sending client now next_id os first h =
    record {
      later = h.later;
      fits = h.fits;
      acts = loud_second client first next_id os h.passes;
      quiet_before = λ clock after before. quiet_second client clock next_id os (h.none_before clock after before);
    }

pub first_due : (client : Client) (now next_id : ℕ) (os : List Observation) (first : ℕ)
    → IsFirstSending client now next_id os first → IsFirstDue now os (outlooks_of client os) first
first_due client now next_id os first h =
    record {
      later = h.later;
      fits = h.fits;
      passes = due_by_second client first next_id os h.acts;
      none_before = λ clock after before. rests_by_second client clock next_id os (h.quiet_before clock after before);
    }
