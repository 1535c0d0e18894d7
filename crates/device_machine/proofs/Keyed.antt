-- Requests in a map whose keys are theirs, and the first second in which one of them no longer lives.
use Rattle.std.proofs.Common.{◌≡◌, ℕ, ◌+◌, ◌-◌, ◌<◌, min, nat_lt, ◌==◌, Bool, true, cond, ◌&&◌, List, []}
use Rattle.std.proofs.Common.{◌∷◌, ◌++◌, Some, filter, find, fold, refl, ◌∙◌, arith, rules}
use Rattle.std.specs.List.{AllByRecursion, AllZip}
use Rattle.std.specs.Map.{lookup, values_of}
use Rattle.std.proofs.lemmas.Bool.Decides.{nat_tests}
use Rattle.std.proofs.lemmas.List.Sums.{fold-append}
use Rattle.coap_codec.specs.Message.{kind_number}
use Rattle.coap_codec.specs.declared.kind.Kind.{Kind}
use Rattle.device_machine.specs.State.{is_live, lifetime}
use Rattle.device_machine.specs.Records.{HasOwnKey, end_of_life, first_end, has_key, is_same_key, key_number, number_of}
use Rattle.device_machine.specs.declared.recorded.Recorded.{Recorded}
use Rattle.device_machine.specs.declared.records.RecordKey.{RecordKey}
use Rattle.device_machine.specs.contracts.records.RecordKeyClone.TheImpl.{is_clone-value as key_clone}

-- ---- look-ups

-- the test by which keys are looked up
abbrev pub tests_keys : (RecordKey → RecordKey → Bool) → Type 0
tests_keys eq = (k j : RecordKey) → eq k j ≡ is_same_key k j

-- the parts of 16 bits, and the one above them, can be told from their number
told_apart : (k s m l t n : ℕ) → s < 65536 → m < 65536 → t < 65536 → n < 65536
    → (key_number k s m == key_number l t n) ≡ (t == s && (n == m && l == k))
told_apart k s m l t n a b c d = grind (arith, nat_tests)

-- a look-up by a key is a search by what the key says
pub found : (eq : RecordKey → RecordKey → Bool) → tests_keys eq → (server mid : ℕ) (kind : Kind) (key : RecordKey)
    → server < 65536 → mid < 65536 → number_of key ≡ key_number (kind_number kind) server mid
    → (es : List (RecordKey × Recorded)) → AllByRecursion HasOwnKey es
    → lookup (eq key) es ≡ find (has_key server kind mid) (values_of es)
found eq law server mid kind key small low is [] h = refl
found eq law server mid kind key small low is (e ∷ es) h =
    let at : eq key e.0 ≡ has_key server kind mid e.1 =
    law key e.0 ∙ (λ j. is j == h.0.number j)
    ∙ told_apart (kind_number kind) server mid (kind_number e.1.kind) e.1.server e.1.mid small low h.0.server h.0.mid in
    λ j. cond (at j) (Some e.1) (found eq law server mid kind key small low is es h.1 j)

-- ---- the first end

pub first_end-push : (rs : List Recorded) (r : Recorded) → first_end (rs ++ r ∷ []) ≡ min (first_end rs) (end_of_life r)
first_end-push rs r = fold-append (λ first x. min first (end_of_life x)) 18446744073709551615 rs (r ∷ [])

lives_before : (clock second life : ℕ)
    → clock < cond (life == 0) 0 (min (second + life) 18446744073709551615) → nat_lt (clock - second) life ≡ true
lives_before clock second life h = grind (arith, nat_tests)

below_both : (c a b : ℕ) → c < min a b → (c < a) × (c < b)
below_both c a b h = (omega arith, omega arith)

-- before it each of them lives
all_live : (clock a : ℕ) (rs : List Recorded) → clock < fold (λ first r. min first (end_of_life r)) a rs
    → (clock < a) × (filter (λ r. is_live clock r) rs ≡ rs)
all_live clock a [] h = (h, refl)
all_live clock a (r ∷ rs) h =
    let rest = all_live clock (min a (end_of_life r)) rs h in
    let parts = below_both clock a (end_of_life r) rest.0 in
    let lives = lives_before clock r.second (lifetime r.kind) parts.1 in
    (parts.0, (λ j. cond (lives j) (r ∷ rest.1 j) (filter (λ x. is_live clock x) rs)))

pub none_ends : (clock : ℕ) (rs : List Recorded) → clock < first_end rs → filter (λ r. is_live clock r) rs ≡ rs
none_ends clock rs h = (all_live clock 18446744073709551615 rs h).1

-- ---- clones

same_key : (k j : RecordKey) → key_clone.it k j → j ≡ k
same_key k j h =
    let server : j.server ≡ k.server = search rules in
    let kind : j.kind ≡ k.kind = search rules in
    let mid : j.mid ≡ k.mid = search rules in
    λ i. record { server = server i; kind = kind i; mid = mid i }

abbrev IsEntryClone : RecordKey × Recorded → RecordKey × Recorded → Type 0
IsEntryClone p q = key_clone.it p.0 q.0 × (q.1 ≡ p.1)

-- the entries of a clone are those of its source
pub same_entries : (es fs : List (RecordKey × Recorded)) → AllZip IsEntryClone es fs → fs ≡ es
same_entries [] [] h = refl
same_entries [] (f ∷ fs) h = absurd h
same_entries (e ∷ es) [] h = absurd h
same_entries (e ∷ es) (f ∷ fs) h = λ i. (same_key e.0 f.0 h.0.0 i, h.0.1 i) ∷ same_entries es fs h.1 i
