-- What `spell` printed is said again.
use Rattle.std.proofs.Common.{◌≡◌, ℕ, ◌<◌, Bool, true, false, cond, List, [], ◌∷◌, All, Option, Some}
use Rattle.std.proofs.Common.{Result, Ok, Err, refl, sym, ap, subst, ◌∙◌, arith, inl, inr}
use Rattle.std.specs.Prelude.{codes}
use Rattle.std.specs.Result.{IsOkAnd}
use Rattle.std.specs.String.{string_bytes}
use Rattle.std.specs.Str.{bytes_eq}
use Rattle.std.specs.Fmt.{decimal}
use Rattle.std.proofs.lemmas.Bool.{cases_Bool}
use Rattle.std.proofs.lemmas.Fmt.{decimal_injective}
use Rattle.std.proofs.lemmas.List.{append_cancel_right}
use Rattle.std.proofs.lemmas.List.Elements.{All-from_get_or}
use Rattle.std.proofs.lemmas.Slice.Eq.{bytes_eq-Decides}
use Rattle.hex.specs.Hex.{IsBytes, decode_of, encode_upper}
use Rattle.hex.specs.declared.error.FromHexError.{FromHexError}
use Rattle.hex.proofs.HexLemmas.{decode_of-encode_upper}
use Rattle.device_machine.specs.declared.event.Event.TheVariants.{Recv}
use Rattle.scenario_image.specs.declared.step.Step.TheVariants.{Event}
use Rattle.scenario_image.specs.Scenario.{is_within_limits}
use Rattle.scenario_words.specs.declared.cause.Cause.{Cause}
use Rattle.scenario_words.specs.declared.cause.Cause.TheVariants.{Limit, Range}
use Rattle.scenario_words.specs.Number.{number_of}
use Rattle.scenario_words.specs.Reading.{◌>>=◌, check_of_end, word_by}
use Rattle.scenario_words.proofs.NumberLaws.{number_of-law}
use Rattle.scenario_words.proofs.PathLaws.{bind_ok}
use Rattle.scenario_mnemonics.specs.declared.mnemonic.Mnemonic.{Mnemonic}
use Rattle.scenario_mnemonics.specs.Messages.{IsGood, datagram_of, fits_mnemonic}
use Rattle.scenario_statements.specs.declared.acks.Ack.{Ack}
use Rattle.scenario_statements.specs.declared.statement.Statement.{Statement}
use Rattle.scenario_statements.specs.declared.statement.Statement.TheVariants as says
use Rattle.scenario_statements.specs.Grammar.{statement_of}
use Rattle.scenario_statements.specs.Spelling.{line_of}
use Rattle.trace_text.specs.Lines.{said_line}
use Rattle.command_files.specs.declared.answer.Answer.{Answer}
use Rattle.command_words.specs.declared.arrival.Arrival.{Arrival}
use Rattle.scenario_statements.specs.Acks.{ack_datagram, ack_from, ack_line}
use Rattle.command_words.specs.Again.{AcksAreFound, AcksAreSaidAgain, IsSaidAgain, MnemonicsAreFound}
use Rattle.command_words.specs.Again.{MnemonicsAreSaidAgain, OthersAreSaidAgain}
use Rattle.command_words.specs.Saying.{said_text}
use Rattle.command_words.specs.Spelling.{IsSpellDone, ack, arrival_of, arrival_of_statement, arrival_of_statement_words}
use Rattle.command_words.specs.Spelling.{denoted_by, said_words}
use Rattle.command_words.proofs.Reading.{ended_same, good, word_here}
use Rattle.command_words.proofs.Requests.{request_read}
use Rattle.command_words.proofs.Sayings.{Begins, ack_begins, ack_small, mnemonic_begins, other_begins}

-- ---- from what was printed to what is said

octets_of : (bytes : List ℕ) → IsBytes bytes → All (λ b. b < 256) bytes
octets_of bytes are = All-from_get_or (λ b. b < 256) bytes 0 (λ i h. are i)

-- what `say` prints of hex
said_of : (hex bytes : List ℕ) (server : ℕ) (text : List ℕ) (r : Result (List ℕ) FromHexError) → r ≡ Ok bytes
    → IsOkAnd r (λ d. text ≡ said_text server d) → text ≡ said_text server bytes
said_of hex bytes server text (Ok d) same h = let one : d ≡ bytes = cc in h ∙ ap (said_text server) one
said_of hex bytes server text (Err e) same h = cc

-- what begins with a line is said with that line first
pub begins_again : (given : List (List ℕ)) (server : ℕ) (line : List ℕ)
    → ((spelled : Answer) (done : IsSpellDone given spelled) → Begins server done.arrival.bytes line)
    → IsSaidAgain given server line
begins_again given server line begins spelled said hex done printed answered =
    let bytes : List ℕ = done.arrival.bytes in
    let digits : hex ≡ encode_upper bytes =
    append_cancel_right hex (encode_upper bytes) (10 ∷ []) (sym printed ∙ done.text_is) in
    let decoded : decode_of hex ≡ Ok bytes = ap decode_of digits ∙ decode_of-encode_upper bytes done.octets in
    let text = said_of hex bytes server (string_bytes said.text) (decode_of hex) decoded answered.text_is in
    (said_line bytes, text ∙ (begins spelled done).text_is)

-- ---- from words to their datagram

abbrev arrived : Arrival → Result (Option Arrival) Cause
arrived a = Ok (Some a)

limited : (a b : Arrival) (fits : Bool) → cond fits (arrived a) (Err Limit) ≡ arrived b → a ≡ b
limited a b true h = cc
limited a b false h = cc

-- the datagram of a `recv`, and of a mnemonic, which fits
recv_is : (server : ℕ) (bytes : List ℕ) (a : Arrival) → arrival_of_statement (says.Recv server bytes) ≡ arrived a
    → bytes ≡ a.bytes
recv_is server bytes a h =
    ap (λ (x : Arrival). x.bytes) (limited (record { server = server; bytes = bytes }) a
    (is_within_limits (Event (Recv server bytes))) h)

fitting : (a b : Arrival) (fits within : Bool)
    → cond fits (cond within (arrived a) (Err Limit)) (Err Range) ≡ arrived b → (fits ≡ true) × (a ≡ b)
fitting a b true within h = (refl, limited a b within h)
fitting a b false within h = cc

request_is : (server : ℕ) (m : Mnemonic) (a : Arrival) → arrival_of_statement (says.Request server m) ≡ arrived a
    → (fits_mnemonic m ≡ true) × (datagram_of m ≡ a.bytes)
request_is server m a h =
    let f = fitting (record { server = server; bytes = datagram_of m }) a (fits_mnemonic m)
    (is_within_limits (Event (Recv server (datagram_of m)))) h in
    (f.0, ap (λ (x : Arrival). x.bytes) f.1)

-- words that say a statement denote what the statement denotes
denoted_so : (ws : List (List ℕ)) (s : Statement) (a : Arrival) → statement_of ws ≡ Ok (Some s)
    → arrival_of ws ≡ arrived a → arrival_of_statement s ≡ arrived a
denoted_so [] s a is_said h = cc
denoted_so (w ∷ ws) s a is_said h = elim (cases_Bool (bytes_eq w (codes "ack"))) [
  | inl same ↦
      let no : statement_of (codes "ack" ∷ ws) ≡ Ok (Some s) =
      ap (λ v. statement_of (v ∷ ws)) (sym ((bytes_eq-Decides w (codes "ack")).0 same)) ∙ is_said in
      cc
  | inr other ↦
      ap (λ r. r >>= denoted_by) (sym is_said)
      ∙ sym (ap (λ b. cond b (ack ws) (arrival_of_statement_words (w ∷ ws))) other)
      ∙ h
]

-- `ack S MID`, and its datagram
abbrev acking : ℕ → ℕ → Ack
acking server mid = record { server = server; mid = mid }

abbrev acked : Ack → Arrival
acked x = record { server = x.server; bytes = ack_datagram x.mid }

ack_from_is : (server mid : ℕ) (x : Ack) → mid < 65536 → ack_from (decimal server ∷ decimal mid ∷ []) ≡ Ok x
    → mid ≡ x.mid
ack_from_is server mid x small h =
    let s = word_here (number_of 1 65534 (decimal server)) (decimal mid ∷ [])
    (λ s. word_by (number_of 0 65535) s.1 >>= (λ m. check_of_end m.1 >>= (λ e. Ok (acking s.0 m.0)))) x h in
    let m = word_here (number_of 0 65535 (decimal mid)) []
    (λ m. check_of_end m.1 >>= (λ e. Ok (acking s.0 m.0))) x s.2 in
    let same : acking s.0 m.0 ≡ x = ended_same [] (acking s.0 m.0) x m.2 in
    let n = (number_of-law 0 65535 m.0 (decimal mid) (omega arith)).0 m.1 in
    let number : mid ≡ m.0 = decimal_injective mid m.0 (omega arith) (omega (arith, n.2)) n.0 in
    number ∙ ap (λ (x : Ack). x.mid) same

ack_is : (server mid : ℕ) (a : Arrival) → mid < 65536 → ack (decimal server ∷ decimal mid ∷ []) ≡ arrived a
    → ack_datagram mid ≡ a.bytes
ack_is server mid a small h =
    let from = bind_ok (ack_from (decimal server ∷ decimal mid ∷ [])) (λ x. arrived (acked x)) (Some a) h in
    let one : acked from.0 ≡ a = cc (from.2) in
    ap ack_datagram (ack_from_is server mid from.0 small from.1) ∙ ap (λ (x : Arrival). x.bytes) one

good_of : (ws : List (List ℕ)) (server : ℕ) (m : Mnemonic) → statement_of ws ≡ Ok (Some (says.Request server m))
    → fits_mnemonic m ≡ true → IsGood m
good_of [] server m is_said fits = cc
good_of (w ∷ ws) server m is_said fits =
    let read = request_read w ws server m is_said in good read.keyword ws (server, m) read.read fits

-- ---- the law

pub mnemonics : MnemonicsAreSaidAgain
mnemonics given server m is_said =
    begins_again given server (line_of (says.Request server m)) begins
  where
    begins : (spelled : Answer) (done : IsSpellDone given spelled)
        → Begins server done.arrival.bytes (line_of (says.Request server m))
    begins spelled done =
        let a = done.arrival in
        let is = request_is server m a (denoted_so (said_words given) (says.Request server m) a is_said done.denotes) in
        mnemonic_begins server a.bytes m (octets_of a.bytes done.octets)
        (good_of (said_words given) server m is_said is.0) is.1

pub acks : AcksAreSaidAgain
acks given server mid far small words = begins_again given server (ack_line server mid) begins
  where
    begins : (spelled : Answer) (done : IsSpellDone given spelled)
        → Begins server done.arrival.bytes (ack_line server mid)
    begins spelled done =
        let a = done.arrival in
        let is = ack_is server mid a small (ap arrival_of (sym words) ∙ done.denotes) in
        subst (λ b. Begins server b (ack_line server mid)) is (ack_begins server mid small)

pub found_mnemonics : MnemonicsAreFound
found_mnemonics given server bytes m is_said is_good same =
    begins_again given server (line_of (says.Request server m)) begins
  where
    begins : (spelled : Answer) (done : IsSpellDone given spelled)
        → Begins server done.arrival.bytes (line_of (says.Request server m))
    begins spelled done =
        let a = done.arrival in
        let is = recv_is server bytes a
        (denoted_so (said_words given) (says.Recv server bytes) a is_said done.denotes) in
        mnemonic_begins server a.bytes m (octets_of a.bytes done.octets) is_good (same ∙ is)

pub found_acks : AcksAreFound
found_acks given server mid is_said = begins_again given server (ack_line server mid) begins
  where
    begins : (spelled : Answer) (done : IsSpellDone given spelled)
        → Begins server done.arrival.bytes (ack_line server mid)
    begins spelled done =
        let a = done.arrival in
        let is = recv_is server (ack_datagram mid) a
        (denoted_so (said_words given) (says.Recv server (ack_datagram mid)) a is_said done.denotes) in
        let octets = subst (λ b. All (λ x. x < 256) b) (sym is) (octets_of a.bytes done.octets) in
        subst (λ b. Begins server b (ack_line server mid)) is (ack_begins server mid (ack_small mid octets))

pub others : OthersAreSaidAgain
others given server bytes is_said no_mnemonic no_ack =
    begins_again given server (line_of (says.Recv server bytes)) begins
  where
    begins : (spelled : Answer) (done : IsSpellDone given spelled)
        → Begins server done.arrival.bytes (line_of (says.Recv server bytes))
    begins spelled done =
        let a = done.arrival in
        let is = recv_is server bytes a
        (denoted_so (said_words given) (says.Recv server bytes) a is_said done.denotes) in
        let octets = subst (λ b. All (λ x. x < 256) b) (sym is) (octets_of a.bytes done.octets) in
        subst (λ b. Begins server b (line_of (says.Recv server bytes))) is
        (other_begins server bytes octets no_mnemonic no_ack)
