-- What `say` says first of a datagram: its mnemonic, `ack`, or its bytes.
use Rattle.std.proofs.Common.{◌≡◌, ℕ, ◌<◌, ◌/◌, Bool, true, false, cond, ◌&&◌, List, [], ◌++◌}
use Rattle.std.proofs.Common.{All, Option, None, Some, Result, Ok, Err, refl, sym, ap, ◌∙◌, arith, eqb-true}
use Rattle.std.specs.Prelude.{◌==◌}
use Rattle.std.proofs.lemmas.List.{nil_from_length}
use Rattle.coap_codec.specs.declared.kind.Kind.{Kind}
use Rattle.coap_codec.specs.declared.kind.Kind.TheVariants.{Ack, Con, Non, Rst}
use Rattle.coap_codec.specs.declared.fault.CoapFault.{CoapFault}
use Rattle.coap_codec.specs.declared.option.Opt.{Opt}
use Rattle.coap_codec.specs.Message.{IsWellFormed, Message, spelling}
use Rattle.coap_codec.specs.Reading.{reading_of}
use Rattle.coap_codec.proofs.OneReading.{read_spelling}
use Rattle.coap_codec.proofs.Soundness.{spelled_from_reading}
use Rattle.scenario_words.specs.Words.{ended_line}
use Rattle.scenario_mnemonics.specs.declared.mnemonic.Mnemonic.{Mnemonic}
use Rattle.scenario_mnemonics.specs.declared.mnemonic.Mnemonic.TheVariants as mnemonic
use Rattle.scenario_mnemonics.specs.declared.request_type.RequestType.{RequestType}
use Rattle.scenario_mnemonics.specs.declared.request_type.RequestType.TheVariants as kind
use Rattle.scenario_mnemonics.specs.Denoting.{mnemonic_of}
use Rattle.scenario_mnemonics.specs.Messages.{IsGood, datagram_of, kind_of, message_of}
use Rattle.scenario_mnemonics.proofs.Candidates.{denotes}
use Rattle.scenario_mnemonics.proofs.OptionOrder.{well_formed}
use Rattle.scenario_statements.specs.declared.statement.Statement.TheVariants as says
use Rattle.scenario_statements.specs.Spelling.{line_of}
use Rattle.scenario_asm.specs.Canonical.{of_datagram}
use Rattle.trace_text.specs.Lines.{said_line}
use Rattle.scenario_statements.specs.Acks.{ack_datagram, ack_line, acknowledged_id, empty_ack, is_ack}
use Rattle.command_words.specs.Saying.{said_text, text_as}

-- what is said of a datagram begins with this line
pub record Begins (server : ℕ) (bytes line : List ℕ) : Type 0 where
  pub text_is : said_text server bytes ≡ ended_line line ++ said_line bytes

abbrev reading : Message → Result Message CoapFault
reading m = Ok m

-- ---- a mnemonic

request_acks : (k : RequestType) (b : Bool) (mid : ℕ) → cond (is_ack (kind_of k) && b) (Some mid) None ≡ None
request_acks kind.Con b mid = refl
request_acks kind.Non b mid = refl

acks_none : (m : Mnemonic) → acknowledged_id (reading (message_of m)) ≡ None
acks_none (mnemonic.Request r) = request_acks r.kind ((message_of (mnemonic.Request r)).code == 0) r.mid
acks_none (mnemonic.Reset mid) = refl

pub mnemonic_begins : (server : ℕ) (bytes : List ℕ) (m : Mnemonic) → All (λ b. b < 256) bytes → IsGood m
    → datagram_of m ≡ bytes → Begins server bytes (line_of (says.Request server m))
mnemonic_begins server bytes m octets good same =
    let read : reading_of bytes ≡ reading (message_of m) =
    ap reading_of (sym same) ∙ read_spelling (message_of m) (well_formed m good) in
    let none : acknowledged_id (reading_of bytes) ≡ None = ap acknowledged_id read ∙ acks_none m in
    let found : mnemonic_of bytes ≡ Some m = (denotes bytes m octets).1 (good, same) in
    record {
      text_is = ap (λ a. text_as a server bytes) none
          ∙ ap (λ k. ended_line (line_of (of_datagram server bytes k)) ++ said_line bytes) found;
    }

-- ---- an Empty ACK

ack_well_formed : (mid : ℕ) → mid < 65536 → IsWellFormed (empty_ack mid)
ack_well_formed mid small = record {
  code = omega arith;
  mid = small;
  token = omega arith;
  options = tt;
  empty = λ e. (refl, refl, refl);
}

pub ack_begins : (server mid : ℕ) → mid < 65536 → Begins server (ack_datagram mid) (ack_line server mid)
ack_begins server mid small =
    let read = read_spelling (empty_ack mid) (ack_well_formed mid small) in
    record { text_is = ap (λ r. text_as (acknowledged_id r) server (ack_datagram mid)) read }

-- ---- any other

-- a type and a code that make a message an Empty ACK
abbrev acks : Kind → Bool → ℕ → Option ℕ
acks k empty mid = cond (is_ack k && empty) (Some mid) None

acked : (k : Kind) (code mid ack : ℕ) (empty : Bool) → code == 0 ≡ empty → acks k empty mid ≡ Some ack
    → (k ≡ Ack) × (code ≡ 0) × (mid ≡ ack)
acked Con code mid ack empty is h = cc
acked Non code mid ack empty is h = cc
acked Rst code mid ack empty is h = cc
acked Ack code mid ack false is h = cc
acked Ack code mid ack true is h = (refl, eqb-true code 0 is, cc)

-- the bytes of a message by its parts
abbrev spelled : Kind → ℕ → ℕ → List ℕ → List Opt → List ℕ → List ℕ
spelled k c i t o p = spelling (record { kind = k; code = c; mid = i; token = t; options = o; payload = p })

-- a well-formed message that is read as an Empty ACK is spelled as that
ack_spelled : (m : Message) (ack : ℕ) → IsWellFormed m → acknowledged_id (reading m) ≡ Some ack
    → spelling m ≡ ack_datagram ack
ack_spelled m ack formed h =
    let is = acked m.kind m.code m.mid ack (m.code == 0) refl h in
    let none = formed.empty is.1 in
    ap (λ k. spelled k m.code m.mid m.token m.options m.payload) is.0
    ∙ ap (λ c. spelled Ack c m.mid m.token m.options m.payload) is.1
    ∙ ap (λ i. spelled Ack 0 i m.token m.options m.payload) is.2
    ∙ ap (λ t. spelled Ack 0 ack t m.options m.payload) (nil_from_length m.token none.0)
    ∙ ap (λ o. spelled Ack 0 ack [] o m.payload) (nil_from_length m.options none.1)
    ∙ ap (λ p. spelled Ack 0 ack [] [] p) (nil_from_length m.payload none.2)

ack_of : (bytes : List ℕ) (ack : ℕ) → All (λ b. b < 256) bytes → (r : Result Message CoapFault) → reading_of bytes ≡ r
    → acknowledged_id r ≡ Some ack → ack_datagram ack ≡ bytes
ack_of bytes ack octets (Ok m) read h =
    let spells = spelled_from_reading bytes m octets read in
    sym (spells.parts ∙ ack_spelled m ack spells.well_formed h)
ack_of bytes ack octets (Err fault) read h = cc

none_acked : (bytes : List ℕ) → All (λ b. b < 256) bytes → ((mid : ℕ) → ack_datagram mid ≡ bytes → ⊥)
    → acknowledged_id (reading_of bytes) ≡ None
none_acked bytes octets none = by (acknowledged_id (reading_of bytes)) refl
  where
    by : (o : Option ℕ) → acknowledged_id (reading_of bytes) ≡ o → o ≡ None
    by None is = refl
    by (Some ack) is = absurd (none ack (ack_of bytes ack octets (reading_of bytes) refl is))

none_found : (bytes : List ℕ) → All (λ b. b < 256) bytes → ((m : Mnemonic) → IsGood m → datagram_of m ≡ bytes → ⊥)
    → mnemonic_of bytes ≡ None
none_found bytes octets none = by (mnemonic_of bytes) refl
  where
    by : (o : Option Mnemonic) → mnemonic_of bytes ≡ o → o ≡ None
    by None is = refl
    by (Some m) is = let found = (denotes bytes m octets).0 is in absurd (none m found.0 found.1)

pub other_begins : (server : ℕ) (bytes : List ℕ) → All (λ b. b < 256) bytes
    → ((m : Mnemonic) → IsGood m → datagram_of m ≡ bytes → ⊥) → ((mid : ℕ) → ack_datagram mid ≡ bytes → ⊥)
    → Begins server bytes (line_of (says.Recv server bytes))
other_begins server bytes octets no_mnemonic no_ack = record {
  text_is = ap (λ a. text_as a server bytes) (none_acked bytes octets no_ack)
      ∙ ap (λ k. ended_line (line_of (of_datagram server bytes k)) ++ said_line bytes)
      (none_found bytes octets no_mnemonic);
}

-- a message ID of an Empty ACK's bytes has 16 bits
pub ack_small : (mid : ℕ) → All (λ b. b < 256) (ack_datagram mid) → mid < 65536
ack_small mid octets = let high : mid / 256 < 256 = octets 2 0 (omega arith) in omega (arith, high)
