-- what bytes spell is what reading them gives, and so is their fault: so neither has a second, and there are never both
use Rattle.std.proofs.Common.{◌≡◌, ℕ, ◌+◌, ◌*◌, ◌/◌, ◌%◌, ◌<◌, ◌≤◌, zero, suc, List, [], ◌∷◌, ◌++◌, length, take, drop}
use Rattle.std.proofs.Common.{refl, ap, ◌∙◌, arith, Option, Some, None, Ok, Err, MatchOption, false, ltb, length-append}
use Rattle.std.proofs.Common.{length-drop}
use Rattle.std.proofs.Math.Seq.{take-append_seam, drop-append_seam, drop-append-add}
use Rattle.std.proofs.lemmas.Bool.{le-ltb, ne_eqb, eq-eqb}
use Rattle.coap_codec.specs.declared.kind.Kind.{Kind}
use Rattle.coap_codec.specs.declared.kind.Kind.TheVariants.{Con, Non, Ack, Rst}
use Rattle.coap_codec.specs.declared.option.Opt.{Opt}
use Rattle.coap_codec.specs.declared.fault.CoapFault.{CoapFault}
use Rattle.coap_codec.specs.Message.{Message, IsWellFormed, Spells, spelling, kind_number, options_bytes, payload_bytes}
use Rattle.coap_codec.specs.Fault.{token_length, header_fault, last_number, BreaksOff, HasFault}
use Rattle.coap_codec.specs.Reading.{kind_of, read_options, message_of, read_behind, reading_of}
use Rattle.coap_codec.proofs.Completeness.{with_all-ok, with_all-err, read_all, read_payload, read_fault}

pub kind_number_below : (k : Kind) → kind_number k < 4
kind_number_below Con = omega arith
kind_number_below Non = omega arith
kind_number_below Ack = omega arith
kind_number_below Rst = omega arith

pub kind_again : (k : Kind) → kind_of (kind_number k) ≡ k
kind_again Con = refl
kind_again Non = refl
kind_again Ack = refl
kind_again Rst = refl

-- a header of version 1 with a token that is there
pub header_clear : (first code high low : ℕ) (rest : List ℕ) → first / 64 ≡ 1 → first % 16 ≤ 8
    → first % 16 ≤ length rest → (code ≡ 0 → (first % 16 ≡ 0) × (length rest ≡ 0))
    → header_fault (first ∷ code ∷ high ∷ low ∷ rest) ≡ None
header_clear first zero high low rest version token there bare =
    let bytes : List ℕ = first ∷ 0 ∷ high ∷ low ∷ rest in
    let b : (first % 16 ≡ 0) × (length rest ≡ 0) = bare refl in
    let long : ltb (length bytes) 4 ≡ false = le-ltb (length bytes) 4 (omega arith) in
    let whole : ltb (length bytes) (4 + first % 16) ≡ false = le-ltb (length bytes) (4 + first % 16) (omega arith) in
    let exact : ltb 4 (length bytes) ≡ false = le-ltb 4 (length bytes) (omega arith) in
    rw (long, eq-eqb (first / 64) 1 version, le-ltb 8 (first % 16) token, eq-eqb (first % 16) 0 b.0, exact, whole) refl
header_clear first (suc code) high low rest version token there bare =
    let bytes : List ℕ = first ∷ suc code ∷ high ∷ low ∷ rest in
    let long : ltb (length bytes) 4 ≡ false = le-ltb (length bytes) 4 (omega arith) in
    let whole : ltb (length bytes) (4 + first % 16) ≡ false = le-ltb (length bytes) (4 + first % 16) (omega arith) in
    rw (long, eq-eqb (first / 64) 1 version, le-ltb 8 (first % 16) token, ne_eqb (suc code) 0 (omega arith), whole) refl

same_parts : (m k : Message) → m.kind ≡ k.kind → m.code ≡ k.code → m.mid ≡ k.mid → m.token ≡ k.token
    → m.options ≡ k.options → m.payload ≡ k.payload → m ≡ k
same_parts m k kind code mid token options payload =
    let make : Kind → ℕ → ℕ → List ℕ → List Opt → List ℕ → Message =
    λ a b c d e f. record { kind = a; code = b; mid = c; token = d; options = e; payload = f } in
    ap (λ a. make a m.code m.mid m.token m.options m.payload) kind
    ∙ (ap (λ b. make k.kind b m.mid m.token m.options m.payload) code
    ∙ (ap (λ c. make k.kind k.code c m.token m.options m.payload) mid
    ∙ (ap (λ d. make k.kind k.code k.mid d m.options m.payload) token
    ∙ (ap (λ e. make k.kind k.code k.mid k.token e m.payload) options
    ∙ ap (make k.kind k.code k.mid k.token k.options) payload))))

-- the tail of a message is read as its options and its payload
read_tail : (m : Message) (steps : ℕ) → IsWellFormed m
    → length (options_bytes 0 m.options ++ payload_bytes m.payload) ≤ steps
    → read_options steps 0 (options_bytes 0 m.options ++ payload_bytes m.payload)
    ≡ Ok (record { options = m.options; payload = m.payload })
read_tail m steps good enough =
    read_all m.options 0 (payload_bytes m.payload) (Ok (record { options = []; payload = m.payload })) good.options
    (λ s h. read_payload (last_number 0 m.options) m.payload s h) steps enough
    ∙ with_all-ok m.options m.payload

-- what stands after an empty code is nothing
pub empty_tail : (os : List Opt) (p : List ℕ) → length os ≡ 0 → length p ≡ 0
    → length (options_bytes 0 os ++ payload_bytes p) ≡ 0
empty_tail [] [] a b = refl
empty_tail [] (x ∷ p) a b = absurd (omega arith)
empty_tail (o ∷ os) p a b = absurd (omega arith)

pub drop_four : (a b c d n : ℕ) (rest : List ℕ) → drop (4 + n) (a ∷ b ∷ c ∷ d ∷ rest) ≡ drop n rest
drop_four a b c d n rest = drop-append-add (a ∷ b ∷ c ∷ d ∷ []) rest n

-- the header of a message has no fault
pub spelling_clear : (m : Message) → IsWellFormed m → header_fault (spelling m) ≡ None
spelling_clear m good =
    let t : ℕ = length m.token in
    let k : ℕ = kind_number m.kind in
    let first : ℕ = 64 + 16 * k + t in
    let tail : List ℕ = options_bytes 0 m.options ++ payload_bytes m.payload in
    let below : k < 4 = kind_number_below m.kind in
    let short : t ≤ 8 = good.token in
    let size : first % 16 ≡ t = omega arith in
    header_clear first m.code (m.mid / 256) (m.mid % 256) (m.token ++ tail) (omega arith) (omega arith)
    (omega (arith, length-append m.token tail))
    (λ z. let e : (length m.token ≡ 0) × (length m.options ≡ 0) × (length m.payload ≡ 0) =
    good.empty z in (size ∙ e.0, omega (arith, length-append m.token tail, empty_tail m.options m.payload e.1 e.2)))

-- after the token of a message stand its options and its payload
pub spelling_tail : (m : Message) → IsWellFormed m
    → drop (4 + token_length (spelling m)) (spelling m) ≡ options_bytes 0 m.options ++ payload_bytes m.payload
spelling_tail m good =
    let t : ℕ = length m.token in
    let k : ℕ = kind_number m.kind in
    let first : ℕ = 64 + 16 * k + t in
    let tail : List ℕ = options_bytes 0 m.options ++ payload_bytes m.payload in
    let short : t ≤ 8 = good.token in
    let size : first % 16 ≡ t = omega arith in
    drop_four first m.code (m.mid / 256) (m.mid % 256) (first % 16) (m.token ++ tail)
    ∙ (ap (λ n. drop n (m.token ++ tail)) size ∙ drop-append_seam m.token tail)

pub read_spelling : (m : Message) → IsWellFormed m → reading_of (spelling m) ≡ Ok m
unfolding reading_of
read_spelling m good =
    let t : ℕ = length m.token in
    let k : ℕ = kind_number m.kind in
    let first : ℕ = 64 + 16 * k + t in
    let tail : List ℕ = options_bytes 0 m.options ++ payload_bytes m.payload in
    let below : k < 4 = kind_number_below m.kind in
    let short : t ≤ 8 = good.token in
    let size : first % 16 ≡ t = omega arith in
    let clear : header_fault (spelling m) ≡ None = spelling_clear m good in
    let tail_is : drop (4 + first % 16) (spelling m) ≡ tail = spelling_tail m good in
    let found : read_options (length (spelling m)) 0 (drop (4 + first % 16) (spelling m))
    ≡ Ok (record { options = m.options; payload = m.payload }) =
    ap (read_options (length (spelling m)) 0) tail_is
    ∙ read_tail m (length (spelling m)) good (omega (arith, length-append m.token tail))
    in
    let token_is : take (first % 16) (m.token ++ tail) ≡ m.token =
    ap (λ n. take n (m.token ++ tail)) size ∙ take-append_seam m.token tail in
    let kind_is : kind_of (first / 16 % 4) ≡ m.kind =
    (let e : first / 16 % 4 ≡ k = omega arith in ap kind_of e ∙ kind_again m.kind) in
    ap (read_behind (spelling m)) clear
    ∙ (ap (message_of (spelling m)) found
    ∙ ap (λ v. Ok v) (same_parts (record {
      kind = kind_of (first / 16 % 4);
      code = m.code;
      mid =
          256 * (m.mid / 256) + m.mid % 256;
      token = take (first % 16) (m.token ++ tail);
      options = m.options;
      payload =
          m.payload;
    }) m kind_is refl (omega arith) token_is refl refl))

pub reading_of_spelled : (bytes : List ℕ) (m : Message) → Spells bytes m → reading_of bytes ≡ Ok m
reading_of_spelled bytes m spells = ap reading_of spells.parts ∙ read_spelling m spells.well_formed

read_broken : (bytes : List ℕ) (fault : CoapFault) (o : Option CoapFault)
    → MatchOption o (BreaksOff 0 (drop (4 + token_length bytes) bytes) fault) (λ f. f ≡ fault)
    → read_behind bytes o ≡ Err fault
read_broken bytes fault (Some f) e = ap (λ v. Err v) e
read_broken bytes fault None b =
    let behind : List ℕ = drop (4 + token_length bytes) bytes in
    let enough : length (options_bytes 0 b.whole ++ b.rest) ≤ length bytes =
    omega (arith, ap length b.parts, length-drop (4 + token_length bytes) bytes) in
    let found : read_options (length bytes) 0 behind ≡ Err fault =
    ap (read_options (length bytes) 0) b.parts
    ∙ (read_all b.whole 0 b.rest (Err fault) b.is_list
    (λ s h. read_fault (last_number 0 b.whole) b.rest fault s b.place h) (length bytes) enough
    ∙ with_all-err b.whole fault)
    in
    ap (message_of bytes) found

pub reading_of_fault : (bytes : List ℕ) (fault : CoapFault) → HasFault bytes fault → reading_of bytes ≡ Err fault
unfolding reading_of
reading_of_fault bytes fault h = read_broken bytes fault (header_fault bytes) h

pub one_message : (bytes : List ℕ) (m k : Message) → Spells bytes m → Spells bytes k → m ≡ k
one_message bytes m k p q =
    let a = reading_of_spelled bytes m p in
    let b = reading_of_spelled bytes k q in
    cc

pub one_fault : (bytes : List ℕ) (f g : CoapFault) → HasFault bytes f → HasFault bytes g → f ≡ g
one_fault bytes f g p q =
    let a = reading_of_fault bytes f p in
    let b = reading_of_fault bytes g q in
    cc

pub never_both : (bytes : List ℕ) (m : Message) (f : CoapFault) → Spells bytes m → HasFault bytes f → ⊥
never_both bytes m f p q =
    let a = reading_of_spelled bytes m p in
    let b = reading_of_fault bytes f q in
    cc
