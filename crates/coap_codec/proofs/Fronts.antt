-- a message that bytes spell begins with the header and the token that stand there
use Rattle.std.proofs.Common.{◌≡◌, ℕ, ◌+◌, ◌*◌, ◌<◌, ◌≤◌, List, ◌∷◌, ◌++◌, length, take, drop, ap}
use Rattle.std.proofs.Common.{sym, ◌∙◌, arith, Result, Ok, Err, None, Some, IfOk, IfErr, IsOkAnd}
use Rattle.std.proofs.Math.Seq.{take-append_seam, drop-append_seam}
use Rattle.coap_codec.specs.declared.kind.Kind.{Kind}
use Rattle.coap_codec.specs.declared.fault.CoapFault.{CoapFault}
use Rattle.coap_codec.specs.Message.{Message, Spells, kind_number, two_bytes, options_bytes, payload_bytes}
use Rattle.coap_codec.specs.Fault.{header_fault}
use Rattle.coap_codec.specs.Reading.{kind_of}
use Rattle.coap_codec.proofs.OneReading.{kind_number_below, kind_again, spelling_clear}

four_bytes : (a b c d e f g h : ℕ) (xs ys : List ℕ) → a ∷ b ∷ c ∷ d ∷ xs ≡ e ∷ f ∷ g ∷ h ∷ ys
    → (a ≡ e) × (b ≡ f) × (c ≡ g) × (d ≡ h) × (xs ≡ ys)
four_bytes a b c d e f g h xs ys same = (cc, cc, cc, cc, cc)

same_kind : (k l : Kind) → kind_number k ≡ kind_number l → k ≡ l
same_kind k l e = sym (kind_again k) ∙ (ap kind_of e ∙ kind_again l)

-- lists whose first parts are of one length have the same parts
split_alike : (xs ys us vs : List ℕ) → length xs ≡ length us → xs ++ ys ≡ us ++ vs → (xs ≡ us) × (ys ≡ vs)
split_alike xs ys us vs long same = (
  sym (take-append_seam xs ys)
      ∙ (ap (take (length xs)) same ∙ (ap (λ n. take n (us ++ vs)) long ∙ take-append_seam us vs)),
  sym (drop-append_seam xs ys)
      ∙ (ap (drop (length xs)) same ∙ (ap (λ n. drop n (us ++ vs)) long ∙ drop-append_seam us vs)),
)

-- the parts that bytes begin with are those of each message that they spell
pub same_front : (bytes token rest : List ℕ) (kind : Kind) (code mid : ℕ) (m : Message)
    → bytes ≡ ((64 + 16 * kind_number kind + length token) ∷ code ∷ two_bytes mid) ++ (token ++ rest)
    → length token ≤ 8 → Spells bytes m
    → (kind ≡ m.kind) × (code ≡ m.code) × (mid ≡ m.mid) × (token ≡ m.token)
    × (rest ≡ options_bytes 0 m.options ++ payload_bytes m.payload)
same_front bytes token rest kind code mid m parts short spells =
    let b = four_bytes _ _ _ _ _ _ _ _ _ _ (sym parts ∙ spells.parts) in
    let k : kind_number kind < 4 = kind_number_below kind in
    let l : kind_number m.kind < 4 = kind_number_below m.kind in
    let token_short : length m.token ≤ 8 = spells.well_formed.token in
    let same : kind_number kind ≡ kind_number m.kind = omega (arith, b.0, k, l, short, token_short) in
    let long : length token ≡ length m.token = omega (arith, b.0, k, l, short, token_short) in
    let mid_is : mid ≡ m.mid = omega (arith, b.2, b.3) in
    let tail = split_alike token rest m.token (options_bytes 0 m.options ++ payload_bytes m.payload) long b.4 in
    (same_kind kind m.kind same, b.1, mid_is, tail.0, tail.1)

-- a header with a fault begins no message
pub no_front : (bytes : List ℕ) (m : Message) (fault : CoapFault) → Spells bytes m → header_fault bytes ≡ Some fault → ⊥
no_front bytes m fault spells wrong =
    let clear : header_fault bytes ≡ None = ap header_fault spells.parts ∙ spelling_clear m spells.well_formed in
    absurd (cc (clear, wrong))

-- a result is good where it has both of these, and no error can be
pub is_good : {A E : Type 0} (P Q G : A → Type 0) (F : E → Type 0) (r : Result A E) → IfOk r P → IfOk r Q → IfErr r F
    → ((x : A) → P x → Q x → G x) → ((e : E) → F e → ⊥) → IsOkAnd r G
is_good P Q G F (Ok x) p q f good never = good x p q
is_good P Q G F (Err e) p q f good never = absurd (never e f)
