-- No part of the words of a message has a control character, since each is made of names, digits and plain characters.
use Rattle.std.proofs.Common.{◌≡◌, ℕ, ◌/◌, ◌%◌, ◌==◌, nat_le, Bool, true, false, ◌&&◌, ◌||◌, cond, zero, suc}
use Rattle.std.proofs.Common.{List, [], ◌∷◌, ◌++◌, codes, Option, None, Some, Result, Ok, Err, refl, ◌∙◌, arith}
use Rattle.std.specs.List.{list_all, list_any, flat_map}
use Rattle.std.specs.Str.{is_utf8}
use Rattle.std.specs.Fmt.{digits, digits_onto, digit_glyph, decimal}
use Rattle.std.proofs.lemmas.List.Folds.{list_all-append}
use Rattle.std.proofs.lemmas.Bool.{and_from}
use Rattle.lemmas.proofs.Tests.{and_first, and_second}
use Rattle.coap_codec.specs.Message.{Message}
use Rattle.coap_codec.specs.declared.option.Opt.{Opt}
use Rattle.coap_codec.specs.declared.kind.Kind.{Kind}
use Rattle.coap_codec.specs.declared.kind.Kind.TheVariants.{Con, Non, Ack, Rst}
use Rattle.coap_codec.specs.declared.fault.CoapFault.{CoapFault}
use Rattle.coap_codec.specs.declared.fault.CoapFault.TheVariants as faults
use Rattle.coap_codec.specs.Number.{big_endian}
use Rattle.coap_codec.specs.Reading.{reading_of}
use Rattle.scenario_words.specs.HexWord.{digit_of, hex_byte, hex_word}
use Rattle.scenario_words.specs.Quoted.{is_plain, escaped_byte, quoted_word}
use Rattle.message_words.specs.Names.{type_name, methods, successes, client_errors, server_errors, formats, name_in}
use Rattle.message_words.specs.Names.{code_name, behind_space, class_and_detail, code_text, name_or_number, format_text}
use Rattle.message_words.specs.Options.{is_unescaped, uri_byte, uri_text, is_recognized, segment_text, plain_option}
use Rattle.message_words.specs.Options.{option_text, options_text, format_in}
use Rattle.message_words.specs.Text.{IsOneLine, token_text, payload_text, formatted_payload, content_text, message_text}
use Rattle.message_words.specs.Text.{fault_reason, reading_text}

-- the text has no control character
abbrev pub clean : List ℕ → Bool
clean text = list_all (λ b. nat_le 32 b) text

pub joined : (xs ys : List ℕ) → clean xs ≡ true → clean ys ≡ true → clean (xs ++ ys) ≡ true
joined xs ys h k = list_all-append (λ b. nat_le 32 b) xs ys ∙ and_from _ _ h k

pub chosen : (v : Bool) (xs ys : List ℕ) → clean xs ≡ true → clean ys ≡ true → clean (cond v xs ys) ≡ true
chosen true xs ys h k = h
chosen false xs ys h k = k

pub glyph : (upper : Bool) (d : ℕ) → nat_le 32 (digit_glyph upper d) ≡ true
glyph true d = grind arith
glyph false d = grind arith

pub digits_line : (k base : ℕ) (upper : Bool) (n : ℕ) (acc : List ℕ) → clean acc ≡ true
    → clean (digits_onto k base upper n acc) ≡ true
digits_line zero base upper n acc h = h
digits_line (suc k) base upper n acc h =
    let more : clean (digit_glyph upper (n % base) ∷ acc) ≡ true = and_from _ _ (glyph upper (n % base)) h in
    chosen (n / base == 0) _ _ more (digits_line k base upper (n / base) _ more)

pub decimal_line : (n : ℕ) → clean (decimal n) ≡ true
unfolding digits
decimal_line n = digits_line 64 10 false n [] refl

pub hex_digit : (v : ℕ) → nat_le 32 (digit_of v) ≡ true
hex_digit v = grind arith

pub hex_line : (bs : List ℕ) → clean (flat_map hex_byte bs) ≡ true
hex_line [] = refl
hex_line (b ∷ bs) = and_from _ _ (hex_digit (b / 16)) (and_from _ _ (hex_digit (b % 16)) (hex_line bs))

pub hex_word_line : (bs : List ℕ) → clean (hex_word bs) ≡ true
hex_word_line [] = refl
hex_word_line (b ∷ bs) = hex_line (b ∷ bs)

pub either_way : (a b c : Bool) → (a ≡ true → c ≡ true) → (b ≡ true → c ≡ true) → (a || b) ≡ true → c ≡ true
either_way true b c f g h = f refl
either_way false b c f g h = g h

pub flat_line : (f : ℕ → List ℕ) → ((b : ℕ) → clean (f b) ≡ true) → (bs : List ℕ) → clean (flat_map f bs) ≡ true
flat_line f h [] = refl
flat_line f h (b ∷ bs) = joined (f b) (flat_map f bs) (h b) (flat_line f h bs)

pub chosen_as : (v : Bool) (xs ys : List ℕ) → (v ≡ true → clean xs ≡ true) → clean ys ≡ true
    → clean (cond v xs ys) ≡ true
chosen_as true xs ys h k = h refl
chosen_as false xs ys h k = k

pub escaped_line : (b : ℕ) → clean (escaped_byte b) ≡ true
escaped_line b =
    chosen_as (is_plain b) _ _ (λ h. and_from _ _ (and_first _ _ (and_first _ _ h)) refl)
    (and_from _ _ (hex_digit (b / 16)) (and_from _ _ (hex_digit (b % 16)) refl))

pub quoted_line : (t : List ℕ) → clean (quoted_word t) ≡ true
quoted_line t = joined (flat_map escaped_byte t) (34 ∷ []) (flat_line escaped_byte escaped_line t) refl

pub any_line : (cs : List ℕ) (b : ℕ) → clean cs ≡ true → list_any (λ c. c == b) cs ≡ true → nat_le 32 b ≡ true
any_line [] b h k = cc
any_line (c ∷ cs) b h k =
    let here : nat_le 32 c ≡ true = and_first _ _ h in
    either_way (c == b) _ _ (λ e. grind (arith, e, here)) (λ e. any_line cs b (and_second _ _ h) e) k

pub range_line : (low high b : ℕ) → nat_le 32 low ≡ true → (nat_le low b && nat_le b high) ≡ true → nat_le 32 b ≡ true
range_line low high b h k = let from : nat_le low b ≡ true = and_first _ _ k in grind (arith, from, h)

pub unescaped_line : (b : ℕ) → is_unescaped b ≡ true → nat_le 32 b ≡ true
unescaped_line b h =
    either_way _ _ _
    (either_way _ _ _ (either_way _ _ _ (range_line 65 90 b refl) (range_line 97 122 b refl)) (range_line 48 57 b refl))
    (any_line (codes "-._~!$'()*+,;=:@") b refl) h

pub uri_byte_line : (b : ℕ) → clean (uri_byte b) ≡ true
uri_byte_line b =
    chosen_as (is_unescaped b) _ _ (λ h. and_from _ _ (unescaped_line b h) refl) (hex_word_line (b ∷ []))

-- each name of a table is clean
abbrev pub clean_names : List (ℕ × List ℕ) → Bool
clean_names rows = list_all (λ row. clean row.1) rows

pub named : (rows : List (ℕ × List ℕ)) → clean_names rows ≡ true → (n : ℕ)
    → clean (behind_space (name_in rows n)) ≡ true
named [] h n = refl
named (row ∷ rows) h n =
    elim (n == row.0) as (λ v. clean (behind_space (cond v (Some row.1) (name_in rows n))) ≡ true)
    [ true ↦ and_first _ _ h | false ↦ named rows (and_second _ _ h) n ]

pub numbered : (rows : List (ℕ × List ℕ)) → clean_names rows ≡ true → (n m : ℕ)
    → clean (name_or_number (name_in rows n) m) ≡ true
numbered [] h n m = decimal_line m
numbered (row ∷ rows) h n m =
    elim (n == row.0) as (λ v. clean (name_or_number (cond v (Some row.1) (name_in rows n)) m) ≡ true)
    [ true ↦ and_first _ _ h | false ↦ numbered rows (and_second _ _ h) n m ]

-- a text that is clean; the type shows which
pub record IsClean (text : List ℕ) : Type 0 where
  pub all : clean text ≡ true

pub wrap : (text : List ℕ) → clean text ≡ true → IsClean text
wrap text h = record { all = h }

pub then : {xs ys : List ℕ} → IsClean xs → IsClean ys → IsClean (xs ++ ys)
then {xs = xs} {ys = ys} h k = wrap (xs ++ ys) (joined xs ys h.all k.all)

pub either : (v : Bool) {xs ys : List ℕ} → IsClean xs → IsClean ys → IsClean (cond v xs ys)
either true h k = h
either false h k = k

pub decimal_text : (n : ℕ) → IsClean (decimal n)
decimal_text n = wrap (decimal n) (decimal_line n)

pub hex_text : (bs : List ℕ) → IsClean (hex_word bs)
hex_text bs = wrap (hex_word bs) (hex_word_line bs)

pub format_line : (n : ℕ) → IsClean (format_text n)
format_line n = wrap (format_text n) (numbered formats refl n n)

pub type_line : (kind : Kind) → IsClean (type_name kind)
type_line Con = wrap _ refl
type_line Non = wrap _ refl
type_line Ack = wrap _ refl
type_line Rst = wrap _ refl

pub name_chosen : (v : Bool) (x y : Option (List ℕ)) → IsClean (behind_space x) → IsClean (behind_space y)
    → IsClean (behind_space (cond v x y))
name_chosen true x y h k = h
name_chosen false x y h k = k

pub name_line : (code : ℕ) → IsClean (behind_space (code_name code))
name_line code =
    let detail = code % 32 in
    let server = cond (code / 32 == 5) (name_in server_errors detail) None in
    let client = cond (code / 32 == 4) (name_in client_errors detail) server in
    let success = cond (code / 32 == 2) (name_in successes detail) client in
    name_chosen (code / 32 == 0) (name_in methods detail) success (wrap _ (named methods refl detail))
    (name_chosen (code / 32 == 2) (name_in successes detail) client (wrap _ (named successes refl detail))
    (name_chosen (code / 32 == 4) (name_in client_errors detail) server (wrap _ (named client_errors refl detail))
    (name_chosen (code / 32 == 5) (name_in server_errors detail) None (wrap _ (named server_errors refl detail))
    (wrap [] refl))))

pub number_line : (code : ℕ) → IsClean (class_and_detail code)
number_line code =
    then (then (then (decimal_text (code / 32)) (wrap (codes ".") refl)) (decimal_text (code % 32 / 10)))
    (decimal_text (code % 32 % 10))

pub code_line : (code : ℕ) → IsClean (code_text code)
code_line code = either (code == 0) (wrap (codes "empty") refl) (then (number_line code) (name_line code))

pub uri_line : (value : List ℕ) → IsClean (uri_text value)
uri_line value = wrap (uri_text value) (flat_line uri_byte uri_byte_line value)

pub segment_line : {lead : List ℕ} → IsClean lead → (before : ℕ) (o : Opt) → IsClean (segment_text lead before o)
segment_line h before o =
    then (then (either (before == o.number) (wrap [] refl) h) (wrap (codes "/") refl)) (uri_line o.value)

pub plain_line : (o : Opt) → IsClean (plain_option o)
plain_line o =
    then (then (then (wrap (codes ", option ") refl) (decimal_text o.number)) (wrap (codes " ") refl))
    (hex_text o.value)

pub option_line : (before : ℕ) (o : Opt) → IsClean (option_text before o)
option_line before o =
    let value = big_endian o.value in
    either (o.number == 11) (segment_line (wrap (codes ", ") refl) before o)
    (either (o.number == 8) (segment_line (wrap (codes ", location ") refl) before o)
    (either (o.number == 15) (then (wrap (codes ", ?") refl) (uri_line o.value))
    (either (is_recognized 6 3 before o) (then (wrap (codes ", observe ") refl) (decimal_text value))
    (either (is_recognized 17 2 before o) (then (wrap (codes ", accept ") refl) (format_line value))
    (either (is_recognized 12 2 before o) (wrap [] refl) (plain_line o))))))

pub options_line : (before : ℕ) (os : List Opt) → IsClean (options_text before os)
options_line before [] = wrap [] refl
options_line before (o ∷ os) = then (option_line before o) (options_line o.number os)

pub token_line : (token : List ℕ) → IsClean (token_text token)
token_line [] = wrap [] refl
token_line (b ∷ bs) = then (wrap (codes ", token ") refl) (hex_text (b ∷ bs))

pub payload_line : (format : ℕ) (payload : List ℕ) → IsClean (payload_text format payload)
payload_line format payload =
    either ((format == 0 || format == 40) && is_utf8 payload) (wrap (quoted_word payload) (quoted_line payload))
    (hex_text payload)

pub formatted_line : (format : ℕ) (payload : List ℕ) → IsClean (formatted_payload format payload)
formatted_line format [] = format_line format
formatted_line format (b ∷ bs) =
    then (then (format_line format) (wrap (codes " ") refl)) (payload_line format (b ∷ bs))

pub content_line : (format : Option ℕ) (payload : List ℕ) → IsClean (content_text format payload)
content_line (Some format) payload = then (wrap (codes ", ") refl) (formatted_line format payload)
content_line None [] = wrap [] refl
content_line None (b ∷ bs) = then (wrap (codes ", payload ") refl) (hex_text (b ∷ bs))

pub message_line : (m : Message) → IsClean (message_text m)
message_line m =
    let type = then (type_line m.kind) (wrap (codes " ") refl) in
    let id = then (then (then type (code_line m.code)) (wrap (codes ", message ") refl)) (decimal_text m.mid) in
    then (then (then id (token_line m.token)) (options_line 0 m.options))
    (content_line (format_in 0 m.options) m.payload)

pub reason_line : (fault : CoapFault) → IsClean (fault_reason fault)
reason_line faults.Short = wrap _ refl
reason_line faults.Version = wrap _ refl
reason_line faults.TokenLength = wrap _ refl
reason_line faults.EmptyWithData = wrap _ refl
reason_line faults.OptionCut = wrap _ refl
reason_line faults.OptionReserved = wrap _ refl
reason_line faults.OptionNumber = wrap _ refl
reason_line faults.PayloadEmpty = wrap _ refl
reason_line faults.Memory = wrap _ refl

-- what was written is a message's words
pub message_said : (text : List ℕ) (m : Message) → text ≡ message_text m → IsOneLine text
message_said text m e = rw e (message_line m).all

pub reading_line : (r : Result Message CoapFault) → IsClean (reading_text r)
reading_line (Ok m) = message_line m
reading_line (Err fault) = then (wrap (codes "no message: ") refl) (reason_line fault)

-- what was written is what a datagram says
pub datagram_said : (text : List ℕ) (bytes : List ℕ) → text ≡ reading_text (reading_of bytes) → IsOneLine text
datagram_said text bytes e = rw e (reading_line (reading_of bytes)).all
