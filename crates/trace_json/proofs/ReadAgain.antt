-- The text of a value is one line, and is read as the value.
use Rattle.std.proofs.Common.{◌≡◌, ◌≢◌, ℕ, ◌/◌, ◌%◌, ◌≤◌, ◌==◌, nat_le, nat_lt, pos, negsuc, Bool, true, false, ◌||◌}
use Rattle.std.proofs.Common.{cond, List, [], ◌∷◌, ◌++◌, Some, option_map, option_and_then, refl, sym, ap, ◌∙◌, arith}
use Rattle.std.proofs.Common.{append-nil, suc}
use Rattle.std.specs.Char.{digit_char}
use Rattle.std.specs.List.{onto_first}
use Rattle.std.proofs.lemmas.Bool.{and_from, leb-true}
use Rattle.std.proofs.lemmas.Bool.Decides.{nat_tests}
use Rattle.lemmas.proofs.Tests.{and_first, and_second}
use Rattle.scenario_words.specs.Words.{IsLine}
use Rattle.scenario_words.proofs.WordLaws.{line_byte}
use Rattle.message_words.proofs.OneLine.{clean, decimal_line, joined}
use Rattle.json.specs.Lex.{tokens}
use Rattle.json.specs.Json as tree
use Rattle.json.specs.Print.{escape, escape_byte, escape_letter, quoted}
use Rattle.json.specs.Tree.{HasNumbers, ItemsHaveNumbers, MembersHaveNumbers, json_tokens}
use Rattle.json.specs.Tree as shape
use Rattle.json.proofs.Printed.Decimals.{IsNumber-decimal, IsNumber-signed_decimal}
use Rattle.json.proofs.Printed.Tokens.{tokens-print}
use Rattle.json.proofs.Printed.Trees.{ArePrintable-json_tokens, value-json_tokens}
use Rattle.serde_json.specs.Data.{Data, Items, Members, Num, depth, items_depth, members_depth, put}
use Rattle.serde_json.specs.Data as json
use Rattle.serde_json.specs.Read.{max_depth, number_of, of_items, of_json, of_members, read}
use Rattle.serde_json.specs.Written.{comma_if, compact_text, items_outline, items_text, members_outline, members_text}
use Rattle.serde_json.specs.Written.{number_text, outline}
use Rattle.serde_json.proofs.Numbers.{number_of-decimal, number_of-negative}
use Rattle.serde_json.proofs.Texts.{print-outline}
use Rattle.trace_json.specs.Json.{by_key, items_by_key, members_by_key}
use Rattle.trace_json.specs.Writing.{Has64Bits, Is64Bit, IsReadAgain, ItemsHave64Bits, MembersHave64Bits}

-- ---- what is read

number_read : (n : Num) → Is64Bit n → number_of (number_text n) ≡ Some n
number_read (json.unsigned n) h = number_of-decimal n h
number_read (json.negative (pos n)) h = absurd h
number_read (json.negative (negsuc n)) h = number_of-negative n h
number_read (json.float x) h = absurd h

mutual
  value_read : (d : Data) → Has64Bits d → of_json (outline d) ≡ Some (by_key d)
  value_read json.null h = refl
  value_read (json.boolean b) h = refl
  value_read (json.number n) h = ap (option_map json.number) (number_read n h)
  value_read (json.string s) h = refl
  value_read (json.array ds) h = ap (option_map json.array) (items_read ds h)
  value_read (json.object ms) h = ap (option_map json.object) (members_read ms json.no_members h)

  items_read : (ds : Items) → ItemsHave64Bits ds → of_items (items_outline ds) ≡ Some (items_by_key ds)
  items_read json.no_items h = refl
  items_read (json.item d ds) h =
      ap (option_and_then (λ e. option_map (json.item e) (of_items (items_outline ds)))) (value_read d h.0)
      ∙ ap (option_map (json.item (by_key d))) (items_read ds h.1)

  members_read : (ms found : Members) → MembersHave64Bits ms
      → of_members (members_outline ms) found ≡ Some (members_by_key ms found)
  members_read json.no_members found h = refl
  members_read (json.member k d ms) found h =
      ap (option_and_then (λ e. of_members (members_outline ms) (put k e found))) (value_read d h.0)
      ∙ members_read ms (put k (by_key d) found) h.1

-- ---- what can be printed

number_prints : (n : Num) → Is64Bit n → HasNumbers (tree.number (number_text n))
number_prints (json.unsigned n) h = IsNumber-decimal n h
number_prints (json.negative (pos n)) h = absurd h
number_prints (json.negative (negsuc n)) h = IsNumber-signed_decimal (negsuc n) h
number_prints (json.float x) h = absurd h

mutual
  value_prints : (d : Data) → Has64Bits d → HasNumbers (outline d)
  value_prints json.null h = tt
  value_prints (json.boolean b) h = tt
  value_prints (json.number n) h = number_prints n h
  value_prints (json.string s) h = tt
  value_prints (json.array ds) h = items_print ds h
  value_prints (json.object ms) h = members_print ms h

  items_print : (ds : Items) → ItemsHave64Bits ds → ItemsHaveNumbers (items_outline ds)
  items_print json.no_items h = tt
  items_print (json.item d ds) h = (value_prints d h.0, items_print ds h.1)

  members_print : (ms : Members) → MembersHave64Bits ms → MembersHaveNumbers (members_outline ms)
  members_print json.no_members h = tt
  members_print (json.member k d ms) h = (value_prints d h.0, members_print ms h.1)

mutual
  same_depth : (d : Data) → shape.depth (outline d) ≡ depth d
  same_depth json.null = refl
  same_depth (json.boolean b) = refl
  same_depth (json.number n) = refl
  same_depth (json.string s) = refl
  same_depth (json.array ds) = omega (arith, same_items_depth ds)
  same_depth (json.object ms) = omega (arith, same_members_depth ms)

  same_items_depth : (ds : Items) → shape.items_depth (items_outline ds) ≡ items_depth ds
  same_items_depth json.no_items = refl
  same_items_depth (json.item d ds) = omega (arith, same_depth d, same_items_depth ds)

  same_members_depth : (ms : Members) → shape.members_depth (members_outline ms) ≡ members_depth ms
  same_members_depth json.no_members = refl
  same_members_depth (json.member k d ms) = omega (arith, same_depth d, same_members_depth ms)

-- the text is read as the value
text_read : (d : Data) → Has64Bits d → depth d ≤ max_depth → read (compact_text d) ≡ Some (by_key d)
text_read d h shallow =
    let printed = ArePrintable-json_tokens (outline d) (value_prints d h) in
    let there : tokens (compact_text d) ≡ json_tokens (outline d) ++ [] =
    ap tokens (sym (print-outline d)) ∙ tokens-print (json_tokens (outline d)) printed ∙ sym (append-nil _) in
    let within : shape.depth (outline d) ≤ max_depth = omega (arith, same_depth d) in
    ap (λ o. option_and_then of_json (option_and_then (λ p. tree.if_last p.0 p.1) o))
    (ap (tree.value max_depth) there ∙ value-json_tokens (outline d) max_depth [] within) ∙ value_read d h

-- ---- no control character stands in it

hex_letter : (v : ℕ) → nat_le 32 (digit_char v) ≡ true
hex_letter v = grind arith

letter_high : (either eight twelve ten thirteen nine : Bool) (x : ℕ) → (either ≡ true → nat_le 32 x ≡ true)
    → nat_lt 0 (cond either x (cond eight 98 (cond twelve 102 (cond ten 110 (cond thirteen 114 (cond nine 116 0))))))
    ≡ true
    → nat_le 32 (cond either x (cond eight 98 (cond twelve 102 (cond ten 110 (cond thirteen 114 (cond nine 116 0))))))
    ≡ true
letter_high true eight twelve ten thirteen nine x h some = h refl
letter_high false true twelve ten thirteen nine x h some = refl
letter_high false false true ten thirteen nine x h some = refl
letter_high false false false true thirteen nine x h some = refl
letter_high false false false false true nine x h some = refl
letter_high false false false false false true x h some = refl
letter_high false false false false false false x h some = some

own_letter : (x : ℕ) → ((x == 34) || (x == 92)) ≡ true → nat_le 32 x ≡ true
own_letter x h = grind (arith, nat_tests)

byte_clean : (has low : Bool) (x letter : ℕ) → (has ≡ true → nat_le 32 letter ≡ true)
    → (low ≡ false → nat_le 32 x ≡ true)
    → clean
    (cond has (92 ∷ letter ∷ [])
    (cond low (92 ∷ 117 ∷ 48 ∷ 48 ∷ digit_char (x / 16) ∷ digit_char (x % 16) ∷ []) (x ∷ []))) ≡ true
byte_clean true low x letter h k = and_from _ _ (h refl) refl
byte_clean false true x letter h k = and_from _ _ (hex_letter (x / 16)) (and_from _ _ (hex_letter (x % 16)) refl)
byte_clean false false x letter h k = and_from _ _ (k refl) refl

high_byte : (x : ℕ) → nat_lt x 32 ≡ false → nat_le 32 x ≡ true
high_byte x h = grind (arith, nat_tests)

escaped_clean : (x : ℕ) → clean (escape_byte x) ≡ true
unfolding escape_byte
escaped_clean x =
    byte_clean (nat_lt 0 (escape_letter x)) (nat_lt x 32) x (escape_letter x)
    (letter_high ((x == 34) || (x == 92)) (x == 8) (x == 12) (x == 10) (x == 13) (x == 9) x (own_letter x))
    (high_byte x)

escape_clean : (s : List ℕ) → clean (escape s) ≡ true
escape_clean [] = refl
escape_clean (x ∷ s) = joined (escape_byte x) (escape s) (escaped_clean x) (escape_clean s)

quoted_clean : (s : List ℕ) → clean (quoted s) ≡ true
quoted_clean s = joined (escape s) (34 ∷ []) (escape_clean s) refl

comma_clean : (later : Bool) → clean (comma_if later) ≡ true
comma_clean true = refl
comma_clean false = refl

number_clean : (n : Num) → clean (number_text n) ≡ true
number_clean (json.unsigned n) = decimal_line n
number_clean (json.negative (pos n)) = decimal_line n
number_clean (json.negative (negsuc n)) = decimal_line (suc n)
number_clean (json.float x) = refl

mutual
  text_clean : (d : Data) → clean (compact_text d) ≡ true
  text_clean json.null = refl
  text_clean (json.boolean true) = refl
  text_clean (json.boolean false) = refl
  text_clean (json.number n) = number_clean n
  text_clean (json.string s) = quoted_clean s
  text_clean (json.array ds) = items_clean false ds
  text_clean (json.object ms) = members_clean false ms

  items_clean : (later : Bool) (ds : Items) → clean (items_text later ds) ≡ true
  items_clean later json.no_items = refl
  items_clean later (json.item d ds) =
      joined (comma_if later) _ (comma_clean later) (joined (compact_text d) _ (text_clean d) (items_clean true ds))

  members_clean : (later : Bool) (ms : Members) → clean (members_text later ms) ≡ true
  members_clean later json.no_members = refl
  members_clean later (json.member k d ms) =
      joined (comma_if later) _ (comma_clean later)
      (joined (quoted k) _ (quoted_clean k) (joined (compact_text d) _ (text_clean d) (members_clean true ms)))

-- bytes without control characters are one line
high_is_other : (b : ℕ) → nat_le 32 b ≡ true → b ≢ 10
high_is_other b h e = omega (arith, leb-true 32 b h)

clean_line : (bs : List ℕ) → clean bs ≡ true → IsLine bs
clean_line [] h = refl
clean_line (b ∷ bs) h =
    line_byte b bs (high_is_other b (and_first _ _ h)) ∙ ap (onto_first b) (clean_line bs (and_second _ _ h))

-- ---- both

pub read_again : (d : Data) → Has64Bits d → depth d ≤ max_depth → IsReadAgain d
read_again d h shallow = record { line = clean_line (compact_text d) (text_clean d); read_is = text_read d h shallow }
