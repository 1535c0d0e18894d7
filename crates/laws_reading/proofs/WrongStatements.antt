-- Lines of scenario text that are refused for one of their words.
use Rattle.std.proofs.Common.{◌≡◌, ◌↔◌, ℕ, Bool, true, false, cond, List, Option, None, Some}
use Rattle.std.proofs.Common.{Result, Ok, Err, inl, inr, refl, sym, ap, ◌∙◌, arith}
use Rattle.std.specs.Bool.{if◌then◌else◌}
use Rattle.std.specs.Prelude.{codes}
use Rattle.std.specs.Str.{bytes_eq}
use Rattle.std.proofs.lemmas.Bool.{cases_Bool}
use Rattle.std.proofs.lemmas.Slice.Eq.{bytes_eq-Decides}
use Rattle.scenario_words.specs.declared.cause.Cause.{Cause}
use Rattle.scenario_words.specs.declared.cause.Cause.TheVariants.{Token, UnknownWord}
use Rattle.scenario_words.specs.Reading.{◌>>=◌}
use Rattle.scenario_words.specs.ValueWords.{is_formed, name_fault}
use Rattle.scenario_mnemonics.specs.declared.verb.Verb.TheVariants as verb
use Rattle.scenario_mnemonics.specs.declared.verb.Keyword.{Keyword}
use Rattle.scenario_mnemonics.specs.declared.verb.Keyword.TheVariants as keyword
use Rattle.scenario_mnemonics.specs.MnemonicWords.{keyword_named, keyword_word, mnemonic_at}
use Rattle.scenario_mnemonics.proofs.Spelling.{keyword_again}
use Rattle.scenario_statements.specs.declared.statement.Statement.{Statement}
use Rattle.scenario_statements.specs.declared.statement.Statement.TheVariants as says
use Rattle.scenario_statements.specs.Grammar.{request, some}
use Rattle.scenario_statements.specs.Grammar.{statement_by}
use Rattle.laws_reading.specs.WrongStatements.{AreWrong, AreWrongAfter}
use Rattle.laws_reading.specs.WrongStatements.{IsTooMany}
use Rattle.laws_reading.specs.WrongStatements.{IsKeyword, IsRefused, Leading}
use Rattle.laws_reading.specs.WrongStatements.{WrongStatementsAreSaid, leading_word, places_after}
use Rattle.laws_reading.specs.WrongStatements.Leading.{scenario, class, notify, account, object, def, instance}
use Rattle.laws_reading.specs.WrongStatements.Leading.{device, recv, tick, firmware, post, need}
use Rattle.laws_reading.specs.WrongStatements.IsRefused.{after_leading, after_value, after_mnemonic, no_keyword}
use Rattle.laws_reading.specs.WrongWords.{IsFormed, IsWrong}
use Rattle.laws_reading.proofs.Refused.{refused, same_cause}
use Rattle.laws_reading.proofs.Mnemonics.{keyword_read}
use Rattle.laws_reading.proofs.WrongNames.{formed_said, formed_tested}
use Rattle.laws_reading.proofs.WrongPlaces.{Refuses, all_placed, chained}
use Rattle.laws_reading.proofs.WrongLines.{only_placed, notify_placed, definition_placed, instance_placed}
use Rattle.laws_reading.proofs.WrongLines.{need_placed, recv_placed, path_placed}
use Rattle.laws_reading.proofs.WrongMnemonics.{made, mnemonic_placed}

-- ---- the first word

leading_placed : (l : Leading) → Refuses (statement_by (leading_word l)) (AreWrong (places_after l) IsTooMany)
leading_placed scenario = only_placed (λ n. says.Scenario) 1 1 (omega arith)
leading_placed class = all_placed says.Class
leading_placed notify = notify_placed
leading_placed account = only_placed (λ n. says.Account n) 1 65534 (omega arith)
leading_placed object = only_placed (λ n. says.Object n) 10241 32768 (omega arith)
leading_placed def = definition_placed
leading_placed instance = instance_placed
leading_placed device = only_placed (λ n. says.Device n) 0 65535 (omega arith)
leading_placed recv = recv_placed
leading_placed tick = only_placed (λ n. says.Tick n) 1 86400 (omega arith)
leading_placed firmware = only_placed (λ n. says.Firmware n) 0 9 (omega arith)
leading_placed post = only_placed (λ n. says.Post n) 0 255 (omega arith)
leading_placed need = need_placed

by_other : {A : Type 0} (w name : List ℕ) (r s : A) (x : A) (P : Type 0)
    → (w ≡ name → r ≡ x → P) → ((w ≡ name → ⊥) → s ≡ x → P) → cond (bytes_eq w name) r s ≡ x → P
by_other w name r s x P named other h = elim (cases_Bool (bytes_eq w name)) [
  | inl same ↦ named ((bytes_eq-Decides w name).0 same) (sym (ap (λ t. cond t r s) same) ∙ h)
  | inr differs ↦ other (λ e. let no : true ≡ false = sym ((bytes_eq-Decides w name).1 e) ∙ differs in cc)
      (sym (ap (λ t. cond t r s) differs) ∙ h)
]

led : (w : List ℕ) (ws : List (List ℕ)) (cause : Cause) (l : Leading) (r : Result Statement Cause)
    → r ≡ statement_by (leading_word l) ws → w ≡ leading_word l → r ≡ Err cause → IsRefused w ws cause
led w ws cause l r is e h = after_leading l e ((leading_placed l ws cause).0 (sym is ∙ h))

-- the first word is none of these
record IsOther (w : List ℕ) : Type 0 where
  leading : (l : Leading) → w ≡ leading_word l → ⊥
  value_is : w ≡ codes "value" → ⊥
  put_is : w ≡ codes "put" → ⊥

not_keyword : (w : List ℕ) → IsOther w → keyword_named w ≡ None → IsKeyword w → ⊥
not_keyword w other none (inl h) = other.leading h.0 h.1
not_keyword w other none (inr (inl h)) = other.value_is h
not_keyword w other none (inr (inr (inl h))) = other.put_is h
not_keyword w other none (inr (inr (inr h))) =
    let no : None ≡ Some h.0 = sym none ∙ ap keyword_named h.1 ∙ keyword_again h.0 in cc

fault_is : (w : List ℕ) (b : Bool) → is_formed w ≡ b → name_fault w ≡ (if b then UnknownWord else Token)
fault_is w b e = ap (λ t. if t then UnknownWord else Token) e

named_wrong : (w : List ℕ) (cause : Cause) (named : Type 0) → (named → ⊥) → name_fault w ≡ cause
    → IsWrong (IsFormed w) named UnknownWord cause
named_wrong w cause named none h = by (is_formed w) refl
  where
    by : (b : Bool) → is_formed w ≡ b → IsWrong (IsFormed w) named UnknownWord cause
    by true e = inr (formed_said w e, none, sym h ∙ fault_is w true e)
    by false e = inl (
      (λ f. let no : true ≡ false = sym (formed_tested w f) ∙ e in cc),
      sym h ∙ fault_is w false e,
    )

wrong_named : (w : List ℕ) (cause : Cause) (named : Type 0) → IsWrong (IsFormed w) named UnknownWord cause
    → name_fault w ≡ cause
wrong_named w cause named (inr h) = fault_is w true (formed_tested w h.0) ∙ sym h.2
wrong_named w cause named (inl h) = by (is_formed w) refl
  where
    by : (b : Bool) → is_formed w ≡ b → name_fault w ≡ cause
    by true e = absurd (h.0 (formed_said w e))
    by false e = fault_is w false e ∙ sym h.1

requested_or : (w : List ℕ) (ws : List (List ℕ)) (cause : Cause) (o : Option Keyword) → IsOther w
    → keyword_named w ≡ o → request o w ws ≡ Err cause → IsRefused w ws cause
requested_or w ws cause (Some k) other e h =
    after_mnemonic k (keyword_read w k e)
    ((made (mnemonic_at k) (AreWrongAfter k) (λ m. says.Request m.0 m.1) (mnemonic_placed k) ws cause).0 h)
requested_or w ws cause None other e h =
    let none = not_keyword w other e in
    no_keyword none (named_wrong w cause (IsKeyword w) none (same_cause {A = Statement} (name_fault w) cause h))

no_leading : (w : List ℕ) → (w ≡ codes "scenario" → ⊥) → (w ≡ codes "class" → ⊥) → (w ≡ codes "notify" → ⊥)
    → (w ≡ codes "account" → ⊥) → (w ≡ codes "object" → ⊥) → (w ≡ codes "def" → ⊥) → (w ≡ codes "instance" → ⊥)
    → (w ≡ codes "device" → ⊥) → (w ≡ codes "recv" → ⊥) → (w ≡ codes "tick" → ⊥) → (w ≡ codes "firmware" → ⊥)
    → (w ≡ codes "post" → ⊥) → (w ≡ codes "need" → ⊥) → (l : Leading) → w ≡ leading_word l → ⊥
no_leading w a b o c d e f g h i j k l scenario = a
no_leading w a b o c d e f g h i j k l class = b
no_leading w a b o c d e f g h i j k l notify = o
no_leading w a b o c d e f g h i j k l account = c
no_leading w a b o c d e f g h i j k l object = d
no_leading w a b o c d e f g h i j k l def = e
no_leading w a b o c d e f g h i j k l instance = f
no_leading w a b o c d e f g h i j k l device = g
no_leading w a b o c d e f g h i j k l recv = h
no_leading w a b o c d e f g h i j k l tick = i
no_leading w a b o c d e f g h i j k l firmware = j
no_leading w a b o c d e f g h i j k l post = k
no_leading w a b o c d e f g h i j k l need = l

refused_by : (w : List ℕ) (ws : List (List ℕ)) (cause : Cause) → statement_by w ws ≡ Err cause → IsRefused w ws cause
refused_by w ws cause =
    by_other w (codes "scenario") _ _ (Err cause) (IsRefused w ws cause) (led w ws cause scenario _ refl) (λ a.
    by_other w (codes "class") _ _ (Err cause) (IsRefused w ws cause) (led w ws cause class _ refl) (λ b.
    by_other w (codes "notify") _ _ (Err cause) (IsRefused w ws cause) (led w ws cause notify _ refl) (λ o.
    by_other w (codes "account") _ _ (Err cause) (IsRefused w ws cause) (led w ws cause account _ refl) (λ c.
    by_other w (codes "object") _ _ (Err cause) (IsRefused w ws cause) (led w ws cause object _ refl) (λ d.
    by_other w (codes "def") _ _ (Err cause) (IsRefused w ws cause) (led w ws cause def _ refl) (λ e.
    by_other w (codes "instance") _ _ (Err cause) (IsRefused w ws cause) (led w ws cause instance _ refl) (λ f.
    by_other w (codes "value") _ _ (Err cause) (IsRefused w ws cause)
    (λ same h. after_value (inl same) ((path_placed (λ p v. says.Value p v) ws cause).0 h)) (λ m.
    by_other w (codes "device") _ _ (Err cause) (IsRefused w ws cause) (led w ws cause device _ refl) (λ g.
    by_other w (codes "recv") _ _ (Err cause) (IsRefused w ws cause) (led w ws cause recv _ refl) (λ h.
    by_other w (codes "tick") _ _ (Err cause) (IsRefused w ws cause) (led w ws cause tick _ refl) (λ i.
    by_other w (codes "put") _ _ (Err cause) (IsRefused w ws cause)
    (λ same h. after_value (inr same) ((path_placed (λ p v. says.Put p v) ws cause).0 h)) (λ n.
    by_other w (codes "firmware") _ _ (Err cause) (IsRefused w ws cause) (led w ws cause firmware _ refl) (λ j.
    by_other w (codes "post") _ _ (Err cause) (IsRefused w ws cause) (led w ws cause post _ refl) (λ k.
    by_other w (codes "need") _ _ (Err cause) (IsRefused w ws cause) (led w ws cause need _ refl) (λ l.
    requested_or w ws cause (keyword_named w) (record {
      leading = no_leading w a b o c d e f g h i j k l;
      value_is = m;
      put_is = n;
    }) refl)))))))))))))))

-- ---- what is wrong is refused

differs : (w name : List ℕ) → (w ≡ name → ⊥) → bytes_eq w name ≡ false
differs w name h = elim (cases_Bool (bytes_eq w name)) [
  | inl same ↦ absurd (h ((bytes_eq-Decides w name).0 same))
  | inr other ↦ other
]

no_mnemonic : (w : List ℕ) → (IsKeyword w → ⊥) → keyword_named w ≡ None
no_mnemonic w h = by (keyword_named w) refl
  where
    by : (o : Option Keyword) → keyword_named w ≡ o → o ≡ None
    by None e = refl
    by (Some k) e = absurd (h (inr (inr (inr (k, keyword_read w k e)))))

other_refused : (w : List ℕ) (ws : List (List ℕ)) → (IsKeyword w → ⊥) → statement_by w ws ≡ Err (name_fault w)
other_refused w ws h =
    let no : (l : Leading) → bytes_eq w (leading_word l) ≡ false =
    λ l. differs w (leading_word l) (λ e. h (inl (l, e))) in
    let no_value : bytes_eq w (codes "value") ≡ false = differs w (codes "value") (λ e. h (inr (inl e))) in
    let no_put : bytes_eq w (codes "put") ≡ false = differs w (codes "put") (λ e. h (inr (inr (inl e)))) in
    rw (
      no scenario,
      no class,
      no notify,
      no account,
      no object,
      no def,
      no instance,
      no_value,
      no device,
      no recv,
      no tick,
      no_put,
      no firmware,
      no post,
      no need,
      no_mnemonic w h,
    ) refl

mnemonic_line : (k : Keyword) (ws : List (List ℕ))
    → statement_by (keyword_word k) ws ≡ (mnemonic_at k ws >>= (λ m. Ok (says.Request m.0 m.1)))
mnemonic_line (keyword.Request verb.Read) ws = refl
mnemonic_line (keyword.Request verb.Observe) ws = refl
mnemonic_line (keyword.Request verb.Cancel) ws = refl
mnemonic_line (keyword.Request verb.Discover) ws = refl
mnemonic_line (keyword.Request verb.Delete) ws = refl
mnemonic_line (keyword.Request verb.Write) ws = refl
mnemonic_line (keyword.Request verb.Update) ws = refl
mnemonic_line (keyword.Request verb.Create) ws = refl
mnemonic_line (keyword.Request verb.Attr) ws = refl
mnemonic_line (keyword.Request verb.Exec) ws = refl
mnemonic_line keyword.Reset ws = refl

refused_so : (w : List ℕ) (ws : List (List ℕ)) (cause : Cause) → IsRefused w ws cause → statement_by w ws ≡ Err cause
refused_so w ws cause (after_leading l e h) =
    ap (λ x. statement_by x ws) e ∙ (leading_placed l ws cause).1 h
refused_so w ws cause (after_value (inl e) h) =
    ap (λ x. statement_by x ws) e ∙ (path_placed (λ p v. says.Value p v) ws cause).1 h
refused_so w ws cause (after_value (inr e) h) =
    ap (λ x. statement_by x ws) e ∙ (path_placed (λ p v. says.Put p v) ws cause).1 h
refused_so w ws cause (after_mnemonic k e h) =
    ap (λ x. statement_by x ws) e ∙ mnemonic_line k ws
    ∙ (made (mnemonic_at k) (AreWrongAfter k) (λ m. says.Request m.0 m.1) (mnemonic_placed k) ws cause).1 h
refused_so w ws cause (no_keyword none h) =
    other_refused w ws none ∙ ap (λ c. refused c) (wrong_named w cause (IsKeyword w) h)

some_refused : (r : Result Statement Cause) (cause : Cause) → (some r ≡ Err cause) ↔ (r ≡ Err cause)
some_refused (Ok s) cause = ((λ h. cc h), (λ h. cc h))
some_refused (Err e) cause = (
  (λ h. ap (λ c. refused c) (same_cause {A = Option Statement} e cause h)),
  (λ h. ap (λ c. refused c) (same_cause {A = Statement} e cause h)),
)

pub wrong_statements_said : WrongStatementsAreSaid
wrong_statements_said w ws cause =
    chained (some_refused (statement_by w ws) cause) (refused_by w ws cause, refused_so w ws cause)
