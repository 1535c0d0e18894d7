-- Which of the rules decides.
use Rattle.std.proofs.Common.{◌≡◌, ℕ, Bool, true, false, ◌==◌, [], ◌∷◌, Some, refl, sym, ap, ◌∙◌}
use Rattle.std.proofs.lemmas.Bool.{ne_eqb}
use Rattle.std.proofs.lemmas.Option.{same_Some}
use Rattle.coap_codec.specs.Message.{Message}
use Rattle.object_defs.specs.Lines.{first_line}
use Rattle.object_defs.specs.Path.{object_in}
use Rattle.object_defs.specs.declared.path.Path.{Path}
use Rattle.device_requests.specs.declared.operation.Operation.{Operation}
use Rattle.device_requests.specs.declared.ruling.Ruling.{Ruling}
use Rattle.device_requests.specs.declared.ruling.Ruling.TheVariants as rule
use Rattle.device_requests.specs.Client.{Client}
use Rattle.device_requests.specs.Laws.{is_refusal}
use Rattle.device_requests.specs.Order.{Asks, OneTable}
use Rattle.device_requests.specs.Refusals.{Purpose, done_ruling, format_ruling, is_invalid, is_out_of_turn, is_too_much}
use Rattle.device_requests.specs.Refusals.{lacks_format, lacks_operation, lacks_right, lacks_target, to_create}
use Rattle.device_requests.specs.Refusals.{to_delete, to_discover, to_read}
use Rattle.device_requests.specs.Request.{outcome_of, purpose_of}
use Rattle.device_requests.specs.Ruling.{code_of}
use Rattle.laws_requests.specs.Good.{GoodIsDone, IsGood, LimitsComeLast}

-- no rule holds
record AreClear (a b c d e f g : Bool) : Type 0 where
  a_is : a ≡ false
  b_is : b ≡ false
  c_is : c ≡ false
  d_is : d ≡ false
  e_is : e ≡ false
  f_is : f ≡ false
  g_is : g ≡ false

-- the rule answers a code of a refusal
abbrev is_refused : Ruling → Bool
is_refused ruling = is_refusal (code_of ruling)

-- what the rule of an answer says of the others
record IsDecided (a b c d e f g h : Bool) (done ruling : Ruling) : Type 0 where
  when_done : ruling ≡ done → AreClear a b c d e f g × (h ≡ false)
  when_limit : ruling ≡ rule.Limit → AreClear a b c d e f g × (h ≡ true)
  is_done : AreClear a b c d e f g → h ≡ false → ruling ≡ done
  is_limit : AreClear a b c d e f g → h ≡ true → ruling ≡ rule.Limit

-- neither the success nor the limits, where some rule holds
refused : (a b c d e f g h : Bool) (said done ruling : Ruling) → (AreClear a b c d e f g → ⊥) → is_refused said ≡ true
    → is_refused done ≡ false → (said ≡ rule.Limit → ⊥) → Some said ≡ Some ruling
    → IsDecided a b c d e f g h done ruling
refused a b c d e f g h said done ruling some refuses succeeds other is =
    let same = same_Some said ruling is in
    record {
      when_done = λ p. let k : true ≡ false = sym refuses ∙ (ap is_refused (same ∙ p) ∙ succeeds) in cc;
      when_limit = λ p. absurd (other (same ∙ p));
      is_done = λ clear p. absurd (some clear);
      is_limit = λ clear p. absurd (some clear);
    }

limited : (done ruling : Ruling) → is_refused done ≡ false → Some rule.Limit ≡ Some ruling
    → IsDecided false false false false false false false true done ruling
limited done ruling succeeds is =
    let same = same_Some rule.Limit ruling is in
    record {
      when_done = λ p. let k : true ≡ false = ap is_refused (same ∙ p) ∙ succeeds in cc;
      when_limit = λ p. (
        record { a_is = refl; b_is = refl; c_is = refl; d_is = refl; e_is = refl; f_is = refl; g_is = refl },
        refl,
      );
      is_done = λ clear p. cc;
      is_limit = λ clear p. sym same;
    }

finished : (done ruling : Ruling) → is_refused done ≡ false → Some done ≡ Some ruling
    → IsDecided false false false false false false false false done ruling
finished done ruling succeeds is =
    let same = same_Some done ruling is in
    record {
      when_done = λ p. (
        record { a_is = refl; b_is = refl; c_is = refl; d_is = refl; e_is = refl; f_is = refl; g_is = refl },
        refl,
      );
      when_limit = λ p. let k : true ≡ false = sym (ap is_refused (same ∙ p)) ∙ succeeds in cc;
      is_done = λ clear p. sym same;
      is_limit = λ clear p. cc;
    }

decided : (a b c d e f g h : Bool) (format done ruling : Ruling) → is_refused format ≡ true → is_refused done ≡ false
    → (format ≡ rule.Limit → ⊥)
    → first_line ((a, rule.Security) ∷ (b, rule.Target) ∷ (c, rule.Right) ∷ (d, rule.Operation) ∷ (e, format)
    ∷ (f, rule.Payload) ∷ (g, rule.State) ∷ (h, rule.Limit) ∷ (true, done) ∷ []) ≡ Some ruling
    → IsDecided a b c d e f g h done ruling
decided true b c d e f g h format done ruling r s o is =
    refused true b c d e f g h rule.Security done ruling (λ k. let l = k.a_is in cc) refl s (λ p. cc) is
decided false true c d e f g h format done ruling r s o is =
    refused false true c d e f g h rule.Target done ruling (λ k. let l = k.b_is in cc) refl s (λ p. cc) is
decided false false true d e f g h format done ruling r s o is =
    refused false false true d e f g h rule.Right done ruling (λ k. let l = k.c_is in cc) refl s (λ p. cc) is
decided false false false true e f g h format done ruling r s o is =
    refused false false false true e f g h rule.Operation done ruling (λ k. let l = k.d_is in cc) refl s (λ p. cc) is
decided false false false false true f g h format done ruling r s o is =
    refused false false false false true f g h format done ruling (λ k. let l = k.e_is in cc) r s o is
decided false false false false false true g h format done ruling r s o is =
    refused false false false false false true g h rule.Payload done ruling (λ k. let l = k.f_is in cc) refl s
    (λ p. cc) is
decided false false false false false false true h format done ruling r s o is =
    refused false false false false false false true h rule.State done ruling (λ k. let l = k.g_is in cc) refl s
    (λ p. cc) is
decided false false false false false false false true format done ruling r s o is = limited done ruling s is
decided false false false false false false false false format done ruling r s o is = finished done ruling s is

format_refuses : (purpose : Purpose) → is_refused (format_ruling purpose) ≡ true
format_refuses (to_read accept) = refl
format_refuses purpose = refl

format_is_no_limit : (purpose : Purpose) → format_ruling purpose ≡ rule.Limit → ⊥
format_is_no_limit (to_read accept) h = cc
format_is_no_limit purpose h = cc

done_succeeds : (purpose : Purpose) → is_refused (done_ruling purpose) ≡ false
done_succeeds (to_read accept) = refl
done_succeeds to_discover = refl
done_succeeds (to_create format payload) = refl
done_succeeds to_delete = refl
done_succeeds purpose = refl

order : OneTable → (client : Client) (server : ℕ) (m : Message) (path : Path) (operation : Operation)
    → Asks m path operation
    → let purpose = purpose_of m operation in
    IsDecided (object_in path == 0) (lacks_target client path purpose) (lacks_right client server path purpose)
    (lacks_operation client.catalog path purpose) (lacks_format client.catalog path purpose)
    (is_invalid client server path purpose) (is_out_of_turn client path purpose)
    (is_too_much client server path purpose) (done_ruling purpose) (outcome_of client server m).answer.ruling
order one_table client server m path operation asks =
    let purpose = purpose_of m operation in
    decided (object_in path == 0) (lacks_target client path purpose) (lacks_right client server path purpose)
    (lacks_operation client.catalog path purpose) (lacks_format client.catalog path purpose)
    (is_invalid client server path purpose) (is_out_of_turn client path purpose)
    (is_too_much client server path purpose) (format_ruling purpose) (done_ruling purpose)
    (outcome_of client server m).answer.ruling (format_refuses purpose) (done_succeeds purpose)
    (format_is_no_limit purpose) (one_table client server m path operation asks)

-- none of the rules before the limits holds
abbrev IsClear : Client → ℕ → Path → Purpose → Type 0
IsClear client server path purpose =
    AreClear (object_in path == 0) (lacks_target client path purpose) (lacks_right client server path purpose)
    (lacks_operation client.catalog path purpose) (lacks_format client.catalog path purpose)
    (is_invalid client server path purpose) (is_out_of_turn client path purpose)

clear_good : (client : Client) (server : ℕ) (path : Path) (purpose : Purpose) → IsClear client server path purpose
    → IsGood client server path purpose
clear_good client server path purpose clear =
    record {
      object = λ p. let k : true ≡ false = sym (ap (λ (o : ℕ). o == 0) p) ∙ clear.a_is in cc;
      target = clear.b_is;
      right = clear.c_is;
      served = clear.d_is;
      format = clear.e_is;
      payload = clear.f_is;
      state = clear.g_is;
    }

good_clear : (client : Client) (server : ℕ) (path : Path) (purpose : Purpose) → IsGood client server path purpose
    → IsClear client server path purpose
good_clear client server path purpose good =
    record {
      a_is = ne_eqb (object_in path) 0 good.object;
      b_is = good.target;
      c_is = good.right;
      d_is = good.served;
      e_is = good.format;
      f_is = good.payload;
      g_is = good.state;
    }

pub good_is_done : OneTable → GoodIsDone
good_is_done table client server m path operation asks =
    let is = order table client server m path operation asks in (
      λ h. (clear_good client server path (purpose_of m operation) (is.when_done h).0, (is.when_done h).1),
      λ h. is.is_done (good_clear client server path (purpose_of m operation) h.0) h.1,
    )

pub limits_come_last : OneTable → LimitsComeLast
limits_come_last table client server m path operation asks =
    let is = order table client server m path operation asks in (
      λ h. (clear_good client server path (purpose_of m operation) (is.when_limit h).0, (is.when_limit h).1),
      λ h. is.is_limit (good_clear client server path (purpose_of m operation) h.0) h.1,
    )
