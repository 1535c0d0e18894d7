-- Lines that are refused after their first word.
use Rattle.std.proofs.Common.{◌≡◌, ◌↔◌, ℕ, ◌<◌, ◌^◌, Bool, List, [], ◌∷◌}
use Rattle.std.proofs.Common.{Result, Ok, Err, refl, sym, ap, ◌∙◌, arith}
use Rattle.std.specs.Prelude.{codes}
use Rattle.lwm2m_values.specs.declared.kind.ValueKind.{ValueKind}
use Rattle.lwm2m_values.specs.declared.value.Value.{Value}
use Rattle.object_defs.specs.declared.definition.Ops.{Ops}
use Rattle.object_defs.specs.declared.definition.ResourceDef.{ResourceDef}
use Rattle.object_defs.specs.declared.path.Path.{Path}
use Rattle.scenario_words.specs.declared.cause.Cause.{Cause}
use Rattle.scenario_words.specs.HexWord.{bytes_of}
use Rattle.scenario_words.specs.Number.{number_of}
use Rattle.scenario_words.specs.PathWord.{path_of}
use Rattle.scenario_words.specs.Reading.{◌>>=◌, check_of_end, word_by}
use Rattle.scenario_words.specs.ValueWords.{kind_named, kind_word, value_at, value_of}
use Rattle.scenario_words.proofs.ValueLaws.{kind_again}
use Rattle.scenario_statements.specs.declared.statement.Statement.{Statement}
use Rattle.scenario_statements.specs.declared.statement.Statement.TheVariants as says
use Rattle.scenario_statements.specs.Grammar.{check_of_name, definition, instance as read_instance, need as read_need}
use Rattle.scenario_statements.specs.Grammar.{notify as read_notify, one_of, only_number, ops_named, recv as read_recv}
use Rattle.laws_reading.specs.WrongStatements.{AreWrong}
use Rattle.laws_reading.specs.WrongStatements.{AreWrongAsValue, IsTooMany}
use Rattle.laws_reading.specs.WrongStatements.{IsWrongAt}
use Rattle.laws_reading.specs.WrongStatements.{places_after}
use Rattle.laws_reading.specs.WrongStatements.Place.{number, con_name, operations, multiple, mandatory, kind_name}
use Rattle.laws_reading.specs.WrongStatements.Place.{path, bytes, value}
use Rattle.laws_reading.specs.WrongStatements.Leading.{notify, def, instance, recv, need}
use Rattle.laws_reading.proofs.ReadWords.{kind_read}
use Rattle.laws_reading.proofs.WrongNames.{kinds_named}
use Rattle.laws_reading.proofs.WrongPlaces.{Refuses, here_or_later, none_missing, placed, all_placed, made_of}
use Rattle.laws_reading.proofs.WrongPlaces.{number_fills, con_fills, operations_fill, multiple_fills, mandatory_fills}
use Rattle.laws_reading.proofs.WrongPlaces.{kind_fills, path_fills, bytes_fill, value_fills}

-- ---- lines

abbrev pub defined : ℕ → Ops → Bool → Bool → ValueKind → ResourceDef
defined id ops more must kind =
    record { id = id; ops = ops; multiple = more; mandatory = must; kind = kind }

pub only_placed : (f : ℕ → Statement) (low high : ℕ) → high < 2 ^ 64
    → Refuses (λ ws. only_number low high ws >>= (λ n. Ok (f n))) (AreWrong (number low high ∷ []) IsTooMany)
only_placed f low high small ws cause =
    made_of (only_number low high ws) f cause (AreWrong (number low high ∷ []) IsTooMany ws cause)
    (placed (number_of low high) (number low high) [] IsTooMany (λ n. check_of_end n.1 >>= (λ e. Ok n.0))
    (number_fills low high small) (λ n. all_placed n) ws cause)

pub notify_placed : Refuses read_notify (AreWrong (places_after notify) IsTooMany)
notify_placed =
    placed (check_of_name (codes "con")) con_name (number 2 3 ∷ []) IsTooMany
    (λ c. only_number 2 3 c.1 >>= (λ n. Ok (says.Notify n))) con_fills
    (λ c. only_placed (λ n. says.Notify n) 2 3 (omega arith))

pub definition_placed : Refuses definition (AreWrong (places_after def) IsTooMany)
definition_placed =
    placed (number_of 0 65535) (number 0 65535) (operations ∷ multiple ∷ mandatory ∷ kind_name ∷ []) IsTooMany (λ id.
    word_by ops_named id.1 >>= (λ ops. word_by (one_of (codes "multiple") (codes "single")) ops.1 >>= (λ more.
    word_by (one_of (codes "mandatory") (codes "optional")) more.1 >>= (λ must. word_by kind_named must.1 >>= (λ k.
    check_of_end k.1 >>= (λ e. Ok (says.Def (defined id.0 ops.0 more.0 must.0 k.0))))))))
    (number_fills 0 65535 (omega arith)) (λ id.
    placed ops_named operations (multiple ∷ mandatory ∷ kind_name ∷ []) IsTooMany (λ ops.
    word_by (one_of (codes "multiple") (codes "single")) ops.1 >>= (λ more.
    word_by (one_of (codes "mandatory") (codes "optional")) more.1 >>= (λ must. word_by kind_named must.1 >>= (λ k.
    check_of_end k.1 >>= (λ e. Ok (says.Def (defined id ops.0 more.0 must.0 k.0)))))))
    operations_fill (λ ops.
    placed (one_of (codes "multiple") (codes "single")) multiple (mandatory ∷ kind_name ∷ []) IsTooMany (λ more.
    word_by (one_of (codes "mandatory") (codes "optional")) more.1 >>= (λ must. word_by kind_named must.1 >>= (λ k.
    check_of_end k.1 >>= (λ e. Ok (says.Def (defined id ops more.0 must.0 k.0))))))
    multiple_fills (λ more.
    placed (one_of (codes "mandatory") (codes "optional")) mandatory (kind_name ∷ []) IsTooMany (λ must.
    word_by kind_named must.1 >>= (λ k. check_of_end k.1 >>= (λ e. Ok (says.Def (defined id ops more must.0 k.0)))))
    mandatory_fills (λ must.
    placed kind_named kind_name [] IsTooMany
    (λ k. check_of_end k.1 >>= (λ e. Ok (says.Def (defined id ops more must k.0))))
    kind_fills (λ k. all_placed (says.Def (defined id ops more must k)))))))

pub instance_placed : Refuses read_instance (AreWrong (places_after instance) IsTooMany)
instance_placed =
    placed (number_of 0 65535) (number 0 65535) (number 0 65534 ∷ []) IsTooMany
    (λ o. word_by (number_of 0 65534) o.1 >>= (λ i. check_of_end i.1 >>= (λ e.
    Ok (says.Instance (record { object = o.0; instance = i.0 })))))
    (number_fills 0 65535 (omega arith)) (λ o.
    placed (number_of 0 65534) (number 0 65534) [] IsTooMany
    (λ i. check_of_end i.1 >>= (λ e. Ok (says.Instance (record { object = o; instance = i.0 }))))
    (number_fills 0 65534 (omega arith))
    (λ i. all_placed (says.Instance (record { object = o; instance = i }))))

pub need_placed : Refuses read_need (AreWrong (places_after need) IsTooMany)
need_placed =
    placed (number_of 0 255) (number 0 255) (number 1 1000000 ∷ []) IsTooMany
    (λ g. word_by (number_of 1 1000000) g.1 >>= (λ n. check_of_end n.1 >>= (λ e. Ok (says.Need g.0 n.0))))
    (number_fills 0 255 (omega arith)) (λ g.
    placed (number_of 1 1000000) (number 1 1000000) [] IsTooMany (λ n. check_of_end n.1 >>= (λ e. Ok (says.Need g n.0)))
    (number_fills 1 1000000 (omega arith)) (λ n. all_placed (says.Need g n)))

pub recv_placed : Refuses read_recv (AreWrong (places_after recv) IsTooMany)
recv_placed =
    placed (number_of 1 65534) (number 1 65534) (bytes ∷ []) IsTooMany
    (λ s. word_by bytes_of s.1 >>= (λ b. check_of_end b.1 >>= (λ e. Ok (says.Recv s.0 b.0))))
    (number_fills 1 65534 (omega arith)) (λ s.
    placed bytes_of bytes [] IsTooMany (λ b. check_of_end b.1 >>= (λ e. Ok (says.Recv s b.0))) bytes_fill
    (λ b. all_placed (says.Recv s b)))

abbrev pub valued : (Value → Statement) → Value × List (List ℕ) → Result Statement Cause
valued f v = check_of_end v.1 >>= (λ e. Ok (f v.0))

pub joined : {A B C : Type 0} (r : Result A Cause) (f : A → Result B Cause) (g : B → Result C Cause)
    → ((r >>= f) >>= g) ≡ (r >>= (λ x. f x >>= g))
joined (Ok x) f g = refl
joined (Err e) f g = refl

pub same_reading : {A : Type 0} (r s : Result A Cause) (cause : Cause) (W : Type 0) → r ≡ s → ((s ≡ Err cause) ↔ W)
    → (r ≡ Err cause) ↔ W
same_reading r s cause W e h = ((λ k. h.0 (sym e ∙ k)), (λ w. e ∙ h.1 w))

pub value_placed : (f : Value → Statement) → Refuses (λ ws. value_at ws >>= valued f) AreWrongAsValue
value_placed f [] cause = none_missing {B = Statement} cause
value_placed f (w ∷ ws) cause =
    let r : Result (ValueKind × List (List ℕ)) Cause = kind_named w >>= (λ k. Ok (k, ws)) in
    let value_next : ValueKind × List (List ℕ) → Result (Value × List (List ℕ)) Cause =
    λ k. word_by (value_of k.0) k.1 in
    same_reading ((r >>= value_next) >>= valued f) (r >>= (λ k. value_next k >>= valued f)) cause
    (AreWrongAsValue (w ∷ ws) cause) (joined r value_next (valued f))
    (here_or_later (kind_named w) ws (λ k. value_next k >>= valued f) cause (IsWrongAt kind_name w cause)
    (λ k. AreWrong (value k ∷ []) IsTooMany ws cause) (kinds_named w cause)
    (λ k. placed (value_of k) (value k) [] IsTooMany (valued f) (value_fills k) (λ v. all_placed (f v)) ws cause)
    ((k : ValueKind) × (w ≡ kind_word k) × AreWrong (value k ∷ []) IsTooMany ws cause) (
      (λ t. (t.0, kind_read w t.0 t.1, t.2)),
      (λ t. (t.0, ap kind_named t.1 ∙ kind_again t.0, t.2)),
    ))

pub path_placed : (f : Path → Value → Statement)
    → Refuses (λ ws. word_by path_of ws >>= (λ p. value_at p.1 >>= valued (f p.0)))
    (AreWrong (path ∷ []) AreWrongAsValue)
path_placed f =
    placed path_of path [] AreWrongAsValue (λ p. value_at p.1 >>= valued (f p.0)) path_fills (λ p. value_placed (f p))
