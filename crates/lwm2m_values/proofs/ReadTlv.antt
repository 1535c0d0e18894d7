-- What a reader of TLV that answers rightly in each case owes to those who know the nodes or the fault.
use Rattle.std.proofs.Common.{◌≡◌, ◌≢◌, ℕ, List, Result, Ok, Err, ◌⊎◌, inl, inr, refl}
use Rattle.std.specs.Result.{IfOk, IfErr, IsErrAnd, MatchResult}
use Rattle.lwm2m_values.specs.declared.fault.TlvFault.{TlvFault}
use Rattle.lwm2m_values.specs.declared.fault.TlvFault.TheVariants.{Cut, Nesting, Memory}
use Rattle.lwm2m_values.specs.declared.level.Around.TheVariants.{Top}
use Rattle.lwm2m_values.specs.Tree.{Trees}
use Rattle.lwm2m_values.specs.Tlv.{IsTlv, HasFault}
use Rattle.lwm2m_values.proofs.OneTlv.{one_reading, one_fault, not_both}

cases_memory : (f : TlvFault) → (f ≡ Memory) ⊎ (f ≢ Memory)
cases_memory Cut = inr (λ e. absurd cc)
cases_memory Nesting = inr (λ e. absurd cc)
cases_memory Memory = inl refl

pub is_only : {T : Type 0} (view : T → Trees) (bytes : List ℕ) (r : Result T TlvFault)
    → IfOk r (λ v. IsTlv (view v) bytes) → IfErr r (λ f. f ≢ Memory → HasFault Top bytes f) → (nodes : Trees)
    → IsTlv nodes bytes → MatchResult r (λ v. view v ≡ nodes) (λ f. f ≡ Memory)
is_only view bytes (Ok v) p q nodes h = one_reading (view v) nodes Top bytes p h
is_only view bytes (Err f) p q nodes h =
    elim (cases_memory f) [ inl e ↦ e | inr other ↦ absurd (not_both Top bytes f (q other) nodes h) ]

pub is_refused : {T : Type 0} (view : T → Trees) (bytes : List ℕ) (r : Result T TlvFault)
    → IfOk r (λ v. IsTlv (view v) bytes) → IfErr r (λ f. f ≢ Memory → HasFault Top bytes f) → (e : TlvFault)
    → HasFault Top bytes e → IsErrAnd r (λ g. g ≢ Memory → g ≡ e)
is_refused view bytes (Ok v) p q e h = absurd (not_both Top bytes e h (view v) p)
is_refused view bytes (Err f) p q e h = λ other. one_fault Top bytes f e (q other) h
