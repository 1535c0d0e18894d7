-- What a job comes to, whose answer comes at once.
use Rattle.std.proofs.Common.{ℕ, ◌≡◌, ◌⊎◌, List, Option, Result, Ok, Err, IfErr, IfOk, inl, sym, subst}
use Rattle.std.specs.Result.{IsErrAnd}
use Rattle.command_line.specs.declared.words.Job.{Job}
use Rattle.command_files.specs.World.{IsIdle, StreamFaults, Streams}
use Rattle.command_files.specs.declared.answer.Answer.{Answer}
use Rattle.command_files.specs.declared.fault.Fault.{Fault}
use Rattle.command_files.specs.declared.refusal.Refusal.{Refusal}
use Rattle.lwbench.specs.Command.{IsCutJob, IsDone, IsRefusedJob}

-- a refusal is passed on

pub no_answer : {T : Type 0} (done : T → Type 0) (result : Result T Refusal) (refusal : Refusal)
    → IsErrAnd result (λ r. r ≡ refusal) → IfOk result done
no_answer done (Ok x) refusal told = absurd told
no_answer done (Err r) refusal told = tt

pub refused_as : {T : Type 0} (why : Fault → Type 0) (result : Result T Refusal) (refusal : Refusal)
    → IsErrAnd result (λ r. r ≡ refusal) → why refusal.fault → IfErr result (λ r. why r.fault)
refused_as why (Ok x) refusal told refused = tt
refused_as why (Err r) refusal told refused = subst (λ e. why e.fault) (sym told) refused

-- a job that is known

pub answered_at_once : (holds : List ℕ → List ℕ → Type 0) (job known : Job) (answer : Answer) → job ≡ known
    → IsDone holds known answer → IsDone holds job answer
answered_at_once holds job known answer same done = subst (λ j. IsDone holds j answer) (sym same) done

pub refused_at_once : (holds : List ℕ → List ℕ → Type 0) (fails : List ℕ → Type 0) (faults : StreamFaults)
    (job known : Job) (before after : Streams) (result : Result (Option Answer) Refusal) (refusal : Refusal)
    → IsErrAnd result (λ r. r ≡ refusal) → job ≡ known → IsRefusedJob holds fails known refusal.fault
    → IsIdle before after
    → IfErr result (λ r. (IsRefusedJob holds fails job r.fault × IsIdle before after)
    ⊎ IsCutJob holds faults job before after r.fault)
refused_at_once holds fails faults job known before after (Ok o) refusal told same refused idle = tt
refused_at_once holds fails faults job known before after (Err r) refusal told same refused idle =
    inl (
      subst (λ j. IsRefusedJob holds fails j r.fault) (sym same)
          (subst (λ e. IsRefusedJob holds fails known e.fault) (sym told) refused),
      idle,
    )
