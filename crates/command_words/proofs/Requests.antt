-- The words of a line that says a mnemonic are a keyword and what it says.
use Rattle.std.proofs.Common.{subst, ◌≡◌, ℕ, cond, List, ◌∷◌, Option, None, Some, Result, Ok, Err}
use Rattle.std.proofs.Common.{sym, ap, ◌∙◌, inl, inr}
use Rattle.std.specs.Prelude.{codes}
use Rattle.std.specs.Str.{bytes_eq}
use Rattle.std.proofs.lemmas.Bool.{cases_Bool}
use Rattle.scenario_words.specs.declared.cause.Cause.{Cause}
use Rattle.scenario_words.specs.HexWord.{bytes_of}
use Rattle.scenario_words.specs.Number.{number_of}
use Rattle.scenario_words.specs.PathWord.{path_of}
use Rattle.scenario_words.specs.Reading.{◌>>=◌, check_of_end, word_by}
use Rattle.scenario_words.specs.ValueWords.{kind_named, value_at}
use Rattle.scenario_words.proofs.PathLaws.{bind_ok}
use Rattle.scenario_mnemonics.specs.declared.mnemonic.Mnemonic.{Mnemonic}
use Rattle.scenario_mnemonics.specs.declared.verb.Keyword.{Keyword}
use Rattle.scenario_mnemonics.specs.MnemonicWords.{keyword_named, mnemonic_at}
use Rattle.scenario_statements.specs.declared.statement.Statement.{Statement}
use Rattle.scenario_statements.specs.declared.statement.Statement.TheVariants as says
use Rattle.scenario_statements.specs.Grammar.{check_of_name, definition, instance, need, notify, one_of, only_number}
use Rattle.scenario_statements.specs.Grammar.{ops_named, put, recv, request, some, statement_by, statement_of, value}

-- a reading by a name gave a mnemonic: not by this name, so by the others
other_name : (w name : List ℕ) (r s : Result Statement Cause) (server : ℕ) (m : Mnemonic) (P : Type 0)
    → ((server : ℕ) (m : Mnemonic) → r ≡ Ok (says.Request server m) → ⊥) → (s ≡ Ok (says.Request server m) → P)
    → cond (bytes_eq w name) r s ≡ Ok (says.Request server m) → P
other_name w name r s server m P other behind h = elim (cases_Bool (bytes_eq w name)) [
  | inl same ↦ absurd (other server m (sym (ap (λ t. cond t r s) same) ∙ h))
  | inr differs ↦ behind (sym (ap (λ t. cond t r s) differs) ∙ h)
]

-- a statement of one number
of_number : (low high : ℕ) (f : ℕ → Statement) (ws : List (List ℕ)) (server : ℕ) (m : Mnemonic)
    → ((n : ℕ) → f n ≡ says.Request server m → ⊥) → (only_number low high ws >>= (λ n. Ok (f n)))
    ≡ Ok (says.Request server m) → ⊥
of_number low high f ws server m other h =
    let b = bind_ok (only_number low high ws) (λ n. Ok (f n)) (says.Request server m) h in
    let same : f b.0 ≡ says.Request server m = cc (b.2) in other b.0 same

of_class : (ws : List (List ℕ)) (server : ℕ) (m : Mnemonic)
    → (check_of_end ws >>= (λ e. Ok says.Class)) ≡ Ok (says.Request server m) → ⊥
of_class ws server m h =
    let b = bind_ok (check_of_end ws) (λ e. Ok says.Class) (says.Request server m) h in
    let same : says.Class ≡ says.Request server m = cc (b.2) in cc

of_notify : (ws : List (List ℕ)) (server : ℕ) (m : Mnemonic) → notify ws ≡ Ok (says.Request server m) → ⊥
of_notify ws server m h =
    let c = bind_ok (word_by (check_of_name (codes "con")) ws) (λ c. only_number 2 3 c.1 >>= (λ n. Ok (says.Notify n)))
    (says.Request server m) h in
    of_number 2 3 (λ n. says.Notify n) c.0.1 server m (λ n e. cc (e)) c.2

-- the last word of a statement
at_end : (ws : List (List ℕ)) (s : Statement) (server : ℕ) (m : Mnemonic) → (s ≡ says.Request server m → ⊥)
    → (check_of_end ws >>= (λ e. Ok s)) ≡ Ok (says.Request server m) → ⊥
at_end ws s server m other h =
    let b = bind_ok (check_of_end ws) (λ e. Ok s) (says.Request server m) h in
    let same : s ≡ says.Request server m = cc (b.2) in other same

of_definition : (ws : List (List ℕ)) (server : ℕ) (m : Mnemonic) → definition ws ≡ Ok (says.Request server m) → ⊥
of_definition ws server m h =
    let a = bind_ok (word_by (number_of 0 65535) ws) (λ id. word_by ops_named id.1 >>=
    (λ ops. word_by (one_of (codes "multiple") (codes "single")) ops.1 >>=
    (λ multiple. word_by (one_of (codes "mandatory") (codes "optional")) multiple.1 >>=
    (λ mandatory. word_by kind_named mandatory.1 >>= (λ kind. check_of_end kind.1 >>= (λ e. Ok (says.Def (record
    { id = id.0; ops = ops.0; multiple = multiple.0; mandatory = mandatory.0; kind = kind.0 }))))))))
    (says.Request server m) h in
    let b = bind_ok (word_by ops_named a.0.1)
    (λ ops. word_by (one_of (codes "multiple") (codes "single")) ops.1 >>=
    (λ multiple. word_by (one_of (codes "mandatory") (codes "optional")) multiple.1 >>=
    (λ mandatory. word_by kind_named mandatory.1 >>= (λ kind. check_of_end kind.1 >>= (λ e. Ok (says.Def (record
    { id = a.0.0; ops = ops.0; multiple = multiple.0; mandatory = mandatory.0; kind = kind.0 })))))))
    (says.Request server m) a.2 in
    let c = bind_ok (word_by (one_of (codes "multiple") (codes "single")) b.0.1)
    (λ multiple. word_by (one_of (codes "mandatory") (codes "optional")) multiple.1 >>=
    (λ mandatory. word_by kind_named mandatory.1 >>= (λ kind. check_of_end kind.1 >>= (λ e. Ok (says.Def (record
    { id = a.0.0; ops = b.0.0; multiple = multiple.0; mandatory = mandatory.0; kind = kind.0 }))))))
    (says.Request server m) b.2 in
    let d = bind_ok (word_by (one_of (codes "mandatory") (codes "optional")) c.0.1)
    (λ mandatory. word_by kind_named mandatory.1 >>= (λ kind. check_of_end kind.1 >>= (λ e. Ok (says.Def (record
    { id = a.0.0; ops = b.0.0; multiple = c.0.0; mandatory = mandatory.0; kind = kind.0 })))))
    (says.Request server m) c.2 in
    let k = bind_ok (word_by kind_named d.0.1) (λ kind. check_of_end kind.1 >>= (λ e. Ok (says.Def (record
    { id = a.0.0; ops = b.0.0; multiple = c.0.0; mandatory = d.0.0; kind = kind.0 }))))
    (says.Request server m) d.2 in
    at_end k.0.1 (says.Def (record { id = a.0.0; ops = b.0.0; multiple = c.0.0; mandatory = d.0.0; kind = k.0.0 }))
    server m (λ e. cc (e)) k.2

of_instance : (ws : List (List ℕ)) (server : ℕ) (m : Mnemonic) → instance ws ≡ Ok (says.Request server m) → ⊥
of_instance ws server m h =
    let o = bind_ok (word_by (number_of 0 65535) ws)
    (λ o. word_by (number_of 0 65534) o.1 >>= (λ i. check_of_end i.1 >>=
    (λ e. Ok (says.Instance (record { object = o.0; instance = i.0 }))))) (says.Request server m) h in
    let i = bind_ok (word_by (number_of 0 65534) o.0.1) (λ i. check_of_end i.1 >>=
    (λ e. Ok (says.Instance (record { object = o.0.0; instance = i.0 })))) (says.Request server m) o.2 in
    at_end i.0.1 (says.Instance (record { object = o.0.0; instance = i.0.0 })) server m (λ e. cc (e)) i.2

of_value : (ws : List (List ℕ)) (server : ℕ) (m : Mnemonic) → value ws ≡ Ok (says.Request server m) → ⊥
of_value ws server m h =
    let p = bind_ok (word_by path_of ws) (λ p. value_at p.1 >>=
    (λ v. check_of_end v.1 >>= (λ e. Ok (says.Value p.0 v.0))))
    (says.Request server m) h in
    let v = bind_ok (value_at p.0.1) (λ v. check_of_end v.1 >>= (λ e. Ok (says.Value p.0.0 v.0)))
    (says.Request server m) p.2 in
    at_end v.0.1 (says.Value p.0.0 v.0.0) server m (λ e. cc (e)) v.2

of_put : (ws : List (List ℕ)) (server : ℕ) (m : Mnemonic) → put ws ≡ Ok (says.Request server m) → ⊥
of_put ws server m h =
    let p = bind_ok (word_by path_of ws) (λ p. value_at p.1 >>=
    (λ v. check_of_end v.1 >>= (λ e. Ok (says.Put p.0 v.0))))
    (says.Request server m) h in
    let v = bind_ok (value_at p.0.1) (λ v. check_of_end v.1 >>= (λ e. Ok (says.Put p.0.0 v.0)))
    (says.Request server m) p.2 in
    at_end v.0.1 (says.Put p.0.0 v.0.0) server m (λ e. cc (e)) v.2

of_recv : (ws : List (List ℕ)) (server : ℕ) (m : Mnemonic) → recv ws ≡ Ok (says.Request server m) → ⊥
of_recv ws server m h =
    let s = bind_ok (word_by (number_of 1 65534) ws) (λ s. word_by bytes_of s.1 >>= (λ b. check_of_end b.1 >>=
    (λ e. Ok (says.Recv s.0 b.0)))) (says.Request server m) h in
    let b = bind_ok (word_by bytes_of s.0.1) (λ b. check_of_end b.1 >>= (λ e. Ok (says.Recv s.0.0 b.0)))
    (says.Request server m) s.2 in
    at_end b.0.1 (says.Recv s.0.0 b.0.0) server m (λ e. cc (e)) b.2

of_need : (ws : List (List ℕ)) (server : ℕ) (m : Mnemonic) → need ws ≡ Ok (says.Request server m) → ⊥
of_need ws server m h =
    let g = bind_ok (word_by (number_of 0 255) ws)
    (λ g. word_by (number_of 1 1000000) g.1 >>= (λ n. check_of_end n.1 >>=
    (λ e. Ok (says.Need g.0 n.0)))) (says.Request server m) h in
    let n = bind_ok (word_by (number_of 1 1000000) g.0.1) (λ n. check_of_end n.1 >>= (λ e. Ok (says.Need g.0.0 n.0)))
    (says.Request server m) g.2 in
    at_end n.0.1 (says.Need g.0.0 n.0.0) server m (λ e. cc (e)) n.2

-- the words say this mnemonic after its keyword
pub record IsRead (w : List ℕ) (ws : List (List ℕ)) (server : ℕ) (m : Mnemonic) : Type 0 where
  pub keyword : Keyword
  pub read : mnemonic_at keyword ws ≡ Ok (server, m)

by_keyword : (o : Option Keyword) (w : List ℕ) (ws : List (List ℕ)) (server : ℕ) (m : Mnemonic)
    → request o w ws ≡ Ok (says.Request server m) → IsRead w ws server m
by_keyword None w ws server m h = cc
by_keyword (Some k) w ws server m h =
    let b = bind_ok (mnemonic_at k ws) (λ x. Ok (says.Request x.0 x.1)) (says.Request server m) h in
    let first : b.0.0 ≡ server = cc (b.2) in
    let second : b.0.1 ≡ m = cc (b.2) in
    record {
      keyword = k;
      read = subst (λ n. mnemonic_at k ws ≡ Ok (server, n)) second
          (subst (λ n. mnemonic_at k ws ≡ Ok (n, b.0.1)) first b.1);
    }

by_words : (w : List ℕ) (ws : List (List ℕ)) (server : ℕ) (m : Mnemonic)
    → statement_by w ws ≡ Ok (says.Request server m) → IsRead w ws server m
by_words w ws server m =
    let P : Type 0 = IsRead w ws server m in
    other_name w (codes "scenario") _ _ server m P
    (λ s k h. of_number 1 1 (λ n. says.Scenario) ws s k (λ n e. cc (e)) h)
    (other_name w (codes "class") _ _ server m P (of_class ws)
    (other_name w (codes "notify") _ _ server m P (of_notify ws)
    (other_name w (codes "account") _ _ server m P
    (λ s k h. of_number 1 65534 (λ n. says.Account n) ws s k (λ n e. cc (e)) h)
    (other_name w (codes "object") _ _ server m P
    (λ s k h. of_number 10241 32768 (λ n. says.Object n) ws s k (λ n e. cc (e)) h)
    (other_name w (codes "def") _ _ server m P (of_definition ws)
    (other_name w (codes "instance") _ _ server m P (of_instance ws)
    (other_name w (codes "value") _ _ server m P (of_value ws)
    (other_name w (codes "device") _ _ server m P
    (λ s k h. of_number 0 65535 (λ n. says.Device n) ws s k (λ n e. cc (e)) h)
    (other_name w (codes "recv") _ _ server m P (of_recv ws)
    (other_name w (codes "tick") _ _ server m P
    (λ s k h. of_number 1 86400 (λ n. says.Tick n) ws s k (λ n e. cc (e)) h)
    (other_name w (codes "put") _ _ server m P (of_put ws)
    (other_name w (codes "firmware") _ _ server m P
    (λ s k h. of_number 0 9 (λ n. says.Firmware n) ws s k (λ n e. cc (e)) h)
    (other_name w (codes "post") _ _ server m P
    (λ s k h. of_number 0 255 (λ n. says.Post n) ws s k (λ n e. cc (e)) h)
    (other_name w (codes "need") _ _ server m P (of_need ws)
    (by_keyword (keyword_named w) w ws server m)))))))))))))))

some_ok : (r : Result Statement Cause) (s : Statement) → some r ≡ Ok (Some s) → r ≡ Ok s
some_ok (Ok t) s h = cc
some_ok (Err e) s h = cc

pub request_read : (w : List ℕ) (ws : List (List ℕ)) (server : ℕ) (m : Mnemonic)
    → statement_of (w ∷ ws) ≡ Ok (Some (says.Request server m)) → IsRead w ws server m
request_read w ws server m h = by_words w ws server m (some_ok (statement_by w ws) (says.Request server m) h)
