-- The periods of an observation.
use Rattle.std.proofs.Common.{◌≡◌, ◌⊎◌, inl, inr, ◌↔◌, ℕ, ◌<◌, ℤ, pos, negsuc, Bool, true, false, cond, Option}
use Rattle.std.proofs.Common.{None, Some, refl, sym, ap, ◌∙◌, arith, eq-eqb}
use Rattle.std.proofs.lemmas.Bool.{cases_order, eqb-true, false≢true, lt-ltb, ltb-true}
use Rattle.std.specs.Prelude.{nat_lt, option_and_then}
use Rattle.std.specs.Option.{option_or, unwrap_or}
use Rattle.lemmas.proofs.Options.{option_and_then_parts}
use Rattle.lwm2m_values.specs.Value.{is_integer}
use Rattle.lwm2m_values.specs.declared.value.Value.{Value}
use Rattle.lwm2m_values.specs.declared.value.Value.TheVariants.{Text, Whole, Flag, Opaque, Moment, Link}
use Rattle.object_defs.specs.declared.path.Path.{Path}
use Rattle.instance_store.specs.Stored.{Stored, has_instance, value_at}
use Rattle.notifier.specs.Attributes.{effective}
use Rattle.notifier.specs.declared.attribute.Name.{Name}
use Rattle.notifier.specs.declared.attribute.Name.TheVariants.{Pmin, Pmax}
use Rattle.device_requests.specs.Client.{Client}
use Rattle.device_notifications.specs.Period.{account_of, default_period, is_account, period_of, pmax_of, pmin_of}
use Rattle.device_notifications.specs.Period.{seconds_in}
use Rattle.device_notifications.specs.Report.{number_in}
use Rattle.laws_tables.specs.Periods.{HasMinimum, IsAccount, IsOfServer, IsPeriod, IsSeconds, SaysNumber}
use Rattle.laws_tables.specs.Periods.{SetByAttribute, SetByServer, server_path}
use Rattle.laws_tables.proofs.Lowest.{first_is, none_is}

-- ---- seconds

seconds_cond : (n m : ℕ) (b : Bool) → nat_lt n 2147483648 ≡ b → cond b (Some n) None ≡ Some m → (n ≡ m)
    × (n < 2147483648)
seconds_cond n m true e h = (cc, ltb-true n 2147483648 e)
seconds_cond n m false e h = cc

seconds_said : (z : ℤ) (n : ℕ) → seconds_in z ≡ Some n → IsSeconds z n
seconds_said (pos m) n h =
    let p = seconds_cond m n (nat_lt m 2147483648) refl h in (ap pos p.0, omega (arith, p.0, p.1))
seconds_said (negsuc m) n h = cc

seconds_are : (z : ℤ) (n : ℕ) → IsSeconds z n → seconds_in z ≡ Some n
seconds_are z n p =
    ap seconds_in p.0 ∙ ap (λ b. cond b (Some n) None) (lt-ltb n 2147483648 (omega (arith, p.1)))

-- ---- numbers in values

says : (stored : Stored) (x resource : ℕ) (z : ℤ) (v : Option Value)
    → value_at stored (server_path x resource) ≡ v → number_in v ≡ Some z → SaysNumber stored x resource z
says stored x resource z None e h = cc
says stored x resource z (Some (Text t)) e h = cc
says stored x resource z (Some (Whole y)) e h = inl (e ∙ ap (λ (n : Option ℤ). back n) h)
  where
    back : Option ℤ → Option Value
    back None = None
    back (Some n) = Some (Whole n)
says stored x resource z (Some (Flag b)) e h = cc
says stored x resource z (Some (Opaque b)) e h = cc
says stored x resource z (Some (Moment y)) e h = inr (e ∙ ap (λ (n : Option ℤ). back n) h)
  where
    back : Option ℤ → Option Value
    back None = None
    back (Some n) = Some (Moment n)
says stored x resource z (Some (Link o i)) e h = cc

said : (stored : Stored) (x resource : ℕ) (z : ℤ) → SaysNumber stored x resource z
    → number_in (value_at stored (server_path x resource)) ≡ Some z
said stored x resource z (inl h) = ap number_in h
said stored x resource z (inr h) = ap number_in h

-- ---- which instance of Server

integer : (n : ℕ) (z : Option ℤ) → is_integer n z ≡ true → z ≡ Some (pos n)
integer n None h = cc
integer n (Some (pos m)) h = ap (λ k. Some (pos k)) (eqb-true m n h)
integer n (Some (negsuc m)) h = cc

of_server : (stored : Stored) (server x : ℕ) → has_instance stored (record { object = 1; instance = x }) ≡ true
    → is_account stored server x ≡ true → IsOfServer stored server x
of_server stored server x there h =
    record {
      there = there;
      id = says stored x 0 (pos server) (value_at stored (server_path x 0)) refl
          (integer server (number_in (value_at stored (server_path x 0))) h);
    }

is_of : (stored : Stored) (server x : ℕ) → IsOfServer stored server x → is_account stored server x ≡ true
is_of stored server x h = ap (is_integer server) (said stored x 0 (pos server) h.id) ∙ eq-eqb server server refl

account : (stored : Stored) (server x : ℕ) → account_of stored server ≡ Some x → IsAccount stored server x
account stored server x h =
    let low = first_is stored 1 (λ k. is_account stored server k) x h in
    record {
      of_server = of_server stored server x low.there low.passes;
      lowest = λ k l is. false≢true (sym (low.lowest k l is.there) ∙ is_of stored server k is);
    }

one : (stored : Stored) (server x y : ℕ) → IsAccount stored server x → IsAccount stored server y → x ≡ y
one stored server x y a b = by (cases_order x y)
  where
    by : (x ≡ y) ⊎ ((x < y) ⊎ (y < x)) → x ≡ y
    by (inl e) = e
    by (inr (inl l)) = absurd (b.lowest x l a.of_server)
    by (inr (inr l)) = absurd (a.lowest y l b.of_server)

found : (stored : Stored) (server x : ℕ) (r : Option ℕ) → account_of stored server ≡ r → IsAccount stored server x
    → r ≡ Some x
found stored server x (Some y) e is = ap Some (one stored server y x (account stored server y e) is)
found stored server x None e is =
    absurd (false≢true (sym (none_is stored 1 (λ k. is_account stored server k) e x is.of_server.there)
    ∙ is_of stored server x is.of_server))

-- ---- the default

by_server : (stored : Stored) (server resource n : ℕ) → default_period stored server resource ≡ Some n
    → SetByServer stored server resource n
by_server stored server resource n h =
    let p = option_and_then_parts (λ x.
    option_and_then seconds_in (number_in (value_at stored (server_path x resource))))
    (account_of stored server) n h in
    let q = option_and_then_parts seconds_in (number_in (value_at stored (server_path p.0 resource))) n p.2 in (
      p.0,
      account stored server p.0 p.1,
      (q.0, says stored p.0 resource q.0 (value_at stored (server_path p.0 resource)) refl q.1, seconds_said q.0 n q.2),
    )

server_sets : (stored : Stored) (server resource n : ℕ) → SetByServer stored server resource n
    → default_period stored server resource ≡ Some n
server_sets stored server resource n p =
    ap (option_and_then (λ x. option_and_then seconds_in (number_in (value_at stored (server_path x resource)))))
    (found stored server p.0 (account_of stored server) refl p.1)
    ∙ ap (option_and_then seconds_in) (said stored p.0 resource p.2.0 p.2.1)
    ∙ seconds_are p.2.0 n p.2.2

-- ---- the attribute

by_attribute : (client : Client) (server : ℕ) (path : Path) (name : Name) (n : ℕ)
    → option_and_then seconds_in (effective client.attributes server path name) ≡ Some n
    → SetByAttribute client server path name n
by_attribute client server path name n h =
    let p = option_and_then_parts seconds_in (effective client.attributes server path name) n h in
    (p.0, p.1, seconds_said p.0 n p.2)

attribute_sets : (client : Client) (server : ℕ) (path : Path) (name : Name) (n : ℕ)
    → SetByAttribute client server path name n
    → option_and_then seconds_in (effective client.attributes server path name) ≡ Some n
attribute_sets client server path name n p = ap (option_and_then seconds_in) p.1 ∙ seconds_are p.0 n p.2

-- ---- periods

module _ (client : Client) (server : ℕ) (path : Path) (name : Name) (resource : ℕ) where
  split : (a : Option ℕ) (n : ℕ) → option_and_then seconds_in (effective client.attributes server path name) ≡ a
      → option_or a (default_period client.store server resource) ≡ Some n
      → IsPeriod client server path name resource n
  split (Some m) n e h = inl (by_attribute client server path name n (e ∙ h))
  split None n e h =
      inr (
        (λ m p. nothing m (sym e ∙ attribute_sets client server path name m p)),
        by_server client.store server resource n h,
      )
    where
      nothing : (m : ℕ) → None ≡ Some m → ⊥
      nothing m k = cc

  is_period : (n : ℕ) → period_of client server path name resource ≡ Some n
      → IsPeriod client server path name resource n
  is_period n h = split (option_and_then seconds_in (effective client.attributes server path name)) n refl h

  unset : (a : Option ℕ) → option_and_then seconds_in (effective client.attributes server path name) ≡ a
      → ((m : ℕ) → ¬ (SetByAttribute client server path name m)) → a ≡ None
  unset None e h = refl
  unset (Some m) e h = absurd (h m (by_attribute client server path name m e))

  period_is : (n : ℕ) → IsPeriod client server path name resource n
      → period_of client server path name resource ≡ Some n
  period_is n (inl p) =
      ap (λ a. option_or a (default_period client.store server resource))
      (attribute_sets client server path name n p)
  period_is n (inr p) =
      ap (λ a. option_or a (default_period client.store server resource)) (unset _ refl p.0)
      ∙ server_sets client.store server resource n p.1

  no_period : (r : Option ℕ) → period_of client server path name resource ≡ r
      → ((n : ℕ) → ¬ (IsPeriod client server path name resource n)) → r ≡ None
  no_period None e h = refl
  no_period (Some n) e h = absurd (h n (is_period n e))

  never_period : period_of client server path name resource ≡ None → (n : ℕ)
      → ¬ (IsPeriod client server path name resource n)
  never_period e n p = nothing (sym e ∙ period_is n p)
    where
      nothing : None ≡ Some n → ⊥
      nothing k = cc

pub minimums_set : (client : Client) (server : ℕ) (path : Path)
    → HasMinimum client server path (pmin_of client server path)
minimums_set client server path =
    record {
      set = λ n p. ap (λ r. unwrap_or r 0) (period_is client server path Pmin 2 n p);
      none_set = λ h. ap (λ r. unwrap_or r 0) (no_period client server path Pmin 2 _ refl h);
    }

pub maximums_set : (client : Client) (server : ℕ) (path : Path)
    → ((n : ℕ) → (pmax_of client server path ≡ Some n) ↔ IsPeriod client server path Pmax 3 n)
    × ((pmax_of client server path ≡ None) ↔ ((n : ℕ) → ¬ (IsPeriod client server path Pmax 3 n)))
maximums_set client server path = (
  (λ n. (is_period client server path Pmax 3 n, period_is client server path Pmax 3 n)),
  (never_period client server path Pmax 3, no_period client server path Pmax 3 _ refl),
)
