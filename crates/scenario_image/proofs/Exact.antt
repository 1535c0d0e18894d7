-- The layouts of steps and rows are exact.
use Rattle.std.proofs.Common.{◌≡◌, ℕ, zero, suc, ◌<◌, Bool, true, false, List, Option, None, Some, refl, ap, sym, ◌∙◌}
use Rattle.std.proofs.Common.{arith}
use Rattle.std.specs.Prelude.{nat_le, nat_lt, length, ◌==◌, ◌&&◌, ◌||◌}
use Rattle.std.proofs.lemmas.Bool.Decides.{nat_tests}
use Rattle.std.specs.Int.{w8, w16, w32}
use Rattle.std.specs.List.{list_any}
use Rattle.byte_layout.specs.declared.fault.Break.TheVariants.{BadField}
use Rattle.byte_layout.specs.Layout.{number, layout_with_test, at_most, last}
use Rattle.byte_layout.specs.Exact.{IsExact}
use Rattle.byte_layout.proofs.Fields.{byte_exact, short_exact, long_exact}
use Rattle.byte_layout.proofs.Layouts.{fits_exact, at_most_exact, split_exact, last_exact, sized_exact}
use Rattle.byte_layout.proofs.Lists.{counted_exact}
use Rattle.object_defs.specs.Path.{path_to, path_with}
use Rattle.scenario_layout.specs.Value.{path, value}
use Rattle.scenario_layout.proofs.ExactValue.{path_exact, value_exact}
use Rattle.device_template.specs.Template.{Template}
use Rattle.device_machine.specs.declared.event.Event.TheVariants.{Recv, Put, Firmware, Tick}
use Rattle.scenario_image.specs.declared.kind.StepKind.{StepKind}
use Rattle.scenario_image.specs.declared.kind.StepKind.TheVariants as kinds
use Rattle.scenario_image.specs.declared.step.Step.{Step}
use Rattle.scenario_image.specs.declared.step.Step.TheVariants.{Event, Post, Need}
use Rattle.scenario_image.specs.Scenario.{accounts_of, most_rows, most_steps}
use Rattle.scenario_image.specs.Layout.{step_kind, step_kind_number, step_kind_numbered, kind, server_in, datagram_in}
use Rattle.scenario_image.specs.Layout.{seconds_in}
use Rattle.scenario_image.specs.Layout.{path_in, value_in, code_in, group_in, count_in, datagram}
use Rattle.scenario_image.specs.Layout.{recv, tick, put, firmware, post, need, of_kind, step, steps, row_of, row, rows}

abbrev is_number : ℕ → Bool
is_number n = n == 1 || (n == 2 || (n == 3 || (n == 4 || (n == 5 || n == 6))))

neither : (a b : Bool) → a ≡ false → b ≡ false → (a || b) ≡ false
neither true b h g = h
neither false b h g = g

apart : (m k : ℕ) → k < m → (m == k) ≡ false
apart m k lt = grind (arith, nat_tests)

-- no number above 6 is that of a kind
past : (m : ℕ) → 6 < m → is_number m ≡ false
past m lt =
    neither (m == 1) (m == 2 || (m == 3 || (m == 4 || (m == 5 || m == 6)))) (apart m 1 (omega (arith, lt)))
    (neither (m == 2) (m == 3 || (m == 4 || (m == 5 || m == 6))) (apart m 2 (omega (arith, lt)))
    (neither (m == 3) (m == 4 || (m == 5 || m == 6)) (apart m 3 (omega (arith, lt)))
    (neither (m == 4) (m == 5 || m == 6) (apart m 4 (omega (arith, lt)))
    (neither (m == 5) (m == 6) (apart m 5 (omega (arith, lt))) (apart m 6 (omega (arith, lt)))))))

numbered : (n : ℕ) → is_number n ≡ true → step_kind_number (step_kind_numbered n) ≡ n
numbered zero h = absurd cc
numbered (suc zero) h = refl
numbered (suc (suc zero)) h = refl
numbered (suc (suc (suc zero))) h = refl
numbered (suc (suc (suc (suc zero)))) h = refl
numbered (suc (suc (suc (suc (suc zero))))) h = refl
numbered (suc (suc (suc (suc (suc (suc zero)))))) h = refl
numbered (suc (suc (suc (suc (suc (suc (suc n))))))) h =
    absurd (let e : true ≡ false = sym h ∙ past (suc (suc (suc (suc (suc (suc (suc n))))))) (omega arith) in cc)

kind_exact : IsExact kind
unfolding kind
kind_exact = last_exact step_kind_number step_kind_numbered (layout_with_test BadField is_number (number w8))
    (fits_exact is_number (number w8) byte_exact) (λ n good. numbered n good.1)

datagram_exact : IsExact datagram
unfolding datagram
datagram_exact = sized_exact (at_most 1500 (number w16)) (at_most_exact 1500 (number w16) short_exact)

recv_exact : (accounts : List ℕ) → IsExact (recv accounts)
unfolding recv
recv_exact accounts =
    split_exact server_in (layout_with_test BadField (λ server. list_any (λ account. account == server) accounts)
    (number w16))
    (λ server. last datagram_in (λ bytes. Event (Recv server bytes)) datagram)
    (fits_exact (λ server. list_any (λ account. account == server) accounts) (number w16) short_exact)
    (λ server good. last_exact datagram_in (λ bytes. Event (Recv server bytes)) datagram datagram_exact
    (λ bytes ok. refl))
    (λ server good s h. ap server_in h.1)

tick_exact : IsExact tick
unfolding tick
tick_exact =
    last_exact seconds_in (λ seconds. Event (Tick seconds))
    (layout_with_test BadField (λ n. nat_le 1 n && nat_le n 86400) (number w32))
    (fits_exact (λ n. nat_le 1 n && nat_le n 86400) (number w32) long_exact) (λ n ok. refl)

-- the path that is put at is the path that was read
same_path : (o i r : ℕ) (n : Option ℕ) (v : _)
    → path_in (Event (Put (path_with o i r n) v)) ≡ record { object = o; instance = i; resource = r; part = n }
same_path o i r None v = refl
same_path o i r (Some n) v = refl

put_exact : IsExact put
unfolding put
put_exact =
    split_exact path_in path (λ p. last value_in (λ v. Event (Put (path_to p) v)) (value None)) path_exact
    (λ p good. last_exact value_in (λ v. Event (Put (path_to p) v)) (value None) (value_exact None) (λ v ok. refl))
    (λ p good s h. ap path_in h.1 ∙ same_path p.object p.instance p.resource p.part (value_in s))

firmware_exact : IsExact firmware
unfolding firmware
firmware_exact =
    last_exact code_in (λ code. Event (Firmware code)) (layout_with_test BadField (λ n. nat_le n 9) (number w8))
    (fits_exact (λ n. nat_le n 9) (number w8) byte_exact) (λ n ok. refl)

post_exact : IsExact post
unfolding post
post_exact = last_exact group_in (λ group. Post group) (number w8) byte_exact (λ n ok. refl)

need_exact : IsExact need
unfolding need
need_exact =
    split_exact group_in (number w8) (λ group. last count_in (λ count. Need group count)
    (layout_with_test BadField (λ n. nat_le 1 n && nat_le n 1000000) (number w32))) byte_exact
    (λ group good. last_exact count_in (λ count. Need group count)
    (layout_with_test BadField (λ n. nat_le 1 n && nat_le n 1000000) (number w32))
    (fits_exact (λ n. nat_le 1 n && nat_le n 1000000) (number w32) long_exact) (λ n ok. refl))
    (λ group good s h. ap group_in h.1)

of_kind_exact : (accounts : List ℕ) (k : StepKind) → IsExact (of_kind accounts k)
of_kind_exact accounts kinds.Recv = recv_exact accounts
of_kind_exact accounts kinds.Tick = tick_exact
of_kind_exact accounts kinds.Put = put_exact
of_kind_exact accounts kinds.Firmware = firmware_exact
of_kind_exact accounts kinds.Post = post_exact
of_kind_exact accounts kinds.Need = need_exact

kind_agrees : (accounts : List ℕ) (k : StepKind) (s : Step) → (of_kind accounts k).Good s → step_kind s ≡ k
unfolding recv tick put firmware post need
kind_agrees accounts kinds.Recv s h = ap step_kind h.1.1
kind_agrees accounts kinds.Tick s h = ap step_kind h.1
kind_agrees accounts kinds.Put s h = ap step_kind h.1.1
kind_agrees accounts kinds.Firmware s h = ap step_kind h.1
kind_agrees accounts kinds.Post s h = ap step_kind h.1
kind_agrees accounts kinds.Need s h = ap step_kind h.1.1

pub step_exact : (accounts : List ℕ) → IsExact (step accounts)
unfolding step
step_exact accounts =
    split_exact step_kind kind (of_kind accounts) kind_exact (λ k good. of_kind_exact accounts k)
    (λ k good s h. kind_agrees accounts k s h)

pub steps_exact : (accounts : List ℕ) → IsExact (steps accounts)
unfolding steps
steps_exact accounts =
    counted_exact (at_most most_steps (number w16)) (λ before. step accounts)
    (at_most_exact most_steps (number w16) short_exact) (λ before. step_exact accounts)

pub row_exact : (classes : List Template) → IsExact (row classes)
unfolding row
row_exact classes =
    split_exact (λ r. r.class) (layout_with_test BadField (λ class. nat_lt class (length classes)) (number w16))
    (λ class. last (λ r. r.steps) (row_of class) (steps (accounts_of classes class)))
    (fits_exact (λ class. nat_lt class (length classes)) (number w16) short_exact)
    (λ class good. last_exact (λ r. r.steps) (row_of class) (steps (accounts_of classes class))
    (steps_exact (accounts_of classes class)) (λ xs ok. refl))
    (λ class good r h. ap (λ x. x.class) h.1)

pub rows_exact : (classes : List Template) → IsExact (rows classes)
unfolding rows
rows_exact classes =
    counted_exact (at_most most_rows (number w16)) (λ before. row classes)
    (at_most_exact most_rows (number w16) short_exact) (λ before. row_exact classes)
