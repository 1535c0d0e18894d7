-- The layout of the trace file is exact.
use Rattle.std.proofs.Common.{◌≡◌, ℕ, zero, suc, ◌<◌, true, false, refl, ap, sym, ◌∙◌, arith}
use Rattle.std.specs.Prelude.{nat_lt, ◌==◌, ◌||◌}
use Rattle.std.specs.Int.{w8, w16, w32}
use Rattle.std.proofs.lemmas.Bool.{ltb-true}
use Rattle.std.proofs.lemmas.Bool.Decides.{nat_tests}
use Rattle.byte_layout.specs.declared.fault.Break.TheVariants.{Magic, Version, BadField}
use Rattle.byte_layout.specs.Layout.{Layout, number, layout_with_test, split, last, after_mark, bytes_with_length}
use Rattle.byte_layout.specs.Exact.{IsExact}
use Rattle.byte_layout.proofs.Fields.{byte_exact, short_exact, long_exact}
use Rattle.byte_layout.proofs.Layouts.{fits_exact, split_exact, last_exact, sized_exact, marked_exact}
use Rattle.byte_layout.proofs.Lists.{counted_exact}
use Rattle.device_machine.specs.declared.output.Output.{Output}
use Rattle.device_machine.specs.declared.output.Output.TheVariants as outputs
use Rattle.trace_file.specs.declared.entry.Entry.{Entry}
use Rattle.trace_file.specs.Layout.{act_number, act_numbered, act, output_kind, server_in, bytes_in, act_in, act_output}
use Rattle.trace_file.specs.Layout.{datagram, of_kind, output, output_list, entry_of, entry, entry_list, trace_file}

numbered : (n : ℕ) → n < 5 → act_number (act_numbered n) ≡ n
numbered zero below = refl
numbered (suc zero) below = refl
numbered (suc (suc zero)) below = refl
numbered (suc (suc (suc zero))) below = refl
numbered (suc (suc (suc (suc zero)))) below = refl
numbered (suc (suc (suc (suc (suc n))))) below = absurd (omega arith)

act_exact : IsExact act
unfolding act
act_exact =
    last_exact act_number act_numbered (layout_with_test BadField (λ n. nat_lt n 5) (number w8))
    (fits_exact (λ n. nat_lt n 5) (number w8) byte_exact)
    (λ n good. numbered n (ltb-true n 5 good.1))

datagram_exact : IsExact datagram
unfolding datagram
datagram_exact =
    split_exact server_in (number w16) (λ server. last bytes_in (λ bytes. outputs.Send server bytes)
    (bytes_with_length (number w16))) short_exact
    (λ server good. last_exact bytes_in (λ bytes. outputs.Send server bytes) (bytes_with_length (number w16))
    (sized_exact (number w16) short_exact) (λ bytes ok. refl))
    (λ server good o h. ap server_in h.1)

acted_exact : IsExact act_output
acted_exact = last_exact act_in (λ a. outputs.Act a) act act_exact (λ a ok. refl)

of_kind_exact : (k : ℕ) → IsExact (of_kind k)
of_kind_exact zero = acted_exact
of_kind_exact (suc zero) = datagram_exact
of_kind_exact (suc (suc n)) = acted_exact

-- no number above 2 is that of a kind
past : (n : ℕ) → (suc (suc (suc n)) == 1 || suc (suc (suc n)) == 2) ≡ false
past n = grind (arith, nat_tests)

kind_agrees : (k : ℕ) → (k == 1 || k == 2) ≡ true → (o : Output) → (of_kind k).Good o → output_kind o ≡ k
unfolding datagram
kind_agrees zero known o h = absurd cc
kind_agrees (suc zero) known o h = ap output_kind h.1.1
kind_agrees (suc (suc zero)) known o h = ap output_kind h.1
kind_agrees (suc (suc (suc n))) known o h = absurd (let e : true ≡ false = sym known ∙ past n in cc)

pub output_exact : IsExact output
unfolding output
output_exact =
    split_exact output_kind (layout_with_test BadField (λ n. n == 1 || n == 2) (number w8)) of_kind
    (fits_exact (λ n. n == 1 || n == 2) (number w8) byte_exact)
    (λ k good. of_kind_exact k)
    (λ k good o h. kind_agrees k good.1 o h)

pub output_list_exact : IsExact output_list
unfolding output_list
output_list_exact = counted_exact (number w32) (λ before. output) long_exact (λ before. output_exact)

-- what stands after a worker's number, and after a device's
abbrev behind_device : ℕ → ℕ → Layout Entry
behind_device w d = split (λ e. e.step) (number w32) (λ s. last (λ e. e.outputs) (entry_of w d s) output_list)

abbrev behind_worker : ℕ → Layout Entry
behind_worker w = split (λ e. e.device) (number w16) (behind_device w)

behind_device_exact : (w d : ℕ) → IsExact (behind_device w d)
behind_device_exact w d =
    split_exact (λ e. e.step) (number w32) (λ s. last (λ e. e.outputs) (entry_of w d s) output_list) long_exact
    (λ s good. last_exact (λ e. e.outputs) (entry_of w d s) output_list output_list_exact (λ os ok. refl))
    (λ s good e h. ap (λ x. x.step) h.1)

behind_worker_exact : (w : ℕ) → IsExact (behind_worker w)
behind_worker_exact w =
    split_exact (λ e. e.device) (number w16) (behind_device w) short_exact (λ d good. behind_device_exact w d)
    (λ d good e h. ap (λ x. x.device) h.1.1)

pub entry_exact : IsExact entry
unfolding entry
entry_exact = split_exact (λ e. e.worker) (number w16) behind_worker short_exact (λ w good. behind_worker_exact w)
    (λ w good e h. ap (λ x. x.worker) h.1.1.1)

entry_list_exact : IsExact entry_list
unfolding entry_list
entry_list_exact = counted_exact (number w32) (λ before. entry) long_exact (λ before. entry_exact)

pub trace_file_exact : IsExact trace_file
unfolding trace_file
trace_file_exact =
    marked_exact Magic refl 0x4C575452 (number w32) (after_mark Version 1 (number w8) entry_list) long_exact
    (marked_exact Version refl 1 (number w8) entry_list byte_exact entry_list_exact)
