-- No break of the trace file is a limit's.
use Rattle.std.proofs.Common.{◌≡◌, ℕ, zero, suc, Bool, List, [], ◌∷◌, ◌++◌, length, inl, inr, sym, subst}
use Rattle.std.specs.Prelude.{nat_lt, ◌==◌, ◌||◌}
use Rattle.std.specs.Int.{Width, w8, w16, w32}
use Rattle.byte_layout.specs.declared.fault.Break.{Break}
use Rattle.byte_layout.specs.declared.fault.Break.TheVariants as breaks
use Rattle.byte_layout.specs.declared.fault.LayoutFault.TheVariants as faults
use Rattle.byte_layout.specs.Layout.{Layout, raw, number, layout_with_test, mark, constant_layout, split, last}
use Rattle.byte_layout.specs.Layout.{after_mark, bytes_with_length, head_then_tail, each, list_with_count}
use Rattle.byte_layout.specs.Whole.{HasFault, fault_of_break}
use Rattle.device_machine.specs.declared.output.Output.TheVariants as outputs
use Rattle.trace_file.specs.declared.entry.Entry.{Entry}
use Rattle.trace_file.specs.Layout.{act_number, act_numbered, act, output_kind, server_in, bytes_in, act_in, act_output}
use Rattle.trace_file.specs.Layout.{datagram, of_kind, output, output_list, entry_of, entry, entry_list, trace_file}

-- the break is no limit's
abbrev pub Free : Break → Type 0
Free breaks.Magic = Unit {0}
Free breaks.Version = Unit {0}
Free breaks.Cut = Unit {0}
Free breaks.Trailing = Unit {0}
Free (breaks.BadField left) = Unit {0}
Free (breaks.Limit left) = ⊥

-- nor is any of the part's
abbrev pub IsFree : {A : Type 0} → Layout A → Type 0
IsFree p = (bytes : List ℕ) (b : Break) → p.Breaks bytes b → Free b

is_free : (b c : Break) → b ≡ c → Free c → Free b
is_free b c e free = subst (λ (x : Break). Free x) (sym e) free

raw_free : (n : ℕ) → IsFree (raw n)
unfolding raw
raw_free n bytes b h = is_free b breaks.Cut h.1 tt

number_free : (w : Width) → IsFree (number w)
unfolding number
number_free w bytes b h = is_free b breaks.Cut h.1 tt

judged_free : {A : Type 0} (fault : ℕ → Break) → ((left : ℕ) → Free (fault left)) → (is_good : A → Bool) (p : Layout A)
    → IsFree p → IsFree (layout_with_test fault is_good p)
judged_free fault free is_good p first bytes b h =
    elim h [
      | inl k ↦ first bytes b k
      | inr k ↦ is_free b (fault (length bytes)) k.5 (free (length bytes))
    ]

done_free : {A : Type 0} (a : A) → IsFree (constant_layout a)
done_free a bytes b h = absurd h

split_free : {A B : Type 0} (proj : A → B) (p : Layout B) (q : B → Layout A) → IsFree p → ((x : B) → IsFree (q x))
    → IsFree (split proj p q)
split_free proj p q first second bytes b h =
    elim h [
      | inl k ↦ first bytes b k
      | inr k ↦ second k.0 k.1 b k.4
    ]

last_free : {A B : Type 0} (proj : A → B) (make : B → A) (p : Layout B) → IsFree p → IsFree (last proj make p)
last_free proj make p first = split_free proj p (λ x. constant_layout (make x)) first (λ x. done_free (make x))

linked_free : {A : Type 0} (p : Layout A) (q : A → Layout (List A)) → IsFree p → ((x : A) → IsFree (q x))
    → IsFree (head_then_tail p q)
linked_free p q first second bytes b h =
    elim h [
      | inl k ↦ first bytes b k
      | inr k ↦ second k.0 k.1 b k.4
    ]

each_free : {A : Type 0} (p : Layout A) → IsFree p → (n : ℕ) (before : List A) → IsFree (each (λ xs. p) n before)
unfolding each
each_free {A = A} p free zero before = let none : List A = [] in done_free none
each_free p free (suc n) before =
    linked_free p (λ a. each (λ xs. p) n (before ++ a ∷ [])) free (λ a. each_free p free n (before ++ a ∷ []))

counted_free : {A : Type 0} (p : Layout A) → IsFree p → IsFree (list_with_count (number w32) (λ before. p))
counted_free p free =
    split_free length (number w32) (λ n. each (λ before. p) n []) (number_free w32) (λ n. each_free p free n [])

marked_free : {A : Type 0} (fault : Break) → Free fault → (n : ℕ) (p : Layout ℕ) (q : Layout A) → IsFree p → IsFree q
    → IsFree (after_mark fault n p q)
marked_free fault free n p q first second =
    split_free (λ a. n) (mark fault n p) (λ m. q) (judged_free (λ left. fault) (λ left. free) (λ m. m == n) p first)
    (λ m. second)

act_free : IsFree act
unfolding act
act_free = last_free act_number act_numbered (layout_with_test breaks.BadField (λ n. nat_lt n 5) (number w8))
    (judged_free breaks.BadField (λ left. tt) (λ n. nat_lt n 5) (number w8) (number_free w8))

datagram_free : IsFree datagram
unfolding datagram
datagram_free =
    split_free server_in (number w16) (λ server. last bytes_in (λ bytes. outputs.Send server bytes)
    (bytes_with_length (number w16))) (number_free w16)
    (λ server. last_free bytes_in (λ bytes. outputs.Send server bytes) (bytes_with_length (number w16))
    (split_free length (number w16) raw (number_free w16) raw_free))

acted_free : IsFree act_output
acted_free = last_free act_in (λ a. outputs.Act a) act act_free

of_kind_free : (k : ℕ) → IsFree (of_kind k)
of_kind_free zero = acted_free
of_kind_free (suc zero) = datagram_free
of_kind_free (suc (suc n)) = acted_free

output_free : IsFree output
unfolding output
output_free =
    split_free output_kind (layout_with_test breaks.BadField (λ n. n == 1 || n == 2) (number w8)) of_kind
    (judged_free breaks.BadField (λ left. tt) (λ n. n == 1 || n == 2) (number w8) (number_free w8)) of_kind_free

output_list_free : IsFree output_list
unfolding output_list
output_list_free = counted_free output output_free

-- what stands after a worker's number, and after a device's
abbrev behind_device : ℕ → ℕ → Layout Entry
behind_device w d = split (λ e. e.step) (number w32) (λ s. last (λ e. e.outputs) (entry_of w d s) output_list)

abbrev behind_worker : ℕ → Layout Entry
behind_worker w = split (λ e. e.device) (number w16) (behind_device w)

behind_device_free : (w d : ℕ) → IsFree (behind_device w d)
behind_device_free w d =
    split_free (λ e. e.step) (number w32) (λ s. last (λ e. e.outputs) (entry_of w d s) output_list) (number_free w32)
    (λ s. last_free (λ e. e.outputs) (entry_of w d s) output_list output_list_free)

entry_free : IsFree entry
unfolding entry
entry_free =
    split_free (λ e. e.worker) (number w16) behind_worker (number_free w16)
    (λ w. split_free (λ e. e.device) (number w16) (behind_device w) (number_free w16) (behind_device_free w))

entry_list_free : IsFree entry_list
unfolding entry_list
entry_list_free = counted_free entry entry_free

trace_file_free : IsFree trace_file
unfolding trace_file
trace_file_free =
    marked_free breaks.Magic tt 0x4C575452 (number w32) (after_mark breaks.Version 1 (number w8) entry_list)
    (number_free w32)
    (marked_free breaks.Version tt 1 (number w8) entry_list (number_free w8) entry_list_free)

-- a break that is no limit's is placed as none
not_placed : (total place : ℕ) (b : Break) → Free b → faults.Limit place ≡ fault_of_break total b → ⊥
not_placed total place breaks.Magic free e = cc
not_placed total place breaks.Version free e = cc
not_placed total place breaks.Cut free e = cc
not_placed total place breaks.Trailing free e = cc
not_placed total place (breaks.BadField left) free e = cc
not_placed total place (breaks.Limit left) free e = absurd free

pub no_limit : (bytes : List ℕ) (place : ℕ) → HasFault trace_file bytes (faults.Limit place) → ⊥
no_limit bytes place h =
    elim h.1 [
      | inl k ↦ not_placed (length bytes) place h.0 (trace_file_free bytes h.0 k) h.2
      | inr k ↦ not_placed (length bytes) place h.0 (is_free h.0 breaks.Trailing k.5 tt) h.2
    ]
