-- The front of a trace file: what breaks off there breaks off the file.
use Rattle.std.proofs.Common.{◌≡◌, ◌≢◌, ◌<◌, ◌≤◌, ◌+◌, ℕ, zero, suc, List, [], ◌∷◌, take, drop, length, Result, Ok, Err}
use Rattle.std.proofs.Common.{refl, sym, ap, subst, ◌∙◌, eqb, inl, inr, if◌then◌else◌, arith, ltb, lt-ltb, ltb-true}
use Rattle.std.proofs.Common.{length-drop}
use Rattle.std.specs.Int.{Width, w8, w16, w32, byte_len, from_be_bytes}
use Rattle.std.proofs.lemmas.Bool.{cases_lt, le-ltb, ne_eqb}
use Rattle.byte_layout.specs.declared.fault.Break.{Break}
use Rattle.byte_layout.specs.declared.fault.Break.TheVariants.{Magic, Version, Cut, Trailing}
use Rattle.byte_layout.specs.declared.fault.ReadError.{ReadError}
use Rattle.byte_layout.specs.declared.fault.ReadError.TheVariants as errors
use Rattle.byte_layout.specs.Layout.{Layout, ◌>>=◌, raw, number, mark, after_mark, split, last, each}
use Rattle.byte_layout.specs.Outcome.{Fails}
use Rattle.byte_layout.specs.Exact.{IsExact}
use Rattle.byte_layout.specs.Whole.{fault_of_break, fault_of, read_all}
use Rattle.byte_layout.proofs.Steps.{went_well, bind_err, barred_err}
use Rattle.byte_layout.proofs.Fields.{raw_exact, number_exact, wide8, wide32}
use Rattle.byte_layout.proofs.Layouts.{split_exact, last_exact, marked_exact}
use Rattle.trace_file.specs.declared.entry.Entry.{Entry}
use Rattle.trace_file.specs.Layout.{output, output_list, entry, entry_of, entry_list, after_header, trace_file}
use Rattle.trace_file.specs.Layout.{numbers_of, first_numbers, front}

-- a break of the mark, of the version or of the part is one of each part that has its breaks
headed_off : {A B : Type 0} (p : Layout A) (q : Layout B) (bytes : List ℕ) (b : Break)
    → ((rest : List ℕ) → p.read rest ≡ Err b → q.read rest ≡ Err b) → (after_header p).read bytes ≡ Err b
    → (after_header q).read bytes ≡ Err b
headed_off p q bytes b within e =
    let first = mark Magic 0x4C575452 (number w32) in
    let second = mark Version 1 (number w8) in
    let other = λ (x : ℕ × List ℕ). second.read x.1 >>= (λ y. q.read y.1) in
    elim (bind_err (first.read bytes) (λ x. second.read x.1 >>= (λ y. p.read y.1)) b e) [
      | inl h ↦ ap (λ r. r >>= other) h
      | inr s ↦
          elim (bind_err (second.read s.0.1) (λ y. p.read y.1) b s.2) [
            | inl h ↦ ap (λ r. r >>= other) s.1 ∙ ap (λ r. r >>= (λ y. q.read y.1)) h
            | inr t ↦ ap (λ r. r >>= other) s.1 ∙ ap (λ r. r >>= (λ y. q.read y.1)) t.1 ∙ within t.0.1 t.2
          ]
    ]

-- ---- an entry of which too few bytes are there for its numbers

number_cut : (w : Width) (bytes : List ℕ) → length bytes < byte_len w → (number w).read bytes ≡ Err Cut
unfolding number
number_cut w bytes short = rw (lt-ltb (length bytes) (byte_len w) short) refl

number_there : (w : Width) (bytes : List ℕ) → byte_len w ≤ length bytes
    → (number w).read bytes ≡ Ok (from_be_bytes w (take (byte_len w) bytes), drop (byte_len w) bytes)
unfolding number
number_there w bytes long = rw (le-ltb (length bytes) (byte_len w) long) refl

split_cut : {A : Type 0} (proj : A → ℕ) (w : Width) (q : ℕ → Layout A) (more : ℕ) (bytes : List ℕ)
    → ((n : ℕ) (rest : List ℕ) → length rest < more → (q n).read rest ≡ Err Cut) → length bytes < byte_len w + more
    → (split proj (number w) q).read bytes ≡ Err Cut
split_cut proj w q more bytes behind short =
    let after = λ (x : ℕ × List ℕ). (q x.0).read x.1 in
    elim (cases_lt (length bytes) (byte_len w)) [
      | inl lt ↦ ap (λ r. r >>= after) (number_cut w bytes lt)
      | inr le ↦ ap (λ r. r >>= after) (number_there w bytes le)
          ∙ behind _ _ (omega (arith, length-drop (byte_len w) bytes))
    ]

outputs_cut : (bytes : List ℕ) → length bytes < 4 → output_list.read bytes ≡ Err Cut
unfolding output_list
outputs_cut bytes short =
    split_cut length w32 (λ n. each (λ before. output) n []) 0 bytes (λ n rest none. absurd (omega arith)) short

entry_cut : (bytes : List ℕ) → length bytes < 12 → entry.read bytes ≡ Err Cut
unfolding entry
entry_cut bytes short =
    split_cut (λ e. e.worker) w16 (λ w. split (λ e. e.device) (number w16)
    (λ d. split (λ e. e.step) (number w32) (λ s. last (λ e. e.outputs) (entry_of w d s) output_list))) 10 bytes
    (λ w r h. split_cut (λ e. e.device) w16 (λ d. split (λ e. e.step) (number w32)
    (λ s. last (λ e. e.outputs) (entry_of w d s) output_list)) 8 r
    (λ d t k. split_cut (λ e. e.step) w32 (λ s. last (λ e. e.outputs) (entry_of w d s) output_list) 4 t
    (λ s u m. ap (λ r. r >>= (λ x. Ok (entry_of w d s x.0, x.1))) (outputs_cut u m)) k) h) short

-- where an entry is claimed, and too few bytes are there for its numbers
entries_cut : (n : ℕ) (bytes : List ℕ) (b : Break) → (numbers_of n).read bytes ≡ Err b
    → (each (λ before. entry) n []).read bytes ≡ Err b
unfolding raw each
entries_cut zero bytes b e =
    let s = barred_err (ltb (length bytes) 0) Cut b (take 0 bytes, drop 0 bytes) e in
    let below : length bytes < 0 = ltb-true (length bytes) 0 s.0 in
    absurd (omega arith)
entries_cut (suc n) bytes b e =
    let size : (if eqb (suc n) 0 then 0 else 12) ≡ 12 =
    ap (λ t. if t then 0 else 12) (ne_eqb (suc n) 0 (omega arith)) in
    let s = barred_err (ltb (length bytes) 12) Cut b (take 12 bytes, drop 12 bytes)
    (subst (λ k. (raw k).read bytes ≡ Err b) size e) in
    ap (λ r. r >>= (λ x. (each (λ before. entry) n (x.0 ∷ [])).read x.1 >>= (λ xs. Ok (x.0 ∷ xs.0, xs.1))))
    (entry_cut bytes (ltb-true (length bytes) 12 s.0))
    ∙ ap (λ c. Err c) (sym s.1)

entries_off : (bytes : List ℕ) (b : Break) → first_numbers.read bytes ≡ Err b → entry_list.read bytes ≡ Err b
unfolding entry_list
entries_off bytes b e =
    let after = λ (x : ℕ × List ℕ). (each (λ before. entry) x.0 []).read x.1 in
    elim (bind_err ((number w32).read bytes) (λ x. (numbers_of x.0).read x.1 >>= (λ y. Ok ((x.0, y.0), y.1))) b e) [
      | inl h ↦ ap (λ r. r >>= after) h
      | inr s ↦
          ap (λ r. r >>= after) s.1
          ∙ elim (bind_err ((numbers_of s.0.0).read s.0.1) (λ y. Ok ((s.0.0, y.0), y.1)) b s.2) [
            | inl h ↦ entries_cut s.0.0 s.0.1 b h
            | inr t ↦ absurd (went_well ((s.0.0, t.0.0), t.0.1) b t.2)
          ]
    ]

file_off : (bytes : List ℕ) (b : Break) → front.read bytes ≡ Err b → trace_file.read bytes ≡ Err b
unfolding trace_file front
file_off bytes b e = headed_off first_numbers entry_list bytes b (λ rest h. entries_off rest b h) e

first_numbers_exact : IsExact first_numbers
first_numbers_exact =
    split_exact (λ x. x.0) (number w32) (λ count. last (λ x. x.1) (λ bytes. (count, bytes)) (numbers_of count))
    (number_exact w32 wide32)
    (λ count good. last_exact (λ x. x.1) (λ bytes. (count, bytes)) (numbers_of count)
    (raw_exact (if eqb count 0 then 0 else 12)) (λ bytes ok. refl))
    (λ count good x h. ap (λ y. y.0) h.1)

front_exact : IsExact front
unfolding front
front_exact =
    marked_exact Magic refl 0x4C575452 (number w32) (after_mark Version 1 (number w8) first_numbers)
    (number_exact w32 wide32)
    (marked_exact Version refl 1 (number w8) first_numbers (number_exact w8 wide8) first_numbers_exact)

-- what ends the reading of the front ends that of the file
pub front_fails : (bytes : List ℕ) (e : ReadError) → Fails e (front.read bytes) → Fails e (read_all trace_file bytes)
front_fails bytes errors.Memory h = tt
front_fails bytes (errors.Fault b) h =
    let ended : List Entry × List ℕ → Result (List Entry) Break =
    λ x. if eqb (length x.1) 0 then Ok x.0 else Err Trailing in
    ap (λ r. r >>= ended) (file_off bytes b h)

-- it is the break of the front, unless memory ran out
pub front_broke : (bytes : List ℕ) (total : ℕ) (e : ReadError) (b : Break) → e ≢ errors.Memory
    → Fails e (front.read bytes) → front.Breaks bytes b → fault_of total e ≡ fault_of_break total b
front_broke bytes total errors.Memory b other h k = absurd (other refl)
front_broke bytes total (errors.Fault c) b other h k = let e =
    front_exact.refused bytes b k in ap (fault_of_break total) cc

-- a front that is read does not break off
pub front_whole : (bytes rest : List ℕ) (x : ℕ × List ℕ) (b : Break) → front.read bytes ≡ Ok (x, rest)
    → front.Breaks bytes b → ⊥
front_whole bytes rest x b e k = went_well (x, rest) b (sym e ∙ front_exact.refused bytes b k)
