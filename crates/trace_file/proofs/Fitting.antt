-- What fits has a trace file, and nothing else.
use Rattle.std.proofs.Common.{◌≡◌, ℕ, suc, ◌<◌, List, [], ◌∷◌, ◌++◌, length, Some, refl}
use Rattle.std.specs.List.{slice_get}
use Rattle.std.specs.Int.{w16, w32}
use Rattle.byte_layout.specs.Layout.{Layout, number, each, list_with_count}
use Rattle.byte_layout.proofs.Fields.{number_good, number_below}
use Rattle.byte_layout.proofs.Lists.{each_at}
use Rattle.device_machine.specs.declared.output.Output.{Output}
use Rattle.device_machine.specs.declared.output.Output.TheVariants as outputs
use Rattle.trace_file.specs.declared.entry.Entry.{Entry}
use Rattle.trace_file.specs.Layout.{output, datagram, output_list, entry, entry_list, trace_file}
use Rattle.trace_file.specs.Fits.{FitsOutput, FitsEntry}
use Rattle.trace_file.proofs.Good.{acted_good, sent_good, sent_short, entry_good, file_good, list_good}

each_good : {A : Type 0} (p : Layout A) (before xs : List A) → ((i : ℕ) (x : A) → slice_get xs i ≡ Some x → p.Good x)
    → (each (λ b. p) (length xs) before).Good xs
unfolding each
each_good p before [] h = refl
each_good p before (y ∷ ys) h = (h 0 y refl, each_good p (before ++ y ∷ []) ys (λ i x at. h (suc i) x at))

counted_good : {A : Type 0} (p : Layout A) (xs : List A) → length xs < 4294967296
    → ((i : ℕ) (x : A) → slice_get xs i ≡ Some x → p.Good x) → (list_with_count (number w32) (λ b. p)).Good xs
counted_good p xs short h = (number_good w32 (length xs) short, each_good p [] xs h)

counted_at : {A : Type 0} (p : Layout A) (xs : List A) → (list_with_count (number w32) (λ b. p)).Good xs
    → (i : ℕ) (x : A)
    → slice_get xs i ≡ Some x → p.Good x
counted_at p xs good i x at = each_at (λ b. p) (length xs) [] xs good.1 i x at

output_good : (o : Output) → FitsOutput o → output.Good o
output_good (outputs.Send server bytes) fits = sent_good server bytes fits.0 fits.1
output_good (outputs.Act a) fits = acted_good a

server_below : (server : ℕ) (bytes : List ℕ) → output.Good (outputs.Send server bytes) → server < 65536
unfolding output datagram
server_below server bytes good = number_below w16 server good.1.0

output_fits : (o : Output) → output.Good o → FitsOutput o
output_fits (outputs.Send server bytes) good = (server_below server bytes good, sent_short server bytes good)
output_fits (outputs.Act a) good = tt

fits_entry : (e : Entry) → FitsEntry e → entry.Good e
unfolding output_list
fits_entry e fits =
    entry_good e fits.worker fits.device fits.step
    (counted_good output e.outputs fits.count (λ i o at. output_good o (fits.outputs i o at)))

entry_fits : (e : Entry) → entry.Good e → FitsEntry e
unfolding entry output_list
entry_fits e good = record {
  worker = number_below w16 e.worker good.0;
  device = number_below w16 e.device good.1.0;
  step = number_below w32 e.step good.1.1.0;
  count = number_below w32 (length e.outputs) good.1.1.1.0.0;
  outputs = λ i o at. output_fits o (counted_at output e.outputs good.1.1.1.0 i o at);
}

pub good_fits : (es : List Entry) → trace_file.Good es → (length es < 4294967296)
    × ((i : ℕ) (e : Entry) → slice_get es i ≡ Some e → FitsEntry e)
unfolding entry_list
good_fits es good =
    let list = list_good es good in
    (number_below w32 (length es) list.0, λ i e at. entry_fits e (counted_at entry es list i e at))

pub fits_good : (es : List Entry) → length es < 4294967296
    → ((i : ℕ) (e : Entry) → slice_get es i ≡ Some e → FitsEntry e) → trace_file.Good es
unfolding entry_list
fits_good es short fits = file_good es (counted_good entry es short (λ i e at. fits_entry e (fits i e at)))
