-- How many packets there are: one for each datagram.
use Rattle.std.proofs.Common.{◌≡◌, ◌<◌, ◌≤◌, ℕ, ◌+◌, suc, List, [], ◌∷◌, length, take, get_or, refl, sym, ap, ◌∙◌}
use Rattle.std.proofs.Common.{arith}
use Rattle.std.specs.List.{flat_map}
use Rattle.std.proofs.lemmas.List.{take_all}
use Rattle.std.proofs.lemmas.List.Concat.{length-flat_map}
use Rattle.std.proofs.lemmas.List.Sums.{sum_by_more}
use Rattle.scenario_image.specs.Scenario.{Scenario}
use Rattle.trace_file.specs.declared.entry.Entry.{Entry}
use Rattle.trace_pcap.specs.Packets.{packets_from, trace_packets}
use Rattle.trace_pcap.specs.Transmissions.{Transmission, transmissions}

-- what the items so far give, with one more item
pub one_more : {X Y : Type 0} (f : X → List Y) (xs : List X) (i : ℕ) (x : X) (n more : ℕ) → i < length xs
    → x ≡ get_or xs i x → n ≡ length (flat_map f (take i xs)) → more ≡ length (f x)
    → n + more ≡ length (flat_map f (take (i + 1) xs))
one_more f xs i x n more within is so_far gives =
    let same : length (f x) ≡ length (f (get_or xs i x)) = ap (λ y. length (f y)) is in
    omega (
      arith,
      so_far,
      gives,
      same,
      length-flat_map f (take i xs),
      length-flat_map f (take (i + 1) xs),
      sum_by_more (λ y. length (f y)) xs i x within,
    )

-- what all items give
pub all_of : {X Y : Type 0} (f : X → List Y) (xs : List X) (i n : ℕ) → length xs ≤ i
    → n ≡ length (flat_map f (take i xs)) → n ≡ length (flat_map f xs)
all_of f xs i n past so_far = so_far ∙ ap (λ l. length (flat_map f l)) (take_all i xs past)

as_many : (n : ℕ) (ts : List Transmission) → length (packets_from n ts) ≡ length ts
as_many n [] = refl
as_many n (t ∷ ts) = ap suc (as_many (n + 1) ts)

pub packets_for : (s : Scenario) (es : List Entry) (n : ℕ) → n ≡ length (transmissions s es)
    → n ≡ length (trace_packets s es)
packets_for s es n same = same ∙ sym (as_many 0 (transmissions s es))
