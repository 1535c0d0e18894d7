-- What is written after what was written.
use Rattle.std.proofs.Common.{◌≡◌, ℕ, ◌+◌, ◌<◌, ◌≤◌, List, [], ◌∷◌, ◌++◌, length, take, get_or, refl, sym, ap, subst}
use Rattle.std.proofs.Common.{◌∙◌}
use Rattle.std.proofs.Common.{append_assoc, length-append, Option, arith}
use Rattle.std.specs.Prelude.{min}
use Rattle.std.specs.List.{flat_map, AllByRecursion}
use Rattle.std.proofs.lemmas.Grind.{flat_map-append}
use Rattle.std.proofs.lemmas.List.{append-nil, take_more, take_all}
use Rattle.device_machine.specs.declared.output.Output.{Output}
use Rattle.scenario_image.specs.declared.step.Step.{Step}
use Rattle.scenario_image.specs.Scenario.{Scenario}
use Rattle.trace_file.specs.declared.entry.Entry.{Entry}
use Rattle.fleet_core.specs.Run.{step_at}
use Rattle.udp_capture.specs.Capture.{CapturedPacket, FitsPacket, packet_record}
use Rattle.trace_pcap.specs.declared.writer.Writer.{Writer}
use Rattle.trace_pcap.specs.Transmissions.{Transmission, arrival, sending, second_after, entry_transmissions}
use Rattle.trace_pcap.specs.Packets.{destination_of, packet_of, packets_from, source_of}
use Rattle.trace_pcap.specs.Written.{AreWritten}

pub packets-append : (n : ℕ) (ts us : List Transmission)
    → packets_from n (ts ++ us) ≡ packets_from n ts ++ packets_from (n + length ts) us
packets-append n [] us = let same : n ≡ n + 0 = omega arith in ap (λ m. packets_from m us) same
packets-append n (t ∷ ts) us =
    let same : n + 1 + length ts ≡ n + length (t ∷ ts) = omega arith in
    ap (λ ps. packet_of n t ∷ ps)
    (packets-append (n + 1) ts us ∙ ap (λ m. packets_from (n + 1) ts ++ packets_from m us) same)

-- numbers that give the same microseconds give the same packets
pub same_packets : (m n : ℕ) (ts : List Transmission) → min m 999999 ≡ min n 999999
    → packets_from m ts ≡ packets_from n ts
same_packets m n [] same = refl
same_packets m n (t ∷ ts) same =
    ap (λ k. record {
      envelope = record {
        seconds = t.second;
        microseconds = k;
        source = source_of t;
        destination = destination_of t;
      };
      payload = t.bytes;
    } ∷ packets_from (m + 1) ts) same
    ∙ ap (λ ps. packet_of n t ∷ ps) (same_packets (m + 1) (n + 1) ts (omega arith))

all-append : (ps qs : List CapturedPacket) → AllByRecursion FitsPacket ps → AllByRecursion FitsPacket qs
    → AllByRecursion FitsPacket (ps ++ qs)
all-append [] qs fp fq = fq
all-append (p ∷ ps) qs fp fq = (fp.0, all-append ps qs fp.1 fq)

pub none_written : (a : Writer) → AreWritten a a []
none_written a = record {
  fit = tt;
  bytes = sym (append-nil a.out.items);
  counted = let same : a.microseconds ≡ a.microseconds + 0 = omega arith in ap (λ n. min n 999999) same;
}

pub one_written : (a b : Writer) (t : Transmission) → FitsPacket (packet_of a.microseconds t)
    → b.out.items ≡ a.out.items ++ packet_record (packet_of a.microseconds t)
    → b.microseconds ≡ min (a.microseconds + 1) 999999 → AreWritten a b (t ∷ [])
one_written a b t fits bytes counted = record {
  fit = (fits, tt);
  bytes = bytes ∙ ap (λ l. a.out.items ++ l) (sym (append-nil (packet_record (packet_of a.microseconds t))));
  counted = omega (arith, counted);
}

pub then_written : (a b c : Writer) (ts us : List Transmission) → AreWritten a b ts → AreWritten b c us
    → AreWritten a c (ts ++ us)
then_written a b c ts us first second =
    let behind : packets_from b.microseconds us ≡ packets_from (a.microseconds + length ts) us =
    same_packets b.microseconds (a.microseconds + length ts) us first.counted in
    let all : packets_from a.microseconds (ts ++ us)
    ≡ packets_from a.microseconds ts ++ packets_from b.microseconds us =
    packets-append a.microseconds ts us ∙ ap (λ ps. packets_from a.microseconds ts ++ ps) (sym behind) in
    record {
      fit = subst (AllByRecursion FitsPacket) (sym all)
          (all-append (packets_from a.microseconds ts) (packets_from b.microseconds us) first.fit second.fit);
      bytes = second.bytes
          ∙ ap (λ l. l ++ flat_map packet_record (packets_from b.microseconds us)) first.bytes
          ∙ append_assoc a.out.items (flat_map packet_record (packets_from a.microseconds ts))
          (flat_map packet_record (packets_from b.microseconds us))
          ∙ ap (λ l. a.out.items ++ l)
          (sym (flat_map-append packet_record (packets_from a.microseconds ts) (packets_from b.microseconds us))
          ∙ ap (flat_map packet_record) (sym all));
      counted = omega (arith, first.counted, second.counted, length-append ts us);
    }

-- one part more, and all parts
pub part_written : {X : Type 0} (f : X → List Transmission) (xs : List X) (i : ℕ) (x : X) (a b c : Writer)
    → i < length xs → x ≡ get_or xs i x → AreWritten a b (flat_map f (take i xs)) → AreWritten b c (f x)
    → AreWritten a c (flat_map f (take (i + 1) xs))
part_written f xs i x a b c within is so_far more =
    let longer : flat_map f (take (i + 1) xs) ≡ flat_map f (take i xs) ++ f x =
    ap (flat_map f) (take_more xs i x within) ∙ flat_map-append f (take i xs) (get_or xs i x ∷ [])
    ∙ ap (λ l. flat_map f (take i xs) ++ l) (append-nil (f (get_or xs i x)) ∙ ap f (sym is)) in
    subst (AreWritten a c) (sym longer) (then_written a b c (flat_map f (take i xs)) (f x) so_far more)

pub parts_written : {X : Type 0} (f : X → List Transmission) (xs : List X) (i : ℕ) (a b : Writer) → length xs ≤ i
    → AreWritten a b (flat_map f (take i xs)) → AreWritten a b (flat_map f xs)
parts_written f xs i a b end so_far =
    subst (λ l. AreWritten a b (flat_map f l)) (take_all i xs end) so_far

-- an entry: what arrives in its step, and then what is sent
pub entry_written : (s : Scenario) (e : Entry) (a b c : Writer) (second : ℕ) (step : Option Step) (os : List Output)
    → second ≡ second_after s e → step ≡ step_at s e.device e.step → os ≡ e.outputs
    → AreWritten a b (arrival second e.device step) → AreWritten b c (flat_map (sending second e.device) os)
    → AreWritten a c (entry_transmissions s e)
entry_written s e a b c second step os at there outputs first then =
    subst (λ ts. AreWritten a c ts)
    (ap (λ x. arrival second e.device x ++ flat_map (sending second e.device) os) there
    ∙ ap (λ l. arrival second e.device (step_at s e.device e.step) ++ flat_map (sending second e.device) l) outputs
    ∙ ap (λ n. arrival n e.device (step_at s e.device e.step) ++ flat_map (sending n e.device) e.outputs) at)
    (then_written a b c (arrival second e.device step) (flat_map (sending second e.device) os) first then)
