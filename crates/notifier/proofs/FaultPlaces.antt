-- Where a query's number ends is where no number of its attribute goes on.
use Rattle.std.proofs.Common.{◌≡◌, ℕ, zero, suc, ◌+◌, ◌-◌, ◌*◌, ◌<◌, ◌≤◌, ◌==◌, ◌⊎◌, inl, inr, Bool, true, false}
use Rattle.std.proofs.Common.{cond, ◌&&◌, List, [], ◌∷◌, ◌++◌, length, take, drop, get_or, Option, None, Some, nat_lt}
use Rattle.std.proofs.Common.{nat_le, refl, sym, ap, subst, ◌∙◌, arith, length-take, ℤ, pos, neg_ℤ}
use Rattle.std.proofs.Common.{leb-true, ltb-true, lt-ltb, le-leb, eqb-true, eq-eqb, ne_eqb, IsSome}
use Rattle.std.proofs.Common.{slice_index, Result, Ok, Err, if◌then◌else◌}
use Rattle.std.specs.Char.{digit_value}
use Rattle.std.specs.List.{list_all, list_any}
use Rattle.std.specs.Option.{is_some, option_and_then, option_map, option_map_or}
use Rattle.std.specs.Str.Parse.{digits_value, digits_value_after}
use Rattle.std.proofs.lemmas.Bool.{and_parts, cases_order}
use Rattle.std.proofs.lemmas.List.{append-nil, length-append}
use Rattle.std.proofs.lemmas.List.{get_or-drop}
use Rattle.std.proofs.lemmas.Option.{cond_some}
use Rattle.lemmas.proofs.Lists.{empty_from_length}
use Rattle.lemmas.proofs.Options.{option_map_none}
use Rattle.notifier.specs.declared.fault.QueryFault.{QueryFault}
use Rattle.notifier.specs.declared.attribute.Change.{Change}
use Rattle.notifier.specs.declared.attribute.Level.{Level}
use Rattle.notifier.specs.declared.attribute.Name.{Name}
use Rattle.notifier.specs.declared.attribute.Name.TheVariants.{Pmin, Pmax, Gt, Lt, St}
use Rattle.notifier.specs.declared.fault.QueryFault.TheVariants as fault
use Rattle.notifier.specs.NumberEnd.{BeginsNumber, IsNumberFault, IsQueryFault, is_zero, number_end, query_fault_at}
use Rattle.notifier.specs.NumberEnd.{query_fault_in, seconds_in, signed_end, step_end, step_end_at, unsigned_end}
use Rattle.notifier.specs.Query.{above_zero, are_digits, attribute_number, change_of, change_to, is_digit, is_of}
use Rattle.notifier.specs.Query.{name_of, name_part, number_part, reading_of, seconds_of, stands_at, target_of}
use Rattle.notifier.specs.Query.{thousandths_of, unsigned_of}
use Rattle.notifier.proofs.NumberEnds.{Completes, IsFull, IsPart, IsWhole, begins, longer, one_byte_more}
use Rattle.notifier.proofs.NumberEnds.{part_completes}
use Rattle.notifier.proofs.NumberEnds.{parts, unsigned_stops, within}
use Rattle.notifier.proofs.Spelled.{IsSpelled, spelled}

-- what is told of a beginning: a number begins with it, and with one byte more none does
record IsEnd (n : Name) (t : List ℕ) (end : ℕ) : Type 0 where
  inside : end ≤ length t
  begun : BeginsNumber n (take end t)
  stops : end < length t → BeginsNumber n (take (end + 1) t) → ⊥

-- ---- thousandths

plain : (u : List ℕ) (v : ℕ) → unsigned_of u ≡ Some v → thousandths_of u ≡ Some (pos v)
plain u v h =
    let s = spelled u v h in
    let d = s.digits 0 (omega (arith, s.some)) in
    let first : (slice_index u 0 == 45) ≡ false = ne_eqb (slice_index u 0) 45 (λ e. omega (arith, d.0, e)) in
    (λ j. cond (first j) (option_map (λ n. neg_ℤ (pos n)) (unsigned_of (drop 1 u))) (option_map pos (h j)))

mapped : {X Y : Type 0} (f : X → Y) (o : Option X) → IsSome (option_map f o) → (x : X) × (o ≡ Some x)
mapped f None h = absurd cc
mapped f (Some x) h = (x, refl)

-- the first byte is that of the text
first_byte : (t more : List ℕ) (end : ℕ) → end < length t
    → slice_index (take (end + 1) t ++ more) 0 ≡ slice_index t 0
first_byte t more end inside = one_byte_more t more end inside 0 (omega arith)

signed_begins : (t : List ℕ) → (more : List ℕ) × IsSome (thousandths_of (take (unsigned_end t) t ++ more))
signed_begins t = by (begins t (unsigned_end t) (parts t))
  where
    by : Completes (take (unsigned_end t) t) ⊎ IsFull t (unsigned_end t)
        → (more : List ℕ) × IsSome (thousandths_of (take (unsigned_end t) t ++ more))
    by (inl h) = (h.more, ap is_some (plain (take (unsigned_end t) t ++ h.more) h.value h.reads))
    by (inr h) = (
      [],
      ap is_some (plain (take (unsigned_end t) t ++ []) h.value
          (ap unsigned_of (append-nil (take (unsigned_end t) t)) ∙ h.reads)),
    )

negative_begins : (t : List ℕ) → (more : List ℕ) × IsSome (unsigned_of (take (unsigned_end t) t ++ more))
negative_begins t = by (begins t (unsigned_end t) (parts t))
  where
    by : Completes (take (unsigned_end t) t) ⊎ IsFull t (unsigned_end t)
        → (more : List ℕ) × IsSome (unsigned_of (take (unsigned_end t) t ++ more))
    by (inl h) = (h.more, ap is_some h.reads)
    by (inr h) = ([], ap is_some (ap unsigned_of (append-nil (take (unsigned_end t) t)) ∙ h.reads))

map_some : {X Y : Type 0} (f : X → Y) (o : Option X) → IsSome o → IsSome (option_map f o)
map_some f None h = h
map_some f (Some x) h = refl

-- what is told of thousandths with a sign or none, by whether there is one
abbrev IsSignedEnd : List ℕ → ℕ → Type 0
IsSignedEnd t end =
    (end ≤ length t) × ((more : List ℕ) × IsSome (thousandths_of (take end t ++ more)))
    × (end < length t → ((more : List ℕ) × IsSome (thousandths_of (take (end + 1) t ++ more))) → ⊥)

minus : (t : List ℕ) (end : ℕ) → (slice_index t 0 == 45) ≡ true → end ≡ 1 + unsigned_end (drop 1 t)
    → IsSignedEnd t end
minus [] end e is = absurd cc
minus (c ∷ cs) end e is =
    let n = unsigned_end cs in
    let at : end ≡ suc n = omega (arith, is) in
    let inside = within cs n (parts cs) in
    let begun = negative_begins cs in (
      omega (arith, at, inside),
      (
        begun.0,
        ap (λ k. is_some (thousandths_of (take k (c ∷ cs) ++ begun.0))) at
            ∙ ap (λ b. is_some (cond b (option_map (λ m. neg_ℤ (pos m)) (unsigned_of (take n cs ++ begun.0)))
            (option_map pos (unsigned_of (c ∷ take n cs ++ begun.0))))) e
            ∙ map_some (λ m. neg_ℤ (pos m)) (unsigned_of (take n cs ++ begun.0)) begun.1,
      ),
      λ below h.
          let past : end + 1 ≡ suc (n + 1) = omega (arith, at) in
          let u = take (n + 1) cs ++ h.0 in
          let some : IsSome (option_map (λ m. neg_ℤ (pos m)) (unsigned_of u)) =
          ap (λ b. is_some (cond b (option_map (λ m. neg_ℤ (pos m)) (unsigned_of u))
          (option_map pos (unsigned_of (c ∷ u))))) (sym e)
          ∙ ap (λ k. is_some (thousandths_of (take k (c ∷ cs) ++ h.0))) (sym past) ∙ h.1 in
          let p = mapped (λ m. neg_ℤ (pos m)) (unsigned_of u) some in
          unsigned_stops cs h.0 p.0 (omega (arith, at, below)) p.1,
    )

no_minus : (t : List ℕ) (end : ℕ) → (slice_index t 0 == 45) ≡ false → end ≡ unsigned_end t → IsSignedEnd t end
no_minus t end e is =
    subst (IsSignedEnd t) (sym is) (
      within t (unsigned_end t) (parts t),
      signed_begins t,
      λ below h.
          let u = take (unsigned_end t + 1) t ++ h.0 in
          let first : (slice_index u 0 == 45) ≡ false =
          ap (λ c. c == 45) (first_byte t h.0 (unsigned_end t) below) ∙ e in
          let some : IsSome (option_map pos (unsigned_of u)) =
          ap (λ b. is_some (cond b (option_map (λ m. neg_ℤ (pos m)) (unsigned_of (drop 1 u)))
          (option_map pos (unsigned_of u)))) (sym first) ∙ h.1 in
          let p = mapped pos (unsigned_of u) some in
          unsigned_stops t h.0 p.0 below p.1,
    )

signed : (t : List ℕ) → IsSignedEnd t (signed_end t)
signed t = by (slice_index t 0 == 45) refl
  where
    by : (b : Bool) → (slice_index t 0 == 45) ≡ b
        → IsSignedEnd t (cond b (1 + unsigned_end (drop 1 t)) (unsigned_end t))
    by true e = minus t (1 + unsigned_end (drop 1 t)) e refl
    by false e = no_minus t (unsigned_end t) e refl

-- ---- thousandths above 0

abbrev step_number : List ℕ → Option ℤ
step_number u = attribute_number St u

above : (n : ℕ) → 0 < n → IsSome (above_zero (pos n))
above n h = ap (λ b. is_some (cond b (Some (pos n)) None)) (lt-ltb 0 n h)

known_above : (n : ℕ) → IsSome (above_zero (pos n)) → 0 < n
known_above zero h = absurd cc
known_above (suc n) h = omega arith

never : (o : Option ℕ) → IsSome (option_and_then above_zero (option_map (λ m. neg_ℤ (pos m)) o)) → ⊥
never None h = cc
never (Some zero) h = cc
never (Some (suc n)) h = cc

step_some : (u : List ℕ) (v : ℕ) → unsigned_of u ≡ Some v → 0 < v → IsSome (step_number u)
step_some u v reads some = ap (λ o. is_some (option_and_then above_zero o)) (plain u v reads) ∙ above v some

first_some : {X Y : Type 0} (f : X → Option Y) (o : Option X) → IsSome (option_and_then f o) → IsSome o
first_some f None h = h
first_some f (Some x) h = refl

-- without a minus sign what is read is above 0
step_known : (u : List ℕ) → (slice_index u 0 == 45) ≡ false → IsSome (step_number u)
    → (v : ℕ) × (unsigned_of u ≡ Some v) × (0 < v)
step_known u first h = by (unsigned_of u) refl some
  where
    some : IsSome (option_and_then above_zero (option_map pos (unsigned_of u)))
    some = ap (λ b. is_some (option_and_then above_zero
        (cond b (option_map (λ m. neg_ℤ (pos m)) (unsigned_of (drop 1 u)))
        (option_map pos (unsigned_of u))))) (sym first) ∙ h

    by : (o : Option ℕ) → unsigned_of u ≡ o → IsSome (option_and_then above_zero (option_map pos o))
        → (v : ℕ) × (unsigned_of u ≡ Some v) × (0 < v)
    by None e k = absurd cc
    by (Some v) e k = (v, e, known_above v k)

step_minus : (t : List ℕ) → (slice_index t 0 == 45) ≡ true → IsEnd St t 0
step_minus t e = record {
  inside = omega arith;
  begun = (49 ∷ [], refl);
  stops = λ below h.
      let u = take (0 + 1) t ++ h.0 in
      let first : (slice_index u 0 == 45) ≡ true = ap (λ c. c == 45) (first_byte t h.0 0 below) ∙ e in
      never (unsigned_of (drop 1 u))
      (ap (λ b. is_some (option_and_then above_zero (cond b (option_map (λ m. neg_ℤ (pos m)) (unsigned_of (drop 1 u)))
      (option_map pos (unsigned_of u))))) (sym first) ∙ h.1);
}

is_zero_parts : (t : List ℕ) (end : ℕ) → is_zero end t ≡ true
    → (5 ≤ end) × (get_or t (end - 4) 0 ≡ 46) × (unsigned_of (take end t) ≡ Some 0)
is_zero_parts t end h =
    let p = and_parts (nat_le 5 end) (slice_index t (end - 4) == 46
    && option_map_or (λ n. n == 0) (unsigned_of (take end t)) false) h in
    let q = and_parts (slice_index t (end - 4) == 46) (option_map_or (λ n. n == 0) (unsigned_of (take end t)) false)
    p.1 in
    (leb-true 5 end p.0, eqb-true (slice_index t (end - 4)) 46 q.0, by (unsigned_of (take end t)) q.1)
  where
    by : (o : Option ℕ) → option_map_or (λ n. n == 0) o false ≡ true → o ≡ Some 0
    by None e = absurd cc
    by (Some n) e = ap Some (eqb-true n 0 e)

-- a full beginning that is not 0 is above 0
not_zero : (t : List ℕ) (end : ℕ) (h : IsFull t end) → is_zero end t ≡ false → 0 < h.value
not_zero t end h e = by (cases_order 0 h.value)
  where
    by : (0 ≡ h.value) ⊎ ((0 < h.value) ⊎ (h.value < 0)) → 0 < h.value
    by (inl none) =
        let zero_read : option_map_or (λ n. n == 0) (unsigned_of (take end t)) false ≡ true =
        ap (λ o. option_map_or (λ n. n == 0) o false) (h.reads ∙ ap Some (sym none)) in
        let all : is_zero end t ≡ true =
        (λ j. le-leb 5 end h.five j && (eq-eqb (slice_index t (end - 4)) 46 h.point j && zero_read j)) in
        let other : true ≡ false = sym all ∙ e in
        absurd cc
    by (inr (inl some)) = some
    by (inr (inr less)) = absurd (omega (arith, less))

step_above : (t : List ℕ) (end : ℕ) → (slice_index t 0 == 45) ≡ false → is_zero end t ≡ false
    → end ≡ unsigned_end t → IsEnd St t end
step_above t end e some is = record {
  inside = subst (λ n. n ≤ length t) (sym is) (within t (unsigned_end t) (parts t));
  begun = by (begins t end (subst (λ n. IsWhole t n ⊎ IsPart t n) (sym is) (parts t)));
  stops = λ below h. (no_minus t end e is).2 below (
    h.0,
    first_some above_zero
        (thousandths_of (take (end + 1) t ++ h.0)) h.1,
  );
}
  where
    by : Completes (take end t) ⊎ IsFull t end → BeginsNumber St (take end t)
    by (inl h) = (h.more, step_some (take end t ++ h.more) h.value h.reads h.above)
    by (inr h) = (
      [],
      step_some (take end t ++ []) h.value (ap unsigned_of (append-nil (take end t)) ∙ h.reads)
          (not_zero t end h some),
    )

-- a beginning that is 0 has three digits after its point
three_digits : (t : List ℕ) (end q : ℕ) (h : IsPart t end) → q + 4 ≡ end → get_or t q 0 ≡ 46 → h.part ≡ 3
three_digits t end q h at point = by (cases_order q h.whole)
  where
    is : end ≡ h.whole + 1 + h.part
    is = h.is

    by : (q ≡ h.whole) ⊎ ((q < h.whole) ⊎ (h.whole < q)) → h.part ≡ 3
    by (inl equal) = omega (arith, equal, at, is)
    by (inr (inl below)) = let d = h.first.digits q below in absurd (omega (arith, d.0, point))
    by (inr (inr past)) =
        let j : h.whole + 1 + (q - (h.whole + 1)) ≡ q = omega (arith, past) in
        let d = h.second.digits (q - (h.whole + 1)) (omega (arith, past, at, is)) in
        let here = get_or-drop (h.whole + 1) t (q - (h.whole + 1)) 0 ∙ ap (λ n. get_or t n 0) j in
        absurd (omega (arith, d.0, here, point))

no_whole : (t : List ℕ) (end q : ℕ) (h : IsWhole t end) → q + 4 ≡ end → get_or t q 0 ≡ 46 → ⊥
no_whole t end q h at point =
    let d = h.first.digits q (omega (arith, at, h.is)) in omega (arith, d.0, point)

-- nothing follows three digits after a point
ends_there : (t more : List ℕ) (n end v : ℕ) (h : IsPart t end) → h.part ≡ 3 → n + 1 ≡ end → n < length t
    → unsigned_of (take (n + 1) t ++ more) ≡ Some v → more ≡ []
ends_there t more n end v h three at inside reads =
    by (spelled (take (n + 1) t ++ more) v reads)
  where
    u : List ℕ
    u = take (n + 1) t ++ more

    same : (k : ℕ) → k ≤ n → get_or u k 0 ≡ get_or t k 0
    same = one_byte_more t more n inside

    is : end ≡ h.whole + 1 + h.part
    is = h.is

    short : length u ≤ h.whole + 4 → more ≡ []
    short most =
        let all = length-append (take (n + 1) t) more in
        let count = length-take (n + 1) t in
        empty_from_length more (omega (arith, all, count, inside, most, is, at, three))

    long : n < length u
    long = longer t more n inside

    by : IsSpelled u → more ≡ []
    by s = elim (cases_order s.whole h.whole) [
      | inl equal ↦ elim s.rest [
        | inl all ↦ absurd (omega (arith, equal, all, long, is, at, three))
        | inr f ↦ short (omega (arith, equal, f.few))
      ]
      | inr (inl below) ↦ elim s.rest [
        | inl all ↦ absurd (omega (arith, below, all, long, is, at, three))
        | inr f ↦
            let d = h.first.digits s.whole below in
            let here = same s.whole (omega (arith, below, is, at, three)) in
            absurd (omega (arith, d.0, here, f.point))
      ]
      | inr (inr past) ↦
          let d = s.digits h.whole past in
          let here = same h.whole (omega (arith, is, at, three)) in
          absurd (omega (arith, d.0, here, h.point))
    ]

step_zero : (t : List ℕ) (end n : ℕ) → (slice_index t 0 == 45) ≡ false → is_zero end t ≡ true
    → IsWhole t end ⊎ IsPart t end → n + 1 ≡ end → IsEnd St t n
step_zero t end n e zero_read (inl h) at =
    let z = is_zero_parts t end zero_read in
    absurd (no_whole t end (end - 4) h (omega (arith, z.0)) z.1)
step_zero t end n e zero_read (inr h) at =
    let z = is_zero_parts t end zero_read in
    let three : h.part ≡ 3 = three_digits t end (end - 4) h (omega (arith, z.0)) z.1 in
    let inside = within t end (inr h) in
    let place : h.whole + 1 + 2 ≡ n = omega (arith, at, three, h.is) in
    let c = subst (λ k. Completes (take k t)) place
    (part_completes t end h 2 (omega (arith, three)) (omega arith)) in
    record {
      inside = omega (arith, at, inside);
      begun = (c.more, step_some (take n t ++ c.more) c.value c.reads c.above);
      stops = λ below k.
          let u = take (n + 1) t ++ k.0 in
          let first : (slice_index u 0 == 45) ≡ false = ap (λ x. x == 45) (first_byte t k.0 n below) ∙ e in
          let v = step_known u first k.1 in
          let none : k.0 ≡ [] = ends_there t k.0 n end v.0 h three at below v.1 in
          let all : u ≡ take end t = (λ j. take (at j) t ++ none j) ∙ append-nil (take end t) in
          let same : Some 0 ≡ Some v.0 = sym z.2 ∙ ap unsigned_of (sym all) ∙ v.1 in
          let value : 0 ≡ v.0 = cc in
          omega (arith, value, v.2);
    }

step : (t : List ℕ) → IsEnd St t (step_end t)
step t = by (slice_index t 0 == 45) refl
  where
    rest : (slice_index t 0 == 45) ≡ false → (b : Bool) → is_zero (unsigned_end t) t ≡ b
        → IsEnd St t (cond b (unsigned_end t - 1) (unsigned_end t))
    rest e true z =
        let p = is_zero_parts t (unsigned_end t) z in
        step_zero t (unsigned_end t) (unsigned_end t - 1) e z (parts t) (omega (arith, p.0))
    rest e false z = step_above t (unsigned_end t) e z refl

    by : (b : Bool) → (slice_index t 0 == 45) ≡ b → IsEnd St t (cond b 0 (step_end_at (unsigned_end t) t))
    by true e = step_minus t e
    by false e = rest e (is_zero (unsigned_end t) t) refl

-- ---- seconds

grows : (n : ℕ) (ds : List ℕ) → n ≤ digits_value_after 10 n ds
grows n [] = omega arith
grows n (c ∷ cs) = let more = grows (n * 10 + digit_value c) cs in omega (arith, more)

-- digits go on from a number, up to its limit
record GoesOn (n : ℕ) (s : List ℕ) : Type 0 where
  digits : list_all is_digit s ≡ true
  small : digits_value_after 10 n s < 2147483648

abbrev after : ℕ → ℕ → ℕ
after n c = n * 10 + digit_value c

counted : (n : ℕ) (t : List ℕ) → n < 2147483648 → GoesOn n (take (seconds_in n t) t)
counted n [] small = record { digits = refl; small = small }
counted n (c ∷ cs) small =
    by (is_digit c && nat_lt (after n c) 2147483648) refl (λ less. counted (after n c) cs less)
  where
    by : (b : Bool) → (is_digit c && nat_lt (after n c) 2147483648) ≡ b
        → (after n c < 2147483648 → GoesOn (after n c) (take (seconds_in (after n c) cs) cs))
        → GoesOn n (take (cond b (1 + seconds_in (after n c) cs) 0) (c ∷ cs))
    by true e h =
        let p = and_parts (is_digit c) (nat_lt (after n c) 2147483648) e in
        let rest = h (ltb-true (after n c) 2147483648 p.1) in
        let next : 1 + seconds_in (after n c) cs ≡ suc (seconds_in (after n c) cs) = omega arith in
        subst (λ k. GoesOn n (take k (c ∷ cs))) (sym next) (record {
          digits = (λ j. p.0 j && rest.digits j);
          small = rest.small;
        })
    by false e h = record { digits = refl; small = small }

counted_stops : (n : ℕ) (t more : List ℕ) → seconds_in n t < length t
    → GoesOn n (take (seconds_in n t + 1) t ++ more) → ⊥
counted_stops n [] more below h = omega (arith, below)
counted_stops n (c ∷ cs) more below h =
    by (is_digit c && nat_lt (after n c) 2147483648) refl below h (λ less k. counted_stops (after n c) cs more less k)
  where
    by : (b : Bool) → (is_digit c && nat_lt (after n c) 2147483648) ≡ b
        → cond b (1 + seconds_in (after n c) cs) 0 < length (c ∷ cs)
        → GoesOn n (take (cond b (1 + seconds_in (after n c) cs) 0 + 1) (c ∷ cs) ++ more)
        → (seconds_in (after n c) cs < length cs
        → GoesOn (after n c) (take (seconds_in (after n c) cs + 1) cs ++ more) → ⊥) → ⊥
    by true e less h rest =
        let next : 1 + seconds_in (after n c) cs + 1 ≡ suc (seconds_in (after n c) cs + 1) = omega arith in
        let k = subst (λ m. GoesOn n (take m (c ∷ cs) ++ more)) next h in
        let p = and_parts (is_digit c) (list_all is_digit (take (seconds_in (after n c) cs + 1) cs ++ more)) k.digits in
        rest (omega (arith, less)) (record { digits = p.1; small = k.small })
    by false e less h rest =
        let p = and_parts (is_digit c) (list_all is_digit more) h.digits in
        let most = grows (after n c) more in
        let some : nat_lt (after n c) 2147483648 ≡ true =
        lt-ltb (after n c) 2147483648 (omega (arith, most, h.small)) in
        let all : (is_digit c && nat_lt (after n c) 2147483648) ≡ true = (λ j. p.0 j && some j) in
        let other : true ≡ false = sym all ∙ e in
        cc

seconds_inside : (n : ℕ) (t : List ℕ) → seconds_in n t ≤ length t
seconds_inside n [] = omega arith
seconds_inside n (c ∷ cs) =
    by (is_digit c && nat_lt (after n c) 2147483648) (seconds_inside (after n c) cs)
  where
    by : (b : Bool) → seconds_in (after n c) cs ≤ length cs
        → cond b (1 + seconds_in (after n c) cs) 0 ≤ length (c ∷ cs)
    by true h = omega (arith, h)
    by false h = omega arith

abbrev seconds_number : List ℕ → Option ℤ
seconds_number u = option_map pos (seconds_of u)

seconds_some : (u : List ℕ) → 0 < length u → GoesOn 0 u → IsSome (seconds_number u)
seconds_some u some h =
    (λ j. is_some (option_map pos (cond ((lt-ltb 0 (length u) some j && h.digits j)
    && lt-ltb (digits_value 10 u) 2147483648 h.small j) (Some (digits_value 10 u)) None)))

seconds_known : (u : List ℕ) → IsSome (seconds_number u) → GoesOn 0 u
seconds_known u h =
    let p = mapped pos (seconds_of u) h in
    let q = cond_some (are_digits u && nat_lt (digits_value 10 u) 2147483648) (digits_value 10 u) p.0 p.1 in
    let r = and_parts (are_digits u) (nat_lt (digits_value 10 u) 2147483648) q.0 in
    let s = and_parts (nat_lt 0 (length u)) (list_all is_digit u) r.0 in
    record { digits = s.1; small = ltb-true (digits_value 10 u) 2147483648 r.1 }

seconds_begun : (t : List ℕ) (end : ℕ) → end ≤ length t → GoesOn 0 (take end t)
    → (more : List ℕ) × IsSome (seconds_number (take end t ++ more))
seconds_begun t zero inside h = (48 ∷ [], refl)
seconds_begun t (suc n) inside h =
    let count = length-take (suc n) t in
    let some : 0 < length (take (suc n) t) = omega (arith, count, inside) in
    ([], ap (λ u. is_some (seconds_number u)) (append-nil (take (suc n) t)) ∙ seconds_some (take (suc n) t) some h)

-- ---- all of them

number_stops : (n : Name) (t : List ℕ) → IsEnd n t (number_end n t)
number_stops Pmin t = record {
  inside = seconds_inside 0 t;
  begun = seconds_begun t (seconds_in 0 t) (seconds_inside 0 t) (counted 0 t (omega arith));
  stops = λ below h. counted_stops 0 t h.0 below (seconds_known (take (seconds_in 0 t + 1) t ++ h.0) h.1);
}
number_stops Pmax t = record {
  inside = seconds_inside 0 t;
  begun = seconds_begun t (seconds_in 0 t) (seconds_inside 0 t) (counted 0 t (omega arith));
  stops = λ below h. counted_stops 0 t h.0 below (seconds_known (take (seconds_in 0 t + 1) t ++ h.0) h.1);
}
number_stops Gt t = let h = signed t in record { inside = h.0; begun = h.1; stops = h.2 }
number_stops Lt t = let h = signed t in record { inside = h.0; begun = h.1; stops = h.2 }
number_stops St t = step t

pub number_fault_is : (n : Name) (t : List ℕ) → attribute_number n t ≡ None → IsNumberFault n t (number_end n t)
number_fault_is n t refused =
    let h = number_stops n t in
    record {
      refused = refused;
      within = h.inside;
      begins = h.begun;
      ends = elim (cases_order (number_end n t) (length t)) [
        | inl all ↦ inl all
        | inr (inl below) ↦ inr (h.stops below)
        | inr (inr past) ↦ absurd (omega (arith, past, h.inside))
      ];
    }

-- ---- a query

chosen : (b : Bool) (x y : Result Change QueryFault) → (if b then x else y) ≡ Err fault.BadNumber
    → (x ≡ Err fault.BadNumber) ⊎ (y ≡ Err fault.BadNumber)
chosen true x y h = inl h
chosen false x y h = inr h

-- the fault of a change is that its number is none
bad_target : (level : Level) (n : Name) (target : Option (Option ℤ)) → change_to level n target ≡ Err fault.BadNumber
    → target ≡ None
bad_target level n None h = refl
bad_target level n (Some z) h =
    elim (chosen (stands_at n level) (Ok (record { name = n; number = z })) (Err fault.Level) h) [
      | inl e ↦ absurd cc
      | inr e ↦ absurd cc
    ]

bad_query : (before : List Change) (level : Level) (q : List ℕ) (n : Option Name) (text : Option (List ℕ))
    → name_of (name_part q) ≡ n → number_part q ≡ text → change_of before level n text ≡ Err fault.BadNumber
    → IsQueryFault q (query_fault_in n text q)
bad_query before level q None text named valued h = absurd cc
bad_query before level q (Some n) None named valued h =
    elim (chosen (list_any (is_of n) before) (Err fault.Repeated) (change_to level n (Some None)) h) [
      | inl e ↦ absurd cc
      | inr e ↦ let none : Some None ≡ None = bad_target level n (Some None) e in absurd cc
    ]
bad_query before level q (Some n) (Some number) named valued h =
    let bad : change_to level n (target_of n (Some number)) ≡ Err fault.BadNumber =
    elim (chosen (list_any (is_of n) before) (Err fault.Repeated) (change_to level n (target_of n (Some number))) h) [
      | inl e ↦ absurd cc
      | inr e ↦ e
    ] in
    record {
      name = n;
      number = number;
      place = number_end n number;
      named = named;
      valued = valued;
      fault = number_fault_is n number
          (option_map_none Some (attribute_number n number) (bad_target level n (target_of n (Some number)) bad));
      at_is = refl;
    }

pub query_fault_is : (before : List Change) (level : Level) (q : List ℕ)
    → reading_of before level q ≡ Err fault.BadNumber → IsQueryFault q (query_fault_at q)
query_fault_is before level q h = bad_query before level q (name_of (name_part q)) (number_part q) refl refl h
