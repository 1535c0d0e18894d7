-- Entries in pages.
use Rattle.std.proofs.Common.{◌≡◌, ℕ, ◌+◌, ◌*◌, ◌-◌, ◌<◌, ◌≤◌, List, [], ◌∷◌, ◌++◌, length, refl, sym, ap, subst, ◌∙◌}
use Rattle.std.proofs.Common.{arith, append_assoc, append-nil, length-append}
use Rattle.std.specs.Prelude.{vec_capacity, min}
use Rattle.std.specs.Int.{div_ceil}
use Rattle.std.proofs.lemmas.Grind.{div_ceil_times}
use Rattle.std.specs.Global.{Vec}
use Rattle.std.specs.List.{AllByRecursion}
use Rattle.std.proofs.lemmas.List.{flat_map_more}
use Rattle.lemmas.proofs.Lists.{each_pushed}
use Rattle.trace_file.specs.declared.entry.Entry.{Entry}
use Rattle.entry_pages.specs.Pages.{PagesModel, entries_in, IsFullPage, IsSparePage, ArePages}

all-last : {X : Type 0} (P : X → Type 0) (xs : List X) (x : X) → AllByRecursion P (xs ++ x ∷ [])
    → AllByRecursion P xs × P x
all-last P [] x h = (tt, h.0)
all-last P (y ∷ ys) x h = let rest = all-last P ys x h.1 in ((h.0, rest.0), rest.1)

abbrev pub paged : List (Vec Entry) → Vec Entry → List (Vec Entry) → PagesModel
paged full last spare = record {
  held = entries_in full ++ last.items;
  room = (256 - length last.items) + 256 * length spare;
}

pub entries-push : (pages : List (Vec Entry)) (page : Vec Entry)
    → entries_in (pages ++ page ∷ []) ≡ entries_in pages ++ page.items
entries-push pages page = sym (flat_map_more (λ p. p.items) [] pages page)

-- full pages have 256 entries each
pub length_full : (pages : List (Vec Entry)) → AllByRecursion IsFullPage pages
    → length (entries_in pages) ≡ 256 * length pages
length_full [] all = omega arith
length_full (p ∷ ps) all =
    omega (arith, length-append p.items (entries_in ps), all.0, length_full ps all.1)

-- ---- one entry more

pub pages_here : (full spare : List (Vec Entry)) (places : ℕ) (last new : Vec Entry) (e : Entry)
    → ArePages full places last spare → length last.items < 256 → new.items ≡ last.items ++ e ∷ []
    → vec_capacity new ≡ vec_capacity last → ArePages full places new spare
pages_here full spare places last new e pages less items memory = record {
  before = pages.before;
  within = omega (arith, ap length items, length-append last.items (e ∷ []), less);
  memory = omega (arith, pages.memory, memory);
  after = pages.after;
  fits = pages.fits;
}

pub held_here : (v : PagesModel) (full spare : List (Vec Entry)) (last new : Vec Entry) (e : Entry)
    → paged full last spare ≡ v → new.items ≡ last.items ++ e ∷ []
    → entries_in full ++ new.items ≡ v.held ++ e ∷ []
held_here v full spare last new e view items =
    ap (λ l. entries_in full ++ l) items
    ∙ (sym (append_assoc (entries_in full) last.items (e ∷ [])) ∙ ap (λ w. w.held ++ e ∷ []) view)

pub room_here : (v : PagesModel) (full spare : List (Vec Entry)) (last new : Vec Entry) (e : Entry)
    → paged full last spare ≡ v → length last.items < 256 → new.items ≡ last.items ++ e ∷ []
    → ((256 - length new.items) + 256 * length spare) + 1 ≡ v.room
room_here v full spare last new e view less items =
    omega (arith, ap (λ w. w.room) view, ap length items, length-append last.items (e ∷ []), less)

-- ---- one entry more, where the last page is full

module _ (full spare left : List (Vec Entry)) (places : ℕ) (last page new : Vec Entry) (e : Entry)
    (pages : ArePages full places last spare)
    (past : 256 ≤ length last.items) (taken : spare ≡ left ++ page ∷ [])
    (items : new.items ≡ page.items ++ e ∷ []) where
  spares : AllByRecursion IsSparePage left × IsSparePage page
  spares = all-last IsSparePage left page (subst (AllByRecursion IsSparePage) taken pages.after)

  one : length new.items ≡ 1
  one = omega (arith, ap length items, length-append page.items (e ∷ []), ap length spares.1.0)

  pub pages_there : (more : List (Vec Entry)) (room : ℕ) → vec_capacity new ≡ vec_capacity page
      → more ≡ full ++ last ∷ [] → room ≡ places → ArePages more room new left
  pages_there more room memory is same = record {
    before = subst (AllByRecursion IsFullPage) (sym is)
        (each_pushed IsFullPage full last pages.before (omega (arith, pages.within, past)));
    within = omega (arith, one);
    memory = omega (arith, spares.1.1, memory);
    after = spares.0;
    fits = omega (
      arith,
      pages.fits,
      same,
      ap length is,
      length-append full (last ∷ []),
      ap length taken,
      length-append left (page ∷ []),
    );
  }

  pub held_there : (v : PagesModel) (more : List (Vec Entry)) → paged full last spare ≡ v → more ≡ full ++ last ∷ []
      → entries_in more ++ new.items ≡ v.held ++ e ∷ []
  held_there v more view is =
      ap (λ l. entries_in l ++ new.items) is
      ∙ (ap (λ l. l ++ new.items) (entries-push full last)
      ∙ (ap (λ l. (entries_in full ++ last.items) ++ l) (items ∙ ap (λ l. l ++ e ∷ []) spares.1.0)
      ∙ ap (λ w. w.held ++ e ∷ []) view))

  pub room_there : (v : PagesModel) → paged full last spare ≡ v
      → ((256 - length new.items) + 256 * length left) + 1 ≡ v.room
  room_there v view =
      omega (arith, ap (λ w. w.room) view, one, past, ap length taken, length-append left (page ∷ []))

-- where there is room for an entry, the last page is not full or there is a spare one
pub some_spare : (v : PagesModel) (full spare : List (Vec Entry)) (last : Vec Entry) → paged full last spare ≡ v
    → 256 ≤ length last.items → 0 < v.room → 0 < length spare
some_spare v full spare last view past room = omega (arith, ap (λ w. w.room) view, past, room)

-- ---- one page more

pub page_added : (full spare more : List (Vec Entry)) (places room : ℕ) (last page : Vec Entry)
    → ArePages full places last spare → more ≡ spare ++ page ∷ [] → page.items ≡ [] → 256 ≤ vec_capacity page
    → length full + (length spare + 1) ≤ room → ArePages full room last more
page_added full spare more places room last page pages is empty memory fits = record {
  before = pages.before;
  within = pages.within;
  memory = pages.memory;
  after = subst (AllByRecursion IsSparePage) (sym is) (each_pushed IsSparePage spare page pages.after (empty, memory));
  fits = omega (arith, fits, ap length is, length-append spare (page ∷ []));
}

-- nothing is lost where the list of the full pages has more places
pub pages_wider : (full spare : List (Vec Entry)) (places room : ℕ) (last : Vec Entry)
    → ArePages full places last spare → places ≤ room → ArePages full room last spare
pages_wider full spare places room last pages more = record {
  before = pages.before;
  within = pages.within;
  memory = pages.memory;
  after = pages.after;
  fits = omega (arith, pages.fits, more);
}

-- the pages that are added are enough
pub room_made : (more last spare room made : ℕ) → last ≤ 256 → room ≡ (256 - last) + 256 * spare
    → made ≡ room + 256 * (div_ceil (more - (256 - last)) 256 - spare) → more ≤ made
room_made more last spare room made within is added =
    let enough = div_ceil_times (more - (256 - last)) 256 (omega arith) in
    omega (arith, within, is, added, enough.0)

-- a vector that was made for as many entries as this has room for all of them
pub room_for_all : (full : List (Vec Entry)) (last : Vec Entry) (count rest room : ℕ) → AllByRecursion IsFullPage full
    → count ≡ length full → rest ≡ length last.items
    → room ≡ min (min (count * 256) 18446744073709551615 + rest) 18446744073709551615 → room < 9223372036854775808
    → length (entries_in full ++ last.items) ≤ room
room_for_all full last count rest room all is same made small =
    omega (arith, length-append (entries_in full) last.items, length_full full all, is, same, made, small)

-- ---- entries that are moved one by one

pub moved_one : (held more rest next all : List Entry) (e : Entry) → held ++ rest ≡ all → rest ≡ e ∷ next
    → more ≡ held ++ e ∷ [] → more ++ next ≡ all
moved_one held more rest next all e so split is =
    ap (λ l. l ++ next) is ∙ (append_assoc held (e ∷ []) next ∙ (ap (λ l. held ++ l) (sym split) ∙ so))

pub moved_all : (held rest all : List Entry) → held ++ rest ≡ all → length rest ≡ 0 → held ≡ all
moved_all held [] all so none = sym (append-nil held) ∙ so
moved_all held (e ∷ rest) all so none = absurd (omega (arith, none))

-- ---- pages that are gathered one by one

module _ (gathered last all : List Entry) (rest : List (Vec Entry))
    (so : gathered ++ (entries_in rest ++ last) ≡ all) where
  pub gathered_one : (more : List Entry) (page : Vec Entry) (next : List (Vec Entry)) → rest ≡ page ∷ next
      → more ≡ gathered ++ page.items → more ++ (entries_in next ++ last) ≡ all
  gathered_one more page next split is =
      ap (λ l. l ++ (entries_in next ++ last)) is
      ∙ (append_assoc gathered page.items (entries_in next ++ last)
      ∙ (ap (λ l. gathered ++ l) (sym (append_assoc page.items (entries_in next) last))
      ∙ (ap (λ l. gathered ++ (entries_in l ++ last)) (sym split) ∙ so)))

  pub gathered_room : (page : Vec Entry) (next : List (Vec Entry)) (room : ℕ) → rest ≡ page ∷ next
      → length all ≤ room → length gathered + length page.items ≤ room
  gathered_room page next room split fits =
      omega (
        arith,
        ap length so,
        length-append gathered (entries_in rest ++ last),
        length-append (entries_in rest) last,
        ap (λ l. length (entries_in l)) split,
        length-append page.items (entries_in next),
        fits,
      )

  pub gathered_last : (room : ℕ) → length all ≤ room → length gathered + length last ≤ room
  gathered_last room fits =
      omega (
        arith,
        ap length so,
        length-append gathered (entries_in rest ++ last),
        length-append (entries_in rest) last,
        fits,
      )

pub gathered_all : (gathered last all : List Entry) (rest : List (Vec Entry))
    → gathered ++ (entries_in rest ++ last) ≡ all → length rest ≡ 0 → gathered ++ last ≡ all
gathered_all gathered last all [] so none = so
gathered_all gathered last all (page ∷ rest) so none = absurd (omega (arith, none))

-- ---- the entries that an iterator has left

pub next_in_page : (page left : List Entry) (full next : List (Vec Entry)) (turned : Vec Entry) (last : List Entry)
    (first : Entry) → length page ≡ 0 → full ≡ turned ∷ next → turned.items ≡ first ∷ left
    → page ++ (entries_in full ++ last) ≡ first ∷ (left ++ (entries_in next ++ last))
next_in_page [] left full next turned last first none split items =
    ap (λ l. entries_in l ++ last) split
    ∙ (append_assoc turned.items (entries_in next) last ∙ ap (λ l. l ++ (entries_in next ++ last)) items)
next_in_page (e ∷ page) left full next turned last first none split items = absurd (omega (arith, none))

pub next_in_last : (page : List Entry) (full : List (Vec Entry)) (last left : List Entry) (first : Entry)
    → length page ≡ 0 → length full ≡ 0 → last ≡ first ∷ left
    → page ++ (entries_in full ++ last) ≡ first ∷ (page ++ (entries_in full ++ left))
next_in_last [] [] last left first none no_full split = split
next_in_last [] (p ∷ full) last left first none no_full split = absurd (omega (arith, no_full))
next_in_last (e ∷ page) full last left first none no_full split = absurd (omega (arith, none))

pub none_left : (page : List Entry) (full : List (Vec Entry)) (last : List Entry) → length page ≡ 0 → length full ≡ 0
    → length last ≡ 0 → page ++ (entries_in full ++ last) ≡ []
none_left [] [] [] none no_full no_last = refl
none_left [] [] (e ∷ last) none no_full no_last = absurd (omega (arith, no_last))
none_left [] (p ∷ full) last none no_full no_last = absurd (omega (arith, no_full))
none_left (e ∷ page) full last none no_full no_last = absurd (omega (arith, none))
