-- Which files are tried.
use Rattle.std.proofs.Common.{◌≡◌, ◌≢◌, ◌↔◌, ℕ, ◌+◌, ◌*◌, ◌/◌, ◌%◌, ◌<◌, ◌==◌, ◌&&◌, not, cond, true, List, length}
use Rattle.std.proofs.Common.{take, Some, None, slice_index, slice_set, nat_lt, ap, sym, ◌∙◌, lit<}
use Rattle.std.proofs.lemmas.Bool.{ltb-true, lt-ltb, eqb-false, ne_eqb, not-true, and_parts}
use Rattle.std.proofs.lemmas.Nat.{mod_below, div-mul-add, mod-mul-add}
use Rattle.std.proofs.lemmas.Option.{cond_some}
use Rattle.case_text.specs.declared.trial.Made.TheVariants.{EachChange, EachFront}
use Rattle.case_play.specs.Files.{file_at, with_byte}
use Rattle.case_play.specs.Laws.{IsChangeOf, IsProperFront}

front_of_file : (body file : List ℕ) → (n : ℕ) × (file_at EachFront body n ≡ Some file) → IsProperFront body file
front_of_file body file h =
    let parts = cond_some (nat_lt h.0 (length body)) (take h.0 body) file h.1 in
    (h.0, ltb-true h.0 (length body) parts.0, sym parts.1)

file_of_front : (body file : List ℕ) → IsProperFront body file → (n : ℕ) × (file_at EachFront body n ≡ Some file)
file_of_front body file h = (
  h.0,
  ap (λ b. cond b (Some (take h.0 body)) None) (lt-ltb h.0 (length body) h.1) ∙ ap Some (sym h.2),
)

pub fronts_are : (body file : List ℕ)
    → ((n : ℕ) × (file_at EachFront body n ≡ Some file)) ↔ IsProperFront body file
fronts_are body file = (front_of_file body file, file_of_front body file)

change_at : (place byte : ℕ) (body file : List ℕ) → byte < 256 → with_byte place byte body ≡ Some file
    → IsChangeOf body file
change_at place byte body file fits is =
    let parts = cond_some (nat_lt place (length body) && not (slice_index body place == byte))
    (slice_set body place byte) file is in
    let tests = and_parts (nat_lt place (length body)) (not (slice_index body place == byte)) parts.0 in record {
      place = place;
      byte = byte;
      within = ltb-true place (length body) tests.0;
      fits = fits;
      differs = eqb-false (slice_index body place) byte (not-true (slice_index body place == byte) tests.1);
      changed = sym parts.1;
    }

at_change : (place byte : ℕ) (body : List ℕ) → place < length body → slice_index body place ≢ byte
    → with_byte place byte body ≡ Some (slice_set body place byte)
at_change place byte body within differs =
    ap (λ b. cond (b && not (slice_index body place == byte)) (Some (slice_set body place byte)) None)
    (lt-ltb place (length body) within)
    ∙ ap (λ b. cond (true && not b) (Some (slice_set body place byte)) None)
    (ne_eqb (slice_index body place) byte differs)

-- the number of a place and a byte
file_of_change : (body file : List ℕ) → IsChangeOf body file → (n : ℕ) × (file_at EachChange body n ≡ Some file)
file_of_change body file h = (
  h.place * 256 + h.byte,
  ap (λ p. with_byte p ((h.place * 256 + h.byte) % 256) body) (div-mul-add h.place 256 h.byte h.fits)
      ∙ ap (λ b. with_byte h.place b body) (mod-mul-add h.place 256 h.byte h.fits)
      ∙ at_change h.place h.byte body h.within h.differs ∙ ap Some (sym h.changed),
)

pub changes_are : (body file : List ℕ)
    → ((n : ℕ) × (file_at EachChange body n ≡ Some file)) ↔ IsChangeOf body file
changes_are body file = (
  λ h. change_at (h.0 / 256) (h.0 % 256) body file (mod_below h.0 256 (lit< tt)) h.1,
  file_of_change body file,
)
