-- What the lines of a log say, one after another.
use Rattle.std.proofs.Common.{ℕ, ◌≡◌, ◌<◌, ◌+◌, Bool, cond, List, [], ◌∷◌, ◌++◌, map, length, Ok, IsErr}
use Rattle.std.proofs.Common.{refl, sym, ap, subst, ◌⊎◌, inl, inr, ◌∙◌, append_assoc, append-nil, length-append, arith}
use Rattle.std.specs.Prelude.{filter, nat_lt}
use Rattle.std.specs.List.{flat_map}
use Rattle.std.proofs.lemmas.Bool.{lt-ltb}
use Rattle.std.proofs.lemmas.Grind.{flat_map-append}
use Rattle.std.proofs.lemmas.List.{map-append}
use Rattle.std.proofs.lemmas.List.Elements.{filter-append}
use Rattle.hex.specs.Hex.{decode_of}
use Rattle.scenario_words.specs.Words.{lines}
use Rattle.command_words.specs.Inside.{AreSaid, IsAdded, fault_at}
use Rattle.command_words.specs.Logs.{AreDatagrams, IsFirstWrong, IsLogFault, hex_lines, read_as, trimmed_line}
use Rattle.command_words.specs.Saying.{said_text}
use Rattle.command_files.specs.declared.fault.Fault.{Fault}
use Rattle.command_files.specs.declared.fault.Fault.TheVariants as faults

-- ---- the datagrams of lines

hex_lines-append : (xs ys : List (List ℕ)) → hex_lines (xs ++ ys) ≡ hex_lines xs ++ hex_lines ys
hex_lines-append xs ys =
    let has : List ℕ → Bool = λ l. nat_lt 0 (length l) in
    ap (filter has) (map-append trimmed_line xs ys) ∙ filter-append has (map trimmed_line xs) (map trimmed_line ys)

are_more : (xs ys ds es : List (List ℕ)) → AreDatagrams xs ds → AreDatagrams ys es → AreDatagrams (xs ++ ys) (ds ++ es)
are_more xs ys ds es first then = record {
  read = ap (map decode_of) (hex_lines-append xs ys) ∙ map-append decode_of (hex_lines xs) (hex_lines ys)
      ∙ ap (λ rs. rs ++ map decode_of (hex_lines ys)) first.read
      ∙ ap (λ rs. map read_as ds ++ rs) then.read
      ∙ sym (map-append read_as ds es);
}

-- what a line says that is empty, and one that is not
pub no_datagram : (line : List ℕ) → trimmed_line line ≡ [] → AreDatagrams (line ∷ []) []
no_datagram line none =
    record { read = ap (λ l. map decode_of (filter (λ m. nat_lt 0 (length m)) (l ∷ []))) none }

pub one_datagram : (line bytes : List ℕ) → 0 < length (trimmed_line line) → decode_of (trimmed_line line) ≡ Ok bytes
    → AreDatagrams (line ∷ []) (bytes ∷ [])
one_datagram line bytes some is = record {
  read = ap (λ b. map decode_of (cond b (trimmed_line line ∷ []) [])) (lt-ltb 0 (length (trimmed_line line)) some)
      ∙ ap (λ r. r ∷ []) is;
}

pub added_none : (server : ℕ) (line before after : List ℕ) → trimmed_line line ≡ [] → after ≡ before
    → IsAdded server line before after
added_none server line before after none same =
    record { datagrams = []; are = no_datagram line none; text_is = same ∙ sym (append-nil before) }

pub added_one : (server : ℕ) (line bytes before after : List ℕ) → 0 < length (trimmed_line line)
    → decode_of (trimmed_line line) ≡ Ok bytes → after ≡ before ++ said_text server bytes
    → IsAdded server line before after
added_one server line bytes before after some is same = record {
  datagrams = bytes ∷ [];
  are = one_datagram line bytes some is;
  text_is = same ∙ ap (λ t. before ++ t) (sym (append-nil (said_text server bytes)));
}

-- ---- one line after another

-- the lines so far, of which there are n, said this text, and these are left
pub record IsSoFar (log : List ℕ) (server : ℕ) (left : List (List ℕ)) (n : ℕ) (text : List ℕ) : Type 0 where
  pub done : List (List ℕ)
  pub cut : lines log ≡ done ++ left
  pub count : length done ≡ n
  pub datagrams : List (List ℕ)
  pub are : AreDatagrams done datagrams
  pub text_is : text ≡ flat_map (said_text server) datagrams

pub none_yet : (log : List ℕ) (server : ℕ) (text : List ℕ) → text ≡ [] → IsSoFar log server (lines log) 0 text
none_yet log server text none =
    record { done = []; cut = refl; count = refl; datagrams = []; are = record { read = refl }; text_is = none }

pub one_more : (log : List ℕ) (server : ℕ) (left more : List (List ℕ)) (n : ℕ) (line text new : List ℕ)
    → IsSoFar log server left n text → left ≡ line ∷ more → IsAdded server line text new
    → IsSoFar log server more (n + 1) new
one_more log server left more n line text new so_far first added = record {
  done = so_far.done ++ line ∷ [];
  cut = so_far.cut ∙ ap (λ ls. so_far.done ++ ls) first ∙ sym (append_assoc so_far.done (line ∷ []) more);
  count = omega (arith, so_far.count, length-append so_far.done (line ∷ []));
  datagrams = so_far.datagrams ++ added.datagrams;
  are = are_more so_far.done (line ∷ []) so_far.datagrams added.datagrams so_far.are added.are;
  text_is = added.text_is ∙ ap (λ t. t ++ flat_map (said_text server) added.datagrams) so_far.text_is
      ∙ sym (flat_map-append (said_text server) so_far.datagrams added.datagrams);
}

-- a line is wrong, and those before it are not
pub first_wrong : (log : List ℕ) (server : ℕ) (left more : List (List ℕ)) (n : ℕ) (line text : List ℕ)
    → IsSoFar log server left n text → left ≡ line ∷ more → IsErr (decode_of (trimmed_line line))
    → IsFirstWrong log (n + 1)
first_wrong log server left more n line text so_far first wrong = record {
  before = so_far.done;
  here = line;
  behind = more;
  cut = so_far.cut ∙ ap (λ ls. so_far.done ++ ls) first;
  count = ap (λ c. c + 1) (sym so_far.count);
  datagrams = so_far.datagrams;
  are = so_far.are;
  wrong = wrong;
}

-- all lines were said
pub all_said : (log : List ℕ) (server : ℕ) (n : ℕ) (text : List ℕ) → IsSoFar log server [] n text
    → AreSaid log server text
all_said log server n text so_far = record {
  datagrams = so_far.datagrams;
  are = subst (λ ls. AreDatagrams ls so_far.datagrams) (sym (so_far.cut ∙ append-nil so_far.done)) so_far.are;
  text_is = so_far.text_is;
}

pub log_fault : (log : List ℕ) (server : ℕ) (left more : List (List ℕ)) (n : ℕ) (line text : List ℕ) (f : Fault)
    → IsSoFar log server left n text → left ≡ line ∷ more
    → (f ≡ faults.Memory) ⊎ ((f ≡ faults.Hex) × IsErr (decode_of (trimmed_line line)))
    → IsLogFault log (fault_at (n + 1) f)
log_fault log server left more n line text f so_far first (inl memory) =
    subst (λ g. IsLogFault log (fault_at (n + 1) g)) (sym memory) tt
log_fault log server left more n line text f so_far first (inr bad) =
    subst (λ g. IsLogFault log (fault_at (n + 1) g)) (sym bad.0)
    (refl, refl, first_wrong log server left more n line text so_far first bad.1)
