-- Texts whose lines have the same words.
use Rattle.std.proofs.Common.{◌≡◌, ℕ, ◌+◌, ◌-◌, List, [], ◌∷◌, ◌++◌, length, map, take, drop}
use Rattle.std.proofs.Common.{Result, Ok, Err, refl, sym, ap, subst, ◌∙◌, arith}
use Rattle.std.proofs.lemmas.List.{take-append-drop}
use Rattle.std.proofs.Math.Seq.{take-append-add, take-append_seam}
use Rattle.lemmas.proofs.Lists.{each_front}
use Rattle.scenario_words.specs.declared.cause.Cause.{Cause}
use Rattle.scenario_words.specs.declared.cause.Cause.TheVariants.{Missing}
use Rattle.scenario_words.specs.Words.{lines, words}
use Rattle.scenario_words.specs.Reading.{◌>>=◌}
use Rattle.scenario_statements.specs.Grammar.{statement_of}
use Rattle.scenario_asm.specs.declared.fault.AsmFault.{AsmFault}
use Rattle.scenario_asm.specs.Draft.{Draft, nothing}
use Rattle.scenario_asm.specs.Text.{effect_of, line_after, lines_after, scenario_of_text, whole_of}
use Rattle.laws_text.specs.SameWords.{AreAlike, BlankLinesAddNothing, BlankLinesMoveFaults, OnlyWordsCount, kept_words}
use Rattle.laws_text.specs.SameWords.{words_of_lines}
use Rattle.laws_text.specs.WrongLine.{AreBlank, StatesNothing}
use Rattle.laws_text.proofs.Runs.{StopsAt, first_taken, go_on, stop_is, stops_at}
use Rattle.laws_text.proofs.Wrong.{fault_at, line_is, nothing_is_missing, number, same_whole, states_nothing}
use Rattle.laws_text.proofs.Wrong.{taken_whole}

-- ---- the same words in each line

same_go : (xs ys : List (List ℕ)) (n : ℕ) (r : Result Draft Cause)
    → ((e : Draft) → lines_after xs (n + 1) e ≡ lines_after ys (n + 1) e) → go_on xs n r ≡ go_on ys n r
same_go xs ys n (Ok e) h = h e
same_go xs ys n (Err cause) h = refl

same_run : (xs ys : List (List ℕ)) (n : ℕ) (d : Draft) → map words xs ≡ map words ys
    → lines_after xs n d ≡ lines_after ys n d
same_run [] [] n d h = refl
same_run [] (y ∷ ys) n d h = absurd cc
same_run (x ∷ xs) [] n d h = absurd cc
same_run (x ∷ xs) (y ∷ ys) n d h =
    let first : words x ≡ words y = cc in
    let rest : map words xs ≡ map words ys = cc in
    ap (λ ws. go_on xs n (statement_of ws >>= (λ o. effect_of o d))) first
    ∙ same_go xs ys n (line_after y d) (λ e. same_run xs ys (n + 1) e rest)

pub words_alone : OnlyWordsCount
words_alone text other h = ap whole_of (same_run (lines text) (lines other) 0 nothing h)

-- ---- the words of those lines that have some

-- what the words of lines make of a draft
abbrev after_words : List (List ℕ) → Draft → Result Draft Cause
after_words ws d = statement_of ws >>= (λ o. effect_of o d)

abbrev all_after : List (List (List ℕ)) → Draft → Result Draft Cause
all_after [] d = Ok d
all_after (ws ∷ more) d = after_words ws d >>= (λ e. all_after more e)

ok_by : (ws : List (List ℕ)) (more : List (List ℕ)) (n : ℕ) (d e : Draft) → go_on more n (after_words ws d) ≡ Ok e
    → ((f : Draft) → lines_after more (n + 1) f ≡ Ok e → all_after (words_of_lines more) f ≡ Ok e)
    → all_after (kept_words ws (words_of_lines more)) d ≡ Ok e
ok_by [] more n d e h rest = rest d h
ok_by (w ∷ ws) more n d e h rest =
    let s = first_taken more n (after_words (w ∷ ws) d) e h in
    ap (λ r. r >>= (λ f. all_after (words_of_lines more) f)) s.1 ∙ rest s.0 s.2

ok_words : (ls : List (List ℕ)) (n : ℕ) (d e : Draft) → lines_after ls n d ≡ Ok e
    → all_after (words_of_lines ls) d ≡ Ok e
ok_words [] n d e h = let same : d ≡ e = cc in ap (λ x. Ok x) same
ok_words (line ∷ more) n d e h = ok_by (words line) more n d e h (λ f g. ok_words more (n + 1) f e g)

bound : (r : Result Draft Cause) (k : Draft → Result Draft Cause) (e : Draft) → (r >>= (λ f. k f)) ≡ Ok e
    → (f : Draft) × (r ≡ Ok f) × (k f ≡ Ok e)
bound (Ok f) k e h = (f, refl, h)
bound (Err cause) k e h = absurd cc

back_by : (ws : List (List ℕ)) (more : List (List ℕ)) (n : ℕ) (d e : Draft)
    → all_after (kept_words ws (words_of_lines more)) d ≡ Ok e
    → ((f : Draft) → all_after (words_of_lines more) f ≡ Ok e → lines_after more (n + 1) f ≡ Ok e)
    → go_on more n (after_words ws d) ≡ Ok e
back_by [] more n d e h rest = rest d h
back_by (w ∷ ws) more n d e h rest =
    let s = bound (after_words (w ∷ ws) d) (λ f. all_after (words_of_lines more) f) e h in
    ap (go_on more n) s.1 ∙ rest s.0 s.2

words_ok : (ls : List (List ℕ)) (n : ℕ) (d e : Draft) → all_after (words_of_lines ls) d ≡ Ok e
    → lines_after ls n d ≡ Ok e
words_ok [] n d e h = let same : d ≡ e = cc in ap (λ x. Ok x) same
words_ok (line ∷ more) n d e h = back_by (words line) more n d e h (λ f g. words_ok more (n + 1) f e g)

-- so lines of the same words make the same
alike_taken : (xs ys : List (List ℕ)) (d e : Draft) → words_of_lines xs ≡ words_of_lines ys → lines_after xs 0 d ≡ Ok e
    → lines_after ys 0 d ≡ Ok e
alike_taken xs ys d e same h = words_ok ys 0 d e (ap (λ x. all_after x d) (sym same) ∙ ok_words xs 0 d e h)

pub add_nothing : BlankLinesAddNothing
add_nothing text other s same h =
    let all = taken_whole (lines_after (lines text) 0 nothing) s h in
    ap whole_of (alike_taken (lines text) (lines other) nothing all.0 same all.1) ∙ (sym (ap whole_of all.1) ∙ h)

-- ---- the line of given words

put_append : (ws : List (List ℕ)) (xs ys : List (List (List ℕ))) → kept_words ws (xs ++ ys) ≡ kept_words ws xs ++ ys
put_append [] xs ys = refl
put_append (w ∷ ws) xs ys = refl

worded_append : (xs ys : List (List ℕ)) → words_of_lines (xs ++ ys) ≡ words_of_lines xs ++ words_of_lines ys
worded_append [] ys = refl
worded_append (x ∷ xs) ys =
    ap (kept_words (words x)) (worded_append xs ys)
    ∙ put_append (words x) (words_of_lines xs) (words_of_lines ys)

longer_cut : (line : List ℕ) (more before : List (List ℕ)) (here : List ℕ) (behind : List (List ℕ))
    → more ≡ before ++ here ∷ behind → line ∷ more ≡ (line ∷ before) ++ here ∷ behind
longer_cut line more before here behind cut = ap (λ ls. line ∷ ls) cut

record IsFound (ls : List (List ℕ)) (xs : List (List (List ℕ))) (ws : List (List ℕ)) : Type 0 where
  before : List (List ℕ)
  here : List ℕ
  behind : List (List ℕ)
  cut : ls ≡ before ++ here ∷ behind
  same : words_of_lines before ≡ xs
  is : words here ≡ ws

not_empty : (xs ys : List (List (List ℕ))) (ws : List (List ℕ)) → [] ≡ xs ++ ws ∷ ys → ⊥
not_empty [] ys ws h = cc
not_empty (x ∷ xs) ys ws h = cc

one_more_worded : (line : List ℕ) (before : List (List ℕ)) (xs : List (List (List ℕ))) (v : List ℕ)
    (vs x : List (List ℕ)) → words line ≡ v ∷ vs → words_of_lines before ≡ xs → v ∷ vs ≡ x
    → words_of_lines (line ∷ before) ≡ x ∷ xs
one_more_worded line before xs v vs x is same first =
    ap (λ ws. kept_words ws (words_of_lines before)) is ∙ ap (λ zs. (v ∷ vs) ∷ zs) same ∙ ap (λ z. z ∷ xs) first

found_by : (vs : List (List ℕ)) (line : List ℕ) (more : List (List ℕ)) (xs ys : List (List (List ℕ)))
    (u : List ℕ) (us : List (List ℕ)) → words line ≡ vs → kept_words vs (words_of_lines more) ≡ xs ++ (u ∷ us) ∷ ys
    → ((zs : List (List (List ℕ))) → words_of_lines more ≡ zs ++ (u ∷ us) ∷ ys → IsFound more zs (u ∷ us))
    → IsFound (line ∷ more) xs (u ∷ us)
found_by [] line more xs ys u us is h rest =
    let f = rest xs h in record {
      before = line ∷ f.before;
      here = f.here;
      behind = f.behind;
      cut = longer_cut line more f.before f.here f.behind f.cut;
      same = ap (λ ws. kept_words ws (words_of_lines f.before)) is ∙ f.same;
      is = f.is;
    }
found_by (v ∷ vs) line more [] ys u us is h rest =
    let first : v ∷ vs ≡ u ∷ us = cc in
    record { before = []; here = line; behind = more; cut = refl; same = refl; is = is ∙ first }
found_by (v ∷ vs) line more (x ∷ xs) ys u us is h rest =
    let first : v ∷ vs ≡ x = cc in
    let others : words_of_lines more ≡ xs ++ (u ∷ us) ∷ ys = cc in
    let f = rest xs others in record {
      before = line ∷ f.before;
      here = f.here;
      behind = f.behind;
      cut = longer_cut line more f.before f.here f.behind f.cut;
      same = one_more_worded line f.before xs v vs x is f.same first;
      is = f.is;
    }

found : (ls : List (List ℕ)) (xs ys : List (List (List ℕ))) (u : List ℕ) (us : List (List ℕ))
    → words_of_lines ls ≡ xs ++ (u ∷ us) ∷ ys → IsFound ls xs (u ∷ us)
found [] xs ys u us h = absurd (not_empty xs ys (u ∷ us) h)
found (line ∷ more) xs ys u us h =
    found_by (words line) line more xs ys u us refl h (λ zs g. found more zs ys u us g)

-- ---- faults

-- a line that is refused has words
has_words : (ws : List (List ℕ)) (d : Draft) (cause : Cause) → after_words ws d ≡ Err cause
    → (u : List ℕ) × (us : List (List ℕ)) × (ws ≡ u ∷ us)
has_words [] d cause h = absurd cc
has_words (u ∷ us) d cause h = (u, us, refl)

less_one : (n : ℕ) → n + 1 - 1 ≡ n
less_one n = omega arith

-- the lines up to one, and up to the one before it
front_before : (ls before behind : List (List ℕ)) (here : List ℕ) (n : ℕ) → ls ≡ before ++ here ∷ behind
    → n ≡ length before + 1 → take (n - 1) ls ≡ before
front_before ls before behind here n cut count =
    ap (λ x. take (n - 1) x) cut
    ∙ ap (λ k. take k (before ++ here ∷ behind)) (ap (λ k. k - 1) count ∙ less_one (length before))
    ∙ take-append_seam before (here ∷ behind)

front_through : (ls before behind : List (List ℕ)) (here : List ℕ) (n : ℕ) → ls ≡ before ++ here ∷ behind
    → n ≡ length before + 1 → take n ls ≡ before ++ here ∷ []
front_through ls before behind here n cut count =
    ap (λ x. take n x) cut
    ∙ ap (λ k. take k (before ++ here ∷ behind)) count
    ∙ take-append-add before (here ∷ behind) 1

are_alike : (text other : List ℕ) (n m : ℕ) (before behind before2 behind2 : List (List ℕ)) (here here2 : List ℕ)
    → lines text ≡ before ++ here ∷ behind → n ≡ length before + 1
    → lines other ≡ before2 ++ here2 ∷ behind2 → m ≡ length before2 + 1
    → words_of_lines before ≡ words_of_lines before2 → words here ≡ words here2 → AreAlike text n other m
are_alike text other n m before behind before2 behind2 here here2 cut count cut2 count2 same is = record {
  before = ap words_of_lines (front_before (lines text) before behind here n cut count)
      ∙ same
      ∙ sym (ap words_of_lines (front_before (lines other) before2 behind2 here2 m cut2 count2));
  through = ap words_of_lines (front_through (lines text) before behind here n cut count)
      ∙ worded_append before (here ∷ [])
      ∙ ap (λ x. x ++ kept_words (words here) []) same
      ∙ ap (λ ws. words_of_lines before2 ++ kept_words ws []) is
      ∙ sym (worded_append before2 (here2 ∷ []))
      ∙ sym (ap words_of_lines (front_through (lines other) before2 behind2 here2 m cut2 count2));
}

-- a fault of the same cause, at a line that is alike
abbrev Moved : List ℕ → List ℕ → AsmFault → Type 0
Moved text other f =
    (g : AsmFault) × (scenario_of_text other ≡ Err g) × (g.cause ≡ f.cause) × AreAlike text f.line other g.line

blank_worded : (ls : List (List ℕ)) → AreBlank ls → words_of_lines ls ≡ []
blank_worded [] h = refl
blank_worded (line ∷ more) h = ap (λ ws. kept_words ws (words_of_lines more)) h.0 ∙ blank_worded more h.1

worded_blank_by : (ws : List (List ℕ)) (line : List ℕ) (more : List (List ℕ)) → words line ≡ ws
    → kept_words ws (words_of_lines more) ≡ [] → (words_of_lines more ≡ [] → AreBlank more) → AreBlank (line ∷ more)
worded_blank_by [] line more is h rest = (is, rest h)
worded_blank_by (w ∷ ws) line more is h rest = absurd cc

worded_blank : (ls : List (List ℕ)) → words_of_lines ls ≡ [] → AreBlank ls
worded_blank [] h = tt
worded_blank (line ∷ more) h = worded_blank_by (words line) line more refl h (λ g. worded_blank more g)

blank_front : (ls : List (List ℕ)) (n : ℕ) → AreBlank ls → words_of_lines (take n ls) ≡ []
blank_front ls n h =
    blank_worded (take n ls)
    (each_front (λ line. words line ≡ []) (take n ls) (drop n ls) (subst AreBlank (sym (take-append-drop n ls)) h))

-- of texts that state nothing
nothing_moved : (text other : List ℕ) (f : AsmFault) → words_of_lines (lines text) ≡ words_of_lines (lines other)
    → scenario_of_text text ≡ Err f → StatesNothing text → Moved text other f
nothing_moved text other f same h states =
    let too : StatesNothing other =
    worded_blank (lines other) (sym same ∙ blank_worded (lines text) states) in
    let is =
    same_whole (scenario_of_text text) (record { line = 1; cause = Missing }) f (nothing_is_missing text states) h in (
      f,
      nothing_is_missing other too ∙ ap (λ g. Err g) is,
      refl,
      record {
        before = blank_front (lines text) (f.line - 1) states ∙ sym (blank_front (lines other) (f.line - 1) too);
        through = blank_front (lines text) f.line states ∙ sym (blank_front (lines other) f.line too);
      },
    )

stop_moved : (text other : List ℕ) (f : AsmFault) → words_of_lines (lines text) ≡ words_of_lines (lines other)
    → (s : StopsAt (lines text) 0 nothing f) → f ≡ record { line = 0 + length s.before + 1; cause = s.cause }
    → Moved text other f
stop_moved text other f same s what =
    let some = has_words (words s.here) s.draft s.cause s.refused in
    let place = found (lines other) (words_of_lines s.before) (words_of_lines s.behind) some.0 some.1
    (sym same ∙ ap words_of_lines s.cut ∙ worded_append s.before (s.here ∷ s.behind)
    ∙ ap (λ ws. words_of_lines s.before ++ kept_words ws (words_of_lines s.behind)) some.2) in
    let words_same : words s.here ≡ words place.here = some.2 ∙ sym place.is in (
      record { line = length place.before + 1; cause = s.cause },
      fault_at other (length place.before + 1) s.cause place.before place.behind place.here s.draft place.cut refl
          (alike_taken s.before place.before nothing s.draft (sym place.same) s.taken)
          (ap (λ ws. after_words ws s.draft) (sym words_same) ∙ s.refused),
      sym (ap (λ x. x.cause) what),
      are_alike text other f.line (length place.before + 1) s.before s.behind place.before place.behind s.here
          place.here s.cut (line_is f _ what ∙ number (length s.before)) place.cut refl (sym place.same) words_same,
    )

moved_by : (text other : List ℕ) (f : AsmFault) (r : Result Draft AsmFault)
    → words_of_lines (lines text) ≡ words_of_lines (lines other)
    → scenario_of_text text ≡ Err f → lines_after (lines text) 0 nothing ≡ r → whole_of r ≡ Err f → Moved text other f
moved_by text other f (Ok d) same all is h =
    nothing_moved text other f same all (states_nothing text d d.begun f refl is h).0
moved_by text other f (Err first) same all is h =
    let equal : first ≡ f = cc in
    let so : lines_after (lines text) 0 nothing ≡ Err f = is ∙ ap (λ g. Err g) equal in
    let s = stops_at (lines text) 0 nothing f so in
    stop_moved text other f same s (stop_is (lines text) 0 nothing f so s)

pub move_faults : BlankLinesMoveFaults
move_faults text other f same h = moved_by text other f (lines_after (lines text) 0 nothing) same h refl h
