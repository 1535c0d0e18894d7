-- A text says one list of links at most.
use Rattle.std.proofs.Common.{◌≡◌, ℕ, ◌<◌, ◌==◌, Bool, true, false, not, List, [], ◌∷◌, ◌++◌, Ok, refl, sym, ap}
use Rattle.std.proofs.Common.{subst, ◌∙◌, arith, ne_eqb}
use Rattle.std.specs.Fmt.{decimal}
use Rattle.std.specs.Int.{IsInRange}
use Rattle.std.specs.List.{list_all}
use Rattle.std.specs.Str.Parse.{AllDigits}
use Rattle.std.proofs.lemmas.Bool.{false≢true, and_parts, and_from}
use Rattle.std.proofs.lemmas.Fmt.{decimal_is_IsNumeral}
use Rattle.std.proofs.lemmas.Str.Parse.{digit_from_value}
use Rattle.object_defs.specs.declared.path.Path.{Path}
use Rattle.object_defs.specs.declared.path.Path.TheVariants.{Object, Instance, Resource, Part}
use Rattle.object_defs.specs.Path.{path_text}
use Rattle.scenario_words.specs.PathWord.{IsPath, path_of}
use Rattle.scenario_words.proofs.PathLaws.{path_law}
use Rattle.laws_discover.specs.Links.{AreMoreLinks, AreParameters, IsLink, LinksHaveOneReading, PathLink}
use Rattle.laws_discover.specs.Links.{is_name_char, is_value_char}

-- a text in two parts: characters that pass a test, up to one that does not

BeginsOutside : (ℕ → Bool) → List ℕ → Type 0
BeginsOutside test [] = Unit {0}
BeginsOutside test (c ∷ cs) = test c ≡ false

one_cut : (test : ℕ → Bool) (a b c d : List ℕ) → list_all test a ≡ true → list_all test c ≡ true
    → BeginsOutside test b → BeginsOutside test d → a ++ b ≡ c ++ d → (a ≡ c) × (b ≡ d)
unfolding BeginsOutside
one_cut test [] b [] d p q s r e = (refl, e)
one_cut test [] b (y ∷ c) d p q s r e =
    let stop : test y ≡ false = subst (BeginsOutside test) e s in
    absurd (false≢true (sym stop ∙ (and_parts (test y) (list_all test c) q).0))
one_cut test (x ∷ a) b [] d p q s r e =
    let stop : test x ≡ false = subst (BeginsOutside test) (sym e) r in
    absurd (false≢true (sym stop ∙ (and_parts (test x) (list_all test a) p).0))
one_cut test (x ∷ a) b (y ∷ c) d p q s r e =
    let head : x ≡ y = cc in
    let tail : a ++ b ≡ c ++ d = cc in
    let rest =
    one_cut test a b c d (and_parts (test x) (list_all test a) p).1 (and_parts (test y) (list_all test c) q).1 s r tail
    in
    ((λ i. head i ∷ rest.0 i), rest.1)

-- texts all of whose characters pass a test

pub joined_passes : (test : ℕ → Bool) (a b : List ℕ) → list_all test a ≡ true → list_all test b ≡ true
    → list_all test (a ++ b) ≡ true
joined_passes test [] b p q = q
joined_passes test (x ∷ a) b p q =
    let h = and_parts (test x) (list_all test a) p in and_from (test x) _ h.0 (joined_passes test a b h.1 q)

pub weaker_passes : (test other : ℕ → Bool) → ((c : ℕ) → test c ≡ true → other c ≡ true) → (t : List ℕ)
    → list_all test t ≡ true → list_all other t ≡ true
weaker_passes test other weaker [] h = refl
weaker_passes test other weaker (c ∷ t) h =
    let p = and_parts (test c) (list_all test t) h in
    and_from (other c) (list_all other t) (weaker c p.0) (weaker_passes test other weaker t p.1)

pub digits_pass : (test : ℕ → Bool) → ((c : ℕ) → IsInRange 48 57 c → test c ≡ true) → (t : List ℕ) → AllDigits 10 t
    → list_all test t ≡ true
digits_pass test digits [] h = refl
digits_pass test digits (c ∷ t) h =
    and_from (test c) (list_all test t) (digits c (digit_from_value c h.0)) (digits_pass test digits t h.1)

decimal_passes : (test : ℕ → Bool) → ((c : ℕ) → IsInRange 48 57 c → test c ≡ true) → (n : ℕ) → n < 65536
    → list_all test (decimal n) ≡ true
decimal_passes test digits n small =
    digits_pass test digits (decimal n) (decimal_is_IsNumeral n (omega arith)).0.1

slashed : (test : ℕ → Bool) → test 47 ≡ true → (t : List ℕ) → list_all test t ≡ true → list_all test (47 ∷ t) ≡ true
slashed test slash t h = and_from (test 47) (list_all test t) slash h

path_passes : (test : ℕ → Bool) → ((c : ℕ) → IsInRange 48 57 c → test c ≡ true) → test 47 ≡ true → (p : Path)
    → IsPath p → list_all test (path_text p) ≡ true
path_passes test digits slash (Object o) h = slashed test slash _ (decimal_passes test digits o h)
path_passes test digits slash (Instance o i) h =
    slashed test slash _ (joined_passes test (decimal o) _ (decimal_passes test digits o h.0)
    (slashed test slash _ (decimal_passes test digits i h.1)))
path_passes test digits slash (Resource o i r) h =
    slashed test slash _ (joined_passes test (decimal o) _ (decimal_passes test digits o h.0)
    (slashed test slash _ (joined_passes test (decimal i) _ (decimal_passes test digits i h.1)
    (slashed test slash _ (decimal_passes test digits r h.2)))))
path_passes test digits slash (Part o i r p) h =
    slashed test slash _ (joined_passes test (decimal o) _ (decimal_passes test digits o h.0)
    (slashed test slash _ (joined_passes test (decimal i) _ (decimal_passes test digits i h.1)
    (slashed test slash _ (joined_passes test (decimal r) _ (decimal_passes test digits r h.2)
    (slashed test slash _ (decimal_passes test digits p h.3)))))))

-- any character but one

abbrev Other : ℕ → ℕ → Bool
Other k c = not (c == k)

other : (k c : ℕ) → (c ≡ k → ⊥) → Other k c ≡ true
other k c h = ap not (ne_eqb c k h)

-- a character that passes a test is not one that does not
apart : (test : ℕ → Bool) (k : ℕ) → test k ≡ false → (c : ℕ) → test c ≡ true → Other k c ≡ true
apart test k fails c passes = other k c (λ e. false≢true (sym fails ∙ sym (ap test e) ∙ passes))

path_without : (k : ℕ) → (k ≡ 47 → ⊥) → (IsInRange 48 57 k → ⊥) → (p : Path) → IsPath p
    → list_all (Other k) (path_text p) ≡ true
path_without k slash digit p h =
    path_passes (Other k) (λ c r. other k c (λ e. digit (subst (IsInRange 48 57) e r)))
    (other k 47 (λ e. slash (sym e))) p h

-- parameters

parameters_end : (text : List ℕ) (ps : List (List ℕ × List ℕ)) → AreParameters text ps
    → BeginsOutside is_value_char text
unfolding BeginsOutside
parameters_end text [] h = subst (BeginsOutside is_value_char) (sym h) tt
parameters_end text (p ∷ ps) h = subst (BeginsOutside is_value_char) (sym h.1) refl

one_parameters : (text : List ℕ) (ps qs : List (List ℕ × List ℕ)) → AreParameters text ps → AreParameters text qs
    → ps ≡ qs
unfolding BeginsOutside
one_parameters text [] [] h k = refl
one_parameters text [] (q ∷ qs) h k =
    let e : [] ≡ 59 ∷ q.0 ++ 61 ∷ (q.1 ++ k.0) = sym h ∙ k.1 in cc e
one_parameters text (p ∷ ps) [] h k =
    let e : [] ≡ 59 ∷ p.0 ++ 61 ∷ (p.1 ++ h.0) = sym k ∙ h.1 in cc e
one_parameters text (p ∷ ps) (q ∷ qs) h k =
    let e : 59 ∷ p.0 ++ 61 ∷ (p.1 ++ h.0) ≡ 59 ∷ q.0 ++ 61 ∷ (q.1 ++ k.0) = sym h.1 ∙ k.1 in
    let tail : p.0 ++ 61 ∷ (p.1 ++ h.0) ≡ q.0 ++ 61 ∷ (q.1 ++ k.0) = cc e in
    let names = one_cut is_name_char p.0 _ q.0 _ h.2.1 k.2.1 refl refl tail in
    let value : p.1 ++ h.0 ≡ q.1 ++ k.0 = cc names.1 in
    let values = one_cut is_value_char p.1 h.0 q.1 k.0 h.3.1 k.3.1 (parameters_end h.0 ps h.4)
    (parameters_end k.0 qs k.4) value in
    let rest = one_parameters k.0 ps qs (subst (λ t. AreParameters t ps) values.1 h.4) k.4 in
    λ i. (names.0 i, values.0 i) ∷ rest i

parameters_without_comma : (text : List ℕ) (ps : List (List ℕ × List ℕ)) → AreParameters text ps
    → list_all (Other 44) text ≡ true
parameters_without_comma text [] h = ap (list_all (Other 44)) h
parameters_without_comma text (p ∷ ps) h =
    ap (list_all (Other 44)) h.1
    ∙ joined_passes (Other 44) p.0 (61 ∷ (p.1 ++ h.0))
    (weaker_passes is_name_char (Other 44) (apart is_name_char 44 refl) p.0 h.2.1)
    (joined_passes (Other 44) p.1 h.0 (weaker_passes is_value_char (Other 44) (apart is_value_char 44 refl) p.1 h.3.1)
    (parameters_without_comma h.0 ps h.4))

-- links

same_path : (p q : Path) → IsPath p → IsPath q → path_text p ≡ path_text q → p ≡ q
same_path p q h k e =
    let one : path_of (path_text p) ≡ Ok p = (path_law (path_text p) p).1 (refl, h) in
    let two : path_of (path_text q) ≡ Ok q = (path_law (path_text q) q).1 (refl, k) in
    let both_are : Ok p ≡ Ok q = sym one ∙ ap path_of e ∙ two in
    cc both_are

one_link : (text : List ℕ) (l m : PathLink) → IsLink text l → IsLink text m → l ≡ m
unfolding BeginsOutside
one_link text l m h k =
    let e : 60 ∷ path_text l.path ++ 62 ∷ h.0 ≡ 60 ∷ path_text m.path ++ 62 ∷ k.0 = sym h.1 ∙ k.1 in
    let tail : path_text l.path ++ 62 ∷ h.0 ≡ path_text m.path ++ 62 ∷ k.0 = cc e in
    let paths = one_cut (Other 62) (path_text l.path) (62 ∷ h.0) (path_text m.path) (62 ∷ k.0)
    (path_without 62 (λ r. omega (arith, r)) (λ r. omega (arith, r.1)) l.path h.2)
    (path_without 62 (λ r. omega (arith, r)) (λ r. omega (arith, r.1)) m.path k.2)
    refl refl tail in
    let path = same_path l.path m.path h.2 k.2 paths.0 in
    let behind : h.0 ≡ k.0 = cc paths.1 in
    let parameters =
    one_parameters k.0 l.parameters m.parameters (subst (λ t. AreParameters t l.parameters) behind h.3) k.3 in
    λ i. record { path = path i; parameters = parameters i }

link_without_comma : (text : List ℕ) (l : PathLink) → IsLink text l → list_all (Other 44) text ≡ true
link_without_comma text l h =
    ap (list_all (Other 44)) h.1
    ∙ joined_passes (Other 44) (path_text l.path) (62 ∷ h.0)
    (path_without 44 (λ r. omega (arith, r)) (λ r. omega (arith, r.0)) l.path h.2)
    (parameters_without_comma h.0 l.parameters h.3)

more_end : (text : List ℕ) (ls : List PathLink) → AreMoreLinks text ls → BeginsOutside (Other 44) text
unfolding BeginsOutside
more_end text [] h = subst (BeginsOutside (Other 44)) (sym h) tt
more_end text (l ∷ ls) h = subst (BeginsOutside (Other 44)) (sym h.2) refl

first_and_more : (a b c d : List ℕ) (l m : PathLink) (ls ms : List PathLink) → a ++ b ≡ c ++ d → IsLink a l → IsLink c m
    → AreMoreLinks b ls → AreMoreLinks d ms → (l ≡ m) × (b ≡ d)
first_and_more a b c d l m ls ms e h k g f =
    let cut = one_cut (Other 44) a b c d (link_without_comma a l h) (link_without_comma c m k) (more_end b ls g)
    (more_end d ms f) e in
    (one_link c l m (subst (λ t. IsLink t l) cut.0 h) k, cut.1)

one_more : (text : List ℕ) (ls ms : List PathLink) → AreMoreLinks text ls → AreMoreLinks text ms → ls ≡ ms
one_more text [] [] h k = refl
one_more text [] (m ∷ ms) h k =
    let e : [] ≡ 44 ∷ k.0 ++ k.1 = sym h ∙ k.2 in cc e
one_more text (l ∷ ls) [] h k =
    let e : [] ≡ 44 ∷ h.0 ++ h.1 = sym k ∙ h.2 in cc e
one_more text (l ∷ ls) (m ∷ ms) h k =
    let e : 44 ∷ h.0 ++ h.1 ≡ 44 ∷ k.0 ++ k.1 = sym h.2 ∙ k.2 in
    let tail : h.0 ++ h.1 ≡ k.0 ++ k.1 = cc e in
    let parts = first_and_more h.0 h.1 k.0 k.1 l m ls ms tail h.3 k.3 h.4 k.4 in
    let rest = one_more k.1 ls ms (subst (λ t. AreMoreLinks t ls) parts.1 h.4) k.4 in
    λ i. parts.0 i ∷ rest i

not_empty : (a b : List ℕ) (l : PathLink) → [] ≡ a ++ b → IsLink a l → ⊥
not_empty a b l e h =
    let f : [] ≡ 60 ∷ (path_text l.path ++ 62 ∷ h.0) ++ b = e ∙ ap (λ t. t ++ b) h.1 in cc f

pub one_reading : LinksHaveOneReading
one_reading text [] [] h k = refl
one_reading text [] (m ∷ ms) h k = absurd (not_empty k.0 k.1 m (sym h ∙ k.2) k.3)
one_reading text (l ∷ ls) [] h k = absurd (not_empty h.0 h.1 l (sym k ∙ h.2) h.3)
one_reading text (l ∷ ls) (m ∷ ms) h k =
    let parts = first_and_more h.0 h.1 k.0 k.1 l m ls ms (sym h.2 ∙ k.2) h.3 k.3 h.4 k.4 in
    let rest = one_more k.1 ls ms (subst (λ t. AreMoreLinks t ls) parts.1 h.4) k.4 in
    λ i. parts.0 i ∷ rest i
