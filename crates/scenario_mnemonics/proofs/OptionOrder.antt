-- The message of a mnemonic is well formed.
use Rattle.std.proofs.Common.{◌≡◌, ℕ, ◌<◌, ◌≤◌, not, ◌&&◌, eqb, leb, true, List, [], ◌∷◌, ◌++◌, length, refl, arith}
use Rattle.std.specs.List.{list_all, AllByRecursion}
use Rattle.std.specs.Fmt.{decimal}
use Rattle.std.proofs.lemmas.Fmt.{length-decimal-le}
use Rattle.std.proofs.lemmas.Bool.{and_parts, leb-true}
use Rattle.std.specs.Char.{is_ascii_graphic}
use Rattle.coap_codec.specs.declared.option.Opt.{Opt}
use Rattle.coap_codec.specs.Message.{IsOptionList, IsWellFormed}
use Rattle.object_defs.specs.declared.path.Path.{Path}
use Rattle.object_defs.specs.declared.path.Path.TheVariants.{Object, Instance, Resource, Part}
use Rattle.scenario_words.specs.PathWord.{IsPath}
use Rattle.scenario_mnemonics.specs.declared.format.Format.{Format}
use Rattle.scenario_mnemonics.specs.declared.format.Format.TheVariants as format
use Rattle.scenario_mnemonics.specs.declared.action.Action.{Action}
use Rattle.scenario_mnemonics.specs.declared.action.Action.TheVariants as act
use Rattle.scenario_mnemonics.specs.declared.mnemonic.Request.{Request}
use Rattle.scenario_mnemonics.specs.declared.mnemonic.Mnemonic.{Mnemonic}
use Rattle.scenario_mnemonics.specs.declared.mnemonic.Mnemonic.TheVariants as mnemonic
use Rattle.scenario_mnemonics.specs.Queries.{is_query}
use Rattle.scenario_mnemonics.specs.Messages.{fields_of, options_with, format_values, segments, options_of, message_of}
use Rattle.scenario_mnemonics.specs.Messages.{has_words, IsGood}

abbrev Short : List ℕ → Type 0
Short v = length v ≤ 65804

lower : (n k : ℕ) (os : List Opt) → n ≤ k → IsOptionList k os → IsOptionList n os
lower n k [] h t = tt
lower n k (o ∷ os) h t =
    (record { ascends = omega (arith, h, t.0.ascends); in_range = t.0.in_range; fits = t.0.fits }, t.1)

-- options of one number, after one of no greater number and before others
list_then : (n k : ℕ) (vs : List (List ℕ)) (tail : List Opt) → n ≤ k → k < 65536 → AllByRecursion Short vs
    → IsOptionList k tail → IsOptionList n (options_with k vs ++ tail)
list_then n k [] tail h small short t = lower n k tail h t
list_then n k (v ∷ vs) tail h small short t =
    (record { ascends = h; in_range = small; fits = short.0 }, list_then k k vs tail (omega arith) small short.1 t)

list_alone : (n k : ℕ) (vs : List (List ℕ)) → n ≤ k → k < 65536 → AllByRecursion Short vs
    → IsOptionList n (options_with k vs)
list_alone n k [] h small short = tt
list_alone n k (v ∷ vs) h small short =
    (record { ascends = h; in_range = small; fits = short.0 }, list_alone k k vs (omega arith) small short.1)

short_decimal : (n : ℕ) → n < 65536 → Short (decimal n)
short_decimal n h = omega (arith, length-decimal-le 5 n (omega (arith)) (omega (arith, h)) (omega (arith, h)))

short_segments : (p : Path) → IsPath p → AllByRecursion Short (segments p)
short_segments (Object o) h = (short_decimal o h, tt)
short_segments (Instance o i) h = (short_decimal o h.0, (short_decimal i h.1, tt))
short_segments (Resource o i r) h = (short_decimal o h.0, (short_decimal i h.1, (short_decimal r h.2, tt)))
short_segments (Part o i r n) h =
    (short_decimal o h.0, (short_decimal i h.1, (short_decimal r h.2, (short_decimal n h.3, tt))))

short_format : (f : Format) → AllByRecursion Short (format_values f)
short_format format.Any = tt
short_format format.Text = (omega arith, tt)
short_format format.Opaque = (omega arith, tt)
short_format format.Tlv = (omega arith, tt)

short_observe : (a : Action) → AllByRecursion Short (fields_of a).observe
short_observe (act.Read f) = tt
short_observe (act.Observe f) = (omega arith, tt)
short_observe (act.Cancel f) = (omega arith, tt)
short_observe act.Discover = tt
short_observe act.Delete = tt
short_observe (act.Write f b) = tt
short_observe (act.Update f b) = tt
short_observe (act.Create f b) = tt
short_observe (act.Attr qs) = tt
short_observe (act.Exec b) = tt

short_content : (a : Action) → AllByRecursion Short (fields_of a).content
short_content (act.Read f) = tt
short_content (act.Observe f) = tt
short_content (act.Cancel f) = tt
short_content act.Discover = tt
short_content act.Delete = tt
short_content (act.Write f b) = short_format f
short_content (act.Update f b) = short_format f
short_content (act.Create f b) = short_format f
short_content (act.Attr qs) = tt
short_content (act.Exec b) = tt

short_accept : (a : Action) → AllByRecursion Short (fields_of a).accept
short_accept (act.Read f) = short_format f
short_accept (act.Observe f) = short_format f
short_accept (act.Cancel f) = short_format f
short_accept act.Discover = (omega arith, tt)
short_accept act.Delete = tt
short_accept (act.Write f b) = tt
short_accept (act.Update f b) = tt
short_accept (act.Create f b) = tt
short_accept (act.Attr qs) = tt
short_accept (act.Exec b) = tt

short_query : (q : List ℕ) → is_query q ≡ true → Short q
short_query [] h = omega arith
short_query (b ∷ bs) h =
    let behind = and_parts (not (eqb b 35) && not (eqb b 34))
    (leb (length (b ∷ bs)) 255 && list_all is_ascii_graphic (b ∷ bs)) h in
    let size : length (b ∷ bs) ≤ 255 =
    leb-true (length (b ∷ bs)) 255 (and_parts (leb (length (b ∷ bs)) 255)
    (list_all is_ascii_graphic (b ∷ bs)) behind.1).0 in
    omega (arith, size)

short_each : (qs : List (List ℕ)) → list_all is_query qs ≡ true → AllByRecursion Short qs
short_each [] h = tt
short_each (q ∷ qs) h = let both =
    and_parts (is_query q) (list_all is_query qs) h in (short_query q both.0, short_each qs both.1)

short_queries : (a : Action) → has_words a ≡ true → AllByRecursion Short (fields_of a).queries
short_queries (act.Read f) h = tt
short_queries (act.Observe f) h = tt
short_queries (act.Cancel f) h = tt
short_queries act.Discover h = tt
short_queries act.Delete h = tt
short_queries (act.Write f b) h = tt
short_queries (act.Update f b) h = tt
short_queries (act.Create f b) h = tt
short_queries (act.Attr qs) h = short_each qs (and_parts _ _ h).1
short_queries (act.Exec b) h = tt

pub options_good : (p : Path) (a : Action) → IsPath p → has_words a ≡ true → IsOptionList 0 (options_of p a)
options_good p a path words =
    list_then 0 6 (fields_of a).observe _ (omega arith) (omega arith) (short_observe a)
    (list_then 6 11 (segments p) _ (omega arith) (omega arith) (short_segments p path)
    (list_then 11 12 (fields_of a).content _ (omega arith) (omega arith) (short_content a)
    (list_then 12 15 (fields_of a).queries _ (omega arith) (omega arith) (short_queries a words)
    (list_alone 15 17 (fields_of a).accept (omega arith) (omega arith) (short_accept a)))))

code_small : (a : Action) → (fields_of a).code < 256
code_small (act.Read f) = omega arith
code_small (act.Observe f) = omega arith
code_small (act.Cancel f) = omega arith
code_small act.Discover = omega arith
code_small act.Delete = omega arith
code_small (act.Write f b) = omega arith
code_small (act.Update f b) = omega arith
code_small (act.Create f b) = omega arith
code_small (act.Attr qs) = omega arith
code_small (act.Exec b) = omega arith

pub code_some : (a : Action) → (fields_of a).code ≡ 0 → ⊥
code_some (act.Read f) h = cc
code_some (act.Observe f) h = cc
code_some (act.Cancel f) h = cc
code_some act.Discover h = cc
code_some act.Delete h = cc
code_some (act.Write f b) h = cc
code_some (act.Update f b) h = cc
code_some (act.Create f b) h = cc
code_some (act.Attr qs) h = cc
code_some (act.Exec b) h = cc

pub request_well_formed : (r : Request) → r.mid < 65536 → length r.token ≤ 8 → IsPath r.path → has_words r.action ≡ true
    → IsWellFormed (message_of (mnemonic.Request r))
request_well_formed r mid token path words =
    record {
      code = code_small r.action;
      mid = mid;
      token = token;
      options =
          options_good r.path r.action path words;
      empty = λ z. absurd (code_some r.action z);
    }

pub well_formed : (m : Mnemonic) → IsGood m → IsWellFormed (message_of m)
well_formed (mnemonic.Request r) h = request_well_formed r h.mid h.token h.path h.queries
well_formed (mnemonic.Reset mid) h =
    record { code = omega arith; mid = h; token = omega arith; options = tt; empty = λ z. (refl, refl, refl) }
