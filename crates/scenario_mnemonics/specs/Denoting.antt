-- The mnemonic of a datagram: of those that its message may have, the one whose datagram it is. There is no other (the
-- law `one_mnemonic`).
use Rattle.std.specs.Prelude.{ℕ, ◌==◌, Bool, ◌&&◌, List, [], ◌∷◌, ◌++◌, map, filter, find, Option, option_to_list}
use Rattle.std.specs.Prelude.{option_and_then, if◌then◌else◌}
use Rattle.std.specs.Str.{bytes_eq}
use Rattle.std.specs.List.{flat_map}
use Rattle.std.specs.Result.{result_ok}
use Rattle.coap_codec.specs.declared.option.Opt.{Opt}
use Rattle.coap_codec.specs.Message.{Message}
use Rattle.coap_codec.specs.OptionNumber.{uri_path_option, uri_query_option}
use Rattle.coap_codec.specs.Reading.{reading_of}
use Rattle.object_defs.specs.declared.path.Path.{Path}
use Rattle.scenario_words.specs.PathWord.{path_of}
use Rattle.scenario_mnemonics.specs.declared.request_type.RequestType.TheVariants.{Con, Non}
use Rattle.scenario_mnemonics.specs.declared.action.Action.{Action}
use Rattle.scenario_mnemonics.specs.declared.action.Action.TheVariants as act
use Rattle.scenario_mnemonics.specs.declared.mnemonic.Mnemonic.{Mnemonic}
use Rattle.scenario_mnemonics.specs.declared.mnemonic.Mnemonic.TheVariants as mnemonic
use Rattle.scenario_mnemonics.specs.Queries.{are_queries}
use Rattle.scenario_mnemonics.specs.Messages.{datagram_of, fits_mnemonic}
use Rattle.scenario_mnemonics.specs.MnemonicWords.{formats}

-- the values of the options of a number
abbrev pub values : ℕ → List Opt → List (List ℕ)
values number os = flat_map (λ o. if o.number == number then o.value ∷ [] else []) os

-- the actions whose queries and payload a message may have
abbrev pub actions : Message → List Action
actions m =
    act.Discover ∷ act.Delete ∷ act.Exec m.payload
    ∷ (map (λ qs. act.Attr qs) (filter are_queries (values uri_query_option m.options ∷ []))
    ++ flat_map (λ f. act.Read f ∷ act.Observe f ∷ act.Cancel f ∷ act.Write f m.payload ∷ act.Update f m.payload
    ∷ act.Create f m.payload ∷ []) formats)

-- its requests for a path
abbrev pub requests : Message → Path → List Mnemonic
requests m p = flat_map (λ a. map (λ k. mnemonic.Request (record
    { kind = k; mid = m.mid; token = m.token; path = p; action = a })) (Con ∷ Non ∷ [])) (actions m)

-- its Reset, and its requests for the path that its segments are, each after a `/`
abbrev pub candidates : Message → List Mnemonic
candidates m = mnemonic.Reset m.mid ∷ flat_map (requests m)
    (option_to_list (result_ok (path_of (flat_map (λ s. 47 ∷ s) (values uri_path_option m.options)))))

-- it fits, and the datagram is its own
abbrev pub is_own : List ℕ → Mnemonic → Bool
is_own bytes m = fits_mnemonic m && bytes_eq (datagram_of m) bytes

-- the mnemonic of a datagram
abbrev pub mnemonic_of : List ℕ → Option Mnemonic
mnemonic_of bytes = option_and_then (λ m. find (is_own bytes) (candidates m)) (result_ok (reading_of bytes))
