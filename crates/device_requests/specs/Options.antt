-- What the options of a request say (RFC 7252 sections 5.4 and 5.10).
use Rattle.std.specs.Prelude.{ℕ, ◌%◌, ◌==◌, nat_lt, nat_le, Bool, ◌&&◌, ◌||◌, not, List, [], ◌∷◌, length, map, filter}
use Rattle.std.specs.Prelude.{find, count_by, Option, None, Some, option_and_then, if◌then◌else◌, option_map}
use Rattle.std.specs.List.{list_any}
use Rattle.coap_codec.specs.Number.{big_endian}
use Rattle.coap_codec.specs.OptionNumber.{uri_host_option, observe_option, uri_port_option, uri_path_option}
use Rattle.coap_codec.specs.OptionNumber.{content_format_option, uri_query_option, accept_option}
use Rattle.coap_codec.specs.declared.option.Opt.{Opt}
use Rattle.object_defs.specs.Decimal.{decimal_number}
use Rattle.object_defs.specs.declared.path.Path.{Path}
use Rattle.object_defs.specs.declared.path.Path.TheVariants.{Object, Instance, Resource, Part}

-- a recognized option, with the least and the greatest length of its value
pub record RecognizedOption : Type 0 where
  pub number : ℕ
  pub least : ℕ
  pub most : ℕ

abbrev pub recognized_option : ℕ → ℕ → ℕ → RecognizedOption
recognized_option number least most = record { number = number; least = least; most = most }

-- the recognized options
abbrev pub known_options : List RecognizedOption
known_options =
    recognized_option uri_host_option 1 255
    ∷ recognized_option observe_option 0 3
    ∷ recognized_option uri_port_option 0 2
    ∷ recognized_option uri_path_option 0 255
    ∷ recognized_option content_format_option 0 2
    ∷ recognized_option uri_query_option 0 255
    ∷ recognized_option accept_option 0 2
    ∷ []

-- the option is a recognized one, and its value has a length that this one may have
abbrev pub has_known_form : Opt → Bool
has_known_form o =
    list_any (λ k. k.number == o.number && (nat_le k.least (length o.value) && nat_le (length o.value) k.most))
    known_options

-- an odd number: the option must be understood (RFC 7252 section 5.4.1)
abbrev pub is_critical : Opt → Bool
is_critical o = o.number % 2 == 1

-- the option stands there twice or more
abbrev pub repeats : ℕ → List Opt → Bool
repeats number options = nat_lt 1 (count_by (λ o. o.number == number) options)

-- a critical option that is unknown or of a wrong length
abbrev pub has_unknown_critical : List Opt → Bool
has_unknown_critical options = list_any (λ o. is_critical o && not (has_known_form o)) options

-- a critical option that is not recognized; a second Uri-Host, Uri-Port or Accept counts as one (RFC 7252 section
-- 5.4.5)
abbrev pub has_unrecognized_critical : List Opt → Bool
has_unrecognized_critical options =
    ((has_unknown_critical options || repeats uri_host_option options) || repeats uri_port_option options)
    || repeats accept_option options

-- the number in an option of at most two bytes, leading zeros included
abbrev pub short_number : Opt → Option ℕ
short_number o = (if nat_le (length o.value) 2 then Some (big_endian o.value) else None)

-- the format that the first Accept names
abbrev pub accept_of : List Opt → Option ℕ
accept_of options = option_and_then short_number (find (λ o. o.number == accept_option) options)

-- the format that the first Content-Format names; where that one has a wrong length, it is as if there were none
abbrev pub content_format_of : List Opt → Option ℕ
content_format_of options = option_and_then short_number (find (λ o. o.number == content_format_option) options)

-- the segments of the path, in order
abbrev pub segments_of : List Opt → List (List ℕ)
segments_of options = map (λ o. o.value) (filter (λ o. o.number == uri_path_option) options)

-- whether there is a Uri-Query
abbrev pub has_query : List Opt → Bool
has_query options = list_any (λ o. o.number == uri_query_option) options

-- the queries, in order
abbrev pub queries_of : List Opt → List (List ℕ)
queries_of options = map (λ o. o.value) (filter (λ o. o.number == uri_query_option) options)

-- the number in an Observe, which has three bytes at most, leading zeros included
abbrev pub observe_number : Opt → Option ℕ
observe_number o = (if nat_le (length o.value) 3 then Some (big_endian o.value) else None)

-- the number of the first Observe (RFC 7641 section 2); where that one has a wrong length, it is as if there were none
abbrev pub observe_of : List Opt → Option ℕ
observe_of options = option_and_then observe_number (find (λ o. o.number == observe_option) options)

-- the numbers that all the segments are, if each is one
abbrev pub numbers_of : List (List ℕ) → Option (List ℕ)
numbers_of [] = Some []
numbers_of (s ∷ ss) = option_and_then (λ n. option_map (λ ns. n ∷ ns) (numbers_of ss)) (decimal_number s)

-- the path of one to four numbers
abbrev pub path_from : List ℕ → Option Path
path_from [] = None
path_from (o ∷ []) = Some (Object o)
path_from (o ∷ i ∷ []) = Some (Instance o i)
path_from (o ∷ i ∷ r ∷ []) = Some (Resource o i r)
path_from (o ∷ i ∷ r ∷ p ∷ []) = Some (Part o i r p)
path_from (o ∷ i ∷ r ∷ p ∷ n ∷ ns) = None

-- the path that segments name: one to four, each a number from 0 to 65535 in decimal with no leading zero
abbrev pub path_of : List (List ℕ) → Option Path
path_of segments = option_and_then path_from (numbers_of segments)
