use Rattle.std.specs.Prelude.{◌≡◌, ℕ, ◌+◌, ◌*◌, ◌/◌, ◌%◌, Bool, not, ◌==◌, ◌&&◌, ◌||◌, List, [], ◌∷◌, ◌++◌, length}
use Rattle.std.specs.Prelude.{drop, slice_index, nat_lt, if◌then◌else◌, Option, None, Some, MatchOption}
use Rattle.coap_codec.specs.declared.option.Opt.{Opt}
use Rattle.coap_codec.specs.declared.fault.CoapFault.{CoapFault}
use Rattle.coap_codec.specs.declared.fault.CoapFault.TheVariants.{Short, Version, TokenLength, EmptyWithData, OptionCut}
use Rattle.coap_codec.specs.declared.fault.CoapFault.TheVariants.{OptionReserved, OptionNumber, PayloadEmpty}
use Rattle.coap_codec.specs.Message.{IsOptionList, options_bytes}

-- the token length that the first byte gives (RFC 7252 section 3)
abbrev pub token_length : List ℕ → ℕ
token_length bytes = slice_index bytes 0 % 16

-- what is wrong before the options, in this profile's order (RFC 7252 sections 3 and 4.1)
abbrev pub header_fault : List ℕ → Option CoapFault
header_fault bytes =
    if nat_lt (length bytes) 4 then Some Short
    else (if not (slice_index bytes 0 / 64 == 1) then Some Version
    else (if nat_lt 8 (token_length bytes) then Some TokenLength
    else (if slice_index bytes 1 == 0 && (not (token_length bytes == 0) || nat_lt 4 (length bytes))
    then Some EmptyWithData
    else (if nat_lt (length bytes) (4 + token_length bytes) then Some OptionCut else None))))

-- how many bytes extend a nibble below 15 (RFC 7252 section 3.1)
abbrev pub width : ℕ → ℕ
width nibble = if nat_lt nibble 13 then 0 else (if nibble == 13 then 1 else 2)

-- the number that a nibble below 15 and the bytes after it stand for (RFC 7252 section 3.1)
abbrev pub amount : ℕ → List ℕ → ℕ
amount nibble bytes =
    if nat_lt nibble 13 then nibble
    else (if nibble == 13 then 13 + slice_index bytes 0
    else 269 + 256 * slice_index bytes 0 + slice_index bytes 1)

-- what is wrong with the option of this first byte, after one of this number, in the order that its
-- bytes stand in (RFC 7252 section 3.1)
abbrev pub option_fault : ℕ → ℕ → List ℕ → Option CoapFault
option_fault number first rest =
    if first / 16 == 15 || first % 16 == 15 then Some OptionReserved
    else (if nat_lt (length rest) (width (first / 16)) then Some OptionCut
    else (if nat_lt 65535 (number + amount (first / 16) rest) then Some OptionNumber
    else (let behind = drop (width (first / 16)) rest in
    if nat_lt (length behind) (width (first % 16)) then Some OptionCut
    else (if nat_lt (length (drop (width (first % 16)) behind)) (amount (first % 16) behind) then Some OptionCut
    else None))))

-- what is wrong after whole options, the last of this number: nothing where they end, a marker with
-- no payload, or the next option's fault (RFC 7252 section 3)
abbrev pub place_fault : ℕ → List ℕ → Option CoapFault
place_fault number [] = None
place_fault number (first ∷ rest) =
    if first == 255 then (if length rest == 0 then Some PayloadEmpty else None) else option_fault number first rest

-- the number of the last option, or this one where there is none
abbrev pub last_number : ℕ → List Opt → ℕ
last_number number [] = number
last_number number (o ∷ os) = last_number o.number os

-- after one of this number stand whole options, and after them nothing that fits
pub record BreaksOff (number : ℕ) (bytes : List ℕ) (fault : CoapFault) : Type 0 where
  pub whole : List Opt
  pub rest : List ℕ
  pub is_list : IsOptionList number whole
  pub parts : bytes ≡ options_bytes number whole ++ rest
  pub place : place_fault (last_number number whole) rest ≡ Some fault

-- the first fault of the bytes, from the left (RFC 7252 section 3, in this profile's order)
abbrev pub HasFault : List ℕ → CoapFault → Type 0
HasFault bytes fault =
    MatchOption (header_fault bytes) (BreaksOff 0 (drop (4 + token_length bytes) bytes) fault) (λ f. f ≡ fault)

-- the fault of the header, or else of what stands first after the token: an option, or the payload marker
abbrev pub HasEarlyFault : List ℕ → CoapFault → Type 0
HasEarlyFault bytes fault =
    MatchOption (header_fault bytes) (place_fault 0 (drop (4 + token_length bytes) bytes) ≡ Some fault) (λ f. f ≡ fault)

-- a header of version 1 and code 0.00 alone, without a token: an Empty message (RFC 7252 section 4.1)
abbrev pub is_empty_message : List ℕ → Bool
is_empty_message bytes =
    length bytes == 4 && (slice_index bytes 0 / 64 == 1 && (token_length bytes == 0 && slice_index bytes 1 == 0))
