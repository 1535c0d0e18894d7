-- What the options of a request say (RFC 7252 sections 5.4 and 5.10; RFC 7641 section 2).
use Rattle.std.specs.Prelude.{◌≡◌, ◌≢◌, ◌≤◌, ◌<◌, ◌+◌, ◌*◌, ◌%◌, ◌↔◌, ◌⊎◌, ℕ, false, List, [], ◌∷◌, ◌++◌, length}
use Rattle.std.specs.Prelude.{Some}
use Rattle.std.specs.Fmt.{decimal}
use Rattle.coap_codec.specs.Message.{Message}
use Rattle.coap_codec.specs.declared.option.Opt.{Opt}
use Rattle.object_defs.specs.declared.path.Path.{Path}
use Rattle.object_defs.specs.declared.path.Path.TheVariants.{Object, Instance, Resource, Part}
use Rattle.device_requests.specs.Client.{Client}
use Rattle.device_requests.specs.Laws.{IsAmong}
use Rattle.device_requests.specs.Options.{accept_of, content_format_of, has_unrecognized_critical}
use Rattle.device_requests.specs.Options.{observe_of, path_of, queries_of, segments_of}
use Rattle.device_requests.specs.Request.{outcome_of}

-- the numbers of the options that are recognized, each with the lengths that its value may have (RFC 7252 section 5.10,
-- table 4; RFC 7641 section 2)
pub data IsRecognized : ℕ → ℕ → Type 0 where
  uri_host : (size : ℕ) → 1 ≤ size → size ≤ 255 → IsRecognized 3 size
  observe : (size : ℕ) → size ≤ 3 → IsRecognized 6 size
  uri_port : (size : ℕ) → size ≤ 2 → IsRecognized 7 size
  uri_path : (size : ℕ) → size ≤ 255 → IsRecognized 11 size
  content_format : (size : ℕ) → size ≤ 2 → IsRecognized 12 size
  uri_query : (size : ℕ) → size ≤ 255 → IsRecognized 15 size
  accept : (size : ℕ) → size ≤ 2 → IsRecognized 17 size

-- no option of a number stands among these
abbrev pub HasNo : ℕ → List Opt → Type 0
HasNo number options = (o : Opt) → IsAmong o options → o.number ≢ number

-- an option after others is understood: it is a recognized one, and Uri-Path, Uri-Query or the first of its number
pub record IsUnderstood (before : List Opt) (o : Opt) : Type 0 where
  pub recognized : IsRecognized o.number (length o.value)
  pub once : (o.number ≡ 11) ⊎ ((o.number ≡ 15) ⊎ HasNo o.number before)

-- what refuses the options of a request: one with an odd number that is not understood where it stands
abbrev pub CriticalIsUnderstood : Type 0
CriticalIsUnderstood =
    (options : List Opt) → (has_unrecognized_critical options ≡ false)
    ↔ ((before after : List Opt) (o : Opt) → options ≡ before ++ o ∷ after → o.number % 2 ≡ 1
    → IsUnderstood before o)

-- bytes as a number, the high byte first; zeros may stand in front (RFC 7252 section 3.2)
pub data BytesSay : List ℕ → ℕ → Type 0 where
  no_byte : BytesSay [] 0
  one_byte : (a : ℕ) → BytesSay (a ∷ []) a
  two_bytes : (a b : ℕ) → BytesSay (a ∷ b ∷ []) (256 * a + b)
  three_bytes : (a b c : ℕ) → BytesSay (a ∷ b ∷ c ∷ []) (65536 * a + (256 * b + c))

-- the first option of a number has this value, of at most `most` bytes
pub record FirstSays (number most : ℕ) (options : List Opt) (n : ℕ) : Type 0 where
  pub before : List Opt
  pub first : Opt
  pub after : List Opt
  pub splits : options ≡ before ++ first ∷ after
  pub none_before : HasNo number before
  pub is_one : first.number ≡ number
  pub fits : length first.value ≤ most
  pub says : BytesSay first.value n

-- Accept is 17, Content-Format 12, Observe 6: each says the number of the first one, unless that one is too long
abbrev pub FirstNames : Type 0
FirstNames =
    (options : List Opt) (n : ℕ)
    → ((accept_of options ≡ Some n) ↔ FirstSays 17 2 options n)
    × ((content_format_of options ≡ Some n) ↔ FirstSays 12 2 options n)
    × ((observe_of options ≡ Some n) ↔ FirstSays 6 3 options n)

-- segments that name a path: one to four numbers below 65,536, each as it is written in decimal
pub data NamePath : List (List ℕ) → Path → Type 0 where
  name_object : (o : ℕ) → o < 65536 → NamePath (decimal o ∷ []) (Object o)
  name_instance : (o i : ℕ) → o < 65536 → i < 65536 → NamePath (decimal o ∷ decimal i ∷ []) (Instance o i)
  name_resource : (o i r : ℕ) → o < 65536 → i < 65536 → r < 65536
      → NamePath (decimal o ∷ decimal i ∷ decimal r ∷ []) (Resource o i r)
  name_part : (o i r n : ℕ) → o < 65536 → i < 65536 → r < 65536 → n < 65536
      → NamePath (decimal o ∷ decimal i ∷ decimal r ∷ decimal n ∷ []) (Part o i r n)

abbrev pub SegmentsName : Type 0
SegmentsName = (segments : List (List ℕ)) (path : Path) → (path_of segments ≡ Some path) ↔ NamePath segments path

-- the values of the options of a number, in their order
pub data AreValues (number : ℕ) : List Opt → List (List ℕ) → Type 0 where
  no_value : AreValues number [] []
  its_value : (o : Opt) (rest : List Opt) (values : List (List ℕ)) → o.number ≡ number → AreValues number rest values
      → AreValues number (o ∷ rest) (o.value ∷ values)
  other_option : (o : Opt) (rest : List Opt) (values : List (List ℕ)) → o.number ≢ number
      → AreValues number rest values → AreValues number (o ∷ rest) values

-- the segments are the values of the Uri-Paths, 11, the queries those of the Uri-Queries, 15
abbrev pub ValuesInOrder : Type 0
ValuesInOrder =
    (options : List Opt) → AreValues 11 options (segments_of options) × AreValues 15 options (queries_of options)

-- a message with other options
abbrev pub with_options : Message → List Opt → Message
with_options m options = record m { options = options }

-- an option that says nothing where the options are understood: Uri-Host and Uri-Port, and one with an even number that
-- is not recognized
abbrev pub SaysNothing : Opt → Type 0
SaysNothing o =
    (o.number ≡ 3) ⊎ ((o.number ≡ 7) ⊎ ((o.number % 2 ≡ 0) × (o.number ≢ 6) × (o.number ≢ 12)))

-- it can be left out
abbrev pub OthersSayNothing : Type 0
OthersSayNothing =
    (client : Client) (server : ℕ) (m : Message) (before after : List Opt) (o : Opt)
    → m.options ≡ before ++ o ∷ after → has_unrecognized_critical m.options ≡ false → SaysNothing o
    → outcome_of client server m ≡ outcome_of client server (with_options m (before ++ after))
