-- The message of a plain Read, from its parts and to them.
use Rattle.std.proofs.Common.{◌≡◌, ℕ, ◌+◌, ◌*◌, ◌<◌, ◌≤◌, Bool, true, List, [], ◌∷◌, ◌++◌, length, Option, None, Some}
use Rattle.std.proofs.Common.{Ok, MatchResult, refl, sym, ap, ◌∙◌, arith}
use Rattle.std.specs.List.{All}
use Rattle.std.proofs.lemmas.Bool.{eq-eqb, le-leb}
use Rattle.std.proofs.lemmas.List.{append-nil}
use Rattle.std.proofs.lemmas.List.Elements.{All-head, All-tail}
use Rattle.coap_codec.specs.declared.kind.Kind.{Kind}
use Rattle.coap_codec.specs.declared.option.Opt.{Opt}
use Rattle.coap_codec.specs.Message.{Message, Spells, kind_number, options_bytes, payload_bytes, two_bytes}
use Rattle.coap_codec.specs.Reading.{reading_of}
use Rattle.coap_codec.proofs.OneReading.{reading_of_spelled}
use Rattle.object_defs.specs.declared.path.Path.{Path}
use Rattle.object_defs.specs.declared.path.Path.TheVariants.{Object, Instance, Resource, Part}
use Rattle.device_requests.specs.declared.operation.Operation.TheVariants.{Read}
use Rattle.device_requests.specs.Inside.{SpellsPath, is_path_alone}
use Rattle.device_requests.specs.Operation.{operation_of}
use Rattle.device_requests.specs.Options.{accept_of, has_query}
use Rattle.device_requests.specs.PlainRead.{IsPlainRead, IsSegment}
use Rattle.device_requests.proofs.PathAlone.{alone_understood, alone_accept, alone_content_format, alone_observe}
use Rattle.device_requests.proofs.Reading.{said}

all_alone : (os : List Opt) → All IsSegment os → is_path_alone os ≡ true
all_alone [] all = refl
all_alone (o ∷ os) all =
    let first : IsSegment o = All-head IsSegment o os all in
    rw (eq-eqb o.number 11 first.0, le-leb (length o.value) 255 first.1) (all_alone os (All-tail IsSegment o os all))

get_reads : (accept : Option ℕ) (query : Bool) (path : Path) → None ≡ accept → operation_of 1 accept query path
    ≡ Some Read
get_reads accept query (Object o) e = rw (← e) refl
get_reads accept query (Instance o i) e = rw (← e) refl
get_reads accept query (Resource o i r) e = rw (← e) refl
get_reads accept query (Part o i r p) e = rw (← e) refl

-- the bytes of these parts are read as a plain Read
pub read_plainly : (bytes token rest : List ℕ) (kind : Kind) (code mid : ℕ) (path : Path)
    → bytes ≡ ((64 + 16 * kind_number kind + length token) ∷ code ∷ two_bytes mid) ++ (token ++ rest)
    → length token ≤ 8 → mid < 65536 → code ≡ 1 → SpellsPath rest path
    → MatchResult (reading_of bytes) (λ m. IsPlainRead kind mid token path m) (λ f. ⊥)
read_plainly bytes token rest kind code mid path parts short small is_get spells =
    let os : List Opt = spells.options in
    let m : Message =
    record { kind = kind; code = 1; mid = mid; token = token; options = os; payload = [] } in
    let alone : is_path_alone os ≡ true = all_alone os spells.segments in
    let whole : Spells bytes m =
    record {
      well_formed = record {
        code = omega arith;
        mid = small;
        token = short;
        options = spells.is_list;
        empty = λ z. absurd (omega (arith, z));
      };
      parts = parts
          ∙ (ap (λ c. ((64 + 16 * kind_number kind + length token) ∷ c ∷ two_bytes mid) ++ (token ++ rest)) is_get
          ∙ ap (λ r. ((64 + 16 * kind_number kind + length token) ∷ 1 ∷ two_bytes mid) ++ (token ++ r))
          (spells.spelled ∙ sym (append-nil (options_bytes 0 os))));
    } in
    let read : reading_of bytes ≡ Ok m = reading_of_spelled bytes m whole in
    rw read (record {
      kind_is = refl;
      mid_is = refl;
      token_is = refl;
      code_is = refl;
      asks = (said m _).1 (record {
        understood = alone_understood os alone;
        path = spells.named;
        operation = get_reads (accept_of os) (has_query os) path (alone_accept os alone);
        accept = sym (alone_accept os alone);
        content_format = sym (alone_content_format os alone);
        observe = sym (alone_observe os alone);
      });
      understood = alone_understood os alone;
      segments = spells.segments;
      no_payload = refl;
    })

-- what stands after the token of a plain Read names its path
pub plainly_spelled : (bytes rest : List ℕ) (m : Message) (kind : Kind) (mid : ℕ) (token : List ℕ) (path : Path)
    → Spells bytes m → IsPlainRead kind mid token path m
    → rest ≡ options_bytes 0 m.options ++ payload_bytes m.payload → SpellsPath rest path
plainly_spelled bytes rest m kind mid token path spells plain rest_is =
    record {
      options = m.options;
      spelled = rest_is
          ∙ (ap (λ p. options_bytes 0 m.options ++ payload_bytes p) plain.no_payload
          ∙ append-nil (options_bytes 0 m.options));
      is_list = spells.well_formed.options;
      segments = plain.segments;
      named = ((said m _).0 plain.asks).path;
    }
