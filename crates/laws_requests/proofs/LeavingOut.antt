-- An option that says nothing can be left out.
use Rattle.std.proofs.Common.{◌≡◌, inl, inr, ℕ, ◌%◌, ◌<◌, ◌≤◌, ◌==◌, Bool, false, cond, not}
use Rattle.std.proofs.Common.{◌&&◌, ◌||◌, List, [], ◌∷◌, ◌++◌, map, Option, None, Some}
use Rattle.std.proofs.Common.{option_and_then, Result, Ok, Err, refl, sym, ap, subst, ◌∙◌, arith}
use Rattle.std.specs.Bool.{if◌then◌else◌}
use Rattle.std.specs.List as lists
use Rattle.std.specs.List.{filter, list_any}
use Rattle.std.proofs.lemmas.Bool.{ne_eqb, false_from_ne_true, both_ways, or_parts}
use Rattle.coap_codec.specs.Message.{Message}
use Rattle.coap_codec.specs.declared.option.Opt.{Opt}
use Rattle.object_defs.specs.declared.path.Path.{Path}
use Rattle.device_requests.specs.declared.operation.Operation.{Operation}
use Rattle.device_requests.specs.declared.operation.Operation.TheVariants.{Read, Discover, WriteAttributes}
use Rattle.device_requests.specs.declared.operation.Operation.TheVariants.{WriteReplace, WritePartial, Create, Execute}
use Rattle.device_requests.specs.declared.operation.Operation.TheVariants.{Delete}
use Rattle.device_requests.specs.declared.request.Request.{Request}
use Rattle.device_requests.specs.declared.ruling.Ruling.{Ruling}
use Rattle.device_requests.specs.declared.ruling.Ruling.TheVariants as rule
use Rattle.device_requests.specs.Client.{Client}
use Rattle.device_requests.specs.Operation.{operation_of}
use Rattle.device_requests.specs.Options.{accept_of, content_format_of, has_known_form, has_query, has_unknown_critical}
use Rattle.device_requests.specs.Options.{has_unrecognized_critical, is_critical, observe_of}
use Rattle.device_requests.specs.Options.{path_of, queries_of, repeats, segments_of}
use Rattle.device_requests.specs.Outcomes.{attributes_outcome}
use Rattle.device_requests.specs.Request.{outcome_by, outcome_for, request_by, request_of, request_on}
use Rattle.laws_requests.specs.Understood.{OthersSayNothing, SaysNothing}
use Rattle.laws_requests.specs.Understood.{with_options}
use Rattle.laws_requests.proofs.FirstOptions.{read_at_most}
use Rattle.laws_requests.proofs.Understanding.{count, count_more, is_more, more_than_one, of_none, passes}

-- ---- an option that is left out

any_without : (p : Opt → Bool) (before after : List Opt) (o : Opt) → p o ≡ false
    → list_any p (before ++ o ∷ after) ≡ list_any p (before ++ after)
any_without p [] after o h = ap (λ (b : Bool). b || list_any p after) h
any_without p (x ∷ before) after o h = ap (λ (b : Bool). p x || b) (any_without p before after o h)

filter_without : (p : Opt → Bool) (before after : List Opt) (o : Opt) → p o ≡ false
    → filter p (before ++ o ∷ after) ≡ filter p (before ++ after)
filter_without p [] after o h = ap (λ (b : Bool). cond b (o ∷ filter p after) (filter p after)) h
filter_without p (x ∷ before) after o h =
    ap (λ (t : List Opt). cond (p x) (x ∷ t) t) (filter_without p before after o h)

find_without : (p : Opt → Bool) (before after : List Opt) (o : Opt) → p o ≡ false
    → lists.find p (before ++ o ∷ after) ≡ lists.find p (before ++ after)
find_without p [] after o h = ap (λ (b : Bool). cond b (Some o) (lists.find p after)) h
find_without p (x ∷ before) after o h =
    ap (λ (t : Option Opt). cond (p x) (Some x) t) (find_without p before after o h)

still_none : (p : Opt → Bool) (before after : List Opt) (o : Opt) → list_any p (before ++ o ∷ after) ≡ false
    → list_any p (before ++ after) ≡ false
still_none p [] after o h = (or_parts (p o) (list_any p after) h).1
still_none p (x ∷ before) after o h =
    let k = or_parts (p x) (list_any p (before ++ o ∷ after)) h in
    ap (λ (b : Bool). b || list_any p (before ++ after)) k.0 ∙ still_none p before after o k.1

fewer : (n : ℕ) (before after : List Opt) (o : Opt) → count n (before ++ after) ≤ count n (before ++ o ∷ after)
fewer n [] after o = let e = count_more n o after in omega arith
fewer n (x ∷ before) after o =
    let l : count n (before ++ after) ≤ count n (before ++ o ∷ after) = fewer n before after o in
    let d = count_more n x (before ++ after) in
    let e = count_more n x (before ++ o ∷ after) in omega arith

still_once : (n : ℕ) (before after : List Opt) (o : Opt) → repeats n (before ++ o ∷ after) ≡ false
    → repeats n (before ++ after) ≡ false
still_once n before after o h =
    false_from_ne_true (repeats n (before ++ after)) (λ k.
    let l : 1 < count n (before ++ after) = is_more (count n (before ++ after)) k in
    let m : count n (before ++ after) ≤ count n (before ++ o ∷ after) = fewer n before after o in
    let t : 1 < count n (before ++ o ∷ after) = omega arith in
    both_ways (repeats n (before ++ o ∷ after)) h (more_than_one (count n (before ++ o ∷ after)) t))

still_understood : (before after : List Opt) (o : Opt) → has_unrecognized_critical (before ++ o ∷ after) ≡ false
    → has_unrecognized_critical (before ++ after) ≡ false
still_understood before after o h =
    let p = passes (before ++ o ∷ after) h in
    let os = before ++ after in
    of_none (has_unknown_critical os) (repeats 3 os) (repeats 7 os) (repeats 17 os)
    (still_none (λ (x : Opt). is_critical x && not (has_known_form x)) before after o p.known)
    (still_once 3 before after o p.host) (still_once 7 before after o p.port) (still_once 17 before after o p.format)

-- a number that no part of a request is read from
record IsAside (n : ℕ) : Type 0 where
  observe_not : (n == 6) ≡ false
  path_not : (n == 11) ≡ false
  content_not : (n == 12) ≡ false
  query_not : (n == 15) ≡ false
  accept_not : (n == 17) ≡ false

odd_is_not : (n k : ℕ) → n % 2 ≡ 0 → k % 2 ≡ 1 → (n == k) ≡ false
odd_is_not n k even odd =
    ne_eqb n k (λ e. let l : 0 ≡ 1 = sym even ∙ (ap (λ (m : ℕ). m % 2) e ∙ odd) in cc)

is_aside : (o : Opt) → SaysNothing o → IsAside o.number
is_aside o (inl is) =
    subst IsAside (sym is) (record {
      observe_not = refl;
      path_not = refl;
      content_not = refl;
      query_not = refl;
      accept_not = refl;
    })
is_aside o (inr (inl is)) =
    subst IsAside (sym is) (record {
      observe_not = refl;
      path_not = refl;
      content_not = refl;
      query_not = refl;
      accept_not = refl;
    })
is_aside o (inr (inr h)) =
    record {
      observe_not = ne_eqb o.number 6 h.1;
      path_not = odd_is_not o.number 11 h.0 refl;
      content_not = ne_eqb o.number 12 h.2;
      query_not = odd_is_not o.number 15 h.0 refl;
      accept_not = odd_is_not o.number 17 h.0 refl;
    }

-- what is read of the options of a message is what is read of others
record SaysSame (m : Message) (os : List Opt) : Type 0 where
  critical : has_unrecognized_critical m.options ≡ has_unrecognized_critical os
  segments : segments_of m.options ≡ segments_of os
  queries : queries_of m.options ≡ queries_of os
  queried : has_query m.options ≡ has_query os
  accept_is : accept_of m.options ≡ accept_of os
  content_is : content_format_of m.options ≡ content_format_of os
  observe_is : observe_of m.options ≡ observe_of os

same_by : (m : Message) (os : List Opt) (path : Path) (operation : Option Operation) → SaysSame m os
    → request_by m path operation ≡ request_by (with_options m os) path operation
same_by m os path None s = refl
same_by m os path (Some operation) s = λ j. Ok (record {
  path = path;
  operation = operation;
  accept = s.accept_is j;
  content_format = s.content_is j;
  observe = s.observe_is j;
})

same_on : (m : Message) (os : List Opt) (path : Option Path) → SaysSame m os
    → request_on m path ≡ request_on (with_options m os) path
same_on m os None s = refl
same_on m os (Some path) s =
    ap (request_by m path) (λ j. operation_of m.code (s.accept_is j) (s.queried j) path)
    ∙ same_by m os path (operation_of m.code (accept_of os) (has_query os) path) s

same_request : (m : Message) (os : List Opt) → SaysSame m os → request_of m ≡ request_of (with_options m os)
same_request m os s =
    ap (λ (t : Bool × List (List ℕ)). if t.0 then Err rule.Options else request_on m (path_of t.1))
    (λ j. (s.critical j, s.segments j))
    ∙ ap (λ (r : Result Request Ruling). if has_unrecognized_critical os then Err rule.Options else r)
    (same_on m os (path_of (segments_of os)) s)

same_outcome : (client : Client) (server : ℕ) (m : Message) (os : List Opt) (r : Request) (operation : Operation)
    → SaysSame m os → outcome_by client server m r operation ≡ outcome_by client server (with_options m os) r operation
same_outcome client server m os r Read s = refl
same_outcome client server m os r Discover s = refl
same_outcome client server m os r WriteReplace s = refl
same_outcome client server m os r WritePartial s = refl
same_outcome client server m os r WriteAttributes s = ap (attributes_outcome client server r.path) s.queries
same_outcome client server m os r Create s = refl
same_outcome client server m os r Execute s = refl
same_outcome client server m os r Delete s = refl

same_for : (client : Client) (server : ℕ) (m : Message) (os : List Opt) (r : Result Request Ruling) → SaysSame m os
    → outcome_for client server m r ≡ outcome_for client server (with_options m os) r
same_for client server m os (Err ruling) s = refl
same_for client server m os (Ok r) s = same_outcome client server m os r r.operation s

pub others_say_nothing : OthersSayNothing
others_say_nothing client server m before after o splits h nothing =
    let os = before ++ after in
    let a = is_aside o nothing in
    let whole : has_unrecognized_critical (before ++ o ∷ after) ≡ false =
    sym (ap has_unrecognized_critical splits) ∙ h in
    let s : SaysSame m os = record {
      critical = h ∙ sym (still_understood before after o whole);
      segments = ap segments_of splits
          ∙ ap (λ (t : List Opt). map (λ (x : Opt). x.value) t)
          (filter_without (λ x. x.number == 11) before after o a.path_not);
      queries = ap queries_of splits
          ∙ ap (λ (t : List Opt). map (λ (x : Opt). x.value) t)
          (filter_without (λ x. x.number == 15) before after o a.query_not);
      queried = ap has_query splits ∙ any_without (λ x. x.number == 15) before after o a.query_not;
      accept_is = ap accept_of splits
          ∙ ap (option_and_then (read_at_most 2)) (find_without (λ x. x.number == 17) before after o a.accept_not);
      content_is = ap content_format_of splits
          ∙ ap (option_and_then (read_at_most 2)) (find_without (λ x. x.number == 12) before after o a.content_not);
      observe_is = ap observe_of splits
          ∙ ap (option_and_then (read_at_most 3)) (find_without (λ x. x.number == 6) before after o a.observe_not);
    } in
    same_for client server m os (request_of m) s
    ∙ ap (outcome_for client server (with_options m os)) (same_request m os s)
