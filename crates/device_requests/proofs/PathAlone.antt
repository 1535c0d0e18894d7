-- Options that name a path and say nothing else.
use Rattle.std.proofs.Common.{◌≡◌, ℕ, Bool, true, false, ◌⊎◌, inl, inr, List, [], ◌∷◌, length, None, refl, sym, ap}
use Rattle.std.proofs.Common.{subst, ◌∙◌, arith}
use Rattle.std.specs.Prelude.{◌==◌, ◌&&◌, not, nat_lt, nat_le, find, count_by, option_and_then}
use Rattle.std.specs.List.{list_any, list_all}
use Rattle.std.proofs.lemmas.Bool.{cases_eq, ne_eqb, false≢true, le-leb}
use Rattle.lemmas.proofs.Tests.{and_first, and_second}
use Rattle.coap_codec.specs.OptionNumber.{uri_host_option, observe_option, uri_port_option}
use Rattle.coap_codec.specs.OptionNumber.{content_format_option, uri_query_option, accept_option}
use Rattle.coap_codec.specs.declared.option.Opt.{Opt}
use Rattle.device_requests.specs.Options.{has_known_form, is_critical, repeats}
use Rattle.device_requests.specs.Options.{has_unrecognized_critical, short_number, accept_of, content_format_of}
use Rattle.device_requests.specs.Options.{has_query, observe_number, observe_of, known_options}
use Rattle.device_requests.specs.Inside.{is_segment, is_path_alone}

-- ---- a list in which each element passes a test

not_found : (p q : Opt → Bool) (os : List Opt) → ((o : Opt) → p o ≡ true → q o ≡ false) → list_all p os ≡ true
    → find q os ≡ None
not_found p q [] off h = refl
not_found p q (o ∷ os) off h =
    rw (off o (and_first (p o) (list_all p os) h)) (not_found p q os off (and_second (p o) (list_all p os) h))

not_any : (p q : Opt → Bool) (os : List Opt) → ((o : Opt) → p o ≡ true → q o ≡ false) → list_all p os ≡ true
    → list_any q os ≡ false
not_any p q [] off h = refl
not_any p q (o ∷ os) off h =
    rw (off o (and_first (p o) (list_all p os) h)) (not_any p q os off (and_second (p o) (list_all p os) h))

not_counted : (p q : Opt → Bool) (os : List Opt) → ((o : Opt) → p o ≡ true → q o ≡ false) → list_all p os ≡ true
    → count_by q os ≡ 0
not_counted p q [] off h = refl
not_counted p q (o ∷ os) off h =
    rw (off o (and_first (p o) (list_all p os) h)) (not_counted p q os off (and_second (p o) (list_all p os) h))

-- ---- a segment

is_equal : (n m : ℕ) → (n ≡ m) ⊎ (n ≡ m → ⊥) → (n == m) ≡ true → n ≡ m
is_equal n m (inl same) h = same
is_equal n m (inr other) h = absurd (false≢true (sym (ne_eqb n m other) ∙ h))

number_is : (o : Opt) → is_segment o ≡ true → o.number ≡ 11
number_is o h =
    is_equal o.number 11 (cases_eq o.number 11) (and_first (o.number == 11) (nat_le (length o.value) 255) h)

is_known : (n : ℕ) (value : List ℕ) → n ≡ 11 → nat_le (length value) 255 ≡ true
    → list_any (λ k. k.number == n && (nat_le k.least (length value) && nat_le (length value) k.most)) known_options
    ≡ true
is_known n value e h =
    subst (λ m. list_any (λ k. k.number == m && (nat_le k.least (length value) && nat_le (length value) k.most))
    known_options ≡ true) (sym e) (rw h (rw (le-leb 0 (length value) (omega arith)) refl))

and_not : (a b : Bool) → b ≡ true → (a && not b) ≡ false
and_not true b e = rw e refl
and_not false b e = refl

is_recognized : (o : Opt) → is_segment o ≡ true → (is_critical o && not (has_known_form o)) ≡ false
is_recognized o h =
    and_not (is_critical o) (has_known_form o)
    (is_known o.number o.value (number_is o h) (and_second (o.number == 11) (nat_le (length o.value) 255) h))

is_other : (k : ℕ) → (11 == k) ≡ false → (o : Opt) → is_segment o ≡ true → (o.number == k) ≡ false
is_other k other o h = subst (λ n. (n == k) ≡ false) (sym (number_is o h)) other

-- ---- the options

none_repeats : (k : ℕ) (os : List Opt) → (11 == k) ≡ false → is_path_alone os ≡ true → repeats k os ≡ false
none_repeats k os other h =
    ap (nat_lt 1) (not_counted is_segment (λ o. o.number == k) os (is_other k other) h)

pub alone_understood : (os : List Opt) → is_path_alone os ≡ true → has_unrecognized_critical os ≡ false
alone_understood os h =
    rw (not_any is_segment (λ o. is_critical o && not (has_known_form o)) os is_recognized h)
    (rw (none_repeats uri_host_option os refl h)
    (rw (none_repeats uri_port_option os refl h) (rw (none_repeats accept_option os refl h) refl)))

pub alone_accept : (os : List Opt) → is_path_alone os ≡ true → None ≡ accept_of os
alone_accept os h =
    sym (ap (option_and_then short_number)
    (not_found is_segment (λ o. o.number == accept_option) os (is_other accept_option refl) h))

pub alone_query : (os : List Opt) → is_path_alone os ≡ true → false ≡ has_query os
alone_query os h =
    sym (not_any is_segment (λ o. o.number == uri_query_option) os (is_other uri_query_option refl) h)

pub alone_content_format : (os : List Opt) → is_path_alone os ≡ true → None ≡ content_format_of os
alone_content_format os h =
    sym (ap (option_and_then short_number)
    (not_found is_segment (λ o. o.number == content_format_option) os (is_other content_format_option refl) h))

pub alone_observe : (os : List Opt) → is_path_alone os ≡ true → None ≡ observe_of os
alone_observe os h =
    sym (ap (option_and_then observe_number)
    (not_found is_segment (λ o. o.number == observe_option) os (is_other observe_option refl) h))
