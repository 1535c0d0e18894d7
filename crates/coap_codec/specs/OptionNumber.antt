-- The numbers of the options that are known here (RFC 7252 section 5.10, RFC 7641 section 2).
use Rattle.std.specs.Prelude.{ℕ}

abbrev pub uri_host_option : ℕ
uri_host_option = 3

abbrev pub observe_option : ℕ
observe_option = 6

abbrev pub uri_port_option : ℕ
uri_port_option = 7

abbrev pub location_path_option : ℕ
location_path_option = 8

abbrev pub uri_path_option : ℕ
uri_path_option = 11

abbrev pub content_format_option : ℕ
content_format_option = 12

abbrev pub uri_query_option : ℕ
uri_query_option = 15

abbrev pub accept_option : ℕ
accept_option = 17
