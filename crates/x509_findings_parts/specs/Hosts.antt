-- Names of hosts in dNSName (RFC 5280, 4.2.1.6: the preferred name syntax of RFC 1034, 3.5, with the digits of RFC 1123, 2.1), and URIs (RFC 3986, 3.1).
use Rattle.std.specs.Prelude.{ℕ, ◌+◌, ◌-◌, Bool, not, ◌==◌, ◌&&◌, ◌||◌, nat_lt, if◌then◌else◌, List, drop, length, slice_index}
use Rattle.std.specs.Char.{is_ascii_alphabetic, is_ascii_alphanumeric, is_ascii_digit}
use Rattle.std.specs.List.{list_all, position_or_len, slice_split}

abbrev pub is_dot : ℕ → Bool
is_dot octet = octet == 46

-- letters, digits and hyphens
abbrev pub is_label_octet : ℕ → Bool
is_label_octet octet = is_ascii_alphanumeric octet || (octet == 45)

-- 1 to 63 of them, with no hyphen at either end
abbrev pub is_label : List ℕ → Bool
is_label label =
    nat_lt 0 (length label)
    && (nat_lt (length label) 64 && (not (slice_index label 0 == 45) && (not (slice_index label (length label - 1) == 45) && list_all is_label_octet label)))

-- a first label *, which stands for any (RFC 9525, 6.3)
abbrev pub is_starred : List ℕ → Bool
is_starred name = nat_lt 1 (length name) && (slice_index name 0 == 42) && (slice_index name 1 == 46)

-- what is behind it
abbrev pub unstarred : List ℕ → List ℕ
unstarred name = if is_starred name then drop 2 name else name

-- digits and dots alone are an address (RFC 1123, 2.1)
abbrev pub is_numeric_octet : ℕ → Bool
is_numeric_octet octet = is_ascii_digit octet || is_dot octet

-- labels with dots between them, and at most 253 octets
abbrev pub is_host : List ℕ → Bool
is_host name = nat_lt (length name) 254 && not (list_all is_numeric_octet name) && list_all is_label (slice_split is_dot (unstarred name))

-- letters, digits, +, - and .
abbrev pub is_scheme_octet : ℕ → Bool
is_scheme_octet octet = is_ascii_alphanumeric octet || (octet == 43) || (octet == 45) || (octet == 46)

abbrev pub is_no_scheme_octet : ℕ → Bool
is_no_scheme_octet octet = not (is_scheme_octet octet)

-- how many octets stand in front of the first that is none of them
abbrev pub scheme_size : List ℕ → ℕ
scheme_size text = position_or_len is_no_scheme_octet text

-- scheme ":" hier-part, where a scheme begins with a letter
abbrev pub has_scheme : List ℕ → Bool
has_scheme text = nat_lt (scheme_size text + 1) (length text) && (is_ascii_alphabetic (slice_index text 0) && (slice_index text (scheme_size text) == 58))
