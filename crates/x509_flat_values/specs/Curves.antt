-- The curves that keys are on, by their object identifiers, and the sizes of keys.
use Rattle.std.specs.Prelude.{ℕ, if◌then◌else◌, List, [], ◌∷◌, Option, Some, None}
use Rattle.x509_der.specs.ObjectIdentifier.{is_arcs}

-- how many bits the field of a curve has: sect163k1, sect163r2, sect283k1, sect283r1, sect233k1, sect233r1, sect409k1, sect409r1, sect571k1 and sect571r1 (RFC 5480, 2.1.1.1; SEC 2, 3)
abbrev pub binary_size : List ℕ → ℕ
binary_size arcs =
    if is_arcs arcs (1 ∷ 3 ∷ 132 ∷ 0 ∷ 1 ∷ []) then 163
    else if is_arcs arcs (1 ∷ 3 ∷ 132 ∷ 0 ∷ 15 ∷ []) then 163
    else if is_arcs arcs (1 ∷ 3 ∷ 132 ∷ 0 ∷ 16 ∷ []) then 283
    else if is_arcs arcs (1 ∷ 3 ∷ 132 ∷ 0 ∷ 17 ∷ []) then 283
    else if is_arcs arcs (1 ∷ 3 ∷ 132 ∷ 0 ∷ 26 ∷ []) then 233
    else if is_arcs arcs (1 ∷ 3 ∷ 132 ∷ 0 ∷ 27 ∷ []) then 233
    else if is_arcs arcs (1 ∷ 3 ∷ 132 ∷ 0 ∷ 36 ∷ []) then 409
    else if is_arcs arcs (1 ∷ 3 ∷ 132 ∷ 0 ∷ 37 ∷ []) then 409
    else if is_arcs arcs (1 ∷ 3 ∷ 132 ∷ 0 ∷ 38 ∷ []) then 571
    else if is_arcs arcs (1 ∷ 3 ∷ 132 ∷ 0 ∷ 39 ∷ []) then 571
    else 0

-- brainpoolP160r1, P192r1, P224r1, P256r1, P320r1, P384r1 and P512r1 (RFC 5639, 3)
abbrev pub brainpool_size : List ℕ → ℕ
brainpool_size arcs =
    if is_arcs arcs (1 ∷ 3 ∷ 36 ∷ 3 ∷ 3 ∷ 2 ∷ 8 ∷ 1 ∷ 1 ∷ 1 ∷ []) then 160
    else if is_arcs arcs (1 ∷ 3 ∷ 36 ∷ 3 ∷ 3 ∷ 2 ∷ 8 ∷ 1 ∷ 1 ∷ 3 ∷ []) then 192
    else if is_arcs arcs (1 ∷ 3 ∷ 36 ∷ 3 ∷ 3 ∷ 2 ∷ 8 ∷ 1 ∷ 1 ∷ 5 ∷ []) then 224
    else if is_arcs arcs (1 ∷ 3 ∷ 36 ∷ 3 ∷ 3 ∷ 2 ∷ 8 ∷ 1 ∷ 1 ∷ 7 ∷ []) then 256
    else if is_arcs arcs (1 ∷ 3 ∷ 36 ∷ 3 ∷ 3 ∷ 2 ∷ 8 ∷ 1 ∷ 1 ∷ 9 ∷ []) then 320
    else if is_arcs arcs (1 ∷ 3 ∷ 36 ∷ 3 ∷ 3 ∷ 2 ∷ 8 ∷ 1 ∷ 1 ∷ 11 ∷ []) then 384
    else if is_arcs arcs (1 ∷ 3 ∷ 36 ∷ 3 ∷ 3 ∷ 2 ∷ 8 ∷ 1 ∷ 1 ∷ 13 ∷ []) then 512
    else binary_size arcs

-- secp256r1, secp384r1, secp521r1, secp192r1 and secp224r1 (RFC 5480, 2.1.1.1), secp256k1 (SEC 2, 2.4.1); 0 of others
abbrev pub curve_size : List ℕ → ℕ
curve_size arcs =
    if is_arcs arcs (1 ∷ 2 ∷ 840 ∷ 10045 ∷ 3 ∷ 1 ∷ 7 ∷ []) then 256
    else if is_arcs arcs (1 ∷ 3 ∷ 132 ∷ 0 ∷ 34 ∷ []) then 384
    else if is_arcs arcs (1 ∷ 3 ∷ 132 ∷ 0 ∷ 35 ∷ []) then 521
    else if is_arcs arcs (1 ∷ 2 ∷ 840 ∷ 10045 ∷ 3 ∷ 1 ∷ 1 ∷ []) then 192
    else if is_arcs arcs (1 ∷ 3 ∷ 132 ∷ 0 ∷ 33 ∷ []) then 224
    else if is_arcs arcs (1 ∷ 3 ∷ 132 ∷ 0 ∷ 10 ∷ []) then 256
    else brainpool_size arcs

-- how many bits the public keys of an algorithm have: Ed25519 and Ed448 (RFC 8032, 5.1 and 5.2), X25519 and X448 (RFC 7748, 5); 0 of others
abbrev pub algorithm_size : List ℕ → ℕ
algorithm_size arcs =
    if is_arcs arcs (1 ∷ 3 ∷ 101 ∷ 112 ∷ []) then 256
    else if is_arcs arcs (1 ∷ 3 ∷ 101 ∷ 113 ∷ []) then 456
    else if is_arcs arcs (1 ∷ 3 ∷ 101 ∷ 110 ∷ []) then 256
    else if is_arcs arcs (1 ∷ 3 ∷ 101 ∷ 111 ∷ []) then 448
    else 0

-- the same, where there is a curve
abbrev pub size_if : Option (List ℕ) → Option ℕ
size_if (Some arcs) = Some (curve_size arcs)
size_if None = None

-- the curve says the size of its keys, and else the algorithm
abbrev pub size_or : List ℕ → Option ℕ → ℕ
size_or algorithm (Some size) = size
size_or algorithm None = algorithm_size algorithm
