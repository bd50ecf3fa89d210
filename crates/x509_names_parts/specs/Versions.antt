-- The version of a certificate (RFC 5280, 4.1.2.1).
use Rattle.std.specs.Prelude.{ℕ, ◌==◌, if◌then◌else◌, Option, Some, None}
use Rattle.x509_names_parts.specs.declared.version.Version.{Version}
use Rattle.x509_names_parts.specs.declared.version.Version.TheVariants.{V1, V2, V3}
use Rattle.x509_der.specs.Shape.{Shape}
use Rattle.x509_der.specs.Tagged.{tagged}
use Rattle.x509_der.specs.SmallInteger.{small_integers}
use Rattle.x509_der.specs.View.{Meaning, seen}
use Rattle.x509_der.specs.Partly.{partly}

-- an INTEGER from 0 to 255, of which few are versions
abbrev pub version_base : Shape ℕ
version_base = tagged 2 small_integers

-- v1(0), v2(1), v3(2)
abbrev pub version_number : Version → ℕ
version_number V1 = 0
version_number V2 = 1
version_number V3 = 2

-- the version of a number; another number means none
abbrev pub version_of : ℕ → Option Version
version_of n = if n == 0 then Some V1 else if n == 1 then Some V2 else if n == 2 then Some V3 else None

abbrev pub version_meaning : Meaning ℕ Version
version_meaning = partly version_of version_number version_base

-- Version ::= INTEGER { v1(0), v2(1), v3(2) }
abbrev pub version : Shape Version
version = seen version_meaning version_base
