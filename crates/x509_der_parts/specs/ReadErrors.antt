-- The numbers and names of what a read is refused for.
use Rattle.std.specs.Prelude.{ℕ, List, codes}
use Rattle.x509_der_parts.specs.declared.errors.ReadError.{ReadError}
use Rattle.x509_der_parts.specs.declared.errors.ReadError.TheVariants.{OutOfMemory, Truncated, LeftOver, WrongTag, BadLength, BadNumber, BadBoolean, BadBits, BadOid, BadText, BadTime, BadVersion, Unsupported, UniqueIdNeedsV2, ExtensionsNeedV3}

abbrev pub error_number : ReadError → ℕ
error_number OutOfMemory = 1
error_number Truncated = 2
error_number LeftOver = 3
error_number WrongTag = 4
error_number BadLength = 5
error_number BadNumber = 6
error_number BadBoolean = 7
error_number BadBits = 8
error_number BadOid = 9
error_number BadText = 10
error_number BadTime = 11
error_number BadVersion = 12
error_number Unsupported = 13
error_number UniqueIdNeedsV2 = 14
error_number ExtensionsNeedV3 = 15

-- in plain words
abbrev pub error_name : ReadError → List ℕ
error_name OutOfMemory = codes "out of memory"
error_name Truncated = codes "truncated element"
error_name LeftOver = codes "bytes left over"
error_name WrongTag = codes "wrong tag"
error_name BadLength = codes "malformed length"
error_name BadNumber = codes "malformed number"
error_name BadBoolean = codes "malformed boolean"
error_name BadBits = codes "malformed bit string"
error_name BadOid = codes "malformed object identifier"
error_name BadText = codes "character not allowed"
error_name BadTime = codes "malformed time"
error_name BadVersion = codes "unknown version"
error_name Unsupported = codes "unsupported algorithm or choice"
error_name UniqueIdNeedsV2 = codes "unique identifier without version 2"
error_name ExtensionsNeedV3 = codes "extensions without version 3"
