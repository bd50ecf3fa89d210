-- Contents that are texts: the bytes as they are, where the type allows them (X.690, 8.23).
use Rattle.std.specs.Prelude.{ℕ, Bool, IsTrue, List}
use Rattle.std.specs.Str.{IsUtf8}
use Rattle.x509_der.specs.Shape.{Shape}
use Rattle.x509_der.specs.PrimitiveContent.{itself}

-- bytes that are allowed, which are their own content
abbrev pub texts : (List ℕ → Type 0) → Shape (List ℕ)
texts Allowed = itself Allowed

-- a restricted string: the bytes that a test allows
abbrev pub Passes : (List ℕ → Bool) → List ℕ → Type 0
Passes allowed v = IsTrue (allowed v)

-- a UTF8String: Unicode scalar values, each in UTF-8 (X.680, 41.16; RFC 3629)
abbrev pub utf8_texts : Shape (List ℕ)
utf8_texts = texts IsUtf8
