-- A shape seen through a view that forgets nothing.
use Rattle.x509_der_parts.specs.Shape.{Shape}

abbrev pub structure : {V W : Type 0} → (W → V) → Shape V → Shape W
structure view s = record {
  spelled = λ w. s.spelled (view w);
  strict = λ w. s.strict (view w);
  valid = λ w. s.valid (view w);
  readable = λ w. s.readable (view w);
  starts = s.starts;
  avoids = s.avoids;
  min_headers = s.min_headers;
  frugal = s.frugal;
  parts = λ w. s.parts (view w);
}
