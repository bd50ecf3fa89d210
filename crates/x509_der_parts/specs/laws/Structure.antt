-- A shape seen through a view that forgets nothing.
use Rattle.std.proofs.Common.{◌≡◌}
use Rattle.x509_der_parts.specs.Fields.{Inner}
use Rattle.x509_der_parts.specs.Shape.{Shape, Lawful, IsElement}
use Rattle.x509_der_parts.specs.Structure.{structure}

pub structure_lawful : {V W : Type 0} (view : W → V) (s : Shape V) → ((x y : W) → view x ≡ view y → x ≡ y) → Lawful s → Lawful (structure view s)
structure_lawful view s inj l = record {
  one = λ v w p q r t y z a b e f g. let o = l.one (view v) (view w) p q r t y z a b e f g in record { value = inj v w o.value; bytes = o.bytes; tally = o.tally };
  written = λ v d r. let k = l.written (view v) d r in record { headers = k.headers; spelled = k.spelled };
  clean = λ v. l.clean (view v);
  valid = λ v. l.valid (view v);
  read = λ v. l.read (view v);
  begins = λ v. l.begins (view v);
  cost = λ v. l.cost (view v);
  few = λ v. l.few (view v);
  places = λ v. l.places (view v);
  parts = λ v. l.parts (view v);
}

pub structure_element : {V W : Type 0} (view : W → V) (s : Shape V) → IsElement s → IsElement (structure view s)
structure_element view s e = record { one = λ v. e.one (view v); strict = λ v. e.strict (view v); free = e.free; tags = e.tags; min_headers = e.min_headers }

pub structure_inner : {V W : Type 0} (view : W → V) (s : Shape V) → Inner s → Inner (structure view s)
structure_inner view s h w = h (view w)
