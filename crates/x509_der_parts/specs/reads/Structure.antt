-- Reading a type by way of another that has the same parts.
use Rattle.std.proofs.Common.{◌≡◌}
use Rattle.x509_der_parts.specs.declared.errors.ReadError.{ReadError}
use Rattle.x509_der_parts.specs.Shape.{Shape}
use Rattle.x509_der_parts.specs.Structure.{structure}
use Rattle.x509_der_parts.specs.Reading.{Cursor, Accepts, Refuses}

module _ {V W : Type 0} (view : W → V) (s : Shape V) (inj : (x y : W) → view x ≡ view y → x ≡ y) where
  pub structure_accepts : (old new : Cursor) (w : W) → Accepts s old new (view w) → Accepts (structure view s) old new w
  structure_accepts old new w a = record {
    bytes = a.bytes;
    tally = a.tally;
    spelled = a.spelled;
    moved = a.moved;
    ready = a.ready;
    min_headers = a.min_headers;
    only = λ x p q z b e g. let o = a.only (view x) p q z b e g in record { value = inj x w o.value; bytes = o.bytes; tally = o.tally };
  }

  pub structure_refuses : (old new : Cursor) (e : ReadError) → Refuses s old new e → Refuses (structure view s) old new e
  structure_refuses old new e a = record {
    spares = a.spares;
    grows = a.grows;
    bound = a.bound;
    min_headers = a.min_headers;
    forward = a.forward;
    within = a.within;
    outside = a.outside;
    none = λ x p q z i g f. let o = a.none (view x) p q z i g f in record { memory = o.memory; marked = o.marked };
  }
