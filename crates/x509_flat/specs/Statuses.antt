-- What a status says of a read.
use Rattle.std.specs.Prelude.{◌≡◌}
use Rattle.picky_asn1_x509.specs.Types.{ReadError}
use Rattle.picky_asn1_x509.specs.Types.read_error as read_error
use Rattle.x509_flat.specs.declared.status.Status.{Status}
use Rattle.x509_flat.specs.declared.status.Status.TheVariants.{Done, Refused, OutOfMemory, TooShort, UnknownKind, TooLong}

-- the status of a call that writes nothing, over a type that it knows
pub record OnlyReads (status : Status) : Type 0 where
  pub short : status ≡ TooShort → ⊥
  pub unknown : status ≡ UnknownKind → ⊥
  pub long : status ≡ TooLong → ⊥

-- the status of a read that gave no value
pub record IsStatusOf (error : ReadError) (status : Status) : Type 0 where
  pub others : OnlyReads status
  pub done : status ≡ Done → ⊥
  pub refused : status ≡ Refused → error ≡ read_error.OutOfMemory → ⊥
  pub memory : status ≡ OutOfMemory → error ≡ read_error.OutOfMemory
