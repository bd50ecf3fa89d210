use Rattle.std.proofs.lemmas.Result.{err_from_is_err_and}
use Rattle.x509_der_parts.specs.RawElement.{raws}
use Rattle.x509_der_parts.specs.laws.RawElement.{raws_lawful}
use Rattle.x509_der_parts.specs.reads.Standing.{accepts_no_memory}
use Rattle.x509_der.proofs.raw.Asn1RawDerField.read.Goals as goal

pub returns-in_err-copy_of : goal.returns-in_err-copy_of
returns-in_err-copy_of g c =
    let p = err_from_is_err_and c.from_residual-in_err-copy_of.result c.from_residual-in_err-copy_of.ensures.1 in
    rw (p.1, p.2) (accepts_no_memory raws raws_lawful (λ f. f) c.args.reader.now c.borrowed_element.new.reader c.in_ok-bytes.bytes.now c.in_ok-bytes.ensures.ok)
