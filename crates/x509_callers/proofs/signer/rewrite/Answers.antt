use Rattle.std.proofs.Common.{sym, ap, ◌∙◌}
use Rattle.std.proofs.lemmas.Result.{err_from_is_err_and}
use Rattle.std.specs.Prelude.{Err}
use Rattle.picky_asn1_x509.specs.Certificates.{certificate, certificate_bytes}
use Rattle.picky_asn1_x509.specs.facts.Certificates.{certificate_agrees}
use Rattle.x509_callers.specs.facts.Rewriting.{same_bytes}
use Rattle.x509_callers.proofs.signer.rewrite.Goals as goal

pub returns-clause-ok : goal.returns-clause-ok
returns-clause-ok g c =
    let v = c.in_ok-certificate.certificate in
    let r = c.in_ok-certificate.ensures.read in
    (v, r.tally, r.whole, c.in_ok-encoding.ensures.ok, same_bytes c.in_ok-encoding.encoding.items (certificate.strict v) c.args.bytes.now r.tally.marks c.total-is_same.result (c.in_ok-encoding.ensures.ok ∙ sym (certificate_agrees v)) r.whole.strict (c.total-is_same.ensures ∙ r.total))

pub returns-in_err-certificate-clause-err : goal.returns-in_err-certificate-clause-err
returns-in_err-certificate-clause-err g c =
    let p = err_from_is_err_and c.from_residual.result c.from_residual.ensures.1 in
    rw (p.1, p.2) c.in_err-certificate.ensures.read

pub returns-in_err-encoding-clause-err : goal.returns-in_err-encoding-clause-err
returns-in_err-encoding-clause-err g c =
    let r = c.in_ok-certificate.ensures.read in
    let t = c.in_err-encoding.ensures.too_long in
    let p = err_from_is_err_and c.from_residual-in_err-encoding.result c.from_residual-in_err-encoding.ensures.1 in
    rw (p.1, p.2) (c.in_ok-certificate.certificate, r.tally, r.whole, (λ h. t.0 (ap Err h), λ h. let e = t.1 h in cc))
