use Rattle.std.proofs.Common.{ℕ, List, sym, subst}
use Rattle.x509_der.specs.ObjectIdentifier.{IsOid}
use Rattle.x509_flat_values.proofs.SignatureWalks.{pss_name, pss_told}
use Rattle.x509_flat_values.proofs.signatures.pss_digest.Goals as goal

pub returns-in-Some : goal.returns-in-Some
returns-in-Some g c = λ p y s.
    let n = pss_name p y c.args.parameters c.take.new.self c.take-2.new.self c.take-3.new.self c.take-4.new.self c.take.result c.take-2.result c.take-3.result c.take-4.result s c.take.ensures c.take-2.ensures c.take-3.ensures c.take-4.ensures in
    let P : List ℕ → Type 0 = λ x. IsOid c.in-Some.name x in
    pss_told p c.take-4.result.inside.rest c.in-Some.name c.digest_named.result n (subst P c.bytes.ensures c.in-Some.ensures) c.digest_named.ensures

pub returns-in-None : goal.returns-in-None
returns-in-None g c = λ p y s.
    let n = pss_name p y c.args.parameters c.take.new.self c.take-2.new.self c.take-3.new.self c.take-4.new.self c.take.result c.take-2.result c.take-3.result c.take-4.result s c.take.ensures c.take-2.ensures c.take-3.ensures c.take-4.ensures in
    let P : List ℕ → Type 0 = λ x. IsOid n.arcs x in
    absurd (c.in-None.ensures n.arcs (subst P (sym c.bytes.ensures) n.is_oid))
