use Rattle.std.proofs.Common.{◌<◌, length, ap, sym, not, ◌∙◌, arith}
use Rattle.std.proofs.lemmas.List.Sums.{position_or_len_is}
use Rattle.x509_findings_parts.specs.Hosts.{is_no_scheme_octet}
use Rattle.x509_findings_parts.proofs.host.scheme_size.Goals as goal

pub returns-then-not-is_scheme_octet : goal.returns-then-not-is_scheme_octet
returns-then-not-is_scheme_octet c =
    sym (position_or_len_is is_no_scheme_octet c.args.text.now c.octets.index 0 (omega arith) c.octets.invariant (λ _. ap not (sym c.is_scheme_octet.ensures ∙ c.if-not-is_scheme_octet.true)))

pub returns : goal.returns
returns c =
    sym (position_or_len_is is_no_scheme_octet c.args.text.now (length c.args.text.now) 0 (omega arith) (λ k l. c.octets.invariant k (omega (arith, l, c.octets-test.false))) (λ l. absurd (omega (arith, l))))
