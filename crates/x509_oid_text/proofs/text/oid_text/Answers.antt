use Rattle.std.proofs.Common.{◌≤◌, length, arith, ap, ◌∙◌}
use Rattle.x509_der.specs.ObjectIdentifier.{dotted}
use Rattle.x509_oid_text.proofs.Dotted.{one_list}
use Rattle.x509_oid_text.proofs.text.oid_text.Goals as goal

pub write_text-requires : goal.write_text-requires
write_text-requires c =
    let same = one_list c.in-Some.counted c.in-Some-in_content.arcs c.args.content.now c.in-Some.ensures c.in-Some-in_content.ensures in
    omega (arith, ap (λ x. length (dotted x)) same, c.in-Some-text_len.ensures, c.if-out-len.false)

pub returns : goal.returns
returns c =
    let same = one_list c.in-Some.counted c.in-Some-in_content.arcs c.args.content.now c.in-Some.ensures c.in-Some-in_content.ensures in
    let size = ap (λ x. length (dotted x)) same in
    let fits : length (dotted c.in-Some-in_content.arcs) ≤ length c.args.out.now = omega (arith, size, c.in-Some-text_len.ensures, c.if-out-len.false) in
    (c.in-Some-in_content.arcs, c.in-Some-in_content.ensures, (c.in-Some-text_len.ensures ∙ size, fits, c.write_text.ensures))
