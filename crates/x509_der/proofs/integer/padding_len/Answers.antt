use Rattle.std.proofs.Common.{sym, ◌∙◌, arith}
use Rattle.x509_der.specs.facts.Integer.{padding_step, padding_end}
use Rattle.x509_der.proofs.integer.padding_len.Goals as goal

pub padding-preserved : goal.padding-preserved
padding-preserved c = record {
  few = c.padding-test.true;
  number = padding_step c.args.bytes.now c.padding.count (λ k. omega (arith, c.type_inv.bytes k)) c.padding-test.true (sym c.is_padding.ensures ∙ c.if-not-is_padding.false) ∙ c.padding.invariant.number;
}

pub returns-clause-minimal : goal.returns-clause-minimal
returns-clause-minimal c = padding_end c.args.bytes.now c.padding.count c.padding.invariant.few c.padding-test.false
