use Rattle.std.proofs.Common.{◌++◌, ◌-◌, ◌/◌, ◌%◌, length, take, set, arith, sym, ap, ◌∙◌, length-set}
use Rattle.std.proofs.lemmas.List.{length-take-le}
use Rattle.x509_der_parts.specs.facts.Writing.{before_last, last_before}
use Rattle.x509_der.specs.ObjectIdentifier.{high_digits}
use Rattle.x509_der.specs.facts.ObjectIdentifier.{septets_length, septets_are}
use Rattle.x509_der.proofs.oid.numbers.Septets.write_back.Goals as goal

pub overflow_sub-last : goal.overflow_sub-last
overflow_sub-last c = omega (arith, septets_length c.args.self.now, c.requires)

pub bounds-out-last : goal.bounds-out-last
bounds-out-last c = omega (arith, septets_length c.args.self.now, c.requires)

pub write_high-requires : goal.write_high-requires
write_high-requires c =
    let n = c.self.inside.0 in
    before_last c.args.out.now (length (high_digits (n / 128))) (length c.args.out.now - 1) (n % 128) (omega (arith, septets_length n, (rw (← c.self.view_is) at c.requires))) (omega arith)

pub returns-clause-start : goal.returns-clause-start
returns-clause-start c =
    let n = c.self.inside.0 in
    let k = length c.args.out.now - 1 in
    rw (← c.self.view_is) (omega (arith, septets_length n, (rw (← c.self.view_is) at c.requires), c.write_high.ensures.start, length-take-le k (set c.args.out.now k (n % 128)) (omega (arith, length-set c.args.out.now k (n % 128)))))

pub returns-clause-bytes : goal.returns-clause-bytes
returns-clause-bytes c =
    let n = c.self.inside.0 in
    let k = length c.args.out.now - 1 in
    rw (← c.self.view_is) (last_before (high_digits (n / 128)) c.args.out.now c.write_high.new.out c.write_high.result k (n % 128) (omega (arith, c.write_high.ensures.start, length-take-le k (set c.args.out.now k (n % 128)) (omega (arith, length-set c.args.out.now k (n % 128))))) (omega (arith, septets_length n, (rw (← c.self.view_is) at c.requires))) c.write_high.ensures.bytes
    ∙ ap (λ x. take c.write_high.result c.args.out.now ++ x) (sym (septets_are n)))
