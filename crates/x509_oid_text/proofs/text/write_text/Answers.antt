use Rattle.std.proofs.Common.{◌≡◌, [], ◌∷◌, ◌++◌, length, drop, refl, arith, ap, sym, ◌∙◌, append-nil, append_assoc}
use Rattle.std.proofs.lemmas.List.{length-append}
use Rattle.std.specs.Fmt.{decimal}
use Rattle.x509_der.specs.ObjectIdentifier.{dotted}
use Rattle.x509_oid_text.proofs.Dotted.{dotted_push, fits_more, longer}
use Rattle.x509_oid_text.proofs.text.write_text.Goals as goal

pub arcs-init : goal.arcs-init
arcs-init c = record {
  arcs = c.in-Some.ensures.steps ∙ ap (λ x. c.in-Some.first ∷ x) (sym c.into_iter-arc-iterator.ensures.into_iter_gives);
  size = omega (arith, c.put_decimal-at.auto.out);
  at = omega (arith, c.put_decimal-at.ensures.end);
  written = c.put_decimal-at.ensures.text [] c.args.out.now refl refl;
}

pub put-at-requires : goal.put-at-requires
put-at-requires c =
    let i = c.arcs.invariant in
    let f = fits_more c.args.arcs c.in-Some.first c.arcs.yielded c.in-Some-arc.arc c.next-in-arcs.new.self (i.arcs ∙ ap (λ x. c.in-Some.first ∷ (c.arcs.yielded ++ x)) c.in-Some-arc.ensures.steps) c.args.out.now c.requires in
    omega (arith, f, i.at, i.size)

pub put_decimal-at-requires-in-arcs : goal.put_decimal-at-requires-in-arcs
put_decimal-at-requires-in-arcs c =
    let i = c.arcs.invariant in
    let f = fits_more c.args.arcs c.in-Some.first c.arcs.yielded c.in-Some-arc.arc c.next-in-arcs.new.self (i.arcs ∙ ap (λ x. c.in-Some.first ∷ (c.arcs.yielded ++ x)) c.in-Some-arc.ensures.steps) c.args.out.now c.requires in
    omega (arith, f, i.at, i.size, c.put-at.ensures.end, c.put-at.auto.out)

pub arcs-preserved : goal.arcs-preserved
arcs-preserved c =
    let i = c.arcs.invariant in
    let a = c.in-Some.first in
    let b = c.in-Some-arc.arc in
    let front = dotted (a ∷ c.arcs.yielded) in
    let point = c.put-at.ensures.text front c.args.out.now i.at i.written in
    let end : c.put-at.result ≡ length (front ++ 46 ∷ []) = omega (arith, c.put-at.ensures.end, i.at, length-append front (46 ∷ [])) in
    let digits = c.put_decimal-at-in-arcs.ensures.text (front ++ 46 ∷ []) c.args.out.now end point in
    record {
      arcs = i.arcs ∙ ap (λ x. a ∷ (c.arcs.yielded ++ x)) c.in-Some-arc.ensures.steps ∙ ap (λ x. a ∷ x) (sym (append_assoc c.arcs.yielded (b ∷ []) c.next-in-arcs.new.self));
      size = omega (arith, i.size, c.put-at.auto.out, c.put_decimal-at-in-arcs.auto.out);
      at = omega (arith, i.at, c.put-at.ensures.end, c.put_decimal-at-in-arcs.ensures.end, longer a c.arcs.yielded b);
      written = digits ∙ ap (λ x. x ++ drop c.put_decimal-at-in-arcs.result c.args.out.now) (append_assoc front (46 ∷ []) (decimal b) ∙ sym (dotted_push a c.arcs.yielded b));
    }

pub returns : goal.returns
returns c =
    let i = c.arcs.invariant in
    let all : c.args.arcs ≡ c.in-Some.first ∷ c.arcs.yielded = i.arcs ∙ ap (λ x. c.in-Some.first ∷ (c.arcs.yielded ++ x)) c.in-None.ensures.steps.0 ∙ ap (λ x. c.in-Some.first ∷ x) (append-nil c.arcs.yielded) in
    i.written ∙ ap (λ n. dotted (c.in-Some.first ∷ c.arcs.yielded) ++ drop n c.args.out.now) i.at ∙ ap (λ x. dotted x ++ drop (length (dotted x)) c.args.out.now) (sym all)
