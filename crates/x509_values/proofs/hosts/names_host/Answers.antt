use Rattle.std.proofs.Common.{arith, refl, sym, ◌∙◌, true≢false}
use Rattle.x509_values.specs.facts.Elements.{shorter}
use Rattle.x509_values.proofs.Hosting.{first_named, later_named, none_named, not_first}
use Rattle.x509_values.proofs.hosts.names_host.Goals as goal

pub names-init : goal.names-init
names-init c = (λ h. h, λ h. h)

pub returns-then-is_presented : goal.returns-then-is_presented
returns-then-is_presented c = (
  λ _. c.names.invariant.1 (first_named c.args.host.now c.names.names c.next.new.self c.in-Some.name c.in-Some.ensures.takes (rw (sym c.bytes.ensures) (c.is_presented.ensures.0 c.if-is_presented.true))),
  λ _. refl,
)

pub names-smaller : goal.names-smaller
names-smaller c = omega (arith, shorter c.names.names c.next.new.self c.in-Some.name c.in-Some.ensures.takes)

pub names-preserved : goal.names-preserved
names-preserved c = (
  λ h. not_first c.args.host.now c.names.names c.next.new.self c.in-Some.name c.in-Some.ensures.takes (λ own. true≢false (sym (c.is_presented.ensures.1 (rw c.bytes.ensures own)) ∙ c.if-is_presented.false)) (c.names.invariant.0 h),
  λ h. c.names.invariant.1 (later_named c.args.host.now c.names.names c.next.new.self c.in-Some.name c.in-Some.ensures.takes h),
)

pub returns : goal.returns
returns c = (λ e. absurd (true≢false (sym e)), λ h. absurd (none_named c.args.host.now c.names.names.rest c.in_default.ensures.takes.0 (c.names.invariant.0 h)))
