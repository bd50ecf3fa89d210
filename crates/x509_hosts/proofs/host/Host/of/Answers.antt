use Rattle.std.proofs.Common.{List, ℕ, subst, sym, ◌∙◌}
use Rattle.std.specs.Net.Grammar.{IsIpv6Text}
use Rattle.x509_hosts.specs.Names.{IsHostName}
use Rattle.x509_hosts.proofs.Labels.{false_is}
use Rattle.x509_hosts.proofs.host.Host.of.Goals as goal

pub returns-in-Ok-parse_ascii : goal.returns-in-Ok-parse_ascii
returns-in-Ok-parse_ascii c =
    let a = c.in-Ok-parse_ascii.address in
    (c.in_default.ensures, (a, subst (λ (x : List ℕ). IsIpv6Text x a) c.without_brackets.ensures c.in-Ok-parse_ascii.ensures, c.octets-in-Ok-parse_ascii.ensures))

pub returns-then-is_host_name : goal.returns-then-is_host_name
returns-then-is_host_name c = (
  c.in_default.ensures,
  λ a h. c.in_default-parse_ascii.ensures a (subst (λ (x : List ℕ). IsIpv6Text x a) (sym c.without_brackets.ensures) h),
  subst IsHostName c.without_dot-name.ensures (c.is_host_name.ensures.0 c.if-is_host_name.true),
  c.without_dot-name.ensures,
)

pub returns-else-is_host_name : goal.returns-else-is_host_name
returns-else-is_host_name c = (
  c.in_default.ensures,
  λ a h. c.in_default-parse_ascii.ensures a (subst (λ (x : List ℕ). IsIpv6Text x a) (sym c.without_brackets.ensures) h),
  λ h. false_is (sym c.if-is_host_name.false ∙ c.is_host_name.ensures.1 (subst IsHostName (sym c.without_dot-name.ensures) h)),
)
