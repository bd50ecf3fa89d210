-- When a private key is used (RFC 5280, A.2).
use Rattle.std.specs.Prelude.{Option}
use Rattle.x509_der.specs.Shape.{Shape}
use Rattle.x509_der.specs.Tagged.{tagged}
use Rattle.x509_der.specs.Join.{join}
use Rattle.x509_der.specs.Optional.{optional}
use Rattle.x509_der.specs.Structure.{structure}
use Rattle.x509_prim.specs.Calendar.{Moment}
use Rattle.x509_prim.specs.Times.{generalized_times}
use Rattle.x509_more_extensions.specs.declared.structures.private_key_usage_period.PrivateKeyUsagePeriod.{PrivateKeyUsagePeriod}

abbrev pub Fields : Type 0
Fields = Option Moment × Option Moment

abbrev pub private_key_usage_period_parts : PrivateKeyUsagePeriod → Fields
private_key_usage_period_parts v = (v.not_before, v.not_after)

-- notBefore [0] GeneralizedTime OPTIONAL, notAfter [1] GeneralizedTime OPTIONAL, with implicit tags
abbrev pub private_key_usage_period_inner : Shape Fields
private_key_usage_period_inner =
    join (λ j. j.0) (λ j. j.1) (optional (tagged 128 generalized_times)) (optional (tagged 129 generalized_times))

abbrev pub private_key_usage_period_content : Shape PrivateKeyUsagePeriod
private_key_usage_period_content = structure private_key_usage_period_parts private_key_usage_period_inner

-- PrivateKeyUsagePeriod ::= SEQUENCE { notBefore, notAfter }
abbrev pub private_key_usage_period : Shape PrivateKeyUsagePeriod
private_key_usage_period = tagged 48 private_key_usage_period_content
