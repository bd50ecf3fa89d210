use Rattle.std.proofs.Common.{◌<◌, ℕ, slice_index_or}
use Rattle.picky_asn1_x509_parts.specs.declared.attribute.Attribute.{Attribute}
use Rattle.x509_findings.specs.Requests.{AsksTwice}
use Rattle.x509_findings.proofs.request_condition.some_ask_twice.Given as goal

-- so far none asks for a list with an extension twice
abbrev pub invariant-loop-attribute : goal.invariant-loop-attribute
invariant-loop-attribute g l = (i : ℕ) → i < l.attribute-index → (d : Attribute _) → AsksTwice (slice_index_or l.attributes i d) → ⊥
