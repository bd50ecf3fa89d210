-- Facts about NoticeReference, written by tools/structures.py from declarations.asn1.
use Rattle.std.proofs.Common.{◌≡◌, ap}
use Rattle.x509_policies.specs.declared.structures.notice_reference.NoticeReference.{NoticeReference}
use Rattle.x509_policies.specs.NoticeReference.{Fields, notice_reference_parts}

abbrev pub notice_reference_of : {A : Type 0} → Fields A → NoticeReference A
notice_reference_of f = record { organization = f.0; notice_numbers = f.1 }

pub notice_reference_same : {A : Type 0} (v w : NoticeReference A) → notice_reference_parts v ≡ notice_reference_parts w → v ≡ w
notice_reference_same v w e = ap notice_reference_of e
