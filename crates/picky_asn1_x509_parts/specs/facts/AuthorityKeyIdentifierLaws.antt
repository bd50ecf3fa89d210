-- What a spelling of an authority key identifier says: its marks.
use Rattle.std.proofs.Common.{ℕ, List, ◌++◌, length, ap, sym, ◌∙◌}
use Rattle.x509_der.specs.Tally.{Tally, over}
use Rattle.x509_der.specs.facts.Tally.{marked_marks}
use Rattle.picky_asn1_x509_parts.specs.AuthorityKeyIdentifier.{KeyAuthority, authority_key_identifier}
use Rattle.picky_asn1_x509_parts.specs.AuthorityKeyIdentifierLaws.{AuthorityMarks}
use Rattle.picky_asn1_x509_parts.specs.facts.AuthorityKeyIdentifierFacts.{means_one}

pub authority_marks : {A : Type 0} (v : KeyAuthority A) (string : List ℕ) (y : Tally) → authority_key_identifier.spelled v string y → AuthorityMarks v string y
authority_marks {A} v string y a =
    let m = means_one {A = A} a.base v a.kinds a.means in
    record {
      fields = a.base;
      tally = a.part;
      spelled = a.spelled;
      means = m.0;
      marks = marked_marks a.kinds (length string) a.part y a.tally ∙ ap (λ ks. over (length string) ks ++ a.part.marks) (sym m.1);
    }
