-- A party to electronic data interchange, and who named it.
use Rattle.std.proofs.Common.{◌≡◌, ap, ℕ, ◌||◌, eqb, true, false, arith}
use Rattle.std.proofs.lemmas.Bool.Decides.{nat_tests}
use Rattle.x509_names.specs.declared.edi_party_name.EdiPartyName.{EdiPartyName}
use Rattle.x509_names.specs.EdiPartyNames.{Fields, edi_parts}

abbrev pub edi_of : {A : Type 0} → Fields A → EdiPartyName A
edi_of f = record { name_assigner = f.0; party_name = f.1 }

pub edi_same : {A : Type 0} (v w : EdiPartyName A) → edi_parts v ≡ edi_parts w → v ≡ w
edi_same v w e = ap edi_of e

pub assigner_apart : (c : ℕ) → eqb c 161 ≡ true → (false || eqb c 160) ≡ false
assigner_apart c h = grind (arith, nat_tests)
