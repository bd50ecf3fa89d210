-- Features of extensions, of which rules ask whether one of a certificate's extensions has them.
use Rattle.std.specs.Prelude.{Bool, not, ◌&&◌, List}
use Rattle.std.specs.List.{list_any}
use Rattle.x509_der.specs.ObjectIdentifier.{is_arcs}
use Rattle.picky_asn1_x509_parts.specs.Extensions.{ExtensionFields}
use Rattle.x509_findings_parts.specs.declared.extension.Feature.{Feature}
use Rattle.x509_findings_parts.specs.declared.extension.Feature.TheVariants as features
use Rattle.x509_findings_parts.specs.Extensions.{allows_signing, forbids_signing, has_any_purpose, has_no_purpose, identifies_authority_key, limits_no_path, limits_path, makes_authority, names_authority_by_half, names_authority_key, names_issuer, names_no_issuer, names_no_subject, names_subject, names_subject_key, says_usage, spells_default}
use Rattle.x509_findings_parts.specs.AlternativeNames.{name_has_fault, names_mailbox}
use Rattle.x509_findings_parts.specs.Known.{arcs_of_known, is_of_standard}
use Rattle.x509_findings_parts.specs.Usages.{allows_nothing, ends_unset}

-- the extension has the feature
abbrev pub has_feature : {A : Type 0} → Feature → ExtensionFields A → Bool
has_feature features.Authority e = makes_authority e.extn_value
has_feature features.UncriticalAuthority e = makes_authority e.extn_value && not e.critical
has_feature features.IdlePathLength e = limits_no_path e.extn_value
has_feature features.PathLength e = limits_path e.extn_value
has_feature features.Signing e = allows_signing e.extn_value
has_feature features.OtherUsage e = forbids_signing e.extn_value
has_feature features.CriticalNames e = names_subject e.extn_value && e.critical
has_feature features.NoSubjectNames e = names_no_subject e.extn_value
has_feature features.NoIssuerNames e = names_no_issuer e.extn_value
has_feature features.NoPurposes e = has_no_purpose e.extn_value
has_feature features.CriticalAuthorityKey e = names_authority_key e.extn_value && e.critical
has_feature features.SubjectKey e = names_subject_key e.extn_value
has_feature features.CriticalSubjectKey e = names_subject_key e.extn_value && e.critical
has_feature features.NoUsages e = allows_nothing e.extn_value
has_feature features.UnsetUsage e = ends_unset e.extn_value
has_feature features.SpelledDefault e = spells_default e.extn_value
has_feature features.AuthorityKey e = identifies_authority_key e.extn_value
has_feature features.PartialAuthorityKey e = names_authority_by_half e.extn_value
has_feature features.UncriticalUsage e = says_usage e.extn_value && not e.critical
has_feature features.CriticalIssuerNames e = names_issuer e.extn_value && e.critical
has_feature features.CriticalAnyPurpose e = has_any_purpose e.extn_value && e.critical
has_feature features.Mailbox e = names_mailbox e.extn_value
has_feature features.CriticalUnknown e = not (is_of_standard e.extn_id) && e.critical
has_feature (features.FaultyName fault) e = name_has_fault fault e.extn_value
has_feature (features.Has known) e = is_arcs e.extn_id (arcs_of_known known)
has_feature (features.Critical known) e = is_arcs e.extn_id (arcs_of_known known) && e.critical
has_feature (features.Uncritical known) e = is_arcs e.extn_id (arcs_of_known known) && not e.critical

-- one of the extensions has it
abbrev pub some_have : {A : Type 0} → Feature → List (ExtensionFields A) → Bool
some_have feature list = list_any (has_feature feature) list
