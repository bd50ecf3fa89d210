-- The labels of PEM blocks that are recognised, and not read.
use Rattle.std.specs.Prelude.{◌≡◌, ◌⊎◌, ℕ, List, Option, Some, None, codes}
use Rattle.x509_inspect_parts.specs.declared.unread.Unread.{Unread}
use Rattle.x509_inspect_parts.specs.declared.unread.Unread.TheVariants.{Cms, Pkcs12, EncryptedKey, RevocationList, OcspResponse, JavaKeystore, OpenSshKey}

-- RFC 7468, 6, 9 and 11; that of OpenSSH is its own
abbrev pub unread_label : Unread → Option (List ℕ)
unread_label Cms = Some (codes "CMS")
unread_label Pkcs12 = None
unread_label EncryptedKey = Some (codes "ENCRYPTED PRIVATE KEY")
unread_label RevocationList = Some (codes "X509 CRL")
unread_label OcspResponse = None
unread_label JavaKeystore = None
unread_label OpenSshKey = Some (codes "OPENSSH PRIVATE KEY")

-- RFC 7468, 8
abbrev pub older_unread_label : Unread → Option (List ℕ)
older_unread_label Cms = Some (codes "PKCS7")
older_unread_label _ = None

-- a block with the label holds this
abbrev pub HasUnreadLabel : Unread → List ℕ → Type 0
HasUnreadLabel unread label = (unread_label unread ≡ Some label) ⊎ (older_unread_label unread ≡ Some label)
