use Rattle.x509_outline_kinds.proofs.work.encoded_outline.Goals as goal

pub returns-in-Certificate : goal.returns-in-Certificate
returns-in-Certificate g c =
    record { ok = rw c.in-Certificate.is c.encode_as.ensures.ok; err = rw c.in-Certificate.is c.encode_as.ensures.err }

pub returns-in-Request : goal.returns-in-Request
returns-in-Request g c =
    record { ok = rw c.in-Request.is c.encode_as-in-Request.ensures.ok; err = rw c.in-Request.is c.encode_as-in-Request.ensures.err }

pub returns-in-PrivateKey : goal.returns-in-PrivateKey
returns-in-PrivateKey g c =
    record { ok = rw c.in-PrivateKey.is c.encode_as-in-PrivateKey.ensures.ok; err = rw c.in-PrivateKey.is c.encode_as-in-PrivateKey.ensures.err }

pub returns-in-PublicKey : goal.returns-in-PublicKey
returns-in-PublicKey g c =
    record { ok = rw c.in-PublicKey.is c.encode_as-in-PublicKey.ensures.ok; err = rw c.in-PublicKey.is c.encode_as-in-PublicKey.ensures.err }

pub returns-in-RevocationList : goal.returns-in-RevocationList
returns-in-RevocationList g c =
    record { ok = rw c.in-RevocationList.is c.encode_as-in-RevocationList.ensures.ok; err = rw c.in-RevocationList.is c.encode_as-in-RevocationList.ensures.err }
