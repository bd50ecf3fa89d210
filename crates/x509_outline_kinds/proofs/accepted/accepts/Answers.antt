use Rattle.x509_outline_kinds.proofs.accepted.accepts.Goals as goal

pub returns-in-Certificate : goal.returns-in-Certificate
returns-in-Certificate g c = rw c.in-Certificate.is c.is_read.ensures

pub returns-in-Request : goal.returns-in-Request
returns-in-Request g c = rw c.in-Request.is c.is_read-in-Request.ensures

pub returns-in-PrivateKey : goal.returns-in-PrivateKey
returns-in-PrivateKey g c = rw c.in-PrivateKey.is c.is_read-in-PrivateKey.ensures

pub returns-in-PublicKey : goal.returns-in-PublicKey
returns-in-PublicKey g c = rw c.in-PublicKey.is c.is_read-in-PublicKey.ensures

pub returns-in-RevocationList : goal.returns-in-RevocationList
returns-in-RevocationList g c = rw c.in-RevocationList.is c.is_read-in-RevocationList.ensures
