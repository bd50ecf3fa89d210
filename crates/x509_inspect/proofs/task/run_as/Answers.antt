use Rattle.x509_inspect.proofs.task.run_as.Goals as goal

pub returns-in-Certificate : goal.returns-in-Certificate
returns-in-Certificate g c = rw c.in-Certificate.is c.run.ensures

pub returns-in-Request : goal.returns-in-Request
returns-in-Request g c = rw c.in-Request.is c.run-in-Request.ensures

pub returns-in-PrivateKey : goal.returns-in-PrivateKey
returns-in-PrivateKey g c = rw c.in-PrivateKey.is c.run-in-PrivateKey.ensures

pub returns-in-PublicKey : goal.returns-in-PublicKey
returns-in-PublicKey g c = rw c.in-PublicKey.is c.run-in-PublicKey.ensures

pub returns-in-RsaPrivateKey : goal.returns-in-RsaPrivateKey
returns-in-RsaPrivateKey g c = rw c.in-RsaPrivateKey.is c.run-in-RsaPrivateKey.ensures

pub returns-in-RsaPublicKey : goal.returns-in-RsaPublicKey
returns-in-RsaPublicKey g c = rw c.in-RsaPublicKey.is c.run-in-RsaPublicKey.ensures

pub returns-in-EcPrivateKey : goal.returns-in-EcPrivateKey
returns-in-EcPrivateKey g c = rw c.in-EcPrivateKey.is c.run-in-EcPrivateKey.ensures

pub returns-in-Name : goal.returns-in-Name
returns-in-Name g c = rw c.in-Name.is c.run-in-Name.ensures

pub returns-in-Extensions : goal.returns-in-Extensions
returns-in-Extensions g c = rw c.in-Extensions.is c.run-in-Extensions.ensures

pub returns-in-Algorithm : goal.returns-in-Algorithm
returns-in-Algorithm g c = rw c.in-Algorithm.is c.run-in-Algorithm.ensures

pub returns-in-RawAlgorithm : goal.returns-in-RawAlgorithm
returns-in-RawAlgorithm g c = rw c.in-RawAlgorithm.is c.run-in-RawAlgorithm.ensures

pub returns-in-RequestInfo : goal.returns-in-RequestInfo
returns-in-RequestInfo g c = rw c.in-RequestInfo.is c.run-in-RequestInfo.ensures

pub returns-in-TbsCertificate : goal.returns-in-TbsCertificate
returns-in-TbsCertificate g c = rw c.in-TbsCertificate.is c.run-in-TbsCertificate.ensures
