use Rattle.x509_findings.proofs.condition.breaks_field.Goals as goal

pub returns-in-LowSerial : goal.returns-in-LowSerial
returns-in-LowSerial g c = rw c.in-LowSerial.is c.is_below.ensures

pub returns-in-LongSerial : goal.returns-in-LongSerial
returns-in-LongSerial g c = rw c.in-LongSerial.is c.is_longer.ensures

pub returns-in-OtherAlgorithm : goal.returns-in-OtherAlgorithm
returns-in-OtherAlgorithm g c = rw c.in-OtherAlgorithm.is c.differ.ensures

pub returns-in-NoPeriod : goal.returns-in-NoPeriod
returns-in-NoPeriod g c = rw c.in-NoPeriod.is c.is_before.ensures

pub returns-in-EarlyStart : goal.returns-in-EarlyStart
returns-in-EarlyStart g c = rw c.in-EarlyStart.is c.is_early.ensures

pub returns-in-EarlyEnd : goal.returns-in-EarlyEnd
returns-in-EarlyEnd g c = rw c.in-EarlyEnd.is c.is_early-in-EarlyEnd.ensures

pub returns-in-LowModulus : goal.returns-in-LowModulus
returns-in-LowModulus g c = rw c.in-LowModulus.is c.has_low_modulus.ensures

pub returns-in-EvenModulus : goal.returns-in-EvenModulus
returns-in-EvenModulus g c = rw c.in-EvenModulus.is c.has_even_modulus.ensures

pub returns-in-ShortModulus : goal.returns-in-ShortModulus
returns-in-ShortModulus g c = rw c.in-ShortModulus.is c.has_short_modulus.ensures

pub returns-in-LowExponent : goal.returns-in-LowExponent
returns-in-LowExponent g c = rw c.in-LowExponent.is c.has_low_exponent.ensures

pub returns-in-EvenExponent : goal.returns-in-EvenExponent
returns-in-EvenExponent g c = rw c.in-EvenExponent.is c.has_even_exponent.ensures

pub returns-in-NoAuthorityKey : goal.returns-in-NoAuthorityKey
returns-in-NoAuthorityKey g c = rw c.in-NoAuthorityKey.is c.lacks_authority_key.ensures
