use Rattle.x509_findings.proofs.request_condition.breaks_request.Goals as goal

pub returns-in-LowModulus : goal.returns-in-LowModulus
returns-in-LowModulus g c = rw c.in-LowModulus.is c.has_low_modulus.ensures

pub returns-in-EvenModulus : goal.returns-in-EvenModulus
returns-in-EvenModulus g c = rw c.in-EvenModulus.is c.has_even_modulus.ensures

pub returns-in-ShortModulus : goal.returns-in-ShortModulus
returns-in-ShortModulus g c = rw c.in-ShortModulus.is c.has_short_modulus.ensures

pub returns-in-LowExponent : goal.returns-in-LowExponent
returns-in-LowExponent g c = rw c.in-LowExponent.is c.has_low_exponent.ensures

pub returns-in-EvenExponent : goal.returns-in-EvenExponent
returns-in-EvenExponent g c = rw c.in-EvenExponent.is c.has_even_exponent.ensures
