use Rattle.std.proofs.lemmas.Result.{err_from_is_err_and}
use Rattle.x509_der.specs.reads.Standing.{accepts_no_memory}
use Rattle.x509_keys_parts.specs.RawAlgorithm.{parameters}
use Rattle.x509_keys_parts.specs.facts.RawAlgorithmFacts.{parameters_lawful, parameters_taken}
use Rattle.x509_keys_parts.proofs.raw_algorithm_identifier.ReadParametersField.read.Goals as goal

pub returns : goal.returns
returns g c =
    let e = c.in_ok-bytes.ensures in
    rw c.in_ok-parameters.ensures.ok (parameters_taken c.args.reader.now c.whole_element.new.self c.in_ok-bytes.bytes.now c.requires.ready c.known_bytes.ensures e.takes e.headers e.counts e.at e.places)

pub returns-in_err-parameters : goal.returns-in_err-parameters
returns-in_err-parameters g c =
    let e = c.in_ok-bytes.ensures in
    let p = err_from_is_err_and c.from_residual-in_err-parameters.result c.from_residual-in_err-parameters.ensures.1 in
    rw (p.1, p.2) (accepts_no_memory parameters parameters_lawful (λ f. f) c.args.reader.now c.whole_element.new.self _ (parameters_taken c.args.reader.now c.whole_element.new.self c.in_ok-bytes.bytes.now c.requires.ready c.known_bytes.ensures e.takes e.headers e.counts e.at e.places))
