use Rattle.std.proofs.Common.{Some}
use Rattle.x509_der.specs.reads.Passing.{read_passes}
use Rattle.x509_keys_parts.specs.RawAlgorithm.{parameters, without_null}
use Rattle.x509_keys_parts.specs.facts.RawAlgorithmFacts.{parameters_taken}
use Rattle.x509_keys_parts.proofs.raw_algorithm_identifier.ReadParametersField.pass.Goals as goal

pub returns : goal.returns
returns g c =
    let e = c.in_ok-bytes.ensures in
    read_passes parameters (λ v. tt) c.args.reader.now c.whole_element.new.self (without_null (Some c.in_ok-bytes.bytes.now)) (parameters_taken c.args.reader.now c.whole_element.new.self c.in_ok-bytes.bytes.now c.requires.ready c.known_bytes.ensures e.takes e.headers e.counts e.at e.places)
