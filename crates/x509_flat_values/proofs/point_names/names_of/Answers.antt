use Rattle.x509_flat_values.proofs.PointNames.{full_names, no_names}
use Rattle.x509_flat_values.proofs.point_names.names_of.Goals as goal

pub returns-then-name : goal.returns-then-name
returns-then-name g c = λ v whole f. no_names c.spellings_are_lawful.ensures.lawful v c.args.bytes.now whole f c.over-choice.result c.take-name.new.self c.take-name.result c.args.out.now c.over-choice.ensures c.take-name.ensures c.if-name.true

pub returns : goal.returns
returns g c = λ v whole f. full_names c.spellings_are_lawful.ensures.lawful v c.args.bytes.now whole f c.over-choice.result c.take-name.new.self c.take-name.result c.args.out.now _ _ c.over-choice.ensures c.take-name.ensures c.if-name.false c.each_told.ensures
