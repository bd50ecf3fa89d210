use Rattle.x509_pem.proofs.Group.{group_is}
use Rattle.x509_pem.proofs.full_line.group_of.Goals as goal

pub returns : goal.returns
returns c =
    group_is c.args.first c.args.second c.args.third c.args.fourth c.first_of.result c.second_of.result c.third_of.result
    c.fourth_of.result c.first_of.ensures c.second_of.ensures c.third_of.ensures c.fourth_of.ensures
