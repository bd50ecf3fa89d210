use Rattle.std.proofs.Common.{ℕ, List, option_map, subst}
use Rattle.cimaroly_c.specs.Oids.{NameWritten}
use Rattle.cimaroly_c.proofs.oids.cimaroly_oid_name.Goals as goal

pub returns : goal.returns
returns c =
    let P : List ℕ → Type 0 = λ x. NameWritten x c.args.out.now c.write_name.new.out c.write_name.result c.write_name.new.size in
    record { name = option_map (λ t. t.now) c.name_in.result; named = c.name_in.ensures; written = subst P c.bytes_of.ensures c.write_name.ensures }
