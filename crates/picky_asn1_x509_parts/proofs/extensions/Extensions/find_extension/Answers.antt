use Rattle.std.proofs.Common.{◌≡◌}
use Rattle.picky_asn1_x509_parts.proofs.extensions.Extensions.find_extension.Goals as goal

pub returns : goal.returns
returns g c =
    let e : c.as_slice.result.now ≡ c.args.self.now = rw (← c.self.view_is, ← c.self-inside.view_is) c.as_slice.ensures.value in
    rw (← e) c.first_extension.ensures
