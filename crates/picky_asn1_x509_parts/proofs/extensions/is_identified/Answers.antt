use Rattle.std.proofs.Common.{◌≡◌, ◌∙◌, ap}
use Rattle.std.specs.Cmp.Lexicographic.{bytes_decides}
use Rattle.std.proofs.lemmas.Bool.Decides.{same_from_decides}
use Rattle.x509_der.specs.ObjectIdentifier.{is_arcs}
use Rattle.picky_asn1_x509_parts.specs.FirstExtensions.{has_identifier}
use Rattle.picky_asn1_x509_parts.proofs.extensions.is_identified.Goals as goal

pub returns : goal.returns
unfolding has_identifier
returns g c =
    let h = same_from_decides c.is_arcs.result (is_arcs c.behind-extension.inside.0 c.args.arcs.now) c.is_arcs.ensures (bytes_decides c.behind-extension.inside.0 c.args.arcs.now) in
    let w : c.behind-extension.inside.0 ≡ c.args.extension.now.extn_id = cc (c.behind-extension.view_is, c.extn_id.ensures) in
    h ∙ ap (λ x. is_arcs x c.args.arcs.now) w
