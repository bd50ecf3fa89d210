use Rattle.std.proofs.Common.{◌≡◌, drop}
use Rattle.picky_asn1_x509_parts.specs.FirstExtensions.{first_of}
use Rattle.picky_asn1_x509_parts.proofs.extensions.first_extension.Given as goal

-- the rest has the same first extension with the identifier
abbrev pub invariant-loop-extension : goal.invariant-loop-extension
invariant-loop-extension g l = first_of l.arcs (drop l.extension-index l.extensions) ≡ first_of l.arcs l.extensions
