use Rattle.std.proofs.Common.{ap, ◌∙◌}
use Rattle.std.proofs.lemmas.Result.{err_from_is_err_and}
use Rattle.x509_der_parts.specs.Reading.{Cursor}
use Rattle.x509_der_parts.specs.laws.Prefixed.{prefixed_accepts, prefixed_refuses, prefixed_none, other_byte, not_empty_byte}
use Rattle.x509_der_parts.proofs.prefixed.PrefixedContent.read_content.Goals as goal

pub returns-in_default : goal.returns-in_default
returns-in_default g c =
    let t = c.in_default.ensures in
    prefixed_none 0 g.F.Content.content_shape (g.F.Content.content_lawful c.requires.fits) c.args.reader.now c.byte.new.self _ (λ e. cc) (ap (λ (x : Cursor). x.headers) t.1) (ap (λ (x : Cursor). x.at) t.1) (not_empty_byte c.args.reader.now.rest 0 t.0)

pub returns-then-unused-ne0 : goal.returns-then-unused-ne0
returns-then-unused-ne0 g c =
    let t = c.in-Some.ensures in
    let b = c.go_back.ensures in
    prefixed_none 0 g.F.Content.content_shape (g.F.Content.content_lawful c.requires.fits) c.args.reader.now c.go_back.new.self _ (λ e. cc) (b.headers ∙ t.headers) (b.at ∙ c.spot-spot.ensures.start) (other_byte c.args.reader.now.rest c.in-Some.unused 0 c.byte.new.self.rest t.rest c.if-unused-ne0.true)

pub returns-in_err-content : goal.returns-in_err-content
returns-in_err-content g c =
    let p = err_from_is_err_and c.from_residual.result c.from_residual.ensures.1 in
    let t = rw c.if-unused-ne0.false at c.in-Some.ensures in
    rw (p.1, p.2) (prefixed_refuses 0 g.F.Content.content_shape (g.F.Content.content_lawful c.requires.fits) c.args.reader.now c.byte.new.self c.read_content.new.reader _ c.requires.ready t c.in_err-content.ensures)

pub returns : goal.returns
returns g c =
    let t = rw c.if-unused-ne0.false at c.in-Some.ensures in
    prefixed_accepts 0 g.F.Content.content_shape (g.F.Content.content_lawful c.requires.fits) c.args.reader.now c.byte.new.self c.read_content.new.reader c.in_ok-content.content c.requires.ready t c.in_ok-content.ensures
