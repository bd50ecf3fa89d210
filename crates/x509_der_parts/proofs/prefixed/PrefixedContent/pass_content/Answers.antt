use Rattle.std.proofs.Common.{ap, ◌∙◌}
use Rattle.std.proofs.lemmas.Result.{err_from_is_err_and}
use Rattle.x509_der_parts.specs.Reading.{Cursor, thrifty}
use Rattle.x509_der_parts.specs.Prefixed.{prefixed}
use Rattle.x509_der_parts.specs.laws.Prefixed.{prefixed_accepts, prefixed_refuses, prefixed_none, other_byte, not_empty_byte}
use Rattle.x509_der_parts.specs.reads.Passing.{alike_prefixed, thrifty_lawful, alike_refuses, alike_accepts}
use Rattle.x509_der_parts.proofs.prefixed.PrefixedContent.pass_content.Goals as goal

pub returns-in_default : goal.returns-in_default
returns-in_default g c =
    let s = g.F.Content.content_shape in
    let l = thrifty_lawful s (g.F.Content.content_lawful c.requires.fits) in
    let t = c.in_default.ensures in
    alike_refuses (prefixed 0 (thrifty s)) (thrifty (prefixed 0 s)) (alike_prefixed 0 s) c.args.reader.now c.byte.new.self _ (λ u. (tt, tt)) (prefixed_none 0 (thrifty s) l c.args.reader.now c.byte.new.self _ (λ e. cc) (ap (λ (x : Cursor). x.headers) t.1) (ap (λ (x : Cursor). x.at) t.1) (not_empty_byte c.args.reader.now.rest 0 t.0))

pub returns-then-unused-ne0 : goal.returns-then-unused-ne0
returns-then-unused-ne0 g c =
    let s = g.F.Content.content_shape in
    let l = thrifty_lawful s (g.F.Content.content_lawful c.requires.fits) in
    let t = c.in-Some.ensures in
    let b = c.go_back.ensures in
    alike_refuses (prefixed 0 (thrifty s)) (thrifty (prefixed 0 s)) (alike_prefixed 0 s) c.args.reader.now c.go_back.new.self _ (λ u. (tt, tt)) (prefixed_none 0 (thrifty s) l c.args.reader.now c.go_back.new.self _ (λ e. cc) (b.headers ∙ t.headers) (b.at ∙ c.spot-spot.ensures.start) (other_byte c.args.reader.now.rest c.in-Some.unused 0 c.byte.new.self.rest t.rest c.if-unused-ne0.true))

pub returns-in_err-brief : goal.returns-in_err-brief
returns-in_err-brief g c =
    let s = g.F.Content.content_shape in
    let l = thrifty_lawful s (g.F.Content.content_lawful c.requires.fits) in
    let p = err_from_is_err_and c.from_residual.result c.from_residual.ensures.1 in
    let t = rw c.if-unused-ne0.false at c.in-Some.ensures in
    rw (p.1, p.2) (alike_refuses (prefixed 0 (thrifty s)) (thrifty (prefixed 0 s)) (alike_prefixed 0 s) c.args.reader.now c.pass_content.new.reader _ (λ u. (tt, tt)) (prefixed_refuses 0 (thrifty s) l c.args.reader.now c.byte.new.self c.pass_content.new.reader _ c.requires.ready t c.in_err-brief.ensures))

pub returns : goal.returns
returns g c =
    let s = g.F.Content.content_shape in
    let l = thrifty_lawful s (g.F.Content.content_lawful c.requires.fits) in
    let t = rw c.if-unused-ne0.false at c.in-Some.ensures in
    let h = c.in_ok-brief.ensures in
    record { value = h.value; accepts = alike_accepts (prefixed 0 (thrifty s)) (thrifty (prefixed 0 s)) (alike_prefixed 0 s) c.args.reader.now c.pass_content.new.reader h.value (prefixed_accepts 0 (thrifty s) l c.args.reader.now c.byte.new.self c.pass_content.new.reader h.value c.requires.ready t h.accepts); kept = h.kept }
