use Rattle.std.proofs.Common.{sym, ◌∙◌, [], ◌∷◌, ◌++◌}
use Rattle.std.proofs.lemmas.Result.{err_from_is_err_and}
use Rattle.x509_der_parts.specs.laws.NotEmpty.{full}
use Rattle.x509_der_parts.specs.Items.{items}
use Rattle.x509_der_parts.specs.Reading.{thrifty}
use Rattle.x509_der_parts.specs.reads.Items.{items_start, items_step, items_shorter, items_accept}
use Rattle.x509_der_parts.specs.reads.PassingItems.{items_pass_refuse, kept_none}
use Rattle.x509_der_parts.specs.reads.Passing.{alike_accepts, alike_itself, alike_back}
use Rattle.x509_der_parts.specs.reads.Optional.{empty_is, not_empty_is}
use Rattle.x509_der_parts.proofs.items.ItemsContent.pass_content.Goals as goal

pub items-init : goal.items-init
items-init g c =
    let s = g.T.Field.shape in
    let l = g.T.Field.lawful c.requires.fits.0 in
    ([], items_start s l (full s (g.T.Field.elements c.requires.fits.1)) (g.T.Field.elements c.requires.fits.1).free c.args.reader.now c.requires.ready)

pub returns-in_err-pass : goal.returns-in_err-pass
returns-in_err-pass g c =
    let s = g.T.Field.shape in
    let l = g.T.Field.lawful c.requires.fits.0 in
    let p = err_from_is_err_and c.from_residual.result c.from_residual.ensures.1 in
    rw (p.1, p.2) (items_pass_refuse s l (full s (g.T.Field.elements c.requires.fits.1)) (g.T.Field.elements c.requires.fits.1).free c.args.reader.now c.items.reader c.pass.new.reader c.items.invariant.0 _ c.items.invariant.1 (not_empty_is c.items.reader.rest (sym c.is_empty.ensures ∙ c.items-test.true)) c.in_err-pass.ensures)

pub items-smaller : goal.items-smaller
items-smaller g c =
    let s = g.T.Field.shape in
    let k = c.in_ok-pass.ensures in
    let a = alike_accepts (thrifty s) s (alike_back s) c.items.reader c.pass.new.reader k.value k.accepts in
    let l = g.T.Field.lawful c.requires.fits.0 in
    items_shorter s l (full s (g.T.Field.elements c.requires.fits.1)) (g.T.Field.elements c.requires.fits.1).free c.items.reader c.pass.new.reader k.value a

pub items-preserved : goal.items-preserved
items-preserved g c =
    let s = g.T.Field.shape in
    let k = c.in_ok-pass.ensures in
    let a = alike_accepts (thrifty s) s (alike_back s) c.items.reader c.pass.new.reader k.value k.accepts in
    let l = g.T.Field.lawful c.requires.fits.0 in
    (c.items.invariant.0 ++ k.value ∷ [], items_step s l (full s (g.T.Field.elements c.requires.fits.1)) (g.T.Field.elements c.requires.fits.1).free c.args.reader.now c.items.reader c.pass.new.reader c.items.invariant.0 k.value c.items.invariant.1 a)

pub returns : goal.returns
returns g c =
    let s = g.T.Field.shape in
    let l = g.T.Field.lawful c.requires.fits.0 in
    let f = full s (g.T.Field.elements c.requires.fits.1) in
    let r = (g.T.Field.elements c.requires.fits.1).free in
    let done = c.items.invariant.0 in
    let e = empty_is c.items.reader.rest (sym c.is_empty.ensures ∙ c.items-test.false) in
    record { value = done; accepts = alike_accepts (items s) (thrifty (items s)) (alike_itself (items s)) c.args.reader.now c.items.reader done (items_accept s l f r c.args.reader.now c.items.reader done c.items.invariant.1 e); kept = kept_none s l f r c.args.reader.now c.items.reader done c.items.invariant.1 e ∙ sym c.is_empty-none.ensures }
