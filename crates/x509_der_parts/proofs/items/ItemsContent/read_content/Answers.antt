use Rattle.std.proofs.Common.{sym, ◌∙◌}
use Rattle.std.proofs.lemmas.Result.{err_from_is_err_and}
use Rattle.x509_der_parts.specs.laws.NotEmpty.{full}
use Rattle.x509_der_parts.specs.reads.Items.{items_start, items_step, items_shorter, items_accept, items_refuse, items_memory}
use Rattle.x509_der_parts.specs.reads.Optional.{empty_is, not_empty_is}
use Rattle.x509_der_parts.proofs.items.ItemsContent.read_content.Goals as goal

pub items-init : goal.items-init
items-init g c =
    let s = g.T.Field.shape in
    let l = g.T.Field.lawful c.requires.fits.0 in
    rw c.new-items.ensures.items (items_start s l (full s (g.T.Field.elements c.requires.fits.1)) (g.T.Field.elements c.requires.fits.1).free c.args.reader.now c.requires.ready)

pub returns-in_err-item : goal.returns-in_err-item
returns-in_err-item g c =
    let s = g.T.Field.shape in
    let l = g.T.Field.lawful c.requires.fits.0 in
    let p = err_from_is_err_and c.from_residual.result c.from_residual.ensures.1 in
    rw (p.1, p.2) (items_refuse s l (full s (g.T.Field.elements c.requires.fits.1)) (g.T.Field.elements c.requires.fits.1).free c.args.reader.now c.items.reader c.read.new.reader c.items.items.items _ c.items.invariant (not_empty_is c.items.reader.rest (sym c.is_empty.ensures ∙ c.items-test.true)) c.in_err-item.ensures)

pub items-smaller : goal.items-smaller
items-smaller g c =
    let s = g.T.Field.shape in
    let l = g.T.Field.lawful c.requires.fits.0 in
    items_shorter s l (full s (g.T.Field.elements c.requires.fits.1)) (g.T.Field.elements c.requires.fits.1).free c.items.reader c.read.new.reader c.in_ok-item.item c.in_ok-item.ensures

pub items-preserved : goal.items-preserved
items-preserved g c =
    let s = g.T.Field.shape in
    let l = g.T.Field.lawful c.requires.fits.0 in
    rw c.in_ok-push.ensures.items (items_step s l (full s (g.T.Field.elements c.requires.fits.1)) (g.T.Field.elements c.requires.fits.1).free c.args.reader.now c.items.reader c.read.new.reader c.items.items.items c.in_ok-item.item c.items.invariant c.in_ok-item.ensures)

pub returns : goal.returns
returns g c =
    let s = g.T.Field.shape in
    let l = g.T.Field.lawful c.requires.fits.0 in
    items_accept s l (full s (g.T.Field.elements c.requires.fits.1)) (g.T.Field.elements c.requires.fits.1).free c.args.reader.now c.items.reader c.items.items.items c.items.invariant (empty_is c.items.reader.rest (sym c.is_empty.ensures ∙ c.items-test.false))

pub returns-in_err-push : goal.returns-in_err-push
returns-in_err-push g c =
    let s = g.T.Field.shape in
    let l = g.T.Field.lawful c.requires.fits.0 in
    let p = err_from_is_err_and c.from_residual-in_err-push.result c.from_residual-in_err-push.ensures.1 in
    rw p.1 (items_memory s l (full s (g.T.Field.elements c.requires.fits.1)) (g.T.Field.elements c.requires.fits.1).free c.args.reader.now c.items.reader c.read.new.reader c.items.items.items c.in_ok-item.item _ c.items.invariant c.in_ok-item.ensures p.2)
