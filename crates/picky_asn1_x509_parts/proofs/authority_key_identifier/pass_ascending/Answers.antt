use Rattle.std.proofs.Common.{sym, ap, ◌∙◌, [], ◌∷◌, ◌++◌, ◌+◌, ◌&&◌, Bool, ℕ, refl}
use Rattle.std.specs.Prelude.{nat_le}
use Rattle.std.proofs.lemmas.Result.{err_from_is_err_and}
use Rattle.x509_der.specs.Items.{items}
use Rattle.x509_der.specs.Reading.{thrifty}
use Rattle.x509_der.specs.laws.NotEmpty.{full}
use Rattle.x509_der.specs.reads.Items.{items_start, items_step, items_shorter, items_accept}
use Rattle.x509_der.specs.reads.PassingItems.{items_pass_refuse}
use Rattle.x509_der.specs.reads.Passing.{alike_accepts, alike_itself, alike_back}
use Rattle.x509_der.specs.reads.Optional.{empty_is, not_empty_is}
use Rattle.picky_asn1_x509_parts.specs.facts.AuthorityOrder.{least_push, ascends_push}
use Rattle.picky_asn1_x509_parts.proofs.authority_key_identifier.pass_ascending.Goals as goal

pub items-init : goal.items-init
items-init g c =
    let s = g.T.Field.shape in
    let l = g.T.Field.lawful c.requires.fits.0 in
    let f = full s (g.T.Field.elements c.requires.fits.1) in
    let r = (g.T.Field.elements c.requires.fits.1).free in
    ([], items_start s l f r c.args.reader.now c.requires.ready, refl, refl)

pub returns-in_err-number : goal.returns-in_err-number
returns-in_err-number g c =
    let s = g.T.Field.shape in
    let l = g.T.Field.lawful c.requires.fits.0 in
    let f = full s (g.T.Field.elements c.requires.fits.1) in
    let r = (g.T.Field.elements c.requires.fits.1).free in
    let p = err_from_is_err_and c.from_residual.result c.from_residual.ensures.1 in
    rw (p.1, p.2) (items_pass_refuse s l f r c.args.reader.now c.items.reader c.pass_numbered.new.reader c.items.invariant.0 _ c.items.invariant.1 (not_empty_is c.items.reader.rest (sym c.is_empty.ensures ∙ c.items-test.true)) c.in_err-number.ensures.passes)

pub items-smaller : goal.items-smaller
items-smaller g c =
    let s = g.T.Field.shape in
    let l = g.T.Field.lawful c.requires.fits.0 in
    let f = full s (g.T.Field.elements c.requires.fits.1) in
    let r = (g.T.Field.elements c.requires.fits.1).free in
    let k = c.in_ok-number.ensures.passes in
    let a = alike_accepts (thrifty s) s (alike_back s) c.items.reader c.pass_numbered.new.reader k.value k.accepts in
    items_shorter s l f r c.items.reader c.pass_numbered.new.reader k.value a

pub items-preserved : goal.items-preserved
items-preserved g c =
    let s = g.T.Field.shape in
    let l = g.T.Field.lawful c.requires.fits.0 in
    let f = full s (g.T.Field.elements c.requires.fits.1) in
    let r = (g.T.Field.elements c.requires.fits.1).free in
    let k = c.in_ok-number.ensures.passes in
    let a = alike_accepts (thrifty s) s (alike_back s) c.items.reader c.pass_numbered.new.reader k.value k.accepts in
    let done = c.items.invariant.0 in
    let n = g.T.Numbered.number in
    let e = c.items.invariant.2 in
    let m = c.items.invariant.3 in
    let kk = k.kept in
    let ap1 = ascends_push n 0 done k.value in
    let lp = least_push n 0 done k.value in
    let b = c.both-sorted.ensures in
    (done ++ k.value ∷ [], items_step s l f r c.args.reader.now c.items.reader c.pass_numbered.new.reader done k.value c.items.invariant.1 a, cc, cc)

pub returns : goal.returns
returns g c =
    let s = g.T.Field.shape in
    let l = g.T.Field.lawful c.requires.fits.0 in
    let f = full s (g.T.Field.elements c.requires.fits.1) in
    let r = (g.T.Field.elements c.requires.fits.1).free in
    let done = c.items.invariant.0 in
    let e = empty_is c.items.reader.rest (sym c.is_empty.ensures ∙ c.items-test.false) in
    record { value = done; accepts = alike_accepts (items s) (thrifty (items s)) (alike_itself (items s)) c.args.reader.now c.items.reader done (items_accept s l f r c.args.reader.now c.items.reader done c.items.invariant.1 e); kept = sym c.items.invariant.2 }
