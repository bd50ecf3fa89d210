use Rattle.std.proofs.Common.{◌≡◌, [], ◌∷◌, Some, ap, ◌∙◌, arith}
use Rattle.std.proofs.lemmas.Result.{err_from_is_err_and}
use Rattle.x509_der_parts.specs.View.{kinds_in, viewed}
use Rattle.x509_der_parts.specs.Reading.{thrifty}
use Rattle.x509_der_parts.specs.reads.Passing.{thrifty_lawful, alike_viewed, alike_accepts, alike_refuses}
use Rattle.x509_der_parts.specs.reads.Cursor.{booked_none, booked_one, booked_more, spot_stays, spot_stays_marked}
use Rattle.x509_der_parts.specs.reads.View.{Few, viewed_accepts, viewed_refuses, viewed_memory, viewed_memory_more, ready_marked, mark_room, mark_room_more}
use Rattle.x509_der_parts.proofs.viewed.pass_viewed.Goals as goal

pub returns-in_err-brief : goal.returns-in_err-brief
returns-in_err-brief g c =
    let m = g.T.View.view in
    let s = thrifty g.F.Field.shape in
    let l = thrifty_lawful g.F.Field.shape (g.F.Field.lawful c.requires.fits) in
    let h : Few m.of s = λ b v ks p y e a. g.T.View.keeps.1.few b v ks p y e (c.requires.base b p y a) in
    let p = err_from_is_err_and c.from_residual.result c.from_residual.ensures.1 in
    rw (p.1, p.2) (alike_refuses (viewed m.of m.back m.valid m.readable s) (thrifty (viewed m.of m.back m.valid m.readable g.F.Field.shape)) (alike_viewed m.of m.back m.valid m.readable g.F.Field.shape) c.args.reader.now c.pass.new.reader _ (λ u. u) (viewed_refuses m.of m.back m.valid m.readable s l h c.args.reader.now c.pass.new.reader _ c.in_err-brief.ensures))

pub returns-in-Nothing : goal.returns-in-Nothing
returns-in-Nothing g c =
    let m = g.T.View.view in
    let s = thrifty g.F.Field.shape in
    let a = c.in_ok-brief.ensures in
    let l = thrifty_lawful g.F.Field.shape (g.F.Field.lawful c.requires.fits) in
    let h : Few m.of s = λ b v ks p y e a. g.T.View.keeps.1.few b v ks p y e (c.requires.base b p y a) in
    let j = c.in-Ok.ensures a.value (c.requires.brief a.value ∙ a.kept) in
    let e : m.of a.value ≡ Some (j.0, []) = j.1 ∙ ap (λ d. Some (j.0, kinds_in d)) c.in-Nothing.is in
    record { value = j.0; accepts = alike_accepts (viewed m.of m.back m.valid m.readable s) (thrifty (viewed m.of m.back m.valid m.readable g.F.Field.shape)) (alike_viewed m.of m.back m.valid m.readable g.F.Field.shape) c.args.reader.now c.pass.new.reader j.0 (viewed_accepts m.of m.back m.valid m.readable s l h c.args.reader.now c.pass.new.reader c.pass.new.reader a.value j.0 [] c.requires.ready a.accepts e (booked_none c.args.reader.now c.pass.new.reader)); kept = j.2 }

pub mark-requires-clause-room : goal.mark-requires-clause-room
mark-requires-clause-room g c =
    let m = g.T.View.view in
    let s = thrifty g.F.Field.shape in
    let a = c.in_ok-brief.ensures in
    let l = thrifty_lawful g.F.Field.shape (g.F.Field.lawful c.requires.fits) in
    let h : Few m.of s = λ b v ks p y e a. g.T.View.keeps.1.few b v ks p y e (c.requires.base b p y a) in
    let j = c.in-Ok.ensures a.value (c.requires.brief a.value ∙ a.kept) in
    let e : m.of a.value ≡ Some (j.0, c.in-One.kind ∷ []) = j.1 ∙ ap (λ d. Some (j.0, kinds_in d)) c.in-One.is in
    mark_room m.of m.back m.valid m.readable s l h c.args.reader.now c.pass.new.reader a.value j.0 (c.in-One.kind ∷ []) c.requires.ready a.accepts e (omega arith)

pub returns-in_ok-mark-in-One : goal.returns-in_ok-mark-in-One
returns-in_ok-mark-in-One g c =
    let m = g.T.View.view in
    let s = thrifty g.F.Field.shape in
    let a = c.in_ok-brief.ensures in
    let l = thrifty_lawful g.F.Field.shape (g.F.Field.lawful c.requires.fits) in
    let h : Few m.of s = λ b v ks p y e a. g.T.View.keeps.1.few b v ks p y e (c.requires.base b p y a) in
    let j = c.in-Ok.ensures a.value (c.requires.brief a.value ∙ a.kept) in
    let e : m.of a.value ≡ Some (j.0, c.in-One.kind ∷ []) = j.1 ∙ ap (λ d. Some (j.0, kinds_in d)) c.in-One.is in
    record { value = j.0; accepts = alike_accepts (viewed m.of m.back m.valid m.readable s) (thrifty (viewed m.of m.back m.valid m.readable g.F.Field.shape)) (alike_viewed m.of m.back m.valid m.readable g.F.Field.shape) c.args.reader.now c.mark.new.self j.0 (viewed_accepts m.of m.back m.valid m.readable s l h c.args.reader.now c.pass.new.reader c.mark.new.self a.value j.0 (c.in-One.kind ∷ []) c.requires.ready a.accepts e (booked_one c.args.reader.now c.pass.new.reader c.mark.new.self c.in-One.kind c.spot-spot.result c.spot-spot.ensures c.in_ok-mark-in-One.ensures)); kept = j.2 }

pub mark-requires-in-Two-clause-room : goal.mark-requires-in-Two-clause-room
mark-requires-in-Two-clause-room g c =
    let m = g.T.View.view in
    let s = thrifty g.F.Field.shape in
    let a = c.in_ok-brief.ensures in
    let l = thrifty_lawful g.F.Field.shape (g.F.Field.lawful c.requires.fits) in
    let h : Few m.of s = λ b v ks p y e a. g.T.View.keeps.1.few b v ks p y e (c.requires.base b p y a) in
    let j = c.in-Ok.ensures a.value (c.requires.brief a.value ∙ a.kept) in
    let e : m.of a.value ≡ Some (j.0, c.in-Two.first ∷ c.in-Two.second ∷ []) = j.1 ∙ ap (λ d. Some (j.0, kinds_in d)) c.in-Two.is in
    mark_room m.of m.back m.valid m.readable s l h c.args.reader.now c.pass.new.reader a.value j.0 (c.in-Two.first ∷ c.in-Two.second ∷ []) c.requires.ready a.accepts e (omega arith)

pub mark-requires-in-Two-2-clause-room : goal.mark-requires-in-Two-2-clause-room
mark-requires-in-Two-2-clause-room g c =
    let m = g.T.View.view in
    let s = thrifty g.F.Field.shape in
    let a = c.in_ok-brief.ensures in
    let l = thrifty_lawful g.F.Field.shape (g.F.Field.lawful c.requires.fits) in
    let h : Few m.of s = λ b v ks p y e a. g.T.View.keeps.1.few b v ks p y e (c.requires.base b p y a) in
    let j = c.in-Ok.ensures a.value (c.requires.brief a.value ∙ a.kept) in
    let e : m.of a.value ≡ Some (j.0, c.in-Two.first ∷ c.in-Two.second ∷ []) = j.1 ∙ ap (λ d. Some (j.0, kinds_in d)) c.in-Two.is in
    mark_room_more m.of m.back m.valid m.readable s l h c.args.reader.now c.pass.new.reader c.mark-in-Two.new.self a.value j.0 (c.in-Two.first ∷ c.in-Two.second ∷ []) c.in-Two.second c.spot-spot.result c.requires.ready a.accepts e (omega arith) c.in_ok-mark-in-Two.ensures

pub mark-requires-in-Two-2-clause-place : goal.mark-requires-in-Two-2-clause-place
mark-requires-in-Two-2-clause-place g c =
    let m = g.T.View.view in
    let s = thrifty g.F.Field.shape in
    let a = c.in_ok-brief.ensures in
    let l = thrifty_lawful g.F.Field.shape (g.F.Field.lawful c.requires.fits) in
    let h : Few m.of s = λ b v ks p y e a. g.T.View.keeps.1.few b v ks p y e (c.requires.base b p y a) in
    spot_stays_marked c.pass.new.reader c.mark-in-Two.new.self c.in-Two.second c.spot-spot.result c.spot-spot.result (spot_stays c.args.reader.now c.pass.new.reader a.accepts.bytes a.accepts.tally c.spot-spot.result c.spot-spot.ensures a.accepts.moved) c.in_ok-mark-in-Two.ensures

pub mark-requires-in-Two-2-clause-ready : goal.mark-requires-in-Two-2-clause-ready
mark-requires-in-Two-2-clause-ready g c =
    let m = g.T.View.view in
    let s = thrifty g.F.Field.shape in
    let a = c.in_ok-brief.ensures in
    let l = thrifty_lawful g.F.Field.shape (g.F.Field.lawful c.requires.fits) in
    let h : Few m.of s = λ b v ks p y e a. g.T.View.keeps.1.few b v ks p y e (c.requires.base b p y a) in
    let j = c.in-Ok.ensures a.value (c.requires.brief a.value ∙ a.kept) in
    let e : m.of a.value ≡ Some (j.0, c.in-Two.first ∷ c.in-Two.second ∷ []) = j.1 ∙ ap (λ d. Some (j.0, kinds_in d)) c.in-Two.is in
    ready_marked c.pass.new.reader c.mark-in-Two.new.self c.in-Two.second c.spot-spot.result a.accepts.ready (mark_room m.of m.back m.valid m.readable s l h c.args.reader.now c.pass.new.reader a.value j.0 (c.in-Two.first ∷ c.in-Two.second ∷ []) c.requires.ready a.accepts e (omega arith)) c.in_ok-mark-in-Two.ensures

pub returns-in_err-mark-in-Two-2 : goal.returns-in_err-mark-in-Two-2
returns-in_err-mark-in-Two-2 g c =
    let m = g.T.View.view in
    let s = thrifty g.F.Field.shape in
    let a = c.in_ok-brief.ensures in
    let l = thrifty_lawful g.F.Field.shape (g.F.Field.lawful c.requires.fits) in
    let h : Few m.of s = λ b v ks p y e a. g.T.View.keeps.1.few b v ks p y e (c.requires.base b p y a) in
    let p = err_from_is_err_and c.from_residual-in_err-mark-in-Two-2.result c.from_residual-in_err-mark-in-Two-2.ensures.1 in
    let j = c.in-Ok.ensures a.value (c.requires.brief a.value ∙ a.kept) in
    let e : m.of a.value ≡ Some (j.0, c.in-Two.first ∷ c.in-Two.second ∷ []) = j.1 ∙ ap (λ d. Some (j.0, kinds_in d)) c.in-Two.is in
    rw (p.1, p.2) (alike_refuses (viewed m.of m.back m.valid m.readable s) (thrifty (viewed m.of m.back m.valid m.readable g.F.Field.shape)) (alike_viewed m.of m.back m.valid m.readable g.F.Field.shape) c.args.reader.now c.mark-in-Two-2.new.self _ (λ u. u) (viewed_memory_more m.of m.back m.valid m.readable s l h c.args.reader.now c.pass.new.reader c.mark-in-Two.new.self c.mark-in-Two-2.new.self a.value j.0 (c.in-Two.first ∷ c.in-Two.second ∷ []) c.in-Two.second c.spot-spot.result _ a.accepts e (omega arith) c.in_ok-mark-in-Two.ensures c.in_err-mark-in-Two-2.ensures))

pub returns-in_ok-mark-in-Two-2 : goal.returns-in_ok-mark-in-Two-2
returns-in_ok-mark-in-Two-2 g c =
    let m = g.T.View.view in
    let s = thrifty g.F.Field.shape in
    let a = c.in_ok-brief.ensures in
    let l = thrifty_lawful g.F.Field.shape (g.F.Field.lawful c.requires.fits) in
    let h : Few m.of s = λ b v ks p y e a. g.T.View.keeps.1.few b v ks p y e (c.requires.base b p y a) in
    let j = c.in-Ok.ensures a.value (c.requires.brief a.value ∙ a.kept) in
    let e : m.of a.value ≡ Some (j.0, c.in-Two.first ∷ c.in-Two.second ∷ []) = j.1 ∙ ap (λ d. Some (j.0, kinds_in d)) c.in-Two.is in
    record { value = j.0; accepts = alike_accepts (viewed m.of m.back m.valid m.readable s) (thrifty (viewed m.of m.back m.valid m.readable g.F.Field.shape)) (alike_viewed m.of m.back m.valid m.readable g.F.Field.shape) c.args.reader.now c.mark-in-Two-2.new.self j.0 (viewed_accepts m.of m.back m.valid m.readable s l h c.args.reader.now c.pass.new.reader c.mark-in-Two-2.new.self a.value j.0 (c.in-Two.first ∷ c.in-Two.second ∷ []) c.requires.ready a.accepts e (booked_more c.args.reader.now c.pass.new.reader c.mark-in-Two.new.self c.mark-in-Two-2.new.self c.in-Two.first (c.in-Two.second ∷ []) c.spot-spot.result c.spot-spot.ensures (booked_one c.args.reader.now c.pass.new.reader c.mark-in-Two.new.self c.in-Two.second c.spot-spot.result c.spot-spot.ensures c.in_ok-mark-in-Two.ensures) c.in_ok-mark-in-Two-2.ensures)); kept = j.2 }

pub returns-in_err-mark-in-One : goal.returns-in_err-mark-in-One
returns-in_err-mark-in-One g c =
    let m = g.T.View.view in
    let s = thrifty g.F.Field.shape in
    let a = c.in_ok-brief.ensures in
    let l = thrifty_lawful g.F.Field.shape (g.F.Field.lawful c.requires.fits) in
    let h : Few m.of s = λ b v ks p y e a. g.T.View.keeps.1.few b v ks p y e (c.requires.base b p y a) in
    let p = err_from_is_err_and c.from_residual-in_err-mark-in-One.result c.from_residual-in_err-mark-in-One.ensures.1 in
    let j = c.in-Ok.ensures a.value (c.requires.brief a.value ∙ a.kept) in
    let e : m.of a.value ≡ Some (j.0, c.in-One.kind ∷ []) = j.1 ∙ ap (λ d. Some (j.0, kinds_in d)) c.in-One.is in
    rw (p.1, p.2) (alike_refuses (viewed m.of m.back m.valid m.readable s) (thrifty (viewed m.of m.back m.valid m.readable g.F.Field.shape)) (alike_viewed m.of m.back m.valid m.readable g.F.Field.shape) c.args.reader.now c.mark.new.self _ (λ u. u) (viewed_memory m.of m.back m.valid m.readable s l h c.args.reader.now c.pass.new.reader c.mark.new.self a.value j.0 (c.in-One.kind ∷ []) _ a.accepts e (omega arith) c.in_err-mark-in-One.ensures))

pub returns-in_err-mark-in-Two : goal.returns-in_err-mark-in-Two
returns-in_err-mark-in-Two g c =
    let m = g.T.View.view in
    let s = thrifty g.F.Field.shape in
    let a = c.in_ok-brief.ensures in
    let l = thrifty_lawful g.F.Field.shape (g.F.Field.lawful c.requires.fits) in
    let h : Few m.of s = λ b v ks p y e a. g.T.View.keeps.1.few b v ks p y e (c.requires.base b p y a) in
    let p = err_from_is_err_and c.from_residual-in_err-mark-in-Two.result c.from_residual-in_err-mark-in-Two.ensures.1 in
    let j = c.in-Ok.ensures a.value (c.requires.brief a.value ∙ a.kept) in
    let e : m.of a.value ≡ Some (j.0, c.in-Two.first ∷ c.in-Two.second ∷ []) = j.1 ∙ ap (λ d. Some (j.0, kinds_in d)) c.in-Two.is in
    rw (p.1, p.2) (alike_refuses (viewed m.of m.back m.valid m.readable s) (thrifty (viewed m.of m.back m.valid m.readable g.F.Field.shape)) (alike_viewed m.of m.back m.valid m.readable g.F.Field.shape) c.args.reader.now c.mark-in-Two.new.self _ (λ u. u) (viewed_memory m.of m.back m.valid m.readable s l h c.args.reader.now c.pass.new.reader c.mark-in-Two.new.self a.value j.0 (c.in-Two.first ∷ c.in-Two.second ∷ []) _ a.accepts e (omega arith) c.in_err-mark-in-Two.ensures))
