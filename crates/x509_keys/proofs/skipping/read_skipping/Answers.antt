use Rattle.std.proofs.Common.{◌≡◌, [], ◌∷◌, Some, Err, ap, ◌∙◌, arith}
use Rattle.std.proofs.lemmas.Result.{err_from_is_err_and}
use Rattle.x509_der.specs.Tagged.{tagged}
use Rattle.x509_der.specs.View.{kinds_in}
use Rattle.x509_der.specs.laws.Tagged.{tagged_lawful}
use Rattle.x509_der.specs.reads.Cursor.{booked_none, booked_one, spot_stays}
use Rattle.x509_der.specs.reads.View.{Few, viewed_accepts, viewed_refuses, viewed_meaningless, viewed_memory, mark_room}
use Rattle.x509_keys.specs.Skipping.{skipping}
use Rattle.x509_keys.specs.facts.Skipping.{skipping_lawful}
use Rattle.x509_keys.proofs.skipping.read_skipping.Goals as goal

pub returns-in_err-fields : goal.returns-in_err-fields
returns-in_err-fields g c =
    let m = g.T.View.view in
    let i = skipping g.E.Field.shape g.F.Field.shape g.K.Tags.keep g.G.Field.shape in
    let s = tagged 48 i in
    let l = tagged_lawful 48 i (skipping_lawful g.E.Field.shape g.F.Field.shape g.K.Tags.keep g.G.Field.shape (g.E.Field.lawful c.requires.first) (g.F.Field.lawful c.requires.second) (g.G.Field.lawful c.requires.last) c.requires.told) in
    let h : Few m.of s = λ b v ks p y e a. g.T.View.keeps.1.few b v ks p y e (c.requires.base b p y a) in
    let p = err_from_is_err_and c.from_residual.result c.from_residual.ensures.1 in
    rw (p.1, p.2) (viewed_refuses m.of m.back m.valid m.readable s l h c.args.reader.now c.read_sequence.new.reader _ c.in_err-fields.ensures)

pub returns-in-Err : goal.returns-in-Err
returns-in-Err g c =
    let m = g.T.View.view in
    let i = skipping g.E.Field.shape g.F.Field.shape g.K.Tags.keep g.G.Field.shape in
    let s = tagged 48 i in
    let l = tagged_lawful 48 i (skipping_lawful g.E.Field.shape g.F.Field.shape g.K.Tags.keep g.G.Field.shape (g.E.Field.lawful c.requires.first) (g.F.Field.lawful c.requires.second) (g.G.Field.lawful c.requires.last) c.requires.told) in
    let h : Few m.of s = λ b v ks p y e a. g.T.View.keeps.1.few b v ks p y e (c.requires.base b p y a) in
    viewed_meaningless m.of m.back m.valid m.readable s l h c.args.reader.now c.read_sequence.new.reader c.go_back.new.self c.spot-spot.result c.in_ok-fields.fields c.in-Err.refusal (λ e. c.in-Err.ensures.refusal (ap Err e)) c.in_ok-fields.ensures c.in-Err.ensures.meaning c.spot-spot.ensures c.go_back.ensures

pub mark-requires-clause-room : goal.mark-requires-clause-room
mark-requires-clause-room g c =
    let m = g.T.View.view in
    let i = skipping g.E.Field.shape g.F.Field.shape g.K.Tags.keep g.G.Field.shape in
    let s = tagged 48 i in
    let l = tagged_lawful 48 i (skipping_lawful g.E.Field.shape g.F.Field.shape g.K.Tags.keep g.G.Field.shape (g.E.Field.lawful c.requires.first) (g.F.Field.lawful c.requires.second) (g.G.Field.lawful c.requires.last) c.requires.told) in
    let h : Few m.of s = λ b v ks p y e a. g.T.View.keeps.1.few b v ks p y e (c.requires.base b p y a) in
    let e : m.of c.in_ok-fields.fields ≡ Some (c.in-Ok.meant.0, c.in-One.kind ∷ []) = c.in-Ok.ensures.meaning ∙ ap (λ d. Some (c.in-Ok.meant.0, kinds_in d)) c.in-One.is in
    mark_room m.of m.back m.valid m.readable s l h c.args.reader.now c.read_sequence.new.reader c.in_ok-fields.fields c.in-Ok.meant.0 (c.in-One.kind ∷ []) c.requires.ready c.in_ok-fields.ensures e (omega arith)

pub mark-requires-clause-place : goal.mark-requires-clause-place
mark-requires-clause-place g c = spot_stays c.args.reader.now c.read_sequence.new.reader c.in_ok-fields.ensures.bytes c.in_ok-fields.ensures.tally c.spot-spot.result c.spot-spot.ensures c.in_ok-fields.ensures.moved

pub returns-in_err-mark-in-One : goal.returns-in_err-mark-in-One
returns-in_err-mark-in-One g c =
    let m = g.T.View.view in
    let i = skipping g.E.Field.shape g.F.Field.shape g.K.Tags.keep g.G.Field.shape in
    let s = tagged 48 i in
    let l = tagged_lawful 48 i (skipping_lawful g.E.Field.shape g.F.Field.shape g.K.Tags.keep g.G.Field.shape (g.E.Field.lawful c.requires.first) (g.F.Field.lawful c.requires.second) (g.G.Field.lawful c.requires.last) c.requires.told) in
    let h : Few m.of s = λ b v ks p y e a. g.T.View.keeps.1.few b v ks p y e (c.requires.base b p y a) in
    let p = err_from_is_err_and c.from_residual-in_err-mark-in-One.result c.from_residual-in_err-mark-in-One.ensures.1 in
    let e : m.of c.in_ok-fields.fields ≡ Some (c.in-Ok.meant.0, c.in-One.kind ∷ []) = c.in-Ok.ensures.meaning ∙ ap (λ d. Some (c.in-Ok.meant.0, kinds_in d)) c.in-One.is in
    rw (p.1, p.2) (viewed_memory m.of m.back m.valid m.readable s l h c.args.reader.now c.read_sequence.new.reader c.mark.new.self c.in_ok-fields.fields c.in-Ok.meant.0 (c.in-One.kind ∷ []) _ c.in_ok-fields.ensures e (omega arith) c.in_err-mark-in-One.ensures)

pub returns-in-Nothing : goal.returns-in-Nothing
returns-in-Nothing g c =
    let m = g.T.View.view in
    let i = skipping g.E.Field.shape g.F.Field.shape g.K.Tags.keep g.G.Field.shape in
    let s = tagged 48 i in
    let l = tagged_lawful 48 i (skipping_lawful g.E.Field.shape g.F.Field.shape g.K.Tags.keep g.G.Field.shape (g.E.Field.lawful c.requires.first) (g.F.Field.lawful c.requires.second) (g.G.Field.lawful c.requires.last) c.requires.told) in
    let h : Few m.of s = λ b v ks p y e a. g.T.View.keeps.1.few b v ks p y e (c.requires.base b p y a) in
    let e : m.of c.in_ok-fields.fields ≡ Some (c.in-Ok.meant.0, []) = c.in-Ok.ensures.meaning ∙ ap (λ d. Some (c.in-Ok.meant.0, kinds_in d)) c.in-Nothing.is in
    viewed_accepts m.of m.back m.valid m.readable s l h c.args.reader.now c.read_sequence.new.reader c.read_sequence.new.reader c.in_ok-fields.fields c.in-Ok.meant.0 [] c.requires.ready c.in_ok-fields.ensures e (booked_none c.args.reader.now c.read_sequence.new.reader)

pub returns-in_ok-mark-in-One : goal.returns-in_ok-mark-in-One
returns-in_ok-mark-in-One g c =
    let m = g.T.View.view in
    let i = skipping g.E.Field.shape g.F.Field.shape g.K.Tags.keep g.G.Field.shape in
    let s = tagged 48 i in
    let l = tagged_lawful 48 i (skipping_lawful g.E.Field.shape g.F.Field.shape g.K.Tags.keep g.G.Field.shape (g.E.Field.lawful c.requires.first) (g.F.Field.lawful c.requires.second) (g.G.Field.lawful c.requires.last) c.requires.told) in
    let h : Few m.of s = λ b v ks p y e a. g.T.View.keeps.1.few b v ks p y e (c.requires.base b p y a) in
    let e : m.of c.in_ok-fields.fields ≡ Some (c.in-Ok.meant.0, c.in-One.kind ∷ []) = c.in-Ok.ensures.meaning ∙ ap (λ d. Some (c.in-Ok.meant.0, kinds_in d)) c.in-One.is in
    viewed_accepts m.of m.back m.valid m.readable s l h c.args.reader.now c.read_sequence.new.reader c.mark.new.self c.in_ok-fields.fields c.in-Ok.meant.0 (c.in-One.kind ∷ []) c.requires.ready c.in_ok-fields.ensures e (booked_one c.args.reader.now c.read_sequence.new.reader c.mark.new.self c.in-One.kind c.spot-spot.result c.spot-spot.ensures c.in_ok-mark-in-One.ensures)
