use Rattle.std.proofs.Common.{sym, ◌∙◌}
use Rattle.std.proofs.lemmas.Result.{err_from_is_err_and}
use Rattle.x509_der.specs.reads.Tagged.{tagged_accepts, tagged_refuses, tagged_left_over, tagged_wrong}
use Rattle.x509_der.specs.reads.Optional.{empty_is, not_empty_is}
use Rattle.x509_keys.specs.Skipping.{skipping}
use Rattle.x509_keys.specs.facts.Skipping.{skipping_lawful}
use Rattle.x509_keys.proofs.skipping.read_sequence.Goals as goal

pub returns-in_err-after : goal.returns-in_err-after
returns-in_err-after g c =
    let s = skipping g.E.Field.shape g.F.Field.shape g.K.Tags.keep g.G.Field.shape in
    let l = skipping_lawful g.E.Field.shape g.F.Field.shape g.K.Tags.keep g.G.Field.shape (g.E.Field.lawful c.requires.first) (g.F.Field.lawful c.requires.second) (g.G.Field.lawful c.requires.last) c.requires.told in
    let p = err_from_is_err_and c.from_residual.result c.from_residual.ensures.1 in
    rw (p.1, p.2) (tagged_wrong 48 s l c.args.reader.now c.enter.new.self _ c.in_err-after.ensures.kind c.in_err-after.ensures.headers c.in_err-after.ensures.enters)

pub returns-in_err-fields : goal.returns-in_err-fields
returns-in_err-fields g c =
    let s = skipping g.E.Field.shape g.F.Field.shape g.K.Tags.keep g.G.Field.shape in
    let l = skipping_lawful g.E.Field.shape g.F.Field.shape g.K.Tags.keep g.G.Field.shape (g.E.Field.lawful c.requires.first) (g.F.Field.lawful c.requires.second) (g.G.Field.lawful c.requires.last) c.requires.told in
    let p = err_from_is_err_and c.from_residual-in_err-fields.result c.from_residual-in_err-fields.ensures.1 in
    rw (p.1, p.2) (tagged_refuses 48 s l c.args.reader.now c.enter.new.self c.read_fields-outcome.new.reader c.leave.new.self c.in_ok-after.after.now _ c.in_ok-after.ensures.enters c.in_err-fields.ensures c.leave.ensures)

pub returns-then-done : goal.returns-then-done
returns-then-done g c =
    let s = skipping g.E.Field.shape g.F.Field.shape g.K.Tags.keep g.G.Field.shape in
    let l = skipping_lawful g.E.Field.shape g.F.Field.shape g.K.Tags.keep g.G.Field.shape (g.E.Field.lawful c.requires.first) (g.F.Field.lawful c.requires.second) (g.G.Field.lawful c.requires.last) c.requires.told in
    tagged_accepts 48 s l c.args.reader.now c.enter.new.self c.read_fields-outcome.new.reader c.leave.new.self c.in_ok-after.after.now c.in_ok-fields.fields c.requires.ready c.in_ok-after.ensures.enters c.in_ok-fields.ensures
    (empty_is c.read_fields-outcome.new.reader.rest (sym c.is_empty-done.ensures ∙ c.if-done.true)) c.leave.ensures

pub returns : goal.returns
returns g c =
    let s = skipping g.E.Field.shape g.F.Field.shape g.K.Tags.keep g.G.Field.shape in
    let l = skipping_lawful g.E.Field.shape g.F.Field.shape g.K.Tags.keep g.G.Field.shape (g.E.Field.lawful c.requires.first) (g.F.Field.lawful c.requires.second) (g.G.Field.lawful c.requires.last) c.requires.told in
    tagged_left_over 48 s l c.args.reader.now c.enter.new.self c.read_fields-outcome.new.reader c.leave.new.self c.in_ok-after.after.now c.in_ok-fields.fields _ (λ e. cc) c.in_ok-after.ensures.enters c.in_ok-fields.ensures
    (not_empty_is c.read_fields-outcome.new.reader.rest (sym c.is_empty-done.ensures ∙ c.if-done.false)) c.leave.ensures
