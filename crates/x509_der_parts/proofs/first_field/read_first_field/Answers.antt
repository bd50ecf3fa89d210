use Rattle.std.proofs.Common.{◌-◌, take, drop, refl, sym, ◌∙◌, arith}
use Rattle.std.proofs.lemmas.Result.{err_from_is_err_and}
use Rattle.x509_der_parts.specs.reads.FirstField.{both_grow, first_part, content_starts, places_in, none_entered, none_refused, none_more, none_behind, spares_memory}
use Rattle.x509_der_parts.specs.reads.Optional.{empty_is, not_empty_is}
use Rattle.x509_der_parts.proofs.first_field.read_first_field.Goals as goal

pub returns-in_err-behind-clause-err : goal.returns-in_err-behind-clause-err
returns-in_err-behind-clause-err g c =
    let r = c.requires in
    let p = err_from_is_err_and c.from_residual.result c.from_residual.ensures.1 in
    rw (p.1, p.2) (none_entered g.T.Structure.fields g.met.T.Structure.same g.F.Field.shape g.G.Content.content_shape (g.F.Field.lawful r.first) (g.G.Content.content_lawful r.second) r.apart c.whole_reader-reader.result c.args.bytes.now _ c.whole_reader-reader.ensures.rest c.in_err-behind.ensures.enters.none)

pub returns-in_err-fields-clause-err : goal.returns-in_err-fields-clause-err
returns-in_err-fields-clause-err g c =
    let r = c.requires in
    let p = err_from_is_err_and c.from_residual-in_err-fields.result c.from_residual-in_err-fields.ensures.1 in
    rw (p.1, p.2) (none_refused g.T.Structure.fields g.met.T.Structure.same g.F.Field.shape g.G.Content.content_shape (g.F.Field.lawful r.first) (g.G.Content.content_lawful r.second) r.apart c.whole_reader-reader.result c.enter.new.self c.read_both.new.reader c.in_ok-behind.behind.now c.args.bytes.now c.whole_reader-reader.ensures.rest c.in_ok-behind.ensures.enters _ c.in_err-fields.ensures)

pub returns-then-not-is_empty-clause-err : goal.returns-then-not-is_empty-clause-err
returns-then-not-is_empty-clause-err g c =
    let r = c.requires in
    none_more g.T.Structure.fields g.met.T.Structure.same g.F.Field.shape g.G.Content.content_shape (g.F.Field.lawful r.first) (g.G.Content.content_lawful r.second) r.apart c.whole_reader-reader.result c.enter.new.self c.read_both.new.reader c.in_ok-behind.behind.now c.args.bytes.now c.whole_reader-reader.ensures.rest c.in_ok-behind.ensures.enters
    c.in_ok-fields.fields c.in_ok-fields.end c.in_ok-fields.inside _ c.in_ok-fields.ensures (not_empty_is c.read_both.new.reader.rest (sym c.is_empty.ensures ∙ c.if-not-is_empty.true))

pub returns-then-not-is_empty-2-clause-err : goal.returns-then-not-is_empty-2-clause-err
returns-then-not-is_empty-2-clause-err g c =
    let r = c.requires in
    none_behind g.T.Structure.fields g.met.T.Structure.same g.F.Field.shape g.G.Content.content_shape (g.F.Field.lawful r.first) (g.G.Content.content_lawful r.second) r.apart c.whole_reader-reader.result c.enter.new.self c.read_both.new.reader c.in_ok-behind.behind.now c.args.bytes.now c.whole_reader-reader.ensures.rest c.in_ok-behind.ensures.enters
    _ (not_empty_is c.in_ok-behind.behind.now (sym c.is_empty-2.ensures ∙ c.if-not-is_empty-2.true))

pub slice_bounds-slice-end : goal.slice_bounds-slice-end
slice_bounds-slice-end g c =
    let r = c.requires in
    let p = places_in g.T.Structure.fields g.met.T.Structure.same g.F.Field.shape g.G.Content.content_shape (g.F.Field.lawful r.first) (g.G.Content.content_lawful r.second) r.apart c.whole_reader-reader.result c.enter.new.self c.read_both.new.reader c.in_ok-behind.behind.now c.args.bytes.now c.whole_reader-reader.ensures.rest c.in_ok-behind.ensures.enters
    c.in_ok-fields.fields c.spot-start.result.start c.in_ok-fields.end c.in_ok-fields.inside c.whole_reader-reader.ensures.at c.in_ok-fields.ensures c.spot-start.ensures.start in
    omega (arith, p.1)

pub since-outside-requires : goal.since-outside-requires
since-outside-requires g c = both_grow g.F.Field.shape g.G.Content.content_shape c.enter.new.self c.read_both.new.reader c.in_ok-fields.fields.0 c.in_ok-fields.fields.1 c.in_ok-fields.end c.in_ok-fields.inside c.deviations.result c.in_ok-fields.ensures c.deviations.ensures

pub returns-clause-ok : goal.returns-clause-ok
returns-clause-ok g c =
    let r = c.requires in
    first_part g.T.Structure.fields g.met.T.Structure.same g.F.Field.shape g.G.Content.content_shape (g.F.Field.lawful r.first) (g.G.Content.content_lawful r.second) r.apart c.whole_reader-reader.result c.enter.new.self c.read_both.new.reader c.in_ok-behind.behind.now c.args.bytes.now c.whole_reader-reader.ensures.rest c.in_ok-behind.ensures.enters
    c.from_fields-value.result c.in_ok-fields.fields c.spot-start.result.start c.in_ok-fields.end (take (c.in_ok-fields.end - c.spot-start.result.start) (drop c.spot-start.result.start c.args.bytes.now)) c.in_ok-fields.inside c.since-outside.result c.deviations.result
    c.from_fields-value.ensures c.whole_reader-reader.ensures.at c.whole_reader-reader.ensures.counts c.in_ok-fields.ensures
    (empty_is c.read_both.new.reader.rest (sym c.is_empty.ensures ∙ c.if-not-is_empty.false))
    (empty_is c.in_ok-behind.behind.now (sym c.is_empty-2.ensures ∙ c.if-not-is_empty-2.false))
    c.spot-start.ensures.start refl c.deviations.ensures c.since-outside.ensures

pub returns-in_err-behind-clause-frugal : goal.returns-in_err-behind-clause-frugal
returns-in_err-behind-clause-frugal g c = λ f h. let p = err_from_is_err_and c.from_residual.result c.from_residual.ensures.1 in rw (p.1, p.2) c.in_err-behind.ensures.kind

pub returns-in_err-fields-clause-frugal : goal.returns-in_err-fields-clause-frugal
returns-in_err-fields-clause-frugal g c = λ f h.
    let r = c.requires in
    let p = err_from_is_err_and c.from_residual-in_err-fields.result c.from_residual-in_err-fields.ensures.1 in
    rw (p.1, p.2) (spares_memory g.T.Structure.fields g.met.T.Structure.same g.F.Field.shape g.G.Content.content_shape (g.F.Field.lawful r.first) (g.G.Content.content_lawful r.second) r.apart c.whole_reader-reader.result c.enter.new.self c.read_both.new.reader c.in_ok-behind.behind.now c.args.bytes.now c.whole_reader-reader.ensures.rest c.in_ok-behind.ensures.enters
    _ c.whole_reader-reader.ensures.places c.in_err-fields.ensures f h)

pub returns-clause-start : goal.returns-clause-start
returns-clause-start g c =
    let r = c.requires in
    content_starts g.T.Structure.fields g.met.T.Structure.same g.F.Field.shape g.G.Content.content_shape (g.F.Field.lawful r.first) (g.G.Content.content_lawful r.second) r.apart c.whole_reader-reader.result c.enter.new.self c.read_both.new.reader c.in_ok-behind.behind.now c.args.bytes.now c.whole_reader-reader.ensures.rest c.in_ok-behind.ensures.enters
    c.spot-start.result.start c.whole_reader-reader.ensures.at c.spot-start.ensures.start
