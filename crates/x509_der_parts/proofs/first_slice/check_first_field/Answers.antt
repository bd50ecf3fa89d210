use Rattle.std.proofs.Common.{◌-◌, take, drop, refl, sym, ◌∙◌, arith}
use Rattle.std.proofs.lemmas.Result.{err_from_is_err_and}
use Rattle.x509_der_parts.specs.Reading.{thrifty}
use Rattle.x509_der_parts.specs.reads.Passing.{thrifty_lawful}
use Rattle.x509_der_parts.specs.reads.FirstField.{both_grow, first_part, content_starts, places_in, none_entered, none_refused, none_more, none_behind, spares_memory}
use Rattle.x509_der_parts.specs.reads.FirstSlice.{no_slice, first_slice}
use Rattle.x509_der_parts.specs.reads.Optional.{empty_is, not_empty_is}
use Rattle.x509_der_parts.proofs.first_slice.check_first_field.Goals as goal

pub returns-in_err-behind-clause-err : goal.returns-in_err-behind-clause-err
returns-in_err-behind-clause-err g c =
    let r = c.requires in
    let s = g.F.Field.shape in
    let t = g.G.Content.content_shape in
    let p = err_from_is_err_and c.from_residual.result c.from_residual.ensures.1 in
    let e = c.in_err-behind.ensures in
    rw (p.1, p.2) (no_slice g.T.Structure.fields s t c.args.bytes.now _ e.kind (none_entered g.T.Structure.fields g.met.T.Structure.same (thrifty s) (thrifty t) (thrifty_lawful s (g.F.Field.lawful r.first)) (thrifty_lawful t (g.G.Content.content_lawful r.second)) r.apart c.whole_reader-reader.result c.args.bytes.now _ c.whole_reader-reader.ensures.rest e.enters.none))

pub returns-in_err-end-clause-err : goal.returns-in_err-end-clause-err
returns-in_err-end-clause-err g c =
    let r = c.requires in
    let s = g.F.Field.shape in
    let t = g.G.Content.content_shape in
    let ls = thrifty_lawful s (g.F.Field.lawful r.first) in
    let lt = thrifty_lawful t (g.G.Content.content_lawful r.second) in
    let p = err_from_is_err_and c.from_residual-in_err-end.result c.from_residual-in_err-end.ensures.1 in
    let m = spares_memory g.T.Structure.fields g.met.T.Structure.same (thrifty s) (thrifty t) ls lt r.apart c.whole_reader-reader.result c.enter.new.self c.pass_both.new.reader c.in_ok-behind.behind.now c.args.bytes.now c.whole_reader-reader.ensures.rest c.in_ok-behind.ensures.enters
    _ c.whole_reader-reader.ensures.places c.in_err-end.ensures tt tt in
    rw (p.1, p.2) (no_slice g.T.Structure.fields s t c.args.bytes.now _ m (none_refused g.T.Structure.fields g.met.T.Structure.same (thrifty s) (thrifty t) ls lt r.apart c.whole_reader-reader.result c.enter.new.self c.pass_both.new.reader c.in_ok-behind.behind.now c.args.bytes.now c.whole_reader-reader.ensures.rest c.in_ok-behind.ensures.enters _ c.in_err-end.ensures))

pub returns-then-not-is_empty-clause-err : goal.returns-then-not-is_empty-clause-err
returns-then-not-is_empty-clause-err g c =
    let r = c.requires in
    let s = g.F.Field.shape in
    let t = g.G.Content.content_shape in
    let h = c.in_ok-end.ensures in
    no_slice g.T.Structure.fields s t c.args.bytes.now _ (λ e. cc) (none_more g.T.Structure.fields g.met.T.Structure.same (thrifty s) (thrifty t) (thrifty_lawful s (g.F.Field.lawful r.first)) (thrifty_lawful t (g.G.Content.content_lawful r.second)) r.apart c.whole_reader-reader.result c.enter.new.self c.pass_both.new.reader c.in_ok-behind.behind.now c.args.bytes.now c.whole_reader-reader.ensures.rest c.in_ok-behind.ensures.enters
    (h.0, h.1) c.in_ok-end.end c.in_ok-end.inside _ h.2 (not_empty_is c.pass_both.new.reader.rest (sym c.is_empty.ensures ∙ c.if-not-is_empty.true)))

pub returns-then-not-is_empty-2-clause-err : goal.returns-then-not-is_empty-2-clause-err
returns-then-not-is_empty-2-clause-err g c =
    let r = c.requires in
    let s = g.F.Field.shape in
    let t = g.G.Content.content_shape in
    no_slice g.T.Structure.fields s t c.args.bytes.now _ (λ e. cc) (none_behind g.T.Structure.fields g.met.T.Structure.same (thrifty s) (thrifty t) (thrifty_lawful s (g.F.Field.lawful r.first)) (thrifty_lawful t (g.G.Content.content_lawful r.second)) r.apart c.whole_reader-reader.result c.enter.new.self c.pass_both.new.reader c.in_ok-behind.behind.now c.args.bytes.now c.whole_reader-reader.ensures.rest c.in_ok-behind.ensures.enters
    _ (not_empty_is c.in_ok-behind.behind.now (sym c.is_empty-2.ensures ∙ c.if-not-is_empty-2.true)))

pub slice_bounds-slice-end : goal.slice_bounds-slice-end
slice_bounds-slice-end g c =
    let r = c.requires in
    let s = g.F.Field.shape in
    let t = g.G.Content.content_shape in
    let h = c.in_ok-end.ensures in
    let p = places_in g.T.Structure.fields g.met.T.Structure.same (thrifty s) (thrifty t) (thrifty_lawful s (g.F.Field.lawful r.first)) (thrifty_lawful t (g.G.Content.content_lawful r.second)) r.apart c.whole_reader-reader.result c.enter.new.self c.pass_both.new.reader c.in_ok-behind.behind.now c.args.bytes.now c.whole_reader-reader.ensures.rest c.in_ok-behind.ensures.enters
    (h.0, h.1) c.spot-start.result.start c.in_ok-end.end c.in_ok-end.inside c.whole_reader-reader.ensures.at h.2 c.spot-start.ensures.start in
    omega (arith, p.1)

pub since-outside-requires : goal.since-outside-requires
since-outside-requires g c =
    let h = c.in_ok-end.ensures in
    both_grow (thrifty g.F.Field.shape) (thrifty g.G.Content.content_shape) c.enter.new.self c.pass_both.new.reader h.0 h.1 c.in_ok-end.end c.in_ok-end.inside c.deviations.result h.2 c.deviations.ensures

pub returns-clause-ok : goal.returns-clause-ok
returns-clause-ok g c =
    let r = c.requires in
    let s = g.F.Field.shape in
    let t = g.G.Content.content_shape in
    let h = c.in_ok-end.ensures in
    let m = g.met.T.Structure.made (h.0, h.1) in
    let slice = take (c.in_ok-end.end - c.spot-start.result.start) (drop c.spot-start.result.start c.args.bytes.now) in (
      m.0,
      first_slice g.T.Structure.fields s t c.args.bytes.now m.0 slice c.in_ok-end.inside c.since-outside.result (first_part g.T.Structure.fields g.met.T.Structure.same (thrifty s) (thrifty t) (thrifty_lawful s (g.F.Field.lawful r.first)) (thrifty_lawful t (g.G.Content.content_lawful r.second)) r.apart c.whole_reader-reader.result c.enter.new.self c.pass_both.new.reader c.in_ok-behind.behind.now c.args.bytes.now c.whole_reader-reader.ensures.rest c.in_ok-behind.ensures.enters
          m.0 (h.0, h.1) c.spot-start.result.start c.in_ok-end.end slice c.in_ok-end.inside c.since-outside.result c.deviations.result
          m.1 c.whole_reader-reader.ensures.at c.whole_reader-reader.ensures.counts h.2
          (empty_is c.pass_both.new.reader.rest (sym c.is_empty.ensures ∙ c.if-not-is_empty.false))
          (empty_is c.in_ok-behind.behind.now (sym c.is_empty-2.ensures ∙ c.if-not-is_empty-2.false))
          c.spot-start.ensures.start refl c.deviations.ensures c.since-outside.ensures),
    )

pub returns-clause-start : goal.returns-clause-start
returns-clause-start g c =
    let r = c.requires in
    let s = g.F.Field.shape in
    let t = g.G.Content.content_shape in
    content_starts g.T.Structure.fields g.met.T.Structure.same (thrifty s) (thrifty t) (thrifty_lawful s (g.F.Field.lawful r.first)) (thrifty_lawful t (g.G.Content.content_lawful r.second)) r.apart c.whole_reader-reader.result c.enter.new.self c.pass_both.new.reader c.in_ok-behind.behind.now c.args.bytes.now c.whole_reader-reader.ensures.rest c.in_ok-behind.ensures.enters
    c.spot-start.result.start c.whole_reader-reader.ensures.at c.spot-start.ensures.start
