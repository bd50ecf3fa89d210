use Rattle.std.proofs.Common.{◌∙◌, ap, length}
use Rattle.x509_flat_report.proofs.Parts.{report_of, whole_comes}
use Rattle.x509_flat_report.specs.Reports.{beginning_of}
use Rattle.x509_flat_report.specs.declared.reading.Reading.TheVariants as reading
use Rattle.x509_flat_report.proofs.object.whole_report.Goals as goal

pub returns : goal.returns
returns g c =
    let o = c.in_ok-object.outcome in
    let bytes = c.args.bytes.now in
    let word = c.in_ok-word.word.now in
    let comes = whole_comes g.row.A.Denot c.args.kind bytes o c.in_ok-object.ensures.read c.in_ok-object.ensures.refused in
    let begins = c.in_ok-text.ensures ∙ ap (λ name. beginning_of name (length bytes) word) c.name.ensures in
    report_of g.row.A.Denot (reading.Whole c.args.kind) bytes o word c.in_ok-text.text.items c.behind_brace.result.now c.extend_from_slice.new.self.items
    comes c.in_ok-word.ensures begins c.in_ok-extend_from_slice.ensures.items
