use Rattle.x509_report_parts.proofs.Firsts.{none_next, other_next}
use Rattle.x509_report_parts.proofs.cursor.Cursor.next_if.Goals as goal
use Rattle.x509_report_parts.proofs.cursor.Cursor.next_if.Goals.{in_default-via-in-Some+else-element-tag, in_default-via-in_default}

pub returns-in_default : goal.returns-in_default
returns-in_default c =
    let old = c.args.self.now in
    elim c.in_default.branch [
      | in_default-via-in-Some+else-element-tag w ↦ other_next c.args.tag old c.take.new.self w.in-Some.element w.in-Some.ensures w.if-element-tag.false
      | in_default-via-in_default w ↦ none_next c.args.tag old c.take.new.self w.in_default.ensures
    ]
