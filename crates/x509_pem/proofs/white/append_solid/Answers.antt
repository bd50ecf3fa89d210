use Rattle.std.proofs.Common.{[], ◌∷◌, ◌++◌, slice_index, false, true, sym, ◌∙◌, ap, append-nil}
use Rattle.x509_pem.proofs.Text.{grown_by, grown_all}
use Rattle.x509_pem.proofs.WhiteSpace.{appended_more, appended_bound}
use Rattle.x509_pem.proofs.white.append_solid.Goals as goal
use Rattle.x509_pem.proofs.white.append_solid.Goals.{else-not-is_white-via-then-not-is_white+else-is_err, else-not-is_white-via-else-not-is_white}

pub returns-then-is_err-clause-bound : goal.returns-then-is_err-clause-bound
returns-then-is_err-clause-bound g c =
    let s = c.args.bytes.now in
    let i = c.bytes.byte-index in
    appended_bound c.args.text.now.items c.bytes.text.items c.push.new.self.items s i c.bytes-test.true
    (sym c.is_white.ensures ∙ c.if-not-is_white.true) c.bytes.invariant
    (grown_by c.push.result c.bytes.text.items (slice_index s i ∷ []) c.push.new.self.items c.push.ensures.items)

pub bytes-preserved : goal.bytes-preserved
bytes-preserved g c = elim c.else-not-is_white.branch [
  | else-not-is_white-via-then-not-is_white+else-is_err w ↦
      let s = c.args.bytes.now in
      let i = c.bytes.byte-index in
      appended_more c.args.text.now.items c.bytes.text.items c.else-not-is_white.text.items s i false c.bytes-test.true
      (sym c.is_white.ensures ∙ w.if-not-is_white.true) c.bytes.invariant
      (ap (λ t. t.items) w.text-is
      ∙ grown_all w.push.result (c.bytes.text.items ++ slice_index s i ∷ []) c.bytes.text.items w.push.new.self.items
      (sym w.is_err.ensures.value ∙ w.if-is_err.false) w.push.ensures.items)
  | else-not-is_white-via-else-not-is_white w ↦
      appended_more c.args.text.now.items c.bytes.text.items c.else-not-is_white.text.items c.args.bytes.now c.bytes.byte-index true
      c.bytes-test.true (sym c.is_white.ensures ∙ w.if-not-is_white.false) c.bytes.invariant
      (ap (λ t. t.items) w.text-is ∙ sym (append-nil c.bytes.text.items))
]
