use Rattle.std.proofs.Common.{◌≡◌, List, [], Result, Ok, Err, ℕ, sym, ◌∙◌}
use Rattle.std.proofs.lemmas.Result.{err_from_is_err_and}
use Rattle.x509_der_parts.specs.declared.errors.ReadError.{ReadError}
use Rattle.x509_der_parts.specs.Shape.{Shape, Lawful}
use Rattle.x509_der_parts.specs.Reading.{Cursor, Ready, Passes, Entered, Leaves, thrifty}
use Rattle.x509_der_parts.specs.Tagged.{tagged}
use Rattle.x509_der_parts.specs.reads.Passing.{alike_tagged, thrifty_lawful, alike_refuses, alike_accepts}
use Rattle.x509_der_parts.specs.reads.Tagged.{tagged_accepts, tagged_refuses, tagged_left_over, tagged_wrong}
use Rattle.x509_der_parts.specs.reads.Optional.{empty_is, not_empty_is}
use Rattle.x509_der_parts.proofs.tagged.pass_element.Goals as goal

handed_on : {V B : Type 0} (t : ℕ) (s : Shape V) → Lawful s → (brief : V → B) (old inner end new : Cursor) (after : List ℕ) (r : Result B ReadError) → Ready old → Entered t old inner after → Passes (thrifty s) brief inner end r → end.rest ≡ [] → Leaves end new after → Passes (thrifty (tagged t s)) brief old new r
handed_on t s l brief old inner end new after (Ok u) y n a e f = record { value = a.value; accepts = alike_accepts (tagged t (thrifty s)) (thrifty (tagged t s)) (alike_tagged t s) old new a.value (tagged_accepts t (thrifty s) (thrifty_lawful s l) old inner end new after a.value y n a.accepts e f); kept = a.kept }
handed_on t s l brief old inner end new after (Err x) y n a e f = alike_refuses (tagged t (thrifty s)) (thrifty (tagged t s)) (alike_tagged t s) old new x (λ u. u) (tagged_refuses t (thrifty s) (thrifty_lawful s l) old inner end new after x n a f)

pub returns-then-done : goal.returns-then-done
returns-then-done g c =
    handed_on c.args.tag g.F.Content.content_shape (g.F.Content.content_lawful c.requires.fits) g.F.Content.content_brief c.args.reader.now c.enter.new.self c.pass_content-outcome.new.reader c.leave.new.self c.in_ok-after.after.now c.pass_content-outcome.result c.requires.ready c.in_ok-after.ensures.enters c.pass_content-outcome.ensures
    (empty_is c.pass_content-outcome.new.reader.rest (sym c.is_empty-done.ensures ∙ c.if-done.true)) c.leave.ensures

pub returns-in_err-_brief : goal.returns-in_err-_brief
returns-in_err-_brief g c =
    let s = g.F.Content.content_shape in
    let t = c.args.tag in
    let p = err_from_is_err_and c.from_residual-in_err-_brief.result c.from_residual-in_err-_brief.ensures.1 in
    rw (p.1, p.2) (alike_refuses (tagged t (thrifty s)) (thrifty (tagged t s)) (alike_tagged t s) c.args.reader.now c.leave.new.self _ (λ u. u) (tagged_refuses t (thrifty s) (thrifty_lawful s (g.F.Content.content_lawful c.requires.fits)) c.args.reader.now c.enter.new.self c.pass_content-outcome.new.reader c.leave.new.self c.in_ok-after.after.now _ c.in_ok-after.ensures.enters c.in_err-_brief.ensures c.leave.ensures))

pub returns : goal.returns
returns g c =
    let s = g.F.Content.content_shape in
    let t = c.args.tag in
    alike_refuses (tagged t (thrifty s)) (thrifty (tagged t s)) (alike_tagged t s) c.args.reader.now c.leave.new.self _ (λ u. u) (tagged_left_over t (thrifty s) (thrifty_lawful s (g.F.Content.content_lawful c.requires.fits)) c.args.reader.now c.enter.new.self c.pass_content-outcome.new.reader c.leave.new.self c.in_ok-after.after.now c.in_ok-_brief.ensures.value _ (λ e. cc) c.in_ok-after.ensures.enters c.in_ok-_brief.ensures.accepts
    (not_empty_is c.pass_content-outcome.new.reader.rest (sym c.is_empty-done.ensures ∙ c.if-done.false)) c.leave.ensures)

pub returns-in_err-after : goal.returns-in_err-after
returns-in_err-after g c =
    let s = g.F.Content.content_shape in
    let t = c.args.tag in
    let p = err_from_is_err_and c.from_residual.result c.from_residual.ensures.1 in
    rw (p.1, p.2) (alike_refuses (tagged t (thrifty s)) (thrifty (tagged t s)) (alike_tagged t s) c.args.reader.now c.enter.new.self _ (λ u. u) (tagged_wrong t (thrifty s) (thrifty_lawful s (g.F.Content.content_lawful c.requires.fits)) c.args.reader.now c.enter.new.self _ c.in_err-after.ensures.kind c.in_err-after.ensures.headers c.in_err-after.ensures.enters))
