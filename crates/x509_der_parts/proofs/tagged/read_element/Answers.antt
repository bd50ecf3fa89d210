use Rattle.std.proofs.Common.{◌≡◌, List, [], Result, Ok, Err, ℕ, sym, ◌∙◌}
use Rattle.std.proofs.lemmas.Result.{err_from_is_err_and}
use Rattle.x509_der_parts.specs.declared.errors.ReadError.{ReadError}
use Rattle.x509_der_parts.specs.Shape.{Shape, Lawful}
use Rattle.x509_der_parts.specs.Reading.{Cursor, Ready, Reads, Entered, Leaves}
use Rattle.x509_der_parts.specs.Tagged.{tagged}
use Rattle.x509_der_parts.specs.reads.Tagged.{tagged_accepts, tagged_refuses, tagged_left_over, tagged_wrong}
use Rattle.x509_der_parts.specs.reads.Optional.{empty_is, not_empty_is}
use Rattle.x509_der_parts.proofs.tagged.read_element.Goals as goal

-- what was read of a content up to its end
handed_on : {V : Type 0} (t : ℕ) (s : Shape V) → Lawful s → (old inner end new : Cursor) (after : List ℕ) (r : Result V ReadError) → Ready old → Entered t old inner after → Reads s inner end r → end.rest ≡ [] → Leaves end new after → Reads (tagged t s) old new r
handed_on t s l old inner end new after (Ok v) y n a e f = tagged_accepts t s l old inner end new after v y n a e f
handed_on t s l old inner end new after (Err x) y n a e f = tagged_refuses t s l old inner end new after x n a f

pub returns-then-done : goal.returns-then-done
returns-then-done g c =
    handed_on c.args.tag g.F.Content.content_shape (g.F.Content.content_lawful c.requires.fits) c.args.reader.now c.enter.new.self c.read_content-outcome.new.reader c.leave.new.self c.in_ok-after.after.now c.read_content-outcome.result c.requires.ready c.in_ok-after.ensures.enters c.read_content-outcome.ensures
    (empty_is c.read_content-outcome.new.reader.rest (sym c.is_empty-done.ensures ∙ c.if-done.true)) c.leave.ensures

pub returns-in_err-value : goal.returns-in_err-value
returns-in_err-value g c =
    let s = g.F.Content.content_shape in
    let p = err_from_is_err_and c.from_residual-in_err-value.result c.from_residual-in_err-value.ensures.1 in
    rw (p.1, p.2) (tagged_refuses c.args.tag s (g.F.Content.content_lawful c.requires.fits) c.args.reader.now c.enter.new.self c.read_content-outcome.new.reader c.leave.new.self c.in_ok-after.after.now _ c.in_ok-after.ensures.enters c.in_err-value.ensures c.leave.ensures)

pub returns : goal.returns
returns g c =
    tagged_left_over c.args.tag g.F.Content.content_shape (g.F.Content.content_lawful c.requires.fits) c.args.reader.now c.enter.new.self c.read_content-outcome.new.reader c.leave.new.self c.in_ok-after.after.now c.in_ok-value.value _ (λ e. cc) c.in_ok-after.ensures.enters c.in_ok-value.ensures
    (not_empty_is c.read_content-outcome.new.reader.rest (sym c.is_empty-done.ensures ∙ c.if-done.false)) c.leave.ensures

pub returns-in_err-after : goal.returns-in_err-after
returns-in_err-after g c =
    let s = g.F.Content.content_shape in
    let p = err_from_is_err_and c.from_residual.result c.from_residual.ensures.1 in
    rw (p.1, p.2) (tagged_wrong c.args.tag s (g.F.Content.content_lawful c.requires.fits) c.args.reader.now c.enter.new.self _ c.in_err-after.ensures.kind c.in_err-after.ensures.headers c.in_err-after.ensures.enters)
