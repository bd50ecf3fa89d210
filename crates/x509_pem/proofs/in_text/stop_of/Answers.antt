use Rattle.x509_pem.proofs.InText.{gone_on, passes_none, stopped_at_end, stopped_here}
use Rattle.x509_pem.proofs.in_text.stop_of.Goals as goal

pub lines-init : goal.lines-init
lines-init c = (0, tt, passes_none c.args.text.now c.args.start)

pub returns-in-Stop : goal.returns-in-Stop
returns-in-Stop c =
    let i = c.lines.invariant in
    stopped_here i.0 c.args.text.now c.args.label.now c.args.start c.lines.cursor c.step-behind.result c.in-Stop.fault i.1 i.2
    c.step-behind.ensures c.in-Stop.ensures

pub lines-preserved : goal.lines-preserved
lines-preserved c =
    let i = c.lines.invariant in
    gone_on i.0 c.args.text.now c.args.start c.lines.cursor c.step-behind.result i.1 i.2 c.step-behind.ensures c.in-Text.ensures

pub returns : goal.returns
returns c =
    let i = c.lines.invariant in
    stopped_at_end i.0 c.args.text.now c.args.label.now c.args.start c.lines.cursor i.1 i.2 c.lines-test.false
