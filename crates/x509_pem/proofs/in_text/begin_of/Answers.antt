use Rattle.x509_pem.proofs.InText.{begun_here, none_left, passed_over, passes_none}
use Rattle.x509_pem.proofs.in_text.begin_of.Goals as goal

pub lines-init : goal.lines-init
lines-init c = (0, tt, passes_none c.args.text.now c.args.start)

pub returns-in-Some : goal.returns-in-Some
returns-in-Some c =
    let i = c.lines.invariant in
    begun_here i.0 c.args.text.now c.args.start c.lines.cursor c.step-behind.result c.in-Some.label i.1 i.2 c.step-behind.ensures
    c.in-Some.ensures.begins c.in-Some.ensures.inside.0 c.in-Some.ensures.inside.1

pub lines-preserved : goal.lines-preserved
lines-preserved c =
    let i = c.lines.invariant in
    passed_over i.0 c.args.text.now c.args.start c.lines.cursor c.step-behind.result i.1 i.2 c.step-behind.ensures c.in-None.ensures.begins

pub returns : goal.returns
returns c =
    let i = c.lines.invariant in none_left i.0 c.args.text.now c.args.start c.lines.cursor i.1 i.2 c.lines-test.false
