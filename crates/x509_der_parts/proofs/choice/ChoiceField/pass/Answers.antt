use Rattle.std.proofs.Common.{sym, ◌∙◌, refl}
use Rattle.std.proofs.lemmas.Result.{err_from_is_err_and}
use Rattle.x509_der_parts.specs.declared.choice.Choice.TheVariants.{First, Second}
use Rattle.x509_der_parts.specs.Choice.{choice}
use Rattle.x509_der_parts.specs.Reading.{thrifty}
use Rattle.x509_der_parts.specs.reads.Choice.{first_accepts, second_accepts, first_refuses, second_refuses, neither_refuses, begun_cons}
use Rattle.x509_der_parts.specs.reads.Optional.{follows_cons, follows_nil}
use Rattle.x509_der_parts.specs.reads.Passing.{alike_choice, thrifty_lawful, thrifty_element, alike_accepts, alike_refuses}
use Rattle.x509_der_parts.proofs.choice.ChoiceField.pass.Goals as goal

pub returns-in_err-_brief-in-Some : goal.returns-in_err-_brief-in-Some
returns-in_err-_brief-in-Some g c =
    let a = g.F.Field.shape in
    let b = g.G.Field.shape in
    let h = c.requires.fits in
    let p = err_from_is_err_and c.from_residual.result c.from_residual.ensures.1 in
    rw (p.1, p.2) (alike_refuses (choice (thrifty a) (thrifty b)) (thrifty (choice a b)) (alike_choice a b) c.args.reader.now c.pass.new.reader _ (λ u. (tt, tt)) (first_refuses (thrifty a) (thrifty b) (thrifty_lawful a (g.F.Field.lawful h.0.0)) (thrifty_lawful b (g.G.Field.lawful h.0.1)) (thrifty_element a (g.F.Field.elements h.1.0.0)) (thrifty_element b (g.G.Field.elements h.1.0.1)) h.1.1 c.args.reader.now c.pass.new.reader _ (begun_cons a.starts c.in-Some.byte _ c.args.reader.now.rest c.in-Some.ensures.some (sym c.starts.ensures ∙ c.if-starts.true)) c.in_err-_brief-in-Some.ensures))

pub returns-in_ok-_brief-in-Some : goal.returns-in_ok-_brief-in-Some
returns-in_ok-_brief-in-Some g c =
    let a = g.F.Field.shape in
    let b = g.G.Field.shape in
    let h = c.requires.fits in
    let k = c.in_ok-_brief-in-Some.ensures in
    record { value = First k.value; accepts = alike_accepts (choice (thrifty a) (thrifty b)) (thrifty (choice a b)) (alike_choice a b) c.args.reader.now c.pass.new.reader (First k.value) (first_accepts (thrifty a) (thrifty b) (thrifty_lawful a (g.F.Field.lawful h.0.0)) (thrifty_lawful b (g.G.Field.lawful h.0.1)) (thrifty_element a (g.F.Field.elements h.1.0.0)) (thrifty_element b (g.G.Field.elements h.1.0.1)) h.1.1 c.args.reader.now c.pass.new.reader k.value (begun_cons a.starts c.in-Some.byte _ c.args.reader.now.rest c.in-Some.ensures.some (sym c.starts.ensures ∙ c.if-starts.true)) k.accepts); kept = refl }

pub returns-in_err-_brief-in-Some-2 : goal.returns-in_err-_brief-in-Some-2
returns-in_err-_brief-in-Some-2 g c =
    let a = g.F.Field.shape in
    let b = g.G.Field.shape in
    let h = c.requires.fits in
    let p = err_from_is_err_and c.from_residual-in_err-_brief-in-Some-2.result c.from_residual-in_err-_brief-in-Some-2.ensures.1 in
    rw (p.1, p.2) (alike_refuses (choice (thrifty a) (thrifty b)) (thrifty (choice a b)) (alike_choice a b) c.args.reader.now c.pass-in-Some-2.new.reader _ (λ u. (tt, tt)) (second_refuses (thrifty a) (thrifty b) (thrifty_lawful a (g.F.Field.lawful h.0.0)) (thrifty_lawful b (g.G.Field.lawful h.0.1)) (thrifty_element a (g.F.Field.elements h.1.0.0)) (thrifty_element b (g.G.Field.elements h.1.0.1)) h.1.1 c.args.reader.now c.pass-in-Some-2.new.reader _ (begun_cons b.starts c.in-Some.byte _ c.args.reader.now.rest c.in-Some.ensures.some (sym c.if-starts-2.ensures)) c.in_err-_brief-in-Some-2.ensures))

pub returns-in_ok-_brief-in-Some-2 : goal.returns-in_ok-_brief-in-Some-2
returns-in_ok-_brief-in-Some-2 g c =
    let a = g.F.Field.shape in
    let b = g.G.Field.shape in
    let h = c.requires.fits in
    let k = c.in_ok-_brief-in-Some-2.ensures in
    record { value = Second k.value; accepts = alike_accepts (choice (thrifty a) (thrifty b)) (thrifty (choice a b)) (alike_choice a b) c.args.reader.now c.pass-in-Some-2.new.reader (Second k.value) (second_accepts (thrifty a) (thrifty b) (thrifty_lawful a (g.F.Field.lawful h.0.0)) (thrifty_lawful b (g.G.Field.lawful h.0.1)) (thrifty_element a (g.F.Field.elements h.1.0.0)) (thrifty_element b (g.G.Field.elements h.1.0.1)) h.1.1 c.args.reader.now c.pass-in-Some-2.new.reader k.value (begun_cons b.starts c.in-Some.byte _ c.args.reader.now.rest c.in-Some.ensures.some (sym c.if-starts-2.ensures)) k.accepts); kept = refl }

pub returns-in-Some-3 : goal.returns-in-Some-3
returns-in-Some-3 g c =
    let a = g.F.Field.shape in
    let b = g.G.Field.shape in
    let h = c.requires.fits in
    let r = c.args.reader.now.rest in
    alike_refuses (choice (thrifty a) (thrifty b)) (thrifty (choice a b)) (alike_choice a b) c.args.reader.now c.args.reader.now _ (λ u. (tt, tt)) (neither_refuses (thrifty a) (thrifty b) (thrifty_lawful a (g.F.Field.lawful h.0.0)) (thrifty_lawful b (g.G.Field.lawful h.0.1)) (thrifty_element a (g.F.Field.elements h.1.0.0)) (thrifty_element b (g.G.Field.elements h.1.0.1)) h.1.1 c.args.reader.now _ (λ e. cc) (follows_cons a.starts c.in-Some.byte _ r c.in-Some.ensures.some (sym c.starts.ensures ∙ c.if-starts.false)) (follows_cons b.starts c.in-Some.byte _ r c.in-Some.ensures.some (sym c.if-starts-2.ensures)))

pub returns-in-None : goal.returns-in-None
returns-in-None g c =
    let a = g.F.Field.shape in
    let b = g.G.Field.shape in
    let h = c.requires.fits in
    let r = c.args.reader.now.rest in
    let n = c.in-None.ensures.none in
    alike_refuses (choice (thrifty a) (thrifty b)) (thrifty (choice a b)) (alike_choice a b) c.args.reader.now c.args.reader.now _ (λ u. (tt, tt)) (neither_refuses (thrifty a) (thrifty b) (thrifty_lawful a (g.F.Field.lawful h.0.0)) (thrifty_lawful b (g.G.Field.lawful h.0.1)) (thrifty_element a (g.F.Field.elements h.1.0.0)) (thrifty_element b (g.G.Field.elements h.1.0.1)) h.1.1 c.args.reader.now _ (λ e. cc) (follows_nil a.starts r n) (follows_nil b.starts r n))
