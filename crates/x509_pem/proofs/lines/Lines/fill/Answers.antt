use Rattle.std.proofs.Common.{◌∙◌, subst, refl, ℕ, List}
use Rattle.x509_pem.specs.Part.{Fills, Measures}
use Rattle.x509_pem.proofs.Filled.{filled_none, filled_more, filled_whole, passed_held, passed_end, passed_number}
use Rattle.x509_pem.proofs.lines.Lines.fill.Goals as goal

pub parts-init : goal.parts-init
parts-init g c =
    let P : List ℕ → Type 0 = λ l. Measures c.of-line.result l in
    record {
      filling = filled_none c.args.self.now.limit (g.R.Read.remaining c.args.self.now.input) c.clear.new.self.items c.of-line.result
          c.clear.ensures.items (subst P c.as_slice.ensures c.of-line.ensures);
      limit = refl;
      count = refl;
      returned = refl;
    }

pub parts-preserved : goal.parts-preserved
parts-preserved g c =
    let part = c.in_ok-part.part in
    let left = g.R.Read.remaining c.parts.self.input in
    let after = g.R.Read.remaining c.fill_part.new.self.input in
    let F : ℕ → Type 0 =
    λ n. Fills n part left after c.parts.self.lack c.parts.self.held.items c.fill_part.new.self.lack c.fill_part.new.self.held.items in
    record {
      filling = filled_more c.args.self.now.limit (g.R.Read.remaining c.args.self.now.input) left after c.parts.self.lack
          c.fill_part.new.self.lack c.parts.self.held.items c.fill_part.new.self.held.items c.parts.line c.and-line.result part
          c.parts.invariant.filling c.if-part.false (subst F c.parts.invariant.limit c.in_ok-part.ensures.part) c.and-line.ensures;
      limit = c.in_ok-part.ensures.limit ∙ c.parts.invariant.limit;
      count = c.in_ok-part.ensures.count.0 ∙ c.parts.invariant.count;
      returned = c.in_ok-part.ensures.count.1 ∙ c.parts.invariant.returned;
    }

pub returns-then-part-clause-held : goal.returns-then-part-clause-held
returns-then-part-clause-held g c =
    let part = c.in_ok-part.part in
    let limit = c.args.self.now.limit in
    let start = g.R.Read.remaining c.args.self.now.input in
    let left = g.R.Read.remaining c.parts.self.input in
    let after = g.R.Read.remaining c.fill_part.new.self.input in
    let lack = c.fill_part.new.self.lack in
    let held = c.fill_part.new.self.held.items in
    let F : ℕ → Type 0 = λ n. Fills n part left after c.parts.self.lack c.parts.self.held.items lack held in
    let passed =
    filled_whole limit start left after c.parts.self.lack lack c.parts.self.held.items held c.parts.line c.and-line.result part
    c.parts.invariant.filling c.if-part.true (subst F c.parts.invariant.limit c.in_ok-part.ensures.part) c.and-line.ensures in
    passed_held limit start after lack held c.and-line.result passed

pub returns-then-part-clause-end : goal.returns-then-part-clause-end
returns-then-part-clause-end g c =
    let part = c.in_ok-part.part in
    let limit = c.args.self.now.limit in
    let start = g.R.Read.remaining c.args.self.now.input in
    let left = g.R.Read.remaining c.parts.self.input in
    let after = g.R.Read.remaining c.fill_part.new.self.input in
    let lack = c.fill_part.new.self.lack in
    let held = c.fill_part.new.self.held.items in
    let F : ℕ → Type 0 = λ n. Fills n part left after c.parts.self.lack c.parts.self.held.items lack held in
    let passed =
    filled_whole limit start left after c.parts.self.lack lack c.parts.self.held.items held c.parts.line c.and-line.result part
    c.parts.invariant.filling c.if-part.true (subst F c.parts.invariant.limit c.in_ok-part.ensures.part) c.and-line.ensures in
    passed_end limit start after lack held c.and-line.result passed

pub returns-then-part-clause-number : goal.returns-then-part-clause-number
returns-then-part-clause-number g c =
    let part = c.in_ok-part.part in
    let limit = c.args.self.now.limit in
    let start = g.R.Read.remaining c.args.self.now.input in
    let left = g.R.Read.remaining c.parts.self.input in
    let after = g.R.Read.remaining c.fill_part.new.self.input in
    let lack = c.fill_part.new.self.lack in
    let held = c.fill_part.new.self.held.items in
    let F : ℕ → Type 0 = λ n. Fills n part left after c.parts.self.lack c.parts.self.held.items lack held in
    let passed =
    filled_whole limit start left after c.parts.self.lack lack c.parts.self.held.items held c.parts.line c.and-line.result part
    c.parts.invariant.filling c.if-part.true (subst F c.parts.invariant.limit c.in_ok-part.ensures.part) c.and-line.ensures in
    passed_number limit start after lack held c.and-line.result _ c.args.self.now.count c.fill_part.new.self.count
    c.numbered-count.result.0 c.args.self.now.returned c.fill_part.new.self.returned c.numbered-count.result.1 passed
    (c.in_ok-part.ensures.count.0 ∙ c.parts.invariant.count) (c.in_ok-part.ensures.count.1 ∙ c.parts.invariant.returned)
    c.numbered-count.ensures

pub returns-then-part-clause-left : goal.returns-then-part-clause-left
returns-then-part-clause-left g c =
    let part = c.in_ok-part.part in
    let limit = c.args.self.now.limit in
    let start = g.R.Read.remaining c.args.self.now.input in
    let left = g.R.Read.remaining c.parts.self.input in
    let after = g.R.Read.remaining c.fill_part.new.self.input in
    let lack = c.fill_part.new.self.lack in
    let held = c.fill_part.new.self.held.items in
    let F : ℕ → Type 0 = λ n. Fills n part left after c.parts.self.lack c.parts.self.held.items lack held in
    let passed =
    filled_whole limit start left after c.parts.self.lack lack c.parts.self.held.items held c.parts.line c.and-line.result part
    c.parts.invariant.filling c.if-part.true (subst F c.parts.invariant.limit c.in_ok-part.ensures.part) c.and-line.ensures in
    passed.left
