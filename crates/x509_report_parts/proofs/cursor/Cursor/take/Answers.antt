use Rattle.std.proofs.Common.{◌≡◌, List, ℕ, drop, refl, sym, ap, ◌∙◌, subst, arith}
use Rattle.x509_der.specs.Reading.{IsFirst}
use Rattle.x509_report_parts.proofs.Elements.{found_within, found_rest, found_content}
use Rattle.x509_report_parts.proofs.cursor.Cursor.take.Goals as goal

pub split_at-requires : goal.split_at-requires
split_at-requires c = found_within c.args.self.now.rest.now c.in_ok-found.found c.in_ok-found.ensures

pub returns : goal.returns
returns c =
    let s = c.args.self.now.rest.now in
    let e = c.in_ok-found.found in
    let f = c.in_ok-found.ensures in
    let inside = c.split_at-2.result.1.now in
    let content : inside ≡ f.content = c.split_at-2.ensures.back ∙ (ap (λ x. drop e.start x) c.split_at.ensures.front
    ∙ found_content s e f) in
    let rest : c.split_at.result.1.now ≡ f.after = c.split_at.ensures.back ∙ found_rest s e f in
    let P : List ℕ → Type 0 = λ x. IsFirst s e.tag x f.after in
    let Q : List ℕ → Type 0 = λ x. IsFirst s e.tag inside x in
    record {
      first = subst Q (sym rest) (subst P (sym content) f.first);
      start = refl;
      content = omega (arith, c.split_at-2.ensures.back_len, c.split_at.ensures.front_len);
      end = refl;
      goes = omega (arith, c.split_at.ensures.back_len);
    }
