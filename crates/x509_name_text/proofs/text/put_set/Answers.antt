use Rattle.std.proofs.Common.{ℕ, List, false, [], ◌++◌, map, refl, sym, ap, ◌∙◌, arith, append_assoc}
use Rattle.x509_name_text.specs.Texts.{Spells, attribute_text, joined, lead}
use Rattle.x509_name_text.proofs.Sets.{next_shorter, none_left, none_next, one_next, set_done}
use Rattle.x509_name_text.proofs.Writing.{both, nothing}
use Rattle.x509_name_text.proofs.text.put_set.Goals as goal

pub attributes-init : goal.attributes-init
attributes-init c = (omega arith, λ shown all tells are. record { done = []; left = all; are = are; written = nothing _ _ (omega (arith, c.ranges.at.fits)); more = refl })

pub attributes-preserved : goal.attributes-preserved
attributes-preserved c = (
  omega (arith, c.attributes.invariant.0, next_shorter c.attributes.attributes c.in-Some.attribute c.take.new.self c.in-Some.ensures),
  λ shown all tells are.
      let so_far = c.attributes.invariant.1 shown all tells are in
      let next = one_next 48 Spells so_far.left c.attributes.attributes c.in-Some.attribute c.take.new.self so_far.are c.in-Some.ensures in
      let mark = lead 43 c.attributes.is_first in
      let text = attribute_text shown next.x in
      let behind = joined 43 false (map (attribute_text shown) next.others) in
      record {
        done = so_far.done ++ (mark ++ text);
        left = next.others;
        are = next.behind;
        written = both so_far.done (mark ++ text) _ _ _ _ _ _ so_far.written (c.put_next-at.ensures shown next.x tells next.encodes);
        more =
            append_assoc so_far.done (mark ++ text) behind
            ∙ ap (λ (t : List ℕ). so_far.done ++ t) (append_assoc mark text behind)
            ∙ ap (λ xs. so_far.done ++ joined 43 c.attributes.is_first (map (attribute_text shown) xs)) (sym next.are)
            ∙ so_far.more;
      },
)

pub returns-after-attributes : goal.returns-after-attributes
returns-after-attributes c = λ shown all tells are.
    let so_far = c.attributes.invariant.1 shown all tells are in
    set_done shown all _ _ _ _ _ _ so_far (none_left 48 Spells so_far.left _ so_far.are (omega (arith, c.attributes.invariant.0, c.attributes-test.false)))

pub returns-in_default : goal.returns-in_default
returns-in_default c = λ shown all tells are.
    let so_far = c.attributes.invariant.1 shown all tells are in
    set_done shown all _ _ _ _ _ _ so_far (none_next 48 Spells so_far.left c.attributes.attributes c.take.new.self refl so_far.are c.in_default.ensures)
