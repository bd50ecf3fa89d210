use Rattle.std.proofs.Common.{◌≡◌, min, [], ◌∷◌, ap, refl, arith, length, length-append, ◌++◌}
use Rattle.x509_name_text.specs.Texts.{AreAttributes, is_empty, lead, name_text, set_text}
use Rattle.x509_name_text.proofs.Names.{all_taken, set_before, taken_more}
use Rattle.x509_name_text.proofs.Sets.{next_shorter, none_left, none_next, one_next}
use Rattle.x509_name_text.proofs.text.text_len.Goals as goal

pub sets-init : goal.sets-init
sets-init c = (omega arith, λ shown all tells are. record { sets = record { taken = []; left = all; split = refl; are = are; start = refl }; size = refl })

pub sets-preserved : goal.sets-preserved
sets-preserved c = (
  omega (arith, c.sets.invariant.0, next_shorter c.sets.left c.in-Some.set c.take.new.self c.in-Some.ensures),
  λ shown all tells are.
      let so_far = c.sets.invariant.1 shown all tells are in
      let next = one_next 49 AreAttributes so_far.sets.left c.sets.left c.in-Some.set c.take.new.self so_far.sets.are c.in-Some.ensures in
      let text = set_text shown next.x in
      let rest = name_text shown so_far.sets.taken in
      let mark = lead 44 (is_empty so_far.sets.taken) in
      record {
        sets = taken_more all _ _ _ _ so_far.sets next;
        size =
            let before : c.sets.len ≡ min 18446744073709551615 (length rest) = so_far.size in
            let after : c.longer-len.result ≡ min 18446744073709551615 (length (name_text shown (so_far.sets.taken ++ next.x ∷ []))) =
            omega (
              arith,
              c.longer-len.ensures shown next.x tells next.encodes,
              before,
              ap (λ b. length (lead 44 b)) so_far.sets.start,
              ap length (set_before shown so_far.sets.taken next.x),
              length-append text (mark ++ rest),
              length-append mark rest,
            )
            in after;
      },
)

pub returns-after-sets : goal.returns-after-sets
returns-after-sets c = λ shown all tells are.
    let so_far = c.sets.invariant.1 shown all tells are in
    let none = none_left 49 AreAttributes so_far.sets.left _ so_far.sets.are (omega (arith, c.sets.invariant.0, c.sets-test.false)) in
    rw (all_taken all _ _ so_far.sets none) at so_far.size

pub returns-in_default : goal.returns-in_default
returns-in_default c = λ shown all tells are.
    let so_far = c.sets.invariant.1 shown all tells are in
    let none = none_next 49 AreAttributes so_far.sets.left c.sets.left c.take.new.self refl so_far.sets.are c.in_default.ensures in
    rw (all_taken all _ _ so_far.sets none) at so_far.size
