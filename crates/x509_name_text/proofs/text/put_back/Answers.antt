use Rattle.std.proofs.Common.{◌≡◌, ◌+◌, ◌≤◌, ℕ, List, [], ◌∷◌, ◌++◌, ap, sym, ◌∙◌, refl, arith, length, length-append, append-nil, append_assoc}
use Rattle.std.proofs.lemmas.List.{nil_from_length}
use Rattle.x509_name_text.specs.Texts.{AreAttributes, lead, name_text, set_text}
use Rattle.x509_name_text.proofs.Names.{all_taken, no_shorter, set_before, taken_more}
use Rattle.x509_name_text.proofs.Sets.{next_shorter, none_left, none_next, one_next}
use Rattle.x509_name_text.proofs.text.put_back.Goals as goal

pub sets-init : goal.sets-init
sets-init c = (
  omega arith,
  refl,
  λ shown all tells are size. record { sets = record { taken = []; left = all; split = refl; are = are; start = refl }; kept = c.args.out.now; whole = sym (append-nil c.args.out.now); size = refl },
)

pub sets-preserved : goal.sets-preserved
sets-preserved c = (
  omega (arith, c.sets.invariant.0, next_shorter c.sets.left c.in-Some.set c.take.new.self c.in-Some.ensures),
  c.put_before-at.ensures.same ∙ c.sets.invariant.1,
  λ shown all tells are size.
      let so_far = c.sets.invariant.2 shown all tells are size in
      let next = one_next 49 AreAttributes so_far.sets.left c.sets.left c.in-Some.set c.take.new.self so_far.sets.are c.in-Some.ensures in
      let taken = so_far.sets.taken in
      let text = set_text shown next.x in
      let rest = name_text shown taken in
      let mark = lead 44 c.sets.is_first in
      let before : name_text shown (taken ++ next.x ∷ []) ≡ text ++ (mark ++ rest) = set_before shown taken next.x ∙ ap (λ b. text ++ (lead 44 b ++ rest)) (sym so_far.sets.start) in
      let all_of : all ≡ (taken ++ next.x ∷ []) ++ next.others = so_far.sets.split ∙ ap (λ xs. taken ++ xs) next.are ∙ sym (append_assoc taken (next.x ∷ []) next.others) in
      let room : length mark + length text ≤ c.sets.at =
      omega (
        arith,
        no_shorter shown (taken ++ next.x ∷ []) next.others,
        ap (λ ss. length (name_text shown ss)) all_of,
        size,
        c.sets.invariant.1,
        ap length so_far.whole,
        length-append so_far.kept rest,
        so_far.size,
        ap length before,
        length-append text (mark ++ rest),
        length-append mark rest,
      )
      in
      let put = c.put_before-at.ensures.set shown next.x tells next.encodes so_far.kept rest so_far.whole so_far.size room in
      record { sets = taken_more all _ _ _ _ so_far.sets next; kept = put.kept; whole = put.whole ∙ ap (λ (t : List ℕ). put.kept ++ t) (sym before); size = put.size },
)

pub returns-after-sets-clause-name : goal.returns-after-sets-clause-name
returns-after-sets-clause-name c = λ shown all tells are size.
    let so_far = c.sets.invariant.2 shown all tells are size in
    let none = none_left 49 AreAttributes so_far.sets.left _ so_far.sets.are (omega (arith, c.sets.invariant.0, c.sets-test.false)) in
    let whole = rw (all_taken all _ _ so_far.sets none) at so_far.whole in
    let nothing = nil_from_length so_far.kept (omega (arith, ap length whole, length-append so_far.kept (name_text shown all), size, c.sets.invariant.1)) in
    whole ∙ ap (λ (t : List ℕ). t ++ name_text shown all) nothing

pub returns-in_default-clause-name : goal.returns-in_default-clause-name
returns-in_default-clause-name c = λ shown all tells are size.
    let so_far = c.sets.invariant.2 shown all tells are size in
    let none = none_next 49 AreAttributes so_far.sets.left c.sets.left c.take.new.self refl so_far.sets.are c.in_default.ensures in
    let whole = rw (all_taken all _ _ so_far.sets none) at so_far.whole in
    let nothing = nil_from_length so_far.kept (omega (arith, ap length whole, length-append so_far.kept (name_text shown all), size, c.sets.invariant.1)) in
    whole ∙ ap (λ (t : List ℕ). t ++ name_text shown all) nothing
