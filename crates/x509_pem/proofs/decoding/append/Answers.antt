use Rattle.std.proofs.Common.{◌≡◌, List, ℕ, ◌-◌, ◌%◌, arith, sym, ◌∙◌, ap, subst, length, take, drop}
use Rattle.std.proofs.lemmas.Bool.{eqb-true}
use Rattle.std.proofs.lemmas.List.{nil_from_length, length-drop, length-take-le, take_all}
use Rattle.base64.specs.Engines.{standard}
use Rattle.base64.specs.GeneralPurpose.{IsDecodedInto}
use Rattle.x509_pem.proofs.Chunks.{appended_none, appended_some, not_behind, not_groups, not_decoded, some_symbols, take_octets}
use Rattle.x509_pem.proofs.decoding.append.Goals as goal

pub returns-then-is_empty-clause-some : goal.returns-then-is_empty-clause-some
returns-then-is_empty-clause-some c =
    let empty = eqb-true _ 0 (sym c.is_empty.ensures ∙ c.if-is_empty.true) in
    let room = c.requires in
    appended_none c.args.symbols.now c.args.len c.args.out.now (nil_from_length _ (omega (arith, empty))) (omega (arith, room))

pub returns-then-len-ne0-clause-none : goal.returns-then-len-ne0-clause-none
returns-then-len-ne0-clause-none c = λ n rest last.
    let len : length (take c.args.len c.args.out.now) ≡ c.args.len = length-take-le c.args.len c.args.out.now (omega (arith, c.requires)) in
    not_behind (take c.args.len c.args.out.now) _
    (take_octets c.args.len c.args.out.now (λ i. let f = c.type_inv.out i in omega arith))
    (λ whole. c.if-len-ne0.true (sym (ap (λ k. k % 3) len) ∙ whole))
    (some_symbols c.args.symbols.now rest (sym c.is_empty.ensures ∙ c.if-is_empty.false))

pub returns-then-symbols-ne0-clause-none : goal.returns-then-symbols-ne0-clause-none
returns-then-symbols-ne0-clause-none c = λ n rest last.
    not_groups (take c.args.len c.args.out.now) c.args.symbols.now rest c.if-symbols-ne0.true last

pub returns-in-Ok-clause-some : goal.returns-in-Ok-clause-some
returns-in-Ok-clause-some c =
    let out : List ℕ = c.args.out.now in
    let len : ℕ = c.args.len in
    let back = length-drop len out in
    let fits = c.requires in
    let n_front : length (take len out) ≡ len = length-take-le len out (omega (arith, fits)) in
    let part : take (length out - len) (drop len out) ≡ drop len out = take_all (length out - len) (drop len out) (omega (arith, back)) in
    let rest = length-drop (length out - len) (drop len out) in
    let D : List ℕ → Type 0 = λ l. IsDecodedInto standard c.args.symbols.now c.in-Ok.more l c.decode_slice_unchecked.new.output in
    appended_some c.args.symbols.now len c.in-Ok.more out c.decode_slice_unchecked.new.output (drop (length out - len) (drop len out))
    (omega (arith, fits)) (nil_from_length _ (omega (arith, rest, back))) (λ i. let f = c.type_inv.symbols i in omega arith)
    (ap (λ k. k % 3) n_front ∙ c.if-len-ne0.false) (c.decode_slice_unchecked.auto.output ∙ ap length part) (subst D part c.in-Ok.ensures.ok)

pub returns-in-Err-clause-none : goal.returns-in-Err-clause-none
returns-in-Err-clause-none c = λ n rest last.
    not_decoded c.in-Err.field-0 (take c.args.len c.args.out.now) c.args.symbols.now rest c.if-symbols-ne0.false c.in-Err.ensures.err
