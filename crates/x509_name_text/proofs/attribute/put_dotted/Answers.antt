use Rattle.std.proofs.Common.{◌≡◌, ◌≤◌, ◌<◌, ◌^◌, ◌++◌, drop, length, List, ℕ, refl, arith, length-drop}
use Rattle.x509_name_text.proofs.TypeTexts.{in_hex, in_part, left_alone, no_room, said_is, to_end}
use Rattle.x509_name_text.proofs.attribute.put_dotted.Goals as goal

pub returns-in-Ok : goal.returns-in-Ok
returns-in-Ok c = λ text is.
    let part = drop c.min-from.result c.args.out.now in
    let told = said_is c.args.content.now text (λ (t : List ℕ). (c.in-Ok.size ≡ length t) × (length t ≤ length part) × (c.oid_text.new.out ≡ t ++ drop (length t) part)) is (rw (to_end c.min-from.result c.args.out.now) at c.in-Ok.ensures) in
    in_part text c.args.out.now c.oid_text.new.out _ c.args.at c.min-from.result _ c.min-from.ensures told.2 told.1 refl (omega (arith, c.saturating_add.ensures, told.0))

pub returns-in-Err-TooShort : goal.returns-in-Err-TooShort
returns-in-Err-TooShort c = λ text is.
    let part = drop c.min-from.result c.args.out.now in
    let short = rw (c.in-Err-TooShort.field-0-is, to_end c.min-from.result c.args.out.now) at c.in-Err-TooShort.ensures in
    let told = said_is c.args.content.now text (λ (t : List ℕ). (c.in-Err-TooShort.size ≡ length t) × (length part < length t)) is short.1 in
    no_room text c.args.out.now _ c.args.at _ (left_alone c.args.out.now _ c.min-from.result short.0) (omega (arith, c.saturating_add-in-Err-TooShort.ensures, told.0)) (λ below within. omega (arith, told.1, below, within, c.min-from.ensures, length-drop c.min-from.result c.args.out.now))

pub returns-in-Err-TooLong : goal.returns-in-Err-TooLong
returns-in-Err-TooLong c = λ text is.
    let long = rw (c.in-Err-TooLong.field-0-is, to_end c.min-from.result c.args.out.now) at c.in-Err-TooLong.ensures in
    let told = said_is c.args.content.now text (λ (t : List ℕ). 2 ^ 64 ≤ length t) is long.1 in
    no_room text c.args.out.now _ c.args.at _ (left_alone c.args.out.now _ c.min-from.result long.0) (omega (arith, told)) (λ below within. omega (arith, told, below))

pub returns-in-Err-Bad : goal.returns-in-Err-Bad
returns-in-Err-Bad c = λ text is.
    let bad = rw (c.in-Err-Bad.field-0-is, to_end c.min-from.result c.args.out.now) at c.in-Err-Bad.ensures in
    rw (in_hex c.args.content.now text is bad.1) (rw (left_alone c.args.out.now _ c.min-from.result bad.0) at c.put_hex.ensures)
