use Rattle.std.proofs.Common.{arith, inr}
use Rattle.std.proofs.lemmas.Grind.{common_steps}
use Rattle.x509_der_parts.specs.reads.FirstElement.{no_first_empty, no_first_tag, no_first_length, no_first_short, is_first, no_bytes, high_tag, no_digits, cut_short}
use Rattle.x509_der_parts.proofs.header.split_first.Goals as goal

pub returns-then-is_empty-clause-first : goal.returns-then-is_empty-clause-first
returns-then-is_empty-clause-first c = no_first_empty c.args.bytes.now (grind (arith, common_steps))

pub returns-then-tag-eq31-clause-first : goal.returns-then-tag-eq31-clause-first
returns-then-tag-eq31-clause-first c = no_first_tag c.args.bytes.now (grind (arith, common_steps)) c.if-tag-eq31.true

pub returns-in_default-clause-first : goal.returns-in_default-clause-first
returns-in_default-clause-first c = no_first_length c.args.bytes.now (omega arith) (grind (arith, common_steps)) (rw c.tail-after.ensures at (c.in_default.ensures.none))

pub returns-then-content-len-clause-first : goal.returns-then-content-len-clause-first
returns-then-content-len-clause-first c =
    let s = c.in-Some.ensures.some in
    let a = c.tail-after.ensures in
    let b = c.tail-content.ensures in
    no_first_short c.args.bytes.now c.in-Some.len c.in-Some.size (grind (arith, common_steps)) (rw a at s.0) (rw a at (rw b at c.if-content-len.true))

pub returns-then-is_empty-clause-fault : goal.returns-then-is_empty-clause-fault
returns-then-is_empty-clause-fault c = no_bytes c.args.bytes.now (grind (arith, common_steps))

pub returns-then-tag-eq31-clause-fault : goal.returns-then-tag-eq31-clause-fault
returns-then-tag-eq31-clause-fault c = high_tag c.args.bytes.now (grind (arith, common_steps)) c.if-tag-eq31.true

pub returns-in_default-clause-fault : goal.returns-in_default-clause-fault
returns-in_default-clause-fault c = no_digits c.args.bytes.now (grind (arith, common_steps)) c.if-tag-eq31.false (rw c.tail-after.ensures at (c.in_default.ensures.none))

pub returns-then-content-len-clause-fault : goal.returns-then-content-len-clause-fault
returns-then-content-len-clause-fault c =
    let s = c.in-Some.ensures.some in
    let a = c.tail-after.ensures in
    let b = c.tail-content.ensures in
    inr (cut_short c.args.bytes.now c.in-Some.len c.in-Some.size (grind (arith, common_steps)) c.if-tag-eq31.false (rw a at s.0) (rw a at (rw b at c.if-content-len.true)))

pub returns-clause-first : goal.returns-clause-first
returns-clause-first c =
    let s = c.in-Some.ensures.some in
    let a = c.tail-after.ensures in
    let b = c.tail-content.ensures in
    let f = is_first c.args.bytes.now c.in-Some.len c.in-Some.size (grind (arith, common_steps)) (omega (arith, c.type_inv.bytes 0)) c.if-tag-eq31.false (rw a at s.0) (rw a at (rw b at c.if-content-len.false)) in
    rw (c.split_at.ensures.front, c.split_at.ensures.back, b, a) f
