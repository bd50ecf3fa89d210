use Rattle.std.proofs.Common.{ap, length, sym, ◌∙◌, ◌==◌, true≢false}
use Rattle.x509_values.proofs.Hosting.{no_list, the_list, list_named, is_empty}
use Rattle.x509_values.proofs.hosts.host_within.Goals as goal

pub returns-in_default : goal.returns-in_default
returns-in_default c = λ slice k.
    let o = (c.over-octets.ensures slice k).0 in
    (λ e. absurd (true≢false (sym e)), λ h. absurd (no_list c.args.host.now c.over-octets.result.rest c.in_default.ensures.takes.0 (rw o h)))

pub returns-then-list-ne-SEQUENCE_TAG : goal.returns-then-list-ne-SEQUENCE_TAG
returns-then-list-ne-SEQUENCE_TAG c = λ slice k.
    let o = (c.over-octets.ensures slice k).0 in
    (λ e. absurd (true≢false (sym e)), λ h. absurd (c.if-list-ne-SEQUENCE_TAG.true (the_list c.args.host.now c.over-octets.result c.next.new.self c.in-Some.list c.in-Some.ensures.takes (rw o h)).tag))

pub returns-then-not-is_empty : goal.returns-then-not-is_empty
returns-then-not-is_empty c = λ slice k.
    let o = (c.over-octets.ensures slice k).0 in
    (λ e. absurd (true≢false (sym e)), λ h. absurd (true≢false (ap (λ x. length x == 0) (sym (c.bytes.ensures ∙ (the_list c.args.host.now c.over-octets.result c.next.new.self c.in-Some.list c.in-Some.ensures.takes (rw o h)).rest)) ∙ sym c.is_empty.ensures ∙ c.if-not-is_empty.true)))

pub returns : goal.returns
returns c = λ slice k.
    let o = (c.over-octets.ensures slice k).0 in
    let rest = sym c.bytes.ensures ∙ is_empty c.bytes.result.now (sym c.is_empty.ensures ∙ c.if-not-is_empty.false) in (
      λ e. rw (sym o) (list_named c.args.host.now c.over-octets.result c.next.new.self c.in-Some.list c.in-Some.ensures.takes c.if-list-ne-SEQUENCE_TAG.false rest (c.names_host.ensures.0 e)),
      λ h. let n : _ = rw o h in c.names_host.ensures.1 (rw (the_list c.args.host.now c.over-octets.result c.next.new.self c.in-Some.list c.in-Some.ensures.takes n).content n.names),
    )
