use Rattle.std.proofs.Common.{sym, ◌∙◌, arith}
use Rattle.std.specs.Prelude.{map}
use Rattle.std.proofs.lemmas.List.{map_push}
use Rattle.x509_timestamps.specs.facts.Lists.{begins, goes_on, shorter, ends, no_whole, no_list}
use Rattle.x509_timestamps.proofs.list.timestamps.Goals as goal

pub returns-in_default-clause-err : goal.returns-in_default-clause-err
returns-in_default-clause-err g c = λ e items fits is. no_whole c.args.bytes.now items c.in_default.ensures is

pub items-init : goal.items-init
items-init g c = rw c.new-items.ensures.items (begins c.args.bytes.now c.in-Some.content.now (λ i. omega (arith, c.type_inv.bytes i)) c.in-Some.ensures)

pub returns-in_default-vector_at-clause-err : goal.returns-in_default-vector_at-clause-err
returns-in_default-vector_at-clause-err g c = λ e items fits is.
    no_list c.args.bytes.now c.in-Some.content.now (map (λ s. s.now) c.items.items.items) c.items.rest.now items c.in-Some.ensures c.items.invariant (sym c.is_empty.ensures ∙ c.items-test.true) c.in_default-vector_at.ensures is

pub items-smaller : goal.items-smaller
items-smaller g c = shorter c.in-Some.content.now (map (λ s. s.now) c.items.items.items) c.items.rest.now c.in-Some-vector_at.item.now c.in-Some-vector_at.behind.now c.items.invariant c.in-Some-vector_at.ensures

pub items-preserved : goal.items-preserved
items-preserved g c =
    rw (c.in_ok-push.ensures.items, map_push (λ s. s.now) c.items.items.items c.in-Some-vector_at.item) (goes_on c.in-Some.content.now (map (λ s. s.now) c.items.items.items) c.items.rest.now c.in-Some-vector_at.item.now c.in-Some-vector_at.behind.now c.items.invariant c.in-Some-vector_at.ensures)

pub returns-clause-ok : goal.returns-clause-ok
returns-clause-ok g c = ends c.args.bytes.now c.in-Some.content.now (map (λ s. s.now) c.items.items.items) c.items.rest.now (λ i. omega (arith, c.type_inv.bytes i)) c.in-Some.ensures c.items.invariant (sym c.is_empty.ensures ∙ c.items-test.false)
