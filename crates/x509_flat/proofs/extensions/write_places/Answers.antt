use Rattle.std.proofs.Common.{◌+◌, ◌≤◌, List, length, drop, arith, subst}
use Rattle.std.proofs.lemmas.List.{drop_all}
use Rattle.picky_asn1_x509.specs.Extensions.{ExtensionFields}
use Rattle.x509_flat.proofs.Counts.{sized_front}
use Rattle.x509_flat.proofs.ExtensionPlaces.{Told, item_at, none_told, one_more, all_told}
use Rattle.x509_flat.proofs.extensions.write_places.Goals as goal

pub loop-index-init : goal.loop-index-init
loop-index-init g c = λ list whole size later. none_told list c.args.items c.args.out.now c.args.bytes.now whole later

pub loop-index-preserved : goal.loop-index-preserved
loop-index-preserved g c = λ list whole size later.
    let index = c.loop-index.index in
    let item = item_at list index (omega (arith, size)) in
    let P : List (ExtensionFields _) → Type 0 = λ l. Told list l c.args.items.at c.loop-index.items c.args.out.now c.loop-index.out index c.args.bytes.now whole in
    one_more c.spellings_are_lawful.ensures.element list (drop (index + 1) list) item.0 c.args.items.at index c.loop-index.items c.next-span.new.self c.next-span.result c.placed.result c.args.out.now c.loop-index.out c.args.bytes.now whole (subst P item.1 (c.loop-index.invariant list whole size later)) (omega arith) c.next-span.ensures c.placed.ensures.whole (c.placed.ensures.stands item.0 whole)

pub returns : goal.returns
returns g c = λ list whole size later.
    let index = c.loop-index.index in
    let end : length list ≤ index = omega (arith, size) in
    let P : List (ExtensionFields _) → Type 0 = λ l. Told list l c.args.items.at c.loop-index.items c.args.out.now c.loop-index.out index c.args.bytes.now whole in
    sized_front list c.args.items.at c.args.bytes.now whole c.args.out.now c.loop-index.out index c.args.size (omega arith) (all_told list c.args.items.at index c.loop-index.items c.args.out.now c.loop-index.out c.args.bytes.now whole (subst P (drop_all index list end) (c.loop-index.invariant list whole size later)))
