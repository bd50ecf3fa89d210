-- A type whose values are made of those of a base shape, some of them with marks over the whole.
use Rattle.std.proofs.Common.{◌≡◌, List, [], ◌++◌, length, Option, Some, refl, ap, sym, ◌∙◌, arith}
use Rattle.x509_der_parts.specs.declared.deviation.Deviation.{Deviation}
use Rattle.x509_der_parts.specs.facts.MarkOrder.{placing_same, placing_over}
use Rattle.x509_der_parts.specs.Tally.{over}
use Rattle.x509_der_parts.specs.facts.Tally.{marked_none, marked_clean, marked_headers, marked_marks, marked_length}
use Rattle.x509_der_parts.specs.Shape.{Shape, Lawful, IsElement}
use Rattle.x509_der_parts.specs.View.{IsView, viewed}

pub some_one : {V K : Type 0} (v w : V) (k l : K) → ◌≡◌ {A = Option (V × K)} (Some (v, k)) (Some (w, l)) → (v ≡ w) × (k ≡ l)
some_one {V} {K} v w k l e = let f : ◌≡◌ {A = V × K} (v, k) (w, l) = cc in (ap (λ (x : V × K). x.0) f, ap (λ (x : V × K). x.1) f)

module _ {B V : Type 0} (of : B → Option (V × List Deviation)) (back : V → B) (valid : V → Type 0) (readable : V → Type 0) (s : Shape B) (l : Lawful s) (h : IsView of back valid readable s) where
  pub viewed_lawful : Lawful (viewed of back valid readable s)
  viewed_lawful = record {
    one = λ v w p q r t y z a b e f g.
        let o = l.one a.base b.base p q r t a.part b.part a.spelled b.spelled e f g in
        let ob = o.bytes in
        let ov = o.value in
        let ot = o.tally in
        let am = a.means in
        let bm = b.means in
        let at = a.tally in
        let bt = b.tally in
        let k = some_one v w a.kinds b.kinds (sym am ∙ ap of ov ∙ bm) in
        let kk = k.1 in
        record { value = k.0; bytes = ob; tally = cc };
    written = λ v d r.
        let w = h.written v d r in
        let k = l.written (back v) w.1 w.2 in
        record { headers = k.headers; spelled = record { base = back v; kinds = []; part = _; spelled = k.spelled; means = w.0; tally = sym (marked_none _ _) } };
    clean = λ v p y a e.
        let m = marked_clean a.kinds (length p) a.part y a.tally e in
        l.clean a.base p a.part a.spelled m.1 ∙ ap s.strict (h.clean a.base v (a.means ∙ ap (λ k. Some (v, k)) m.0) (l.valid a.base p a.part a.spelled) (l.read a.base p a.part a.spelled));
    valid = λ v p y a. h.kept a.base v a.kinds a.means (l.valid a.base p a.part a.spelled);
    read = λ v p y a. h.read a.base v a.kinds a.means (l.read a.base p a.part a.spelled);
    begins = λ v p y a. l.begins a.base p a.part a.spelled;
    cost = λ v p y a. omega (arith, l.cost a.base p a.part a.spelled, marked_headers a.kinds (length p) a.part y a.tally);
    places = λ v p y a. let d = h.deep a.base p a.part a.spelled in placing_same (length p) (length p) y.marks (over (length p) a.kinds ++ a.part.marks) refl (marked_marks a.kinds (length p) a.part y a.tally) (placing_over (length p) a.kinds a.part.marks d.0 (h.ascending a.base v a.kinds a.means) d.1 (l.places a.base p a.part a.spelled));
    parts = λ v p y a n string whole i. record { base = a.base; kinds = a.kinds; part = a.part; spelled = a.spelled; means = a.means; parts = h.inner a.base p a.part a.spelled a.kinds y a.tally n string whole i };
    few = λ v p y a. omega (arith, h.few a.base v a.kinds p a.part a.means a.spelled, marked_headers a.kinds (length p) a.part y a.tally, marked_length a.kinds (length p) a.part y a.tally);
  }

pub viewed_element : {B V : Type 0} (of : B → Option (V × List Deviation)) (back : V → B) (valid : V → Type 0) (readable : V → Type 0) (s : Shape B) → IsElement s → ((v : V) → valid v → s.valid (back v)) → IsElement (viewed of back valid readable s)
viewed_element of back valid readable s e d = record { one = λ v p y a. e.one a.base p a.part a.spelled; strict = λ v k. e.strict (back v) (d v k); free = e.free; tags = e.tags; min_headers = e.min_headers }
