-- A shape's spelling as the content of an element.
use Rattle.std.proofs.Common.{◌≡◌, true, ◌<◌, ℕ, ◌+◌, ◌≤◌, inl, eqb, eq-eqb, eqb-true, List, [], ◌++◌, length, map, refl, ap, sym, ◌∙◌, arith}
use Rattle.std.proofs.lemmas.List.{length-map}
use Rattle.x509_der_parts.specs.facts.MarkOrder.{placing_same, placing_moved, deep_moved}
use Rattle.x509_der_parts.specs.MarkOrder.{Deep}
use Rattle.x509_der_parts.specs.Element.{element, header, is_tag}
use Rattle.x509_der_parts.specs.Tally.{Tally, moved}
use Rattle.x509_der_parts.specs.facts.Tally.{inside_marks, inside_headers, inside_clean, inside_is_clean}
use Rattle.x509_der_parts.specs.Shape.{Shape, Lawful, IsElement, Same, Begins, Follows}
use Rattle.x509_der_parts.specs.facts.Parts.{content_there, content_marked}
use Rattle.x509_der_parts.specs.facts.Fields.{stands}
use Rattle.x509_der_parts.specs.Fields.{Inner}
use Rattle.x509_der_parts.specs.facts.Element.{element_one, element_length, header_long}
use Rattle.x509_der_parts.specs.Tagged.{IsTagged, tagged}

begins_element : (t : ℕ) (c : List ℕ) → Begins (λ b. eqb b t) (element t c)
unfolding element
begins_element t c = eq-eqb t t refl

-- so it begins with the tag, whatever follows it
pub begins_element_follows : (t : ℕ) (c q : List ℕ) → Follows (λ b. eqb b t) (element t c ++ q) → ⊥
unfolding element
begins_element_follows t c q f = let e : eqb t t ≡ true = eq-eqb t t refl in cc

module _ {V : Type 0} (t : ℕ) (s : Shape V) (l : Lawful s) where
  tagged_one : (v w : V) (p q r u : List ℕ) (y z : Tally) → IsTagged t s v p y → IsTagged t s w q z → p ++ r ≡ q ++ u → Same v w p q y z
  tagged_one v w p q r u y z a b e =
      let k = element_one t t a.content b.content r u (ap (λ x. x ++ r) (sym a.bytes) ∙ e ∙ ap (λ x. x ++ u) b.bytes) in
      let kc = k.content in
      let o = l.one v w a.content b.content [] [] a.part b.part a.spelled b.spelled (ap (λ x. x ++ []) kc) tt tt in
      let ot = o.tally in
      let ab = a.bytes in
      let bb = b.bytes in
      let at = a.tally in
      let bt = b.tally in
      record { value = o.value; bytes = cc; tally = cc }

  pub tagged_lawful : Lawful (tagged t s)
  tagged_lawful = record {
    one = λ v w p q r u y z a b e f g. tagged_one v w p q r u y z a b e;
    written = λ v d r.
        let w = l.written v d r in
        record { headers = w.headers + 1; spelled = record { content = s.strict v; part = _; spelled = w.spelled; bytes = refl; tally = sym (inside_clean _ _) } };
    clean = λ v p y a e.
        a.bytes ∙ ap (element t) (l.clean v a.content a.part a.spelled (inside_is_clean (header a.content) a.part y a.tally e));
    valid = λ v p y a. l.valid v a.content a.part a.spelled;
    read = λ v p y a. l.read v a.content a.part a.spelled;
    begins = λ v p y a. let B : List ℕ → Type 0 = Begins (λ b. eqb b t) in rw a.bytes (begins_element t a.content);
    cost = λ v p y a.
        omega (arith, ap length a.bytes, element_length t a.content, header_long a.content, l.cost v a.content a.part a.spelled, ap (λ (x : Tally). x.headers) a.tally, inside_headers (header a.content) a.part);
    places = λ v p y a. placing_same (length p) (header a.content + length a.content) y.marks (map (moved (header a.content)) a.part.marks) (ap length a.bytes ∙ element_length t a.content) (ap (λ (x : Tally). x.marks) a.tally ∙ inside_marks (header a.content) a.part) (placing_moved (header a.content) (length a.content) a.part.marks (l.places v a.content a.part a.spelled));
    parts = λ v p y a n string whole i.
        record { content = a.content; bytes = a.bytes; inner = stands s l v a.content a.part a.spelled (n + header a.content) string whole (content_there string whole n p y i t a.content a.part a.bytes a.tally (l.places v a.content a.part a.spelled).within) };
    few = λ v p y a.
        omega (arith, l.few v a.content a.part a.spelled, ap (λ (x : Tally). length x.marks) a.tally, ap (λ (x : Tally). x.headers) a.tally, inside_headers (header a.content) a.part, ap length (inside_marks (header a.content) a.part), length-map a.part.marks (moved (header a.content)));
  }

pub tagged_inner : {V : Type 0} (t : ℕ) (s : Shape V) → Lawful s → Inner (tagged t s)
tagged_inner t s l v p y a ks z e n string whole i = record {
  content = a.content;
  bytes = a.bytes;
  inner = stands s l v a.content a.part a.spelled (n + header a.content) string whole (content_marked string whole n p z i t a.content a.part y ks e a.bytes a.tally (l.places v a.content a.part a.spelled).within);
}

pub tagged_element : {V : Type 0} (t : ℕ) (s : Shape V) → is_tag t ≡ true → t < 256 → IsElement (tagged t s)
tagged_element t s fits byte = record {
  one = λ v p y a. record { tag = t; content = a.content; fits = fits; byte = byte; bytes = a.bytes };
  strict = λ v d. record { tag = t; content = s.strict v; fits = fits; byte = byte; bytes = refl };
  free = λ b. refl;
  tags = λ b h. ap is_tag (eqb-true b t h) ∙ fits;
  min_headers = λ b rest h. inl (omega arith);
}

-- a mark inside an element begins behind the first byte
pub tagged_deep : {V : Type 0} (t : ℕ) (s : Shape V) (v : V) (p : List ℕ) (y : Tally) → IsTagged t s v p y → (1 ≤ length p) × Deep y.marks
tagged_deep t s v p y a =
    let d = deep_moved (header a.content) a.part.marks (omega (arith, header_long a.content)) in
    (omega (arith, ap length a.bytes, element_length t a.content, header_long a.content), rw (ap (λ (x : Tally). x.marks) a.tally ∙ inside_marks (header a.content) a.part) d)

-- an element has a header to spare for a mark over the whole
pub tagged_spare : {V : Type 0} (t : ℕ) (s : Shape V) → Lawful s → (v : V) (p : List ℕ) (y : Tally) → IsTagged t s v p y → 1 + length y.marks ≤ y.headers
tagged_spare t s l v p y a =
    omega (arith, l.few v a.content a.part a.spelled, ap (λ (x : Tally). length x.marks) a.tally, ap (λ (x : Tally). x.headers) a.tally, inside_headers (header a.content) a.part, ap length (inside_marks (header a.content) a.part), length-map a.part.marks (moved (header a.content)))
