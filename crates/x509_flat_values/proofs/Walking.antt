-- A walk over elements of a string: each stands where the walk says.
use Rattle.std.proofs.Common.{◌≡◌, true, ℕ, ◌+◌, List, [], ◌∷◌, ◌++◌, length, refl, sym, ap, ◌∙◌, arith, subst, length-append, append-nil, append_assoc}
use Rattle.x509_der.specs.Element.{digits, element, header, is_tag}
use Rattle.x509_der.specs.facts.Element.{element_length}
use Rattle.x509_fields.specs.Slices.{Covers}
use Rattle.x509_fields.specs.declared.span.Span.{Span}
use Rattle.x509_values.specs.Rests.{Rest}
use Rattle.x509_values.specs.Elements.{Finds, Over, span_of}
use Rattle.x509_values.specs.declared.elements.Element.{Element}
use Rattle.x509_flat_values.specs.Covered.{CoversAll, Within}

pub covers_as : (string p q : List ℕ) (start end : ℕ) → Covers string start end p → p ≡ q → Covers string start end q
covers_as string p q start end k e = let P : List ℕ → Type 0 = λ x. Covers string start end x in subst P e k

-- where two lists stand, so does each
pub covers_front : (string p q : List ℕ) (start end : ℕ) → Covers string start end (p ++ q) → Covers string start (start + length p) p
covers_front string p q start end k = record {
  before = k.before;
  after = q ++ k.after;
  bytes = k.bytes ∙ ap (λ x. k.before ++ x) (append_assoc p q k.after);
  from = k.from;
  to = omega (arith, k.from);
}

pub covers_back : (string p q : List ℕ) (start end : ℕ) → Covers string start end (p ++ q) → Covers string (start + length p) end q
covers_back string p q start end k = record {
  before = k.before ++ p;
  after = k.after;
  bytes = k.bytes ∙ ap (λ x. k.before ++ x) (append_assoc p q k.after) ∙ sym (append_assoc k.before p (q ++ k.after));
  from = omega (arith, k.from, length-append k.before p);
  to = omega (arith, k.to, length-append k.before p, length-append p q);
}

-- the content of an element
pub covers_content : (string c : List ℕ) (t start end : ℕ) → Covers string start end (element t c) → Covers string (start + header c) end c
unfolding element header
covers_content string c t start end k =
    let h : length (t ∷ digits (length c)) ≡ length (digits (length c)) + 1 = omega arith in
    let b = covers_back string (t ∷ digits (length c)) c start end k in
    let P : ℕ → Type 0 = λ n. Covers string (start + n) end c in
    subst P h b

pub over_within : (string slice : List ℕ) (span : Span) (r : Rest) → Over string span r → CoversAll string span slice → Within string r × (r.rest ≡ slice)
over_within string slice span r over k =
    let o = over slice k in (
      record {
        before = k.before;
        after = k.after;
        bytes = k.bytes ∙ ap (λ x. k.before ++ (x ++ k.after)) (sym o.0);
        from = o.1 ∙ k.from;
        to = omega (arith, o.1, k.from);
      },
      o.0,
    )

-- what a step finds, in a string
pub record Step (string : List ℕ) (t : ℕ) (c q : List ℕ) (after : Rest) (e : Element) : Type 0 where
  pub tag : e.tag ≡ t
  pub content : e.inside.rest ≡ c
  pub inside : Within string e.inside
  pub rest : after.rest ≡ q
  pub next : Within string after

inside_of : (string c q : List ℕ) (t : ℕ) (w : Rest) → Within string w → w.rest ≡ element t c ++ q → Covers string (w.at + header c) ((w.at + header c) + length c) c
inside_of string c q t w here is =
    let whole = covers_as string w.rest (element t c ++ q) w.at (w.at + length w.rest) here is in
    let e = covers_content string c t w.at (w.at + length (element t c)) (covers_front string (element t c) q w.at (w.at + length w.rest) whole) in
    let P : ℕ → Type 0 = λ n. Covers string (w.at + header c) n c in
    let same : w.at + length (element t c) ≡ (w.at + header c) + length c = omega (arith, element_length t c) in
    subst P same e

next_of : (string c q : List ℕ) (t : ℕ) (w : Rest) → Within string w → w.rest ≡ element t c ++ q → Covers string (w.at + length (element t c)) (w.at + length w.rest) q
next_of string c q t w here is = covers_back string (element t c) q w.at (w.at + length w.rest) (covers_as string w.rest (element t c ++ q) w.at (w.at + length w.rest) here is)

within_at : (string : List ℕ) (r : Rest) (bytes : List ℕ) (start end : ℕ) → Covers string start end bytes → r.rest ≡ bytes → r.at ≡ start → Within string r
within_at string r bytes start end k rest at = record {
  before = k.before;
  after = k.after;
  bytes = k.bytes ∙ ap (λ x. k.before ++ (x ++ k.after)) (sym rest);
  from = at ∙ k.from;
  to = omega (arith, at, k.from);
}

pub step : (string : List ℕ) (t : ℕ) (c q : List ℕ) (w next : Rest) (e : Element) → Within string w → w.rest ≡ element t c ++ q → is_tag t ≡ true → Finds w next e → Step string t c q next e
step string t c q w next e here is fits finds =
    let f = finds t c q fits is in
    record {
      tag = f.tag;
      content = f.content;
      inside = within_at string e.inside c (w.at + header c) ((w.at + header c) + length c) (inside_of string c q t w here is) f.content f.at;
      rest = f.rest;
      next = within_at string next q (w.at + length (element t c)) (w.at + length w.rest) (next_of string c q t w here is) f.rest (omega (arith, f.behind, element_length t c));
    }

-- the last element of what is left
pub last_step : (string : List ℕ) (t : ℕ) (c : List ℕ) (w next : Rest) (e : Element) → Within string w → w.rest ≡ element t c → is_tag t ≡ true → Finds w next e → Step string t c [] next e
last_step string t c w next e here is fits finds = step string t c [] w next e here (is ∙ sym (append-nil (element t c))) fits finds

-- the span of a walk
pub span_covers : (string bytes : List ℕ) (r : Rest) (span : Span) → Within string r → r.rest ≡ bytes → span ≡ span_of r → CoversAll string span bytes
span_covers string bytes r span here is same =
    let P : Span → Type 0 = λ s. CoversAll string s bytes in
    subst P (sym same) (covers_as string r.rest bytes r.at (r.at + length r.rest) here is)

-- all of a string
pub covers_all : (string bytes : List ℕ) → string ≡ bytes → Covers string 0 (length string) bytes
covers_all string bytes is = record { before = []; after = []; bytes = is ∙ sym (append-nil bytes); from = refl; to = omega (arith, ap length is) }

-- what is behind the first byte of what is left
pub behind_one : (string more : List ℕ) (first : ℕ) (r : Rest) (span : Span) → Within string r → r.rest ≡ first ∷ more → span ≡ span_of r → Covers string (span.start + 1) span.end more
behind_one string more first r span here is same =
    let b = covers_back string (first ∷ []) more r.at (r.at + length r.rest) (covers_as string r.rest (first ∷ more) r.at (r.at + length r.rest) here is) in
    record {
      before = b.before;
      after = b.after;
      bytes = b.bytes;
      from = omega (arith, ap (λ (s : Span). s.start) same, b.from);
      to = omega (arith, ap (λ (s : Span). s.end) same, b.to);
    }
