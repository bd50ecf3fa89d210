-- Any one element, whose content is not looked into.
use Rattle.std.proofs.Common.{◌≡◌, ℕ, Bool, true, false, List, [], ◌∷◌, ◌++◌, length, refl, ap, sym, ◌∙◌, arith}
use Rattle.x509_der_parts.specs.Reading.{is_tag}
use Rattle.x509_der_parts.specs.facts.MarkOrder.{no_marks}
use Rattle.x509_der_parts.specs.Element.{element}
use Rattle.x509_der_parts.specs.Tally.{Tally}
use Rattle.x509_der_parts.specs.Shape.{Lawful, IsElement, Same, Begins, Follows}
use Rattle.x509_der_parts.specs.Fields.{Inner}
use Rattle.x509_der_parts.specs.facts.Element.{element_one, element_length, header_long}
use Rattle.x509_der_parts.specs.RawElement.{Raw, raws}

pub follows_free : (f : ℕ → Bool) → ((c : ℕ) → f c ≡ false) → (q : List ℕ) → Follows f q
follows_free f h [] = tt
follows_free f h (c ∷ q) = h c

begins_raw : (t : ℕ) (c : List ℕ) → is_tag t ≡ true → Begins is_tag (element t c)
unfolding element
begins_raw t c h = h

pub raw_one : (v w p q r u : List ℕ) (y z : Tally) → Raw v p y → Raw w q z → p ++ r ≡ q ++ u → Same v w p q y z
raw_one v w p q r u y z a b e =
    let k = element_one a.is.tag b.is.tag a.is.content b.is.content r u (ap (λ x. x ++ r) (sym a.is.bytes) ∙ e ∙ ap (λ x. x ++ u) b.is.bytes) in
    let kt = k.tag in
    let kc = k.content in
    let pq : p ≡ q = a.is.bytes ∙ ap (λ x. element x a.is.content) kt ∙ ap (element b.is.tag) kc ∙ sym b.is.bytes in
    record { value = sym a.bytes ∙ pq ∙ b.bytes; bytes = pq; tally = a.tally ∙ sym b.tally }

pub raws_lawful : Lawful raws
raws_lawful = record {
  one = λ v w p q r t y z a b e f g. raw_one v w p q r t y z a b e;
  written = λ v d r. record { headers = 1; spelled = record { is = d.0; each = d.1; bytes = refl; tally = refl } };
  clean = λ v p y a e. a.bytes;
  valid = λ v p y a. rw (← a.bytes) (a.is, a.each);
  read = λ v p y a. tt;
  begins = λ v p y a. rw a.is.bytes (begins_raw a.is.tag a.is.content a.is.fits);
  cost = λ v p y a. omega (arith, ap (λ (x : Tally). x.headers) a.tally, ap length a.is.bytes, element_length a.is.tag a.is.content, header_long a.is.content);
  places = λ v p y a. no_marks (length p) y.marks (ap (λ (x : Tally). x.marks) a.tally);
  parts = λ v p y a n string whole i. tt;
  few = λ v p y a. omega (arith, ap (λ (x : Tally). x.headers) a.tally, ap (λ (x : Tally). length x.marks) a.tally);
}

pub raws_inner : Inner raws
raws_inner v p y a ks z e n string whole i = tt

pub raws_element : IsElement raws
raws_element = record {
  one = λ v p y a. a.is;
  strict = λ v d. d.0;
  free = λ b. refl;
  tags = λ b h. h;
  min_headers = λ b rest h. omega arith;
}
