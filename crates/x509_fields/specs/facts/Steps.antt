-- What a walk does where elements stand.
use Rattle.std.proofs.Common.{subst, ◌≡◌, ℕ, ◌+◌, ◌≤◌, ◌==◌, not, true, Bool, List, [], ◌∷◌, ◌++◌, length, take, drop, get_or, refl, sym, ap, ◌∙◌, arith, length-append, eq-eqb, false, true≢false, ◌<◌}
use Rattle.std.proofs.lemmas.Bool.{ne_eqb}
use Rattle.std.proofs.Math.Seq.{drop-append_seam, take-append_seam}
use Rattle.x509_der.specs.Types.{Element}
use Rattle.x509_der.specs.Element.{IsRaw, digits, element, header, is_tag}
use Rattle.x509_der.specs.facts.Element.{element_one, element_length}
use Rattle.x509_der.specs.FirstElement.{FoundAt}
use Rattle.x509_der.specs.Reading.{NoFirst}
use Rattle.x509_der.specs.Shape.{Follows}
use Rattle.x509_fields.specs.Walks.{Walk, Steps, StepsOn, BeginWith, Counts, Inside}
use Rattle.x509_fields.specs.declared.span.Span.{Span}

pub found_end : (string : List ℕ) (e : Element) → FoundAt string e → e.end ≤ length string
found_end string e f = omega (arith, f.end, ap length f.first.bytes, length-append (element e.tag f.content) f.after, element_length e.tag f.content)

found_behind : (string : List ℕ) (e : Element) → (f : FoundAt string e) → drop e.end string ≡ f.after
found_behind string e f =
    let size : e.end ≡ length (element e.tag f.content) = omega (arith, f.end, element_length e.tag f.content) in
    ap (λ n. drop n string) size ∙ ap (drop (length (element e.tag f.content))) f.first.bytes ∙ drop-append_seam (element e.tag f.content) f.after

pub steps : (old new : Walk) (e : Element) (span : Span) → FoundAt old.rest e → new.rest ≡ drop e.end old.rest → new.at ≡ old.at + e.end → span.start ≡ old.at → span.end ≡ new.at → Steps old new span
steps old new e span f rest at start end =
    let after : new.rest ≡ f.after = rest ∙ found_behind old.rest e f in
    record {
      start = start;
      end = end;
      goes = record {
        forward = omega (arith, at);
        ends = omega (arith, at, f.end, ap length after, ap length f.first.bytes, length-append (element e.tag f.content) f.after, element_length e.tag f.content);
      };
      past = λ p q h g.
          let k = element_one h.tag e.tag h.content f.content q f.after (ap (λ x. x ++ q) (sym h.bytes) ∙ sym g ∙ f.first.bytes) in
          (after ∙ sym k.rest, omega (arith, at, f.end, ap length h.bytes, element_length h.tag h.content, ap header k.content, ap length k.content));
      stays = λ n. absurd (n e.tag f.content f.after f.first.tag f.first.bytes);
    }

header_positive : (c : List ℕ) → 1 ≤ header c
unfolding header
header_positive c = omega arith

pub found_positive : (string : List ℕ) (e : Element) → FoundAt string e → 1 ≤ e.end
found_positive string e f = omega (arith, f.end, header_positive f.content)

pub stays : (old : Walk) (span : Span) → NoFirst old.rest → span.start ≡ old.at → span.end ≡ old.at → Steps old old span
stays old span n start end = record {
  start = start;
  end = end;
  goes = record { forward = omega arith; ends = refl };
  past = λ p q h g. absurd (n h.tag h.content q h.fits (g ∙ ap (λ x. x ++ q) h.bytes));
  stays = λ n. refl;
}

content_from : (t : ℕ) (c : List ℕ) → drop (header c) (element t c) ≡ c
unfolding element digits header
content_from t c = let e : length (digits (length c)) + 1 ≡ length (t ∷ digits (length c)) = omega arith in rw e (drop-append_seam (t ∷ digits (length c)) c)

-- the content of an element that was found
pub inside_found : (outer inner : Walk) (e : Element) → FoundAt outer.rest e → inner.rest ≡ drop e.start (take e.end outer.rest) → inner.at ≡ outer.at + e.start → Inside outer inner
inside_found outer inner e f rest at =
    let size : e.end ≡ length (element e.tag f.content) = omega (arith, f.end, element_length e.tag f.content) in
    let whole : take e.end outer.rest ≡ element e.tag f.content = ap (λ n. take n outer.rest) size ∙ ap (take (length (element e.tag f.content))) f.first.bytes ∙ take-append_seam (element e.tag f.content) f.after in
    let content : inner.rest ≡ f.content = rest ∙ ap (drop e.start) whole ∙ ap (λ n. drop n (element e.tag f.content)) f.start ∙ content_from e.tag f.content in
    record {
      after = omega (arith, at);
      within = omega (arith, at, f.start, f.end, ap length content, found_end outer.rest e f);
      content = λ t c q h g.
          let k = element_one t e.tag c f.content q f.after (sym g ∙ f.first.bytes) in
          (content ∙ sym k.content, at ∙ ap (λ n. outer.at + n) f.start ∙ ap (λ x. outer.at + header x) (sym k.content));
      nothing = λ n. absurd (n e.tag f.content f.after f.first.tag f.first.bytes);
    }

tag_of : (t : ℕ) (c : List ℕ) → IsRaw (element t c) → is_tag t ≡ true
tag_of t c h =
    let k = element_one h.tag t h.content c [] [] (ap (λ x. x ++ []) (sym h.bytes)) in
    ap is_tag (sym k.tag) ∙ h.fits

pub inside_none : (outer inner : Walk) → NoFirst outer.rest → inner.rest ≡ [] → inner.at ≡ outer.at → Inside outer inner
inside_none outer inner n rest at = record {
  after = omega (arith, at);
  within = omega (arith, at, ap length rest);
  content = λ t c q h g. absurd (n t c q (tag_of t c h) g);
  nothing = λ m. (rest, at);
}

not_both : (b : Bool) → b ≡ false → not b ≡ false → ⊥
not_both true e f = true≢false e
not_both false e f = true≢false f

-- nothing is left, or what is left begins with a byte outside of the set
pub none_begun : (set : ℕ → Bool) (rest : List ℕ) → length rest < 1 → Follows set rest
none_begun set [] n = tt
none_begun set (b ∷ r) n = absurd (omega (arith, n))

pub not_begun : (t : ℕ) (rest : List ℕ) → 1 ≤ length rest → (get_or rest 0 0 ≡ t → ⊥) → Follows (λ b. b == t) rest
not_begun t [] l n = tt
not_begun t (b ∷ r) l n = ne_eqb b t n

pub begun : (t : ℕ) (rest : List ℕ) → 1 ≤ length rest → get_or rest 0 0 ≡ t → Follows (λ b. b == t) rest → ⊥
begun t [] l e f = omega (arith, l)
begun t (b ∷ r) l e f = let h : (b == t) ≡ true = eq-eqb b t e in cc

-- the same of another tag
pub other_begun : (t : ℕ) (rest : List ℕ) → 1 ≤ length rest → (get_or rest 0 0 ≡ t → ⊥) → Follows (λ b. not (b == t)) rest → ⊥
other_begun t [] l n f = omega (arith, l)
other_begun t (b ∷ r) l n f = not_both (b == t) (ne_eqb b t n) f

pub no_other_begun : (t : ℕ) (rest : List ℕ) → 1 ≤ length rest → get_or rest 0 0 ≡ t → Follows (λ b. not (b == t)) rest
no_other_begun t [] l e = tt
no_other_begun t (b ∷ r) l e = ap not (eq-eqb b t e)

-- nothing begins with no element
pub nothing_first : NoFirst []
nothing_first t c q fits e = omega (arith, ap length e, length-append (element t c) q, element_length t c, header_positive c)

-- a walk over what is left of elements, of which so many are gone past
pub record Gone (first now : Walk) (count : ℕ) : Type 0 where
  pub at : first.at + count ≤ now.at
  pub ends : now.at + length now.rest ≡ first.at + length first.rest
  pub left : (parts : List (List ℕ)) → BeginWith parts first.rest → (more : List (List ℕ)) × ((count + length more ≡ length parts) × BeginWith more now.rest)

next_gone : (now next : Walk) (span : Span) (count : ℕ) (parts more : List (List ℕ)) → Steps now next span → now.at < next.at → count + length more ≡ length parts → BeginWith more now.rest → (after : List (List ℕ)) × (((count + 1) + length after ≡ length parts) × BeginWith after next.rest)
next_gone now next span count parts [] s forward size h = absurd (omega (arith, forward, ap (λ (w : Walk). w.at) (s.stays h)))
next_gone now next span count parts (p ∷ ps) s forward size h =
    let k = s.past p h.1.0 h.0 h.1.1.0 in
    let P : List ℕ → Type 0 = λ x. BeginWith ps x in
    (ps, (omega (arith, size), subst P (sym k.0) h.1.1.1))

pub one_gone : (first now next : Walk) (span : Span) (count : ℕ) → Gone first now count → Steps now next span → now.at < next.at → Gone first next (count + 1)
one_gone first now next span count g s forward = record {
  at = omega (arith, g.at, forward);
  ends = omega (arith, g.ends, s.goes.ends);
  left = λ parts h. let l = g.left parts h in next_gone now next span count parts l.0 s forward l.1.0 l.1.1;
}

no_more : (more : List (List ℕ)) (rest : List ℕ) → NoFirst rest → BeginWith more rest → more ≡ []
no_more [] rest n h = refl
no_more (p ∷ ps) rest n h = absurd (n h.0.tag h.0.content h.1.0 h.0.fits (h.1.1.0 ∙ ap (λ x. x ++ h.1.0) h.0.bytes))

pub all_gone : (first now : Walk) (count : ℕ) → Gone first now count → NoFirst now.rest → Counts first.rest count
all_gone first now count g n parts h =
    let l = g.left parts h in
    omega (arith, l.1.0, ap length (no_more l.0 now.rest n l.1.1))
