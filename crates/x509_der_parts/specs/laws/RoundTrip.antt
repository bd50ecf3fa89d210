-- What follows from the laws of a shape.
use Rattle.std.proofs.Common.{◌≡◌, ◌↔◌, ℕ, List, [], ◌++◌, refl, ap, sym, ◌∙◌, append-nil}
use Rattle.x509_der_parts.specs.Element.{element}
use Rattle.x509_der_parts.specs.facts.Element.{element_one}
use Rattle.x509_der_parts.specs.Shape.{Shape, Lawful, IsElement}
use Rattle.x509_der_parts.specs.Tally.{Tally}
use Rattle.x509_der_parts.specs.RoundTrip.{IsSpelled, IsSpelledClean, ReadsBack}

module _ {V : Type 0} (s : Shape V) (l : Lawful s) (e : IsElement s) (strict : V → List ℕ) (agrees : (v : V) → s.strict v ≡ strict v) where
  pub same_spelling : (v w : V) → s.valid v → s.valid w → s.readable v → s.readable w → strict v ≡ strict w → v ≡ w
  same_spelling v w d k r t h =
      let x = l.written v d r in
      let y = l.written w k t in
      (l.one v w (s.strict v) (s.strict w) [] [] _ _ x.spelled y.spelled (ap (λ p. p ++ []) (agrees v ∙ h ∙ sym (agrees w))) tt tt).value

  pub spelled_clean : (v : V) → s.valid v → s.readable v → IsSpelledClean s v (strict v)
  spelled_clean v d r = let x = l.written v d r in record { headers = x.headers; spelled = rw (agrees v) at x.spelled }

  pub spelled_readable : (v : V) → s.valid v → IsSpelled s v (strict v) ↔ s.readable v
  spelled_readable v d = (λ x. l.read v (strict v) x.0 x.1, λ r. let c = spelled_clean v d r in (_, c.spelled))

  pub reads_back : (string : List ℕ) (v : V) (y : Tally) → s.spelled v string y → ReadsBack s strict v
  reads_back string v y a =
      let x = l.written v (l.valid v string y a) (l.read v string y a) in
      let P : List ℕ → Type 0 = λ p. s.spelled v p (record { marks = []; headers = x.headers }) in
      let b : s.spelled v (strict v) (record { marks = []; headers = x.headers }) = rw (agrees v) at x.spelled in
      record {
        headers = x.headers;
        spelled = b;
        only = λ w z c.
            let o = l.one w v (strict v) (strict v) [] [] z _ c b refl tt tt in
            (o.value, ap strict o.value, ap (λ (t : Tally). t.marks) o.tally);
      }

pub no_front : {V W : Type 0} (s : Shape V) (u : Shape W) → IsElement s → IsElement u → (v : V) (w : W) (more : List ℕ) → s.valid v → u.valid w → s.strict v ++ more ≡ u.strict w → more ≡ []
no_front s u e f v w more d k h =
    let a = e.strict v d in
    let b = f.strict w k in
    (element_one a.tag b.tag a.content b.content more [] (ap (λ p. p ++ more) (sym a.bytes) ∙ h ∙ b.bytes ∙ sym (append-nil (element b.tag b.content)))).rest
