-- A walk over the numbers of an RSA private key.
use Rattle.std.proofs.Common.{◌≡◌, ℕ, List, [], ◌++◌, length, refl, sym, ap, ◌∙◌, append-nil}
use Rattle.x509_der.specs.Tally.{Tally}
use Rattle.x509_keys.specs.RsaPublicKeys.{number}
use Rattle.x509_keys.specs.RsaPrivateKeys.{rsa_private_key}
use Rattle.x509_keys.specs.declared.rsa_private_key.RsaPrivateKey.{RsaPrivateKey}
use Rattle.x509_fields.specs.Spans.{all_of}
use Rattle.x509_fields.specs.declared.span.Span.{Span}
use Rattle.x509_values.specs.Rests.{Rest}
use Rattle.x509_values.specs.Elements.{Finds, Over}
use Rattle.x509_values.specs.declared.elements.Element.{Element}
use Rattle.x509_flat_values.specs.Covered.{CoversAll, Within}
use Rattle.x509_flat_values.specs.PrivateKeys.{NumbersTold, TakesOne}
use Rattle.x509_flat_values.specs.declared.private_keys.RsaPrivatePlaces.{RsaPrivatePlaces}
use Rattle.x509_flat_values.proofs.Walking.{step, last_step, over_within, span_covers, covers_all}

-- a number is covered, and the walk is behind it
pub record Numbered (string v q : List ℕ) (next : Rest) (at : Span) : Type 0 where
  pub covers : CoversAll string at v
  pub rest : next.rest ≡ q
  pub within : Within string next

numbered : (string v p q : List ℕ) (y : Tally) (w next : Rest) (at : Span) → number.spelled v p y → Within string w → w.rest ≡ p ++ q → TakesOne w next at → Numbered string v q next at
numbered string v p q y w next at a here is t =
    let s = step string 2 a.content q w next t.element here (is ∙ ap (λ x. x ++ q) a.bytes) refl t.found in
    record { covers = span_covers string v t.element.inside at s.inside (s.content ∙ a.spelled.0.1) t.is; rest = s.rest; within = s.next }

pub numbers_told : {A : Type 0} (string : List ℕ) (v : RsaPrivateKey A) (y : Tally) (w0 w1 n1 n2 n3 n4 n5 n6 n7 n8 n9 : Rest) (e : Element) (at : RsaPrivatePlaces) →
    rsa_private_key.spelled v string y → Over string (all_of string) w0 → Finds w0 w1 e →
    TakesOne e.inside n1 at.version → TakesOne n1 n2 at.modulus → TakesOne n2 n3 at.public_exponent → TakesOne n3 n4 at.private_exponent → TakesOne n4 n5 at.prime_1 →
    TakesOne n5 n6 at.prime_2 → TakesOne n6 n7 at.exponent_1 → TakesOne n7 n8 at.exponent_2 → TakesOne n8 n9 at.coefficient →
    NumbersTold v string at
numbers_told string v y w0 w1 n1 n2 n3 n4 n5 n6 n7 n8 n9 e at s over finds f1 f2 f3 f4 f5 f6 f7 f8 f9 =
    let o = over_within string string (all_of string) w0 over (covers_all string string refl) in
    let t = last_step string 48 s.content w0 w1 e o.0 (o.1 ∙ s.bytes) refl finds in
    let j1 = s.spelled in
    let j2 = j1.aft in
    let j3 = j2.aft in
    let j4 = j3.aft in
    let j5 = j4.aft in
    let j6 = j5.aft in
    let j7 = j6.aft in
    let j8 = j7.aft in
    let r1 = numbered string v.version j1.front j1.back j1.first e.inside n1 at.version j1.fore t.inside (t.content ∙ j1.bytes) f1 in
    let r2 = numbered string v.modulus j2.front j2.back j2.first n1 n2 at.modulus j2.fore r1.within (r1.rest ∙ j2.bytes) f2 in
    let r3 = numbered string v.public_exponent j3.front j3.back j3.first n2 n3 at.public_exponent j3.fore r2.within (r2.rest ∙ j3.bytes) f3 in
    let r4 = numbered string v.private_exponent j4.front j4.back j4.first n3 n4 at.private_exponent j4.fore r3.within (r3.rest ∙ j4.bytes) f4 in
    let r5 = numbered string v.prime_1 j5.front j5.back j5.first n4 n5 at.prime_1 j5.fore r4.within (r4.rest ∙ j5.bytes) f5 in
    let r6 = numbered string v.prime_2 j6.front j6.back j6.first n5 n6 at.prime_2 j6.fore r5.within (r5.rest ∙ j6.bytes) f6 in
    let r7 = numbered string v.exponent_1 j7.front j7.back j7.first n6 n7 at.exponent_1 j7.fore r6.within (r6.rest ∙ j7.bytes) f7 in
    let r8 = numbered string v.exponent_2 j8.front j8.back j8.first n7 n8 at.exponent_2 j8.fore r7.within (r7.rest ∙ j8.bytes) f8 in
    let r9 = numbered string v.coefficient j8.back [] j8.second n8 n9 at.coefficient j8.aft r8.within (r8.rest ∙ sym (append-nil j8.back)) f9 in
    record {
      version = r1.covers;
      modulus = r2.covers;
      public_exponent = r3.covers;
      private_exponent = r4.covers;
      prime_1 = r5.covers;
      prime_2 = r6.covers;
      exponent_1 = r7.covers;
      exponent_2 = r8.covers;
      coefficient = r9.covers;
    }
