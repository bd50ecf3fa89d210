-- What is put together is read as what was put together.
use Rattle.std.proofs.Common.{◌≡◌, ℕ, Bool, List, [], ◌∷◌, ◌++◌, length, map, refl, ap, sym, ◌∙◌, append-nil}
use Rattle.x509_der.specs.BitString.{used, bit_strings}
use Rattle.x509_der.specs.facts.BitString.{pads_all, content-used}
use Rattle.x509_der.specs.Element.{AreBytes, element, header}
use Rattle.x509_der.specs.FirstField.{in_sequence}
use Rattle.x509_der.specs.Shape.{Shape}
use Rattle.x509_der.specs.Tagged.{tagged, IsTagged}
use Rattle.x509_der.specs.Tally.{Tally, moved, none, joined, inside}
use Rattle.x509_keys.specs.AlgorithmIdentifier.{Algorithm}
use Rattle.picky_asn1_x509.specs.Certificates.{SignatureFields, signature_fields}
use Rattle.x509_make.specs.Assembled.{IsAssembled, IsSignedPart}

-- whole bytes are the bits of themselves, with none unused
pub whole_bits : (s : List ℕ) → AreBytes s → (tagged 3 bit_strings).spelled (used s 0) (element 3 (0 ∷ s)) (inside (header (0 ∷ s)) none)
whole_bits s b = record {
  content = 0 ∷ s;
  part = none;
  spelled = (sym (content-used s 0 (pads_all s).padded b), refl);
  bytes = refl;
  tally = refl;
}

-- no mark stands in the fields behind the part
marks_behind : (k m n h : ℕ) (y ya : Tally) → ya.marks ≡ [] → (inside h (joined n y (joined m ya (inside k none)))).marks ≡ map (moved h) y.marks
unfolding inside joined none
marks_behind k m n h y ya e = ap (map (moved h)) (ap (λ x. y.marks ++ map (moved n) (x ++ [])) e ∙ append-nil y.marks)

-- the fields as they are read
abbrev fields_read : {A V : Type 0} → V → Algorithm A → List Bool → V × SignatureFields A
fields_read v a s = (v, (a, s))

-- the part stands in what is read
pub signed_part : {A T V : Type 0} (view : T → V × SignatureFields A) (made : V × SignatureFields A → T) (back : (f : V × SignatureFields A) → view (made f) ≡ f) (s : Shape V) (part algorithm signature bytes : List ℕ) → AreBytes signature → IsAssembled A s part algorithm signature bytes → IsSignedPart view s part bytes
signed_part view made back s part algorithm signature bytes b h =
    let f = fields_read h.value h.signed.value (used signature 0) in
    let rest : List ℕ = algorithm ++ element 3 (0 ∷ signature) in
    let tail : Tally = joined (length algorithm) h.signed.tally (inside (header (0 ∷ signature)) none) in
    let inner : Tally = joined (length part) h.tally tail in
    record {
      value = made f;
      tally = inside (header (part ++ rest)) inner;
      spelled = rw (back f) (record {
        content = part ++ rest;
        part = inner;
        spelled = record {
          front = part;
          back = rest;
          first = h.tally;
          second = tail;
          fore = h.spelled;
          aft = record {
            front = algorithm;
            back = element 3 (0 ∷ signature);
            first = h.signed.tally;
            second = inside (header (0 ∷ signature)) none;
            fore = h.signed.spelled;
            aft = whole_bits signature b;
            bytes = refl;
            tally = refl;
          };
          bytes = refl;
          tally = refl;
        };
        bytes = h.is;
        tally = refl;
      });
      behind = rest;
      is = h.is;
      inner = h.tally;
      fore = rw (back f) h.spelled;
      marks = marks_behind (header (0 ∷ signature)) (length algorithm) (length part) (header (part ++ rest)) h.tally h.signed.tally h.signed.clean;
    }
