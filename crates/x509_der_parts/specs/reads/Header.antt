-- Going into an element.
use Rattle.std.proofs.Common.{◌≡◌, ℕ, ◌+◌, List, ◌++◌, length, sum, ap, sym, ◌∙◌, arith, length-append}
use Rattle.x509_der_parts.specs.Element.{element}
use Rattle.x509_der_parts.specs.facts.Element.{element_length, header_long, element_one}
use Rattle.x509_der_parts.specs.Reading.{Cursor, Ready, Entered, IsFirst}

pub other_tag : (string : List ℕ) (t u : ℕ) (content after : List ℕ) → IsFirst string t content after → (t ≡ u → ⊥) → (c q : List ℕ) → string ≡ element u c ++ q → ⊥
other_tag string t u content after f n c q e = n (element_one t u content c after q (sym f.bytes ∙ e)).tag

pub entered : (t u : ℕ) (old inner : Cursor) (after : List ℕ) → IsFirst old.rest t inner.rest after → t ≡ u → Ready old → inner.headers ≡ old.headers + 1 → inner.counts ≡ old.counts → inner.at + length inner.rest + length after ≡ old.at + length old.rest → inner.places ≡ old.places → Entered u old inner after
entered t u old inner after f e r h k at places =
    record {
      bytes = f.bytes ∙ ap (λ x. element x inner.rest ++ after) e;
      at = omega (arith, at, ap length f.bytes, length-append (element t inner.rest) after, element_length t inner.rest);
      places = places;
      headers = h;
      counts = k;
      ready = record {
        room = omega (arith, r.room, ap length f.bytes, length-append (element t inner.rest) after, element_length t inner.rest, header_long inner.rest);
        booked = omega (arith, r.booked, ap sum k);
        kinds = ap length k ∙ r.kinds;
        ends = omega (arith, r.ends, at);
      };
    }
