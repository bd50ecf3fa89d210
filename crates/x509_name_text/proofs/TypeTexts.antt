-- A text that is written to a part of a buffer.
use Rattle.std.proofs.Common.{◌≡◌, ℕ, ◌+◌, ◌-◌, ◌^◌, ◌<◌, ◌≤◌, min, false, List, [], ◌++◌, take, drop, length, sym, ap, ◌∙◌, arith, append_assoc, append-nil, inl, inr, subst}
use Rattle.std.proofs.Math.Seq.{take-append_seam, drop-append_seam, drop-length, take-length}
use Rattle.std.proofs.lemmas.List.{length-append, take-append-drop, drop-drop}
use Rattle.std.proofs.Common.{length-drop, length-take-le}
use Rattle.x509_der.specs.ObjectIdentifier.{IsOid, dotted}
use Rattle.x509_der.specs.facts.ObjectIdentifier.{oid_plain}
use Rattle.x509_oid_text.specs.Texts.{OfText}
use Rattle.x509_name_text.specs.Texts.{IsTypeText, Writes, hex_text}

-- nothing stands behind a part that goes to the end
pub end_part : (from : ℕ) (xs : List ℕ) → drop (length xs - from) (drop from xs) ≡ []
end_part from xs = ap (λ n. drop n (drop from xs)) (sym (length-drop from xs)) ∙ drop-length (drop from xs)

-- the text stands in front of the part
pub in_part : (text old part new : List ℕ) (at from end : ℕ) → from ≡ min at (length old) → part ≡ text ++ drop (length text) (drop from old) → length text ≤ length (drop from old) → new ≡ take from old ++ (part ++ drop (length old - from) (drop from old)) → end ≡ min (2 ^ 64 - 1) (at + length text) → Writes text at old end new
in_part text old part new at from end starts is room whole ends = record {
  ends = ends;
  same =
      omega (
        arith,
        starts,
        room,
        ap length whole,
        ap length is,
        ap length (end_part from old),
        length-append (take from old) (part ++ drop (length old - from) (drop from old)),
        length-append part (drop (length old - from) (drop from old)),
        length-append text (drop (length text) (drop from old)),
        length-drop (length text) (drop from old),
        length-drop from old,
        length-take-le from old (omega (arith, starts)),
        ap length (take-append-drop from old),
      );
  fits = λ done base start before below within.
      let here : from ≡ length done = omega (arith, starts, start, within) in
      let front : take from old ≡ done = ap (λ n. take n old) here ∙ ap (λ (t : List ℕ). take (length done) t) before ∙ take-append_seam done (drop at base) in
      let behind : drop from old ≡ drop at base = ap (λ n. drop n old) here ∙ ap (λ (t : List ℕ). drop (length done) t) before ∙ drop-append_seam done (drop at base) in
      whole
      ∙ ap (λ (t : List ℕ). take from old ++ (part ++ t)) (end_part from old)
      ∙ ap (λ (t : List ℕ). take from old ++ t) (append-nil part ∙ is)
      ∙ ap (λ (t : List ℕ). t ++ (text ++ drop (length text) (drop from old))) front
      ∙ ap (λ (t : List ℕ). done ++ (text ++ drop (length text) t)) behind
      ∙ ap (λ (t : List ℕ). done ++ (text ++ t)) (drop-drop (length text) at base)
      ∙ sym (append_assoc done text (drop (at + length text) base));
}

-- a part that is as it was leaves the whole so
pub left_alone : (old part : List ℕ) (from : ℕ) → part ≡ drop from old → take from old ++ (part ++ drop (length old - from) (drop from old)) ≡ old
left_alone old part from is =
    ap (λ (t : List ℕ). take from old ++ (part ++ t)) (end_part from old) ∙ ap (λ (t : List ℕ). take from old ++ t) (append-nil part ∙ is) ∙ take-append-drop from old

-- a text for which there is no room
pub no_room : (text old new : List ℕ) (at end : ℕ) → new ≡ old → end ≡ min (2 ^ 64 - 1) (at + length text) → (at + length text < 2 ^ 64 → at + length text ≤ length old → ⊥) → Writes text at old end new
no_room text old new at end is ends full = record {
  ends = ends;
  same = ap length is;
  fits = λ done base start before below within. absurd (full below within);
}

-- what holds of the dotted text of a content holds of the text that it has
pub said_is : (kind text : List ℕ) (fact : List ℕ → Type 0) → IsTypeText kind text → OfText kind fact → fact text
said_is kind text fact (inl (arcs, is, same)) (others, are, holds) = subst fact (ap dotted (oid_plain.one others arcs kind are is) ∙ sym same) holds
said_is kind text fact (inr (never, same)) (others, are, holds) = absurd (never others are)

pub in_hex : (kind text : List ℕ) → IsTypeText kind text → ((arcs : List ℕ) → IsOid arcs kind → ⊥) → text ≡ hex_text false kind
in_hex kind text (inl (arcs, is, same)) never = absurd (never arcs is)
in_hex kind text (inr (none, same)) never = same

-- a part that goes to the end is all behind its start
pub to_end : (from : ℕ) (xs : List ℕ) → take (length xs - from) (drop from xs) ≡ drop from xs
to_end from xs = ap (λ n. take n (drop from xs)) (sym (length-drop from xs)) ∙ take-length (drop from xs)
