-- Dotted text, as it grows by an arc.
use Rattle.std.proofs.Common.{◌≡◌, ℕ, ◌+◌, ◌≤◌, List, [], ◌∷◌, ◌++◌, map, length, refl, sym, ap, ◌∙◌, arith, append-nil, append_assoc}
use Rattle.std.specs.List.{join_with_byte}
use Rattle.std.specs.Fmt.{decimal}
use Rattle.std.proofs.lemmas.List.{map_push, length-append}
use Rattle.x509_der.specs.ObjectIdentifier.{IsOid, dotted}
use Rattle.x509_der.specs.facts.ObjectIdentifier.{oid_plain}

join_push : (c : ℕ) (x : List ℕ) (xs : List (List ℕ)) (y : List ℕ) → join_with_byte c (x ∷ (xs ++ y ∷ [])) ≡ join_with_byte c (x ∷ xs) ++ (c ∷ y)
join_push c x [] y = refl
join_push c x (z ∷ zs) y = ap (λ (t : List ℕ). x ++ (c ∷ t)) (join_push c z zs y) ∙ sym (append_assoc x (c ∷ join_with_byte c (z ∷ zs)) (c ∷ y))

pub dotted_push : (a : ℕ) (arcs : List ℕ) (b : ℕ) → dotted (a ∷ (arcs ++ b ∷ [])) ≡ dotted (a ∷ arcs) ++ (46 ∷ decimal b)
dotted_push a arcs b = ap (λ (ps : List (List ℕ)). join_with_byte 46 (decimal a ∷ ps)) (map_push decimal arcs b) ∙ join_push 46 (decimal a) (map decimal arcs) (decimal b)

pub longer : (a : ℕ) (arcs : List ℕ) (b : ℕ) → length (dotted (a ∷ (arcs ++ b ∷ []))) ≡ length (dotted (a ∷ arcs)) + (1 + length (decimal b))
longer a arcs b = omega (arith, ap length (dotted_push a arcs b), length-append (dotted (a ∷ arcs)) (46 ∷ decimal b))

-- more arcs have no shorter text
pub not_shorter : (a : ℕ) (arcs more : List ℕ) → length (dotted (a ∷ arcs)) ≤ length (dotted (a ∷ (arcs ++ more)))
not_shorter a arcs [] = omega (arith, ap (λ (x : List ℕ). length (dotted (a ∷ x))) (append-nil arcs))
not_shorter a arcs (b ∷ more) =
    omega (arith, longer a arcs b, not_shorter a (arcs ++ b ∷ []) more, ap (λ (x : List ℕ). length (dotted (a ∷ x))) (append_assoc arcs (b ∷ []) more))

-- the arcs that a content spells are one list
pub one_list : (x y content : List ℕ) → IsOid x content → IsOid y content → x ≡ y
one_list x y content p q = oid_plain.one x y content p q

-- there is room for one arc more
pub fits_more : (arcs : List ℕ) (a : ℕ) (front : List ℕ) (b : ℕ) (rest : List ℕ) → arcs ≡ a ∷ (front ++ b ∷ rest) → (out : List ℕ) → length (dotted arcs) ≤ length out → length (dotted (a ∷ front)) + (1 + length (decimal b)) ≤ length out
fits_more arcs a front b rest e out room =
    omega (arith, room, ap (λ (x : List ℕ). length (dotted x)) e, longer a front b, not_shorter a (front ++ b ∷ []) rest, ap (λ (x : List ℕ). length (dotted (a ∷ x))) (append_assoc front (b ∷ []) rest))

-- and for the first
pub begins : (arcs : List ℕ) (a : ℕ) (rest : List ℕ) → arcs ≡ a ∷ rest → (out : List ℕ) → length (dotted arcs) ≤ length out → length (decimal a) ≤ length out
begins arcs a rest e out room = omega (arith, room, ap (λ (x : List ℕ). length (dotted x)) e, not_shorter a [] rest)

-- a text that is too long stays so
pub too_long : (arcs : List ℕ) (a : ℕ) (front : List ℕ) (b : ℕ) (rest : List ℕ) → arcs ≡ a ∷ (front ++ b ∷ rest) → (most : ℕ) → most ≤ length (dotted (a ∷ front)) + (1 + length (decimal b)) → most ≤ length (dotted arcs)
too_long arcs a front b rest e most h =
    omega (arith, h, ap (λ (x : List ℕ). length (dotted x)) e, longer a front b, not_shorter a (front ++ b ∷ []) rest, ap (λ (x : List ℕ). length (dotted (a ∷ x))) (append_assoc front (b ∷ []) rest))
