-- One more type beside some.
use Rattle.std.proofs.Common.{◌≡◌, ℕ, zero, suc, ◌+◌, ◌<◌, ◌≤◌, List, [], ◌∷◌, ◌++◌, length, take, refl, sym, ap, subst, Option, None, Some, All, slice_index_or, arith}
use Rattle.std.proofs.lemmas.List.Elements.{All-append}
use Rattle.std.proofs.Math.Numerals.{add-one}
use Rattle.std.proofs.Math.Seq.{take-suc}
use Rattle.std.proofs.lemmas.List.{append_assoc, take_all}
use Rattle.x509_inspect_parts.specs.declared.kind.Kind.{Kind}
use Rattle.x509_inspect_parts.specs.declared.kind.Kind.TheVariants as kind
use Rattle.x509_inspect.specs.declared.kinds.Outcomes.{Outcomes}
use Rattle.x509_inspect.specs.Determined.{FirstFurthest, FurthestOf, IsFurther, IsTelling, all_kinds, at_of}

weaker : (P Q : Kind → Type 0) (xs : List Kind) → ((k : Kind) → P k → Q k) → All P xs → All Q xs
weaker P Q xs f all = λ k d b. f _ (all k d b)

alone : (P : Kind → Type 0) (x : Kind) → P x → All P (x ∷ [])
alone P x p zero d b = p
alone P x p (suc k) d b = absurd (omega (arith, b))

pub pushed : (o : Outcomes) (xs : List Kind) (best : Option Kind) (x : Kind) → FurthestOf o xs best → IsTelling x → IsFurther o best x → FurthestOf o (xs ++ (x ∷ [])) (Some x)
pushed o xs None x none t f = record {
  front = xs;
  back = [];
  stands = refl;
  telling = t;
  further = weaker (λ k. IsTelling k → ⊥) (λ k. IsTelling k → at_of o k < at_of o x) xs (λ k n h. absurd (n h)) none;
  as_far = λ k d b. absurd (omega (arith, b));
}
pushed o xs (Some best) x first t f = record {
  front = xs;
  back = [];
  stands = refl;
  telling = t;
  further = rw first.stands (All-append (λ k. IsTelling k → at_of o k < at_of o x) first.front (best ∷ first.back)
      (weaker (λ k. IsTelling k → at_of o k < at_of o best) (λ k. IsTelling k → at_of o k < at_of o x) first.front (λ k less h. omega (arith, less h, f)) first.further)
      (All-append (λ k. IsTelling k → at_of o k < at_of o x) (best ∷ []) first.back
      (alone (λ k. IsTelling k → at_of o k < at_of o x) best (λ h. f))
      (weaker (λ k. IsTelling k → at_of o k ≤ at_of o best) (λ k. IsTelling k → at_of o k < at_of o x) first.back (λ k less h. omega (arith, less h, f)) first.as_far)));
  as_far = λ k d b. absurd (omega (arith, b));
}

pub kept : (o : Outcomes) (xs : List Kind) (best : Option Kind) (x : Kind) → FurthestOf o xs best → (IsTelling x → IsFurther o best x → ⊥) → FurthestOf o (xs ++ (x ∷ [])) best
kept o xs None x none never = All-append (λ k. IsTelling k → ⊥) xs (x ∷ []) none (alone (λ k. IsTelling k → ⊥) x (λ h. never h tt))
kept o xs (Some best) x first never = record {
  front = first.front;
  back = first.back ++ (x ∷ []);
  telling = first.telling;
  further = first.further;
  stands = rw (first.stands, append_assoc first.front (best ∷ first.back) (x ∷ [])) refl;
  as_far = All-append (λ k. IsTelling k → at_of o k ≤ at_of o best) first.back (x ∷ []) first.as_far
      (alone (λ k. IsTelling k → at_of o k ≤ at_of o best) x (λ h. omega (arith, never h)));
}

pub all_take : (P : Kind → Type 0) (xs : List Kind) (i : ℕ) (d : Kind) → i < length xs → All P (take i xs) → P (slice_index_or xs i d) → All P (take (i + 1) xs)
all_take P xs i d b all p = rw (add-one i, take-suc xs i d b) (All-append P (take i xs) (_ ∷ []) all (alone P _ p))

pub furthest_take : (o : Outcomes) (xs : List Kind) (best : Option Kind) (i : ℕ) (d : Kind) → i < length xs → FurthestOf o (take i xs ++ (slice_index_or xs i d ∷ [])) best → FurthestOf o (take (i + 1) xs) best
furthest_take o xs best i d b f = rw (add-one i, take-suc xs i d b) f

-- what holds of each type of the list holds of every type
pub everywhere : (P : Kind → Type 0) → All P all_kinds → (k : Kind) → P k
everywhere P all kind.Certificate = all 0 kind.Certificate (omega arith)
everywhere P all kind.Request = all 1 kind.Request (omega arith)
everywhere P all kind.PrivateKey = all 2 kind.PrivateKey (omega arith)
everywhere P all kind.PublicKey = all 3 kind.PublicKey (omega arith)
everywhere P all kind.RsaPrivateKey = all 4 kind.RsaPrivateKey (omega arith)
everywhere P all kind.RsaPublicKey = all 5 kind.RsaPublicKey (omega arith)
everywhere P all kind.EcPrivateKey = all 6 kind.EcPrivateKey (omega arith)
everywhere P all kind.Name = all 7 kind.Name (omega arith)
everywhere P all kind.Extensions = all 8 kind.Extensions (omega arith)
everywhere P all kind.Algorithm = all 9 kind.Algorithm (omega arith)
everywhere P all kind.RawAlgorithm = all 10 kind.RawAlgorithm (omega arith)
everywhere P all kind.RequestInfo = all 11 kind.RequestInfo (omega arith)
everywhere P all kind.TbsCertificate = all 12 kind.TbsCertificate (omega arith)

pub each : (P : Kind → Type 0) → P kind.Certificate → P kind.Request → P kind.PrivateKey → P kind.PublicKey → P kind.RsaPrivateKey → P kind.RsaPublicKey → P kind.EcPrivateKey → P kind.Name → P kind.Extensions → P kind.Algorithm → P kind.RawAlgorithm → P kind.RequestInfo → P kind.TbsCertificate → (k : Kind) → P k
each P a b c d e f g h i j k l m kind.Certificate = a
each P a b c d e f g h i j k l m kind.Request = b
each P a b c d e f g h i j k l m kind.PrivateKey = c
each P a b c d e f g h i j k l m kind.PublicKey = d
each P a b c d e f g h i j k l m kind.RsaPrivateKey = e
each P a b c d e f g h i j k l m kind.RsaPublicKey = f
each P a b c d e f g h i j k l m kind.EcPrivateKey = g
each P a b c d e f g h i j k l m kind.Name = h
each P a b c d e f g h i j k l m kind.Extensions = i
each P a b c d e f g h i j k l m kind.Algorithm = j
each P a b c d e f g h i j k l m kind.RawAlgorithm = k
each P a b c d e f g h i j k l m kind.RequestInfo = l
each P a b c d e f g h i j k l m kind.TbsCertificate = m

pub all_taken : (P : Kind → Type 0) (xs : List Kind) (i : ℕ) → length xs ≤ i → All P (take i xs) → All P xs
all_taken P xs i ends all = subst (λ ys. All P ys) (take_all i xs ends) all
