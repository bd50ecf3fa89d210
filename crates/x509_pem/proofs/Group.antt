-- The tables, and the bytes of a group of four symbols.
use Rattle.std.proofs.Common.{◌≡◌, ℕ, ◌+◌, ◌*◌, ◌/◌, ◌%◌, ◌==◌, ◌<◌, Bool, true, false, if◌then◌else◌, List, [], ◌∷◌, slice_index, refl, subst, ap, ◌∙◌, arith, inl, inr}
use Rattle.std.proofs.lemmas.Bool.{eqb-true, ne_eqb}
use Rattle.base64.specs.Rfc4648.{encode_group}
use Rattle.base64.specs.Tables.{all_below, is_inverse}
use Rattle.base64.specs.Engines.{standard}
use Rattle.base64.specs.GeneralPurpose.{engine_symbols}
use Rattle.base64.proofs.Tables.{all_below_at, encode-decode_table}
use Rattle.x509_pem.specs.Group.{SymbolAdds, IsGroup, first_adds, second_adds, third_adds, fourth_adds}
use Rattle.x509_pem.specs.declared.table.TheConstants.{PARTS}

-- the entry of a byte, by its value as a symbol
abbrev entry : (ℕ → ℕ) → ℕ → ℕ
entry adds value = if value == 255 then 16777216 else adds value

abbrev is_entry : ℕ → (ℕ → ℕ) → ℕ → Bool
is_entry start adds symbol = slice_index PARTS (start + symbol) == entry adds (slice_index standard.decode_table symbol)

first_is : all_below (is_entry 0 first_adds) 256 ≡ true
first_is = refl

second_is : all_below (is_entry 256 second_adds) 256 ≡ true
second_is = refl

third_is : all_below (is_entry 512 third_adds) 256 ≡ true
third_is = refl

fourth_is : all_below (is_entry 768 fourth_adds) 256 ≡ true
fourth_is = refl

standard_is : is_inverse (engine_symbols standard) standard.decode_table ≡ true
standard_is = refl

entry_adds : (start : ℕ) (adds : ℕ → ℕ) → all_below (is_entry start adds) 256 ≡ true → (symbol : ℕ) → symbol < 256
    → SymbolAdds adds symbol (slice_index PARTS (start + symbol))
entry_adds start adds all symbol byte =
    let value : ℕ = slice_index standard.decode_table symbol in
    let is : slice_index PARTS (start + symbol) ≡ entry adds value =
    eqb-true (slice_index PARTS (start + symbol)) (entry adds value) (all_below_at (is_entry start adds) 256 symbol all byte) in
    elim (encode-decode_table (engine_symbols standard) standard.decode_table standard_is symbol byte) [
      | inl bad ↦ inl (is ∙ ap (λ v. entry adds v) bad)
      | inr good ↦
          let other : (value == 255) ≡ false = ne_eqb value 255 (λ e. absurd (omega (arith, good.0, e))) in
          inr (value, good.0, good.1, is ∙ ap (λ b. if b then 16777216 else adds value) other)
    ]

pub first_entry : (symbol : ℕ) → symbol < 256 → SymbolAdds first_adds symbol (slice_index PARTS symbol)
first_entry symbol byte =
    let P : ℕ → Type 0 = λ i. SymbolAdds first_adds symbol (slice_index PARTS i) in
    let none : 0 + symbol ≡ symbol = omega arith in
    subst P none (entry_adds 0 first_adds first_is symbol byte)

pub second_entry : (symbol : ℕ) → symbol < 256 → SymbolAdds second_adds symbol (slice_index PARTS (256 + symbol))
second_entry symbol byte = entry_adds 256 second_adds second_is symbol byte

pub third_entry : (symbol : ℕ) → symbol < 256 → SymbolAdds third_adds symbol (slice_index PARTS (512 + symbol))
third_entry symbol byte = entry_adds 512 third_adds third_is symbol byte

pub fourth_entry : (symbol : ℕ) → symbol < 256 → SymbolAdds fourth_adds symbol (slice_index PARTS (768 + symbol))
fourth_entry symbol byte = entry_adds 768 fourth_adds fourth_is symbol byte

-- four values as the three bytes of their sum
sum_bytes : (t : List ℕ) (v0 v1 v2 v3 sum : ℕ) → v0 < 64 → v1 < 64 → v2 < 64 → v3 < 64
    → sum ≡ first_adds v0 + second_adds v1 + third_adds v2 + fourth_adds v3
    → encode_group t (sum % 256) (sum / 256 % 256) (sum / 65536)
    ≡ slice_index t v0 ∷ slice_index t v1 ∷ slice_index t v2 ∷ slice_index t v3 ∷ []
sum_bytes t v0 v1 v2 v3 sum l0 l1 l2 l3 is =
    let b0 : sum % 256 ≡ v0 * 4 + v1 / 16 = omega arith in
    let b1 : sum / 256 % 256 ≡ v1 % 16 * 16 + v2 / 4 = omega arith in
    let b2 : sum / 65536 ≡ v2 % 4 * 64 + v3 = omega arith in
    let e0 : (v0 * 4 + v1 / 16) / 4 ≡ v0 = omega arith in
    let e1 : (v0 * 4 + v1 / 16) % 4 * 16 + (v1 % 16 * 16 + v2 / 4) / 16 ≡ v1 = omega arith in
    let e2 : (v1 % 16 * 16 + v2 / 4) % 16 * 4 + (v2 % 4 * 64 + v3) / 64 ≡ v2 = omega arith in
    let e3 : (v2 % 4 * 64 + v3) % 64 ≡ v3 = omega arith in
    rw (b0, b1, b2) (rw (e0, e1, e2, e3) refl)

-- what a symbol adds, where the sum is below 2 ^ 24
known : (adds : ℕ → ℕ) (symbol sum : ℕ) → SymbolAdds adds symbol sum → sum < 16777216
    → (value : ℕ) × (value < 64) × (slice_index (engine_symbols standard) value ≡ symbol) × (sum ≡ adds value)
known adds symbol sum h below = elim h [
  | inl none ↦ absurd (omega arith)
  | inr some ↦ some
]

pub group_is : (first second third fourth s0 s1 s2 s3 : ℕ) → SymbolAdds first_adds first s0 → SymbolAdds second_adds second s1
    → SymbolAdds third_adds third s2 → SymbolAdds fourth_adds fourth s3 → IsGroup (s0 + s1 + s2 + s3) first second third fourth
group_is first second third fourth s0 s1 s2 s3 h0 h1 h2 h3 below =
    let k0 = known first_adds first s0 h0 (omega arith) in
    let k1 = known second_adds second s1 h1 (omega arith) in
    let k2 = known third_adds third s2 h2 (omega arith) in
    let k3 = known fourth_adds fourth s3 h3 (omega arith) in
    let t : List ℕ = engine_symbols standard in
    let is : s0 + s1 + s2 + s3 ≡ first_adds k0.0 + second_adds k1.0 + third_adds k2.0 + fourth_adds k3.0 =
    omega (arith, k0.3, k1.3, k2.3, k3.3) in
    sum_bytes t k0.0 k1.0 k2.0 k3.0 _ k0.1 k1.1 k2.1 k3.1 is
    ∙ same_four (slice_index t k0.0) (slice_index t k1.0) (slice_index t k2.0) (slice_index t k3.0) first second third fourth k0.2 k1.2 k2.2 k3.2
  where
    same_four : (a b c d x y z w : ℕ) → a ≡ x → b ≡ y → c ≡ z → d ≡ w → a ∷ b ∷ c ∷ d ∷ [] ≡ x ∷ y ∷ z ∷ w ∷ []
    same_four a b c d x y z w p q r s = rw (p, q, r, s) refl
