-- The third field of what is signed, and no other.
use Rattle.std.proofs.Common.{◌≡◌, ◌==◌, ℕ, true, false, true≢false, List, [], ◌∷◌, ◌++◌, length, ⊎_elim, refl, sym, ap, ◌∙◌, arith, append-nil, Option, Some, None}
use Rattle.std.specs.Prelude.{IfNone}
use Rattle.x509_der.specs.Element.{element}
use Rattle.x509_der.specs.facts.Element.{SameElement, element_one}
use Rattle.x509_signing.specs.Elements.{Splits}
use Rattle.x509_signing.specs.SignatureFields.{IsSignatureField, IsVersionField}

pub if_none : {T : Type 0} {P : Type 0} (r : Option T) → P → IfNone r P
if_none None p = p
if_none (Some v) p = tt

split_whole : (tag : ℕ) (bytes whole content rest : List ℕ) → Splits tag bytes whole content rest → bytes ≡ element tag content ++ rest
split_whole tag bytes whole content rest s = s.split ∙ ap (λ x. x ++ rest) s.is

-- what stands behind the version
pub past_version : (fields whole content rest version next : List ℕ) (serial : List ℕ) → Splits 160 fields whole content rest → IsVersionField version → fields ≡ version ++ (element 2 serial ++ next) → rest ≡ element 2 serial ++ next
past_version fields whole content rest version next serial s v e =
    let f = split_whole 160 fields whole content rest s in
    ⊎_elim
    (λ none. let g : fields ≡ element 2 serial ++ next = e ∙ ap (λ x. x ++ (element 2 serial ++ next)) none in absurd (omega (arith, (element_one 160 2 content serial rest next (sym f ∙ g)).tag)))
    (λ some. let g : fields ≡ element 160 some.0 ++ (element 2 serial ++ next) = e ∙ ap (λ x. x ++ (element 2 serial ++ next)) some.1 in (element_one 160 160 content some.0 rest (element 2 serial ++ next) (sym f ∙ g)).rest)
    v

-- the part isn't a SEQUENCE
pub no_sequence : (part : List ℕ) → ((c q : List ℕ) → part ≡ element 48 c ++ q → ⊥) → (slice : List ℕ) → IsSignatureField part slice → ⊥
no_sequence part n slice f =
    let x = f.version ++ (element 2 f.serial ++ (slice ++ f.behind)) in
    n x [] (f.bytes ∙ sym (append-nil (element 48 x)))

inside : (part whole fields after slice : List ℕ) → Splits 48 part whole fields after → (f : IsSignatureField part slice) → SameElement 48 48 fields (f.version ++ (element 2 f.serial ++ (slice ++ f.behind))) after []
inside part whole fields after slice s f =
    let x = f.version ++ (element 2 f.serial ++ (slice ++ f.behind)) in
    element_one 48 48 fields x after [] (sym (split_whole 48 part whole fields after s) ∙ f.bytes ∙ sym (append-nil (element 48 x)))

-- more stands behind it
pub left_over : (part whole fields after : List ℕ) → Splits 48 part whole fields after → (length after == 0) ≡ false → (slice : List ℕ) → IsSignatureField part slice → ⊥
left_over part whole fields after s n slice f = true≢false (sym (ap (λ (x : List ℕ). length x == 0) (inside part whole fields after slice s f).rest) ∙ n)

-- no serial number stands there
abbrev pub Skips : (fields required : List ℕ) → Type 0
Skips fields required = (version serial rest : List ℕ) → IsVersionField version → fields ≡ version ++ (element 2 serial ++ rest) → required ≡ element 2 serial ++ rest

pub no_serial : (part whole fields after required : List ℕ) → Splits 48 part whole fields after → Skips fields required → ((c q : List ℕ) → required ≡ element 2 c ++ q → ⊥) → (slice : List ℕ) → IsSignatureField part slice → ⊥
no_serial part whole fields after required s one n slice f = n f.serial (slice ++ f.behind) (one f.version f.serial (slice ++ f.behind) f.optional (inside part whole fields after slice s f).content)

-- no algorithm stands behind it
pub no_algorithm : (part whole fields after required number serial behind : List ℕ) → Splits 48 part whole fields after → Skips fields required → Splits 2 required number serial behind → ((c q : List ℕ) → behind ≡ element 48 c ++ q → ⊥) → (slice : List ℕ) → IsSignatureField part slice → ⊥
no_algorithm part whole fields after required number serial behind s one t n slice f =
    let e = one f.version f.serial (slice ++ f.behind) f.optional (inside part whole fields after slice s f).content in
    let k = element_one 2 2 serial f.serial behind (slice ++ f.behind) (sym (split_whole 2 required number serial behind t) ∙ e) in
    n f.content f.behind (k.rest ∙ ap (λ x. x ++ f.behind) f.is)
