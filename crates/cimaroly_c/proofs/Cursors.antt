-- Where a text is read on, by two numbers.
use Rattle.std.specs.Prelude.{◌≡◌, ℕ, List, Bool, ◌⊎◌}
use Rattle.std.proofs.Common.{◌∙◌, ap, inl, subst, sym}
use Rattle.x509_pem.specs.InText.{BlockAt, IsRead, returned_at}
use Rattle.x509_pem.specs.declared.cursor.Cursor.{Cursor}
use Rattle.x509_pem.specs.declared.in_text.TextBlock.{TextBlock}
use Rattle.cimaroly_c.specs.Pem.{BlockTold, cursor_at, fault_number, flat_block}
use Rattle.cimaroly_c.specs.declared.pem.FlatBlock.{FlatBlock}

abbrev place : ℕ → ℕ → Bool → Cursor
place at line returned = record { at = at; line = line; returned = returned }

same_place : (text : List ℕ) (at line : ℕ) (c : Cursor) → c.at ≡ at → c.line ≡ line → c.returned ≡ returned_at text at
    → c ≡ cursor_at text at line
same_place text at line c a l r =
    ap (λ n. place n c.line c.returned) a ∙ ap (λ n. place at n c.returned) l ∙ ap (λ b. place at line b) r

pub block_told : (text : List ℕ) (at line answer : ℕ) (told : FlatBlock) (c : Cursor) (b : TextBlock) → c.at ≡ at → c.line ≡ line
    → c.returned ≡ returned_at text at → BlockAt text c b → IsRead text c b → answer ≡ fault_number b.fault → told ≡ flat_block text b
    → BlockTold text at line answer told
block_told text at line answer told c b a l r found read number flat =
    let e = same_place text at line c a l r in
    let P : Cursor → Type 0 = λ x. BlockAt text x b in
    let Q : Cursor → Type 0 = λ x. IsRead text x b in
    inl (b, subst P e found, subst Q e read, number, flat)
