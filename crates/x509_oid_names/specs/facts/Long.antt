-- What has no name by the number of its arcs.
use Rattle.std.proofs.Common.{◌≡◌, ℕ, ◌≤◌, nat_eq, nat_lt, Bool, true, false, ◌&&◌, cond, List, [], ◌∷◌, ◌++◌, Option, None, refl, sym, ap, ◌∙◌, arith, length}
use Rattle.std.proofs.lemmas.Bool.{and_parts, ltb-true}
use Rattle.std.proofs.lemmas.List.{length_push}
use Rattle.std.specs.Option.{option_or}
use Rattle.std.specs.Cmp.Lexicographic.{pointwise, same_text}
use Rattle.x509_oid_names.specs.Names.{IsNameOf, Names, Table, itu_table, members_table, name_among, name_beside, name_by, organizations_table}

-- whether all arcs before the last are fewer than so many
abbrev fewer_than : ℕ → Table → Bool
fewer_than n [] = true
fewer_than n (l ∷ ls) = nat_lt (length l.0) n && fewer_than n ls

other_front : (n : ℕ) (front own : List ℕ) (last : ℕ) (names : Names) → nat_lt (length own) n ≡ true → n ≤ length front →
    (same : Bool) → same ≡ pointwise nat_eq own front → cond same (name_beside last names) None ≡ None
other_front n front own last names few many false e = refl
other_front n front own last names few many true e = absurd (omega (arith, ltb-true (length own) n few, many, ap length (same_text own front e)))

none_among : (n : ℕ) (front : List ℕ) (last : ℕ) → n ≤ length front → (table : Table) → fewer_than n table ≡ true → name_among front last table ≡ None
none_among n front last many [] few = refl
none_among n front last many (l ∷ ls) few =
    let parts = and_parts (nat_lt (length l.0) n) (fewer_than n ls) few in
    ap (λ x. option_or x (name_among front last ls)) (other_front n front l.0 last l.1 parts.0 many (pointwise nat_eq l.0 front) refl)
    ∙ none_among n front last many ls parts.1

-- with sixteen arcs before the last
none_by : (front : List ℕ) (last : ℕ) → 16 ≤ length front → name_by front last ≡ None
none_by front last many =
    ap (λ x. option_or x (option_or (name_among front last organizations_table) (name_among front last members_table))) (none_among 16 front last many itu_table refl)
    ∙ ap (λ x. option_or x (name_among front last members_table)) (none_among 16 front last many organizations_table refl)
    ∙ none_among 16 front last many members_table refl

-- no identifier of more than 16 arcs has a name
pub long_unnamed : (arcs : List ℕ) → 17 ≤ length arcs → IsNameOf arcs None
long_unnamed arcs many = record {
  without = λ none. refl;
  by = λ front last parts. sym (none_by front last (omega (arith, many, ap length parts, length_push front last)));
}

-- the name is one
pub one_name : (arcs front : List ℕ) (last : ℕ) (x y : Option (List ℕ)) → arcs ≡ front ++ (last ∷ []) → IsNameOf arcs x → IsNameOf arcs y → x ≡ y
one_name arcs front last x y parts p q = p.by front last parts ∙ sym (q.by front last parts)
