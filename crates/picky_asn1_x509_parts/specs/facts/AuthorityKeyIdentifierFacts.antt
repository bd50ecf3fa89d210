-- What a list of fields means keeps the laws.
use Rattle.std.proofs.Common.{◌≡◌, ℕ, suc, ◌+◌, ◌<◌, ◌≤◌, Bool, true, false, cond, List, [], ◌∷◌, ◌++◌, length, drop, get_or, Option, Some, None, refl, sym, ap, ◌∙◌, arith, append-nil, eqb, ◌||◌, ◌&&◌, nat_le}
use Rattle.std.proofs.lemmas.Bool.Decides.{nat_tests}
use Rattle.std.proofs.lemmas.Grind.{flat_map-append}
use Rattle.std.proofs.Math.Seq.{drop-cons}
use Rattle.std.specs.List.{flat_map, AllByRecursion}
use Rattle.x509_der.specs.Types.{Deviation}
use Rattle.x509_der.specs.Types.choice.{First, Second}
use Rattle.x509_der.specs.Types.deviation
use Rattle.x509_der.specs.Element.{element}
use Rattle.x509_der.specs.facts.Lists.{same_append}
use Rattle.x509_der.specs.Optional.{optional, optional_strict, IfThere}
use Rattle.x509_der.specs.laws.View.{some_one}
use Rattle.x509_der.specs.laws.Meaning.{IsMeaning}
use Rattle.x509_der.specs.Lasts.{last, ascends, ascends_from}
use Rattle.x509_der.specs.facts.Lasts.{later_none, last_push, kept_last}
use Rattle.x509_names.specs.declared.general_name.GeneralName.{GeneralName}
use Rattle.picky_asn1_x509_parts.specs.AuthorityKeyIdentifier.{KeyAuthority, Part, part, key_field, issuer_field, serial_field, authority_base, key_in, issuer_in, serial_in, number, order_kinds, authority_of, authority_means, there, back_of, authority_back, authority_meaning, authority_key_identifier, authority_bytes, with_part}

-- the fields are told apart by their tags
pub parts_apart : (c : ℕ) → eqb c 128 ≡ true → (eqb c 161 || eqb c 130) ≡ false
parts_apart c h = grind (arith, nat_tests)

pub issuer_apart : (c : ℕ) → eqb c 161 ≡ true → eqb c 130 ≡ false
issuer_apart c h = grind (arith, nat_tests)

-- fields that ascend are those that are written of what they mean
none_behind : {A : Type 0} (ps : List (Part A)) → ascends_from number 3 ps ≡ true → ps ≡ []
none_behind [] e = refl
none_behind (First k ∷ ps) e = cc
none_behind (Second (First n) ∷ ps) e = cc
none_behind (Second (Second s) ∷ ps) e = cc

serial_behind : {A : Type 0} (ps : List (Part A)) → ascends_from number 2 ps ≡ true → (ps ≡ back_of None None (last serial_in ps)) × (last key_in ps ≡ None) × (last issuer_in ps ≡ None)
serial_behind [] e = (refl, refl, refl)
serial_behind (First k ∷ ps) e = cc
serial_behind (Second (First n) ∷ ps) e = cc
serial_behind (Second (Second s) ∷ ps) e = rw (none_behind ps e) (refl, refl, refl)

issuer_behind : {A : Type 0} (ps : List (Part A)) → ascends_from number 1 ps ≡ true → (ps ≡ back_of None (last issuer_in ps) (last serial_in ps)) × (last key_in ps ≡ None)
issuer_behind [] e = (refl, refl)
issuer_behind (First k ∷ ps) e = cc
issuer_behind (Second (First n) ∷ ps) e =
    let h = serial_behind ps e in
    rw (h.1, h.2, later_none (last serial_in ps)) (ap (λ r. Second (First n) ∷ r) h.0, refl)
issuer_behind (Second (Second s) ∷ ps) e = rw (none_behind ps e) (refl, refl)

clean_parts : {A : Type 0} (ps : List (Part A)) → ascends number ps ≡ true → ps ≡ back_of (last key_in ps) (last issuer_in ps) (last serial_in ps)
clean_parts [] e = refl
clean_parts (First k ∷ ps) e =
    let h = issuer_behind ps e in
    rw (h.1, later_none (last issuer_in ps), later_none (last serial_in ps)) (ap (λ r. First k ∷ r) h.0)
clean_parts (Second (First n) ∷ ps) e =
    let h = serial_behind ps e in
    rw (h.1, h.2, later_none (last serial_in ps)) (ap (λ r. Second (First n) ∷ r) h.0)
clean_parts (Second (Second s) ∷ ps) e = rw (none_behind ps e) refl

-- whether the fields from a place on ascend, where the one at the place is known
module _ {A : Type 0} (ps : List (Part A)) (least i : ℕ) (p : Part A) (l : i < length ps) (e : p ≡ get_or ps i p) where
  here_first : drop i ps ≡ p ∷ drop (i + 1) ps
  here_first =
      let q : suc i ≡ i + 1 = omega arith in
      drop-cons ps i p l ∙ ap (λ r. r ∷ drop (suc i) ps) (sym e) ∙ ap (λ k. p ∷ drop k ps) q

  pub ascends_stops : number p < least → ascends_from number least (drop i ps) ≡ false
  ascends_stops h =
      let t : nat_le least (number p) ≡ false = grind (arith, nat_tests) in
      ap (ascends_from number least) here_first ∙ ap (λ b. b && ascends_from number (number p + 1) (drop (i + 1) ps)) t

  pub ascends_goes : least ≤ number p → ascends_from number least (drop i ps) ≡ ascends_from number (number p + 1) (drop (i + 1) ps)
  ascends_goes h =
      let t : nat_le least (number p) ≡ true = grind (arith, nat_tests) in
      ap (ascends_from number least) here_first ∙ ap (λ b. b && ascends_from number (number p + 1) (drop (i + 1) ps)) t

-- the fields that are written mean the value, with no deviation
means_back : {A : Type 0} (k : Option (List ℕ)) (n : Option (GeneralName A)) (s : Option (List ℕ)) → authority_means (back_of k n s) ≡ Some (record { key_identifier = k; issuer = n; serial_number = s }, [])
means_back None None None = refl
means_back None None (Some s) = refl
means_back None (Some n) None = refl
means_back None (Some n) (Some s) = refl
means_back (Some k) None None = refl
means_back (Some k) None (Some s) = refl
means_back (Some k) (Some n) None = refl
means_back (Some k) (Some n) (Some s) = refl

valid_back : {A : Type 0} (k : Option (List ℕ)) (n : Option (GeneralName A)) (s : Option (List ℕ)) → (optional key_field).valid k → (optional issuer_field).valid n → (optional serial_field).valid s → AllByRecursion part.valid (back_of k n s)
valid_back None None None c d e = tt
valid_back None None (Some s) c d e = (e, tt)
valid_back None (Some n) None c d e = (d, tt)
valid_back None (Some n) (Some s) c d e = (d, (e, tt))
valid_back (Some k) None None c d e = (c, tt)
valid_back (Some k) None (Some s) c d e = (c, (e, tt))
valid_back (Some k) (Some n) None c d e = (c, (d, tt))
valid_back (Some k) (Some n) (Some s) c d e = (c, (d, (e, tt)))

readable_back : {A : Type 0} (k : Option (List ℕ)) (n : Option (GeneralName A)) (s : Option (List ℕ)) → (optional issuer_field).readable n → AllByRecursion part.readable (back_of k n s)
readable_back None None None r = tt
readable_back None None (Some s) r = (tt, tt)
readable_back None (Some n) None r = (r, tt)
readable_back None (Some n) (Some s) r = (r, (tt, tt))
readable_back (Some k) None None r = (tt, tt)
readable_back (Some k) None (Some s) r = (tt, (tt, tt))
readable_back (Some k) (Some n) None r = (tt, (r, tt))
readable_back (Some k) (Some n) (Some s) r = (tt, (r, (tt, tt)))

-- what a field has is a value of its type
valid_key : {A : Type 0} (p : Part A) → part.valid p → IfThere key_field.valid (key_in p)
valid_key (First k) d = d
valid_key (Second (First n)) d = tt
valid_key (Second (Second s)) d = tt

valid_issuer : {A : Type 0} (p : Part A) → part.valid p → IfThere issuer_field.valid (issuer_in p)
valid_issuer (First k) d = tt
valid_issuer (Second (First n)) d = d
valid_issuer (Second (Second s)) d = tt

valid_serial : {A : Type 0} (p : Part A) → part.valid p → IfThere serial_field.valid (serial_in p)
valid_serial (First k) d = tt
valid_serial (Second (First n)) d = tt
valid_serial (Second (Second s)) d = d

readable_issuer : {A : Type 0} (p : Part A) → part.readable p → IfThere issuer_field.readable (issuer_in p)
readable_issuer (First k) r = tt
readable_issuer (Second (First n)) r = r
readable_issuer (Second (Second s)) r = tt

-- one deviation at most, and none where the fields ascend
few_kinds : (t : Bool) → length (cond t [] (deviation.AuthorityKeyFieldOrder ∷ [])) ≤ 1
few_kinds true = omega arith
few_kinds false = omega arith

no_kinds : (t : Bool) → cond t [] (deviation.AuthorityKeyFieldOrder ∷ []) ≡ [] → t ≡ true
no_kinds true e = refl
no_kinds false e = cc

pub means_one : {A : Type 0} (ps : List (Part A)) (v : KeyAuthority A) (ks : List Deviation) → authority_means ps ≡ Some (v, ks) → (authority_of ps ≡ v) × (order_kinds ps ≡ ks)
means_one ps v ks e = some_one (authority_of ps) v (order_kinds ps) ks e

kept_authority : {A : Type 0} (ps : List (Part A)) → AllByRecursion part.valid ps → authority_meaning.valid (authority_of ps)
kept_authority ps d = (kept_last part.valid key_field.valid key_in valid_key ps d, (kept_last part.valid issuer_field.valid issuer_in valid_issuer ps d, kept_last part.valid serial_field.valid serial_in valid_serial ps d))

pub authority_is : {A : Type 0} → IsMeaning (authority_meaning {A = A}) authority_base
authority_is {A} = record {
  written = λ v d r. (means_back v.key_identifier v.issuer v.serial_number, valid_back v.key_identifier v.issuer v.serial_number d.0 d.1.0 d.1.1, readable_back v.key_identifier v.issuer v.serial_number r);
  stays = λ v d. valid_back v.key_identifier v.issuer v.serial_number d.0 d.1.0 d.1.1;
  clean = λ b v e d r. let m = means_one b v [] e in clean_parts b (no_kinds (ascends number b) m.1) ∙ ap (λ (x : KeyAuthority A). authority_back x) m.0;
  kept = λ b v ks e d. rw (← (means_one {A = A} b v ks e).0) (kept_authority b d);
  read = λ b v ks e r. rw (← (means_one {A = A} b v ks e).0) (kept_last part.readable issuer_field.readable issuer_in readable_issuer b r);
}

pub one_kind : {A : Type 0} (b : List (Part A)) (v : KeyAuthority A) (ks : List Deviation) → authority_means b ≡ Some (v, ks) → length ks ≤ 1
one_kind b v ks e = omega (arith, few_kinds (ascends number b), ap length (means_one b v ks e).1)

-- the strict spelling of the fields that are there, one by one
strict_there : {A V : Type 0} (make : V → Part A) (o : Option V) → flat_map part.strict (there make o) ≡ optional_strict (λ v. part.strict (make v)) o
strict_there make None = refl
strict_there make (Some v) = append-nil (part.strict (make v))

strict_back : {A : Type 0} (k : Option (List ℕ)) (n : Option (GeneralName A)) (s : Option (List ℕ)) → flat_map part.strict (back_of k n s) ≡ optional_strict key_field.strict k ++ (optional_strict issuer_field.strict n ++ optional_strict serial_field.strict s)
strict_back {A} k n s =
    flat_map-append (part {A = A}).strict (there (λ v. First v) k) (there (λ v. Second (First v)) n ++ there (λ v. Second (Second v)) s)
    ∙ same_append (strict_there {A = A} (λ v. First v) k) (flat_map-append (part {A = A}).strict (there (λ v. Second (First v)) n) (there (λ v. Second (Second v)) s) ∙ same_append (strict_there {A = A} (λ v. Second (First v)) n) (strict_there {A = A} (λ v. Second (Second v)) s))

pub authority_agrees : {A : Type 0} (v : KeyAuthority A) → authority_key_identifier.strict v ≡ authority_bytes v
authority_agrees v = ap (element 48) (strict_back v.key_identifier v.issuer v.serial_number)

-- one field more behind others
pub authority_push : {A : Type 0} (ps : List (Part A)) (p : Part A) → authority_of (ps ++ p ∷ []) ≡ with_part (authority_of ps) p
authority_push ps p = rw (last_push key_in ps p, last_push issuer_in ps p, last_push serial_in ps p) refl
