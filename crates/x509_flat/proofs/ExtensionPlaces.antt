-- The places of a list's extensions, as far as they are told.
use Rattle.std.proofs.Common.{◌≡◌, ℕ, zero, suc, ◌+◌, ◌<◌, ◌≤◌, ◌^◌, Option, Some, None, List, [], ◌∷◌, ◌++◌, length, set, drop, get_or, refl, sym, ap, ◌∙◌, arith, subst, length-append, append-nil, append_assoc}
use Rattle.std.proofs.lemmas.List.{drop_more}
use Rattle.std.specs.Borrow.{Bor}
use Rattle.std.specs.Prelude.{IsSomeAnd, unwrap_or}
use Rattle.x509_der.specs.Boolean.{booleans}
use Rattle.x509_der.specs.Items.{ItemsAt}
use Rattle.x509_der.specs.ObjectIdentifier.{oids}
use Rattle.x509_der.specs.Reading.{NoFirst}
use Rattle.x509_der.specs.Shape.{Shape, IsElement}
use Rattle.x509_der.specs.Tagged.{tagged}
use Rattle.x509_der.specs.Tally.{Tally}
use Rattle.picky_asn1_x509.specs.Extensions.{ExtensionFields, extension, by_kind, kind_of}
use Rattle.x509_fields.specs.Extensions.{ExtensionIn}
use Rattle.x509_fields.specs.Slices.{SliceAt}
use Rattle.x509_fields.specs.Spans.{FieldIn, OptionalIn}
use Rattle.x509_fields.specs.Walks.{Walk, Steps, BeginWith, Counts}
use Rattle.x509_fields.specs.declared.extension.ExtensionFields.{ExtensionFields as Places}
use Rattle.x509_fields.specs.declared.span.Span.{Span}
use Rattle.x509_fields.specs.facts.ExtensionLists.{moved_items}
use Rattle.x509_fields.specs.facts.Fields.{field_step}
use Rattle.x509_fields.specs.facts.Slices.{same_slice}
use Rattle.x509_fields.specs.facts.Steps.{nothing_first}
use Rattle.x509_flat.specs.Extensions.{EachStands, ExtensionStands, Front, span_behind, span_behind_if}
use Rattle.x509_flat.specs.Spans.{flat_span}
use Rattle.x509_flat.specs.declared.extensions.FlatExtension.{FlatExtension}
use Rattle.x509_flat.specs.declared.span.FlatSpan.{FlatSpan}

-- a walk stands in front of what is left of a list, and the places of what is behind it are written
pub record Told {A : Type 0} (all more : List (ExtensionFields A)) (first : ℕ) (items : Walk) (old new : List FlatExtension) (count : ℕ) (string : List ℕ) (whole : Tally) : Type 0 where
  pub places : List FlatExtension
  pub size : length places ≡ count
  pub written : new ≡ places ++ drop count old
  pub later : ItemsAt extension string whole more items.at items.rest
  pub each : (rest : List FlatExtension) → EachStands more rest items.at string whole → EachStands all (places ++ rest) first string whole

pub none_told : {A : Type 0} (all : List (ExtensionFields A)) (items : Walk) (old : List FlatExtension) (string : List ℕ) (whole : Tally) → ItemsAt extension string whole all items.at items.rest → Told all all items.at items old old 0 string whole
none_told all items old string whole later = record { places = []; size = refl; written = refl; later = later; each = λ rest e. e }

set_over : (front rest : List FlatExtension) (x : FlatExtension) (n : ℕ) → length front ≡ n → set (front ++ rest) n x ≡ front ++ set rest 0 x
set_over [] rest x n e = ap (λ k. set rest k x) (sym e)
set_over (f ∷ front) rest x zero e = absurd (omega (arith, e))
set_over (f ∷ front) rest x (suc n) e = ap (λ l. f ∷ l) (set_over front rest x n (omega (arith, e)))

set_behind : (front old : List FlatExtension) (x : FlatExtension) (n : ℕ) → length front ≡ n → n < length old → set (front ++ drop n old) n x ≡ (front ++ x ∷ []) ++ drop (n + 1) old
set_behind front old x n size fits =
    set_over front (drop n old) x n size
    ∙ ap (λ l. front ++ set l 0 x) (drop_more old n x fits)
    ∙ sym (append_assoc front (x ∷ []) (drop (n + 1) old))

pub one_more : {A : Type 0} → IsElement (extension {A = A}) → (all more : List (ExtensionFields A)) (v : ExtensionFields A) (first n : ℕ) (items next : Walk) (span : Span) (at : FlatExtension) (old new : List FlatExtension) (string : List ℕ) (whole : Tally) → Told all (v ∷ more) first items old new n string whole → n < length old → Steps items next span → at.whole ≡ flat_span span → (FieldIn extension v span string whole → ExtensionStands v at string whole) → Told all more first next old (set new n at) (n + 1) string whole
one_more {A} el all more v first n items next span at old new string whole t fits step place stands =
    let b = t.later in
    let k = field_step extension el v items.at b.front b.back string whole items next span b.first.field (record { rest = b.bytes; at = refl }) step in
    let start : at.whole.start ≡ items.at = cc in
    let end : at.whole.end ≡ next.at = cc in
    let E : ℕ → List FlatExtension → Type 0 = λ m rest. EachStands more rest m string whole in
    let F : List FlatExtension → Type 0 = λ x. EachStands all x first string whole in
    record {
      places = t.places ++ at ∷ [];
      size = omega (arith, t.size, length-append t.places (at ∷ []));
      written = ap (λ x. set x n at) t.written ∙ set_behind t.places old at n t.size fits;
      later = moved_items extension more (items.at + length b.front) next.at b.back next.rest string whole b.second k.behind.at k.behind.rest;
      each = λ rest e. subst F (sym (append_assoc t.places (at ∷ []) rest)) (t.each (at ∷ rest) (start, (stands k.field, subst (λ m. E m rest) (sym end) e)));
    }

pub all_told : {A : Type 0} (all : List (ExtensionFields A)) (first n : ℕ) (items : Walk) (old new : List FlatExtension) (string : List ℕ) (whole : Tally) → Told all [] first items old new n string whole → Front all first string whole old new n
all_told all first n items old new string whole t =
    let F : List FlatExtension → Type 0 = λ x. EachStands all x first string whole in
    record {
      places = t.places;
      stand = subst F (append-nil t.places) (t.each [] tt);
      filled = record { told = sym t.size; filled = t.written ∙ ap (λ m. t.places ++ drop m old) (sym t.size) };
    }

-- a span's slice is the one in which the field stands
pub lent : {V : Type 0} (s : Shape V) (v : V) (span : Span) (string : List ℕ) (y : Tally) (r : Option (Bor (List ℕ))) (f : FieldIn s v span string y) → SliceAt string span.start span.end r → IsSomeAnd r (λ b. b.now ≡ f.slice)
lent s v span string y (Some b) f k =
    let p = f.at.part in
    same_slice string b.now f.slice span.start span.end k (record { before = p.before; after = p.after; bytes = p.bytes; from = p.at; to = omega (arith, f.end, p.at) })
lent s v span string y None f k =
    let p = f.at.part in
    absurd (k (omega (arith, f.end)) (omega (arith, f.end, p.at, ap length p.bytes, length-append p.before (f.slice ++ p.after), length-append f.slice p.after)))

-- a field of it ends before it does
ends_within : {V : Type 0} (s : Shape V) (v : V) (span : Span) (slice : List ℕ) (y : Tally) → FieldIn s v span slice y → span.end ≤ length slice
ends_within s v span slice y f =
    let p = f.at.part in
    omega (arith, f.end, p.at, ap length p.bytes, length-append p.before (f.slice ++ p.after), length-append f.slice p.after)

starts_within : {V : Type 0} (s : Shape V) (v : V) (span : Span) (slice : List ℕ) (y : Tally) → FieldIn s v span slice y → span.start ≤ length slice
starts_within s v span slice y f = omega (arith, ends_within s v span slice y f, f.end)

-- so that it stands behind more bytes without a wrap
pub record Behind (n : ℕ) (span : Span) (flat : FlatSpan) : Type 0 where
  pub start : n + span.start < 2 ^ 64 → flat.start ≡ n + span.start
  pub end : n + span.end < 2 ^ 64 → flat.end ≡ n + span.end

abbrev flat_of : ℕ → ℕ → FlatSpan
flat_of start end = record { start = start; end = end }

same_span : (a b m n : ℕ) → a ≡ m → b ≡ n → flat_of a b ≡ flat_of m n
same_span a b m n start end = ap (λ x. flat_of x b) start ∙ ap (λ x. flat_of m x) end

behind_is : {V : Type 0} (s : Shape V) (v : V) (n : ℕ) (span : Span) (slice : List ℕ) (y : Tally) (flat : FlatSpan) → FieldIn s v span slice y → n + length slice < 2 ^ 64 → Behind n span flat → flat ≡ span_behind n span
behind_is s v n span slice y flat f fits b =
    same_span flat.start flat.end (n + span.start) (n + span.end) (b.start (omega (arith, starts_within s v span slice y f, fits))) (b.end (omega (arith, ends_within s v span slice y f, fits)))

-- the same of a field that may be absent
abbrev pub BehindIf : ℕ → Option Span → FlatSpan → Type 0
BehindIf n (Some span) flat = Behind n span flat
BehindIf n None flat = flat ≡ record { start = 0; end = 0 }

pub behind_some : (n : ℕ) (at : Option Span) (span : Span) (flat told : FlatSpan) → at ≡ Some span → flat ≡ told → Behind n span told → BehindIf n at flat
behind_some n at span flat told is same b =
    let P : Option Span → Type 0 = λ o. BehindIf n o flat in
    let Q : FlatSpan → Type 0 = λ f. Behind n span f in
    subst P (sym is) (subst Q (sym same) b)

pub behind_none : (n : ℕ) (at : Option Span) (flat : FlatSpan) → at ≡ None → flat ≡ flat_of 0 0 → BehindIf n at flat
behind_none n at flat is same = let P : Option Span → Type 0 = λ o. BehindIf n o flat in subst P (sym is) same

behind_if_is : {V : Type 0} (s : Shape V) (v : Option V) (n : ℕ) (span : Option Span) (slice : List ℕ) (y : Tally) (flat : FlatSpan) → OptionalIn s v span slice y → n + length slice < 2 ^ 64 → BehindIf n span flat → flat ≡ span_behind_if n span
behind_if_is s (Some v) n (Some span) slice y flat f fits b = behind_is s v n span slice y flat f fits b
behind_if_is s None n None slice y flat f fits b = b
behind_if_is s (Some v) n None slice y flat f fits b = absurd f
behind_if_is s None n (Some span) slice y flat f fits b = absurd f

pub placed_stands : {A : Type 0} (v : ExtensionFields A) (span : Span) (string : List ℕ) (whole : Tally) (at : FlatExtension) (fields : Places) (f : FieldIn extension v span string whole) → ExtensionIn v fields f.slice f.at.tally → length string < 2 ^ 64 → at.whole ≡ flat_span span → Behind span.start fields.extn_id at.extn_id → BehindIf span.start fields.critical at.critical → Behind span.start fields.extn_value at.extn_value → ExtensionStands v at string whole
placed_stands v span string whole at fields f inner small place id critical value =
    let p = f.at.part in
    let fits : span.start + length f.slice < 2 ^ 64 = omega (arith, small, p.at, ap length p.bytes, length-append p.before (f.slice ++ p.after), length-append f.slice p.after) in
    record {
      span = span;
      here = f;
      place = place;
      fields = fields;
      within = inner;
      extn_id = behind_is (tagged 6 oids) v.extn_id span.start fields.extn_id f.slice f.at.tally at.extn_id inner.extn_id fits id;
      critical = behind_if_is (tagged 1 booleans) inner.critical span.start fields.critical f.slice f.at.tally at.critical inner.critical_at fits critical;
      extn_value = behind_is (by_kind (kind_of v.extn_id)) v.extn_value span.start fields.extn_value f.slice f.at.tally at.extn_value inner.extn_value fits value;
    }

-- where the fields are told of the slice that was lent, or of nothing
pub told_within : {A : Type 0} (v : ExtensionFields A) (span : Span) (string : List ℕ) (whole : Tally) (r : Option (Bor (List ℕ))) (empty got : Bor (List ℕ)) (fields : Places) (f : FieldIn extension v span string whole) → SliceAt string span.start span.end r → got ≡ unwrap_or r empty → ((y : Tally) → extension.spelled v got.now y → ExtensionIn v fields got.now y) → ExtensionIn v fields f.slice f.at.tally
told_within v span string whole (Some b) empty got fields f k is told =
    let same : got.now ≡ f.slice = ap (λ (x : Bor (List ℕ)). x.now) is ∙ lent extension v span string whole (Some b) f k in
    let P : List ℕ → Type 0 = λ x. extension.spelled v x f.at.tally in
    let Q : List ℕ → Type 0 = λ x. ExtensionIn v fields x f.at.tally in
    subst Q same (told f.at.tally (subst P (sym same) f.at.spelled))
told_within v span string whole None empty got fields f k is told = absurd (lent extension v span string whole None f k)

-- an item of a list, and those behind it
pub item_at : {A : Type 0} (list : List A) (n : ℕ) → n < length list → (v : A) × (drop n list ≡ v ∷ drop (n + 1) list)
item_at [] n h = absurd (omega (arith, h))
item_at (x ∷ xs) n h = (get_or (x ∷ xs) n x, drop_more (x ∷ xs) n x h)

-- the items are as many elements
pub items_are : {V : Type 0} (s : Shape V) → IsElement s → (vs : List V) (n : ℕ) (slice string : List ℕ) (whole : Tally) → ItemsAt s string whole vs n slice → (parts : List (List ℕ)) × ((length parts ≡ length vs) × BeginWith parts slice)
items_are s el [] n slice string whole h = let P : List ℕ → Type 0 = NoFirst in ([], (refl, subst P (sym h) nothing_first))
items_are s el (v ∷ vs) n slice string whole h =
    let more = items_are s el vs (n + length h.front) h.back string whole h.second in
    (h.front ∷ more.0, (omega (arith, more.1.0), (el.one v h.front h.first.field.tally h.first.field.spelled, (h.back, (h.bytes, more.1.1)))))

pub counted : {A : Type 0} → IsElement (extension {A = A}) → (list : List (ExtensionFields A)) (at : ℕ) (slice string : List ℕ) (whole : Tally) (count : ℕ) → Counts slice count → ItemsAt extension string whole list at slice → length list ≡ count
counted el list at slice string whole count c h =
    let e = items_are extension el list at slice string whole h in
    sym e.1.0 ∙ sym (c e.0 e.1.1)
