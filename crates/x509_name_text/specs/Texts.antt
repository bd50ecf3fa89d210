-- What is told of the text of a name.
use Rattle.std.specs.Fmt.{digit_glyph}
use Rattle.std.specs.Prelude.{◌≡◌, ℕ, ◌+◌, ◌*◌, ◌/◌, ◌%◌, ◌^◌, ◌-◌, ◌≤◌, ◌<◌, min, Bool, true, false, ◌&&◌, ◌||◌, ◌==◌, if◌then◌else◌, List, [], ◌∷◌, ◌++◌, drop, length, map, reverse, flat_map, Option, Some, None, Result, Ok, Err, ◌⊎◌, codes, bytes_eq, chars, IsTrue, ◌↔◌, encode_utf8}
use Rattle.std.specs.Char.Utf16.{utf16_lossy_chars}
use Rattle.std.specs.Str.{is_utf8}
use Rattle.x509_der.specs.Element.{element, is_tag}
use Rattle.x509_der.specs.ObjectIdentifier.{IsOid}
use Rattle.x509_oid_text.specs.Texts.{OfText}
use Rattle.x509_report_parts.specs.Seen.{IsShown}
use Rattle.x509_name_text.specs.declared.value.Before.{Before}
use Rattle.x509_name_text.specs.declared.value.Before.TheVariants.{Nothing, Symbol, Space}
use Rattle.x509_name_text.specs.declared.value.Progress.{Progress}

-- some text stands in front of what the buffer had behind it; or it has more bytes than the buffer, which is as it was
abbrev pub SomeText : List ℕ → List ℕ → Result ℕ ℕ → Type 0
SomeText old new (Ok size) = (text : List ℕ) × (size ≡ length text) × (size ≤ length old) × (new ≡ text ++ drop size old)
SomeText old new (Err size) = (new ≡ old) × (length old < size)

-- a text is written from a place on: it ends so many bytes behind it, as far as numbers go, and where the buffer has room for all of it it stands there, behind what was done before and in the place of what was there
pub record Writes (text : List ℕ) (at : ℕ) (old : List ℕ) (end : ℕ) (new : List ℕ) : Type 0 where
  pub ends : end ≡ min (2 ^ 64 - 1) (at + length text)
  pub same : length new ≡ length old
  pub fits : (done base : List ℕ) → at ≡ length done → old ≡ done ++ drop at base → at + length text < 2 ^ 64 → at + length text ≤ length old → new ≡ (done ++ text) ++ drop (at + length text) base

-- two hexadecimal digits for each byte
unfoldable pub hex_text : Bool → List ℕ → List ℕ
hex_text upper bytes = flat_map (λ b. digit_glyph upper (b / 16) ∷ digit_glyph upper (b % 16) ∷ []) bytes

-- a test for which characters are shown as they are
abbrev pub TellsShown : (ℕ → Bool) → Type 0
TellsShown shown = (c : ℕ) → IsTrue (shown c) ↔ IsShown c

-- what is escaped wherever it stands (RFC 4514, 2.4): " + , ; < > \
unfoldable pub is_special : ℕ → Bool
is_special c = c == 34 || (c == 43 || (c == 44 || (c == 59 || (c == 60 || (c == 62 || c == 92)))))

-- bytes, each in hexadecimal behind a backslash
unfoldable pub pairs_text : List ℕ → List ℕ
pairs_text bytes = flat_map (λ b. 92 ∷ hex_text true (b ∷ [])) bytes

-- a character by the bytes of its UTF-8 (RFC 4514, 2.4)
unfoldable pub hidden_text : ℕ → List ℕ
hidden_text c = pairs_text (encode_utf8 c)

-- a character, behind a backslash where it is special, or where it stands at an edge
unfoldable pub symbol_text : (ℕ → Bool) → Bool → ℕ → List ℕ
symbol_text shown edge c = if shown c then (if edge || is_special c then 92 ∷ encode_utf8 c else encode_utf8 c) else hidden_text c

-- whether nothing follows
abbrev pub is_last : List ℕ → Bool
is_last [] = true
is_last (c ∷ cs) = false

-- the characters of a value (RFC 4514, 2.4), of which the first is escaped where it is a space or a number sign, and the last where it is a space
abbrev pub escaped : (ℕ → Bool) → (first : Bool) → List ℕ → List ℕ
escaped shown first [] = []
escaped shown first (c ∷ cs) = symbol_text shown ((first && (c == 32 || c == 35)) || (is_last cs && c == 32)) c ++ escaped shown false cs

-- what is left to be written of a value, by what stands before it: a space that was held back, and the characters that are left
abbrev pub left_text : (ℕ → Bool) → Before → List ℕ → List ℕ
left_text shown Nothing cs = escaped shown true cs
left_text shown Symbol cs = escaped shown false cs
left_text shown Space cs = escaped shown false (32 ∷ cs)

-- a character is taken, and a text written, behind which stands what is left then
pub record Takes (shown : ℕ → Bool) (c : ℕ) (before : Progress) (old : List ℕ) (after : Progress) (new : List ℕ) : Type 0 where
  pub text : List ℕ
  pub written : Writes text before.at old after.at new
  pub left : (cs : List ℕ) → left_text shown before.before (c ∷ cs) ≡ text ++ left_text shown after.before cs

-- of a value's characters some are written, and behind their text stands what is left
pub record WritesTo (shown : ℕ → Bool) (all left : List ℕ) (at : ℕ) (old : List ℕ) (so_far : Progress) (new : List ℕ) : Type 0 where
  pub done : List ℕ
  pub written : Writes done at old so_far.at new
  pub more : done ++ left_text shown so_far.before left ≡ escaped shown true all

-- the units of bytes, high bytes first
abbrev pub units_of : List ℕ → List ℕ
units_of (a ∷ b ∷ more) = (a * 256 + b) ∷ units_of more
units_of _ = []

-- the types that have a short name (RFC 4514, 3), by the contents of their object identifiers
unfoldable pub short_name : List ℕ → Option (List ℕ)
short_name kind =
    if bytes_eq kind (85 ∷ 4 ∷ 3 ∷ []) then Some (codes "CN") else (
    if bytes_eq kind (85 ∷ 4 ∷ 7 ∷ []) then Some (codes "L") else (
    if bytes_eq kind (85 ∷ 4 ∷ 8 ∷ []) then Some (codes "ST") else (
    if bytes_eq kind (85 ∷ 4 ∷ 10 ∷ []) then Some (codes "O") else (
    if bytes_eq kind (85 ∷ 4 ∷ 11 ∷ []) then Some (codes "OU") else (
    if bytes_eq kind (85 ∷ 4 ∷ 6 ∷ []) then Some (codes "C") else (
    if bytes_eq kind (85 ∷ 4 ∷ 9 ∷ []) then Some (codes "STREET") else (
    if bytes_eq kind (9 ∷ 146 ∷ 38 ∷ 137 ∷ 147 ∷ 242 ∷ 44 ∷ 100 ∷ 1 ∷ 25 ∷ []) then Some (codes "DC") else (
    if bytes_eq kind (9 ∷ 146 ∷ 38 ∷ 137 ∷ 147 ∷ 242 ∷ 44 ∷ 100 ∷ 1 ∷ 1 ∷ []) then Some (codes "UID") else None))))))))

-- the text of a type that has none: its arcs in decimal with points between them (RFC 4512, 1.4), or its bytes where they are no object identifier
abbrev pub IsTypeText : List ℕ → List ℕ → Type 0
IsTypeText kind text = OfText kind (λ dots. text ≡ dots) ⊎ (((arcs : List ℕ) → IsOid arcs kind → ⊥) × (text ≡ hex_text false kind))

-- the tags of strings of UTF-8 or ASCII: UTF8String, NumericString, PrintableString, IA5String and VisibleString
unfoldable pub has_text : ℕ → Bool
has_text tag = tag == 12 || (tag == 18 || (tag == 19 || (tag == 22 || tag == 26)))

-- an attribute: the content of its type's object identifier, the text of that, and the tag and the content of its value
pub record NameAttribute : Type 0 where
  pub kind : List ℕ
  pub label : List ℕ
  pub tag : ℕ
  pub content : List ℕ

-- bytes that encode an attribute: its type, and its value (RFC 5280, 4.1.2.4)
pub record Spells (a : NameAttribute) (octets : List ℕ) : Type 0 where
  pub bytes : octets ≡ element 6 a.kind ++ element a.tag a.content
  pub tag : is_tag a.tag ≡ true
  pub label : IsTypeText a.kind a.label

-- the text of a value (RFC 4514, 2.4): its characters where it is a string, and else the bytes of its element in hexadecimal behind a number sign
unfoldable pub value_text : (ℕ → Bool) → ℕ → List ℕ → List ℕ
value_text shown tag content =
    if has_text tag && is_utf8 content then escaped shown true (chars content) else (
    if tag == 30 && length content % 2 == 0 then escaped shown true (utf16_lossy_chars (units_of content)) else 35 ∷ hex_text false (element tag content))

-- the text of an attribute (RFC 4514, 2.3), by the short name of its type: a value stands in hexadecimal where the type has none
abbrev pub typed_text : (ℕ → Bool) → NameAttribute → Option (List ℕ) → List ℕ
typed_text shown a (Some name) = name ++ (61 ∷ value_text shown a.tag a.content)
typed_text shown a None = a.label ++ (61 ∷ (35 ∷ hex_text false (element a.tag a.content)))

abbrev pub attribute_text : (ℕ → Bool) → NameAttribute → List ℕ
attribute_text shown a = typed_text shown a (short_name a.kind)

-- the bytes begin with an element of a tag, whose content encodes a value
pub record Begins {X : Type 0} (tag : ℕ) (Encodes : X → List ℕ → Type 0) (x : X) (octets more : List ℕ) : Type 0 where
  pub inner : List ℕ
  pub encodes : Encodes x inner
  pub bytes : octets ≡ element tag inner ++ more

-- they are elements of a tag, one behind another, whose contents encode values
abbrev pub AreElements : {X : Type 0} → ℕ → (X → List ℕ → Type 0) → List X → List ℕ → Type 0
AreElements tag Encodes [] octets = octets ≡ []
AreElements tag Encodes (x ∷ xs) octets = (more : List ℕ) × Begins tag Encodes x octets more × AreElements tag Encodes xs more

-- RelativeDistinguishedName ::= SET OF AttributeTypeAndValue, by the content of the SET (RFC 5280, 4.1.2.4)
abbrev pub AreAttributes : List NameAttribute → List ℕ → Type 0
AreAttributes = AreElements 48 Spells

-- RDNSequence ::= SEQUENCE OF RelativeDistinguishedName, by the content of the SEQUENCE
abbrev pub AreSets : List (List NameAttribute) → List ℕ → Type 0
AreSets = AreElements 49 AreAttributes

-- what stands before a text: a mark, but for the first
abbrev pub lead : ℕ → Bool → List ℕ
lead mark first = if first then [] else mark ∷ []

-- texts with a mark between them
abbrev pub joined : ℕ → (first : Bool) → List (List ℕ) → List ℕ
joined mark first [] = []
joined mark first (t ∷ ts) = lead mark first ++ (t ++ joined mark false ts)

-- the text of a set (RFC 4514, 2.2): those of its attributes, with plus signs between them
abbrev pub set_text : (ℕ → Bool) → List NameAttribute → List ℕ
set_text shown attributes = joined 43 true (map (attribute_text shown) attributes)

-- the text of a name (RFC 4514, 2.1): those of its sets, the last first, with commas between them
abbrev pub name_text : (ℕ → Bool) → List (List NameAttribute) → List ℕ
name_text shown sets = joined 44 true (reverse (map (set_text shown) sets))

-- of a set's attributes some are written, and behind their text stands what is left
pub record SetSoFar (shown : ℕ → Bool) (all : List NameAttribute) (at : ℕ) (old : List ℕ) (first : Bool) (rest : List ℕ) (end : ℕ) (new : List ℕ) : Type 0 where
  pub done : List ℕ
  pub left : List NameAttribute
  pub are : AreAttributes left rest
  pub written : Writes done at old end new
  pub more : done ++ joined 43 first (map (attribute_text shown) left) ≡ set_text shown all

-- whether a list has no items
abbrev pub is_empty : {X : Type 0} → List X → Bool
is_empty [] = true
is_empty (x ∷ xs) = false

-- of a name's sets some are taken, and others are left
pub record SetsSoFar (all : List (List NameAttribute)) (first : Bool) (rest : List ℕ) : Type 0 where
  pub taken : List (List NameAttribute)
  pub left : List (List NameAttribute)
  pub split : all ≡ taken ++ left
  pub are : AreSets left rest
  pub start : first ≡ is_empty taken

-- their text has so many bytes, as far as numbers go
pub record LenSoFar (shown : ℕ → Bool) (all : List (List NameAttribute)) (first : Bool) (rest : List ℕ) (len : ℕ) : Type 0 where
  pub sets : SetsSoFar all first rest
  pub size : len ≡ min (2 ^ 64 - 1) (length (name_text shown sets.taken))

-- a text stands before others, behind so many bytes
pub record Kept (text back : List ℕ) (at : ℕ) (new : List ℕ) : Type 0 where
  pub kept : List ℕ
  pub whole : new ≡ kept ++ (text ++ back)
  pub size : length kept ≡ at

-- their text stands at the end of a buffer, behind so many bytes
pub record BackSoFar (shown : ℕ → Bool) (all : List (List NameAttribute)) (first : Bool) (rest : List ℕ) (at : ℕ) (new : List ℕ) : Type 0 where
  pub sets : SetsSoFar all first rest
  pub kept : List ℕ
  pub whole : new ≡ kept ++ name_text shown sets.taken
  pub size : length kept ≡ at

-- Name ::= CHOICE { rdnSequence RDNSequence } (RFC 5280, 4.1.2.4)
pub record IsName (sets : List (List NameAttribute)) (octets : List ℕ) : Type 0 where
  pub inner : List ℕ
  pub are : AreSets sets inner
  pub bytes : octets ≡ element 48 inner

-- the text of a name stands in front of what a buffer had behind it; or there are fewer bytes than the text has, as far as numbers go, and the buffer is as it was
abbrev pub NameTold : List ℕ → List ℕ → List ℕ → Result ℕ ℕ → Type 0
NameTold text old new (Ok size) = (size ≡ length text) × (size ≤ length old) × (new ≡ text ++ drop size old)
NameTold text old new (Err size) = (size ≡ min (2 ^ 64 - 1) (length text)) × (length old < size) × (new ≡ old)
