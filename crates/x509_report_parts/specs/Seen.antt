-- Which characters are shown as they are, by Unicode 15.0 and later versions, and which are marks of what a text stands in.
use Rattle.std.specs.Prelude.{◌≤◌, ◌⊎◌, ℕ, List, [], ◌∷◌}
use Rattle.x509_report_parts.specs.declared.shown.Frame.{Frame}
use Rattle.x509_report_parts.specs.declared.shown.Frame.TheVariants.{Quotes, Name, Line}

-- a character in one of some ranges, each from its first to its last
abbrev pub InSome : List (ℕ × ℕ) → ℕ → Type 0
InSome [] c = ⊥
InSome (r ∷ rs) c = ((r.0 ≤ c) × (c ≤ r.1)) ⊎ InSome rs c

-- control characters (general category Cc)
abbrev pub controls : List (ℕ × ℕ)
controls = (0x0, 0x1f) ∷ (0x7f, 0x9f) ∷ []

-- format controls (general category Cf)
abbrev pub formats : List (ℕ × ℕ)
formats =
    (0xad, 0xad) ∷ (0x600, 0x605) ∷ (0x61c, 0x61c) ∷ (0x6dd, 0x6dd) ∷ (0x70f, 0x70f) ∷ (0x890, 0x891) ∷ (0x8e2, 0x8e2)
    ∷ (0x180e, 0x180e) ∷ (0x200b, 0x200f) ∷ (0x202a, 0x202e) ∷ (0x2060, 0x2064) ∷ (0x2066, 0x206f) ∷ (0xfeff, 0xfeff)
    ∷ (0xfff9, 0xfffb) ∷ (0x110bd, 0x110bd) ∷ (0x110cd, 0x110cd) ∷ (0x13430, 0x1343f) ∷ (0x1bca0, 0x1bca3)
    ∷ (0x1d173, 0x1d17a) ∷ (0xe0001, 0xe0001) ∷ (0xe0020, 0xe007f) ∷ []

-- the separators of lines and of paragraphs (general categories Zl and Zp)
abbrev pub separators : List (ℕ × ℕ)
separators = (0x2028, 0x2028) ∷ (0x2029, 0x2029) ∷ []

-- what is ignored by default (property Default_Ignorable_Code_Point)
abbrev pub ignorables : List (ℕ × ℕ)
ignorables =
    (0xad, 0xad) ∷ (0x34f, 0x34f) ∷ (0x61c, 0x61c) ∷ (0x115f, 0x1160) ∷ (0x17b4, 0x17b5) ∷ (0x180b, 0x180f)
    ∷ (0x200b, 0x200f) ∷ (0x202a, 0x202e) ∷ (0x2060, 0x206f) ∷ (0x3164, 0x3164) ∷ (0xfe00, 0xfe0f) ∷ (0xfeff, 0xfeff)
    ∷ (0xffa0, 0xffa0) ∷ (0xfff0, 0xfff8) ∷ (0x1bca0, 0x1bca3) ∷ (0x1d173, 0x1d17a) ∷ (0xe0000, 0xe0fff) ∷ []

-- private use (general category Co), and all of the planes 14 to 16, whose other characters are ignorable
abbrev pub privates : List (ℕ × ℕ)
privates = (0xe000, 0xf8ff) ∷ (0xe0000, 0x10ffff) ∷ []

-- what turns the direction of text (property Bidi_Control)
abbrev pub turns : List (ℕ × ℕ)
turns = (0x61c, 0x61c) ∷ (0x200e, 0x200f) ∷ (0x202a, 0x202e) ∷ (0x2066, 0x2069) ∷ []

-- a control character
abbrev pub IsControl : ℕ → Type 0
IsControl c = InSome controls c

-- a mark that turns the direction of text
abbrev pub TurnsText : ℕ → Type 0
TurnsText c = InSome turns c

-- a character without a glyph of its own
abbrev pub IsUnseen : ℕ → Type 0
IsUnseen c = IsControl c ⊎ InSome formats c ⊎ InSome separators c ⊎ InSome ignorables c

-- a character that is shown as it is
abbrev pub IsShown : ℕ → Type 0
IsShown c = (IsUnseen c → ⊥) × (InSome privates c → ⊥)

-- the marks that stand behind a backslash: between quotation marks these and the backslash itself, in a name also those of RFC 4514 (2.4, and the equals sign of 3): " + , ; < = > \
abbrev pub marks : Frame → List (ℕ × ℕ)
marks Quotes = (34, 34) ∷ (92, 92) ∷ []
marks Name = (34, 34) ∷ (43, 44) ∷ (59, 62) ∷ (92, 92) ∷ []
marks Line = (92, 92) ∷ []

-- the characters of ASCII that are shown as they are in each frame, as far as names and dates have them: a space, * - . / : @, digits and letters
abbrev pub harmless : List (ℕ × ℕ)
harmless = (32, 32) ∷ (42, 42) ∷ (45, 58) ∷ (64, 90) ∷ (97, 122) ∷ []

-- a character that is shown as it is in a frame
abbrev pub IsShownIn : Frame → ℕ → Type 0
IsShownIn frame c = IsShown c × (InSome (marks frame) c → ⊥)
