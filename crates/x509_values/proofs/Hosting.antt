-- Whether one of the elements that are left is a name for a host.
use Rattle.std.proofs.Common.{◌≡◌, ◌==◌, true, ℕ, List, [], ◌∷◌, ◌++◌, length, refl, sym, ap, ◌∙◌, append-nil, arith}
use Rattle.std.proofs.lemmas.Bool.Decides.{nat_tests}
use Rattle.x509_der.specs.Element.{element, is_tag}
use Rattle.x509_der.specs.Reading.{NoFirst}
use Rattle.x509_der.specs.facts.Element.{element_one, SameElement}
use Rattle.x509_hosts.specs.Hosts.{IsFor}
use Rattle.x509_hosts.specs.declared.host.Host.{Host}
use Rattle.x509_hosts.specs.declared.host.Host.TheVariants.{Name, V4, V6}
use Rattle.x509_values.specs.Rests.{Rest}
use Rattle.x509_values.specs.Elements.{Passes}
use Rattle.x509_values.specs.Hosts.{BeginsWith, ListNamesHost, NamesHost}
use Rattle.x509_values.specs.declared.elements.Element.{Element}

-- the tag of a name for a host is one byte
for_tag : (host : Host) (t : ℕ) (c : List ℕ) → IsFor host t c → is_tag t ≡ true
for_tag (Name n) t c h = ap is_tag h.0
for_tag (V4 o) t c h = ap is_tag h.0
for_tag (V6 o) t c h = ap is_tag h.0

none_in : (host : Host) (bytes : List ℕ) (before : List (ℕ × List ℕ)) (tag : ℕ) (content behind : List ℕ) → NoFirst bytes → BeginsWith before (element tag content ++ behind) bytes → IsFor host tag content → ⊥
none_in host bytes [] tag content behind none parts own = none tag content behind (for_tag host tag content own) parts
none_in host bytes (e ∷ more) tag content behind none parts own = none e.0 e.1 parts.1 parts.0 parts.2

-- where no element stands, none is a name
pub none_named : (host : Host) (bytes : List ℕ) → NoFirst bytes → NamesHost host bytes → ⊥
none_named host bytes none h = none_in host bytes h.before h.tag h.content h.behind none h.parts h.own

-- the element in front is a name for it
pub first_named : (host : Host) (old new : Rest) (e : Element) → Passes old new e → IsFor host e.tag e.inside.rest → NamesHost host old.rest
first_named host old new e step own = record { before = []; tag = e.tag; content = e.inside.rest; behind = new.rest; parts = step.bytes; own = own }

-- one behind it is
pub later_named : (host : Host) (old new : Rest) (e : Element) → Passes old new e → NamesHost host new.rest → NamesHost host old.rest
later_named host old new e step h = record { before = (e.tag, e.inside.rest) ∷ h.before; tag = h.tag; content = h.content; behind = h.behind; parts = (step.fits, new.rest, step.bytes, h.parts); own = h.own }

behind_it : (host : Host) (old new : Rest) (e : Element) → Passes old new e → (IsFor host e.tag e.inside.rest → ⊥) → (before : List (ℕ × List ℕ)) (tag : ℕ) (content behind : List ℕ) → BeginsWith before (element tag content ++ behind) old.rest → IsFor host tag content → NamesHost host new.rest
behind_it host old new e step other [] tag content behind parts own =
    let s = element_one e.tag tag e.inside.rest content new.rest behind (sym step.bytes ∙ parts) in
    absurd (other (rw (s.tag, s.content) own))
behind_it host old new e step other (x ∷ more) tag content behind parts own =
    let s = element_one e.tag x.0 e.inside.rest x.1 new.rest parts.1 (sym step.bytes ∙ parts.2) in
    record { before = more; tag = tag; content = content; behind = behind; parts = rw s.rest parts.3; own = own }

-- the element in front isn't, so one behind it is
pub not_first : (host : Host) (old new : Rest) (e : Element) → Passes old new e → (IsFor host e.tag e.inside.rest → ⊥) → NamesHost host old.rest → NamesHost host new.rest
not_first host old new e step other h = behind_it host old new e step other h.before h.tag h.content h.behind h.parts h.own

-- where no element stands, no list does
pub no_list : (host : Host) (bytes : List ℕ) → NoFirst bytes → ListNamesHost host bytes → ⊥
no_list host bytes none h = none 48 h.content [] refl (h.list ∙ sym (append-nil (element 48 h.content)))

-- the list is the element in front
pub the_list : (host : Host) (old new : Rest) (e : Element) → Passes old new e → (h : ListNamesHost host old.rest) → SameElement e.tag 48 e.inside.rest h.content new.rest []
the_list host old new e step h = element_one e.tag 48 e.inside.rest h.content new.rest [] (sym step.bytes ∙ h.list ∙ sym (append-nil (element 48 h.content)))

pub list_named : (host : Host) (old new : Rest) (e : Element) → Passes old new e → e.tag ≡ 48 → new.rest ≡ [] → NamesHost host e.inside.rest → ListNamesHost host old.rest
list_named host old new e step tag rest h = record { content = e.inside.rest; list = step.bytes ∙ ap (λ r. element e.tag e.inside.rest ++ r) rest ∙ append-nil (element e.tag e.inside.rest) ∙ ap (λ t. element t e.inside.rest) tag; names = h }

pub is_empty : (bytes : List ℕ) → (length bytes == 0) ≡ true → bytes ≡ []
is_empty [] e = refl
is_empty (b ∷ bytes) e = absurd (grind (arith, nat_tests, e))
