-- Lines one behind the other.
use Rattle.std.specs.Prelude.{◌≡◌, ℕ, zero, suc, List, [], Bool, true, false, Option, Some, None, IfSome, refl, Result, Ok, Err, MatchResult, ◌⊎◌}
use Rattle.std.proofs.Common.{sym, ap, subst, ◌∙◌, inl, inr}
use Rattle.x509_pem.specs.Block.{Goes, GivenUp, Refuses}
use Rattle.x509_pem.specs.Line.{Trimmed}
use Rattle.x509_pem.specs.Part.{Counted, DropsLine, IsCut, IsHeld}
use Rattle.x509_pem.specs.Text.{behind_line, line_of}
use Rattle.x509_pem.specs.Step.{Place, LineGoes, Walks, Reads, Skips, Steps, WalkedTo, EndsInside}
use Rattle.x509_pem.specs.Reader.{IfFault, Stepped, Takes, Walked, step_of}
use Rattle.x509_pem.specs.declared.fault.Fault.{Fault}
use Rattle.x509_pem.specs.declared.fault.PemError.{PemError}
use Rattle.x509_pem.specs.declared.fault.PemError.TheVariants.{Fault as AtLine, Input}
use Rattle.x509_pem.specs.declared.reader.Step.{Step}
use Rattle.x509_pem.specs.declared.reader.Step.TheVariants.{Other, BlockEnd, InputEnd}

pub one_more : (n : ℕ) (text : List ℕ) (old : Place) (rest : List ℕ) (last new : Place) → Walks n text old rest last
    → LineGoes false rest last new → Walks (suc n) text old (behind_line rest) new
one_more zero text old rest last new w h =
    let P : List ℕ → Type 0 = λ t. LineGoes false t last new in
    let Q : Place → Type 0 = λ s. LineGoes false text s new in
    (new, subst Q w.1 (subst P w.0 h), (ap behind_line w.0, refl))
one_more (suc n) text old rest last new w h =
    (w.0, w.1, one_more n (behind_line text) w.0 rest last new w.2 h)

pub walked_none : (text : Option (List ℕ)) (old : Place) → WalkedTo text old text old
walked_none None old = tt
walked_none (Some text) old = (zero, text, refl, (refl, refl))

-- what a step says of the text that is left
known : (left : Option (List ℕ)) (rest : List ℕ) (step is : Step) (old : Place) (after : Option (List ℕ)) (new : Place)
    → step ≡ is → left ≡ Some rest → IfSome left (λ t. Steps step t old after new) → Steps is rest old after new
known left rest step is old after new s e h =
    let P : Option (List ℕ) → Type 0 = λ o. IfSome o (λ t. Steps step t old after new) in
    let Q : Step → Type 0 = λ x. Steps x rest old after new in
    subst Q s (subst P e h)

pub walked_on : (text : Option (List ℕ)) (old : Place) (left : Option (List ℕ)) (last : Place) (step : Step)
    (after : Option (List ℕ)) (new : Place) → WalkedTo text old left last → step ≡ Other
    → IfSome left (λ t. Steps step t last after new) → WalkedTo text old after new
walked_on None old left last step after new w s h = tt
walked_on (Some text) old left last step after new w s h =
    let k = known left w.1 step Other last after new s w.2 h in
    (suc w.0, behind_line w.1, k.1, one_more w.0 text old w.1 last new w.3 k.0)

pub found : (text : Option (List ℕ)) (old : Place) (left : Option (List ℕ)) (last : Place) (step : Step)
    (after : Option (List ℕ)) (new : Place) → WalkedTo text old left last → step ≡ BlockEnd
    → IfSome left (λ t. Steps step t last after new) → IfSome text (λ t. Reads true t old after new)
found None old left last step after new w s h = tt
found (Some text) old left last step after new w s h =
    let k = known left w.1 step BlockEnd last after new s w.2 h in
    (w.0, w.1, last, w.3, k.0, k.1)

pub none : (text : Option (List ℕ)) (old : Place) (left : Option (List ℕ)) (last : Place) (step : Step)
    (after : Option (List ℕ)) (new : Place) → WalkedTo text old left last → step ≡ InputEnd
    → IfSome left (λ t. Steps step t last after new) → new.block.is_open ≡ false → IfSome text (λ t. Reads false t old after new)
none None old left last step after new w s h shut = tt
none (Some text) old left last step after new w s h shut =
    let k = known left w.1 step InputEnd last after new s w.2 h in
    let P : List ℕ → Type 0 = λ t. Walks w.0 text old t last in
    let Q : Place → Type 0 = λ x. Walks w.0 text old [] x in
    (w.0, subst Q (sym k.2) (subst P k.0 w.3), shut, k.1)

-- the same, behind `finish`
pub finished : (limit longest : ℕ) (text : Option (List ℕ)) (old : Place) (left : Option (List ℕ)) (last : Place)
    (after end : Option (List ℕ)) (new final : Place) (r : Result Bool PemError) → WalkedTo text old left last
    → IfSome left (λ t. Steps InputEnd t last after new) → end ≡ after
    → MatchResult r (λ f. (f ≡ false) × (new.block.is_open ≡ false) × (final ≡ new))
    (λ e. IfFault e (λ fault number. (number ≡ final.line) × EndsInside fault [] new final))
    → Walked limit longest text r old end final
finished limit longest None old left last after end new final r w s same f = tt
finished limit longest (Some text) old left last after end new final (Ok b) w s same f =
    let P : Bool → Type 0 = λ x. Reads x text old end final in
    let Q : Place → Type 0 = λ x. Reads false text old end x in
    let R : Option (List ℕ) → Type 0 = λ x. Reads false text old x new in
    subst P (sym f.0) (subst Q (sym f.2) (subst R (sym same) (none (Some text) old left last InputEnd after new w refl s f.1)))
finished limit longest (Some text) old left last after end new final (Err (Input e)) w s same f = tt
finished limit longest (Some text) old left last after end new final (Err (AtLine fault number)) w s same f =
    let k = known left w.1 InputEnd InputEnd last after new refl w.2 s in
    let P : List ℕ → Type 0 = λ t. Walks w.0 text old t last in
    let Q : Place → Type 0 = λ p. EndsInside fault [] p final in
    (f.0, (w.0, [], last, subst P k.0 w.3, inr (subst Q k.2 f.1), same ∙ k.1))

-- a line that is refused
pub failed : (limit longest limit' longest' : ℕ) (text : Option (List ℕ)) (old : Place) (left : Option (List ℕ)) (last : Place)
    (after : Option (List ℕ)) (new : Place) (e : PemError) → limit' ≡ limit → longest' ≡ longest → WalkedTo text old left last
    → Stepped limit' longest' left (Err e) last after new → Walked limit longest text (Err e) old after new
failed limit longest limit' longest' None old left last after new e el en w s = tt
failed limit longest limit' longest' (Some text) old left last after new (Input e) el en w s = tt
failed limit longest limit' longest' (Some text) old left last after new (AtLine fault number) el en w s =
    let P : Option (List ℕ) → Type 0 = λ o. Stepped limit longest o (Err (AtLine fault number)) last after new in
    let L : ℕ → Type 0 = λ n. Stepped n longest left (Err (AtLine fault number)) last after new in
    let N : ℕ → Type 0 = λ n. Stepped limit' n left (Err (AtLine fault number)) last after new in
    let h : Stepped limit longest (Some w.1) (Err (AtLine fault number)) last after new = subst P w.2 (subst L el (subst N en s)) in
    (h.0, (w.0, w.1, last, w.3, inl h.1, h.2))

-- a step behind a line that wasn't taken as a full one
pub stepped_on : (limit longest limit' longest' : ℕ) (before between after : Option (List ℕ)) (old mid new : Place) (r : Result Step PemError)
    → limit' ≡ limit → longest' ≡ longest → IfSome before (λ text. Skips false text old between mid)
    → Stepped limit' longest' between r mid after new → Stepped limit longest before r old after new
stepped_on limit longest limit' longest' None between after old mid new r el en same s = tt
stepped_on limit longest limit' longest' (Some text) between after old mid new r el en same s =
    let P : Option (List ℕ) → Type 0 = λ o. Stepped limit longest o r old after new in
    let Q : Place → Type 0 = λ p. Stepped limit longest between r p after new in
    let L : ℕ → Type 0 = λ n. Stepped n longest between r mid after new in
    let N : ℕ → Type 0 = λ n. Stepped limit' n between r mid after new in
    subst P same.0 (subst Q same.1 (subst L el (subst N en s)))

-- a line that was read and then taken
pub line_taken : (limit longest : ℕ) (before after after' : Option (List ℕ)) (lack : Option Fault) (held : List ℕ) (taken : Result Bool Fault)
    (result : Result Step PemError) (n : ℕ) (old : Place) (m : ℕ) (r : Bool) (new : Place)
    → IfSome before (λ text. IsHeld longest lack held (line_of text))
    → IfSome before (λ text. Counted true (line_of text) old.line old.returned m r) → DropsLine before after' → after ≡ after'
    → ((line : List ℕ) → IsHeld longest lack held line
    → Takes limit longest line taken (record { block = old.block; line = m; returned = r }) new)
    → new.line ≡ m → new.returned ≡ r → n ≡ m → result ≡ step_of taken n → Stepped limit longest before result old after new
line_taken limit longest None after after' lack held taken result n old m r new held_is counted drops same takes line return number is = tt
line_taken limit longest (Some text) after after' lack held (Ok true) result n old m r new held_is counted drops same takes line return number is =
    let P : Result Step PemError → Type 0 = λ x. Stepped limit longest (Some text) x old after new in
    let Q : ℕ → Type 0 = λ k. Trimmed (line_of text) (λ l. Goes true k l old.block new.block) in
    subst P (sym is) (
      (subst Q (sym line) (takes (line_of text) held_is), (line ∙ counted.0, return ∙ counted.1)),
      same ∙ drops,
    )
line_taken limit longest (Some text) after after' lack held (Ok false) result n old m r new held_is counted drops same takes line return number is =
    let P : Result Step PemError → Type 0 = λ x. Stepped limit longest (Some text) x old after new in
    let Q : ℕ → Type 0 = λ k. Trimmed (line_of text) (λ l. Goes false k l old.block new.block) in
    subst P (sym is) (
      (subst Q (sym line) (takes (line_of text) held_is), (line ∙ counted.0, return ∙ counted.1)),
      same ∙ drops,
    )
line_taken limit longest (Some text) after after' lack held (Err fault) result n old m r new held_is counted drops same takes line return number is =
    let P : Result Step PemError → Type 0 = λ x. Stepped limit longest (Some text) x old after new in
    let Q : ℕ → Type 0 =
    λ k. (IsCut longest fault (line_of text) × GivenUp new.block)
    ⊎ Trimmed (line_of text) (λ l. Refuses limit k fault l old.block new.block) in
    subst P (sym is) (
      number ∙ sym line,
      (subst Q (sym line) (takes (line_of text) held_is), (line ∙ counted.0, return ∙ counted.1)),
      same ∙ drops,
    )
