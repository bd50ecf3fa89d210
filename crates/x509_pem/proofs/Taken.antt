-- What a line does to a block, or why it is refused.
use Rattle.std.specs.Prelude.{◌≡◌, ℕ, List, Bool, true, false, refl, Result, MatchResult}
use Rattle.std.proofs.Common.{sym, subst, inl, inr}
use Rattle.x509_pem.specs.Block.{State, Adds, Opens, Closes, Decodes, Goes, GoesOn, GivenUp, AddsNot, TextRefused, ClosesNot, Refuses}
use Rattle.x509_pem.specs.Line.{IsBegin, BeginsNone, IsEnd, EndsNone}
use Rattle.x509_pem.specs.Text.{solid}
use Rattle.x509_pem.specs.declared.fault.Fault.{Fault}
use Rattle.x509_pem.specs.declared.fault.Fault.TheVariants.{LabelMismatch, BadBase64, NoEnd, HasHeaders, TooLong, OutOfMemory}

pub ended : (label line : List ℕ) (old new : State) → old.is_open ≡ true → IsEnd label line → old.label ≡ label → Closes old new
    → (old.is_open ≡ true) × IsEnd old.label line × Closes old new
ended label line old new is ends same closes =
    let P : List ℕ → Type 0 = λ l. IsEnd l line in
    (is, subst P (sym same) ends, closes)

pub ended_not : (limit number : ℕ) (fault : Fault) (label line : List ℕ) (old new : State) → old.is_open ≡ true → IsEnd label line
    → ClosesNot fault label old → GivenUp new → Refuses limit number fault line old new
ended_not limit number LabelMismatch label line old new is ends why given = (is, (label, ends, why), given)
ended_not limit number BadBase64 label line old new is ends why given = (is, (label, ends, why), given)
ended_not limit number NoEnd label line old new is ends why given = absurd why
ended_not limit number HasHeaders label line old new is ends why given = absurd why
ended_not limit number TooLong label line old new is ends why given = absurd why
ended_not limit number OutOfMemory label line old new is ends why given = given

pub begun_inside : (limit number : ℕ) (label line : List ℕ) (old new : State) → old.is_open ≡ true → IsBegin label line
    → Opens label number new → Refuses limit number NoEnd line old new
begun_inside limit number label line old new is begins opens =
    let P : List ℕ → Type 0 = λ l. IsBegin l line in
    (is, subst P (sym opens.1) begins, (opens.0, refl, opens.2, opens.3))

pub no_memory : (limit number : ℕ) (fault : Fault) (line : List ℕ) (old new : State) → fault ≡ OutOfMemory → GivenUp new
    → Refuses limit number fault line old new
no_memory limit number fault line old new is given =
    let P : Fault → Type 0 = λ f. Refuses limit number f line old new in subst P (sym is) given

pub text_refused : (limit number : ℕ) (fault : Fault) (line : List ℕ) (old new : State) → old.is_open ≡ true → BeginsNone line
    → EndsNone line → TextRefused limit fault line old → GivenUp new → Refuses limit number fault line old new
text_refused limit number LabelMismatch line old new is begins ends why given = absurd why
text_refused limit number BadBase64 line old new is begins ends why given = absurd why
text_refused limit number NoEnd line old new is begins ends why given = absurd why
text_refused limit number HasHeaders line old new is begins ends why given = (is, ends, begins, why, given)
text_refused limit number TooLong line old new is begins ends why given = (is, ends, begins, why, given)
text_refused limit number OutOfMemory line old new is begins ends why given = given

pub text_added : (number : ℕ) (ends : Bool) (line : List ℕ) (old new : State) → old.is_open ≡ true → ends ≡ false
    → Adds (solid line) old new → Goes ends number line old new
text_added number ends line old new is none adds =
    let P : Bool → Type 0 = λ b. Goes b number line old new in
    let Q : Bool → Type 0 = λ b. GoesOn b number line old new in
    subst P (sym none) (subst Q (sym is) adds)

pub added_not : (limit : ℕ) (fault : Fault) (line : List ℕ) (old : State) → AddsNot limit fault (solid line) old
    → TextRefused limit fault line old
added_not limit LabelMismatch line old why = why
added_not limit BadBase64 line old why = why
added_not limit NoEnd line old why = why
added_not limit HasHeaders line old why = absurd why
added_not limit TooLong line old why = why
added_not limit OutOfMemory line old why = why

-- outside of a block
pub begun : (is : Bool) (number : ℕ) (label line : List ℕ) (old new : State) → is ≡ false → IsBegin label line → Opens label number new
    → GoesOn is number line old new
begun is number label line old new shut begins opens =
    let P : List ℕ → Type 0 = λ l. IsBegin l line in
    let Q : Bool → Type 0 = λ b. GoesOn b number line old new in
    subst Q (sym shut) (inl (subst P (sym opens.1) begins, (opens.0, refl, opens.2, opens.3)))

pub passed : (is : Bool) (number : ℕ) (line : List ℕ) (old : State) → is ≡ false → old.is_open ≡ false → BeginsNone line
    → GoesOn is number line old old
passed is number line old shut same none =
    let Q : Bool → Type 0 = λ b. GoesOn b number line old old in
    subst Q (sym shut) (inr (none, same))

-- inside of a block, where the line was no full one
pub inner_goes : (limit limit' number : ℕ) (line : List ℕ) (old mid new : State) (taken : Bool) (r : Result Bool Fault) → taken ≡ false
    → Decodes taken line old mid → limit' ≡ limit
    → MatchResult r (λ ends. Goes ends number line mid new) (λ fault. Refuses limit' number fault line mid new)
    → MatchResult r (λ ends. Goes ends number line old new) (λ fault. Refuses limit number fault line old new)
inner_goes limit limit' number line old mid new taken r none decodes same h =
    let P : Bool → Type 0 = λ b. Decodes b line old mid in
    let is : mid ≡ old = subst P none decodes in
    let Q : State → Type 0 =
    λ s. MatchResult r (λ ends. Goes ends number line s new) (λ fault. Refuses limit number fault line s new) in
    let R : ℕ → Type 0 =
    λ n. MatchResult r (λ ends. Goes ends number line mid new) (λ fault. Refuses n number fault line mid new) in
    subst Q is (subst R same h)
