-- Names, from their last set on.
use Rattle.std.proofs.Common.{◌≡◌, ℕ, ◌+◌, ◌^◌, ◌<◌, ◌≤◌, Bool, true, false, List, [], ◌∷◌, ◌++◌, length, map, reverse, take, drop, refl, sym, ap, ◌∙◌, arith, append_assoc, append-nil, length-append, length-take-le}
use Rattle.std.proofs.Math.Seq.{drop-append_seam}
use Rattle.std.proofs.lemmas.List.{map_push, reverse-append, take-append-drop}
use Rattle.x509_name_text.specs.Texts.{AreAttributes, Kept, NameAttribute, SetsSoFar, Writes, is_empty, joined, lead, name_text, set_text}
use Rattle.x509_name_text.proofs.Sets.{OneNext}

joined_later : (mark : ℕ) (ts : List (List ℕ)) → joined mark false ts ≡ lead mark (is_empty ts) ++ joined mark true ts
joined_later mark [] = refl
joined_later mark (t ∷ ts) = refl

pub empty_push : {X : Type 0} (xs : List X) (x : X) → is_empty (xs ++ x ∷ []) ≡ false
empty_push [] x = refl
empty_push (y ∷ xs) x = refl

empty_back : {X Y : Type 0} (f : X → Y) (xs : List X) → is_empty (reverse (map f xs)) ≡ is_empty xs
empty_back f [] = refl
empty_back f (x ∷ xs) = ap is_empty (reverse-append (f x ∷ []) (map f xs)) ∙ empty_push (reverse (map f xs)) (f x)

-- one set more stands before the others
pub set_before : (shown : ℕ → Bool) (taken : List (List NameAttribute)) (s : List NameAttribute) → name_text shown (taken ++ s ∷ []) ≡ set_text shown s ++ (lead 44 (is_empty taken) ++ name_text shown taken)
set_before shown taken s =
    let texts = map (set_text shown) taken in
    let text = set_text shown s in
    ap (λ ts. joined 44 true (reverse ts)) (map_push (set_text shown) taken s)
    ∙ ap (λ ts. joined 44 true ts) (reverse-append texts (text ∷ []))
    ∙ ap (λ (t : List ℕ). text ++ t) (joined_later 44 (reverse texts) ∙ ap (λ b. lead 44 b ++ joined 44 true (reverse texts)) (empty_back (set_text shown) taken))

-- more sets have no shorter text
pub no_shorter : (shown : ℕ → Bool) (taken more : List (List NameAttribute)) → length (name_text shown taken) ≤ length (name_text shown (taken ++ more))
no_shorter shown taken [] = omega (arith, ap (λ ss. length (name_text shown ss)) (append-nil taken))
no_shorter shown taken (s ∷ more) =
    let text = set_text shown s in
    let rest = name_text shown taken in
    omega (
      arith,
      no_shorter shown (taken ++ s ∷ []) more,
      ap (λ ss. length (name_text shown ss)) (append_assoc taken (s ∷ []) more),
      ap length (set_before shown taken s),
      length-append text (lead 44 (is_empty taken) ++ rest),
      length-append (lead 44 (is_empty taken)) rest,
    )

-- one more is taken
abbrev pub taken_more : (all : List (List NameAttribute)) (first : Bool) (rest inner behind : List ℕ) (so_far : SetsSoFar all first rest) (next : OneNext 49 AreAttributes so_far.left inner behind) → SetsSoFar all false behind
taken_more all first rest inner behind so_far next = record {
  taken = so_far.taken ++ next.x ∷ [];
  left = next.others;
  split = so_far.split ∙ ap (λ xs. so_far.taken ++ xs) next.are ∙ sym (append_assoc so_far.taken (next.x ∷ []) next.others);
  are = next.behind;
  start = sym (empty_push so_far.taken next.x);
}

-- where none is left, all are taken
pub all_taken : (all : List (List NameAttribute)) (first : Bool) (rest : List ℕ) (so_far : SetsSoFar all first rest) → so_far.left ≡ [] → so_far.taken ≡ all
all_taken all first rest so_far none = sym (append-nil so_far.taken) ∙ ap (λ xs. so_far.taken ++ xs) (sym none) ∙ sym so_far.split

-- a text is put before what stood behind a place
pub put_back_to : (text front back old new : List ℕ) (start at end : ℕ) → old ≡ front ++ back → length front ≡ at → start + length text ≡ at → at < 2 ^ 64 → Writes text start old end new → Kept text back start new
put_back_to text front back old new start at end parts here fits below written =
    let size = ap length parts in
    let whole = length-append front back in
    let kept = take start old in
    let stands : length kept ≡ start = length-take-le start old (omega (arith, size, whole, here, fits)) in
    let is = written.fits kept old (sym stands) (sym (take-append-drop start old)) (omega (arith, fits, below)) (omega (arith, size, whole, here, fits)) in
    let behind : drop (start + length text) old ≡ back = ap (λ n. drop n old) (fits ∙ sym here) ∙ ap (λ (t : List ℕ). drop (length front) t) parts ∙ drop-append_seam front back in
    record { kept = kept; whole = is ∙ append_assoc kept text (drop (start + length text) old) ∙ ap (λ (t : List ℕ). kept ++ (text ++ t)) behind; size = stands }
