use Rattle.std.proofs.Common.{List, ℕ, ◌+◌, ◌∙◌, ◌∷◌, ◌++◌, [], arith, drop, length, refl, slice_index, subst, sym, take}
use Rattle.x509_pem.specs.Decoding.{SoFar, SpellsNone}
use Rattle.x509_pem.specs.Text.{solid}
use Rattle.x509_pem.specs.declared.decoding.Symbols.{Symbols}
use Rattle.x509_pem.proofs.Chunks.{all_finished, room_left, so_far_all, so_far_more, so_far_none, so_far_white, solid_split}
use Rattle.x509_pem.proofs.WhiteSpace.{solid_front}
use Rattle.x509_pem.proofs.decoding.decode_in.Goals as goal
use Rattle.x509_pem.proofs.decoding.decode_in.Goals.{else-not-is_white-via-then-not-is_white+else-not-take, else-not-is_white-via-else-not-is_white}

pub bytes-init : goal.bytes-init
bytes-init c =
    so_far_none c.new-symbols.result c.args.out.now c.new-symbols.ensures.0 c.new-symbols.ensures.1 c.new-symbols.ensures.2

pub take-requires-clause-room : goal.take-requires-clause-room
take-requires-clause-room c = λ full.
    let s = c.args.text.now in
    let room =
    room_left (solid (take c.bytes.byte-index s)) c.args.out.now c.bytes.out c.bytes.symbols (length (solid s)) c.bytes.invariant
    (solid_front s c.bytes.byte-index) c.requires in
    omega (arith, room, full)

pub returns-then-not-take-clause-none : goal.returns-then-not-take-clause-none
returns-then-not-take-clause-none c = λ e.
    let s = c.args.text.now in
    let i = c.bytes.byte-index in
    let other = sym c.is_white.ensures ∙ c.if-not-is_white.true in
    subst SpellsNone (sym (solid_split s i c.bytes-test.true other))
    (c.take.ensures.not c.if-not-take.true (solid (take i s)) c.args.out.now (solid (drop (i + 1) s)) c.bytes.invariant)

pub bytes-preserved : goal.bytes-preserved
bytes-preserved c = elim c.else-not-is_white.branch [
  | else-not-is_white-via-then-not-is_white+else-not-take w ↦
      let s = c.args.text.now in
      let i = c.bytes.byte-index in
      let text : List ℕ = solid (take i s) ++ slice_index s i ∷ [] in
      let P : Symbols → Type 0 = λ y. SoFar text y c.args.out.now w.take.new.out in
      let Q : List ℕ → Type 0 = λ o. SoFar text c.else-not-is_white.symbols c.args.out.now o in
      so_far_more s c.args.out.now c.else-not-is_white.out i c.else-not-is_white.symbols c.bytes-test.true
      (sym c.is_white.ensures ∙ w.if-not-is_white.true)
      (subst Q (sym w.out-is) (subst P (sym w.symbols-is)
      (w.take.ensures.taken w.if-not-take.false (solid (take i s)) c.args.out.now c.bytes.invariant)))
  | else-not-is_white-via-else-not-is_white w ↦
      let s = c.args.text.now in
      let i = c.bytes.byte-index in
      let P : Symbols → Type 0 = λ y. SoFar (solid (take i s)) y c.args.out.now c.bytes.out in
      let Q : List ℕ → Type 0 = λ o. SoFar (solid (take i s)) c.else-not-is_white.symbols c.args.out.now o in
      so_far_white s c.args.out.now c.else-not-is_white.out i c.else-not-is_white.symbols c.bytes-test.true
      (sym c.is_white.ensures ∙ w.if-not-is_white.false) (subst Q (sym w.out-is) (subst P (sym w.symbols-is) c.bytes.invariant))
]

pub finish-requires-clause-room : goal.finish-requires-clause-room
finish-requires-clause-room c =
    let s = c.args.text.now in
    room_left (solid (take c.bytes.byte-index s)) c.args.out.now c.bytes.out c.bytes.symbols (length (solid s)) c.bytes.invariant
    (solid_front s c.bytes.byte-index) c.requires

pub returns-clause-some : goal.returns-clause-some
returns-clause-some c =
    let s = c.args.text.now in
    let past = c.bytes-test.false in
    let so = so_far_all s c.args.out.now c.bytes.out c.bytes.byte-index c.bytes.symbols (omega (arith, past)) c.bytes.invariant in
    all_finished c.finish.result c.bytes.symbols (solid s) c.args.out.now c.bytes.out c.finish.new.out so c.finish.ensures.some

pub returns-clause-none : goal.returns-clause-none
returns-clause-none c = λ e.
    let s = c.args.text.now in
    let past = c.bytes-test.false in
    let so = so_far_all s c.args.out.now c.bytes.out c.bytes.byte-index c.bytes.symbols (omega (arith, past)) c.bytes.invariant in
    c.finish.ensures.none e (solid s) c.args.out.now so
