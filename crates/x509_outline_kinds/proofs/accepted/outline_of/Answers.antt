use Rattle.std.proofs.Common.{◌≡◌, ◌↔◌, IsTrue, Bool, false, sym, ◌∙◌}
use Rattle.std.proofs.lemmas.Bool.{false≢true}
use Rattle.x509_outline_kinds.specs.declared.kind.OutlineKind.{OutlineKind}
use Rattle.x509_outline_kinds.specs.declared.kind.OutlineKind.TheVariants as kind
use Rattle.x509_outline_kinds.proofs.accepted.outline_of.Goals as goal

-- a test that fails has nothing behind it
refused : {b : Bool} {E : Type 0} → (IsTrue b ↔ E) → b ≡ false → E → ⊥
refused i f e = false≢true (sym f ∙ i.1 e)

-- what is so of no type by its name is so of none
nowhere : (P : OutlineKind → Type 0) → (P kind.Certificate → ⊥) → (P kind.Request → ⊥) → (P kind.PrivateKey → ⊥) → (P kind.PublicKey → ⊥) → (P kind.RevocationList → ⊥) → (k : OutlineKind) → P k → ⊥
nowhere P a b c d e kind.Certificate h = a h
nowhere P a b c d e kind.Request h = b h
nowhere P a b c d e kind.PrivateKey h = c h
nowhere P a b c d e kind.PublicKey h = d h
nowhere P a b c d e kind.RevocationList h = e h

pub returns-else-accepts-5-clause-none : goal.returns-else-accepts-5-clause-none
returns-else-accepts-5-clause-none g c = nowhere _
    (refused c.accepts.ensures c.if-accepts.false)
    (refused c.accepts-else-accepts.ensures c.if-accepts-2.false)
    (refused c.accepts-else-accepts-2.ensures c.if-accepts-3.false)
    (refused c.accepts-else-accepts-3.ensures c.if-accepts-4.false)
    (refused c.accepts-else-accepts-4.ensures c.if-accepts-5.false)
