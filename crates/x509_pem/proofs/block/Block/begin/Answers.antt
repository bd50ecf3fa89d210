use Rattle.std.proofs.Common.{rules, refl}
use Rattle.x509_pem.proofs.Text.{no_text}
use Rattle.x509_pem.proofs.block.Block.begin.Goals as goal

pub returns-clause-opens : goal.returns-clause-opens
returns-clause-opens g c =
    (refl, search rules, no_text c.forget.new.self.bytes.items c.forget.new.self.text.items c.forget.ensures.bytes c.forget.ensures.text, refl)
