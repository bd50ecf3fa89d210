use Rattle.std.proofs.Common.{List, ℕ, ◌∙◌, arith, inl, refl, subst, sym}
use Rattle.x509_pem.specs.Decoding.{IsAppended}
use Rattle.x509_pem.proofs.Chunks.{flushed, full_chunk, refused}
use Rattle.x509_pem.proofs.decoding.Symbols.flush.Goals as goal

pub returns-in-Some-clause-taken : goal.returns-in-Some-clause-taken
returns-in-Some-clause-taken c = λ e text old so.
    let self = c.args.self.now in
    let P : List ℕ → Type 0 = λ l. IsAppended l self.len c.in-Some.len c.args.out.now c.append.new.out in
    flushed text old self (record { chunk = self.chunk; filled = 0; len = c.in-Some.len }) c.args.out.now c.append.new.out so
    (subst P (c.as_slice.ensures ∙ sym (full_chunk self so.wide c.if-self-lt-CHUNK.false)) c.in-Some.ensures.some) refl refl
