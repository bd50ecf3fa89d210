use Rattle.std.proofs.Common.{◌++◌, ◌==◌, ◌||◌, ◌∷◌, [], false, ap, arith}
use Rattle.std.proofs.lemmas.Bool.Decides.{nat_tests}
use Rattle.x509_name_text.specs.Texts.{escaped, is_last, symbol_text}
use Rattle.x509_name_text.proofs.Escapes.{within}
use Rattle.x509_name_text.proofs.Writing.{nothing}
use Rattle.x509_name_text.proofs.value.later_symbol.Goals as goal

pub returns-then-symbol-eq32 : goal.returns-then-symbol-eq32
returns-then-symbol-eq32 c = λ shown tells.
    record {
      text = [];
      written = nothing _ _ (omega (arith, c.ranges.at.fits));
      left = λ cs. ap (λ s. escaped shown false (s ∷ cs)) c.if-symbol-eq32.true;
    }

pub returns : goal.returns
returns c = λ shown tells.
    let s = c.args.symbol in
    record {
      text = symbol_text shown false s;
      written = c.put_symbol-at.ensures shown tells;
      left = λ cs. ap (λ e. symbol_text shown e s ++ escaped shown false cs) (within (s == 32 || s == 35) (s == 32) (is_last cs) (grind (arith, nat_tests, c.if-symbol-eq32.false)));
    }
