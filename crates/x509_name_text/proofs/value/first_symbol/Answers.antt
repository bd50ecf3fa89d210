use Rattle.std.proofs.Common.{◌++◌, ◌==◌, ◌||◌, false, ap}
use Rattle.x509_name_text.specs.Texts.{escaped, is_last, symbol_text}
use Rattle.x509_name_text.proofs.Escapes.{at_lead}
use Rattle.x509_name_text.proofs.value.first_symbol.Goals as goal

pub returns : goal.returns
returns c = λ shown tells.
    let s = c.args.symbol in
    record {
      text = symbol_text shown (s == 32 || s == 35) s;
      written = rw c.is_lead.ensures at c.put_symbol-at.ensures shown tells;
      left = λ cs. ap (λ e. symbol_text shown e s ++ escaped shown false cs) (at_lead (s == 32) (s == 35) (is_last cs));
    }
