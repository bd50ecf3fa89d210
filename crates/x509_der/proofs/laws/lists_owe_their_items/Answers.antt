use Rattle.std.proofs.Common.{◌++◌, refl, inr}
use Rattle.x509_der.proofs.laws.lists_owe_their_items.Goals as goal

pub returns-clause-sequence : goal.returns-clause-sequence
returns-clause-sequence g c = λ list front after behind y a. inr (record {
  content = front ++ after;
  after = behind;
  inner = y.headers;
  bytes = refl;
  min_headers = record { list = list; front = front; after = after; tally = y; spelled = a; bytes = refl; sum = refl };
  sum = refl;
})

pub returns-clause-set : goal.returns-clause-set
returns-clause-set g c = λ list front after behind y a. inr (record {
  content = front ++ after;
  after = behind;
  inner = y.headers;
  bytes = refl;
  min_headers = record { list = list; front = front; after = after; tally = y; spelled = a; bytes = refl; sum = refl };
  sum = refl;
})
