use Rattle.std.proofs.Common.{◌≡◌, List, [], ℕ}
use Rattle.std.specs.Prelude.{Result, Ok, Err, IfOk, IfErr}
use Rattle.x509_der_parts.specs.declared.errors.ReadError.{ReadError}
use Rattle.x509_der_parts.specs.Tagged.{tagged}
use Rattle.x509_der_parts.specs.Reading.{Cursor, Ready, Entered, Leaves, Accepts, Refuses, thrifty}
use Rattle.x509_der_parts.specs.reads.Tagged.{tagged_accepts, tagged_refuses}
use Rattle.x509_der_parts.specs.reads.Passing.{thrifty_lawful, alike_tagged, alike_accepts, alike_refuses}
use Rattle.x509_der.specs.ObjectIdentifier.{oids}
use Rattle.x509_der.specs.facts.ObjectIdentifier.{oid_lawful}
use Rattle.x509_der.proofs.oid.pass_oid.Goals as goal

gone_past : (old inner end new : Cursor) (after : List ℕ) (r : Result (List ℕ) ReadError) → Ready old → Entered 6 old inner after → IfOk r (λ o. Accepts (thrifty oids) inner end o) → IfOk r (λ o. end.rest ≡ []) → Leaves end new after → IfOk r (λ o. Accepts (thrifty (tagged 6 oids)) old new o)
gone_past old inner end new after (Ok v) y n a e f = alike_accepts (tagged 6 (thrifty oids)) (thrifty (tagged 6 oids)) (alike_tagged 6 oids) old new v (tagged_accepts 6 (thrifty oids) (thrifty_lawful oids oid_lawful) old inner end new after v y n a e f)
gone_past old inner end new after (Err x) y n a e f = tt

refused : (old inner end new : Cursor) (after : List ℕ) (r : Result (List ℕ) ReadError) → Entered 6 old inner after → IfErr r (λ x. Refuses (thrifty oids) inner end x) → Leaves end new after → IfErr r (λ x. Refuses (thrifty (tagged 6 oids)) old new x)
refused old inner end new after (Ok v) n a f = tt
refused old inner end new after (Err x) n a f = alike_refuses (tagged 6 (thrifty oids)) (thrifty (tagged 6 oids)) (alike_tagged 6 oids) old new x (λ u. u) (tagged_refuses 6 (thrifty oids) (thrifty_lawful oids oid_lawful) old inner end new after x n a f)

pub returns-clause-ok : goal.returns-clause-ok
returns-clause-ok g c = gone_past c.args.reader.now c.enter.new.self c.lent_content-outcome.new.reader c.leave.new.self c.in_ok-after.after.now c.lent_content-outcome.result c.requires c.in_ok-after.ensures.enters c.lent_content-outcome.ensures.ok c.lent_content-outcome.ensures.end c.leave.ensures

pub returns-clause-err : goal.returns-clause-err
returns-clause-err g c = refused c.args.reader.now c.enter.new.self c.lent_content-outcome.new.reader c.leave.new.self c.in_ok-after.after.now c.lent_content-outcome.result c.in_ok-after.ensures.enters c.lent_content-outcome.ensures.err c.leave.ensures
