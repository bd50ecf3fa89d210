use Rattle.std.proofs.Common.{◌≡◌, [], sym, ◌∙◌, Some, None, refl}
use Rattle.std.proofs.lemmas.Result.{err_from_is_err_and}
use Rattle.x509_der.specs.Reading.{thrifty}
use Rattle.x509_der.specs.View.{viewed}
use Rattle.x509_der.specs.reads.Cursor.{booked_none}
use Rattle.x509_der.specs.reads.Passing.{thrifty_lawful, alike_viewed, alike_accepts, alike_refuses}
use Rattle.x509_der.specs.reads.View.{Few, viewed_accepts, viewed_refuses, viewed_meaningless}
use Rattle.x509_keys_parts.specs.HashAlgorithms.{hash_of, hash_name_base, hash_name_meaning}
use Rattle.x509_keys_parts.specs.facts.HashAlgorithmFacts.{hash_name_keeps}
use Rattle.x509_keys_parts.proofs.hash_algorithm.HashNameField.pass.Goals as goal

pub returns-in_err-identifier : goal.returns-in_err-identifier
returns-in_err-identifier g c =
    let m = hash_name_meaning in
    let s = thrifty hash_name_base in
    let h : Few m.of s = hash_name_keeps.1.few in
    let p = err_from_is_err_and c.from_residual.result c.from_residual.ensures.1 in
    rw (p.1, p.2) (alike_refuses (viewed m.of m.back m.valid m.readable s) (thrifty (viewed m.of m.back m.valid m.readable hash_name_base)) (alike_viewed m.of m.back m.valid m.readable hash_name_base) c.args.reader.now c.pass_oid.new.reader _ (λ u. u) (viewed_refuses m.of m.back m.valid m.readable s (thrifty_lawful hash_name_base hash_name_keeps.0) h c.args.reader.now c.pass_oid.new.reader _ c.in_err-identifier.ensures.err))

pub returns-in-Some : goal.returns-in-Some
returns-in-Some g c =
    let m = hash_name_meaning in
    let s = thrifty hash_name_base in
    let h : Few m.of s = hash_name_keeps.1.few in
    let o : hash_of c.in_ok-identifier.identifier ≡ Some c.in-Some._hash = sym c.known.ensures ∙ c.in-Some.is in
    let e : m.of c.in_ok-identifier.identifier ≡ Some (c.in-Some._hash, []) = rw o refl in
    record {
      value = c.in-Some._hash;
      accepts = alike_accepts (viewed m.of m.back m.valid m.readable s) (thrifty (viewed m.of m.back m.valid m.readable hash_name_base)) (alike_viewed m.of m.back m.valid m.readable hash_name_base) c.args.reader.now c.pass_oid.new.reader c.in-Some._hash (viewed_accepts m.of m.back m.valid m.readable s (thrifty_lawful hash_name_base hash_name_keeps.0) h c.args.reader.now c.pass_oid.new.reader c.pass_oid.new.reader c.in_ok-identifier.identifier c.in-Some._hash [] c.requires.ready c.in_ok-identifier.ensures.ok e (booked_none c.args.reader.now c.pass_oid.new.reader));
      kept = refl;
    }

pub returns-in-None : goal.returns-in-None
returns-in-None g c =
    let m = hash_name_meaning in
    let s = thrifty hash_name_base in
    let h : Few m.of s = hash_name_keeps.1.few in
    let o : hash_of c.in_ok-identifier.identifier ≡ None = sym c.known.ensures ∙ c.in-None.is in
    let e : m.of c.in_ok-identifier.identifier ≡ None = rw o refl in
    alike_refuses (viewed m.of m.back m.valid m.readable s) (thrifty (viewed m.of m.back m.valid m.readable hash_name_base)) (alike_viewed m.of m.back m.valid m.readable hash_name_base) c.args.reader.now c.go_back.new.self _ (λ u. u) (viewed_meaningless m.of m.back m.valid m.readable s (thrifty_lawful hash_name_base hash_name_keeps.0) h c.args.reader.now c.pass_oid.new.reader c.go_back.new.self c.spot-spot.result c.in_ok-identifier.identifier _ (λ q. cc) c.in_ok-identifier.ensures.ok e c.spot-spot.ensures c.go_back.ensures)
