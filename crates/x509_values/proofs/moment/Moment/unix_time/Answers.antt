use Rattle.std.proofs.Common.{◌≡◌, refl, arith, w64, FitsSigned, pos, ◌-ℤ◌, to_z}
use Rattle.std.proofs.lemmas.Int.{ints, to_z_pos, to_z-of_z}
use Rattle.x509_values.proofs.moment.Moment.unix_time.Goals as goal

pub overflow_cast-result : goal.overflow_cast-result
overflow_cast-result c = omega (arith, ints, c.seconds.ensures.fits)

pub overflow_sub-result : goal.overflow_sub-result
overflow_sub-result c =
    let e : to_z w64 c.seconds.result ≡ pos c.seconds.result = to_z_pos w64 c.seconds.result (omega (arith, c.seconds.ensures.fits)) in
    rw e (omega (arith, ints, c.seconds.ensures.fits))

pub returns : goal.returns
returns c =
    let e : to_z w64 c.seconds.result ≡ pos c.seconds.result = to_z_pos w64 c.seconds.result (omega (arith, c.seconds.ensures.fits)) in
    let f : FitsSigned w64 (pos c.seconds.result -ℤ pos 62167219200) = omega (arith, ints, c.seconds.ensures.fits) in
    rw (e, to_z-of_z w64 (pos c.seconds.result -ℤ pos 62167219200) f, c.seconds.ensures.seconds) refl
