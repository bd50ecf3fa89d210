use Rattle.std.proofs.Common.{Option, Some, None, IfNone, sym, ◌∙◌, arith}
use Rattle.x509_prim_parts.specs.Times.{from_day, from_hour, from_minute, from_second}
use Rattle.x509_prim_parts.specs.facts.Times.{same_digits}
use Rattle.x509_prim_parts.proofs.calendar.DateTime.in_year.Goals as goal

none_holds : {T P : Type 0} (o : Option T) → P → IfNone o P
none_holds None p = p
none_holds (Some x) p = tt

pub returns-in_err-hour-clause-none : goal.returns-in_err-hour-clause-none
returns-in_err-hour-clause-none c = none_holds c.from_residual-in_err-hour.result (λ t m y e.
    let s1 = same_digits c.in_ok-month.month t.month c.in_ok-month.text.now (from_day t) (sym c.in_ok-month.ensures.some.1 ∙ e) in
    let s2 = same_digits c.in_ok-day.day t.day c.in_ok-day.text.now (from_hour t) (sym c.in_ok-day.ensures.some.1 ∙ s1.rest) in
    c.in_err-hour.ensures.none t.hour (from_minute t) (omega (arith, m.in_day)) s2.rest)

pub returns-in_err-minute-clause-none : goal.returns-in_err-minute-clause-none
returns-in_err-minute-clause-none c = none_holds c.from_residual-in_err-minute.result (λ t m y e.
    let s1 = same_digits c.in_ok-month.month t.month c.in_ok-month.text.now (from_day t) (sym c.in_ok-month.ensures.some.1 ∙ e) in
    let s2 = same_digits c.in_ok-day.day t.day c.in_ok-day.text.now (from_hour t) (sym c.in_ok-day.ensures.some.1 ∙ s1.rest) in
    let s3 = same_digits c.in_ok-hour.hour t.hour c.in_ok-hour.text.now (from_minute t) (sym c.in_ok-hour.ensures.some.1 ∙ s2.rest) in
    c.in_err-minute.ensures.none t.minute (from_second t) (omega (arith, m.in_hour)) s3.rest)

pub returns-in_err-second-clause-none : goal.returns-in_err-second-clause-none
returns-in_err-second-clause-none c = none_holds c.from_residual-in_err-second.result (λ t m y e.
    let s1 = same_digits c.in_ok-month.month t.month c.in_ok-month.text.now (from_day t) (sym c.in_ok-month.ensures.some.1 ∙ e) in
    let s2 = same_digits c.in_ok-day.day t.day c.in_ok-day.text.now (from_hour t) (sym c.in_ok-day.ensures.some.1 ∙ s1.rest) in
    let s3 = same_digits c.in_ok-hour.hour t.hour c.in_ok-hour.text.now (from_minute t) (sym c.in_ok-hour.ensures.some.1 ∙ s2.rest) in
    let s4 = same_digits c.in_ok-minute.minute t.minute c.in_ok-minute.text.now (from_second t) (sym c.in_ok-minute.ensures.some.1 ∙ s3.rest) in
    c.in_err-second.ensures.none t.second _ (omega (arith, m.in_minute)) s4.rest)
