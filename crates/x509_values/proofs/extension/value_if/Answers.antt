use Rattle.std.proofs.Common.{◌+◌, sym, ◌∙◌, true≢false}
use Rattle.x509_der.specs.Element.{header}
use Rattle.x509_values.proofs.TellingExtensions.{behind_key, plain_value, flagged_value}
use Rattle.x509_values.proofs.extension.value_if.Goals as goal

pub returns : goal.returns
returns g c = λ v n t slice string whole h bytes place has.
    let a = c.extension_fields.ensures v slice h.field.tally h.field.spelled in
    let k = behind_key v n t slice h.field.tally a c.args.fields c.take-own.new.self c.take-own.result bytes place c.take-own.ensures in
    true≢false (sym (c.is_same.ensures.1 (c.bytes.ensures ∙ k.own ∙ has)) ∙ c.if-is_same.false)

pub returns-then-next-ne-BOOLEAN_TAG : goal.returns-then-next-ne-BOOLEAN_TAG
returns-then-next-ne-BOOLEAN_TAG g c = λ v n t slice string whole h bytes place.
    let a = c.extension_fields.ensures v slice h.field.tally h.field.spelled in
    let k = behind_key v n t slice h.field.tally a c.args.fields c.take-own.new.self c.take-own.result bytes place c.take-own.ensures in (
      sym k.own ∙ sym c.bytes.ensures ∙ c.is_same.ensures.0 c.if-is_same.true,
      record {
        here = h.field;
        fields = a;
        value = plain_value a.spelled _ slice h.field.tally a.ids a.flags a.keys a.values a.octets (n + header a.content) c.take-own.new.self c.take-next.new.self c.take-next.result _ a.critical_at a.key_fields a.value_bytes k.rest k.at c.take-next.ensures c.if-next-ne-BOOLEAN_TAG.true c.span.ensures;
      },
    )

pub returns-then-is_same : goal.returns-then-is_same
returns-then-is_same g c = λ v n t slice string whole h bytes place.
    let a = c.extension_fields.ensures v slice h.field.tally h.field.spelled in
    let k = behind_key v n t slice h.field.tally a c.args.fields c.take-own.new.self c.take-own.result bytes place c.take-own.ensures in (
      sym k.own ∙ sym c.bytes.ensures ∙ c.is_same.ensures.0 c.if-is_same.true,
      record {
        here = h.field;
        fields = a;
        value = flagged_value a.spelled _ slice h.field.tally a.ids a.flags a.keys a.values a.octets (n + header a.content) c.take-own.new.self c.take-next.new.self c.take-value.new.self c.take-next.result c.take-value.result _ a.critical_at a.key_fields a.value_bytes k.rest k.at c.take-next.ensures c.take-value.ensures c.if-next-ne-BOOLEAN_TAG.false c.span-then-is_same.ensures;
      },
    )
