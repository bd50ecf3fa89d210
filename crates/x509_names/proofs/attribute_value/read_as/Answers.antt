use Rattle.std.proofs.Common.{refl}
use Rattle.std.proofs.lemmas.Result.{err_from_is_err_and}
use Rattle.x509_der.specs.RawElement.{raws}
use Rattle.x509_der.specs.laws.Variant.{variant_accepts, variant_refuses}
use Rattle.x509_names_parts.specs.DirectoryStrings.{directory_string}
use Rattle.x509_names.specs.Attributes.{text_value, email, value_bytes, IsValue}
use Rattle.x509_names.specs.declared.attribute_value.AttributeTypeAndValueParameters.TheVariants as value
use Rattle.x509_names.proofs.attribute_value.read_as.Goals as goal

pub returns-in_ok-text-in-Text : goal.returns-in_ok-text-in-Text
returns-in_ok-text-in-Text g c = rw c.in-Text.is (variant_accepts (text_value c.in-Text.attr) value_bytes IsValue directory_string c.args.reader.now c.read.new.reader c.in_ok-text-in-Text.text _ c.text_value.ensures c.in_ok-text-in-Text.ensures)

pub returns-in_err-text-in-Text : goal.returns-in_err-text-in-Text
returns-in_err-text-in-Text g c =
    let p = err_from_is_err_and c.from_residual.result c.from_residual.ensures.1 in
    rw (p.1, p.2, c.in-Text.is) (variant_refuses (text_value c.in-Text.attr) value_bytes IsValue directory_string c.args.reader.now c.read.new.reader _ c.in_err-text-in-Text.ensures)

pub returns-in_ok-address-in-Email : goal.returns-in_ok-address-in-Email
returns-in_ok-address-in-Email g c = rw c.in-Email.is (variant_accepts value.EmailAddress value_bytes IsValue email c.args.reader.now c.read-in-Email.new.reader c.in_ok-address-in-Email.address _ refl c.in_ok-address-in-Email.ensures)

pub returns-in_err-address-in-Email : goal.returns-in_err-address-in-Email
returns-in_err-address-in-Email g c =
    let p = err_from_is_err_and c.from_residual-in_err-address-in-Email.result c.from_residual-in_err-address-in-Email.ensures.1 in
    rw (p.1, p.2, c.in-Email.is) (variant_refuses value.EmailAddress value_bytes IsValue email c.args.reader.now c.read-in-Email.new.reader _ c.in_err-address-in-Email.ensures)

pub returns-in_ok-element-in-Other : goal.returns-in_ok-element-in-Other
returns-in_ok-element-in-Other g c = rw c.in-Other.is (variant_accepts value.Custom value_bytes IsValue raws c.args.reader.now c.read-in-Other.new.reader c.in_ok-element-in-Other.element _ refl c.in_ok-element-in-Other.ensures)

pub returns-in_err-element-in-Other : goal.returns-in_err-element-in-Other
returns-in_err-element-in-Other g c =
    let p = err_from_is_err_and c.from_residual-in_err-element-in-Other.result c.from_residual-in_err-element-in-Other.ensures.1 in
    rw (p.1, p.2, c.in-Other.is) (variant_refuses value.Custom value_bytes IsValue raws c.args.reader.now c.read-in-Other.new.reader _ c.in_err-element-in-Other.ensures)
