use Rattle.std.proofs.Common.{refl}
use Rattle.x509_der.specs.RawElement.{raws}
use Rattle.x509_der.specs.reads.Passing.{variant_passed}
use Rattle.x509_names_parts.specs.DirectoryStrings.{directory_string}
use Rattle.x509_names.specs.Attributes.{text_value, email, value_bytes, IsValue}
use Rattle.x509_names.specs.declared.attribute_value.AttributeTypeAndValueParameters.TheVariants as value
use Rattle.x509_names.proofs.attribute_value.pass_as.Goals as goal

pub returns-in-Text : goal.returns-in-Text
returns-in-Text g c = rw c.in-Text.is (variant_passed (text_value c.in-Text._attr) value_bytes IsValue directory_string (λ v. tt) (λ v. tt) c.args.reader.now c.pass.new.reader c.pass.result (λ u. refl) c.pass.ensures)

pub returns-in-Email : goal.returns-in-Email
returns-in-Email g c = rw c.in-Email.is (variant_passed value.EmailAddress value_bytes IsValue email (λ v. tt) (λ v. tt) c.args.reader.now c.pass-in-Email.new.reader c.pass-in-Email.result (λ u. refl) c.pass-in-Email.ensures)

pub returns-in-Other : goal.returns-in-Other
returns-in-Other g c = rw c.in-Other.is (variant_passed value.Custom value_bytes IsValue raws (λ v. tt) (λ v. tt) c.args.reader.now c.pass-in-Other.new.reader c.pass-in-Other.result (λ u. refl) c.pass-in-Other.ensures)
